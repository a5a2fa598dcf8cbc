-- `crackle::kept::write_detector` meets its contract: each field is written in its word. Assumes nothing.
use Rattle.crackle.proofs.Keeping.{written_so}
use Rattle.crackle.proofs.kept.write_detector.Goals as goal

pub returns : goal.returns
returns c =
    written_so _ _ _ _ _ _ _ _ c.running_word.ensures c.word_of_f32.ensures c.word_of_f32-2.ensures
    c.word_of_f32-3.ensures c.word_of_f32-4.ensures c.start_word.ensures
