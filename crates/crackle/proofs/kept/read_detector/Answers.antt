-- `crackle::kept::read_detector` meets its contract: each field is read from its word. Assumes nothing.
use Rattle.crackle.proofs.Keeping.{read_so}
use Rattle.crackle.proofs.kept.read_detector.Goals as goal

pub returns : goal.returns
returns c =
    read_so _ _ _ _ _ _ c.start_of.ensures c.f32_of_word.ensures c.f32_of_word-2.ensures c.f32_of_word-3.ensures
    c.f32_of_word-4.ensures
