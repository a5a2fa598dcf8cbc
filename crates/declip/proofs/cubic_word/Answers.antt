-- `declip::cubic_word` meets its contract: the operations are those of the rule. Assumes nothing.
use Rattle.declip.proofs.Laws.{curve_word}
use Rattle.declip.proofs.cubic_word.Goals as goal

pub returns : goal.returns
returns c =
    curve_word _ _ _ _ _ _ _ _ c.count_as_f32.ensures c.count_as_f32-2.ensures
    c.word_of_f32.ensures
