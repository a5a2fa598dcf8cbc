-- `dequant::passes::first_word` meets its contract: the operations are those of the rule. Assumes nothing.
use Rattle.dequant.proofs.passes.Laws.{first_is}
use Rattle.dequant.proofs.passes.first_word.Goals as goal

pub returns : goal.returns
returns c =
    first_is _ _ _ _ _ _ _ _ _ c.f32_of_word-x.ensures c.f32_of_word.ensures c.f32_of_word-2.ensures
    c.target_of.ensures c.word_of_f32.ensures
