-- `dequant::passes::second_word` meets its contract: the operations are those of the rule. Assumes nothing.
use Rattle.dequant.proofs.passes.Laws.{second_is}
use Rattle.dequant.proofs.passes.second_word.Goals as goal

pub returns : goal.returns
returns c =
    second_is _ _ _ _ _ c.requires.1 c.requires.2 _ _ _ _ _ _ _ _ c.f32_of_word.ensures c.f32_of_word-2.ensures
    c.f32_of_word-3.ensures c.f32_of_word-4.ensures c.f32_of_word-5.ensures c.target_of-goal.ensures
    c.f32_of_word-x.ensures c.word_of_f32.ensures
