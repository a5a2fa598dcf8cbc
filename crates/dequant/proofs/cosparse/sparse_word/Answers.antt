-- `dequant::cosparse::sparse_word` meets its contract: the operations are those of the rule. Assumes nothing.
use Rattle.dequant.proofs.cosparse.Laws.{sparse_is}
use Rattle.dequant.proofs.cosparse.sparse_word.Goals as goal

pub returns : goal.returns
returns c =
    let pre = c.requires in
    sparse_is _ _ _ pre.1 pre.2 _ _ _ _ _ _ _ _ _ _ _ c.f32_of_word-b.ensures c.f32_of_word-x.ensures
    c.f32_of_word-c.ensures c.f32_of_word.ensures c.f32_of_word-2.ensures c.candidate_of-pred.ensures
    c.target_of-goal.ensures c.local_strength.ensures c.word_of_f32.ensures
