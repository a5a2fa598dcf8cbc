-- `dequant::cosparse::sparse_pass` meets its contract. The loop's invariant: the places that are left give the whole
-- iteration, and what stands behind the words stays. Assumes nothing.
use Rattle.dequant.proofs.cosparse.Laws.{sparse_more, behind_more, sparse_all}
use Rattle.dequant.proofs.cosparse.sparse_pass.Goals as goal

pub loop-i-preserved : goal.loop-i-preserved
loop-i-preserved c =
    let inv = c.loop-i.invariant in
    let more = sparse_more _ _ _ _ _ _ _ _ c.loop-i-test.true inv.0 c.sparse_word.ensures inv.1 in
    (behind_more _ _ _ _ _ c.loop-i-test.true inv.0, more)

pub returns : goal.returns
returns c = let inv = c.loop-i.invariant in (sparse_all _ _ _ _ _ _ _ c.loop-i-test.false inv.1, inv.0)
