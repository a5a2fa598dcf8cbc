-- `dequant::lattice::name_inner` meets its contract. The loop's invariant: storing the flags that are left gives the whole. Assumes nothing.
use Rattle.redraw.specs.Inner.{Room}
use Rattle.dequant.proofs.lattice.Laws.{named_more, named_all, named_holds}
use Rattle.dequant.proofs.lattice.name_inner.Goals as goal

pub loop-i-preserved : goal.loop-i-preserved
loop-i-preserved c =
    named_more _ _ _ _ _ c.loop-i.invariant _ c.loop-i-test.true c.inner_word.ensures

pub returns : goal.returns
returns c =
    let room : Room c.args.n c.args.work.now = c.requires.0 in
    named_holds _ _ _ _ room (named_all _ _ _ _ _ c.loop-i.invariant c.loop-i-test.false)
