-- `dequant::cosparse::sparse_passes` meets its contract. The loop's invariant: the iterations that are left give the whole,
-- and beyond the snapshot nothing changes. Assumes nothing.
use Rattle.redraw.proofs.Workspace.{room_stays}
use Rattle.dequant.proofs.cosparse.Laws.{passes_more, passes_keep, passes_all}
use Rattle.dequant.proofs.cosparse.sparse_passes.Goals as goal

pub snapshot-requires : goal.snapshot-requires
snapshot-requires c = room_stays _ _ _ c.requires.0 c.loop-k.auto.work

pub sparse_pass-requires : goal.sparse_pass-requires
sparse_pass-requires c =
    let room = room_stays _ _ _ c.requires.0 c.loop-k.auto.work in
    (room_stays _ _ _ room c.snapshot.auto.work, c.requires.1)

pub loop-k-preserved : goal.loop-k-preserved
loop-k-preserved c =
    let room = room_stays _ _ _ c.requires.0 c.loop-k.auto.work in
    let inv = c.loop-k.invariant in
    let done = c.sparse_pass.ensures in (
      passes_keep _ _ _ _ room c.snapshot.ensures _ done.1 inv.0,
      passes_more _ _ _ _ room c.snapshot.ensures _ _ _ _ _ c.loop-k-test.true done.0 inv.1,
    )

pub returns : goal.returns
returns c = let inv = c.loop-k.invariant in (passes_all _ _ _ _ _ _ c.loop-k-test.false inv.1, inv.0)
