-- `recording::open::keep_received` meets its contract. Assumes nothing.
use native.Mathlib.Omega.{arith}
use mathlib.Core.Path.{refl}
use Rattle.leaves.proofs.Stores.{each_more, each_all}
use Rattle.recording.specs.Recording.{kept_mark}
use Rattle.recording.proofs.open.keep_received.Goals as goal

pub loop-mark-init : goal.loop-mark-init
loop-mark-init c = refl

pub loop-mark-preserved : goal.loop-mark-preserved
loop-mark-preserved c = each_more kept_mark _ _ _ 0 _ (omega arith) c.kept_mark.ensures c.loop-mark.invariant

pub returns : goal.returns
returns c = each_all kept_mark _ _ _ (omega arith) c.loop-mark.invariant
