-- `dequant::lattice::step_of` meets its contract: the bits are held to their span, and 1 shifted up is the power. Assumes nothing.
use Prim.Native.Nat.{min, max}
use mathlib.Core.Path.{◌≡◌}
use native.Mathlib.Omega.{arith}
use Rattle.dequant.proofs.lattice.Laws.{shift_counts, step_is}
use Rattle.dequant.proofs.lattice.step_of.Goals as goal

pub count_as_f32-requires : goal.count_as_f32-requires
count_as_f32-requires c =
    let held : c.clamp-kept.result ≡ min (max c.args.bits 4) 24 = omega (arith, c.clamp-kept.ensures) in
    shift_counts _ _ held

pub returns : goal.returns
returns c =
    let held : c.clamp-kept.result ≡ min (max c.args.bits 4) 24 = omega (arith, c.clamp-kept.ensures) in
    step_is _ _ held _ c.count_as_f32.ensures
