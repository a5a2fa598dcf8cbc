-- `dequant::lattice::name_inner` meets its contract. The loop's invariant: storing the flags that are left gives the whole. Assumes nothing.
use Prim.Native.Nat.{◌+◌, ◌-◌}
use mathlib.Core.Path.{◌≡◌}
use lib.Seq.{sets}
use Rattle.dequant.specs.Dequant.{inner_from, inner}
use Rattle.redraw.proofs.Flags.{flag_words}
use Rattle.dequant.proofs.lattice.name_inner.Given as goal

abbrev pub invariant-loop-i : goal.invariant-loop-i
invariant-loop-i l =
    sets l.work (l.n + l.i) (flag_words (inner_from l.edge l.n l.i (l.n - l.i))) ≡ sets l.initial.work l.n (flag_words (inner l.edge l.n))
