-- `dequant::cosparse::sparse_pass` meets its contract. The loop's invariant: the places that are left give the whole
-- iteration, and what stands behind the words stays. Assumes nothing.
use Prim.Native.Nat.{◌-◌}
use mathlib.Core.Path.{◌≡◌}
use lib.ListN.{drop}
use Rattle.redraw.specs.Inner.{words_in, flags_in}
use Rattle.dequant.specs.Dequant.{sparse_pass}
use Rattle.dequant.proofs.cosparse.sparse_pass.Given as goal

abbrev pub invariant-loop-i : goal.invariant-loop-i
invariant-loop-i l = (drop l.n l.work ≡ drop l.n l.initial.work)
    × (sparse_pass l.step l.strength (flags_in l.n l.initial.work) l.i (l.n - 2 - l.i) (words_in l.n l.work)
    ≡ sparse_pass l.step l.strength (flags_in l.n l.initial.work) 2 (l.n - 4) (words_in l.n l.initial.work))
