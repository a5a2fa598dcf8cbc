-- `dequant::passes::second_pass` meets its contract. The loop's invariant: what is left of the pass over the snapshot gives the whole, and
-- behind the words all stays. Assumes nothing.
use Prim.Native.Nat.{◌-◌}
use mathlib.Core.Path.{◌≡◌}
use lib.ListN.{drop}
use Rattle.redraw.specs.Inner.{words_in, flags_in}
use Rattle.dequant.specs.Dequant.{second_pass}
use Rattle.dequant.proofs.passes.second_pass.Given as goal

abbrev pub invariant-loop-i : goal.invariant-loop-i
invariant-loop-i l =
    (second_pass l.step l.strength (flags_in l.n l.initial.work) l.i (l.n - 2 - l.i) (words_in l.n l.work)
    ≡ second_pass l.step l.strength (flags_in l.n l.initial.work) 2 (l.n - 4) (words_in l.n l.initial.work))
    × (drop l.n l.work ≡ drop l.n l.initial.work)
