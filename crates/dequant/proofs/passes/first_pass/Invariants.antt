-- `dequant::passes::first_pass` meets its contract. The loop's invariant: what is left of the pass gives the whole, and behind the words
-- all stays. Assumes nothing.
use Prim.Native.Nat.{◌-◌}
use mathlib.Core.Path.{◌≡◌}
use lib.ListN.{drop}
use Rattle.redraw.specs.Inner.{words_in}
use Rattle.dequant.specs.Dequant.{first_pass}
use Rattle.dequant.proofs.passes.first_pass.Given as goal

abbrev pub invariant-loop-i : goal.invariant-loop-i
invariant-loop-i l =
    (first_pass l.step l.strength l.i (l.n - 1 - l.i) (words_in l.n l.work) ≡ first_pass l.step l.strength 1 (l.n - 2) (words_in l.n l.initial.work))
    × (drop l.n l.work ≡ drop l.n l.initial.work)
