-- `declip::cubic_fill` meets its contract. The loop's invariant: filling the places that are left gives the whole fill, and
-- beyond the 2n words nothing has changed. Assumes nothing.
use Prim.Native.Nat.{◌-◌}
use mathlib.Core.Path.{◌≡◌}
use Rattle.redraw.specs.Inner.{drawn_in, rest_of}
use Rattle.declip.specs.Declip.{cubic_from, cubic_fill}
use Rattle.declip.proofs.cubic_fill.Given as goal

abbrev pub invariant-loop-i : goal.invariant-loop-i
invariant-loop-i l = (rest_of l.n l.work ≡ rest_of l.n l.initial.work)
    × (cubic_from l.y0 l.y1 l.a l.z l.i (l.z - l.i) (drawn_in l.n l.work) ≡ cubic_fill l.a l.z (drawn_in l.n l.initial.work))
