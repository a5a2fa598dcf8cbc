-- `decrackle::repair_hermite` meets its contract. The loop's invariant: storing the curve's samples that are left gives the whole,
-- and what stands behind the words is as it was. Assumes nothing.
use Prim.Native.Nat.{◌-◌}
use mathlib.Core.Path.{◌≡◌}
use lib.ListN.{drop}
use Rattle.redraw.specs.Inner.{words_in}
use Rattle.decrackle.specs.Decrackle.{hermite_from}
use Rattle.decrackle.proofs.repair_hermite.Given as goal

abbrev pub invariant-loop-k : goal.invariant-loop-k
invariant-loop-k l = (drop l.n l.work ≡ drop l.n l.initial.work)
    × (hermite_from l.p0 l.p1 l.m0 l.m1 l.span l.start l.k (l.end - l.start - l.k) (words_in l.n l.work)
    ≡ hermite_from l.p0 l.p1 l.m0 l.m1 l.span l.start 0 (l.end - l.start - 0) (words_in l.n l.initial.work))
