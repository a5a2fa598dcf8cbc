-- `dequant::cosparse::sparse_passes` meets its contract. The loop's invariant: the iterations that are left give the whole,
-- and beyond the snapshot nothing changes. Assumes nothing.
use Prim.Native.Nat.{◌-◌}
use mathlib.Core.Path.{◌≡◌}
use Rattle.redraw.specs.Inner.{words_in, rest_of}
use Rattle.dequant.specs.Dequant.{sparse_passes}
use Rattle.dequant.proofs.cosparse.sparse_passes.Given as goal

abbrev pub invariant-loop-k : goal.invariant-loop-k
invariant-loop-k l = (rest_of l.n l.work ≡ rest_of l.n l.initial.work)
    × (sparse_passes l.step l.strength (l.iterations - l._k) (words_in l.n l.work) ≡ sparse_passes l.step l.strength l.iterations (words_in l.n l.initial.work))
