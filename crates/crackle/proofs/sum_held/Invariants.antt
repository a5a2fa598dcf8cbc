-- `crackle::sum_held` meets its contract. The loop's invariant: adding the magnitudes that are left gives the whole. Assumes nothing.
use Rattle.std.proofs.Common.{◌≡◌, take, drop}
use Rattle.decrackle.specs.Decrackle.{summed}
use Rattle.crackle.specs.Pieces.{magnitudes_in}
use Rattle.crackle.proofs.sum_held.Given as goal

abbrev pub invariant-loop-k : goal.invariant-loop-k
invariant-loop-k l = summed l.sum (magnitudes_in (drop l.k (take l.n l.held))) ≡ summed l.initial.sum (magnitudes_in (take l.n l.held))
