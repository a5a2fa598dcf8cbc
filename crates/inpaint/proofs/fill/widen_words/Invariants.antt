-- `inpaint::fill::widen_words` meets its contract. The loop's invariant: storing the floats of what is left gives the
-- whole. Assumes nothing.
use Rattle.std.proofs.Common.{◌≡◌, map, drop}
use lib.Seq.{sets}
use Rattle.leaves.specs.Arithmetic.{float}
use Rattle.inpaint.proofs.fill.widen_words.Given as goal

abbrev pub invariant-loop-i : goal.invariant-loop-i
invariant-loop-i l = sets l.work l.i (map float (drop l.i l.words)) ≡ sets l.initial.work 0 (map float l.words)
