-- `inpaint::fill::model_fill` meets its contract. The loop's invariant: storing the words of what is left gives the
-- whole. Assumes nothing.
use Rattle.std.proofs.Common.{◌≡◌, map, drop}
use lib.Seq.{sets}
use Rattle.inpaint.specs.Gap.{narrow_word}
use Rattle.inpaint.proofs.fill.model_fill.Given as goal

abbrev pub invariant-loop-i : goal.invariant-loop-i
invariant-loop-i l = sets l.gap l.i (map narrow_word (drop l.i l.results)) ≡ map narrow_word l.results
