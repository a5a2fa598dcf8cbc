-- `redraw::lay_out` meets its contract. The loop's invariant: storing the samples that are left gives the whole. Assumes nothing.
use Rattle.std.proofs.Common.{◌≡◌, drop}
use Rattle.std.proofs.lemmas.List.Edits.{sets}
use Rattle.redraw.proofs.lay_out.Given as goal

abbrev pub invariant-loop-i : goal.invariant-loop-i
invariant-loop-i l = sets l.work l.i (drop l.i l.samples) ≡ sets l.initial.work 0 l.samples
