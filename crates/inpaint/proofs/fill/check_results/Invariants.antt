-- `inpaint::fill::check_results` meets its contract. The loop's invariant: the test of what is left gives the answer of
-- the whole. Assumes nothing.
use Rattle.std.proofs.Common.{◌≡◌, ◌+◌, map, drop}
use Rattle.recording.specs.Recording.{ranged, span}
use Rattle.inpaint.specs.Gap.{narrow_word}
use Rattle.inpaint.proofs.fill.check_results.Given as goal

abbrev pub invariant-loop-i : goal.invariant-loop-i
invariant-loop-i l =
    ranged (span (l.start + l.i) (map narrow_word (drop l.i l.results))) ≡ ranged (span l.start (map narrow_word l.results))
