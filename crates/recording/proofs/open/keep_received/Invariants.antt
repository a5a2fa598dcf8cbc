-- `recording::open::keep_received` meets its contract. The loop's invariant: the marks passed, with what becomes of the others, are the
-- whole. Assumes nothing.
use mathlib.Core.Path.{◌≡◌}
use mathlib.Core.List.{◌++◌, map}
use lib.ListN.{take, drop}
use Rattle.recording.specs.Recording.{kept_mark}
use Rattle.recording.proofs.open.keep_received.Given as goal

abbrev pub invariant-loop-mark : goal.invariant-loop-mark
invariant-loop-mark l = take l.mark-index l.marks ++ map kept_mark (drop l.mark-index l.marks) ≡ map kept_mark l.initial.marks
