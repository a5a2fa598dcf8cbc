-- `recording::read::check_words` meets its contract. The loop's invariant: the test of what is left gives the answer of
-- the whole. Assumes nothing.
use Prim.Native.Nat.{◌+◌}
use mathlib.Core.Path.{◌≡◌}
use lib.ListN.{drop}
use Rattle.recording.specs.Recording.{readable}
use Rattle.recording.proofs.read.check_words.Given as goal

abbrev pub invariant-loop-i : goal.invariant-loop-i
invariant-loop-i l = readable (l.first + l.i) (drop l.i l.words) ≡ readable l.first l.words
