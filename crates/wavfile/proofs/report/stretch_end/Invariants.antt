-- `wavfile::report::stretch_end` meets its contract. The loop's invariant: the stretch from here on ends where the whole one does. Assumes
-- nothing.
use Prim.Native.Nat.{◌+◌, ◌-◌}
use mathlib.Core.Path.{◌≡◌}
use lib.ListN.{length}
use Rattle.recording.specs.Runs.{run_length}
use Rattle.wavfile.specs.Stretches.{alike_at}
use Rattle.wavfile.proofs.report.stretch_end.Given as goal

abbrev pub invariant-loop-end : goal.invariant-loop-end
invariant-loop-end l = let test = alike_at l.marks l.orders l.start in
    let n = length l.marks in
    l.end + run_length test l.end (n - l.end) ≡ l.start + 1 + run_length test (l.start + 1) (n - (l.start + 1))
