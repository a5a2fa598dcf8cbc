-- `same_bytes` meets its contract. The loop's invariant: what is the same from here on ends where all of it does. Assumes nothing.
use Prim.Native.Nat.{◌+◌, ◌-◌}
use mathlib.Core.Path.{◌≡◌}
use lib.ListN.{length}
use Rattle.recording.specs.Runs.{run_length}
use Rattle.wavcheck.specs.Same.{same_at}
use Rattle.wavcheck.proofs.same_bytes.Given as goal

abbrev pub invariant-loop-i : goal.invariant-loop-i
invariant-loop-i l = let test = same_at l.a l.b in
    let n = length l.a in
    l.i + run_length test l.i (n - l.i) ≡ 0 + run_length test 0 (n - 0)
