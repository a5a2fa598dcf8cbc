-- Runs: the longest stretches of places that meet a test, left to right. Definitions only.
use Rattle.std.specs.Prelude.{ℕ, zero, suc, ◌+◌, ◌-◌, Bool, not, ◌&&◌, ◌||◌, eqb}
use Rattle.std.specs.Prelude.{if◌then◌else◌}

-- a run begins at i: the place meets the test, and the one before it does not
unfoldable pub begins : (ℕ → Bool) → ℕ → Bool
begins test i = test i && (eqb i 0 || not (test (i - 1)))

-- how many places meet the test from i on, one behind the other, among n
unfoldable pub run_length : (ℕ → Bool) → ℕ → ℕ → ℕ
run_length test i zero = 0
run_length test i (suc n) = let more = run_length test (i + 1) n in if test i then suc more else 0
