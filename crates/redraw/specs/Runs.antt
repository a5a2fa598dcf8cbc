-- A step for each run, left to right. Definitions only.
use Rattle.std.specs.Prelude.{ℕ, zero, suc, ◌+◌, ◌<◌, ◌≡◌, Bool}
use Rattle.std.specs.Prelude.{if◌then◌else◌}
use Rattle.recording.specs.Runs.{begins, run_length}

-- what a step makes of d when it is taken for each run that begins among the n places from i on, with the run's start and its end,
-- the first place behind it
unfoldable pub over_runs : {D : Type 0} → (ℕ → Bool) → (ℕ → ℕ → D → D) → ℕ → ℕ → D → D
unfolding begins run_length
over_runs test step i zero d = d
over_runs test step i (suc n) d =
    let end = i + run_length test i (suc n) in
    over_runs test step (i + 1) n (if begins test i then step i end d else d)

-- what calls may answer at a place is the test's answer there, at each of n places
abbrev pub Decides : (ℕ → Bool → Type 0) → ℕ → (ℕ → Bool) → Type 0
Decides answers n test = (k : ℕ) (b : Bool) → k < n → answers k b → b ≡ test k
