-- What the inner functions of this crate speak of: nothing that a promise of the two calls needs. Definitions only.
use Rattle.std.specs.Prelude.{ℕ, ◌+◌, ◌≤◌, List, length}
use Rattle.recording.specs.Recording.{most_samples}

-- a gap that refusal 5 does not turn away, in a recording that refusal 2 does not
pub record Within (samples : List ℕ) (start len : ℕ) : Type 0 where
  pub few : length samples ≤ most_samples
  pub some : 1 ≤ len
  pub inside : start + len ≤ length samples
