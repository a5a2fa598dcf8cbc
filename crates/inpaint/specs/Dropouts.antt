-- What a dropout run is, in plain words: the samples that it is made of, and what stands on either side of it. Definitions, and then a
-- statement, which is proved as `runs_in_words` of proofs/Dropouts.antt, which nobody has to read.
use Rattle.std.specs.Prelude.{◌≡◌, ℕ, ◌+◌, ◌-◌, ◌<◌, ◌≤◌, true, false, ◌⊎◌, List, length, ◌≢◌, slice_index, slice_index_or}
use Rattle.recording.specs.Consequences.{Among}
use Rattle.inpaint.specs.Auto.{zero_or_nan, holdable}
use Rattle.inpaint.specs.Runs.{Stretch, runs_of}

-- "a longest run of samples equal to zero (either sign) or NaN", of "at least 2": all of it is the gap, of `len` samples from place
-- `start` on
pub record Lost (samples : List ℕ) (start len : ℕ) : Type 0 where
  pub all : (k : ℕ) → k < len → zero_or_nan (slice_index samples (start + k)) ≡ true
  pub before : zero_or_nan (slice_index samples (start - 1)) ≡ false
  pub behind : zero_or_nan (slice_index samples (start + len)) ≡ false
  pub least : 2 ≤ len

-- "a longest run of 16 or more equal words, in range and not zero", where `held` stands for the 16 ("P1's number becomes this setting",
-- request P11): "its first sample is measured and the rest are the gap", of `len` samples from place `start` on. Where the run begins
-- with the recording, nothing stands before it.
pub record Held (samples : List ℕ) (held start len : ℕ) : Type 0 where
  pub word : holdable (slice_index samples start) ≡ true
  pub equal : (k : ℕ) → k < 1 + len → slice_index samples (start - 1 + k) ≡ slice_index samples start
  pub before : 1 < start → slice_index samples (start - 2) ≢ slice_index samples start
  pub behind : slice_index_or samples (start + len) 0 ≡ slice_index samples start → ⊥
  pub least : held ≤ 1 + len

-- of either kind, "under the same length limit; the gap must touch neither end"
pub record Dropout (samples : List ℕ) (most held start len : ℕ) : Type 0 where
  pub short : len ≤ most
  pub later : 0 < start
  pub inside : start + len < length samples
  pub kind : Lost samples start len ⊎ Held samples held start len

-- the runs that a scan takes are these, and no others, at every setting from 2 on: one word that nothing repeats is no run of which the rest
-- could be a gap
abbrev pub RunsInWords : Type 0
RunsInWords =
    (samples : List ℕ) (most held : ℕ) (r : Stretch) → 2 ≤ held
    → (Among r (runs_of samples most held) → Dropout samples most held r.start r.len)
    × (Dropout samples most held r.start r.len → Among r (runs_of samples most held))
