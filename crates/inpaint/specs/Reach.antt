-- How far the repair of a gap reaches: what it gives depends on the words of its window outside the gap and on nothing else, and it writes
-- nothing outside the gap. A definition, and then the statements, each proved under the same name, written small, in proofs/Reach.antt,
-- which nobody has to read.
use Rattle.std.specs.Prelude.{◌≡◌, ℕ, ◌+◌, ◌<◌, ◌≤◌, false, List, length, slice_index}
use Rattle.recording.specs.Recording.{State}
use Rattle.inpaint.specs.Gap.{gap_wrong, from, to, needed, gap_plan, gap_repair}
use Rattle.inpaint.specs.Order.{fill_order}

-- two recordings in which the window of a gap ends at the same place, and has the same word at each of its places outside the gap
pub record SameWindow (start len : ℕ) (samples others : List ℕ) : Type 0 where
  pub ends : to (length others) start len ≡ to (length samples) start len
  pub words : (i : ℕ) → from start len ≤ i → i < to (length samples) start len → (start ≤ i → i < start + len → ⊥)
      → slice_index others i ≡ slice_index samples i

-- there the repair refuses alike, or names the same samples, with the same words and the same mark
abbrev pub WindowDecides : Type 0
WindowDecides =
    (start len passes room : ℕ) (samples others : List ℕ) → SameWindow start len samples others
    → gap_plan start len passes room others ≡ gap_plan start len passes room samples

-- and the model that fills the gap has the same order
abbrev pub WindowDecidesOrder : Type 0
WindowDecidesOrder =
    (start len passes : ℕ) (samples others : List ℕ) → gap_wrong (length samples) start len ≡ false → SameWindow start len samples others
    → fill_order passes others start len ≡ fill_order passes samples start len

-- of the workspace only this has a say, that it fits
abbrev pub RoomThatFits : Type 0
RoomThatFits =
    (start len passes room other : ℕ) (samples : List ℕ) → needed (length samples) start len ≤ room
    → needed (length samples) start len ≤ other → gap_plan start len passes other samples ≡ gap_plan start len passes room samples

-- the call changes no word and no mark of a sample outside the gap
abbrev pub GapAlone : Type 0
GapAlone =
    (start len passes room : ℕ) (s : State) (i : ℕ) → (start ≤ i → i < start + len → ⊥)
    → let t = (gap_repair start len passes room s).after in
    (slice_index t.samples i ≡ slice_index s.samples i) × (slice_index t.marks i ≡ slice_index s.marks i)
