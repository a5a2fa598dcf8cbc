-- What follows from the rule of a proposal, and the reason why a method that nobody trusts can be let in. Proved in proofs/Consequences.antt
-- and, of `project_gamma`, in proofs/Gamma.antt, under the same names, written small. Statements only.
use Rattle.std.specs.Prelude.{ℕ, ◌-◌, ◌≤◌, ◌<◌, ◌≡◌, true, false, List, ◌⊎◌, length, get_or, Float}
use Rattle.std.specs.Float.{binary32}
use Rattle.std.specs.Float.Ieee.{fits, neg, le}
use Rattle.leaves.specs.Arithmetic.{float}
use Rattle.leaves.specs.Floats.{in_range}
use Rattle.recording.specs.Recording.{State, change, fitting, ranged, entry_size}
use Rattle.recording.specs.Marks.{declip_proposed}
use Rattle.recording.specs.History.{LawfulRepair}
use Rattle.std.specs.Prelude.{Ok}
use Rattle.declip.specs.Declip.{allowed, clipped}
use Rattle.proposed.specs.Proposed.{answers, taken, named, proposed_plan, proposed_repair}
use Rattle.proposed.specs.Gamma.{projected, Candidates, InRange}

-- demand 3 covers the repair, whatever is proposed
abbrev pub ProposedIsLawful : Type 0
ProposedIsLawful = (threshold : Float) (proposal : List ℕ) → LawfulRepair (proposed_plan threshold proposal)

-- ---- "It is accepted exactly when .."

-- the proposal is as long as the recording, and answers each of its samples
abbrev pub AnswersEach : Float → List ℕ → List ℕ → Type 0
AnswersEach threshold samples proposal =
    (length proposal ≡ length samples)
    × ((i : ℕ) → i < length samples → answers threshold (get_or samples i 0) (get_or proposal i 0) ≡ true)

-- exactly then refusal 15 is not given
abbrev pub TakenExactlyWhen : Type 0
TakenExactlyWhen =
    (threshold : Float) (samples proposal : List ℕ)
    → (taken threshold samples proposal ≡ Ok 0 → AnswersEach threshold samples proposal)
    × (AnswersEach threshold samples proposal → taken threshold samples proposal ≡ Ok 0)

-- "8 isn't given": where 15 is not, every named sample has a word in range
abbrev pub ResultsAreInRange : Type 0
ResultsAreInRange =
    (threshold : Float) (samples proposal : List ℕ) → taken threshold samples proposal ≡ Ok 0 → ranged (named threshold samples proposal) ≡ Ok 0

-- ---- After an accepted proposal

-- the recording's samples are the proposal, bit for bit
abbrev pub SamplesAreTheProposal : Type 0
SamplesAreTheProposal =
    (threshold : Float) (proposal : List ℕ) (s : State) (m : ℕ) → (proposed_repair threshold proposal s).answer ≡ Ok m
    → (proposed_repair threshold proposal s).after.samples ≡ proposal

-- both are at or above the threshold, or both at or below the negative threshold
abbrev pub SameSide : Float → Float → Float → Type 0
SameSide threshold x y =
    ((le threshold x ≡ true) × (le threshold y ≡ true)) ⊎ ((le x (neg threshold) ≡ true) × (le y (neg threshold) ≡ true))

-- of the sample at place i: under the threshold it has its bits, and the mark that it had; at or beyond it, it is in range, on the side that it
-- was on, and marked as proposed
pub record Stands (threshold : Float) (before after : State) (i : ℕ) : Type 0 where
  pub under : clipped threshold (get_or before.samples i 0) ≡ false
      → (get_or after.samples i 0 ≡ get_or before.samples i 0) × (get_or after.marks i 0 ≡ get_or before.marks i 0)
  pub beyond : clipped threshold (get_or before.samples i 0) ≡ true
      → (in_range (get_or after.samples i 0) ≡ true)
      × SameSide threshold (float (get_or before.samples i 0)) (float (get_or after.samples i 0))
      × (get_or after.marks i 0 ≡ declip_proposed)

-- so it is of every sample, whatever method made the proposal
abbrev pub EachSampleStands : Type 0
EachSampleStands =
    (threshold : Float) (proposal : List ℕ) (s : State) (m : ℕ) → (proposed_repair threshold proposal s).answer ≡ Ok m
    → (i : ℕ) → i < length s.samples → Stands threshold s (proposed_repair threshold proposal s).after i

-- ---- "Whatever `project_gamma` makes of in-range or NaN candidates from an in-range recording is accepted."

-- for a threshold that is an f32 and allowed: neither 4, 7 nor 15 is given
abbrev pub ProjectedIsTaken : Type 0
ProjectedIsTaken =
    (threshold : Float) (candidates samples : List ℕ) → fits binary32 threshold ≡ true → allowed threshold ≡ true → InRange samples
    → Candidates candidates
    → length candidates ≡ length samples
    → let proposal = projected threshold candidates samples in
    proposed_plan threshold proposal samples ≡ change declip_proposed (named threshold samples proposal)

-- so the call is accepted, where the recording fits and the journal has room for what is named
abbrev pub ProjectedIsAccepted : Type 0
ProjectedIsAccepted =
    (threshold : Float) (candidates : List ℕ) (s : State) → fits binary32 threshold ≡ true → allowed threshold ≡ true → InRange s.samples
    → Candidates candidates
    → length candidates ≡ length s.samples
    → fitting s ≡ Ok 0
    → let proposal = projected threshold candidates s.samples in
    let m = length (named threshold s.samples proposal) in
    (1 ≤ m → entry_size m ≤ length s.journal - s.used) → (proposed_repair threshold proposal s).answer ≡ Ok m
