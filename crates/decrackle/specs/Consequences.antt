-- What follows from the rules of decrackle, each proved in proofs/. Statements only.
use Rattle.std.specs.Prelude.{ℕ, ◌+◌, ◌≡◌, false, List, ◌⊎◌, length, get_or, Float}
use Rattle.recording.specs.History.{LawfulRepair}
use Rattle.decrackle.specs.declared.Start.{Start}
use Rattle.decrackle.specs.Decrackle.{flags_of, decrackle_plan}

-- "The ends are never flagged", so that a flagged run has a sample on either side and `repair_hermite`'s edge branch, for a run
-- that touches an end, can't be reached; from either start
abbrev pub EndsNeverFlagged : Type 0
EndsNeverFlagged =
    (start : Start) (sensitivity : Float) (samples : List ℕ) (i : ℕ) → (i ≡ 0) ⊎ (i + 1 ≡ length samples)
    → get_or (flags_of start sensitivity samples) i false ≡ false

-- demand 3 covers the repair
abbrev pub DecrackleIsLawful : Type 0
DecrackleIsLawful = (start : Start) (sensitivity : Float) (room : ℕ) → LawfulRepair (decrackle_plan start sensitivity room)
