-- What follows from the rules of cubic declip, each proved in proofs/. Statements only.
use Rattle.std.specs.Prelude.{ℕ, ◌+◌, ◌-◌, ◌≡◌, true, false, ltb, Float}
use Rattle.recording.specs.History.{LawfulRepair}
use Rattle.declip.specs.Declip.{from, to, declip_plan}

-- The original's `cubic_fill` gives up where z - a is below 4. It is only called where z>a+4, so that this never happens.
abbrev pub GuardNeverMet : Type 0
GuardNeverMet = (n s e : ℕ) → ltb (from s + 4) (to n e) ≡ true → ltb (to n e - from s) 4 ≡ false

-- demand 3 covers the repair
abbrev pub DeclipIsLawful : Type 0
DeclipIsLawful = (threshold : Float) (room : ℕ) → LawfulRepair (declip_plan threshold room)
