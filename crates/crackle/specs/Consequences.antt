-- What follows from the rules of the calls (Pieces.antt), for every detector, also one that no call made. Statements only, each proved
-- under the same name, written small, in proofs/Consequences.antt.
use Rattle.std.specs.Prelude.{ℕ, ◌≤◌, ◌≡◌, false, List, ◌⊎◌, length, drop}
use Rattle.recording.specs.Answers.{number}
use Rattle.recording.specs.declared.Reason.{Reason}
use Rattle.recording.specs.declared.Reason.TheVariants.{Workspace}
use Rattle.std.specs.Prelude.{Ok, Err}
use Rattle.decrackle.specs.declared.Start.TheVariants.{Old}
use Rattle.decrackle.specs.Decrackle.{mean_over}
use Rattle.crackle.specs.Pieces.{flags_due, Holding, flags_before, Told, piece_told, end_told}

-- the flags that a piece brings are as many as 6 asks room for
abbrev pub AsManyAsDue : Type 0
AsManyAsDue =
    (h : Holding) (piece : List ℕ) → mean_over ≤ length h.values
    → let d = h.detector in length (flags_before h piece) ≡ flags_due d.start d.taken (length piece)

-- Of a call that ends so, on this detector and with this room: "13 and 7 stop the run, 6 takes nothing in, and all leave the flag room
-- unwritten", and no refusal touches what is held back; and where it is accepted, both rooms are as long, and neither what lies behind
-- this call's flags is touched nor what lies behind the values.
pub record Ends (h : Holding) (room : List ℕ) (t : Told Holding) : Type 0 where
  pub unwritten : (why : Reason) → t.answer ≡ Err why → (t.room ≡ room) × (t.held.values ≡ h.values)
  pub nothing_in : t.answer ≡ Err Workspace → t.held ≡ h
  pub stops : (why : Reason) → t.answer ≡ Err why → (why ≡ Workspace) ⊎ (t.held.detector.running ≡ false)
  pub as_long : (length t.room ≡ length room) × (length t.held.values ≡ length h.values)
  pub behind : (m : ℕ) → t.answer ≡ Ok m → drop m t.room ≡ drop m room
  pub behind_values : drop mean_over t.held.values ≡ drop mean_over h.values

abbrev pub PieceEnds : Type 0
PieceEnds = (h : Holding) (piece room : List ℕ) → Ends h room (piece_told h piece room)

abbrev pub EndEnds : Type 0
EndEnds = (h : Holding) (room : List ℕ) → Ends h room (end_told h room)

-- the old start holds nothing back, and leaves the room for it as it was
abbrev pub OldHoldsNothing : Type 0
OldHoldsNothing =
    (h : Holding) (piece room : List ℕ) → h.detector.start ≡ Old
    → ((piece_told h piece room).held.values ≡ h.values) × ((end_told h room).held.values ≡ h.values)

-- a piece gives no refusal but 13, 6 and 7, and the end none but 13 and 6
abbrev pub OnlyTheseRefusals : Type 0
OnlyTheseRefusals =
    (h : Holding) (piece room : List ℕ)
    → let p = number (piece_told h piece room).answer in
    let e = number (end_told h room).answer in
    ((p ≡ 0) ⊎ (p ≡ 13) ⊎ (p ≡ 6) ⊎ (p ≡ 7)) × ((e ≡ 0) ⊎ (e ≡ 13) ⊎ (e ≡ 6))
