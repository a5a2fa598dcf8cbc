-- What documents 01 and 02 say of an answer: its number, and the value that goes with it. Definitions only.
use Rattle.std.specs.Prelude.{ℕ, if◌then◌else◌}
use Rattle.recording.specs.declared.Reason.{Reason}
use Rattle.recording.specs.declared.Reason.TheVariants.{Counts, TooMany, Used, Setting, Gap, Workspace, Read}
use Rattle.recording.specs.declared.Reason.TheVariants.{Result, Room, Nothing, Malformed, Frames, Pieces, Blocks, Proposal, Version, Stored}
use Rattle.recording.specs.declared.Reason.TheVariants.{Wave, Coding, Output}
use Rattle.recording.specs.Answer.{Answer, AnswerWith}
use Rattle.std.specs.Prelude.{Ok, Err}
use Rattle.recording.specs.Answer.{Verdict}

-- "What is turned away": the table's number of each reason; from 12 on document 02's
abbrev pub reason_number : Reason → ℕ
reason_number Counts = 1
reason_number TooMany = 2
reason_number Used = 3
reason_number Setting = 4
reason_number Gap = 5
reason_number Workspace = 6
reason_number (Read place) = 7
reason_number (Result place) = 8
reason_number Room = 9
reason_number Nothing = 10
reason_number Malformed = 11
reason_number Frames = 12
reason_number Pieces = 13
reason_number Blocks = 14
reason_number (Proposal place) = 15
reason_number Version = 17
reason_number Stored = 18
reason_number Wave = 19
reason_number Coding = 20
reason_number Output = 21

-- "the reason carries the sample's place for 7 and 8", and request P9 has 15 "with place 0" or "with the lowest place"; for the others 0
-- stands there
abbrev pub reason_place : Reason → ℕ
reason_place Counts = 0
reason_place TooMany = 0
reason_place Used = 0
reason_place Setting = 0
reason_place Gap = 0
reason_place Workspace = 0
reason_place (Read place) = place
reason_place (Result place) = place
reason_place Room = 0
reason_place Nothing = 0
reason_place Malformed = 0
reason_place Frames = 0
reason_place Pieces = 0
reason_place Blocks = 0
reason_place (Proposal place) = place
reason_place Version = 0
reason_place Stored = 0
reason_place Wave = 0
reason_place Coding = 0
reason_place Output = 0

-- 0 for an acceptance, whatever it gives, and else the number of the refusal
abbrev pub refusal_number : {T : Type 0} → AnswerWith T → ℕ
refusal_number (Ok m) = 0
refusal_number (Err why) = reason_number why

-- of an answer
abbrev pub number : Answer → ℕ
number = refusal_number

-- "An accepted repair returns m; an accepted undo returns the m it took back." For a refusal it is the place.
abbrev pub value : Answer → ℕ
value (Ok m) = m
value (Err why) = reason_place why

-- of the span question: 0 where it is answered, and else the number of the refusal
abbrev pub verdict_number : Verdict → ℕ
verdict_number = refusal_number

-- 1 for yes, and else 0
abbrev pub verdict_yes : Verdict → ℕ
verdict_yes (Ok says) = if says then 1 else 0
verdict_yes (Err why) = 0
