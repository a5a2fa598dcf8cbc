-- What the repair of a gap gives, taken apart: its answer, as of every repair, and the order of the model that stands beside it.
-- Definitions only.
use Rattle.std.specs.Prelude.{ℕ, Result, Ok, Err}
use Rattle.recording.specs.declared.Reason.{Reason}
use Rattle.recording.specs.Answer.{Answer}
use Rattle.inpaint.specs.declared.Filled.{Filled}

-- accepted, it answers with how many samples it named, and refused with the reason
abbrev pub answer_of : Result Filled Reason → Answer
answer_of (Ok f) = Ok f.named
answer_of (Err why) = Err why

-- a refusal has no order beside it, and so tells 0
abbrev pub order_of : Result Filled Reason → ℕ
order_of (Ok f) = f.order
order_of (Err why) = 0
