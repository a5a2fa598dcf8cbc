-- How a call ends: accepted, with a number, or refused, with a reason; and what the question of a span gives, likewise. Definitions only.
use Rattle.std.specs.Prelude.{ℕ, Bool, Result}
use Rattle.recording.specs.declared.Reason.{Reason}

-- a call that is accepted with something of any type
abbrev pub AnswerWith : Type 0 → Type 0
AnswerWith T = Result T Reason

abbrev pub Answer : Type 0
Answer = Result ℕ Reason

abbrev pub Verdict : Type 0
Verdict = Result Bool Reason
