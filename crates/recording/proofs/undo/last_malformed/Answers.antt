-- `recording::undo::last_malformed` meets its contract: its tests are the clauses of refusal 11, in their order, with
-- the three of the saved samples as one pass. Assumes nothing.
use mathlib.Core.Path.{refl}
use borrow.Author.Rules.{rules}
use Rattle.recording.proofs.undo.Laws.{malformed_short, malformed_long}
use Rattle.recording.proofs.undo.last_malformed.Goals as goal

pub returns-then-used-eq1 : goal.returns-then-used-eq1
returns-then-used-eq1 c = malformed_short _ _ _ c.if-used-eq1.true

pub returns-then-saved_wrong : goal.returns-then-saved_wrong
returns-then-saved_wrong c = rw (← malformed_long _ _ _ c.if-used-eq1.false _ refl) (search rules)

pub returns-else-saved_wrong : goal.returns-else-saved_wrong
returns-else-saved_wrong c = rw (← malformed_long _ _ _ c.if-used-eq1.false _ refl) (search rules)
