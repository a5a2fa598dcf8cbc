-- `inpaint::window::context_of` meets its contract, by the three cases of the rule. Assumes nothing.
use Rattle.inpaint.proofs.window.Laws.{context_line, context_least, context_four}
use Rattle.inpaint.proofs.window.context_of.Goals as goal

pub returns-then-len-gt-MAX_SOLVE : goal.returns-then-len-gt-MAX_SOLVE
returns-then-len-gt-MAX_SOLVE c = context_line _ c.if-len-gt-MAX_SOLVE.true

pub returns-then-len-le-LEAST_CONTEXT : goal.returns-then-len-le-LEAST_CONTEXT
returns-then-len-le-LEAST_CONTEXT c = context_least _ c.if-len-gt-MAX_SOLVE.false c.if-len-le-LEAST_CONTEXT.true

pub returns-else-len-le-LEAST_CONTEXT : goal.returns-else-len-le-LEAST_CONTEXT
returns-else-len-le-LEAST_CONTEXT c = context_four _ c.if-len-gt-MAX_SOLVE.false c.if-len-le-LEAST_CONTEXT.false
