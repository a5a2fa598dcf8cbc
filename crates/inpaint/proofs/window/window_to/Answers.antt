-- `inpaint::window::window_to` meets its contract: no sum overflows, since the context is small. Assumes nothing.
use Rattle.std.proofs.Common.{arith}
use Rattle.inpaint.proofs.window.Laws.{context_most}
use Rattle.inpaint.proofs.window.window_to.Goals as goal

pub overflow_add-start-2 : goal.overflow_add-start-2
overflow_add-start-2 c = omega (arith, c.context_of.ensures, context_most c.args.len)
