-- `inpaint::window::window_of` meets its contract: the part between the window's two ends. Assumes nothing.
use Rattle.inpaint.proofs.window.Laws.{window_is}
use Rattle.inpaint.proofs.window.window_of.Goals as goal

pub returns : goal.returns
returns c = window_is _ _ _ _ _ c.window_from-from.ensures c.window_to-to.ensures
