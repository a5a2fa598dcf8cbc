-- `inpaint::fill::word_of_double` meets its contract: narrowed, and then its word. Assumes nothing.
use Rattle.inpaint.proofs.fill.Laws.{word_is}
use Rattle.inpaint.proofs.fill.word_of_double.Goals as goal

pub returns : goal.returns
returns c = word_is _ _ _ c.narrow.ensures c.word_of_f32.ensures
