-- `inpaint::window::check_known` meets its contract: the words before the gap, and then those behind it. Assumes
-- nothing.
use Rattle.std.proofs.lemmas.Result.{err_from_is_err_and}
use Rattle.inpaint.proofs.window.Laws.{before_out, before_in}
use Rattle.inpaint.proofs.window.check_known.Goals as goal

pub returns-in_err-check_words : goal.returns-in_err-check_words
returns-in_err-check_words c =
    let p = err_from_is_err_and c.from_residual.result c.from_residual.ensures.1 in
    rw (p.1, p.2, ← c.in_err-check_words.was)
    (before_out _ _ _ _ _ c.window_from-from.ensures c.window_to-to.ensures _ _ c.check_words.ensures
    c.in_err-check_words.was)

pub returns : goal.returns
returns c =
    before_in _ _ _ _ _ c.window_from-from.ensures c.window_to-to.ensures _ _ _ c.check_words.ensures
    c.in_ok-check_words.was c.check_words-2.ensures
