-- `recording::open::check_sizes` meets its contract: each way out is a line of the table. Assumes nothing.
use Rattle.std.proofs.lemmas.Result.{err_from_is_err_and}
use Rattle.recording.proofs.open.Laws.{fitting_refused, fitting_used, fitting_all}
use Rattle.recording.proofs.open.check_sizes.Goals as goal

pub returns-in_err-check_counts : goal.returns-in_err-check_counts
returns-in_err-check_counts c =
    let p = err_from_is_err_and c.from_residual.result c.from_residual.ensures.1 in
    rw (p.1, p.2, ← c.in_err-check_counts.was) (fitting_refused _ _ c.check_counts.ensures _ c.in_err-check_counts.was)

pub returns-then-journal-used : goal.returns-then-journal-used
returns-then-journal-used c = fitting_used _ _ c.check_counts.ensures _ c.in_ok-check_counts.was c.if-journal-used.true

pub returns : goal.returns
returns c = fitting_all _ _ c.check_counts.ensures _ c.in_ok-check_counts.was c.if-journal-used.false
