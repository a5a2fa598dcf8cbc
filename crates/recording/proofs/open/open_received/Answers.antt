-- `recording::open::open_received` meets its contract: each way out is a line of the rule. Assumes nothing.
use Rattle.recording.proofs.open.Laws.{received_refused, received_counted, received_done}
use Rattle.std.proofs.lemmas.Result.{err_from_is_err_and}
use mathlib.Core.List.{[]}
use Rattle.recording.specs.Recording.{state}
use Rattle.recording.proofs.open.open_received.Goals as goal

pub returns-in_err-check_counts : goal.returns-in_err-check_counts
returns-in_err-check_counts c =
    let p = err_from_is_err_and c.from_residual.result c.from_residual.ensures.1 in
    rw (p.1, p.2, ← c.in_err-check_counts.was) (received_refused _ _ c.check_counts.ensures _ c.in_err-check_counts.was)

pub begin_afresh-requires : goal.begin_afresh-requires
begin_afresh-requires c =
    received_counted (state _ _ _ [] 0) _ c.check_counts.ensures _ c.in_ok-check_counts.was _ c.keep_received.ensures

pub returns : goal.returns
returns c =
    received_done _ _ c.check_counts.ensures _ _ _ _ _ c.in_ok-check_counts.was
    c.keep_received.ensures c.begin_afresh.ensures
