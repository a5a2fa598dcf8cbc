-- `proposed::check_call` meets its contract: each way out is a line of the rule's tests. Assumes nothing.
use mathlib.Core.Path.{sym, ◌∙◌}
use borrow.Author.Tests.{not-true, not-false}
use Rattle.std.proofs.lemmas.Result.{err_from_is_err_and}
use Rattle.recording.specs.Lent.{held}
use Rattle.proposed.proofs.Laws.{checked_unfit, checked_setting, checked_read, checked_taken}
use Rattle.std.proofs.Common.{ap, not}
use Rattle.proposed.proofs.check_call.Goals as goal

pub returns-in_err-check_sizes : goal.returns-in_err-check_sizes
returns-in_err-check_sizes c =
    let p = err_from_is_err_and c.from_residual.result c.from_residual.ensures.1 in
    rw (p.1, p.2)
    (sym c.in_err-check_sizes.was
    ∙ checked_unfit _ _ (held c.args.recording.now) _ c.check_sizes.ensures _ c.in_err-check_sizes.was)

pub returns-then-not-threshold_allowed : goal.returns-then-not-threshold_allowed
returns-then-not-threshold_allowed c =
    checked_setting _ _ (held c.args.recording.now) _ c.check_sizes.ensures _ c.in_ok-check_sizes.was
    (sym c.threshold_allowed.ensures ∙ not-true _ (ap not c.if-not-threshold_allowed.true))

pub returns-in_err-check_words : goal.returns-in_err-check_words
returns-in_err-check_words c =
    let p = err_from_is_err_and c.from_residual-in_err-check_words.result c.from_residual-in_err-check_words.ensures.1 in
    rw (p.1, p.2)
    (sym c.in_err-check_words.was
    ∙ checked_read _ _ (held c.args.recording.now) _ c.check_sizes.ensures _ c.in_ok-check_sizes.was
    (sym c.threshold_allowed.ensures ∙ not-false _ (ap not c.if-not-threshold_allowed.false)) _ c.check_words.ensures _ c.in_err-check_words.was)

pub returns : goal.returns
returns c =
    checked_taken _ _ (held c.args.recording.now) _ c.check_sizes.ensures _ c.in_ok-check_sizes.was
    (sym c.threshold_allowed.ensures ∙ not-false _ (ap not c.if-not-threshold_allowed.false)) _ c.check_words.ensures _ _
    c.in_ok-check_words.was c.check_proposal.ensures
