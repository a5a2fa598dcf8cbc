-- `redraw::begin` answers as the rule's first tests, and lays the samples out where they all pass: each way out is a line of
-- the rule. Assumes nothing.
use mathlib.Core.Path.{refl, sym, ◌∙◌}
use borrow.Author.Tests.{not-true, not-false}
use Rattle.recording.specs.Recording.{state}
use Rattle.redraw.proofs.Ending.{begun_unfit, begun_setting, begun_short, begun_read, begun_all}
use Rattle.std.proofs.Common.{ap, not}
use Rattle.std.proofs.lemmas.Result.{err_from_is_err_and}
use Rattle.redraw.proofs.begin.Goals as goal

pub returns-in_err-check_sizes : goal.returns-in_err-check_sizes
returns-in_err-check_sizes c =
    let p = err_from_is_err_and c.from_residual.result c.from_residual.ensures.1 in
    rw (p.1, p.2) (
      sym c.in_err-check_sizes.was
          ∙ begun_unfit _ _ (state c.args.samples.now c.args.marks.now c.args.counts.now c.args.journal.now c.args.used) _ c.check_sizes.ensures _ c.in_err-check_sizes.was,
      refl,
    )

pub returns-then-not-allowed : goal.returns-then-not-allowed
returns-then-not-allowed c =
    (begun_setting _ _ (state c.args.samples.now c.args.marks.now c.args.counts.now c.args.journal.now c.args.used) _ c.check_sizes.ensures _ c.in_ok-check_sizes.was (not-true _ (ap not c.if-not-allowed.true)), refl)

pub returns-then-work-samples : goal.returns-then-work-samples
returns-then-work-samples c = (
  begun_short _ _ (state c.args.samples.now c.args.marks.now c.args.counts.now c.args.journal.now c.args.used) _ c.check_sizes.ensures _ c.in_ok-check_sizes.was
      (not-false _ (ap not c.if-not-allowed.false)) c.if-work-samples.true,
  refl,
)

pub returns-in_err-check_words : goal.returns-in_err-check_words
returns-in_err-check_words c =
    let p = err_from_is_err_and c.from_residual-in_err-check_words.result c.from_residual-in_err-check_words.ensures.1 in
    rw (p.1, p.2) (
      sym c.in_err-check_words.was
          ∙ begun_read _ _ (state c.args.samples.now c.args.marks.now c.args.counts.now c.args.journal.now c.args.used) _ c.check_sizes.ensures _ c.in_ok-check_sizes.was
          (not-false _ (ap not c.if-not-allowed.false)) _ c.if-work-samples.false c.check_words.ensures,
      refl,
    )

pub returns : goal.returns
returns c = (
  begun_all _ _ (state c.args.samples.now c.args.marks.now c.args.counts.now c.args.journal.now c.args.used) _ c.check_sizes.ensures _ c.in_ok-check_sizes.was
      (not-false _ (ap not c.if-not-allowed.false)) _ _ c.if-work-samples.false c.check_words.ensures c.in_ok-check_words.was,
  c.lay_out.ensures,
)
