-- `inpaint::line::repair_by_line` meets its contract: refused by the range test, refused by the entry, or entered and
-- written. Assumes nothing.
use Rattle.std.proofs.Common.{sym}
use Rattle.std.proofs.lemmas.Result.{err_from_is_err_and}
use Rattle.recording.specs.Lent.{held}
use Rattle.recording.proofs.commit.Laws.{carried_out}
use Rattle.inpaint.proofs.Entered.{entry_refused, entry_written}
use Rattle.inpaint.proofs.fill.Laws.{handed_on}
use Rattle.inpaint.proofs.line.Laws.{length_line, line_ranged, line_written}
use Rattle.inpaint.proofs.line.repair_by_line.Goals as goal

pub returns-in_err-check_line-clause-rule : goal.returns-in_err-check_line-clause-rule
returns-in_err-check_line-clause-rule c =
    let p = err_from_is_err_and c.from_residual.result c.from_residual.ensures.1 in
    let s = held c.args.recording.now in
    let ranging = line_ranged s.samples c.args.start c.args.len _ _ c.left_of-left.ensures c.right_of-right.ensures _ c.check_line.ensures in
    let was = c.in_err-check_line.was in
    rw (p.1, p.2) (handed_on _ _ _ _ (sym was) (carried_out s _ _ _ _ ranging was))

pub returns-in_err-named-clause-rule : goal.returns-in_err-named-clause-rule
returns-in_err-named-clause-rule c =
    let p = err_from_is_err_and c.from_residual-in_err-named.result c.from_residual-in_err-named.ensures.1 in
    let s = held c.args.recording.now in
    let ranging = line_ranged s.samples c.args.start c.args.len _ _ c.left_of-left.ensures c.right_of-right.ensures _ c.check_line.ensures in
    rw (p.1, p.2)
    (entry_refused s (held c.enter_span.new.self) _ _ _ _ (length_line s.samples c.args.start c.args.len) _ _ _ ranging c.in_ok-check_line.was
    c.enter_span.ensures.samples c.enter_span.ensures.rule _ c.in_err-named.was)

pub returns-clause-rule : goal.returns-clause-rule
returns-clause-rule c =
    let s = held c.args.recording.now in
    let left = c.left_of-left.ensures in
    let right = c.right_of-right.ensures in
    let ranging = line_ranged s.samples c.args.start c.args.len _ _ left right _ c.check_line.ensures in
    let same = c.enter_span.ensures.samples in
    entry_written s (held c.enter_span.new.self) _ _ _ _ (length_line s.samples c.args.start c.args.len) _ _ _ ranging c.in_ok-check_line.was
    same c.enter_span.ensures.rule _ _ c.in_ok-named.was
    (line_written s.samples c.args.start c.args.len _ _ left right _ _ same c.requires.1 c.line_fill.ensures)
