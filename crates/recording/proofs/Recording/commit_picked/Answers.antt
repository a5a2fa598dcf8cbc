-- `Recording::commit_picked` meets its contract: refused by the range test, nothing named, no room, or saved, written and
-- sealed. Assumes nothing.
use mathlib.Core.Path.{sym, ap, ◌∙◌}
use lib.ListN.{length}
use Rattle.std.proofs.lemmas.Result.{err_from_is_err_and}
use Rattle.recording.proofs.commit.Laws.{carried_out, carried_on, picked_few, entered_none, entered_room}
use Rattle.recording.proofs.commit.Laws.{picked_recountable, entered_done}
use Rattle.recording.proofs.Put.{length_put}
use Prim.Native.Nat.{◌≤◌}
use native.Mathlib.Omega.{arith}
use native.Mathlib.Nat.{le_trans}
use Rattle.recording.specs.Recording.{most_samples}
use Rattle.recording.specs.Lent.{held}
use Rattle.recording.proofs.Recording.commit_picked.Goals as goal

pub returns-in_err-check_picked-clause-rule : goal.returns-in_err-check_picked-clause-rule
returns-in_err-check_picked-clause-rule c =
    let p = err_from_is_err_and c.from_residual.result c.from_residual.ensures.1 in
    rw (p.1, p.2, ← c.in_err-check_picked.was) (carried_out _ _ _ _ _ c.check_picked.ensures c.in_err-check_picked.was)

pub returns-then-m-eq0-clause-rule : goal.returns-then-m-eq0-clause-rule
returns-then-m-eq0-clause-rule c =
    entered_none (held c.args.self.now) _ _ (sym c.count_picked-m.ensures ∙ c.if-m-eq0.true)
    ∙ carried_on _ _ _ _ _ c.check_picked.ensures c.in_ok-check_picked.was

pub overflow_mul-m : goal.overflow_mul-m
overflow_mul-m c =
    let few : c.count_picked-m.result ≤ most_samples = le_trans (picked_few _ _ _ c.count_picked-m.ensures c.requires.1) c.requires.0.few in
    omega arith

pub overflow_add-m : goal.overflow_add-m
overflow_add-m c =
    let few : c.count_picked-m.result ≤ most_samples = le_trans (picked_few _ _ _ c.count_picked-m.ensures c.requires.1) c.requires.0.few in
    omega arith

pub returns-then-self-at-clause-rule : goal.returns-then-self-at-clause-rule
returns-then-self-at-clause-rule c =
    let count = c.count_picked-m.ensures in
    entered_room (held c.args.self.now) _ _ (λ (none : _). c.if-m-eq0.false (count ∙ none)) (rw count at c.if-self-at.true)
    ∙ carried_on _ _ _ _ _ c.check_picked.ensures c.in_ok-check_picked.was

pub recount-requires : goal.recount-requires
recount-requires c =
    let written = c.write_picked.ensures in
    picked_recountable (held c.args.self.now) _ _ _ _ c.requires.0 c.count_picked-m.ensures c.if-self-at.false
    (ap length written.1 ∙ length_put _ _) c.save_picked.ensures

pub seal-requires : goal.seal-requires
seal-requires c =
    let few : c.count_picked-m.result ≤ most_samples = le_trans (picked_few _ _ _ c.count_picked-m.ensures c.requires.1) c.requires.0.few in
    (omega arith, omega arith)

pub returns-clause-rule : goal.returns-clause-rule
returns-clause-rule c =
    let entry = c.seal.ensures in
    let written = c.write_picked.ensures in
    let count = c.count_picked-m.ensures in
    entered_done (held c.args.self.now) _ _ (λ (none : _). c.if-m-eq0.false (count ∙ none)) _ _ _ _ _ _ _ count c.if-self-at.false
    written.0 written.1 c.save_picked.ensures c.recount.ensures entry.0 entry.1
    ∙ carried_on _ _ _ _ _ c.check_picked.ensures c.in_ok-check_picked.was
