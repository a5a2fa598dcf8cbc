-- `Recording::undo` meets its contract: each way out is a line of the rule, and an entry that is not malformed can be
-- given back and its words cleared. Assumes nothing.
use mathlib.Core.Path.{sym, ap, ◌∙◌}
use lib.ListN.{length}
use Prim.Native.Nat.{◌≤◌}
use native.Mathlib.Omega.{arith}
use native.Mathlib.Nat.{le_trans}
use Rattle.recording.specs.Recording.{entry_size, most_samples}
use Rattle.std.proofs.lemmas.Result.{err_from_is_err_and}
use Rattle.recording.specs.Lent.{held}
use Rattle.recording.proofs.open.Laws.{accepted_fits}
use Rattle.recording.proofs.undo.Laws.{entry_sound, restorable, recountable, undone_unfit, undone_refused, undone_done}
use Rattle.recording.proofs.Put.{length_put}
use Rattle.recording.proofs.Recording.undo.Goals as goal

pub returns-in_err-check_sizes-clause-rule : goal.returns-in_err-check_sizes-clause-rule
returns-in_err-check_sizes-clause-rule c =
    let p = err_from_is_err_and c.from_residual.result c.from_residual.ensures.1 in
    rw (p.1, p.2, ← c.in_err-check_sizes.was) (undone_unfit _ _ c.check_sizes.ensures _ c.in_err-check_sizes.was)

pub last_entry-requires : goal.last_entry-requires
last_entry-requires c = (accepted_fits (held c.args.self.now) _ (sym c.check_sizes.ensures ∙ c.in_ok-check_sizes.was)).within

pub returns-in_err-m-clause-rule : goal.returns-in_err-m-clause-rule
returns-in_err-m-clause-rule c =
    let p = err_from_is_err_and c.from_residual-in_err-m.result c.from_residual-in_err-m.ensures.1 in
    rw (p.1, p.2, ← c.in_err-m.was)
    (undone_refused (held c.args.self.now) _ c.check_sizes.ensures _ c.in_ok-check_sizes.was _ c.last_entry.ensures _ c.in_err-m.was)

pub overflow_mul-begin : goal.overflow_mul-begin
overflow_mul-begin c =
    let few : c.in_ok-m.m ≤ most_samples = le_trans (entry_sound (held c.args.self.now) _ c.last_entry.ensures _ c.in_ok-m.was).few
    (accepted_fits (held c.args.self.now) _ (sym c.check_sizes.ensures ∙ c.in_ok-check_sizes.was)).few in
    omega arith

pub overflow_add-begin : goal.overflow_add-begin
overflow_add-begin c =
    let few : c.in_ok-m.m ≤ most_samples = le_trans (entry_sound (held c.args.self.now) _ c.last_entry.ensures _ c.in_ok-m.was).few
    (accepted_fits (held c.args.self.now) _ (sym c.check_sizes.ensures ∙ c.in_ok-check_sizes.was)).few in
    omega arith

pub overflow_sub-begin : goal.overflow_sub-begin
overflow_sub-begin c =
    let there : entry_size c.in_ok-m.m ≤ c.args.self.now.used.now = (entry_sound (held c.args.self.now) _ c.last_entry.ensures _ c.in_ok-m.was).there in
    omega arith

pub give_back-requires : goal.give_back-requires
give_back-requires c =
    restorable (held c.args.self.now) _ (accepted_fits (held c.args.self.now) _ (sym c.check_sizes.ensures ∙ c.in_ok-check_sizes.was))
    (entry_sound (held c.args.self.now) _ c.last_entry.ensures _ c.in_ok-m.was)

pub recount-requires : goal.recount-requires
recount-requires c =
    recountable (held c.args.self.now) _ (accepted_fits (held c.args.self.now) _ (sym c.check_sizes.ensures ∙ c.in_ok-check_sizes.was))
    (entry_sound (held c.args.self.now) _ c.last_entry.ensures _ c.in_ok-m.was) _
    (ap length c.give_back.ensures.1 ∙ length_put _ _)

pub overflow_mul-m : goal.overflow_mul-m
overflow_mul-m c =
    let few : c.in_ok-m.m ≤ most_samples = le_trans (entry_sound (held c.args.self.now) _ c.last_entry.ensures _ c.in_ok-m.was).few
    (accepted_fits (held c.args.self.now) _ (sym c.check_sizes.ensures ∙ c.in_ok-check_sizes.was)).few in
    omega arith

pub overflow_add-m : goal.overflow_add-m
overflow_add-m c =
    let few : c.in_ok-m.m ≤ most_samples = le_trans (entry_sound (held c.args.self.now) _ c.last_entry.ensures _ c.in_ok-m.was).few
    (accepted_fits (held c.args.self.now) _ (sym c.check_sizes.ensures ∙ c.in_ok-check_sizes.was)).few in
    omega arith

pub set_all-requires : goal.set_all-requires
set_all-requires c =
    let fits = (accepted_fits (held c.args.self.now) _ (sym c.check_sizes.ensures ∙ c.in_ok-check_sizes.was)) in
    omega (arith, fits.within, (entry_sound (held c.args.self.now) _ c.last_entry.ensures _ c.in_ok-m.was).there)

pub returns-clause-rule : goal.returns-clause-rule
returns-clause-rule c =
    undone_done (held c.args.self.now) _ c.check_sizes.ensures _ c.in_ok-check_sizes.was _ c.last_entry.ensures _ c.in_ok-m.was _ _ _ _
    c.give_back.ensures.0 c.give_back.ensures.1 c.recount.ensures c.set_all.ensures
