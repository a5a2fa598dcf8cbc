-- `proposed::commit_proposal` meets its contract: nothing named, no room, or saved, written and sealed. Assumes nothing.
use mathlib.Core.Path.{sym, ap, ◌∙◌}
use Prim.Native.Nat.{◌≤◌}
use native.Mathlib.Omega.{arith}
use native.Mathlib.Nat.{le_trans}
use lib.ListN.{length}
use Rattle.recording.specs.Recording.{most_samples}
use Rattle.recording.specs.Lent.{held}
use Rattle.recording.proofs.Put.{length_put}
use Rattle.recording.proofs.commit.Laws.{entered_none, entered_room, entered_done}
use Rattle.proposed.proofs.Laws.{named_count, clipped_few, saved_named, named_blocks}
use Rattle.proposed.proofs.commit_proposal.Goals as goal

pub returns-then-m-eq0-clause-rule : goal.returns-then-m-eq0-clause-rule
returns-then-m-eq0-clause-rule c =
    let count = c.count_clipped-m.ensures ∙ sym (named_count _ _ _ c.requires.1) in
    entered_none (held c.args.recording.now) _ _ (sym count ∙ c.if-m-eq0.true)

pub overflow_mul-m : goal.overflow_mul-m
overflow_mul-m c =
    let few : c.count_clipped-m.result ≤ most_samples = rw c.count_clipped-m.ensures (le_trans (clipped_few _ 0 c.args.recording.now.samples.now) c.requires.0.few) in
    omega arith

pub overflow_add-m : goal.overflow_add-m
overflow_add-m c =
    let few : c.count_clipped-m.result ≤ most_samples = rw c.count_clipped-m.ensures (le_trans (clipped_few _ 0 c.args.recording.now.samples.now) c.requires.0.few) in
    omega arith

pub returns-then-recording-at-clause-rule : goal.returns-then-recording-at-clause-rule
returns-then-recording-at-clause-rule c =
    let count = c.count_clipped-m.ensures ∙ sym (named_count _ _ _ c.requires.1) in
    entered_room (held c.args.recording.now) _ _ (λ (none : _). c.if-m-eq0.false (count ∙ none)) (rw count at c.if-recording-at.true)

pub recount-requires : goal.recount-requires
recount-requires c =
    let count = c.count_clipped-m.ensures ∙ sym (named_count _ _ _ c.requires.1) in
    named_blocks _ _ (held c.args.recording.now) _ _ _ c.requires count c.if-recording-at.false
    (ap length c.write_clipped.ensures.1 ∙ length_put _ _) c.save_clipped.ensures

pub seal-requires : goal.seal-requires
seal-requires c =
    let few : c.count_clipped-m.result ≤ most_samples = rw c.count_clipped-m.ensures (le_trans (clipped_few _ 0 c.args.recording.now.samples.now) c.requires.0.few) in
    (omega arith, omega arith)

pub returns-clause-rule : goal.returns-clause-rule
returns-clause-rule c =
    let s = held c.args.recording.now in
    let count = c.count_clipped-m.ensures ∙ sym (named_count _ _ _ c.requires.1) in
    entered_done s _ _ (λ (none : _). c.if-m-eq0.false (count ∙ none)) _ _ _ _ _ _ _ count c.if-recording-at.false
    c.write_clipped.ensures.0 c.write_clipped.ensures.1 (saved_named _ _ s _ c.requires.1 c.save_clipped.ensures) c.recount.ensures
    c.seal.ensures.0 c.seal.ensures.1
