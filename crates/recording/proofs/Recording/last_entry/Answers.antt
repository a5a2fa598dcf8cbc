-- `Recording::last_entry` meets its contract: each way out is a line of the rule. Assumes nothing.
use mathlib.Core.Path.{refl, sym, ◌∙◌}
use native.Mathlib.Omega.{arith}
use Rattle.recording.proofs.undo.Laws.{sound, entry_none, entry_bad, entry_good}
use Rattle.recording.specs.Lent.{held}
use Rattle.recording.proofs.Recording.last_entry.Goals as goal

pub returns-then-end-eq0 : goal.returns-then-end-eq0
returns-then-end-eq0 c = entry_none (held c.args.self.now) c.if-end-eq0.true

pub returns-then-last_malformed : goal.returns-then-last_malformed
returns-then-last_malformed c =
    entry_bad (held c.args.self.now) c.if-end-eq0.false _ c.last_malformed.ensures c.if-last_malformed.true

pub overflow_sub-result : goal.overflow_sub-result
overflow_sub-result c =
    omega (arith, (sound (held c.args.self.now) _ refl (sym c.last_malformed.ensures ∙ c.if-last_malformed.false)).there)

pub returns : goal.returns
returns c =
    entry_good (held c.args.self.now) c.if-end-eq0.false _ c.last_malformed.ensures c.if-last_malformed.false _ refl
