-- `recording::question::span_measured` meets its contract: a span of no samples, within one block, or over several. Assumes nothing.
use borrow.Author.Rules.{rules}
use mathlib.Core.Path.{◌∙◌}
use Rattle.recording.proofs.question.Laws.{span_none, span_within, span_several}
use Rattle.recording.proofs.question.span_measured.Goals as goal

pub returns-then-len-eq0 : goal.returns-then-len-eq0
returns-then-len-eq0 c = span_none _ _ _ _ c.if-len-eq0.true

pub returns-then-first-last : goal.returns-then-first-last
returns-then-first-last c = c.marks_say.ensures ∙ span_within _ _ _ _ c.if-len-eq0.false c.if-first-last.true

pub returns-then-counts_say : goal.returns-then-counts_say
returns-then-counts_say c = rw (← span_several _ _ _ _ c.if-len-eq0.false c.if-first-last.false) (search rules)

pub returns-else-counts_say : goal.returns-else-counts_say
returns-else-counts_say c = rw (← span_several _ _ _ _ c.if-len-eq0.false c.if-first-last.false) (search rules)
