-- `recording::question::measured` meets its contract: each way out is a line of the rule. Assumes nothing.
use mathlib.Core.Path.{sym, ◌∙◌}
use borrow.Author.Tests.{ltb-false}
use Rattle.recording.proofs.question.Laws.{verdict_blocks, verdict_gap, verdict_said}
use Rattle.recording.proofs.question.measured.Goals as goal

pub returns-then-counts-block_count : goal.returns-then-counts-block_count
returns-then-counts-block_count c = verdict_blocks _ _ _ _ (λ (e : _). c.if-counts-block_count.true (e ∙ sym c.block_count.ensures))

pub returns-then-span_past : goal.returns-then-span_past
returns-then-span_past c =
    verdict_gap _ _ _ _ (c.if-counts-block_count.false ∙ c.block_count.ensures) _ c.span_past.ensures c.if-span_past.true

pub span_measured-requires : goal.span_measured-requires
span_measured-requires c =
    (ltb-false _ _ (sym c.span_past.ensures ∙ c.if-span_past.false), c.if-counts-block_count.false ∙ c.block_count.ensures)

pub returns : goal.returns
returns c =
    verdict_said _ _ _ _ (c.if-counts-block_count.false ∙ c.block_count.ensures) _ c.span_past.ensures c.if-span_past.false _
    c.span_measured.ensures
