-- `recording::open::check_counts` meets its contract: each way out is a line of the table. Assumes nothing.
use mathlib.Core.Path.{sym, ◌∙◌}
use Rattle.recording.proofs.open.Laws.{alike_counts, alike_blocks, alike_too_many, alike_all}
use Rattle.recording.proofs.open.check_counts.Goals as goal

pub returns-then-marks-samples : goal.returns-then-marks-samples
returns-then-marks-samples c = alike_counts _ c.if-marks-samples.true

pub returns-then-counts-block_count : goal.returns-then-counts-block_count
returns-then-counts-block_count c = alike_blocks _ c.if-marks-samples.false (λ (e : _). c.if-counts-block_count.true (e ∙ sym c.block_count.ensures))

pub returns-then-samples-gt-MOST_SAMPLES : goal.returns-then-samples-gt-MOST_SAMPLES
returns-then-samples-gt-MOST_SAMPLES c =
    alike_too_many _ c.if-marks-samples.false (c.if-counts-block_count.false ∙ c.block_count.ensures) c.if-samples-gt-MOST_SAMPLES.true

pub returns : goal.returns
returns c =
    alike_all _ c.if-marks-samples.false (c.if-counts-block_count.false ∙ c.block_count.ensures) c.if-samples-gt-MOST_SAMPLES.false
