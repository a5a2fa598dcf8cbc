-- `dequant::passes::is_wide` meets its contract: its two tests are those of the rule. Assumes nothing.
use mathlib.Core.Path.{◌∙◌}
use borrow.Author.Tests.{lt-leb}
use Rattle.dequant.proofs.passes.Laws.{wide_short, wide_long}
use Rattle.dequant.proofs.passes.is_wide.Goals as goal

pub returns-then-n-ge-WIDE_SAMPLES : goal.returns-then-n-ge-WIDE_SAMPLES
returns-then-n-ge-WIDE_SAMPLES c = wide_long _ _ c.if-n-ge-WIDE_SAMPLES.true

pub returns-else-n-ge-WIDE_SAMPLES : goal.returns-else-n-ge-WIDE_SAMPLES
returns-else-n-ge-WIDE_SAMPLES c = lt-leb _ _ c.if-n-ge-WIDE_SAMPLES.false ∙ wide_short _ _ c.if-n-ge-WIDE_SAMPLES.false
