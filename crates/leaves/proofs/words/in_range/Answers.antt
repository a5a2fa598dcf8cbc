-- `leaves::words::in_range` meets its contract: its two tests are those of a sample in range. Assumes nothing.
use Rattle.std.proofs.Common.{refl, ◌∙◌}
use Rattle.leaves.proofs.words.Laws.{sample_tests}
use Rattle.leaves.proofs.words.in_range.Goals as goal

pub returns-then-x : goal.returns-then-x
returns-then-x c = sample_tests _ _ c.f32_of_word-x.ensures c.if-x.true refl

pub returns-else-x : goal.returns-else-x
returns-else-x c = c.if-x.false ∙ sample_tests _ _ c.f32_of_word-x.ensures c.if-x.false refl
