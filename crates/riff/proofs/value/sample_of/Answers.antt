-- `riff::value::sample_of` meets its contract: the quotient of a count by 32,768 is the rule's, and the sign goes over. Assumes nothing.
use Rattle.std.proofs.Common.{arith}
use Rattle.riff.proofs.Values.{plain_sample, signed_sample}
use Rattle.riff.proofs.value.sample_of.Goals as goal

pub returns-then-value-lt-BELOW_ZERO : goal.returns-then-value-lt-BELOW_ZERO
returns-then-value-lt-BELOW_ZERO c = plain_sample _ _ _ (omega arith) c.nearest_u32_to_f32.ensures c.word_of_f32.ensures

pub returns-else-value-lt-BELOW_ZERO : goal.returns-else-value-lt-BELOW_ZERO
returns-else-value-lt-BELOW_ZERO c = signed_sample _ _ _ (omega arith) c.nearest_u32_to_f32-else-value-lt-BELOW_ZERO.ensures c.word_of_f32-else-value-lt-BELOW_ZERO.ensures
