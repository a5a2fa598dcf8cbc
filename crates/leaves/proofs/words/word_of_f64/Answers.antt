-- `leaves::words::word_of_f64` meets its contract: only a NaN differs from itself, and its word is 7FF8000000000000.
-- Assumes nothing.
use lib.Ieee.{binary64, to_bits}
use Rattle.leaves.proofs.words.Laws.{word_of_nan, no_nan}
use Rattle.leaves.proofs.words.word_of_f64.Goals as goal

pub float_to_bits-result : goal.float_to_bits-result
float_to_bits-result c = no_nan c.args.x c.if-x.false

pub returns-then-x : goal.returns-then-x
unfolding to_bits
returns-then-x c = word_of_nan binary64 c.args.x c.if-x.true
