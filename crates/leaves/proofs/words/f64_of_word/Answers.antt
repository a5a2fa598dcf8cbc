-- `leaves::words::f64_of_word` meets its contract: its test is that for a NaN's word. Assumes nothing.
use lib.Ieee.{binary64}
use Rattle.leaves.proofs.words.Laws.{nan_of_word, no_nan_word}
use Rattle.leaves.proofs.words.f64_of_word.Goals as goal

pub float_from_bits-result : goal.float_from_bits-result
float_from_bits-result c = no_nan_word binary64 c.args.word c.if-word-gt-INFINITY64.false

pub returns-then-word-gt-INFINITY64 : goal.returns-then-word-gt-INFINITY64
returns-then-word-gt-INFINITY64 c = nan_of_word binary64 c.args.word c.if-word-gt-INFINITY64.true
