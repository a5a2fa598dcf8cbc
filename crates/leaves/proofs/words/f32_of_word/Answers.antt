-- `leaves::words::f32_of_word` meets its contract: its test is that for a NaN's word. Assumes nothing.
use lib.Ieee.{binary32}
use Rattle.leaves.proofs.words.Laws.{nan_of_word, no_nan_word}
use Rattle.leaves.proofs.words.f32_of_word.Goals as goal

pub float_from_bits-result : goal.float_from_bits-result
float_from_bits-result c = no_nan_word binary32 c.args.word c.if-word-gt-INFINITY32.false

pub returns-then-word-gt-INFINITY32 : goal.returns-then-word-gt-INFINITY32
returns-then-word-gt-INFINITY32 c = nan_of_word binary32 c.args.word c.if-word-gt-INFINITY32.true
