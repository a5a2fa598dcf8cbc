-- `round_to_whole` meets its contract: from 2 ^ 23 on a float is its own answer, and below that the whole number is
-- `nearest_whole`'s and the sign goes over. Assumes nothing.
use Rattle.std.proofs.Common.{T, sym, subst}
use lib.Ieee.{binary32, fits}
use Rattle.leaves.proofs.whole.Laws.{at_large, with_no_sign, with_sign}
use Rattle.leaves.proofs.whole.round_to_whole.Goals as goal

pub returns-then-word : goal.returns-then-word
returns-then-word c =
    let held : T (fits binary32 c.args.x) = subst T (sym c.well_formed.0.1) tt in
    at_large _ _ held c.word_of_f32-word.ensures c.if-word.true

pub returns-then-word-lt-SIGN32 : goal.returns-then-word-lt-SIGN32
returns-then-word-lt-SIGN32 c =
    let held : T (fits binary32 c.args.x) = subst T (sym c.well_formed.0.1) tt in
    with_no_sign _ held _ c.word_of_f32-word.ensures _ _ c.nearest_whole.ensures c.nearest_u32_to_f32.ensures

pub returns-else-word-lt-SIGN32 : goal.returns-else-word-lt-SIGN32
returns-else-word-lt-SIGN32 c =
    let held : T (fits binary32 c.args.x) = subst T (sym c.well_formed.0.1) tt in
    with_sign _ held _ c.word_of_f32-word.ensures _ _ c.if-word-lt-SIGN32.false c.nearest_whole-else-word-lt-SIGN32.ensures
    c.nearest_u32_to_f32-else-word-lt-SIGN32.ensures
