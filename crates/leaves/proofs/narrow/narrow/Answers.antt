-- `narrow` meets its contract: the pattern without its sign is `narrow_pattern`'s, and the sign goes over as it is.
-- Assumes nothing.
use Rattle.std.proofs.Common.{T, sym, subst}
use lib.Ieee.{binary64, fits}
use Rattle.leaves.proofs.narrow.Laws.{with_no_sign, with_sign}
use Rattle.leaves.proofs.narrow.narrow.Goals as goal

pub returns-then-bits-lt-SIGN64 : goal.returns-then-bits-lt-SIGN64
returns-then-bits-lt-SIGN64 c =
    let held : T (fits binary64 c.args.x) = subst T (sym c.well_formed.0.1) tt in
    with_no_sign _ held _ c.word_of_f64-bits.ensures _ _ c.narrow_pattern.ensures
    c.f32_of_word.ensures

pub returns-else-bits-lt-SIGN64 : goal.returns-else-bits-lt-SIGN64
returns-else-bits-lt-SIGN64 c =
    let held : T (fits binary64 c.args.x) = subst T (sym c.well_formed.0.1) tt in
    with_sign _ held _ c.word_of_f64-bits.ensures _ _ c.if-bits-lt-SIGN64.false
    c.narrow_pattern-else-bits-lt-SIGN64.ensures c.f32_of_word-else-bits-lt-SIGN64.ensures
