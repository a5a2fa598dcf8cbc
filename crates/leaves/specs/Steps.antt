-- What inner functions say of patterns and scales. No published contract reaches these. Definitions only.
use Rattle.std.specs.Prelude.{ℕ, ◌+◌, Bool}
use Rattle.std.specs.Float.{Format}
use Rattle.std.specs.Float.Ieee.{top}
use Rattle.std.specs.Prelude.{if◌then◌else◌}

-- a pattern that has no sign, with the sign s
abbrev pub signed : Format → Bool → ℕ → ℕ
signed f s p = (if s then top f else 0) + p

-- the largest scale of a finite double, as digits * 2 ^ scale / 2 ^ 1126 with 53 digits: its exponent's field is 2046 at most, and
-- the scale is 51 more
abbrev pub most_scale : ℕ
most_scale = 2097
