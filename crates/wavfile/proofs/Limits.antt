-- The limit of 1 ms is at most 384 samples at rates up to 384,000 a second: a product of floats grows with its factors, and what is cut
-- off a float grows with it. Assumes nothing.
use Prim.Native.Nat.{ℕ, zero, suc, ◌*◌, ◌/◌, ◌≤◌, ◌<◌}
use native.Mathlib.Nat.{le_trans, min-le_left, zero-mul}
use native.Mathlib.Omega.{arith}
use lib.Dec.{T, lit≤, lt→ltb}
use mathlib.Core.Bool.{true, false}
use lib.Ieee.{Float, nan, inf, fin, binary32, up, down, le, lt, is_nan, of_int, to_unsigned}
use lib.Ieee.Exact.{HasValue}
use lib.Ieee.Back.{round_whole}
use lib.Ieee.Nearest.{div_mono}
use lib.Ieee.Order.{le_of_values}
use lib.Ieee.Positive.{num, den, positive, den_pos, positive_of_value, le→cross, mul_mono}
use Rattle.leaves.specs.Arithmetic.{◌*₃₂◌, ◌/₃₂◌, one, count}
use Rattle.leaves.specs.Floats.{larger}
use Rattle.leaves.proofs.Choice.{picks}
use Rattle.inpaint.specs.Auto.{limit}
use Rattle.wavfile.specs.Program.{LimitAtMost384}

-- what is cut off a float is no more than what is cut off a larger one
cut_mono : (x y : Float) → T (positive y) → T (le x y) → to_unsigned 64 x ≤ num y / den y
unfolding to_unsigned le
cut_mono nan y q h = omega arith
cut_mono (inf true) y q h = omega arith
cut_mono (inf false) nan q h = absurd q
cut_mono (inf false) (inf t) q h = absurd q
cut_mono (inf false) (fin true n d) q h = absurd q
cut_mono (inf false) (fin false n d) q h = absurd h
cut_mono (fin true m e) y q h = omega arith
cut_mono (fin false zero e) y q h =
    let cross : 0 * up e * den y ≤ num y * down e = rw (zero-mul (up e), zero-mul (den y)) (omega arith) in
    le_trans (min-le_left _ _) (div_mono (0 * up e) (down e) (num y) (den y) (den_pos (fin false zero e)) (den_pos y) cross)
cut_mono (fin false (suc m) e) y q h =
    let cross = le→cross (fin false (suc m) e) y (lt→ltb 0 (suc m) (omega arith)) q h in
    le_trans (min-le_left _ _) (div_mono (suc m * up e) (down e) (num y) (den y) (den_pos (fin false (suc m) e)) (den_pos y) cross)

-- a thousandth, and the limit's product at a rate
abbrev thousandth : Float
thousandth = one /₃₂ count 1000

abbrev product : ℕ → Float
product rate = thousandth *₃₂ count rate

thousandth_positive : T (positive thousandth)
unfolding limit
thousandth_positive = tt

thousandth_same : T (le thousandth thousandth)
unfolding limit le
thousandth_same = tt

top_positive : T (positive (product 384000))
unfolding limit
top_positive = tt

top_cut : num (product 384000) / den (product 384000) ≤ 384
unfolding limit
top_cut = lit≤ tt

whole_count : (n : ℕ) → n ≤ 384000 → HasValue (count n) false n 1
unfolding count of_int
whole_count n h = round_whole binary32 false n (le_trans h (lit≤ tt))

product_cut : (rate : ℕ) → 0 < rate → rate ≤ 384000 → to_unsigned 64 (product rate) ≤ 384
product_cut rate some h =
    let v = whole_count rate h in
    let top = whole_count 384000 (lit≤ tt) in
    let p = positive_of_value (count rate) rate 1 v some in
    let q = positive_of_value (count 384000) 384000 1 top (omega arith) in
    let ordered = le_of_values (count rate) (count 384000) rate 1 384000 1 (omega arith) (omega arith) v top (omega arith) in
    le_trans
    (cut_mono (product rate) (product 384000) top_positive
    (mul_mono binary32 thousandth thousandth (count rate) (count 384000) thousandth_positive thousandth_positive p q thousandth_same ordered))
    top_cut

pub limit_at_most_384 : LimitAtMost384
unfolding limit larger
limit_at_most_384 zero h = lit≤ tt
limit_at_most_384 (suc r) h =
    let P : Float → Type 0 = λ x. to_unsigned 64 x ≤ 384 in
    let least : P one = lit≤ tt in
    picks P (is_nan (product (suc r))) one _ least
    (picks P (lt (product (suc r)) one) one (product (suc r)) least (product_cut (suc r) (omega arith) h))
