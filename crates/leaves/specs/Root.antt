-- "The square root of a positive double, correctly rounded, its meaning for a finite one an inequality between squares of
-- whole numbers, plus infinity giving itself." `SquareRoot x r` is that meaning, for every double x. `root` is the function
-- that the rules of a repair compute with. proofs/root/Agree.antt shows that `root x` has the meaning and that no other
-- double has it. Definitions only.
use Rattle.std.specs.Prelude.{◌≡◌, ℕ, zero, suc, ◌+◌, ◌-◌, ◌*◌, ◌/◌, ◌^◌, ◌<◌, ◌≤◌, true, false, nat_le, nat_lt, Float}
use Rattle.std.specs.Float.{nan, inf, fin, binary64}
use Rattle.std.specs.Float.Ieee.{round, up, down, size}
use Rattle.std.specs.Float.Ieee.Exact.{HasValue}
use Rattle.std.specs.Prelude.{if◌then◌else◌}

-- ---- the meaning

-- q is the whole number nearest to the root of n: the root lies between q - 1/2 and q + 1/2. Doubled and squared, that is
-- said in whole numbers. Neither end can be met, since an odd square is no multiple of 4, so no tie occurs.
pub record Nearest (n q : ℕ) : Type 0 where
  pub above : (2 * q - 1) * (2 * q - 1) < 4 * n
  pub below : 4 * n < (2 * q + 1) * (2 * q + 1)

-- r is the root of the finite positive double x: scaled by a power of 4, x is a whole number n whose root has before its
-- point the 53 binary digits that a double keeps, and r, scaled by that power of 2, is the whole number q nearest to it.
-- So x is n * 4 ^ u / 4 ^ v, and r is q * 2 ^ u / 2 ^ v.
-- (`HasValue x s a c` says that x is finite, has the sign s, and is a / c in size.)
pub record NearestRoot (x r : Float) : Type 0 where
  pub n : ℕ
  pub q : ℕ
  pub u : ℕ
  pub v : ℕ
  pub of_x : HasValue x false (n * 4 ^ u) (4 ^ v)
  pub of_r : HasValue r false (q * 2 ^ u) (2 ^ v)
  pub digits : (4 ^ 52 ≤ n) × (n < 4 ^ 53)
  pub nearest : Nearest n q

-- r is the root of the double x, whatever it is: a NaN and a number below zero have none, which is a NaN; a zero of either
-- sign and plus infinity give themselves.
abbrev pub SquareRoot : Float → Float → Type 0
SquareRoot nan r = r ≡ nan
SquareRoot (inf true) r = r ≡ nan
SquareRoot (inf false) r = r ≡ inf false
SquareRoot (fin s zero e) r = r ≡ fin s zero e
SquareRoot (fin true (suc m) e) r = r ≡ nan
SquareRoot (fin false (suc m) e) r = NearestRoot (fin false (suc m) e) r

-- ---- the function

-- s with the k binary digits below it, from the highest down: each is 1 where the square is then still at most n
unfoldable pub extend : ℕ → ℕ → ℕ → ℕ
extend zero s n = s
extend (suc k) s n = let t = s + 2 ^ k in extend k (if nat_le (t * t) n then t else s) n

-- the whole root of an n below 4 ^ 53: the largest s with s * s ≤ n, which has 53 digits at most
unfoldable pub whole_root : ℕ → ℕ
unfolding extend
whole_root n = extend 53 0 n

-- the whole number nearest to the root of n: s + 1 where n is above s * s + s, which is 1/4 less than the square of s + 1/2
unfoldable pub nearest_root : ℕ → ℕ
unfolding whole_root
nearest_root n = let s = whole_root n in if nat_lt s (n - s * s) then s + 1 else s

-- The root of a positive double that is a of the least ones, a / 2 ^ 1074. Times 4 ^ 53 the number a has 107 binary digits
-- or more, and without the last 2 * k of them, which are zeros, 105 or 106: that is n, and its root has 53.
-- The double is n * 4 ^ k / 4 ^ 590, since 1074 is twice 537, and 537 and 53 make 590.
unfoldable pub root_of_units : ℕ → Float
unfolding nearest_root size round
root_of_units a =
    let k = (size a + 1) / 2 in
    let n = a * 4 ^ 53 / 4 ^ k in
    round binary64 false (nearest_root n * 2 ^ k) (2 ^ 590)

-- IEEE 754's square root. m * 2 ^ e, which is m * up e / down e, is in units of the least double that many times 2 ^ 1074.
unfoldable pub root : Float → Float
unfolding root_of_units
root nan = nan
root (inf true) = nan
root (inf false) = inf false
root (fin s zero e) = fin s zero e
root (fin true (suc m) e) = nan
root (fin false (suc m) e) = root_of_units (suc m * up e * 2 ^ 1074 / down e)

-- ---- the promise

-- what `square_root` says of its result: the function gives it, and it has the meaning
pub record Rooted (x r : Float) : Type 0 where
  pub rule : r ≡ root x
  pub meaning : SquareRoot x r
