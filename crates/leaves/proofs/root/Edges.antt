-- The root at the edges of a binade: of the numbers just below 1 and just below 4, of the least double and of the largest,
-- one double only is the root. Assumes nothing.
use Rattle.std.proofs.Common.{◌≡◌, ◌-◌, ◌^◌, false, T, pos, refl, ◌∙◌}
use lib.Ieee.{Float, fin, minus, binary64, fits}
use Rattle.leaves.specs.Root.{SquareRoot, root}
use Rattle.leaves.proofs.root.Agree.{agree}

-- no double but y is the root of x
abbrev pub OnlyRoot : Float → Float → Type 0
OnlyRoot x y = (r : Float) → T (fits binary64 r) → SquareRoot x r → r ≡ y

by_computing : (x y : Float) → T (fits binary64 x) → root x ≡ y → OnlyRoot x y
by_computing x y holds e r fits-r h = agree x r holds fits-r h ∙ e

-- 1 - 2 ^ -53 is its own root, to the nearest double
pub below_one : OnlyRoot (fin false (2 ^ 53 - 1) (minus 0 53)) (fin false (2 ^ 53 - 1) (minus 0 53))
unfolding root fits
below_one = by_computing (fin false (2 ^ 53 - 1) (minus 0 53)) (fin false (2 ^ 53 - 1) (minus 0 53)) tt refl

-- the root of 4 - 2 ^ -51 is 2 - 2 ^ -52
pub below_four : OnlyRoot (fin false (2 ^ 53 - 1) (minus 0 51)) (fin false (2 ^ 53 - 1) (minus 0 52))
unfolding root fits
below_four = by_computing (fin false (2 ^ 53 - 1) (minus 0 51)) (fin false (2 ^ 53 - 1) (minus 0 52)) tt refl

-- the root of 2 ^ -1074 is 2 ^ -537
pub of_the_least : OnlyRoot (fin false 1 (minus 0 1074)) (fin false 1 (minus 0 537))
unfolding root fits
of_the_least = by_computing (fin false 1 (minus 0 1074)) (fin false 1 (minus 0 537)) tt refl

-- the root of the largest double, (2 ^ 53 - 1) * 2 ^ 971, is (2 ^ 53 - 1) * 2 ^ 459
pub of_the_largest : OnlyRoot (fin false (2 ^ 53 - 1) (pos 971)) (fin false (2 ^ 53 - 1) (pos 459))
unfolding root fits
of_the_largest = by_computing (fin false (2 ^ 53 - 1) (pos 971)) (fin false (2 ^ 53 - 1) (pos 459)) tt refl
