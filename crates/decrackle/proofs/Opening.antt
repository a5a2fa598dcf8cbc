-- Where decrackle's floor starts: the magnitudes of the first places, their sum as a loop adds it up, and the mean. Assumes nothing.
use mathlib.Core.Path.{◌≡◌, refl, sym, ap, ◌∙◌}
use mathlib.Core.List.{List, [], ◌∷◌, ◌++◌}
use Prim.Native.Nat.{ℕ, zero, suc, ◌+◌, ◌-◌, ◌≤◌, ◌<◌, min}
use native.Mathlib.Omega.{arith}
use lib.ListN.{length, take}
use lib.Ieee.{Float, binary32, of_bits, round}
use Rattle.leaves.specs.Arithmetic.{◌+₃₂◌, ◌/₃₂◌, nought, near, count}
use Rattle.leaves.specs.Floats.{magnitude, larger}
use Rattle.leaves.proofs.Literals.{nought_word}
use Rattle.decrackle.specs.declared.Start.{Start}
use Rattle.decrackle.specs.declared.Start.TheVariants.{Mean, Old}
use Rattle.decrackle.specs.Decrackle.{detector, magnitudes_from, magnitudes, least_floor, mean_over, summed, mean_floor, old_floor, opening_floor}

-- 1e-6, as the code has it
pub millionth : of_bits binary32 897988541 ≡ near binary32 1 1000000
unfolding of_bits near round
millionth = refl

-- ---- The magnitudes

take_none : {A : Type 0} (l : List A) → take 0 l ≡ []
take_none [] = refl
take_none (x ∷ l) = refl

module _ (s : List ℕ) where
  pub length_magnitudes : (i n : ℕ) → length (magnitudes_from s i n) ≡ n
  unfolding magnitudes_from
  length_magnitudes i zero = refl
  length_magnitudes i (suc n) = ap suc (length_magnitudes (i + 1) n)

  -- those of n places and of the m behind them
  pub magnitudes_both : (i n m : ℕ) → magnitudes_from s i (n + m) ≡ magnitudes_from s i n ++ magnitudes_from s (i + n) m
  unfolding magnitudes_from
  magnitudes_both i zero m =
      let none : 0 + m ≡ m = omega arith in
      let same : i + 0 ≡ i = omega arith in
      rw (none, same) refl
  magnitudes_both i (suc n) m =
      let one : suc n + m ≡ suc (n + m) = omega arith in
      let next : i + suc n ≡ i + 1 + n = omega arith in
      rw (one, next) (ap (λ (l : List Float). magnitude (detector s i) ∷ l) (magnitudes_both (i + 1) n m))

  -- the first k of them, or all where there are fewer
  pub take_magnitudes : (k i n : ℕ) → take k (magnitudes_from s i n) ≡ magnitudes_from s i (min n k)
  unfolding magnitudes_from
  take_magnitudes zero i n =
      let none : min n 0 ≡ 0 = omega arith in
      rw none (take_none (magnitudes_from s i n))
  take_magnitudes (suc k) i zero =
      let none : min 0 (suc k) ≡ 0 = omega arith in
      rw none refl
  take_magnitudes (suc k) i (suc n) =
      let one : min (suc n) (suc k) ≡ suc (min n k) = omega arith in
      rw one (ap (λ (l : List Float). magnitude (detector s i) ∷ l) (take_magnitudes k (i + 1) n))

  -- ---- Their sum, added up one by one

  -- one is added, and what is left gives the whole
  pub sum_more : (sum d a whole : Float) (i n : ℕ) → i < n → d ≡ detector s i → a ≡ magnitude d
      → summed sum (magnitudes_from s i (n - i)) ≡ whole → summed (sum +₃₂ a) (magnitudes_from s (i + 1) (n - (i + 1))) ≡ whole
  unfolding summed magnitudes_from
  sum_more sum d a whole i n h ed ea rest =
      let left : n - i ≡ suc (n - (i + 1)) = omega arith in
      rw (ea, ed) (sym (ap (λ (k : ℕ). summed sum (magnitudes_from s i k)) left) ∙ rest)

  -- where nothing is left, the whole is there
  sum_all : (sum whole : Float) (i n : ℕ) → n ≤ i → summed sum (magnitudes_from s i (n - i)) ≡ whole → sum ≡ whole
  unfolding summed magnitudes_from
  sum_all sum whole i n h rest =
      let none : n - i ≡ 0 = omega arith in
      sym (ap (λ (k : ℕ). summed sum (magnitudes_from s i k)) none) ∙ rest

  pub sum_whole : (sum : Float) (i n : ℕ) → n ≤ i
      → summed sum (magnitudes_from s i (n - i)) ≡ summed (of_bits binary32 0) (magnitudes_from s 0 (n - 0))
      → sum ≡ summed nought (magnitudes_from s 0 n)
  sum_whole sum i n h rest = let all : n - 0 ≡ n = omega arith in sum_all sum _ i n h (rest ∙ rw (all, nought_word) refl)

-- ---- The mean

pub mean_is : (sum x y : Float) (n : ℕ) → x ≡ count n → y ≡ larger (sum /₃₂ x) (of_bits binary32 897988541) → y ≡ mean_floor sum n
unfolding mean_floor least_floor
mean_is sum x y n ex ey = ey ∙ rw (ex, millionth) refl

-- of the first n magnitudes of a list
mean_first : (ms : List Float) (n : ℕ) (sum floor : Float) → length (take mean_over ms) ≡ n
    → sum ≡ summed nought (take mean_over ms) → floor ≡ mean_floor sum n → floor ≡ opening_floor Mean ms
unfolding opening_floor
mean_first ms n sum floor en es ef = ef ∙ rw (es, ← en) refl

-- the floor starts there, by the sum of the places that it goes over: 1,024, or all where there are fewer
pub opens_mean : (s : List ℕ) (start : Start) → start ≡ Mean → (sum floor : Float) (n : ℕ) → n ≡ min (length s) mean_over
    → sum ≡ summed nought (magnitudes_from s 0 n) → floor ≡ mean_floor sum n → floor ≡ opening_floor start (magnitudes s)
unfolding magnitudes
opens_mean s start from_mean sum floor n en es ef =
    let first : take mean_over (magnitudes s) ≡ magnitudes_from s 0 n =
    take_magnitudes s mean_over 0 (length s) ∙ ap (magnitudes_from s 0) (sym en) in
    mean_first (magnitudes s) n sum floor (ap length first ∙ length_magnitudes s 0 n) (es ∙ ap (summed nought) (sym first)) ef
    ∙ ap (λ (b : Start). opening_floor b (magnitudes s)) (sym from_mean)

pub opens_old : (ms : List Float) (start : Start) → start ≡ Old → of_bits binary32 897988541 ≡ opening_floor start ms
unfolding opening_floor old_floor
opens_old ms start h = rw h millionth
