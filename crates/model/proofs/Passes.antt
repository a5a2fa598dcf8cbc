-- The passes: what stands in the gap has no say in a pass, so every number of passes gives what one gives. Assumes nothing.
use mathlib.Core.Path.{◌≡◌, refl, sym, ap, ◌∙◌}
use mathlib.Core.Bool.{Bool, true, ◌&&◌}
use mathlib.Core.List.{List, [], ◌++◌, append_assoc}
use Prim.Native.Nat.{ℕ, zero, suc, ◌+◌, ◌-◌, ◌≤◌, ◌<◌, min}
use native.Mathlib.Omega.{arith}
use mathlib.Core.Logic.{inl, inr}
use lib.ListN.{length, take, drop}
use lib.Dec.{ltb}
use lib.Seq.{sets, sets-eq, length-sets}
use lib.Ieee.{Float, nan, neg}
use borrow.Author.Tests.{le-ltb, le-leb, ltb-true, leb-true}
use Rattle.leaves.specs.Arithmetic.{◌+₆₄◌, ◌*₆₄◌, at, nought}
use Rattle.leaves.proofs.Lists.{read_before, read_after}
use Rattle.leaves.proofs.Choice.{truth, both_hold}
use Rattle.model.specs.Model.{plus, plus_where, known, lag_sum, lags, estimate_ar_known, coef_autocorr, right_side, right_sides}
use Rattle.model.specs.Model.{solve_spd_banded, backward, solved, pass, passes, order_for, filled}
use Rattle.model.specs.Order.{model_order}
use Rattle.leaves.proofs.Parts.{part_of_sets}
use Rattle.model.proofs.sums.Laws.{plus_agree, each_agree, known_before}

-- two windows that are the same outside the gap
pub record Same (g len : ℕ) (seg seg' : List Float) : Type 0 where
  pub count : length seg' ≡ length seg
  pub outside : (i : ℕ) → known g len i ≡ true → at seg' i ≡ at seg i

-- a place is known where it lies before the gap or behind it, and nowhere else
is_known_before : (g len i : ℕ) → i < g → known g len i ≡ true
is_known_before g len i h = sym (known_before g len i h)

is_known_behind : (g len i : ℕ) → g + len ≤ i → known g len i ≡ true
is_known_behind g len i h = rw (le-ltb i g (omega arith), le-leb _ _ h) refl

known_where : (g len i : ℕ) {P : Type 0} → (i < g → P) → (g + len ≤ i → P) → known g len i ≡ true → P
known_where g len i before behind h =
    elim (truth (ltb i g)) [
      | inl holds ↦ before (ltb-true i g holds)
      | inr fails ↦ behind (leb-true (g + len) i (rw fails at h))
    ]

-- sums over the places that pass a test agree where the functions agree on these
where_agree : (test : ℕ → Bool) (f f' : ℕ → Float) (i n : ℕ) (s : Float) → ((k : ℕ) → test k ≡ true → f k ≡ f' k)
    → plus_where test f i n s ≡ plus_where test f' i n s
unfolding plus_where
where_agree test f f' i zero s same = refl
where_agree test f f' i (suc n) s same =
    elim (truth (test i)) [
      | inl holds ↦ rw (holds, same i holds) (where_agree test f f' (i + 1) n (s +₆₄ f' i) same)
      | inr fails ↦ rw fails (where_agree test f f' (i + 1) n s same)
    ]

-- ---- A pass reads what is known

module _ (g len : ℕ) (seg seg' : List Float) (same : Same g len seg seg') where
  lag_same : (lag : ℕ) → lag_sum seg' g len lag ≡ lag_sum seg g len lag
  unfolding lag_sum
  lag_same lag =
      rw same.count
      (where_agree (λ i. known g len i && known g len (i - lag)) (λ i. at seg' i *₆₄ at seg' (i - lag)) (λ i. at seg i *₆₄ at seg (i - lag))
      lag (length seg - lag) nought
      (λ i h. let two = both_hold (known g len i) (known g len (i - lag)) h in rw (same.outside i two.0, same.outside (i - lag) two.1) refl))

  lags_same : (p : ℕ) → lags seg' g len p ≡ lags seg g len p
  unfolding lags
  lags_same p = each_agree (lag_sum seg' g len) (lag_sum seg g len) 0 (p + 1) (λ k l h. lag_same k)

  estimate_same : (p : ℕ) → estimate_ar_known seg' g len p ≡ estimate_ar_known seg g len p
  unfolding estimate_ar_known
  estimate_same p = rw (lags_same p) refl

  pub order_same : (p : ℕ) → model_order seg' g len p ≡ model_order seg g len p
  unfolding model_order
  order_same p = rw (lags_same p) refl

  before_same : (b : List Float) (p c : ℕ) (s : Float)
      → plus (λ x. at b (c - x) *₆₄ at seg' x) (c - p) (g - (c - p)) s ≡ plus (λ x. at b (c - x) *₆₄ at seg x) (c - p) (g - (c - p)) s
  before_same b p c s =
      plus_agree (λ x. at b (c - x) *₆₄ at seg' x) (λ x. at b (c - x) *₆₄ at seg x) (c - p) (g - (c - p)) s
      (λ x l h. rw (same.outside x (is_known_before g len x (omega arith))) refl)

  behind_same : (b : List Float) (c n : ℕ) (s : Float)
      → plus (λ x. at b (x - c) *₆₄ at seg' x) (g + len) n s ≡ plus (λ x. at b (x - c) *₆₄ at seg x) (g + len) n s
  behind_same b c n s =
      plus_agree (λ x. at b (x - c) *₆₄ at seg' x) (λ x. at b (x - c) *₆₄ at seg x) (g + len) n s
      (λ x l h. rw (same.outside x (is_known_behind g len x l)) refl)

  right_same : (b : List Float) (p i : ℕ) → right_side seg' g len b p i ≡ right_side seg g len b p i
  unfolding right_side
  right_same b p i =
      rw (same.count, before_same b p (g + i) nought)
      (ap neg (behind_same b (g + i) (min (g + i + p + 1) (length seg) - (g + len)) _))

  pub solved_same : (p : ℕ) → solved seg' g len p ≡ solved seg g len p
  unfolding solved right_sides
  solved_same p =
      rw (estimate_same p)
      (let b = coef_autocorr (estimate_ar_known seg g len p) p in
      ap (λ (rhs : List Float). solve_spd_banded b rhs p len)
      (each_agree (right_side seg' g len b p) (right_side seg g len b p) 0 len (λ k l h. right_same b p k)))

-- ---- As many results as the gap has samples

backward_length : (band y : List Float) (p len n : ℕ) (x : List Float) → length (backward band y p len n x) ≡ n + length x
unfolding backward
backward_length band y p len zero x = omega arith
backward_length band y p len (suc n) x = backward_length band y p len n _ ∙ omega arith

pub solved_length : (seg : List Float) (g len p : ℕ) → length (solved seg g len p) ≡ len
unfolding solved solve_spd_banded
solved_length seg g len p = backward_length _ _ p len len [] ∙ omega arith

-- ---- A pass again

pub pass_stores : (g len p : ℕ) (seg : List Float) → g + len ≤ length seg → pass g len p seg ≡ sets seg g (solved seg g len p)
unfolding pass
pass_stores g len p seg h =
    let l = solved seg g len p in
    let n : length l ≡ len = solved_length seg g len p in
    sym (sets-eq l seg g (rw n h) ∙ append_assoc (take g seg) l (drop (g + length l) seg) ∙ ap (λ (k : ℕ). take g seg ++ (l ++ drop (g + k) seg)) n)

pub stored_same : (g len : ℕ) (seg l : List Float) → length l ≡ len → Same g len seg (sets seg g l)
stored_same g len seg l n =
    record {
      count = length-sets seg g l;
      outside =
          λ i. known_where g len i (λ h. read_before seg l g i nan h) (λ h. read_after seg l g i nan (rw n h));
    }

-- "Prove that every count gives the answer of one pass."
pub one_pass : (n : ℕ) (seg : List Float) (g len : ℕ) → g + len ≤ length seg → filled n seg g len ≡ solved seg g len (order_for len)
unfolding filled passes
one_pass n seg g len h = go n seg h
  where
    p : ℕ
    p = order_for len

    once : (seg : List Float) → g + len ≤ length seg → take len (drop g (pass g len p seg)) ≡ solved seg g len p
    once seg h =
        rw (pass_stores g len p seg h) (part_of_sets seg (solved seg g len p) g len (solved_length seg g len p) h)

    go : (n : ℕ) (seg : List Float) → g + len ≤ length seg → take len (drop g (passes n g len p seg)) ≡ solved seg g len p
    go zero seg h = once seg h
    go (suc zero) seg h = once seg h
    go (suc (suc n)) seg h =
        let after = stored_same g len seg (solved seg g len p) (solved_length seg g len p) in
        rw (pass_stores g len p seg h)
        (go (suc n) (sets seg g (solved seg g len p)) (rw after.count h) ∙ solved_same g len seg _ after p)

pub filled_length : (n : ℕ) (seg : List Float) (g len : ℕ) → g + len ≤ length seg → length (filled n seg g len) ≡ len
filled_length n seg g len h = ap length (one_pass n seg g len h) ∙ solved_length seg g len (order_for len)
