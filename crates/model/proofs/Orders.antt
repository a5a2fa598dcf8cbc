-- The order that the model got to, as specs/Order.antt states it: what it says of the coefficients, how high it can be, and
-- what it does not depend on. Assumes nothing.
use mathlib.Core.Path.{◌≡◌, refl, sym, ap, ◌∙◌}
use mathlib.Core.List.{List}
use mathlib.Core.Logic.{inl, inr}
use Prim.Native.Nat.{ℕ, zero, suc, ◌+◌, ◌-◌, ◌≤◌, ◌<◌}
use native.Mathlib.Nat.{zero-add, add-zero}
use native.Mathlib.Omega.{arith}
use lib.ListN.{length, set, get_or-replicate}
use lib.Seq.{sets}
use lib.Ieee.{Float, nan, lt, le}
use Rattle.leaves.specs.Arithmetic.{◌*₆₄◌, ◌+₆₄◌, nought, one, at}
use Rattle.leaves.specs.Floats.{magnitude}
use Rattle.leaves.proofs.Choice.{truth, picks}
use Rattle.model.specs.Model.{micro, pico, lags, unit, raised_at, raised, orders, levinson, estimate_ar_known}
use Rattle.model.specs.Model.{solved}
use Rattle.model.specs.Order.{highest_used, levinson_order, model_order, passes_order, order_after_order}
use Rattle.model.specs.Order.{SoManyOrders, BehindIsZero, OrderAtMost, EveryPassAlike}
use Rattle.model.proofs.sums.Laws.{length_each, at_each}
use Rattle.model.proofs.estimate.Laws.{Stop, stop, stop_of, k_of, behind, one_more, behind_outside, raised_other, length_unit}
use Rattle.model.proofs.Passes.{stored_same, solved_length, pass_stores, order_same}

-- ---- Where the recursion stops

-- where it stops, of n orders from i on: no lower than before i, below i + n, and with the coefficients of just these orders
record Tied (r a : List Float) (e : Float) (i n : ℕ) (s : Stop) : Type 0 where
  low : i ≤ s.order + 1
  high : s.order < i + n
  made : s.coefs ≡ order_after_order r a e i (s.order + 1 - i)

module _ (r : List Float) where
  tied_before : (a : List Float) (e : Float) (i n : ℕ) → 1 ≤ i → Tied r a e i n (stop a (i - 1))
  unfolding order_after_order
  tied_before a e i n h =
      let none : i - 1 + 1 - i ≡ 0 = omega arith in
      record { low = omega arith; high = omega arith; made = rw none refl }

  tied_behind : (a : List Float) (e : Float) (i n : ℕ) → Tied r a e i (suc n) (stop (raised a i (k_of r a e i)) i)
  unfolding order_after_order
  tied_behind a e i n =
      let once : i + 1 - i ≡ 1 = omega arith in
      record { low = omega arith; high = omega arith; made = rw once refl }

  tied_on : (a : List Float) (e : Float) (i n : ℕ) (s : Stop) → Tied r (raised a i (k_of r a e i)) (behind r a e i) (i + 1) n s
      → Tied r a e i (suc n) s
  unfolding order_after_order
  tied_on a e i n s t =
      let more : s.order + 1 - i ≡ suc (s.order + 1 - (i + 1)) = omega (arith, t.low) in
      record { low = omega (arith, t.low); high = omega (arith, t.high); made = t.made ∙ rw more refl }

  tied : (n : ℕ) (a : List Float) (e : Float) (i : ℕ) → 1 ≤ i → Tied r a e i n (stop_of r a e i n)
  tied zero a e i h = unfold orders highest_used in tied_before a e i 0 h
  tied (suc n) a e i h =
      rw (one_more r a e i n)
      (picks (Tied r a e i (suc n)) (lt (magnitude e) pico) _ _ (tied_before a e i (suc n) h)
      (picks (Tied r a e i (suc n)) (le (behind r a e i) nought) _ _ (tied_behind a e i n)
      (tied_on a e i n _ (tied n (raised a i (k_of r a e i)) (behind r a e i) (i + 1) (omega arith)))))

pub so_many_orders : SoManyOrders
unfolding levinson levinson_order
so_many_orders r p =
    let order = highest_used r (unit p) (at r 0) 1 p in
    let all : order + 1 - 1 ≡ order = omega arith in
    (tied r p (unit p) (at r 0) 1 (omega arith)).made ∙ ap (order_after_order r (unit p) (at r 0) 1) all

-- ---- The coefficients behind the order

-- those from i on are +0, up to p
abbrev ZeroFrom : ℕ → ℕ → List Float → Type 0
ZeroFrom p i a = (length a ≡ p + 1) × ((j : ℕ) → i ≤ j → j ≤ p → at a j ≡ nought)

unit_zero : (p : ℕ) → ZeroFrom p 1 (unit p)
unit_zero p = (length_unit p, at_zero)
  where
    at_zero : (j : ℕ) → 1 ≤ j → j ≤ p → at (unit p) j ≡ nought
    at_zero zero h k = absurd (omega (arith, h))
    at_zero (suc j) h k = get_or-replicate p j nought nan (omega (arith, k))

raised_zero : (p i : ℕ) (a : List Float) (k : Float) → ZeroFrom p i a → ZeroFrom p (i + 1) (raised a i k)
unfolding raised
raised_zero p i a k z = (
  length_each (raised_at a i k) 0 (length a) ∙ z.0,
  λ j low high. at_each (raised_at a i k) 0 (length a) j (omega (arith, z.0))
      ∙ ap (raised_at a i k) (zero-add j)
      ∙ sym (raised_other a i k j (behind_outside a i k j (omega arith)) (λ (e : j ≡ i). omega arith))
      ∙ z.1 j (omega arith) high,
)

orders_zero : (r : List Float) (p n i : ℕ) (a : List Float) (e : Float) → ZeroFrom p i a → ZeroFrom p (i + n) (order_after_order r a e i n)
unfolding order_after_order
orders_zero r p zero i a e z = rw (add-zero i) z
orders_zero r p (suc n) i a e z =
    let more : i + suc n ≡ i + 1 + n = omega arith in
    rw more (orders_zero r p n (i + 1) (raised a i (k_of r a e i)) (behind r a e i) (raised_zero p i a (k_of r a e i) z))

pub behind_is_zero : BehindIsZero
unfolding estimate_ar_known model_order
behind_is_zero seg g len p i above most =
    elim (truth (le (at (lags seg g len p) 0) nought)) [
      | inl none ↦ rw none ((unit_zero p).1 i (omega (arith, rw none at above)) most)
      | inr some ↦
          let r = set (lags seg g len p) 0 (at (lags seg g len p) 0 *₆₄ (one +₆₄ micro)) in
          let low : levinson_order r p < i = rw some at above in
          rw (some, so_many_orders r p) ((orders_zero r p (levinson_order r p) 1 (unit p) (at r 0) (unit_zero p)).1 i (omega arith) most)
    ]

-- ---- How high it is

levinson_at_most : (r : List Float) (p : ℕ) → levinson_order r p ≤ p
unfolding levinson_order
levinson_at_most r p = let high = (tied r p (unit p) (at r 0) 1 (omega arith)).high in omega (arith, high)

pub order_at_most : OrderAtMost
unfolding model_order
order_at_most seg g len p = picks (λ (k : ℕ). k ≤ p) (le (at (lags seg g len p) 0) nought) _ _ (omega arith) (levinson_at_most _ p)

-- ---- What it does not depend on

pub every_pass_alike : EveryPassAlike
unfolding passes_order
every_pass_alike zero seg g len p h = refl
every_pass_alike (suc zero) seg g len p h = refl
every_pass_alike (suc (suc n)) seg g len p h =
    let after = stored_same g len seg (solved seg g len p) (solved_length seg g len p) in
    rw (pass_stores g len p seg h)
    (every_pass_alike (suc n) (sets seg g (solved seg g len p)) g len p (rw after.count h) ∙ order_same g len seg _ after p)
