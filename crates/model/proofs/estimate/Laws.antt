-- The model's coefficients: what a run of stores leaves in the areas of the workspace, loops that fill an area place by
-- place, an order of Levinson's recursion and its ends, and the literals of the code. Assumes nothing.
use mathlib.Core.Path.{◌≡◌, refl, sym, ap, ◌∙◌}
use mathlib.Core.Bool.{Bool, true, false, cond, ◌&&◌, and-false}
use mathlib.Core.List.{List, [], ◌∷◌, ◌++◌}
use Prim.Native.Nat.{ℕ, suc, ◌+◌, ◌-◌, ◌*◌, ◌≤◌, ◌<◌}
use native.Mathlib.Omega.{arith}
use native.Mathlib.Numerals.{add-one}
use borrow.Author.Tests.{lt-ltb, le-ltb, eq-eqb, ne_eqb}
use lib.Dec.{ltb}
use lib.ListN.{length, set, take, drop, replicate, length-replicate}
use lib.Seq.{sets, sets-eq, paste, length-sets, get_or-take, get_or-drop, drop-set-add, take-set-lt}
use lib.Ieee.{Float, nan, binary64, neg, lt, le, of_bits}
use Rattle.leaves.specs.Arithmetic.{◌+₆₄◌, ◌-₆₄◌, ◌*₆₄◌, ◌/₆₄◌, nought, one, at}
use Rattle.leaves.specs.Floats.{magnitude}
use Rattle.model.specs.Model.{micro, pico, each, unit, lag_sum, lags, raised_at, raised, shortfall, orders}
use Rattle.model.specs.Model.{levinson, estimate_ar_known}
use Rattle.model.specs.Order.{highest_used, levinson_order, model_order}
use Rattle.model.specs.Areas.{area, Only, coefs_at}
use Rattle.leaves.proofs.Parts.{take-sets, store_next, part_of_sets, part_before_sets, part_behind_sets}
use Rattle.leaves.proofs.Parts.{part_length}
use borrow.Rule.Slice.PartMut.{put_mid}
use Rattle.leaves.proofs.Lists.{lent_back, lent_count}
use Rattle.leaves.proofs.Literals.{nought_double, one_double}
use Rattle.model.proofs.Parts.{only_sets, only_then, only_wider, only_before}
use Rattle.model.proofs.sums.Laws.{each_next, length_each, micro_word, pico_word}

-- ---- A run of stores: what it leaves in its own area, in one before or behind it, and in the rest

pub run_count : (w v l : List Float) (d : ℕ) → v ≡ sets w d l → length v ≡ length w
run_count w v l d e = ap length e ∙ length-sets w d l

pub run_stands : (w v l : List Float) (d n : ℕ) → v ≡ sets w d l → length l ≡ n → d + n ≤ length w → area v d n ≡ l
run_stands w v l d n e count h = ap (λ (z : List Float). area z d n) e ∙ part_of_sets w l d n count h

pub run_before : (w v l : List Float) (d from n : ℕ) → v ≡ sets w d l → from + n ≤ d → area v from n ≡ area w from n
run_before w v l d from n e h = ap (λ (z : List Float). area z from n) e ∙ part_before_sets w l d from n h

pub run_behind : (w v l : List Float) (d m from n : ℕ) → v ≡ sets w d l → length l ≡ m → d + m ≤ from
    → area v from n ≡ area w from n
run_behind w v l d m from n e count h =
    ap (λ (z : List Float). area z from n) e ∙ part_behind_sets w l d from n (rw count h)

pub run_only : (w v l : List Float) (d n low high : ℕ) → v ≡ sets w d l → length l ≡ n → low ≤ d → d + n ≤ high
    → Only low high w v
run_only w v l d n low high e count h k = rw e (only_sets w l d low high h (rw count k))

-- ---- A loop that stores f 0, f 1, .. from place d on

-- nothing is stored before the first turn
pub fill_start : (w : List Float) (d : ℕ) (f : ℕ → Float) → w ≡ sets w d (each f 0 0)
unfolding each
fill_start w d f = refl

-- one turn
pub fill_turn : (w₀ w : List Float) (d j : ℕ) (f : ℕ → Float) (v : Float) → w ≡ sets w₀ d (each f 0 j) → v ≡ f j
    → set w (d + j) v ≡ sets w₀ d (each f 0 (j + 1))
fill_turn w₀ w d j f v e ev =
    ap (λ (z : List Float). set z (d + j) v) e
    ∙ ap (λ (x : Float). set (sets w₀ d (each f 0 j)) (d + j) x) ev
    ∙ ap (λ (n : ℕ). set (sets w₀ d (each f 0 j)) (d + n) (f j)) (sym (length_each f 0 j))
    ∙ store_next w₀ (each f 0 j) d (f j)
    ∙ ap (λ (l : List Float). sets w₀ d l) (sym (each_next f j))

-- the last
pub fill_done : (w₀ w : List Float) (d j n : ℕ) (f : ℕ → Float) → w ≡ sets w₀ d (each f 0 j) → j ≡ n
    → w ≡ sets w₀ d (each f 0 n)
fill_done w₀ w d j n f e h = e ∙ ap (λ (k : ℕ). sets w₀ d (each f 0 k)) h

fill_at : (w₀ w l : List Float) (d k : ℕ) → w ≡ sets w₀ d l → k < d → at w k ≡ at w₀ k
fill_at w₀ w l d k e h =
    ap (λ (z : List Float). at z k) e
    ∙ sym (get_or-take d (sets w₀ d l) k nan h)
    ∙ ap (λ (z : List Float). at z k) (take-sets w₀ l d d (omega arith))
    ∙ get_or-take d w₀ k nan h

-- the first place of an area
area_first : (w : List Float) (from n : ℕ) → 0 < n → at (area w from n) 0 ≡ at w from
area_first w from n h =
    let here : from + 0 ≡ from = omega arith in
    get_or-take n (drop from w) 0 nan h ∙ get_or-drop from w 0 nan ∙ ap (at w) here

-- ---- The lags

pub lag_turn : (w₀ w : List Float) (size g len n lag : ℕ) (v : Float) → n ≡ size
    → w ≡ sets w₀ size (each (lag_sum (area w₀ 0 size) g len) 0 lag)
    → v ≡ lag_sum (area w 0 n) g len lag
    → set w (size + lag) v ≡ sets w₀ size (each (lag_sum (area w₀ 0 size) g len) 0 (lag + 1))
lag_turn w₀ w size g len n lag v en e ev =
    let f = lag_sum (area w₀ 0 size) g len in
    let same : area w 0 n ≡ area w₀ 0 size =
    ap (area w 0) en ∙ run_before w₀ w (each f 0 lag) size 0 size e (omega arith) in
    fill_turn w₀ w size lag f v e (ev ∙ ap (λ (l : List Float). lag_sum l g len lag) same)

pub lag_done : (w₀ w : List Float) (size g len p lag : ℕ) → lag ≡ p + 1
    → w ≡ sets w₀ size (each (lag_sum (area w₀ 0 size) g len) 0 lag)
    → w ≡ sets w₀ size (lags (area w₀ 0 size) g len p)
unfolding lags
lag_done w₀ w size g len p lag h e = fill_done w₀ w size lag (p + 1) (lag_sum (area w₀ 0 size) g len) e h

-- ---- The coefficients 1, 0, .., 0

pub length_unit : (p : ℕ) → length (unit p) ≡ p + 1
length_unit p = ap suc (length-replicate p nought) ∙ sym (add-one p)

-- +0 stored in the n places from a on
pub zeros_stored : (w part : List Float) (a n : ℕ) (x : Float) → a + n ≤ length w
    → part ≡ replicate (length (take (a + n - a) (drop a w))) x
    → put_mid a (a + n - a) w part ≡ sets w a (replicate n x)
zeros_stored w part a n x h e =
    let all : part ≡ replicate n x = e ∙ ap (λ (k : ℕ). replicate k x) (lent_count a n w h) in
    lent_back a n w part h (ap length all ∙ length-replicate n x) ∙ ap (sets w a) all

pub unit_stored : (w v : List Float) (a p : ℕ)
    → v ≡ sets (set w a (of_bits binary64 4607182418800017408)) (a + 1) (replicate p (of_bits binary64 0))
    → v ≡ sets w a (unit p)
unit_stored w v a p e =
    let next : a + 1 ≡ suc a = omega arith in
    e ∙ rw (next, nought_double, one_double) refl

-- ---- An area, copied

pub copied : (w v : List Float) (copy a count : ℕ) → copy + count ≤ length w → a + count ≤ length w
    → v ≡ paste w a (drop copy w) (copy + count - copy)
    → v ≡ sets w a (area w copy count)
copied w v copy a count h k e =
    let part : length (area w copy count) ≡ count = part_length w copy count h in
    let span : copy + count - copy ≡ count = omega arith in
    e
    ∙ ap (paste w a (drop copy w)) span
    ∙ sym (ap (λ (n : ℕ). (take a w ++ area w copy count) ++ drop (a + n) w) part)
    ∙ sym (sets-eq (area w copy count) w a (rw part k))

-- ---- The order i

-- no coefficient but those between the first and the i-th gains a mirror
module _ (a : List Float) (i : ℕ) (k : Float) (j : ℕ) where
  pub first_outside : j ≤ 0 → (ltb 0 j && ltb j i) ≡ false
  first_outside h = rw (le-ltb 0 j h) refl

  pub behind_outside : i ≤ j → (ltb 0 j && ltb j i) ≡ false
  behind_outside h = ap (λ (b : Bool). ltb 0 j && b) (le-ltb j i h) ∙ and-false (ltb 0 j)

  pub raised_between : 0 < j → j < i → at a j +₆₄ k *₆₄ at a (i - j) ≡ raised_at a i k j
  unfolding raised_at
  raised_between h l = rw (lt-ltb 0 j h, lt-ltb j i l) refl

  pub raised_last : j ≡ i → k ≡ raised_at a i k j
  unfolding raised_at
  raised_last e = rw (behind_outside (omega arith), eq-eqb j i e) refl

  pub raised_other : (ltb 0 j && ltb j i) ≡ false → (j ≡ i → ⊥) → at a j ≡ raised_at a i k j
  unfolding raised_at
  raised_other o e = rw (o, ne_eqb j i e) refl

-- one coefficient more of the order i, and all of them
pub raise_turn : (w₀ w : List Float) (copy a p n i j : ℕ) (k v : Float) → n ≡ p + 1 → copy + j ≤ a
    → w ≡ sets w₀ copy (each (raised_at (area w₀ a (p + 1)) i k) 0 j)
    → v ≡ raised_at (area w a n) i k j
    → set w (copy + j) v ≡ sets w₀ copy (each (raised_at (area w₀ a (p + 1)) i k) 0 (j + 1))
raise_turn w₀ w copy a p n i j k v en h e ev =
    let f = raised_at (area w₀ a (p + 1)) i k in
    let same : area w a n ≡ area w₀ a (p + 1) =
    ap (area w a) en ∙ run_behind w₀ w (each f 0 j) copy j a (p + 1) e (length_each f 0 j) h in
    fill_turn w₀ w copy j f v e (ev ∙ ap (λ (l : List Float). raised_at l i k j) same)

pub raise_done : (w₀ w : List Float) (copy a p i j : ℕ) (k : Float) → a + (p + 1) ≤ length w₀ → j ≡ p + 1
    → w ≡ sets w₀ copy (each (raised_at (area w₀ a (p + 1)) i k) 0 j)
    → w ≡ sets w₀ copy (raised (area w₀ a (p + 1)) i k)
unfolding raised
raise_done w₀ w copy a p i j k h e ev =
    let count : length (area w₀ a (p + 1)) ≡ p + 1 = part_length w₀ a (p + 1) h in
    fill_done w₀ w copy j (length (area w₀ a (p + 1))) (raised_at (area w₀ a (p + 1)) i k) ev (e ∙ sym count)

-- ---- An order in the workspace: worked out at `copy`, then copied to a

module _ (w w₁ w₂ : List Float) (copy a p i : ℕ) (k : Float) (h : copy + (p + 1) ≤ a) (room : a + (p + 1) ≤ length w)
    (e₁ : w₁ ≡ sets w copy (raised (area w a (p + 1)) i k)) (e₂ : w₂ ≡ sets w₁ a (area w₁ copy (p + 1))) where
  count_raised : length (raised (area w a (p + 1)) i k) ≡ p + 1
  unfolding raised
  count_raised =
      length_each (raised_at (area w a (p + 1)) i k) 0 (length (area w a (p + 1))) ∙ part_length w a (p + 1) room

  count_copy : length w₁ ≡ length w
  count_copy = run_count w w₁ (raised (area w a (p + 1)) i k) copy e₁

  count_copied : length (area w₁ copy (p + 1)) ≡ p + 1
  count_copied = part_length w₁ copy (p + 1) (rw count_copy (omega arith))

  order_area : area w₂ a (p + 1) ≡ raised (area w a (p + 1)) i k
  order_area =
      run_stands w₁ w₂ (area w₁ copy (p + 1)) a (p + 1) e₂ count_copied (rw count_copy room)
      ∙ run_stands w w₁ (raised (area w a (p + 1)) i k) copy (p + 1) e₁ count_raised (omega arith)

  order_only : (end : ℕ) → a + (p + 1) ≤ end → Only copy end w w₂
  order_only end le =
      only_then copy end w w₁ w₂
      (run_only w w₁ (raised (area w a (p + 1)) i k) copy (p + 1) copy end e₁ count_raised (omega arith) (omega arith))
      (run_only w₁ w₂ (area w₁ copy (p + 1)) a (p + 1) copy end e₂ count_copied (omega arith) le)

pub order_stands : (w w₁ w₂ : List Float) (copy a p i end : ℕ) (k : Float) → copy + (p + 1) ≤ a → a + (p + 1) ≤ length w
    → a + (p + 1) ≤ end
    → w₁ ≡ sets w copy (raised (area w a (p + 1)) i k)
    → w₂ ≡ sets w₁ a (area w₁ copy (p + 1))
    → (area w₂ a (p + 1) ≡ raised (area w a (p + 1)) i k) × Only copy end w w₂
order_stands w w₁ w₂ copy a p i end k h room le e₁ e₂ = (
  order_area w w₁ w₂ copy a p i k h room e₁ e₂,
  order_only w w₁ w₂ copy a p i k h room e₁ e₂ end le,
)

-- ---- Levinson's recursion

-- a choice, by what its test found
choose_true : {A : Type 0} (b : Bool) (x y : A) → b ≡ true → cond b x y ≡ x
choose_true b x y e = rw e refl

choose_false : {A : Type 0} (b : Bool) (x y : A) → b ≡ false → cond b x y ≡ y
choose_false b x y e = rw e refl

-- what the order i has to make up for, from the areas of the workspace as they stand
pub shortfall_here : (w₀ w : List Float) (r copy a p end m n i : ℕ) (acc : Float) → m ≡ p + 1 → n ≡ p + 1
    → r + (p + 1) ≤ copy
    → Only copy end w₀ w
    → acc ≡ shortfall (area w a m) (area w r n) i
    → acc ≡ shortfall (area w a (p + 1)) (area w₀ r (p + 1)) i
shortfall_here w₀ w r copy a p end m n i acc em en h o e =
    e
    ∙ ap (λ (k : ℕ). shortfall (area w a k) (area w r n) i) em
    ∙ ap (λ (l : List Float). shortfall (area w a (p + 1)) l i)
    (ap (area w r) en ∙ only_before copy end r (p + 1) w₀ w o h)

-- where the recursion stops: with which coefficients, and with which order
pub record Stop : Type 0 where
  pub coefs : List Float
  pub order : ℕ

abbrev pub stop : List Float → ℕ → Stop
stop a i = record { coefs = a; order = i }

-- by its two rules, of the orders from i on, n of them
abbrev pub stop_of : List Float → List Float → Float → ℕ → ℕ → Stop
stop_of r a e i n = stop (orders r a e i n) (highest_used r a e i n)

-- both rules choose by the same test
choose_both : (b : Bool) (a a' : List Float) (i i' : ℕ) → stop (cond b a a') (cond b i i') ≡ cond b (stop a i) (stop a' i')
choose_both true a a' i i' = refl
choose_both false a a' i i' = refl

-- the k of the order i, and e behind it
abbrev pub k_of : List Float → List Float → Float → ℕ → Float
k_of r a e i = neg (shortfall a r i) /₆₄ e

abbrev pub behind : List Float → List Float → Float → ℕ → Float
behind r a e i = e *₆₄ (one -₆₄ k_of r a e i *₆₄ k_of r a e i)

-- an order more, by its two tests
pub one_more : (r a : List Float) (e : Float) (i n : ℕ)
    → stop_of r a e i (suc n)
    ≡ cond (lt (magnitude e) pico) (stop a (i - 1))
    (cond (le (behind r a e i) nought) (stop (raised a i (k_of r a e i)) i) (stop_of r (raised a i (k_of r a e i)) (behind r a e i) (i + 1) n))
unfolding orders highest_used
one_more r a e i n =
    choose_both (lt (magnitude e) pico) _ _ _ _ ∙ ap (cond (lt (magnitude e) pico) (stop a (i - 1))) (choose_both (le (behind r a e i) nought) _ _ _ _)

-- the orders from i on, by the tests of a turn: none is left, e is too small, e ends it, or one order more
module _ (r a : List Float) (e : Float) (i p : ℕ) (whole : Stop) (rest : stop_of r a e i (p + 1 - i) ≡ whole) where
  pub orders_done : i ≡ p + 1 → stop a p ≡ whole
  unfolding orders highest_used
  orders_done h =
      let none : p + 1 - i ≡ 0 = omega arith in
      let last : p ≡ i - 1 = omega arith in
      ap (stop a) last ∙ sym (ap (stop_of r a e i) none) ∙ rest

  module _ (acc size k next : Float) (h : i ≤ p) (es : size ≡ magnitude e) (ea : acc ≡ shortfall a r i)
      (ek : k ≡ neg acc /₆₄ e) (en : next ≡ e *₆₄ (of_bits binary64 4607182418800017408 -₆₄ k *₆₄ k)) where
    one_order : stop_of r a e i (p + 1 - i)
        ≡ cond (lt size (of_bits binary64 4427486594234968593)) (stop a (i - 1))
        (cond (le next (of_bits binary64 0)) (stop (raised a i k) i) (stop_of r (raised a i k) next (i + 1) (p + 1 - (i + 1))))
    one_order =
        let left : p + 1 - i ≡ suc (p + 1 - (i + 1)) = omega arith in
        rw (left, en, ek, ea, es, one_double, pico_word, nought_double) (one_more r a e i (p + 1 - (i + 1)))

    pub orders_small : lt size (of_bits binary64 4427486594234968593) ≡ true → stop a (i - 1) ≡ whole
    orders_small small = sym (one_order ∙ choose_true _ _ _ small) ∙ rest

    module _ (large : lt size (of_bits binary64 4427486594234968593) ≡ false) where
      pub orders_ended : le next (of_bits binary64 0) ≡ true → stop (raised a i k) i ≡ whole
      orders_ended ends = sym (one_order ∙ choose_false _ _ _ large ∙ choose_true _ _ _ ends) ∙ rest

      pub orders_next : le next (of_bits binary64 0) ≡ false
          → stop_of r (raised a i k) next (i + 1) (p + 1 - (i + 1)) ≡ whole
      orders_next on = sym (one_order ∙ choose_false _ _ _ large ∙ choose_false _ _ _ on) ∙ rest

-- the coefficients that the orders left, from 1, 0, .., 0 on, are the model of the lags, and the order is the highest of them
pub levinson_ends : (w w₁ w₂ : List Float) (r p order : ℕ) → r + 3 * (p + 1) ≤ length w
    → w₁ ≡ sets w (r + 2 * (p + 1)) (unit p)
    → Only (r + (p + 1)) (r + 3 * (p + 1)) w₁ w₂
    → stop (area w₂ (r + 2 * (p + 1)) (p + 1)) order
    ≡ stop_of (area w₁ r (p + 1)) (area w₁ (r + 2 * (p + 1)) (p + 1)) (at w₁ r) 1 p
    → (area w₂ (r + 2 * (p + 1)) (p + 1) ≡ levinson (area w r (p + 1)) p)
    × Only (r + (p + 1)) (r + 3 * (p + 1)) w w₂
    × (order ≡ levinson_order (area w r (p + 1)) p)
unfolding levinson levinson_order
levinson_ends w w₁ w₂ r p order room e o whole =
    let a = r + 2 * (p + 1) in
    let count : length (unit p) ≡ p + 1 = length_unit p in
    let lags-kept : area w₁ r (p + 1) ≡ area w r (p + 1) = run_before w w₁ (unit p) a r (p + 1) e (omega arith) in
    let start : area w₁ a (p + 1) ≡ unit p = run_stands w w₁ (unit p) a (p + 1) e count (omega arith) in
    let first : at w₁ r ≡ at (area w r (p + 1)) 0 =
    fill_at w w₁ (unit p) a r e (omega arith) ∙ sym (area_first w r (p + 1) (omega arith)) in
    let ended : stop (area w₂ a (p + 1)) order ≡ stop_of (area w r (p + 1)) (unit p) (at (area w r (p + 1)) 0) 1 p =
    whole
    ∙ ap (λ (l : List Float). stop_of l (area w₁ a (p + 1)) (at w₁ r) 1 p) lags-kept
    ∙ ap (λ (l : List Float). stop_of (area w r (p + 1)) l (at w₁ r) 1 p) start
    ∙ ap (λ (x : Float). stop_of (area w r (p + 1)) (unit p) x 1 p) first in (
      ap (λ (s : Stop). s.coefs) ended,
      only_then (r + (p + 1)) (r + 3 * (p + 1)) w w₁ w₂
          (run_only w w₁ (unit p) a (p + 1) (r + (p + 1)) (r + 3 * (p + 1)) e count (omega arith) (omega arith))
          o,
      ap (λ (s : Stop). s.order) ended,
    )

-- ---- The coefficients of the model of what is known, from the lags behind the window

-- the first lag times 1 + 1e-6
raised_lag : (x y v : Float) → x ≡ y
    → v ≡ x *₆₄ (of_bits binary64 4607182418800017408 +₆₄ of_bits binary64 4517329193108106637)
    → v ≡ y *₆₄ (one +₆₄ micro)
raised_lag x y v e ev =
    ev
    ∙ ap (λ (z : Float). z *₆₄ (of_bits binary64 4607182418800017408 +₆₄ of_bits binary64 4517329193108106637)) e
    ∙ ap (λ (z : Float). y *₆₄ (z +₆₄ of_bits binary64 4517329193108106637)) one_double
    ∙ ap (λ (z : Float). y *₆₄ (one +₆₄ z)) micro_word

module _ (w w₁ : List Float) (size g len p : ℕ) (room : size + 3 * (p + 1) ≤ length w)
    (e : w₁ ≡ sets w size (lags (area w 0 size) g len p)) where
  count_lags : length (lags (area w 0 size) g len p) ≡ p + 1
  unfolding lags
  count_lags = length_each (lag_sum (area w 0 size) g len) 0 (p + 1)

  lags_count : length w₁ ≡ length w
  lags_count = run_count w w₁ (lags (area w 0 size) g len p) size e

  lags_stand : area w₁ size (p + 1) ≡ lags (area w 0 size) g len p
  lags_stand = run_stands w w₁ (lags (area w 0 size) g len p) size (p + 1) e count_lags (omega arith)

  first_lag : at w₁ size ≡ at (lags (area w 0 size) g len p) 0
  first_lag = sym (area_first w₁ size (p + 1) (omega arith)) ∙ ap (λ (l : List Float). at l 0) lags_stand

  lags_only : Only size (size + 3 * (p + 1)) w w₁
  lags_only =
      run_only w w₁ (lags (area w 0 size) g len p) size (p + 1) size (size + 3 * (p + 1)) e count_lags (omega arith)
      (omega arith)

  -- the first lag is not above 0
  pub estimate_unit : (w₂ : List Float) → le (at w₁ size) (of_bits binary64 0) ≡ true
      → w₂ ≡ sets w₁ (coefs_at size p) (unit p)
      → (area w₂ (coefs_at size p) (p + 1) ≡ estimate_ar_known (area w 0 size) g len p)
      × Only size (size + 3 * (p + 1)) w w₂
      × (0 ≡ model_order (area w 0 size) g len p)
  unfolding estimate_ar_known model_order
  estimate_unit w₂ none e₂ =
      let test : le (at (lags (area w 0 size) g len p) 0) nought ≡ true =
      sym (ap (λ (x : Float). le x nought) first_lag) ∙ ap (le (at w₁ size)) (sym nought_double) ∙ none in
      let count : length (unit p) ≡ p + 1 = length_unit p in
      let there : coefs_at size p + (p + 1) ≤ length w₁ = rw lags_count (omega arith) in
      let wrote : Only size (size + 3 * (p + 1)) w₁ w₂ =
      run_only w₁ w₂ (unit p) (coefs_at size p) (p + 1) size (size + 3 * (p + 1)) e₂ count (omega arith)
      (omega arith) in (
        run_stands w₁ w₂ (unit p) (coefs_at size p) (p + 1) e₂ count there
            ∙ sym (choose_true _ _ _ test),
        only_then size (size + 3 * (p + 1)) w w₁ w₂ lags_only wrote,
        sym (choose_true _ _ _ test),
      )

  -- it is, and is raised a little
  pub estimate_model : (v : Float) (w₃ : List Float) (order : ℕ) → le (at w₁ size) (of_bits binary64 0) ≡ false
      → v ≡ at w₁ size *₆₄ (of_bits binary64 4607182418800017408 +₆₄ of_bits binary64 4517329193108106637)
      → (area w₃ (coefs_at size p) (p + 1) ≡ levinson (area (set w₁ size v) size (p + 1)) p)
      × Only (size + (p + 1)) (size + 3 * (p + 1)) (set w₁ size v) w₃
      × (order ≡ levinson_order (area (set w₁ size v) size (p + 1)) p)
      → (area w₃ (coefs_at size p) (p + 1) ≡ estimate_ar_known (area w 0 size) g len p)
      × Only size (size + 3 * (p + 1)) w w₃
      × (order ≡ model_order (area w 0 size) g len p)
  unfolding estimate_ar_known model_order
  estimate_model v w₃ order some ev model =
      let r = lags (area w 0 size) g len p in
      let test : le (at r 0) nought ≡ false =
      sym (ap (λ (x : Float). le x nought) first_lag) ∙ ap (le (at w₁ size)) (sym nought_double) ∙ some in
      let value : v ≡ at r 0 *₆₄ (one +₆₄ micro) = raised_lag (at w₁ size) (at r 0) v first_lag ev in
      let here : size ≡ size + 0 = omega arith in
      let stands : area (set w₁ size v) size (p + 1) ≡ set r 0 v =
      ap (λ (k : ℕ). take (p + 1) (drop size (set w₁ k v))) here
      ∙ ap (take (p + 1)) (drop-set-add size w₁ 0 v)
      ∙ take-set-lt (p + 1) (drop size w₁) 0 v (omega arith)
      ∙ ap (λ (l : List Float). set l 0 v) lags_stand in
      let wrote : Only size (size + 3 * (p + 1)) w₁ (set w₁ size v) =
      only_sets w₁ (v ∷ []) size size (size + 3 * (p + 1)) (omega arith) (omega arith) in
      let rest : Only size (size + 3 * (p + 1)) (set w₁ size v) w₃ =
      only_wider (size + (p + 1)) (size + 3 * (p + 1)) size (size + 3 * (p + 1)) (set w₁ size v) w₃ (omega arith)
      (omega arith) model.1 in
      let raised-lags : area (set w₁ size v) size (p + 1) ≡ set r 0 (at r 0 *₆₄ (one +₆₄ micro)) = stands ∙ ap (set r 0) value in (
        model.0
            ∙ ap (λ (l : List Float). levinson l p) raised-lags
            ∙ sym (choose_false _ _ _ test),
        only_then size (size + 3 * (p + 1)) w (set w₁ size v) w₃
            (only_then size (size + 3 * (p + 1)) w w₁ (set w₁ size v) lags_only wrote)
            rest,
        model.2
            ∙ ap (λ (l : List Float). levinson_order l p) raised-lags
            ∙ sym (choose_false _ _ _ test),
      )
