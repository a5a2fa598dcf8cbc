-- The window around a gap, what a repair of it needs and what it reads, as the functions work them out. Assumes
-- nothing.
use Rattle.std.proofs.Common.{◌≡◌, ℕ, ◌+◌, ◌-◌, ◌*◌, ◌<◌, ◌≤◌, min, Bool, true, false, ◌||◌, eqb, ltb, leb, List, length, take, drop, sym, refl, ◌∙◌, inl, inr, true≢false, mul-le-mul, arith, ltb-false, ltb-true, le-ltb, lt-ltb, ne_eqb, leb-false}
use borrow.Author.Tests.{lt-leb, eqb-false}
use Rattle.model.specs.Model.{order_for, doubles_for, most_window}
use Rattle.recording.specs.declared.Reason.{Reason}
use Rattle.recording.specs.Answer.{Answer}
use Rattle.std.specs.Prelude.{Ok, Err}
use Rattle.recording.specs.Recording.{readable}
use Rattle.leaves.proofs.Choice.{truth, EitherWay}
use Rattle.inpaint.specs.Gap.{gap_wrong, context, from, to, window, needed}
use Rattle.inpaint.specs.Gap.{known_before, known_behind, all_readable}

-- ---- Refusal 5

-- a gap that it does not turn away
pub record Right (n start len : ℕ) : Type 0 where
  pub some : 1 ≤ len
  pub inside : start + len ≤ n

pub gap_right : (n start len : ℕ) → gap_wrong n start len ≡ false → Right n start len
gap_right n start len h =
    go (eqb len 0) (leb n start) (ltb n (start + len)) (eqb-false len 0) (leb-false n start) (ltb-false n (start + len)) h
  where
    go : (a b c : Bool) → (a ≡ false → len ≡ 0 → ⊥) → (b ≡ false → start < n) → (c ≡ false → start + len ≤ n)
        → a || b || c ≡ false → Right n start len
    go true b c some inside fits h = absurd (true≢false h)
    go false true c some inside fits h = absurd (true≢false h)
    go false false true some inside fits h = absurd (true≢false h)
    go false false false some inside fits h =
        let there : len ≡ 0 → ⊥ = some refl in
        record { some = omega arith; inside = fits refl }

-- one that it does not turn away is such a gap
pub right_gap : (n start len : ℕ) → 1 ≤ len → start + len ≤ n → gap_wrong n start len ≡ false
right_gap n start len some inside =
    rw (ne_eqb len 0 (λ (e : len ≡ 0). absurd (omega arith)), lt-leb n start (omega arith), le-ltb n (start + len) inside) refl

-- the last of its tests, as the function makes it without a sum
pub past_end : (n start len : ℕ) → start < n → ltb (n - start) len ≡ ltb n (start + len)
past_end n start len h = go (truth (ltb n (start + len)))
  where
    go : EitherWay (ltb n (start + len)) → ltb (n - start) len ≡ ltb n (start + len)
    go (inl t) = lt-ltb (n - start) len (omega (arith, ltb-true n (start + len) t)) ∙ sym t
    go (inr t) = le-ltb (n - start) len (omega (arith, ltb-false n (start + len) t)) ∙ sym t

-- ---- The context

pub context_line : (len : ℕ) → 2048 < len → 1 ≡ context len
context_line len h = rw (lt-ltb _ _ h) refl

pub context_least : (len : ℕ) → len ≤ 2048 → 4 * len ≤ 1024 → 1024 ≡ context len
context_least len h k = rw (le-ltb _ _ h) (omega arith)

pub context_four : (len : ℕ) → len ≤ 2048 → 1024 < 4 * len → 4 * len ≡ context len
context_four len h k = rw (le-ltb _ _ h) (omega arith)

-- no sum with it overflows
pub context_most : (len : ℕ) → context len ≤ 8192
context_most len = go (truth (ltb 2048 len))
  where
    go : EitherWay (ltb 2048 len) → context len ≤ 8192
    go (inl h) = rw h (omega arith)
    go (inr h) =
        let short : len ≤ 2048 = ltb-false _ _ h in
        rw h (omega arith)

-- ---- What is needed

pub needed_line : (n start len : ℕ) → 2048 < len → len ≡ needed n start len
unfolding needed
needed_line n start len h = rw (lt-ltb _ _ h) refl

pub needed_model : (n start len f t p : ℕ) → len ≤ 2048 → f ≡ from start len → t ≡ to n start len → p ≡ order_for len
    → doubles_for (t - f) len p ≡ needed n start len
unfolding needed
needed_model n start len f t p h ef et ep = rw (ef, et, ep, le-ltb _ _ h) refl

-- a window of the model is small, with a context of at most c
pub size_most : (n start len c : ℕ) → len ≤ 2048 → c ≤ 8192 → min n (start + len + c) - (start - c) ≤ most_window
size_most n start len c h k = omega arith

-- a gap of at most `most` samples, with a context of at most c and an order of at most p, needs no more than that many
pub needed_within : (n start len most c p : ℕ) → len ≤ most → most ≤ 2048 → context len ≤ c → order_for len ≤ p
    → needed n start len ≤ most + 2 * c + most * (p + 1) + 3 * most + 4 * (p + 1)
needed_within n start len most c p short model wide order =
    rw (← needed_model n start len (from start len) (to n start len) (order_for len) (omega arith) refl refl refl)
    (sum (len * (order_for len + 1)) (most * (p + 1)) (order_for len) order (context len) wide (mul-le-mul short (omega arith)))
  where
    sum : (b band q : ℕ) → q ≤ p → (d : ℕ) → d ≤ c → b ≤ band
        → min n (start + len + d) - (start - d) + b + 3 * len + 4 * (q + 1) ≤ most + 2 * c + band + 3 * most + 4 * (p + 1)
    sum b band q hq d hd hb = omega arith

-- ---- What is read

module _ (samples : List ℕ) (start len f t : ℕ) (ef : f ≡ from start len) (et : t ≡ to (length samples) start len) where
  pub window_is : take (t - f) (drop f samples) ≡ window samples start len
  unfolding window
  window_is = rw (ef, et) refl

  -- a word before the gap is refused
  pub before_out : (a : Answer) (why : Reason) → a ≡ readable f (take (start - f) (drop f samples)) → a ≡ Err why
      → a ≡ all_readable samples start len
  unfolding all_readable known_before
  before_out a why e h = rw (sym (rw ef at e) ∙ h) h

  -- none is, and those behind it decide
  pub before_in : (a b : Answer) (m : ℕ) → a ≡ readable f (take (start - f) (drop f samples)) → a ≡ Ok m
      → b ≡ readable (start + len) (take (t - (start + len)) (drop (start + len) samples))
      → b ≡ all_readable samples start len
  unfolding all_readable known_before known_behind
  before_in a b m e h k = rw (sym (rw ef at e) ∙ h) (rw et at k)
