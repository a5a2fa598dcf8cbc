-- The sums of the model: a turn and the end of a sum, that sums agree where what they sum agrees, and lists given place
-- by place. Assumes nothing.
use mathlib.Core.Path.{◌≡◌, refl, sym, ap, ◌∙◌}
use mathlib.Core.Bool.{Bool, true, false, ◌&&◌, cond}
use mathlib.Core.List.{List, [], ◌∷◌, ◌++◌}
use Prim.Native.Nat.{ℕ, zero, suc, ◌+◌, ◌-◌, ◌≤◌, ◌<◌, min}
use native.Mathlib.Omega.{arith}
use lib.ListN.{length}
use lib.Ieee.{Float, binary64, neg, of_bits}
use borrow.Author.Tests.{lt-ltb}
use Rattle.leaves.specs.Arithmetic.{◌+₆₄◌, ◌-₆₄◌, ◌*₆₄◌, at, nought}
use Rattle.leaves.proofs.Literals.{nought_double}
use Rattle.model.specs.Model.{micro, pico, plus, minus, plus_where, each, known, lag_sum, shortfall, coef_at}
use Rattle.model.specs.Model.{right_side}

-- ---- Lists given place by place

-- one place more
pub each_more : (f : ℕ → Float) (i n : ℕ) → each f i (suc n) ≡ each f i n ++ (f (i + n) ∷ [])
unfolding each
each_more f i zero = let here : i + 0 ≡ i = omega arith in rw here refl
each_more f i (suc n) =
    let next : i + suc n ≡ i + 1 + n = omega arith in
    rw next (ap (λ (xs : List Float). f i ∷ xs) (each_more f (i + 1) n))

-- the same for a list from place 0 on, as a loop counts
pub each_next : (f : ℕ → Float) (j : ℕ) → each f 0 (j + 1) ≡ each f 0 j ++ (f j ∷ [])
each_next f j =
    let next : j + 1 ≡ suc j = omega arith in
    let there : 0 + j ≡ j = omega arith in
    ap (each f 0) next ∙ each_more f 0 j ∙ ap (λ (k : ℕ). each f 0 j ++ (f k ∷ [])) there

pub length_each : (f : ℕ → Float) (i n : ℕ) → length (each f i n) ≡ n
unfolding each
length_each f i zero = refl
length_each f i (suc n) = ap suc (length_each f (i + 1) n)

-- one of them
pub at_each : (f : ℕ → Float) (i n j : ℕ) → j < n → at (each f i n) j ≡ f (i + j)
unfolding each
at_each f i zero j h = absurd (omega (arith, h))
at_each f i (suc n) zero h = let here : i ≡ i + 0 = omega arith in ap f here
at_each f i (suc n) (suc j) h =
    let next : i + 1 + j ≡ i + suc j = omega arith in
    at_each f (i + 1) n j (omega (arith, h)) ∙ ap f next

-- lists agree where the functions agree on their places
pub each_agree : (f f' : ℕ → Float) (i n : ℕ) → ((k : ℕ) → i ≤ k → k < i + n → f k ≡ f' k)
    → each f i n ≡ each f' i n
unfolding each
each_agree f f' i zero same = refl
each_agree f f' i (suc n) same =
    let rest = each_agree f f' (i + 1) n (λ k l h. same k (omega arith) (omega arith)) in
    rw (same i (omega arith) (omega arith), rest) refl

-- ---- Sums agree where the functions agree on the places summed

pub plus_agree : (f f' : ℕ → Float) (i n : ℕ) (s : Float) → ((k : ℕ) → i ≤ k → k < i + n → f k ≡ f' k)
    → plus f i n s ≡ plus f' i n s
unfolding plus
plus_agree f f' i zero s same = refl
plus_agree f f' i (suc n) s same =
    plus_agree f f' (i + 1) n (s +₆₄ f i) (λ k l h. same k (omega arith) (omega arith))
    ∙ ap (λ (x : Float). plus f' (i + 1) n (s +₆₄ x)) (same i (omega arith) (omega arith))

-- ---- A turn of a sum's loop, and its end: what is left to add gives the whole

pub plus_turn : (f : ℕ → Float) (i n : ℕ) (s whole : Float) → i < n → plus f i (n - i) s ≡ whole
    → plus f (i + 1) (n - (i + 1)) (s +₆₄ f i) ≡ whole
unfolding plus
plus_turn f i n s whole h rest =
    let left : n - i ≡ suc (n - (i + 1)) = omega arith in
    sym (ap (λ (m : ℕ). plus f i m s) left) ∙ rest

pub plus_done : (f : ℕ → Float) (i n : ℕ) (s whole : Float) → n ≤ i → plus f i (n - i) s ≡ whole → s ≡ whole
unfolding plus
plus_done f i n s whole h rest = let none : n - i ≡ 0 = omega arith in sym (ap (λ (m : ℕ). plus f i m s) none) ∙ rest

pub minus_turn : (f : ℕ → Float) (i n : ℕ) (s whole : Float) → i < n → minus f i (n - i) s ≡ whole
    → minus f (i + 1) (n - (i + 1)) (s -₆₄ f i) ≡ whole
unfolding minus
minus_turn f i n s whole h rest =
    let left : n - i ≡ suc (n - (i + 1)) = omega arith in
    sym (ap (λ (m : ℕ). minus f i m s) left) ∙ rest

pub minus_done : (f : ℕ → Float) (i n : ℕ) (s whole : Float) → n ≤ i → minus f i (n - i) s ≡ whole → s ≡ whole
unfolding minus
minus_done f i n s whole h rest = let none : n - i ≡ 0 = omega arith in sym (ap (λ (m : ℕ). minus f i m s) none) ∙ rest

-- a place whose test holds is added, and any other is passed over
module _ (test : ℕ → Bool) (f : ℕ → Float) (i n : ℕ) (s whole : Float) where
  pub where_added : i < n → test i ≡ true → plus_where test f i (n - i) s ≡ whole
      → plus_where test f (i + 1) (n - (i + 1)) (s +₆₄ f i) ≡ whole
  unfolding plus_where
  where_added h holds rest =
      let left : n - i ≡ suc (n - (i + 1)) = omega arith in
      sym (ap (λ (b : Bool). plus_where test f (i + 1) (n - (i + 1)) (cond b (s +₆₄ f i) s)) holds)
      ∙ sym (ap (λ (m : ℕ). plus_where test f i m s) left)
      ∙ rest

  pub where_passed : i < n → test i ≡ false → plus_where test f i (n - i) s ≡ whole
      → plus_where test f (i + 1) (n - (i + 1)) s ≡ whole
  unfolding plus_where
  where_passed h fails rest =
      let left : n - i ≡ suc (n - (i + 1)) = omega arith in
      sym (ap (λ (b : Bool). plus_where test f (i + 1) (n - (i + 1)) (cond b (s +₆₄ f i) s)) fails)
      ∙ sym (ap (λ (m : ℕ). plus_where test f i m s) left)
      ∙ rest

  pub where_done : n ≤ i → plus_where test f i (n - i) s ≡ whole → s ≡ whole
  unfolding plus_where
  where_done h rest = let none : n - i ≡ 0 = omega arith in sym (ap (λ (m : ℕ). plus_where test f i m s) none) ∙ rest

-- ---- Known places

pub known_before : (g len i : ℕ) → i < g → true ≡ known g len i
known_before g len i h = rw lt-ltb refl

-- whether place i and the one that is `lag` before it are both known, and their product
abbrev pub pair_known : ℕ → ℕ → ℕ → ℕ → Bool
pair_known g len lag i = known g len i && known g len (i - lag)

abbrev pub pair : List Float → ℕ → ℕ → Float
pair seg lag i = at seg i *₆₄ at seg (i - lag)

-- a and b are what the tests are to say, r and q what they gave
pub both_known : {a b r q : Bool} → r ≡ a → r ≡ true → q ≡ b → q ≡ true → (a && b) ≡ true
both_known er hr eq hq = rw (← er, hr, ← eq, hq) refl

pub second_unknown : {a b r q : Bool} → r ≡ a → r ≡ true → q ≡ b → q ≡ false → (a && b) ≡ false
second_unknown er hr eq hq = rw (← er, hr, ← eq, hq) refl

pub first_unknown : {a r : Bool} (b : Bool) → r ≡ a → r ≡ false → (a && b) ≡ false
first_unknown b er hr = rw (← er, hr) refl

-- ---- Where the loops begin and end

-- the literals 1e-12 and 1e-6 of the code
pub pico_word : of_bits binary64 4427486594234968593 ≡ pico
unfolding of_bits pico
pico_word = refl

pub micro_word : of_bits binary64 4517329193108106637 ≡ micro
unfolding of_bits micro
micro_word = refl

pub lag_start : (seg : List Float) (g len lag : ℕ)
    → plus_where (pair_known g len lag) (pair seg lag) lag (length seg - lag) (of_bits binary64 0) ≡ lag_sum seg g len lag
unfolding lag_sum
lag_start seg g len lag = rw nought_double refl

pub shortfall_start : (a r : List Float) (i : ℕ)
    → plus (λ j. at a j *₆₄ at r (i - j)) 1 (i - 1) (at r i) ≡ shortfall a r i
unfolding shortfall
shortfall_start a r i = refl

pub coef_start : (a : List Float) (p j : ℕ)
    → plus (λ k. at a k *₆₄ at a (k + j)) 0 (p + 1 - j - 0) (of_bits binary64 0) ≡ coef_at a p j
unfolding coef_at
coef_start a p j = let all : p + 1 - j - 0 ≡ p + 1 - j = omega arith in rw (all, nought_double) refl

-- what place x contributes to the right side of the gap's place c
abbrev pub before_gap : List Float → List Float → ℕ → ℕ → Float
before_gap seg b c x = at b (c - x) *₆₄ at seg x

abbrev pub behind_gap : List Float → List Float → ℕ → ℕ → Float
behind_gap seg b c x = at b (x - c) *₆₄ at seg x

pub before_start : (f : ℕ → Float) (x low g : ℕ) → x ≡ low
    → plus f x (g - x) (of_bits binary64 0) ≡ plus f low (g - low) nought
before_start f x low g e = rw (e, nought_double) refl

pub right_end : (seg b : List Float) (g len p i high : ℕ) (before s : Float)
    → high ≡ min (g + i + p + 1) (length seg)
    → before ≡ plus (before_gap seg b (g + i)) (g + i - p) (g - (g + i - p)) nought
    → s ≡ plus (behind_gap seg b (g + i)) (g + len) (high - (g + len)) before
    → neg s ≡ right_side seg g len b p i
unfolding right_side
right_end seg b g len p i high before s top e es = rw (es, e, top) refl
