-- Squares of whole numbers, for the root of `specs/Root.antt`: the turns of the method by hand, a square in two halves,
-- which number is nearest by what is left of a square, that one number only is nearest to a root, and that `nearest_root`
-- gives it. Assumes nothing.
use Rattle.std.proofs.Common.{◌≡◌, ℕ, zero, suc, ◌+◌, ◌-◌, ◌*◌, ◌/◌, ◌%◌, ◌^◌, ◌<◌, ◌≤◌, Bool, true, false, cond, not, T, ltb, leb, sym, ap, ◌∙◌, subst, zero-le, le_trans, lt_of_lt_of_le, lt_of_le_of_lt, add_assoc, zero-lt-suc, mul_assoc, mul_comm, add-mul, mul-le-mul, le_antisymm, one-mul, lt_of_not-le, mul-one, mul-add, mul_right_comm, not-le_of_lt, mul_left_comm, add-one, arith, lit<, lit≤, ltb→lt, leb→le, nltb→le, pow_mono}
use native.Mathlib.Nat.{pow-succ', two-pow-succ}
use native.Mathlib.Nat.{mul-mul-mul_comm}
use lib.Dec.{nleb→lt}
use Rattle.leaves.specs.Root.{Nearest, extend, whole_root, nearest_root}

-- of two squares the smaller has the smaller root
lt_of_squares : (a b : ℕ) → a * a < b * b → a < b
lt_of_squares a b h = lt_of_not-le (λ (g : b ≤ a). not-le_of_lt h (mul-le-mul g g))

-- the squares of a + 1, of 2 * a and of 2 * a + 1
square_of_next : (a : ℕ) → (a + 1) * (a + 1) ≡ a * a + 2 * a + 1
square_of_next a =
    let e : (a + 1) * (a + 1) ≡ a * a + a + (a + 1) = simp (mul-add, add-mul, mul-one, one-mul) in
    omega arith

square_of_double : (a : ℕ) → 2 * a * (2 * a) ≡ 4 * (a * a)
square_of_double a = mul-mul-mul_comm 2 a 2 a

square_of_odd : (a : ℕ) → (2 * a + 1) * (2 * a + 1) ≡ 4 * (a * a) + 4 * a + 1
square_of_odd a =
    let next = square_of_next (2 * a) in
    let double = square_of_double a in
    omega arith

-- the second, with its factors as the code has them
square_of_doubled : (a : ℕ) → a * 2 * (a * 2) ≡ 4 * (a * a)
square_of_doubled a = ap (λ (x : ℕ). x * x) (mul_comm a 2) ∙ square_of_double a

-- ---- the method by hand

-- After some turns: the digits taken are root * root + rest, and root is their whole root. What is left stands below
-- them, the next two digits on top.
pub record Taken (digits left rest root turns : ℕ) : Type 0 where
  pub few : turns ≤ 53
  pub short : left < 2 ^ 54
  pub whole : rest ≤ 2 * root
  pub small : root < 2 ^ turns
  pub all : (root * root + rest) * 2 ^ 54 + left ≡ digits * 4 ^ turns

pub start : (digits : ℕ) → digits < 2 ^ 54 → Taken digits digits 0 0 0
start digits h = record { few = omega arith; short = h; whole = omega arith; small = omega arith; all = omega arith }

-- so every number of a turn fits 64 digits
pub taken_small : {digits left rest root turns : ℕ} → Taken digits left rest root turns → root < 2 ^ 53
taken_small t = lt_of_lt_of_le t.small (pow_mono t.few)

-- two more digits are taken: what the root with its new digit, and the new rest, have to give
more : {digits left rest root turns : ℕ} (rest' root' : ℕ) → turns < 53 → Taken digits left rest root turns
    → rest' ≤ 2 * root' → root' < 2 * 2 ^ turns
    → root' * root' + rest' ≡ 4 * (root * root + rest) + left / 2 ^ 52
    → Taken digits (left % 2 ^ 52 * 4) rest' root' (turns + 1)
more {digits} {turns = turns} rest' root' h t w s e =
    let double : 2 ^ (turns + 1) ≡ 2 * 2 ^ turns = ap (λ (n : ℕ). 2 ^ n) (add-one turns) ∙ pow-succ' 2 turns in
    let four : 4 ^ (turns + 1) ≡ 4 * 4 ^ turns = ap (λ (n : ℕ). 4 ^ n) (add-one turns) ∙ pow-succ' 4 turns in
    let all : digits * 4 ^ (turns + 1) ≡ 4 * (digits * 4 ^ turns) = ap (λ (n : ℕ). digits * n) four ∙ mul_left_comm digits 4 (4 ^ turns) in
    record { few = omega arith; short = omega arith; whole = w; small = omega arith; all = omega arith }

-- a turn whose digit is 1
pub turn_one : {digits left rest root turns : ℕ} → turns < 53 → Taken digits left rest root turns
    → root * 2 * 2 < rest * 4 + left / 2 ^ 52
    → Taken digits (left % 2 ^ 52 * 4) (rest * 4 + left / 2 ^ 52 - (root * 2 * 2 + 1)) (root * 2 + 1) (turns + 1)
turn_one {left = left} {rest = rest} {root = root} h t l =
    let next = square_of_next (root * 2) in
    let double = square_of_doubled root in
    more (rest * 4 + left / 2 ^ 52 - (root * 2 * 2 + 1)) (root * 2 + 1) h t (omega arith) (omega arith) (omega arith)

-- a turn whose digit is 0
pub turn_zero : {digits left rest root turns : ℕ} → turns < 53 → Taken digits left rest root turns
    → rest * 4 + left / 2 ^ 52 ≤ root * 2 * 2
    → Taken digits (left % 2 ^ 52 * 4) (rest * 4 + left / 2 ^ 52) (root * 2) (turns + 1)
turn_zero {left = left} {rest = rest} {root = root} h t l =
    let double = square_of_doubled root in
    more (rest * 4 + left / 2 ^ 52) (root * 2) h t (omega arith) (omega arith) (omega arith)

-- at the end nothing is left
pub taken_all : {digits left rest root turns : ℕ} → Taken digits left rest root turns → turns ≡ 53 → digits * 2 ^ 52 ≡ root * root + rest
taken_all {digits} t e =
    let last = t.all ∙ ap (λ (n : ℕ). digits * 4 ^ n) e in
    omega arith

-- ---- a square in two halves

-- the two halves of a root, the lower of 26 digits
module _ (root : ℕ) where
  abbrev pub high : ℕ
  high = root / 2 ^ 26

  abbrev pub low : ℕ
  low = root % 2 ^ 26

  -- the square by its three parts, from the top down
  pub square_of_halves : root * root ≡ high * high * 2 ^ 52 + 2 * high * low * 2 ^ 26 + low * low
  square_of_halves =
      let x = high * 2 ^ 26 in
      let whole : root ≡ x + low = omega arith in
      let square : (x + low) * (x + low) ≡ x * x + low * x + (x * low + low * low) = simp (mul-add, add-mul) in
      let first : x * x ≡ high * high * 2 ^ 52 = mul-mul-mul_comm high (2 ^ 26) high (2 ^ 26) in
      let second : x * low ≡ high * low * 2 ^ 26 = mul_right_comm high (2 ^ 26) low in
      let third : low * x ≡ x * low = mul_comm low x in
      let twice : 2 * high * low ≡ 2 * (high * low) = mul_assoc 2 high low in
      let of-sum : root * root ≡ (x + low) * (x + low) = ap (λ (y : ℕ). y * y) whole in
      omega arith

  -- of a root of 53 digits each part fits 64 digits
  pub product_small : root < 2 ^ 53 → 2 * high * low < 2 ^ 54
  product_small h =
      let most : 2 * high ≤ 2 ^ 28 - 2 = omega arith in
      let below : low ≤ 2 ^ 26 - 1 = omega arith in
      lt_of_le_of_lt (mul-le-mul most below) (lit< tt)

  pub low_square_small : low * low < 2 ^ 52
  low_square_small =
      let most : low ≤ 2 ^ 26 - 1 = omega arith in
      lt_of_le_of_lt (mul-le-mul most most) (lit< tt)

-- ---- the number nearest to the root

-- q + 1 is nearest to the root of n where that root lies between q + 1/2 and q + 3/2.
nearest_next : (n q : ℕ) → q * q + q < n → 4 * n < 4 * (q * q) + 12 * q + 9 → Nearest n (q + 1)
nearest_next n q low high =
    let under : 2 * (q + 1) - 1 ≡ 2 * q + 1 = omega arith in
    let first = square_of_odd q in
    let second = square_of_odd (q + 1) in
    let next = square_of_next q in
    record { above = rw under (omega arith); below = omega arith }

-- n is root * root + rest. Where rest is above root, the root of n is above root + 1/2, since n is whole; and up to
-- 3 * root + 2 it is below root + 3/2.
pub nearest_up : (n rest root : ℕ) → n ≡ root * root + rest → rest ≤ 3 * root + 2 → root < rest → Nearest n (root + 1)
nearest_up n rest root e w l = nearest_next n root (omega arith) (omega arith)

-- from there up to 5 * root + 6 it is below root + 5/2
pub nearest_two_up : (n rest root : ℕ) → n ≡ root * root + rest → rest ≤ 5 * root + 6 → 3 * root + 2 < rest → Nearest n (root + 2)
nearest_two_up n rest root e w l =
    let next = square_of_next root in
    let two : root + 1 + 1 ≡ root + 2 = omega arith in
    subst (λ (q : ℕ). Nearest n q) two (nearest_next n (root + 1) (omega arith) (omega arith))

-- where rest is at most root, it is below root + 1/2
pub nearest_down : (n rest root : ℕ) → n ≡ root * root + rest → 0 < n → rest ≤ root → Nearest n root
nearest_down n rest zero e p l = record { above = omega arith; below = omega arith }
nearest_down n rest (suc k) e p l =
    let next : suc k * suc k ≡ k * k + 2 * k + 1 = ap (λ (x : ℕ). x * x) (sym (add-one k)) ∙ square_of_next k in
    subst (λ (q : ℕ). Nearest n q) (add-one k) (nearest_next n k (omega arith) (omega arith))

-- ---- one number only is nearest

-- a number whose square is at most n is at most the nearest
pub nearest_above : (n q h : ℕ) → Nearest n q → h * h ≤ n → h ≤ q
nearest_above n q h at l =
    let double = square_of_double h in
    let under : 2 * h < 2 * q + 1 = lt_of_squares (2 * h) (2 * q + 1) (omega arith) in
    omega arith

-- a number whose square is above n is at least the nearest
pub nearest_below : (n q h : ℕ) → Nearest n q → n < h * h → q ≤ h
nearest_below n q h at l =
    let double = square_of_double h in
    let under : 2 * q - 1 < 2 * h = lt_of_squares (2 * q - 1) (2 * h) (omega arith) in
    omega arith

-- of two nearest numbers neither is above the other
not_less : (n q q' : ℕ) → Nearest n q → Nearest n q' → q' ≤ q
not_less n q q' at at' =
    let under : 2 * q' - 1 < 2 * q + 1 = lt_of_squares (2 * q' - 1) (2 * q + 1) (omega arith) in
    omega arith

-- no two numbers are nearest to one root
pub nearest_only : (n q q' : ℕ) → Nearest n q → Nearest n q' → q ≡ q'
nearest_only n q q' at at' = le_antisymm (not_less n q' q at' at) (not_less n q q' at at')

-- ---- the function

-- With k digits to come after s: the root of n is at least s, and below s + 2 ^ k. With none to come, s is the whole root.
pub record Within (k s n : ℕ) : Type 0 where
  pub least : s * s ≤ n
  pub most : n < (s + 2 ^ k) * (s + 2 ^ k)

-- the digits to come, each chosen as `extend` does, keep to that
extended : (k s n : ℕ) → Within k s n → Within 0 (extend k s n) n
unfolding extend
extended zero s n at = at
extended (suc k) s n at = go (leb (t * t) n) (leb→le (t * t) n) (nleb→lt (t * t) n) (extended k)
  where
    t : ℕ
    t = s + 2 ^ k

    go : (b : Bool) → (T b → t * t ≤ n) → (T (not b) → n < t * t)
        → ((s n : ℕ) → Within k s n → Within 0 (extend k s n) n)
        → Within 0 (extend k (cond b t s) n) n
    go true f g rest =
        let twice : s + 2 ^ suc k ≡ t + 2 ^ k = ap (λ (x : ℕ). s + x) (two-pow-succ k) ∙ sym (add_assoc s (2 ^ k) (2 ^ k)) in
        rest t n (record { least = f tt; most = subst (λ (x : ℕ). n < x * x) twice at.most })
    go false f g rest = rest s n (record { least = at.least; most = g tt })

-- `whole_root` gives the whole root
pub whole_root_is : (n : ℕ) → n < 4 ^ 53 → Within 0 (whole_root n) n
unfolding whole_root
whole_root_is n h = extended 53 0 n (record { least = zero-le; most = h })

-- from the whole root s of n to the number nearest to the root
rounded : (n s : ℕ) → 0 < n → Within 0 s n → Nearest n (cond (ltb s (n - s * s)) (s + 1) s)
rounded n s p at = go (ltb s (n - s * s)) (ltb→lt s (n - s * s)) (nltb→le s (n - s * s))
  where
    is : n ≡ s * s + (n - s * s)
    is = let low = at.least in omega arith

    go : (b : Bool) → (T b → s < n - s * s) → (T (not b) → n - s * s ≤ s) → Nearest n (cond b (s + 1) s)
    go true a b =
        let high : n < (s + 1) * (s + 1) = at.most in
        let next = square_of_next s in
        nearest_up n (n - s * s) s is (omega arith) (a tt)
    go false a b = nearest_down n (n - s * s) s is p (b tt)

-- the function gives the number nearest to the root
pub nearest_root_is : (n : ℕ) → 4 ^ 52 ≤ n → n < 4 ^ 53 → Nearest n (nearest_root n)
unfolding nearest_root
nearest_root_is n l h = rounded n (whole_root n) (lt_of_lt_of_le (zero-lt-suc 0) (le_trans (lit≤ tt) l)) (whole_root_is n h)

-- the nearest number has 53 digits, or is 2 ^ 53
pub nearest_least : (n q : ℕ) → 4 ^ 52 ≤ n → Nearest n q → 2 ^ 52 ≤ q
nearest_least n q l at = nearest_above n q (2 ^ 52) at l

pub nearest_most : (n q : ℕ) → n < 4 ^ 53 → Nearest n q → q ≤ 2 ^ 53
nearest_most n q h at = nearest_below n q (2 ^ 53) at h
