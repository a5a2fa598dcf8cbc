-- Laws on whole numbers that several proofs cite. Assumes nothing.
use Rattle.std.proofs.Common.{◌≡◌, ℕ, ◌*◌, ◌%◌, ◌^◌, ◌<◌, ◌≤◌, true, false, ◌⊎◌, refl, ap, ◌∙◌, inl, inr, lt_of_lt_of_le, le_of_lt, lt_irrefl, mod-eq_of_lt, one-mul, lt_of_not-le, ne_of_lt, eq-eqb, ne_eqb, le-leb}
use Prim.Native.Nat.{compare, Ordering}
use native.Mathlib.Decide.{dec_le}
use lib.Dec.{is_le, compare_is_eq}
use lib.Pow.{pow-lt}
use borrow.Author.Tests.{lt-leb}

-- of two numbers the first is below the second, or it is not
pub lt_or_ge : (a b : ℕ) → (a < b) ⊎ (b ≤ a)
lt_or_ge a b = elim (dec_le b a) [ yes h ↦ inr h | no f ↦ inl (lt_of_not-le f) ]

-- what `compare` answers, by the order of the two numbers
pub compare_lt : (a b : ℕ) → a < b → compare a b ≡ Ordering.lt
compare_lt a b h = go (compare a b) (le-leb a b (le_of_lt h)) (ne_eqb a b (ne_of_lt h))
  where
    go : (o : Ordering) → is_le o ≡ true → compare_is_eq o ≡ false → o ≡ Ordering.lt
    go Ordering.lt le ne = refl
    go Ordering.eq le ne = cc
    go Ordering.gt le ne = cc

pub compare_eq : (a b : ℕ) → a ≡ b → compare a b ≡ Ordering.eq
compare_eq a b h = go (compare a b) (eq-eqb a b h)
  where
    go : (o : Ordering) → compare_is_eq o ≡ true → o ≡ Ordering.eq
    go Ordering.lt e = cc
    go Ordering.eq e = refl
    go Ordering.gt e = cc

pub compare_gt : (a b : ℕ) → b < a → compare a b ≡ Ordering.gt
compare_gt a b h = go (compare a b) (lt-leb a b h)
  where
    go : (o : Ordering) → is_le o ≡ false → o ≡ Ordering.gt
    go Ordering.lt e = cc
    go Ordering.eq e = cc
    go Ordering.gt e = refl

-- 1 shifted up by fewer places than the word has
pub one_up : (k w : ℕ) → k < w → (1 * 2 ^ k) % 2 ^ w ≡ 2 ^ k
one_up k w h = ap (λ (n : ℕ). n % 2 ^ w) (one-mul (2 ^ k)) ∙ mod-eq_of_lt (pow-lt h)

-- an exponent of two is at most another where the powers are
pub exponents : (k l : ℕ) → 2 ^ k ≤ 2 ^ l → k ≤ l
exponents k l h = elim (lt_or_ge l k) [ inl g ↦ absurd (lt_irrefl (2 ^ l) (lt_of_lt_of_le (pow-lt g) h)) | inr g ↦ g ]
