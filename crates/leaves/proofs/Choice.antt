-- Tests: each holds or does not, what two say that both hold, or of which one or neither does, and what holds of the one of two things that a test chooses.
-- Assumes nothing.
use Rattle.std.proofs.Common.{◌≡◌, Bool, true, false, ◌&&◌, ◌||◌, ◌⊎◌, sym, refl, inl, inr, true≢false}
use Rattle.std.specs.Prelude.{if◌then◌else◌}

-- a test holds, or it does not
abbrev pub EitherWay : Bool → Type 0
EitherWay b = (b ≡ true) ⊎ (b ≡ false)

pub truth : (b : Bool) → EitherWay b
truth true = inl refl
truth false = inr refl

-- two tests that both hold
pub both_hold : (a b : Bool) → a && b ≡ true → (a ≡ true) × (b ≡ true)
both_hold true true h = (refl, refl)
both_hold true false h = absurd (true≢false (sym h))
both_hold false b h = absurd (true≢false (sym h))

-- two tests of which one holds, or both
pub either : (a b : Bool) → a || b ≡ true → (a ≡ true) ⊎ (b ≡ true)
either true b h = inl refl
either false b h = inr h

-- two tests of which neither holds
pub neither : (a b : Bool) → a || b ≡ false → (a ≡ false) × (b ≡ false)
neither true b h = absurd (true≢false h)
neither false b h = (refl, h)

-- what holds of both of two things holds of the one that a test chooses
pub picks : {A : Type 0} (P : A → Type 0) (b : Bool) (x y : A) → P x → P y → P (if b then x else y)
picks P true x y p q = p
picks P false x y p q = q

-- the same, with what the test tells
pub picks_by : {A : Type 0} (P : A → Type 0) (b : Bool) (x y : A) → (b ≡ true → P x) → (b ≡ false → P y) → P (if b then x else y)
picks_by P true x y p q = p refl
picks_by P false x y p q = q refl
