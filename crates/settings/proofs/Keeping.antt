-- What a block of n settings keeps, for both versions: S are the settings. A block that is malformed, or has a setting that is not allowed, is
-- turned away, and of another the words stand for the settings. Assumes nothing.
use Prim.Native.Nat.{ℕ, ◌+◌, ◌*◌, ◌≤◌}
use native.Mathlib.Omega.{arith}
use mathlib.Core.Path.{◌≡◌, refl, sym, ap, ◌∙◌}
use mathlib.Core.Bool.{Bool, true, false}
use mathlib.Core.List.{List}
use mathlib.Core.Logic.{inl, inr}
use lib.ListN.{length}
use lib.Seq.{sets}
use Rattle.leaves.proofs.Choice.{truth, EitherWay}
use Rattle.leaves.proofs.Stores.{stored_over}
use Rattle.wire.specs.Wire.{decoded}
use Rattle.wire.proofs.Laws.{length_decoded}
use Rattle.contents.specs.Contents.{table_bytes}
use Rattle.std.specs.Prelude.{Result, Ok, Err, is_ok}
use Rattle.recording.specs.declared.Reason.{Reason}
use Rattle.recording.specs.declared.Reason.TheVariants.{Stored}
use Rattle.std.proofs.Common.{eqb-true}
use Rattle.settings.specs.Settings.{version_bytes, formed, words_in, kept_in}
use Rattle.settings.proofs.Block.{has_form}

module _ (S : Type 0) (n : ℕ) (of : List ℕ → S) (rule : S → Bool) (block : List ℕ) where
  -- 18
  abbrev away : Result S Reason
  away = Err Stored

  abbrev known : S → Result S Reason
  known s = Ok s

  -- ---- As the code tests it

  module _ (r : Bool) (tested : r ≡ formed n block) where
    module _ (on : r ≡ true) where
      -- the bodies lie within it
      pub within : (from : ℕ) → from ≡ version_bytes + table_bytes n → from + 4 * n ≤ length block
      within from e = let f = has_form n block (sym tested ∙ on) in omega (arith, e, f.sized)

      -- the words are copied to the code's own list, and read and judged there
      module _ (blank list : List ℕ) (from : ℕ) (found : S) (good : Bool) (room : length blank ≡ n)
          (there : from ≡ version_bytes + table_bytes n) (copied : list ≡ sets blank 0 (decoded block from n))
          (read : found ≡ of list) (judged : good ≡ rule found) where
        found_is : found ≡ of (words_in n block)
        found_is =
            read
            ∙ ap of
            (copied
            ∙ stored_over blank (decoded block from n) (length_decoded block from n ∙ sym room)
            ∙ ap (λ (i : ℕ). decoded block i n) there)

        good_is : good ≡ rule (of (words_in n block))
        good_is = judged ∙ ap rule found_is

        pub not_allowed : good ≡ false → away ≡ kept_in n of rule block
        not_allowed off = rw (sym tested ∙ on, sym good_is ∙ off) refl

        pub all_allowed : good ≡ true → known found ≡ kept_in n of rule block
        all_allowed so = ap known found_is ∙ rw (sym tested ∙ on, sym good_is ∙ so) refl

  -- ---- What was kept

  pub is_known : formed n block ≡ true → rule (of (words_in n block)) ≡ true → kept_in n of rule block ≡ known (of (words_in n block))
  is_known form good = rw (form, good) refl

  pub record Kept (s : S) : Type 0 where
    pub form : formed n block ≡ true
    pub good : rule (of (words_in n block)) ≡ true
    pub those : of (words_in n block) ≡ s

  pub tells : (s : S) → kept_in n of rule block ≡ known s → Kept s
  tells s h = go (truth (formed n block)) (truth (rule (of (words_in n block))))
    where
      none : {A : Type 0} → away ≡ known s → A
      none e = let never = eqb-true 0 1 (ap is_ok e) in absurd (omega arith)

      those : Result S Reason → S
      those (Ok t) = t
      those (Err why) = s

      go : EitherWay (formed n block) → EitherWay (rule (of (words_in n block))) → Kept s
      go (inl form) (inl good) = record { form = form; good = good; those = ap those (sym (is_known form good) ∙ h) }
      go (inl form) (inr bad) = none (rw (form, bad) at h)
      go (inr off) good = none (rw off at h)
