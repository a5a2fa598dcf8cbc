-- What request P1 left as it was: at a zero or a NaN runs begin, end and qualify as document 01 had it, and where no word is held there
-- are no others. Assumes nothing.
use Rattle.std.proofs.Common.{◌≡◌, ℕ, zero, suc, ◌+◌, ◌-◌, ◌<◌, ◌≤◌, true, false, eqb, ◌⊎◌, List, length, get_or, sym, refl, ap, ◌∙◌, inl, inr, add-one, arith}
use mathlib.Core.Bool.{and-false}
use Rattle.leaves.proofs.Choice.{truth, EitherWay}
use Rattle.recording.specs.Runs.{begins, run_length}
use Rattle.recording.proofs.Runs.{begins_not, run_within}
use Rattle.inpaint.specs.Auto.{zero_or_nan, continues_at, run_begins, run_at, long_enough}
use Rattle.inpaint.specs.Auto.{qualifies, starts}
use Rattle.inpaint.specs.Runs.{runs_among}
use Rattle.inpaint.specs.Unheld.{zero_at, zeros_at, zeros_qualify, zeros_among, ZerosAsBefore, NothingHeld, UnheldAsBefore}
use Rattle.inpaint.proofs.Dropouts.{back_to_zero, equal_words}
use Rattle.inpaint.proofs.auto.Runs.{both, zero_not_held, continues_zeros, enough_zeros, OfZeros, OfHeld, kind_of, kept_zeros}
use Rattle.inpaint.proofs.auto.Runs.{qualifies_short}

module _ (samples : List ℕ) where
  -- ---- At a zero or a NaN

  same_begin : (i : ℕ) → zero_at samples i ≡ true → run_begins samples 0 i ≡ begins (zero_at samples) i
  unfolding begins
  same_begin i z =
      rw z (elim (truth (eqb i 0)) [ inl e ↦ rw e refl | inr e ↦ rw (e, back_to_zero _ _ z) refl ])

  -- from behind a zero or a NaN on, as many places continue the run as are zero or NaN
  same_rest : (i n : ℕ) → zero_or_nan (get_or samples (i - 1) 0) ≡ true → run_length (continues_at samples) i n ≡ run_length (zero_at samples) i n
  unfolding run_length
  same_rest i zero z = refl
  same_rest i (suc n) z = go (truth (zero_at samples i)) (same_rest (i + 1) n)
    where
      on : continues_at samples i ≡ zero_at samples i
      on = sym (continues_zeros _ _ z)

      go : EitherWay (zero_at samples i)
          → (zero_or_nan (get_or samples (i + 1 - 1) 0) ≡ true → run_length (continues_at samples) (i + 1) n ≡ run_length (zero_at samples) (i + 1) n)
          → run_length (continues_at samples) i (suc n) ≡ run_length (zero_at samples) i (suc n)
      go (inl t) later =
          let back : i + 1 - 1 ≡ i = omega arith in
          rw (on, t, later (ap (λ (j : ℕ). zero_or_nan (get_or samples j 0)) back ∙ t)) refl
      go (inr t) later = rw (on, t) refl

  same_length : (i : ℕ) → i < length samples → zero_at samples i ≡ true → run_at samples i ≡ zeros_at samples i
  unfolding run_length
  same_length i within z =
      let left : length samples - i ≡ suc (length samples - (i + 1)) = omega arith in
      let back : i + 1 - 1 ≡ i = omega arith in
      let rest = same_rest (i + 1) (length samples - (i + 1)) (ap (λ (j : ℕ). zero_or_nan (get_or samples j 0)) back ∙ z) in
      rw (left, z, rest) (add-one _)

  same_tests : (n most held w i len : ℕ) → zero_or_nan w ≡ true → qualifies n most held w i len ≡ zeros_qualify n most i len
  unfolding qualifies
  same_tests n most held w i len z =
      let whole : i + 0 ≡ i = omega arith in
      let all : len - 0 ≡ len = omega arith in
      rw (← enough_zeros held w len z, kept_zeros w (zero_not_held w z), whole, all) refl

  -- ---- Elsewhere, where no word is held

  module _ (held : ℕ) (nothing : NothingHeld held samples) where
    none_elsewhere : (most i : ℕ) → i < length samples → zero_at samples i ≡ false → starts samples most held 0 i ≡ false
    none_elsewhere most i inside other =
        let w = get_or samples i 0 in
        elim (truth (long_enough held w (run_at samples i))) [
          | inl t ↦ absurd (long (kind_of held w (run_at samples i) t))
          | inr t ↦ rw (sym (qualifies_short (length samples) most held w i (run_at samples i) t), and-false) refl
        ]
      where
        long : OfZeros (get_or samples i 0) (run_at samples i) ⊎ OfHeld held (get_or samples i 0) (run_at samples i) → ⊥
        long (inl z) = both z.zero other
        long (inr k) =
            nothing i (omega (arith, k.enough, run_within (continues_at samples) (i + 1) (length samples - (i + 1)))) k.word
            (λ j below. equal_words samples i j k.word (omega (arith, k.enough)))

pub zeros_as_before : ZerosAsBefore
zeros_as_before samples most held i inside z =
    let long = same_length samples i inside z in (
      rw (same_begin samples i z, same_tests samples (length samples) most held (get_or samples i 0) i (run_at samples i) z, long) refl,
      long,
    )

-- place by place
as_before : (samples : List ℕ) (most held i n : ℕ) → NothingHeld held samples → i + n ≤ length samples
    → runs_among samples most held 0 i n ≡ zeros_among samples most i n
unfolding runs_among zeros_among
as_before samples most held i zero nothing inside = refl
as_before samples most held i (suc n) nothing inside = go (truth (zero_at samples i)) (as_before samples most held (i + 1) n nothing (omega arith))
  where
    go : EitherWay (zero_at samples i) → runs_among samples most held 0 (i + 1) n ≡ zeros_among samples most (i + 1) n
        → runs_among samples most held 0 i (suc n) ≡ zeros_among samples most i (suc n)
    go (inl z) later =
        let same = zeros_as_before samples most held i (omega arith) z in
        let whole : i + 0 ≡ i = omega arith in
        let all : zeros_at samples i - 0 ≡ zeros_at samples i = omega arith in
        rw (same.0, kept_zeros (get_or samples i 0) (zero_not_held (get_or samples i 0) z), same.1, whole, all, later) refl
    go (inr z) later =
        rw (none_elsewhere samples held nothing most i (omega arith) z, sym (begins_not (zero_at samples) i z), later) refl

pub unheld_as_before : UnheldAsBefore
unheld_as_before samples most held nothing = as_before samples most held 0 (length samples) nothing (omega arith)
