-- How the writing of a file ends: line by line, as the code comes to it; which refusals there are, and that they leave the room as it
-- was; and where it ends with an acceptance. Assumes nothing.
use Rattle.std.proofs.Common.{◌≡◌, ℕ, zero, suc, ◌+◌, ◌<◌, ◌≤◌, true, ltb, ◌⊎◌, List, [], ◌∷◌, ◌++◌, map, length, get_or, sym, refl, ap, ◌∙◌, inl, inr, arith, length-append, ltb-false, ltb-true, le-ltb, lt-ltb}
use lib.ListN.{length-map}
use lib.Seq.{sets, length-sets}
use Rattle.leaves.specs.Floats.{in_range}
use Rattle.leaves.proofs.Choice.{EitherWay, truth}
use Rattle.leaves.proofs.Stores.{stored_behind}
use Rattle.wire.specs.Wire.{encoded, encoded_halves}
use Rattle.wire.proofs.Laws.{length_encoded, length_encoded_halves}
use Rattle.recording.specs.Answers.{number}
use Rattle.recording.specs.Recording.{most_samples, readable}
use Rattle.recording.specs.declared.Reason.{Reason}
use Rattle.recording.specs.declared.Reason.TheVariants.{TooMany, Read, Output}
use Rattle.recording.specs.Answer.{Answer}
use Rattle.std.specs.Prelude.{Ok, Err}
use Rattle.recording.proofs.read.Laws.{ReadEnds, readable_ends}
use Rattle.recording.proofs.Answers.{never_both}
use Rattle.riff.specs.Values.{value_of}
use Rattle.riff.specs.Wav.{head, wav_of, wav_bytes, Written, written, laid_down, wav_written}

-- ---- The file

-- a file has as many bytes as it should
pub length_wav : (rate : ℕ) (values : List ℕ) → length (wav_of rate values) ≡ wav_bytes (length values)
unfolding wav_of
length_wav rate values =
    let front = encoded (head rate (length values)) in
    omega (
      arith,
      length-append front (encoded_halves values),
      length_encoded (head rate (length values)),
      length_encoded_halves values,
    )

-- its head, and behind that its values, stored one after the other, are the file
pub wav_stored : (out : List ℕ) (rate : ℕ) (samples : List ℕ)
    → sets (sets out 0 (encoded (head rate (length samples)))) 44 (encoded_halves (map value_of samples)) ≡ sets out 0 (wav_of rate (map value_of samples))
unfolding wav_of
wav_stored out rate samples =
    let front = encoded (head rate (length samples)) in
    let there : 44 ≡ 0 + length front = omega (arith, length_encoded (head rate (length samples))) in
    rw there (stored_behind out front (encoded_halves (map value_of samples)) 0)
    ∙ ap (λ (n : ℕ). sets out 0 (encoded (head rate n) ++ encoded_halves (map value_of samples))) (sym (length-map samples value_of))

-- ---- Words in range

-- each word of a list is in range
abbrev pub AllInRange : List ℕ → Type 0
AllInRange ws = (i : ℕ) → i < length ws → in_range (get_or ws i 0) ≡ true

-- where the test of words accepts, they are
pub accepted_in_range : (first m : ℕ) (ws : List ℕ) → readable first ws ≡ Ok m → AllInRange ws
unfolding readable
accepted_in_range first m [] h = λ i inside. absurd (omega arith)
accepted_in_range first m (w ∷ ws) h = go (truth (in_range w)) (accepted_in_range (first + 1) m ws)
  where
    go : EitherWay (in_range w) → (readable (first + 1) ws ≡ Ok m → AllInRange ws) → AllInRange (w ∷ ws)
    go (inr off) later i inside = (let refused : Err (Read _) ≡ Ok m = rw off at h in never_both (sym refused))
    go (inl on) later zero inside = on
    go (inl on) later (suc i) inside = later (rw on at h) i (omega arith)

-- and where they are, it accepts
pub in_range_accepted : (first : ℕ) (ws : List ℕ) → AllInRange ws → readable first ws ≡ Ok 0
unfolding readable
in_range_accepted first [] h = refl
in_range_accepted first (w ∷ ws) h =
    rw (h 0 (omega arith)) (in_range_accepted (first + 1) ws (λ i inside. h (suc i) (omega arith)))

-- ---- Line by line

module _ (samples : List ℕ) (rate : ℕ) (out : List ℕ) where
  -- refusal 2
  pub writes_many : most_samples < length samples → written (Err TooMany) out ≡ wav_written samples rate out
  unfolding wav_written
  writes_many many = rw (lt-ltb most_samples (length samples) many) refl

  module _ (few : length samples ≤ most_samples) (read : Answer) (told : read ≡ readable 0 samples) where
    -- refusal 7
    pub writes_unread : (why : Reason) → read ≡ Err why → written read out ≡ wav_written samples rate out
    unfolding wav_written
    writes_unread why is = rw (le-ltb most_samples (length samples) few, sym told ∙ is) (ap (λ (a : Answer). written a out) is)

    module _ (m : ℕ) (is : read ≡ Ok m) where
      room_left : laid_down samples rate out ≡ wav_written samples rate out
      unfolding wav_written
      room_left = rw (le-ltb most_samples (length samples) few, sym told ∙ is) refl

      -- refusal 21
      pub writes_short : length out < wav_bytes (length samples) → written (Err Output) out ≡ wav_written samples rate out
      writes_short short = rw (lt-ltb (length out) (wav_bytes (length samples)) short) refl ∙ room_left

      -- or there is room behind the head, and all words are in range
      pub writes_values : wav_bytes (length samples) ≤ length out → (begun : List ℕ) → begun ≡ sets out 0 (encoded (head rate (length samples)))
          → (wav_bytes (length samples) ≤ length begun) × AllInRange samples
      writes_values enough begun first =
          let same = ap length first ∙ length-sets out 0 (encoded (head rate (length samples))) in
          (omega (arith, same, enough), accepted_in_range 0 m samples (sym told ∙ is))

      -- and an acceptance
      pub writes_done : wav_bytes (length samples) ≤ length out → (begun after : List ℕ) → begun ≡ sets out 0 (encoded (head rate (length samples)))
          → after ≡ sets begun 44 (encoded_halves (map value_of samples))
          → written (Ok (wav_bytes (length samples))) after ≡ wav_written samples rate out
      writes_done enough begun after first second =
          ap (written (Ok (wav_bytes (length samples))))
          (second ∙ ap (λ (l : List ℕ). sets l 44 (encoded_halves (map value_of samples))) first ∙ wav_stored out rate samples)
          ∙ rw (le-ltb (length out) (wav_bytes (length samples)) enough) refl
          ∙ room_left

-- ---- The ways in which it ends

-- where it ends with an acceptance of m bytes
pub record WavDone (samples : List ℕ) (rate : ℕ) (out : List ℕ) (m : ℕ) : Type 0 where
  pub count : m ≡ wav_bytes (length samples)
  pub few : length samples ≤ most_samples
  pub ranged : AllInRange samples
  pub room : wav_bytes (length samples) ≤ length out
  pub file : wav_written samples rate out ≡ written (Ok (wav_bytes (length samples))) (sets out 0 (wav_of rate (map value_of samples)))

pub data WavEnding (samples : List ℕ) (rate : ℕ) (out : List ℕ) : Type 0 where
  -- turned away by 2, 7 or 21
  away : (why : Reason) → (why ≡ TooMany) ⊎ ((i : ℕ) × (why ≡ Read i)) ⊎ (why ≡ Output)
      → wav_written samples rate out ≡ written (Err why) out
      → WavEnding samples rate out
  -- written
  laid : WavDone samples rate out (wav_bytes (length samples)) → WavEnding samples rate out

-- it ends so where there is room and all words are in range
pub wav_done : (samples : List ℕ) (rate : ℕ) (out : List ℕ) → length samples ≤ most_samples → AllInRange samples
    → wav_bytes (length samples) ≤ length out
    → wav_written samples rate out ≡ written (Ok (wav_bytes (length samples))) (sets out 0 (wav_of rate (map value_of samples)))
unfolding wav_written
wav_done samples rate out few ranged room =
    rw (
      le-ltb most_samples (length samples) few,
      in_range_accepted 0 samples ranged,
      le-ltb (length out) (wav_bytes (length samples)) room,
    )
    refl

pub wav_ending : (samples : List ℕ) (rate : ℕ) (out : List ℕ) → WavEnding samples rate out
wav_ending samples rate out = go (truth (ltb most_samples (length samples))) (readable_ends 0 samples) (truth (ltb (length out) (wav_bytes (length samples))))
  where
    go : EitherWay (ltb most_samples (length samples)) → ReadEnds (readable 0 samples)
        → EitherWay (ltb (length out) (wav_bytes (length samples)))
        → WavEnding samples rate out
    go (inl many) b c = away TooMany (inl refl) (sym (writes_many samples rate out (ltb-true most_samples (length samples) many)))
    go (inr few) (inr (i, e)) c =
        let fit = ltb-false most_samples (length samples) few in
        away (Read i) (inr (inl (i, refl))) (sym (writes_unread samples rate out fit (Err (Read i)) (sym e) (Read i) refl))
    go (inr few) (inl e) (inl short) =
        away Output (inr (inr refl))
        (sym
        (writes_short samples rate out (ltb-false most_samples (length samples) few) (Ok 0) (sym e) 0 refl
        (ltb-true (length out) (wav_bytes (length samples)) short)))
    go (inr few) (inl e) (inr long) =
        let fit = ltb-false most_samples (length samples) few in
        let ranged = accepted_in_range 0 0 samples e in
        let room = ltb-false (length out) (wav_bytes (length samples)) long in
        laid (record { count = refl; few = fit; ranged = ranged; room = room; file = wav_done samples rate out fit ranged room })

-- the writer is turned away by 2, 7 or 21
pub written_only_these : (samples : List ℕ) (rate : ℕ) (out : List ℕ)
    → let k = number (wav_written samples rate out).answer in (k ≡ 0) ⊎ (k ≡ 2) ⊎ (k ≡ 7) ⊎ (k ≡ 21)
written_only_these samples rate out = go (wav_ending samples rate out)
  where
    go : WavEnding samples rate out
        → let k = number (wav_written samples rate out).answer in (k ≡ 0) ⊎ (k ≡ 2) ⊎ (k ≡ 7) ⊎ (k ≡ 21)
    go (laid d) = inl (ap (λ (w : Written). number w.answer) d.file)
    go (away why (inl e) is) = inr (inl (ap (λ (w : Written). number w.answer) is ∙ ap (λ (r : Reason). number (Err r)) e))
    go (away why (inr (inl (i, e))) is) =
        inr (inr (inl (ap (λ (w : Written). number w.answer) is ∙ ap (λ (r : Reason). number (Err r)) e)))
    go (away why (inr (inr e)) is) =
        inr (inr (inr (ap (λ (w : Written). number w.answer) is ∙ ap (λ (r : Reason). number (Err r)) e)))

-- and then the room is as it was
pub written_away : (samples : List ℕ) (rate : ℕ) (out : List ℕ) (why : Reason) → (wav_written samples rate out).answer ≡ Err why
    → wav_written samples rate out ≡ written (Err why) out
written_away samples rate out why h = go (wav_ending samples rate out)
  where
    go : WavEnding samples rate out → wav_written samples rate out ≡ written (Err why) out
    go (laid d) = never_both (sym (ap (λ (w : Written). w.answer) d.file) ∙ h)
    go (away other e is) =
        let same : Err other ≡ Err why = sym (ap (λ (w : Written). w.answer) is) ∙ h in
        is ∙ ap (λ (a : Answer). written a out) same

-- where it accepts, the file is written
pub written_done : (samples : List ℕ) (rate : ℕ) (out : List ℕ) (m : ℕ) → (wav_written samples rate out).answer ≡ Ok m
    → WavDone samples rate out m
written_done samples rate out m h = go (wav_ending samples rate out)
  where
    go : WavEnding samples rate out → WavDone samples rate out m
    go (away why e is) = never_both (sym h ∙ ap (λ (w : Written). w.answer) is)
    go (laid d) =
        let same : Ok m ≡ Ok (wav_bytes (length samples)) = sym h ∙ ap (λ (w : Written). w.answer) d.file in
        record { count = (cc); few = d.few; ranged = d.ranged; room = d.room; file = d.file }
