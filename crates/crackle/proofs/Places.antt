-- A detector that stands at place t of a recording, and the flags that it has left to give: those of the whole when it begins, and each sample gives
-- the first of what is left. Assumes nothing.
use mathlib.Core.Path.{◌≡◌, refl, sym, ap, subst, ◌∙◌}
use mathlib.Core.Bool.{Bool, true, false, ◌||◌}
use mathlib.Core.List.{List, [], ◌∷◌, ◌++◌, append_assoc, map-append}
use mathlib.Core.Logic.{◌⊎◌, inl, inr}
use Prim.Native.Nat.{ℕ, suc, ◌+◌, ◌-◌, ◌≤◌, ◌<◌}
use native.Mathlib.Omega.{arith}
use native.Mathlib.Nat.{add-zero}
use borrow.Author.Tests.{eq-eqb, ne_eqb, eqb-true, eqb-false}
use lib.Dec.{T, eqb}
use lib.ListN.{length, get_or, take, drop, set, length-drop}
use lib.Seq.{get_or-drop, drop-drop, take-suc-set, take-append-le}
use lib.Ieee.{Float, binary32, to_bits, fits}
use lib.Ieee.Bits.{of_bits-to_bits, of_bits-fits}
use lib.Ieee.Fits.{sub-fits}
use Rattle.leaves.specs.Arithmetic.{◌+₃₂◌, ◌*₃₂◌, nought, half, float}
use Rattle.std.specs.Prelude.{if◌then◌else◌}
use Rattle.leaves.specs.Floats.{magnitude}
use Rattle.leaves.proofs.Choice.{truth, picks}
use Rattle.leaves.proofs.Literals.{nought_word}
use Rattle.redraw.specs.Whole.{sample}
use Rattle.decrackle.specs.declared.Start.{Start}
use Rattle.decrackle.specs.declared.Start.TheVariants.{Mean}
use Rattle.decrackle.specs.Decrackle.{from_middle, detector, magnitudes_from, magnitudes, mean_over, opening_floor, floor_after}
use Rattle.decrackle.proofs.Opening.{length_magnitudes, magnitudes_both}
use Rattle.decrackle.proofs.Ends.{end_detector}
use Rattle.crackle.specs.declared.Detector.{Detector}
use Rattle.crackle.specs.Inner.{flag_against}
use Rattle.crackle.specs.Pieces.{known_by, held_back, given_by, Holding, values_with, magnitudes_in, held_with, judged_with, floor_before, floor_along}
use Rattle.crackle.specs.Pieces.{flags_along, flags_with, floor_with, value_before, over_with, flags_by, with_sample, with_piece, flags_before, last_flags}
use Rattle.crackle.proofs.Due.{held_case, held_same, held_ends, held_few, held_before, given_none, given_known, length_along, over_is}
use Rattle.crackle.proofs.Due.{judged_still}
use Rattle.crackle.proofs.Due.{same_start, same_room}
use Rattle.crackle.proofs.Judging.{along_more, along_none}

-- ---- Flags along several magnitudes

module _ (d : Detector) where
  -- of some and of those behind them
  pub along_both : (floor : Float) (ms bs : List Float) → flags_along d floor (ms ++ bs) ≡ flags_along d floor ms ++ flags_along d (floor_along floor ms) bs
  unfolding floor_along
  along_both floor [] bs = sym (ap (λ (l : List Bool). l ++ flags_along d floor bs) (along_none d floor))
  along_both floor (a ∷ ms) bs =
      let next = floor_after floor a in
      along_more d floor a (ms ++ bs)
      ∙ ap (λ (l : List Bool). flag_against d next a ∷ l) (along_both next ms bs)
      ∙ sym (ap (λ (l : List Bool). l ++ flags_along d (floor_along next ms) bs) (along_more d floor a ms))

  -- only total and factor have a say
  pub along_same : (e : Detector) (floor : Float) (ms : List Float) → e.total ≡ d.total → e.factor ≡ d.factor
      → flags_along e floor ms ≡ flags_along d floor ms
  unfolding flags_along
  along_same e floor ms et ef = rw (et, ef) refl

-- ---- The flags that are left

-- the floor before them: the one that is carried, or the one that the whole starts from
unfoldable pub floor_at : List ℕ → Detector → ℕ → Float
floor_at s d t = if held_back d.start t then opening_floor d.start (magnitudes s) else d.floor

-- all that are left when t samples are in
unfoldable pub left : List ℕ → Detector → ℕ → List Bool
left s d t = flags_along d (floor_at s d t) (magnitudes_from s (given_by d.start t) (length s - given_by d.start t))

pub length_left : (s : List ℕ) (d : Detector) (t : ℕ) → length (left s d t) ≡ length s - given_by d.start t
unfolding left
length_left s d t = length_along d (floor_at s d t) _ ∙ length_magnitudes s _ _

-- of a detector that holds flags back they are all, and else those behind the known places
pub left_held : (s : List ℕ) (d : Detector) (t : ℕ) → held_back d.start t ≡ true
    → left s d t ≡ flags_along d (opening_floor d.start (magnitudes s)) (magnitudes_from s 0 (length s))
unfolding left floor_at
left_held s d t h = let none : length s - 0 ≡ length s = omega arith in rw (h, given_none d.start t h, none) refl

pub left_free : (s : List ℕ) (d : Detector) (t : ℕ) → held_back d.start t ≡ false
    → left s d t ≡ flags_along d d.floor (magnitudes_from s (known_by t) (length s - known_by t))
unfolding left floor_at
left_free s d t h = rw (h, given_known d.start t h) refl

-- ---- A detector that stands at place t of a recording

pub record At (s : List ℕ) (t : ℕ) (h : Holding) : Type 0 where
  pub total_is : h.detector.total ≡ length s
  pub taken_is : h.detector.taken ≡ t
  pub inside : t ≤ length s
  pub goes_on : h.detector.running ≡ true
  pub last_is : 1 ≤ t → h.detector.last ≡ sample s (t - 1)
  pub before_is : 2 ≤ t → h.detector.before ≡ sample s (t - 2)
  pub enough : mean_over ≤ length h.values
  pub held_is : held_back h.detector.start t ≡ true → magnitudes_in (take (known_by t) h.values) ≡ magnitudes_from s 0 (known_by t)

-- the value at the place of its last sample is the whole's
value_there : (s : List ℕ) (t : ℕ) (h : Holding) → At s t h → 1 ≤ t → t < length s → value_before h.detector (sample s t) ≡ detector s (t - 1)
unfolding value_before detector
value_there s t h at some more = elim (truth (eqb t 1)) [ inl e ↦ first (eqb-true t 1 e) | inr e ↦ later (eqb-false t 1 e) ]
  where
    d : Detector
    d = h.detector

    first : t ≡ 1 → value_before d (sample s t) ≡ detector s (t - 1)
    first e = rw (at.taken_is, eq-eqb t 1 e, eq-eqb (t - 1) 0 (omega arith)) refl

    later : (t ≡ 1 → ⊥) → value_before d (sample s t) ≡ detector s (t - 1)
    later e =
        let inner : eqb (t - 1) 0 ≡ false = ne_eqb (t - 1) 0 (λ k. e (omega (arith, k, some))) in
        let whole : eqb (t - 1 + 1) (length s) ≡ false = ne_eqb (t - 1 + 1) (length s) (λ k. absurd (omega (arith, k, more, some))) in
        let back : t - 1 - 1 ≡ t - 2 = omega arith in
        let here : t - 1 + 1 ≡ t = omega (arith, some) in
        let two : 2 ≤ t = omega (arith, some, e) in
        rw (at.taken_is, ne_eqb t 1 e, inner, whole, back, here, at.last_is some, at.before_is two) refl

-- a value of the whole is an f32, and its word gives it back
pub nought_fits : T (fits binary32 nought)
nought_fits = subst (λ (x : Float). T (fits binary32 x)) nought_word (of_bits-fits binary32 0)

value_fits : (s : List ℕ) (i : ℕ) → T (fits binary32 (detector s i))
unfolding detector from_middle
value_fits s i =
    picks (λ (x : Float). T (fits binary32 x)) (eqb i 0 || eqb (i + 1) (length s)) nought
    (from_middle (sample s (i - 1)) (sample s i) (sample s (i + 1))) nought_fits
    (sub-fits binary32 (sample s i) (half *₃₂ (sample s (i - 1) +₃₂ sample s (i + 1))))

-- ---- The values that are held

-- with that of the last place they are those of all places so far
held_next : (s : List ℕ) (t : ℕ) (h : Holding) (v : Float) → At s t h → 1 ≤ t → held_back h.detector.start t ≡ true → v ≡ detector s (t - 1)
    → held_with h v ≡ magnitudes_from s 0 t
unfolding held_with values_with magnitudes_in magnitudes_from float
held_next s t h v at some held ev =
    let d = h.detector in
    let few = (held_few d.start t held).1 in
    let inside : t - 1 < length h.values = omega (arith, few, some, at.enough) in
    let next : t ≡ suc (t - 1) = omega (arith, some) in
    let one : t ≡ t - 1 + 1 = omega (arith, some) in
    let none : 0 + (t - 1) ≡ t - 1 = omega arith in
    let word : float (to_bits binary32 v) ≡ detector s (t - 1) = rw ev (of_bits-to_bits binary32 _ (value_fits s (t - 1))) in
    let stored : take t (values_with h v) ≡ take (t - 1) h.values ++ (to_bits binary32 v ∷ []) =
    rw (at.taken_is, held)
    (ap (λ (k : ℕ). take k (set h.values (t - 1) (to_bits binary32 v))) next ∙ take-suc-set h.values (t - 1) (to_bits binary32 v) inside)
    in
    ap (λ (k : ℕ). magnitudes_in (take k (values_with h v))) at.taken_is
    ∙ ap magnitudes_in stored
    ∙ map-append (λ (w : ℕ). magnitude (float w)) (take (t - 1) h.values) (to_bits binary32 v ∷ [])
    ∙ ap (λ (x : Float). magnitudes_in (take (t - 1) h.values) ++ (magnitude x ∷ [])) word
    ∙ ap (λ (l : List Float). l ++ (magnitude (detector s (t - 1)) ∷ [])) (at.held_is held)
    ∙ ap (λ (k : ℕ). magnitudes_from s 0 (t - 1) ++ magnitudes_from s k 1) (sym none)
    ∙ sym (magnitudes_both s 0 (t - 1) 1)
    ∙ ap (magnitudes_from s 0) (sym one)

-- from these the floor starts as from the whole, where there are 1,024 of them or all
opening_there : (s : List ℕ) (start : Start) (t : ℕ) → start ≡ Mean → t ≤ length s → (mean_over ≤ t) ⊎ (t ≡ length s)
    → opening_floor start (magnitudes_from s 0 t) ≡ opening_floor start (magnitudes s)
unfolding opening_floor magnitudes
opening_there s start t m h (inr e) = ap (λ (k : ℕ). opening_floor start (magnitudes_from s 0 k)) e
opening_there s start t m h (inl many) =
    let rest : length s ≡ t + (length s - t) = omega (arith, h) in
    let split : magnitudes s ≡ magnitudes_from s 0 t ++ magnitudes_from s (0 + t) (length s - t) =
    ap (magnitudes_from s 0) rest ∙ magnitudes_both s 0 t (length s - t) in
    let first : take mean_over (magnitudes s) ≡ take mean_over (magnitudes_from s 0 t) =
    ap (take mean_over) split ∙ take-append-le mean_over (magnitudes_from s 0 t) _ (omega (arith, many, length_magnitudes s 0 t)) in
    rw (m, first) refl

-- ---- One sample

-- what it leaves as it was
module _ (h : Holding) (x : Float) where
  sample_keeps : ((with_sample h x).detector.total ≡ h.detector.total) × ((with_sample h x).detector.factor ≡ h.detector.factor)
  unfolding with_sample
  sample_keeps = (refl, refl)

  -- the very first leaves the floor and the values too, and gives nothing
  first_leaves : eqb h.detector.taken 0 ≡ true
      → ((with_sample h x).detector.floor ≡ h.detector.floor) × ((with_sample h x).values ≡ h.values) × (flags_by h x ≡ [])
  unfolding with_sample flags_by
  first_leaves e = rw e (refl, refl, refl)

  -- any other makes the value of a place known
  later_leaves : eqb h.detector.taken 0 ≡ false
      → let v = value_before h.detector x in
      let over = over_with h.detector in
      ((with_sample h x).detector.floor ≡ floor_with h v over) × ((with_sample h x).values ≡ values_with h v) × (flags_by h x ≡ flags_with h v over)
  unfolding with_sample flags_by
  later_leaves e = rw e (refl, refl, refl)

-- what becomes of a value, by whether flags are held back and whether that is over
module _ (h : Holding) (v : Float) (over : Bool) where
  abbrev d : Detector
  d = h.detector

  still_held : held_back d.start d.taken ≡ true → over ≡ false → flags_with h v over ≡ []
  unfolding flags_with
  still_held e f = ap (flags_along d (floor_before h v over)) (judged_still h v over e f) ∙ along_none d (floor_before h v over)

  let_go : held_back d.start d.taken ≡ true → over ≡ true
      → (flags_with h v over ≡ flags_along d (opening_floor d.start (held_with h v)) (held_with h v))
      × (floor_with h v over ≡ floor_along (opening_floor d.start (held_with h v)) (held_with h v))
  unfolding flags_with floor_with judged_with floor_before
  let_go e f = rw (e, f) (refl, refl)

  at_once : held_back d.start d.taken ≡ false
      → (flags_with h v over ≡ flags_along d d.floor (magnitude v ∷ [])) × (floor_with h v over ≡ floor_along d.floor (magnitude v ∷ []))
  unfolding flags_with floor_with judged_with floor_before
  at_once e = rw e (refl, refl)

-- the values that are held, under other names
held_are : (h : Holding) (v : Float) (t : ℕ) → h.detector.taken ≡ t → magnitudes_in (take t (values_with h v)) ≡ held_with h v
unfolding held_with magnitudes_in
held_are h v t e = rw (← e) refl

pub no_magnitude : (s l : List ℕ) → magnitudes_in (take 0 l) ≡ magnitudes_from s 0 0
unfolding magnitudes_in magnitudes_from
no_magnitude s l = refl

-- the first of the magnitudes behind the known places
first_known : (s : List ℕ) (t n : ℕ) (v : Float) → v ≡ detector s (t - 1) → 1 ≤ t → t < n
    → magnitudes_from s (t - 1) (n - (t - 1)) ≡ magnitude v ∷ magnitudes_from s (t + 1 - 1) (n - (t + 1 - 1))
unfolding magnitudes_from
first_known s t n v ev some more =
    let fewer : n - (t - 1) ≡ suc (n - (t + 1 - 1)) = omega (arith, some, more) in
    let next : t - 1 + 1 ≡ t + 1 - 1 = omega (arith, some) in
    ap (magnitudes_from s (t - 1)) fewer ∙ rw (ev, next) refl

-- what is left by any two detectors that agree
left_same : (s : List ℕ) (d e : Detector) (t u : ℕ) → e.start ≡ d.start → e.total ≡ d.total → e.factor ≡ d.factor → e.floor ≡ d.floor
    → known_by u ≡ known_by t → left s e u ≡ left s d t
unfolding left floor_at given_by
left_same s d e t u es et ef el k =
    along_same d e _ _ et ef ∙ rw (es, el, held_same d.start t u k, k) refl

-- ---- One sample, on the way

module _ (s : List ℕ) (t : ℕ) (h : Holding) (at : At s t h) (more : t < length s) where
  abbrev x : Float
  x = sample s t

  abbrev e : Detector
  e = h.detector

  abbrev start : Start
  start = h.detector.start

  abbrev next : Holding
  next = with_sample h (sample s t)

  abbrev n : ℕ
  n = length s

  -- it is not the very first
  module _ (later : t ≡ 0 → ⊥) where
    abbrev v : Float
    v = value_before h.detector (sample s t)

    one : 1 ≤ t
    one = omega (arith, later)

    counted : eqb e.taken 0 ≡ false
    counted = ne_eqb e.taken 0 (λ k. later (sym at.taken_is ∙ k))

    value_is : v ≡ detector s (t - 1)
    value_is = value_there s t h at one more

    held_at : (u : ℕ) (b : Bool) → held_back start (t + u) ≡ b → held_back start (e.taken + u) ≡ b
    held_at u b k = ap (λ (i : ℕ). held_back start (i + u)) at.taken_is ∙ k

    held_now : (b : Bool) → held_back start t ≡ b → held_back start e.taken ≡ b
    held_now b k = ap (held_back start) at.taken_is ∙ k

    held_so : held_back start t ≡ true → held_with h v ≡ magnitudes_from s 0 t
    held_so k = held_next s t h v at one k value_is

    -- flags are held back, and stay so
    still_gives : held_back start t ≡ true → held_back start (t + 1) ≡ true → flags_by h x ++ left s next.detector (t + 1) ≡ left s e t
    still_gives k l =
        let none : flags_by h x ≡ [] = (later_leaves h x counted).2 ∙ still_held h v (over_with e) (held_now true k) (over_is e true (held_at 1 true l)) in
        let keeps = sample_keeps h x in
        ap (λ (fs : List Bool). fs ++ left s next.detector (t + 1)) none
        ∙ left_held s next.detector (t + 1) (ap (λ (b : Start). held_back b (t + 1)) (same_start h x) ∙ l)
        ∙ along_same e next.detector _ _ keeps.0 keeps.1
        ∙ ap (λ (b : Start). flags_along e (opening_floor b (magnitudes s)) (magnitudes_from s 0 n)) (same_start h x)
        ∙ sym (left_held s e t k)

    -- they come
    go_gives : held_back start t ≡ true → held_back start (t + 1) ≡ false → flags_by h x ++ left s next.detector (t + 1) ≡ left s e t
    go_gives k l =
        let keeps = sample_keeps h x in
        let leaves = later_leaves h x counted in
        let gone = let_go h v (over_with e) (held_now true k) (over_is e false (held_at 1 false l)) in
        let mean = (held_few start t k).0 in
        let opens : opening_floor start (held_with h v) ≡ opening_floor start (magnitudes s) =
        ap (opening_floor start) (held_so k) ∙ opening_there s start t mean (omega (arith, more)) (inl (held_ends start t mean l)) in
        let flags_are : flags_by h x ≡ flags_along e (opening_floor start (magnitudes s)) (magnitudes_from s 0 t) =
        leaves.2 ∙ gone.0 ∙ ap (λ (f : Float). flags_along e f (held_with h v)) opens
        ∙ ap (flags_along e (opening_floor start (magnitudes s))) (held_so k) in
        let floor_is : next.detector.floor ≡ floor_along (opening_floor start (magnitudes s)) (magnitudes_from s 0 t) =
        leaves.0 ∙ gone.1 ∙ ap (λ (f : Float). floor_along f (held_with h v)) opens
        ∙ ap (floor_along (opening_floor start (magnitudes s))) (held_so k) in
        let known : t + 1 - 1 ≡ 0 + t = omega arith in
        let same : t + 1 - 1 ≡ t = omega arith in
        let floor = floor_along (opening_floor start (magnitudes s)) (magnitudes_from s 0 t) in
        let behind : left s next.detector (t + 1) ≡ flags_along e floor (magnitudes_from s (0 + t) (n - t)) =
        left_free s next.detector (t + 1) (ap (λ (b : Start). held_back b (t + 1)) (same_start h x) ∙ l)
        ∙ along_same e next.detector _ _ keeps.0 keeps.1
        ∙ ap (λ (f : Float). flags_along e f (magnitudes_from s (t + 1 - 1) (n - (t + 1 - 1)))) floor_is
        ∙ ap (λ (i : ℕ). flags_along e floor (magnitudes_from s i (n - (t + 1 - 1)))) known
        ∙ ap (λ (i : ℕ). flags_along e floor (magnitudes_from s (0 + t) (n - i))) same in
        let all : n ≡ t + (n - t) = omega (arith, more) in
        ap (λ (fs : List Bool). fs ++ left s next.detector (t + 1)) flags_are
        ∙ ap (λ (fs : List Bool). flags_along e (opening_floor start (magnitudes s)) (magnitudes_from s 0 t) ++ fs) behind
        ∙ sym (along_both e (opening_floor start (magnitudes s)) (magnitudes_from s 0 t) (magnitudes_from s (0 + t) (n - t)))
        ∙ ap (flags_along e (opening_floor start (magnitudes s))) (sym (ap (magnitudes_from s 0) all ∙ magnitudes_both s 0 t (n - t)))
        ∙ sym (left_held s e t k)

    -- none is held back
    free_gives : held_back start t ≡ false → held_back start (t + 1) ≡ false → flags_by h x ++ left s next.detector (t + 1) ≡ left s e t
    free_gives k l =
        let keeps = sample_keeps h x in
        let leaves = later_leaves h x counted in
        let judged = at_once h v (over_with e) (held_now false k) in
        let a = magnitude v ∷ [] in
        let behind : left s next.detector (t + 1) ≡ flags_along e (floor_along e.floor a) (magnitudes_from s (t + 1 - 1) (n - (t + 1 - 1))) =
        left_free s next.detector (t + 1) (ap (λ (b : Start). held_back b (t + 1)) (same_start h x) ∙ l)
        ∙ along_same e next.detector _ _ keeps.0 keeps.1
        ∙ ap (λ (f : Float). flags_along e f (magnitudes_from s (t + 1 - 1) (n - (t + 1 - 1)))) (leaves.0 ∙ judged.1) in
        ap (λ (fs : List Bool). fs ++ left s next.detector (t + 1)) (leaves.2 ∙ judged.0)
        ∙ ap (λ (fs : List Bool). flags_along e e.floor a ++ fs) behind
        ∙ sym (along_both e e.floor a (magnitudes_from s (t + 1 - 1) (n - (t + 1 - 1))))
        ∙ ap (flags_along e e.floor) (sym (first_known s t n v value_is one more))
        ∙ sym (left_free s e t k)

  -- so it gives the first of what is left
  pub sample_gives : flags_by h x ++ left s next.detector (t + 1) ≡ left s e t
  sample_gives = elim (truth (eqb t 0)) [ inl k ↦ first (eqb-true t 0 k) | inr k ↦ other (eqb-false t 0 k) (held_case start t) ]
    where
      first : t ≡ 0 → flags_by h x ++ left s next.detector (t + 1) ≡ left s e t
      first k =
          let leaves = first_leaves h x (eq-eqb e.taken 0 (at.taken_is ∙ k)) in
          let keeps = sample_keeps h x in
          ap (λ (fs : List Bool). fs ++ left s next.detector (t + 1)) leaves.2
          ∙ left_same s e next.detector t (t + 1) (same_start h x) keeps.0 keeps.1 leaves.0 (omega (arith, k))

      other : (t ≡ 0 → ⊥)
          → ((held_back start t ≡ true) × (start ≡ Mean) × (t ≤ mean_over)) ⊎ ((held_back start t ≡ false) × ((m : ℕ) → held_back start (t + m) ≡ false))
          → flags_by h x ++ left s next.detector (t + 1) ≡ left s e t
      other k (inl (held, m, few)) =
          elim (truth (held_back start (t + 1))) [ inl l ↦ still_gives k held l | inr l ↦ go_gives k held l ]
      other k (inr (free, later)) = free_gives k free (later 1)

  -- and stands one place further
  held_there : held_back start (t + 1) ≡ true → magnitudes_in (take t next.values) ≡ magnitudes_from s 0 t
  held_there later = elim (truth (eqb t 0)) [ inl k ↦ none (eqb-true t 0 k) | inr k ↦ some (eqb-false t 0 k) ]
    where
      none : t ≡ 0 → magnitudes_in (take t next.values) ≡ magnitudes_from s 0 t
      none k = rw k (no_magnitude s next.values)

      some : (t ≡ 0 → ⊥) → magnitudes_in (take t next.values) ≡ magnitudes_from s 0 t
      some k =
          ap (λ (l : List ℕ). magnitudes_in (take t l)) (later_leaves h x (counted k)).1
          ∙ held_are h (v k) t at.taken_is
          ∙ held_so k (held_before start t later)

  pub next_there : At s (t + 1) next
  unfolding with_sample
  next_there =
      record {
        total_is = at.total_is;
        taken_is = ap (λ (k : ℕ). k + 1) at.taken_is;
        inside = omega (arith, more);
        goes_on = at.goes_on;
        last_is = λ k. let same : t ≡ t + 1 - 1 = omega arith in ap (sample s) same;
        before_is = λ k. let same : t - 1 ≡ t + 1 - 2 = omega arith in at.last_is (omega (arith, k)) ∙ ap (sample s) same;
        enough = omega (arith, at.enough, same_room h x);
        held_is = λ k. let same : t + 1 - 1 ≡ t = omega arith in rw same (held_there k);
      }

-- ---- A piece of the recording

-- a piece in these samples gives the first of what is left
abbrev Gives : List ℕ → ℕ → Holding → List ℕ → ℕ → Type 0
Gives s t h ws k = At s k (with_piece h ws) × (flags_before h ws ++ left s (with_piece h ws).detector k ≡ left s h.detector t)

-- one sample, and then those behind it
one_gives : (s ws : List ℕ) (t w k : ℕ) (h : Holding) → At s t h → t < length s → float w ≡ sample s t
    → Gives s (t + 1) (with_sample h (sample s t)) ws k → Gives s t h (w ∷ ws) k
unfolding with_piece flags_before
one_gives s ws t w k h at more word (stands, gives) =
    let there = with_sample h (sample s t) in
    subst (λ (x : Float). At s k (with_piece (with_sample h x) ws)
    × (flags_by h x ++ flags_before (with_sample h x) ws ++ left s (with_piece (with_sample h x) ws).detector k ≡ left s h.detector t)) (sym word) (
      stands,
      append_assoc (flags_by h (sample s t)) (flags_before there ws) (left s (with_piece there ws).detector k)
          ∙ ap (λ (l : List Bool). flags_by h (sample s t) ++ l) gives
          ∙ sample_gives s t h at more,
    )

pub piece_gives : (s ws rest : List ℕ) (t : ℕ) (h : Holding) → At s t h → drop t s ≡ ws ++ rest → Gives s t h ws (t + length ws)
unfolding with_piece flags_before
piece_gives s [] rest t h at parts = (rw (add-zero t) at, rw (add-zero t) refl)
piece_gives s (w ∷ ws) rest t h at parts =
    let none : t + 0 ≡ t = omega arith in
    let here : get_or s t 0 ≡ w = sym (get_or-drop t s 0 0 ∙ ap (λ (k : ℕ). get_or s k 0) none) ∙ ap (λ (l : List ℕ). get_or l 0 0) parts in
    let later : drop (t + 1) s ≡ ws ++ rest = sym (drop-drop 1 t s) ∙ ap (drop 1) parts in
    let more : t < length s = omega (arith, length-drop t s, ap length parts) in
    let count : t + 1 + length ws ≡ t + suc (length ws) = omega arith in
    subst (Gives s t h (w ∷ ws)) count
    (one_gives s ws t w (t + 1 + length ws) h at more (ap float (sym here))
    (piece_gives s ws rest (t + 1) (with_sample h (sample s t)) (next_there s t h at more) later))

-- ---- The end

-- one magnitude is left behind the known places
single_known : (s : List ℕ) (n : ℕ) (v : Float) → v ≡ detector s (n - 1) → 1 ≤ n → magnitudes_from s (n - 1) (n - (n - 1)) ≡ magnitude v ∷ []
unfolding magnitudes_from
single_known s n v ev some = let one : n - (n - 1) ≡ 1 = omega (arith, some) in ap (magnitudes_from s (n - 1)) one ∙ rw ev refl

no_flags : (l : List Bool) → length l ≡ 0 → l ≡ []
no_flags [] e = refl
no_flags (b ∷ l) e = absurd (omega (arith, e))

module _ (s : List ℕ) (h : Holding) (at : At s (length s) h) where
  abbrev all : ℕ
  all = length s

  abbrev own : Detector
  own = h.detector

  end_none : all ≡ 0 → last_flags h ≡ left s own all
  unfolding last_flags
  end_none e = rw (eq-eqb own.taken 0 (at.taken_is ∙ e)) (sym (no_flags (left s own all) (omega (arith, length_left s own all, e))))

  module _ (some : all ≡ 0 → ⊥) where
    last_is_nought : nought ≡ detector s (all - 1)
    last_is_nought = let last : all - 1 + 1 ≡ all = omega (arith, some) in sym (end_detector s (all - 1) (inr last))

    last-flags : last_flags h ≡ flags_with h nought true
    unfolding last_flags
    last-flags = rw (ne_eqb own.taken 0 (λ e. some (sym at.taken_is ∙ e))) refl

    held_last : (b : Bool) → held_back own.start all ≡ b → held_back own.start own.taken ≡ b
    held_last b k = ap (held_back own.start) at.taken_is ∙ k

    -- all that were held back
    end_all : held_back own.start all ≡ true → last_flags h ≡ left s own all
    unfolding magnitudes
    end_all k =
        let held_so = held_next s all h nought at (omega (arith, some)) k last_is_nought in
        last-flags
        ∙ (let_go h nought true (held_last true k) refl).0
        ∙ ap (λ (ms : List Float). flags_along own (opening_floor own.start ms) ms) held_so
        ∙ sym (left_held s own all k)

    -- the last
    end_one : held_back own.start all ≡ false → last_flags h ≡ left s own all
    end_one k =
        last-flags
        ∙ (at_once h nought true (held_last false k)).0
        ∙ ap (flags_along own own.floor) (sym (single_known s all nought last_is_nought (omega (arith, some))))
        ∙ sym (left_free s own all k)

  -- the flags that the end gives are those that are left
  pub end_gives : last_flags h ≡ left s own all
  end_gives = elim (truth (eqb all 0)) [ inl e ↦ end_none (eqb-true all 0 e) | inr e ↦ some (eqb-false all 0 e) ]
    where
      some : (all ≡ 0 → ⊥) → last_flags h ≡ left s own all
      some e = elim (truth (held_back own.start all)) [ inl k ↦ end_all e k | inr k ↦ end_one e k ]
