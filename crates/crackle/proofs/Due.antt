-- How many flags come when: the counts of specs/Pieces.antt, as numbers and as lengths of the lists that they count. Assumes nothing.
use mathlib.Core.Path.{◌≡◌, refl, sym, ap, ◌∙◌}
use mathlib.Core.Bool.{Bool, true, false, not, true≢false}
use mathlib.Core.List.{List, [], ◌∷◌}
use mathlib.Core.Logic.{◌⊎◌, inl, inr}
use Prim.Native.Nat.{ℕ, suc, ◌+◌, ◌-◌, ◌≤◌}
use native.Mathlib.Omega.{arith}
use borrow.Author.Tests.{ltb-true, ltb-false, le-ltb, le-leb, lt-leb, eqb-true, eqb-false}
use lib.Dec.{ltb, leb, eqb}
use lib.ListN.{length, take, set, replicate, length-append, length-map, length-set, length-replicate}
use lib.Seq.{length-take-le}
use lib.Ieee.{Float, binary32, to_bits}
use Rattle.leaves.specs.Arithmetic.{nought, float}
use Rattle.leaves.specs.Floats.{magnitude}
use Rattle.leaves.proofs.Choice.{truth, picks}
use Rattle.decrackle.specs.declared.Start.{Start}
use Rattle.decrackle.specs.declared.Start.TheVariants.{Mean, Old}
use Rattle.decrackle.specs.Decrackle.{mean_over, least_samples, flags_from}
use Rattle.decrackle.proofs.Flags.{length_flags}
use Rattle.crackle.specs.declared.Detector.{Detector}
use Rattle.crackle.specs.Pieces.{known_by, held_back, given_by, flags_due, Holding, values_with, held_with, judged_with, flags_along, flags_with}
use Rattle.crackle.specs.Pieces.{value_before, over_with, flags_by, with_sample, with_piece, flags_before, last_flags, last_values}

-- ---- Held back or not

-- it is, from the mean and at 1,024 samples at most; or it is not, nor later
pub held_case : (start : Start) (t : ℕ)
    → ((held_back start t ≡ true) × (start ≡ Mean) × (t ≤ mean_over))
    ⊎ ((held_back start t ≡ false) × ((n : ℕ) → held_back start (t + n) ≡ false))
unfolding held_back
held_case Old t = inr (refl, λ n. refl)
held_case Mean t =
    elim (truth (ltb (known_by t) mean_over)) [
      | inl h ↦ inl (h, refl, omega (arith, ltb-true (known_by t) mean_over h))
      | inr h ↦ inr (h, λ n. le-ltb (known_by (t + n)) mean_over (omega (arith, ltb-false (known_by t) mean_over h)))
    ]

-- the code's tests of it
pub held_mean : (start : Start) (t : ℕ) → start ≡ Mean → leb t mean_over ≡ held_back start t
unfolding held_back
held_mean start t e =
    rw e
    (elim (truth (ltb (known_by t) mean_over)) [
      | inl h ↦ le-leb t mean_over (omega (arith, ltb-true (known_by t) mean_over h)) ∙ sym h
      | inr h ↦ lt-leb t mean_over (omega (arith, ltb-false (known_by t) mean_over h)) ∙ sym h
    ])

pub held_old : (start : Start) (t : ℕ) → start ≡ Old → false ≡ held_back start t
unfolding held_back
held_old start t e = rw e refl

-- it depends on what is known alone
pub held_same : (start : Start) (t u : ℕ) → known_by u ≡ known_by t → held_back start u ≡ held_back start t
unfolding held_back
held_same Mean t u h = ap (λ (k : ℕ). ltb k mean_over) h
held_same Old t u h = refl

-- and ends from the mean when 1,024 values are known
pub held_ends : (start : Start) (t : ℕ) → start ≡ Mean → held_back start (t + 1) ≡ false → mean_over ≤ t
unfolding held_back
held_ends start t e h = let known = ltb-false (known_by (t + 1)) mean_over (rw e at h) in omega (arith, known)

pub held_few : (start : Start) (t : ℕ) → held_back start t ≡ true → (start ≡ Mean) × (t ≤ mean_over)
held_few start t h =
    elim (held_case start t) [ inl (x, m, few) ↦ (m, few) | inr (free, later) ↦ absurd (true≢false (sym h ∙ free)) ]

-- what holds them back when more samples are in did so before
pub held_before : (start : Start) (t : ℕ) → held_back start (t + 1) ≡ true → held_back start t ≡ true
held_before start t h =
    elim (held_case start t) [ inl (x, m, few) ↦ x | inr (free, later) ↦ absurd (true≢false (sym h ∙ later 1)) ]

-- ---- Flags given

module _ (start : Start) (t : ℕ) where
  pub given_none : held_back start t ≡ true → given_by start t ≡ 0
  unfolding given_by
  given_none h = rw h refl

  pub given_known : held_back start t ≡ false → given_by start t ≡ known_by t
  unfolding given_by
  given_known h = rw h refl

pub given_grows : (start : Start) (t n : ℕ) → given_by start t ≤ given_by start (t + n)
given_grows start t n =
    elim (held_case start t) [
      | inl (held, m, few) ↦ omega (arith, given_none start t held)
      | inr (free, later) ↦ omega (arith, given_known start t free, given_known start (t + n) (later n))
    ]

pub given_within : (start : Start) (t : ℕ) → given_by start t ≤ known_by t
given_within start t =
    elim (held_case start t) [
      | inl (held, m, few) ↦ omega (arith, given_none start t held)
      | inr (free, later) ↦ omega (arith, given_known start t free)
    ]

-- ---- Flags due

module _ (start : Start) (t : ℕ) where
  pub due_is : (n a b : ℕ) → a ≡ given_by start (t + n) → b ≡ given_by start t → a - b ≡ flags_due start t n
  unfolding flags_due
  due_is n a b ea eb = rw (ea, eb) refl

  pub due_none : flags_due start t 0 ≡ 0
  unfolding flags_due
  due_none = let same : t + 0 ≡ t = omega arith in rw same (omega arith)

  pub due_both : (n m : ℕ) → flags_due start t (n + m) ≡ flags_due start t n + flags_due start (t + n) m
  unfolding flags_due
  due_both n m =
      let same : t + (n + m) ≡ t + n + m = omega arith in
      rw same (differ (given_by start t) (given_by start (t + n)) (given_by start (t + n + m)) (given_grows start t n) (given_grows start (t + n) m))
    where
      differ : (a b c : ℕ) → a ≤ b → b ≤ c → c - a ≡ b - a + (c - b)
      differ a b c h k = omega (arith, h, k)

  -- with one sample more, when some are in: none while flags are held back, all when that ends, and else one
  pub due_still : held_back start t ≡ true → held_back start (t + 1) ≡ true → flags_due start t 1 ≡ 0
  unfolding flags_due
  due_still h k = rw (given_none start t h, given_none start (t + 1) k) refl

  pub due_all : held_back start t ≡ true → held_back start (t + 1) ≡ false → flags_due start t 1 ≡ t
  unfolding flags_due
  due_all h k = rw (given_none start t h, given_known start (t + 1) k) (omega arith)

  pub due_one : 1 ≤ t → held_back start t ≡ false → held_back start (t + 1) ≡ false → flags_due start t 1 ≡ 1
  unfolding flags_due
  due_one some h k = rw (given_known start t h, given_known start (t + 1) k) (omega (arith, some))

  -- the very first sample brings none
  pub due_first : t ≡ 0 → flags_due start t 1 ≡ 0
  unfolding flags_due
  due_first h = omega (arith, h, given_within start (t + 1))

-- ---- As many flags as magnitudes, and as are due

pub length_along : (d : Detector) (floor : Float) (ms : List Float) → length (flags_along d floor ms) ≡ length ms
unfolding flags_along
length_along d floor ms =
    picks (λ (l : List Bool). length l ≡ length ms) (ltb d.total least_samples) (replicate (length ms) false) (flags_from d.factor floor ms)
    (length-replicate (length ms) false) (length_flags d.factor floor ms)

pub length_with : (h : Holding) (value : Float) (over : Bool) → length (flags_with h value over) ≡ length (judged_with h value over)
unfolding flags_with
length_with h value over = length_along h.detector _ (judged_with h value over)

-- the room for values is as long as it was
pub length_values : (h : Holding) (value : Float) → length (values_with h value) ≡ length h.values
unfolding values_with
length_values h value =
    picks (λ (l : List ℕ). length l ≡ length h.values) (held_back h.detector.start h.detector.taken)
    (set h.values (known_by h.detector.taken) (to_bits binary32 value)) h.values (length-set h.values _ _) refl

pub length_held : (h : Holding) (value : Float) → h.detector.taken ≤ mean_over → mean_over ≤ length h.values
    → length (held_with h value) ≡ h.detector.taken
unfolding held_with
length_held h value few enough =
    length-map (take h.detector.taken (values_with h value)) _
    ∙ length-take-le h.detector.taken (values_with h value) (omega (arith, few, enough, length_values h value))

-- what is judged, by whether flags are held back
module _ (h : Holding) (value : Float) (over : Bool) where
  pub judged_free : held_back h.detector.start h.detector.taken ≡ false → judged_with h value over ≡ magnitude value ∷ []
  unfolding judged_with
  judged_free e = rw e refl

  pub judged_still : held_back h.detector.start h.detector.taken ≡ true → over ≡ false → judged_with h value over ≡ []
  unfolding judged_with
  judged_still e o = rw (e, o) refl

  pub judged_all : held_back h.detector.start h.detector.taken ≡ true → over ≡ true → judged_with h value over ≡ held_with h value
  unfolding judged_with
  judged_all e o = rw (e, o) refl

pub over_is : (d : Detector) (b : Bool) → held_back d.start (d.taken + 1) ≡ b → over_with d ≡ not b
unfolding over_with
over_is d b h = rw h refl

-- of a sample that is not the very first
pub judged_length : (h : Holding) (value : Float) → 1 ≤ h.detector.taken → mean_over ≤ length h.values
    → length (judged_with h value (over_with h.detector)) ≡ flags_due h.detector.start h.detector.taken 1
judged_length h value some enough =
    elim (held_case start t) [
      | inl (held, m, few) ↦
          elim (truth (held_back start (t + 1))) [
            | inl still ↦ ap length (judged_still h value (over_with d) held (over_is d true still)) ∙ sym (due_still start t held still)
            | inr ends ↦
                ap length (judged_all h value (over_with d) held (over_is d false ends))
                ∙ length_held h value few enough
                ∙ sym (due_all start t held ends)
          ]
      | inr (free, later) ↦ ap length (judged_free h value (over_with d) free) ∙ sym (due_one start t some free (later 1))
    ]
  where
    d : Detector
    d = h.detector

    start : Start
    start = d.start

    t : ℕ
    t = d.taken

-- of any sample
pub by_length : (h : Holding) (x : Float) → mean_over ≤ length h.values
    → length (flags_by h x) ≡ flags_due h.detector.start h.detector.taken 1
unfolding flags_by
by_length h x enough =
    elim (truth (eqb h.detector.taken 0)) [
      | inl e ↦ rw e (sym (due_first h.detector.start h.detector.taken (eqb-true h.detector.taken 0 e)))
      | inr e ↦
          rw e
          (length_with h (value_before h.detector x) (over_with h.detector)
          ∙ judged_length h (value_before h.detector x) (omega (arith, eqb-false h.detector.taken 0 e)) enough)
    ]

-- a sample counts, and leaves start and room
module _ (h : Holding) (x : Float) where
  pub one_more : (with_sample h x).detector.taken ≡ h.detector.taken + 1
  unfolding with_sample
  one_more = refl

  pub same_start : (with_sample h x).detector.start ≡ h.detector.start
  unfolding with_sample
  same_start = refl

  pub same_room : length (with_sample h x).values ≡ length h.values
  unfolding with_sample
  same_room =
      picks (λ (l : List ℕ). length l ≡ length h.values) (eqb h.detector.taken 0) h.values (values_with h (value_before h.detector x)) refl
      (length_values h (value_before h.detector x))

-- of a piece
pub due_length : (h : Holding) (ws : List ℕ) → mean_over ≤ length h.values
    → length (flags_before h ws) ≡ flags_due h.detector.start h.detector.taken (length ws)
unfolding flags_before
due_length h [] enough = sym (due_none h.detector.start h.detector.taken)
due_length h (w ∷ ws) enough =
    let next = with_sample h (float w) in
    let start = h.detector.start in
    let t = h.detector.taken in
    let later : length (flags_before next ws) ≡ flags_due start (t + 1) (length ws) =
    due_length next ws (omega (arith, enough, same_room h (float w)))
    ∙ ap (λ (b : Start). flags_due b next.detector.taken (length ws)) (same_start h (float w))
    ∙ ap (λ (k : ℕ). flags_due start k (length ws)) (one_more h (float w))
    in
    let one : 1 + length ws ≡ suc (length ws) = omega arith in
    length-append (flags_by h (float w)) (flags_before next ws)
    ∙ ap (λ (k : ℕ). k + length (flags_before next ws)) (by_length h (float w) enough)
    ∙ ap (λ (k : ℕ). flags_due start t 1 + k) later
    ∙ sym (due_both start t 1 (length ws))
    ∙ ap (flags_due start t) one

pub piece_room : (h : Holding) (ws : List ℕ) → length (with_piece h ws).values ≡ length h.values
unfolding with_piece
piece_room h [] = refl
piece_room h (w ∷ ws) = piece_room (with_sample h (float w)) ws ∙ same_room h (float w)

-- ---- At the end

pub last_length : (h : Holding) → mean_over ≤ length h.values
    → length (last_flags h) ≡ h.detector.taken - given_by h.detector.start h.detector.taken
unfolding last_flags
last_length h enough =
    elim (truth (eqb t 0)) [
      | inl e ↦ rw e (omega (arith, eqb-true t 0 e))
      | inr e ↦ rw e (length_with h nought true ∙ some (eqb-false t 0 e) (held_case h.detector.start t))
    ]
  where
    t : ℕ
    t = h.detector.taken

    given : ℕ
    given = given_by h.detector.start t

    some : (t ≡ 0 → ⊥)
        → ((held_back h.detector.start t ≡ true) × (h.detector.start ≡ Mean) × (t ≤ mean_over))
        ⊎ ((held_back h.detector.start t ≡ false) × ((n : ℕ) → held_back h.detector.start (t + n) ≡ false))
        → length (judged_with h nought true) ≡ t - given
    some n (inl (held, m, few)) =
        ap length (judged_all h nought true held refl) ∙ length_held h nought few enough ∙ omega (arith, given_none h.detector.start t held)
    some n (inr (free, later)) = ap length (judged_free h nought true free) ∙ omega (arith, n, given_known h.detector.start t free)

pub last_room : (h : Holding) → length (last_values h) ≡ length h.values
unfolding last_values
last_room h =
    picks (λ (l : List ℕ). length l ≡ length h.values) (eqb h.detector.taken 0) h.values (values_with h nought) refl (length_values h nought)
