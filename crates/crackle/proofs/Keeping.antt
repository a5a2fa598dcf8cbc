-- The steps of the code that keeps a detector in words: what each gives is what the rule says. Assumes nothing.
use mathlib.Core.Path.{◌≡◌, refl, sym, ap, ◌∙◌}
use mathlib.Core.Bool.{Bool, true, false}
use mathlib.Core.List.{List, [], ◌++◌, append-nil}
use Prim.Native.Nat.{ℕ, ◌-◌, ◌≤◌, ◌<◌}
use native.Mathlib.Omega.{arith}
use borrow.Rule.Slice.PartMut.{mid_of, put_mid}
use borrow.Author.Tests.{lt-ltb, le-ltb}
use lib.Dec.{eqb}
use lib.ListN.{length, get_or, set, take, drop, length-append, length-drop, take-append-drop, drop_of_length-le}
use lib.Seq.{sets, sets-eq, drop_at, take_all, length-take-le}
use lib.Ieee.{Float, binary32, of_bits, to_bits}
use Rattle.leaves.specs.Arithmetic.{float}
use Rattle.std.specs.Prelude.{if◌then◌else◌}
use Rattle.recording.specs.Answers.{number}
use Rattle.recording.specs.declared.Reason.{Reason}
use Rattle.recording.specs.declared.Reason.TheVariants.{Workspace}
use Rattle.recording.specs.Answer.{Answer}
use Rattle.std.specs.Prelude.{Result, Ok, Err}
use Rattle.crackle.specs.declared.Detector.{Detector}
use Rattle.decrackle.specs.declared.Start.{Start}
use Rattle.crackle.specs.Inner.{head_after}
use Rattle.crackle.specs.Pieces.{announced, Holding, holding, Told, told}
use Rattle.crackle.specs.Kept.{head_words, state_words, running_word, start_word, start_of, head_of, words_of, detector_of, holding_of, kept_told}
use Rattle.crackle.specs.Kept.{begin_kept, kept_by}

-- ---- The words

pub read_so : (words : List ℕ) (start : Start) (factor floor before last : Float) → start ≡ start_of (get_or words 7 0) → factor ≡ of_bits binary32 (get_or words 3 0)
    → floor ≡ of_bits binary32 (get_or words 4 0) → before ≡ of_bits binary32 (get_or words 5 0) → last ≡ of_bits binary32 (get_or words 6 0)
    → record {
      start = start;
      total = get_or words 0 0;
      taken = get_or words 1 0;
      running = eqb (get_or words 2 0) 1;
      factor = factor;
      floor = floor;
      before = before;
      last = last;
    }
    ≡ detector_of words
unfolding detector_of float
read_so words start factor floor before last es ef el eb ez = rw (es, ef, el, eb, ez) refl

pub written_so : (d : Detector) (words : List ℕ) (running factor floor before last start : ℕ) → running ≡ running_word d.running
    → factor ≡ to_bits binary32 d.factor → floor ≡ to_bits binary32 d.floor → before ≡ to_bits binary32 d.before
    → last ≡ to_bits binary32 d.last → start ≡ start_word d.start
    → set (set (set (set (set (set (set (set words 0 d.total) 1 d.taken) 2 running) 3 factor) 4 floor) 5 before) 6 last) 7 start
    ≡ sets words 0 (head_of d)
unfolding head_of
written_so d words running factor floor before last start er ef el eb ez es = rw (er, ef, el, eb, ez, es) refl

-- written before the values that are there, it is the words of both
pub head_written : (d : Detector) (front values : List ℕ) → length front ≡ head_words → sets (front ++ values) 0 (head_of d) ≡ words_of (holding d values)
unfolding words_of head_of
head_written d front values h =
    sets-eq (head_of d) (front ++ values) 0 (omega (arith, h, length-append front values))
    ∙ ap (λ (l : List ℕ). head_of d ++ l) (drop_at front values head_words h)

-- ---- The calls

module _ (start : Start) (total : ℕ) (sensitivity : Float) (words : List ℕ) where
  pub begin_few : length words < state_words → told (Err Workspace) words [] ≡ begin_kept start total sensitivity words
  unfolding begin_kept
  begin_few h = rw (lt-ltb _ _ h) refl

  module _ (enough : state_words ≤ length words) (a : Result Detector Reason) (ea : a ≡ announced start total sensitivity) where
    pub begin_so : (d : Detector) (after : List ℕ) → a ≡ Ok d → after ≡ sets words 0 (head_of d)
        → told (Ok 0) after [] ≡ begin_kept start total sensitivity words
    unfolding begin_kept
    begin_so d after h e =
        let front : length (take head_words words) ≡ head_words = length-take-le head_words words (omega (arith, enough)) in
        let so : after ≡ words_of (holding d (drop head_words words)) =
        e ∙ ap (λ (l : List ℕ). sets l 0 (head_of d)) (sym (take-append-drop head_words words))
        ∙ head_written d (take head_words words) (drop head_words words) front in
        rw (le-ltb _ _ enough, ← ea, h, so) refl

    pub begin_away : (why : Reason) → a ≡ Err why → told (Err why) words [] ≡ begin_kept start total sensitivity words
    unfolding begin_kept
    begin_away why h = rw (le-ltb _ _ enough, ← ea, h) refl

-- what a call left is kept: the detector in front of the values, which the call has written there; after 6 both are as they were
module _ (words : List ℕ) (enough : state_words ≤ length words) where
  abbrev front : List ℕ
  front = take head_words words

  front_count : length front ≡ head_words
  front_count = length-take-le head_words words (omega (arith, enough))

  keeps : (t : Told Holding) (a r : Answer) (e : Detector) (values after room : List ℕ) → told a (holding e values) room ≡ t
      → ((eqb (number t.answer) 6 ≡ true) → t.held.values ≡ drop head_words words)
      → (r ≡ a) × (after ≡ head_after a e (front ++ values)) → told r after room ≡ kept_told t words
  keeps t a r e values after room et six both = rw (both.0, both.1, ← et) (go (eqb (number a) 6) refl)
    where
      go : (b : Bool) → eqb (number a) 6 ≡ b
          → told a (if b then front ++ values else sets (front ++ values) 0 (head_of e)) room
          ≡ told a (if b then words else words_of (holding e values)) room
      go true h = ap (λ (l : List ℕ). told a l room) (ap (λ (l : List ℕ). front ++ l) same ∙ take-append-drop head_words words)
        where
          same : values ≡ drop head_words words
          same = ap (λ (u : Told Holding). u.held.values) et ∙ six (ap (λ (u : Told Holding). eqb (number u.answer) 6) (sym et) ∙ h)
      go false h = ap (λ (l : List ℕ). told a l room) (head_written e front values front_count)

-- the part of the words that is lent for the values, and the words with it back
abbrev pub lent_part : List ℕ → List ℕ
lent_part words = mid_of head_words (length words - head_words) words

abbrev pub part_back : List ℕ → List ℕ → List ℕ
part_back words values = put_mid head_words (length words - head_words) words values

lent_is : (words : List ℕ) → lent_part words ≡ drop head_words words
lent_is words = take_all (length words - head_words) (drop head_words words) (omega (arith, length-drop head_words words))

back_is : (words values : List ℕ) → part_back words values ≡ take head_words words ++ values
back_is words values =
    let none : drop (length words - head_words) (drop head_words words) ≡ [] =
    drop_of_length-le (drop head_words words) {i = length words - head_words} (omega (arith, length-drop head_words words)) in
    ap (λ (l : List ℕ). take head_words words ++ (values ++ l)) none ∙ ap (λ (l : List ℕ). take head_words words ++ l) (append-nil values)

module _ (call : Holding → List ℕ → Told Holding) (words room : List ℕ) where
  pub kept_few : length words < state_words → told (Err Workspace) words room ≡ kept_by call words room
  unfolding kept_by
  kept_few h = rw (lt-ltb _ _ h) refl

  pub kept_so : (d e : Detector) (a r : Answer) (values after left : List ℕ)
      → ((h : Holding) → eqb (number (call h room).answer) 6 ≡ true → (call h room).held ≡ h)
      → state_words ≤ length words → d ≡ detector_of words
      → (r ≡ a) × (after ≡ head_after a e (part_back words values))
      → told a (holding e values) left ≡ call (holding d (lent_part words)) room → told r after left ≡ kept_by call words room
  unfolding kept_by holding_of
  kept_so d e a r values after left six enough ed ending et =
      let so : told a (holding e values) left ≡ call (holding d (drop head_words words)) room =
      et ∙ ap (λ (l : List ℕ). call (holding d l) room) (lent_is words) in
      keeps words enough _ a r e values after left so (λ h. ap (λ (u : Holding). u.values) (six (holding d (drop head_words words)) h))
      (ending.0, ending.1 ∙ ap (head_after a e) (back_is words values))
      ∙ ap (λ (f : Detector). kept_told (call (holding f (drop head_words words)) room) words) ed
      ∙ rw (le-ltb _ _ enough) refl
