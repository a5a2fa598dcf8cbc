-- Undo: the saved samples of an entry, tested and given back one at a time, and one law for each way out of the tests
-- and of the call. Assumes nothing.
use mathlib.Core.Path.{◌≡◌, refl, sym, ap, ◌∙◌, subst}
use mathlib.Core.Bool.{Bool, true, false, not, ◌||◌, or_assoc}
use mathlib.Core.List.{List, [], ◌∷◌}
use Prim.Native.Nat.{ℕ, zero, suc, ◌+◌, ◌-◌, ◌*◌, ◌≤◌, ◌<◌}
use native.Mathlib.Omega.{arith}
use native.Mathlib.Numerals.{add-one}
use native.Mathlib.Nat.{sub-zero}
use lib.ListN.{length, get_or, set, replicate}
use lib.Seq.{sets}
use lib.Dec.{leb, ltb, eqb, leb-suc-zero, leb-suc-suc}
use borrow.Author.Tests.{eq-eqb, ne_eqb, ltb-false, leb-false}
use Rattle.leaves.proofs.Choice.{neither, picks_by}
use Rattle.recording.specs.Answers.{number, value}
use Rattle.std.specs.Prelude.{if◌then◌else◌}
use Rattle.recording.specs.Recording.{State, state, Ended, ended, refused}
use Rattle.recording.specs.Recording.{fitting}
use Rattle.recording.specs.Recording.{Saved, saved_at, place_past, not_rising, mark_past, put, old_words, old_marks}
use Rattle.recording.specs.Recording.{entry_size, last_count, last_mark, last_saved, malformed}
use Rattle.recording.specs.Marks.{made}
use Rattle.recording.specs.Recording.{places, recounted_by, taken_back, undone}
use Rattle.recording.specs.Counts.{recounted}
use Rattle.recording.specs.Inner.{any_wrong, Fits, Restorable, Recountable, last_entry}
use Rattle.recording.specs.declared.Reason.{Reason}
use Rattle.recording.specs.declared.Reason.TheVariants.{Nothing, Malformed}
use Rattle.recording.specs.Answer.{Answer}
use Rattle.std.specs.Prelude.{Ok, Err}

-- ---- the tests of saved samples, in one pass

-- the first place, if there is one, is below `least`
abbrev too_low : ℕ → List Saved → Bool
too_low least [] = false
too_low least (t ∷ ts) = ltb t.place least

-- Nothing is below 0.
low_zero : (ts : List Saved) → too_low 0 ts ≡ false
low_zero [] = refl
low_zero (t ∷ ts) = leb-suc-zero t.place

-- Places rise from t on where the next is not below t's place and one, and those after t rise.
rising_cons : (t : Saved) (ts : List Saved) → not_rising (t ∷ ts) ≡ too_low (t.place + 1) ts || not_rising ts
unfolding not_rising
rising_cons t [] = refl
rising_cons t (u ∷ ts) = rw (add-one t.place, leb-suc-suc u.place t.place) refl

-- the same tests, sorted by sample and by kind
sorted : (a b c d e f g : Bool) → a || b || c || (d || (e || f || g)) ≡ a || (b || e || (d || f) || (c || g))
sorted true b c d e f g = refl
sorted false true c d e f g = refl
sorted false false true d true f g = refl
sorted false false true true false f g = refl
sorted false false true false false true g = refl
sorted false false true false false false g = refl
sorted false false false true true f g = refl
sorted false false false true false f g = refl
sorted false false false false true f g = refl
sorted false false false false false true g = refl
sorted false false false false false false g = refl

-- The one pass finds what the three tests of the rule find, or a first place below `least`.
one_pass : (n least : ℕ) (ts : List Saved)
    → any_wrong n least ts ≡ too_low least ts || (place_past n ts || not_rising ts || mark_past ts)
unfolding any_wrong place_past not_rising mark_past
one_pass n least [] = refl
one_pass n least (t ∷ ts) =
    rw (one_pass n (t.place + 1) ts, rising_cons t ts)
    (sorted (ltb t.place least) (leb n t.place) (ltb 255 t.mark) (too_low (t.place + 1) ts)
    (place_past n ts) (not_rising ts) (mark_past ts))

-- From 0 on, the one pass is the three tests.
three_tests : (n : ℕ) (ts : List Saved) → any_wrong n 0 ts ≡ place_past n ts || not_rising ts || mark_past ts
three_tests n ts = rw (one_pass n 0 ts, low_zero ts) refl

-- ---- one turn over saved samples

-- what is left, after the first i, of the m saved samples from journal word `begin` on
abbrev pub left_at : List ℕ → ℕ → ℕ → ℕ → List Saved
left_at journal begin m i = saved_at journal (begin + 3 * i) (m - i)

-- It is all of them at first.
pub left_all : (journal : List ℕ) (begin m : ℕ) → left_at journal begin m 0 ≡ saved_at journal begin m
left_all journal begin m = let start : begin + 3 * 0 ≡ begin = omega arith in rw (start, sub-zero) refl

-- While there are more, it begins with the next.
pub left_first : (journal : List ℕ) (begin m i : ℕ) → i < m
    → left_at journal begin m i
    ≡ record {
      place = get_or journal (begin + 3 * i) 0;
      word = get_or journal (begin + 3 * i + 1) 0;
      mark = get_or journal (begin + 3 * i + 2) 0;
    } ∷ left_at journal begin m (i + 1)
unfolding saved_at
left_first journal begin m i more =
    let left : m - i ≡ suc (m - (i + 1)) = omega arith in
    let next : begin + 3 * i + 3 ≡ begin + 3 * (i + 1) = omega arith in
    rw (left, next) refl

-- And in the end nothing is left.
pub left_none : (journal : List ℕ) (begin m i : ℕ) → m ≤ i → left_at journal begin m i ≡ []
unfolding saved_at
left_none journal begin m i h = let done : m - i ≡ 0 = omega arith in rw done refl

-- At first, the tests of what is left are those of all; in the end they find nothing.
pub none_tested : (n : ℕ) (journal : List ℕ) (begin m : ℕ)
    → any_wrong n 0 (left_at journal begin m 0) ≡ any_wrong n 0 (saved_at journal begin m)
none_tested n journal begin m = ap (any_wrong n 0) (left_all journal begin m)

pub all_tested : (n least : ℕ) (journal : List ℕ) (begin m i : ℕ) (whole : Bool)
    → any_wrong n least (left_at journal begin m i) ≡ whole → m ≤ i → false ≡ whole
unfolding any_wrong
all_tested n least journal begin m i whole rest h = sym (ap (any_wrong n least) (left_none journal begin m i h)) ∙ rest

-- Between, the tests of the sample that a turn reads, and then of what is left, give the whole.
module _ (journal : List ℕ) (begin m i n least place : ℕ) (whole : Bool) (more : i < m)
    (rest : any_wrong n least (left_at journal begin m i) ≡ whole) (read : place ≡ get_or journal (begin + 3 * i) 0) where
  pub one_tested : ltb place least || leb n place || ltb 255 (get_or journal (begin + 3 * i + 2) 0)
      || any_wrong n (place + 1) (left_at journal begin m (i + 1))
      ≡ whole
  unfolding any_wrong
  one_tested = rw read (sym (ap (any_wrong n least) (left_first journal begin m i more)) ∙ rest)

-- ---- saved samples given back

-- The next sample's place is within the recording, and so are those after it.
pub past_first : (n : ℕ) (journal : List ℕ) (begin m i : ℕ) → i < m → place_past n (left_at journal begin m i) ≡ false
    → (leb n (get_or journal (begin + 3 * i) 0) ≡ false) × (place_past n (left_at journal begin m (i + 1)) ≡ false)
unfolding place_past
past_first n journal begin m i more none =
    neither (leb n (get_or journal (begin + 3 * i) 0)) (place_past n (left_at journal begin m (i + 1)))
    (sym (ap (place_past n) (left_first journal begin m i more)) ∙ none)

-- The next sample's mark is a byte, and so are those after it.
mark_first : (journal : List ℕ) (begin m i : ℕ) → i < m → mark_past (left_at journal begin m i) ≡ false
    → (ltb 255 (get_or journal (begin + 3 * i + 2) 0) ≡ false) × (mark_past (left_at journal begin m (i + 1)) ≡ false)
unfolding mark_past
mark_first journal begin m i more none =
    neither (ltb 255 (get_or journal (begin + 3 * i + 2) 0)) (mark_past (left_at journal begin m (i + 1)))
    (sym (ap mark_past (left_first journal begin m i more)) ∙ none)

-- i of the m saved samples are given back: putting what is left gives the whole, and what is left can be put.
pub record GivenBack (samples₀ marks₀ journal : List ℕ) (begin m : ℕ) (samples marks : List ℕ) (i : ℕ) : Type 0 where
  pub words : put (old_words (left_at journal begin m i)) samples ≡ put (old_words (saved_at journal begin m)) samples₀
  pub bytes : put (old_marks (left_at journal begin m i)) marks ≡ put (old_marks (saved_at journal begin m)) marks₀
  pub places_within : place_past (length samples₀) (left_at journal begin m i) ≡ false
  pub marks_within : mark_past (left_at journal begin m i) ≡ false

module _ (samples₀ marks₀ journal : List ℕ) (begin m : ℕ) where
  -- It holds at first, where all can be given back.
  pub none_back : Restorable samples₀ marks₀ journal begin m
      → GivenBack samples₀ marks₀ journal begin m samples₀ marks₀ 0
  none_back r =
      let all = left_all journal begin m in
      record {
        words = rw all refl;
        bytes = rw all refl;
        places_within = rw all r.places;
        marks_within = rw all r.bytes;
      }

  module _ (samples marks : List ℕ) (i : ℕ) (g : GivenBack samples₀ marks₀ journal begin m samples marks i) where
    -- In the end all are given back.
    pub all_back : m ≤ i
        → (samples ≡ put (old_words (saved_at journal begin m)) samples₀)
        × (marks ≡ put (old_marks (saved_at journal begin m)) marks₀)
    unfolding put
    all_back h =
        let none = left_none journal begin m i h in
        (rw none at g.words, rw none at g.bytes)

    -- Between, the next sample has a place in the recording and a byte for a mark, and the store of both is one turn.
    module _ (more : i < m) where
      pub place_below : get_or journal (begin + 3 * i) 0 < length samples₀
      place_below = leb-false _ _ (past_first (length samples₀) journal begin m i more g.places_within).0

      pub mark_byte : get_or journal (begin + 3 * i + 2) 0 ≤ 255
      mark_byte = ltb-false _ _ (mark_first journal begin m i more g.marks_within).0

      pub one_back : (place : ℕ) → place ≡ get_or journal (begin + 3 * i) 0
          → GivenBack samples₀ marks₀ journal begin m (set samples place (get_or journal (begin + 3 * i + 1) 0))
          (set marks place (get_or journal (begin + 3 * i + 2) 0)) (i + 1)
      unfolding put
      one_back place read =
          let first = left_first journal begin m i more in
          record {
            words = rw read (sym (ap (λ (ts : List Saved). put (old_words ts) samples) first) ∙ g.words);
            bytes = rw read (sym (ap (λ (ts : List Saved). put (old_marks ts) marks) first) ∙ g.bytes);
            places_within = (past_first (length samples₀) journal begin m i more g.places_within).1;
            marks_within = (mark_first journal begin m i more g.marks_within).1;
          }

-- ---- refusal 11, clause by clause

-- the clauses, with the three tests of the saved samples as one pass, where m is the number that the entry gives
clauses : (n : ℕ) (journal : List ℕ) (used m : ℕ) → m ≡ last_count journal used
    → malformed n journal used
    ≡ eqb used 1 || eqb m 0 || ltb n m || ltb used (entry_size m)
    || any_wrong n 0 (saved_at journal (used - entry_size m) m) || not (made (last_mark journal used))
unfolding malformed last_saved
clauses n journal used m read =
    let olds = saved_at journal (used - entry_size m) m in
    rw (← read, three_tests n olds, ← or_assoc _ _ (mark_past olds), ← or_assoc _ (place_past n olds) _) refl

-- The first clause holds, or the others are left.
module _ (n : ℕ) (journal : List ℕ) (used : ℕ) where
  pub malformed_short : used ≡ 1 → true ≡ malformed n journal used
  unfolding malformed
  malformed_short h = rw (eq-eqb used 1 h) refl

  pub malformed_long : (used ≡ 1 → ⊥) → (m : ℕ) → m ≡ last_count journal used
      → eqb m 0 || ltb n m || ltb used (entry_size m) || any_wrong n 0 (saved_at journal (used - entry_size m) m)
      || not (made (last_mark journal used))
      ≡ malformed n journal used
  malformed_long long m read = rw (clauses n journal used m read, ne_eqb used 1 long) refl

-- ---- the clause that follows from the others

-- Saved samples whose places rise and lie below n are so few that the rest of n holds them from the first place on.
rising_fit : (n : ℕ) (t : Saved) (ts : List Saved) → place_past n (t ∷ ts) ≡ false → not_rising (t ∷ ts) ≡ false
    → t.place + length (t ∷ ts) ≤ n
unfolding place_past not_rising
rising_fit n t [] below rises =
    let first : t.place < n = leb-false n t.place (neither (leb n t.place) false below).0 in
    omega arith
rising_fit n t (u ∷ ts) below rises =
    let next : t.place < u.place = leb-false u.place t.place (neither (leb u.place t.place) (not_rising (u ∷ ts)) rises).0 in
    let rest = rising_fit n u ts (neither (leb n t.place) (place_past n (u ∷ ts)) below).1
    (neither (leb u.place t.place) (not_rising (u ∷ ts)) rises).1 in
    omega arith

length-saved_at : (journal : List ℕ) (i m : ℕ) → length (saved_at journal i m) ≡ m
unfolding saved_at
length-saved_at journal i zero = refl
length-saved_at journal i (suc m) = ap suc (length-saved_at journal (i + 3) m)

-- So m is no more than the samples wherever the two clauses on places do not apply: the clause on m beside the samples
-- refuses nothing that they do not.
pub few_if_rising : (n : ℕ) (journal : List ℕ) (used : ℕ) → place_past n (last_saved journal used) ≡ false
    → not_rising (last_saved journal used) ≡ false → last_count journal used ≤ n
unfolding last_saved
few_if_rising n journal used below rises =
    let m = last_count journal used in
    let begin = used - entry_size m in
    subst (λ (k : ℕ). k ≤ n) (length-saved_at journal begin m) (all (saved_at journal begin m) below rises)
  where
    all : (ts : List Saved) → place_past n ts ≡ false → not_rising ts ≡ false → length ts ≤ n
    all [] p r = omega arith
    all (t ∷ ts) p r = let fits = rising_fit n t ts p r in omega arith

-- ---- undo

-- The last entry of a recording, of m samples, is there, and its samples can be given back.
pub record Sound (s : State) (m : ℕ) : Type 0 where
  pub few : m ≤ length s.samples
  pub there : entry_size m ≤ s.used
  pub places : place_past (length s.samples) (saved_at s.journal (s.used - entry_size m) m) ≡ false
  pub bytes : mark_past (saved_at s.journal (s.used - entry_size m) m) ≡ false

-- So it is where it is not malformed.
pub sound : (s : State) (m : ℕ) → m ≡ last_count s.journal s.used
    → malformed (length s.samples) s.journal s.used ≡ false → Sound s m
sound s m read h =
    let n = length s.samples in
    let olds = saved_at s.journal (s.used - entry_size m) m in
    let few = eqb s.used 1 || eqb m 0 || ltb n m in
    let past = ltb s.used (entry_size m) in
    let all = neither (few || past || any_wrong n 0 olds) (not (made (last_mark s.journal s.used)))
    (sym (clauses n s.journal s.used m read) ∙ h) in
    let parts = neither (few || past) (any_wrong n 0 olds) all.0 in
    let tests = neither (place_past n olds || not_rising olds) (mark_past olds) (sym (three_tests n olds) ∙ parts.1) in
    let sizes = neither few past parts.0 in
    record {
      few = ltb-false _ _ (neither (eqb s.used 1 || eqb m 0) (ltb n m) sizes.0).1;
      there = ltb-false _ _ sizes.1;
      places = (neither (place_past n olds) (not_rising olds) tests.0).0;
      bytes = tests.1;
    }

-- A sound entry can be given back to a recording whose sizes fit,
pub restorable : (s : State) (m : ℕ) → Fits s → Sound s m
    → Restorable s.samples s.marks s.journal (s.used - entry_size m) m
restorable s m fits entry =
    record { counts = fits.marked; there = omega arith; places = entry.places; bytes = entry.bytes }

-- and its samples' blocks recounted, under any marks of that number.
pub recountable : (s : State) (m : ℕ) → Fits s → Sound s m → (marks : List ℕ) → length marks ≡ length s.marks
    → Recountable marks s.counts s.journal (s.used - entry_size m) m
recountable s m fits entry marks long =
    let same : length marks ≡ length s.samples = long ∙ fits.marked in
    record { counted = rw same fits.counted; there = omega (arith, entry.there, fits.within); places = rw same entry.places }

-- ---- the last entry: what it is refused for, and what is known where it is not

pub entry_none : (s : State) → s.used ≡ 0 → Err Nothing ≡ last_entry s
unfolding last_entry
entry_none s h = rw (eq-eqb s.used 0 h) refl

module _ (s : State) (some : s.used ≡ 0 → ⊥) (bad : Bool) (found : bad ≡ malformed (length s.samples) s.journal s.used) where
  pub entry_bad : bad ≡ true → Err Malformed ≡ last_entry s
  unfolding last_entry
  entry_bad h = rw (ne_eqb s.used 0 some, ← found, h) refl

  pub entry_good : bad ≡ false → (m : ℕ) → m ≡ last_count s.journal s.used → Ok m ≡ last_entry s
  unfolding last_entry
  entry_good h m read = rw (ne_eqb s.used 0 some, ← found, h, ← read) refl

-- one that is not refused: there is one, it is not malformed, and it saved so many
pub record Taken (s : State) (m : ℕ) : Type 0 where
  pub some : eqb s.used 0 ≡ false
  pub good : malformed (length s.samples) s.journal s.used ≡ false
  pub read : m ≡ last_count s.journal s.used

abbrev TakenWith : State → Answer → Type 0
TakenWith s a = (m : ℕ) → a ≡ Ok m → Taken s m

pub entry_taken : (s : State) (a : Answer) → a ≡ last_entry s → (m : ℕ) → a ≡ Ok m → Taken s m
unfolding last_entry
entry_taken s a e m h =
    picks_by (TakenWith s) (eqb s.used 0) _ _
    (λ none k f. absurd (omega (arith, ap number f)))
    (λ some. picks_by (TakenWith s) (malformed (length s.samples) s.journal s.used) _ _
    (λ bad k f. absurd (omega (arith, ap number f)))
    (λ good k f. record { some = some; good = good; read = sym (ap value f) })) m (sym e ∙ h)

-- what it saved can be read
pub entry_sound : (s : State) (a : Answer) → a ≡ last_entry s → (m : ℕ) → a ≡ Ok m → Sound s m
entry_sound s a e m h = let taken = entry_taken s a e m h in sound s m taken.read taken.good

-- ---- the call ends

-- how it ends once the last entry was looked at
abbrev concluded : State → Answer → Ended
concluded s (Ok m) = ended (Ok m) (taken_back s)
concluded s (Err why) = refused s why

either_way : (s : State) (a b : Bool) (m : ℕ)
    → (if a then refused s Nothing else if b then refused s Malformed else ended (Ok m) (taken_back s))
    ≡ concluded s (if a then Err Nothing else if b then Err Malformed else Ok m)
either_way s true b m = refl
either_way s false true m = refl
either_way s false false m = refl

module _ (s : State) (sized : Answer) (answered : sized ≡ fitting s) where
  pub undone_unfit : (why : Reason) → sized ≡ Err why → ended sized s ≡ undone s
  unfolding undone
  undone_unfit why h = rw (← answered, h) refl

  module _ (none : ℕ) (accepted : sized ≡ Ok none) (last : Answer) (asked : last ≡ last_entry s) where
    concluding : undone s ≡ concluded s last
    unfolding undone last_entry
    concluding = rw (← answered, accepted, asked) (either_way s (eqb s.used 0) (malformed (length s.samples) s.journal s.used) _)

    pub undone_refused : (why : Reason) → last ≡ Err why → ended last s ≡ undone s
    undone_refused why h = rw h (sym (concluding ∙ ap (concluded s) h))

    pub undone_done : (m : ℕ) → last ≡ Ok m
        → (samples marks counts journal : List ℕ)
        → samples ≡ put (old_words (saved_at s.journal (s.used - entry_size m) m)) s.samples
        → marks ≡ put (old_marks (saved_at s.journal (s.used - entry_size m) m)) s.marks
        → counts ≡ recounted marks (places (old_marks (saved_at s.journal (s.used - entry_size m) m))) s.counts
        → journal ≡ sets s.journal (s.used - entry_size m) (replicate (entry_size m) 0)
        → ended (Ok m) (state samples marks counts journal (s.used - entry_size m)) ≡ undone s
    unfolding taken_back last_saved recounted_by
    undone_done m h samples marks counts journal words bytes blocks zeros =
        let read = (entry_taken s last asked m h).read in
        rw (blocks, words, bytes, zeros) (sym (concluding ∙ ap (concluded s) h ∙ rw (← read) refl))
