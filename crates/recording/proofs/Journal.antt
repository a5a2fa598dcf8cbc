-- Laws of the journal: an entry that was appended is read back, what it saved passes every test of undo, and clearing
-- it leaves the journal as it was. Assumes nothing.
use mathlib.Core.Path.{◌≡◌, refl, ap, ◌∙◌}
use mathlib.Core.Bool.{false}
use mathlib.Core.List.{List, [], ◌∷◌}
use mathlib.Core.Logic.{◌⊎◌, inl, inr}
use Prim.Native.Nat.{ℕ, zero, suc, ◌+◌, ◌-◌, ◌*◌, ◌≤◌, ◌<◌}
use native.Mathlib.Omega.{arith}
use lib.ListN.{length, get_or, replicate, length-append, get_or-append}
use lib.Seq.{sets, length-sets, get_or-append-add, get_or_at, ext_get_or}
use borrow.Author.Tests.{lt-leb, le-ltb}
use Rattle.leaves.proofs.Numbers.{lt_or_ge}
use Rattle.leaves.proofs.Lists.{read_before, read_within, read_after}
use Rattle.recording.specs.Recording.{State, Placed, Saved, places, saved, three_words, entry_size, entry, saved_at}
use Rattle.recording.specs.Recording.{place_past, not_rising, mark_past}
use Rattle.recording.specs.History.{Ascending, Bytes}

-- ---- Sizes

pub length_saved : (words marks is : List ℕ) → length (saved words marks is) ≡ length is
unfolding saved
length_saved words marks [] = refl
length_saved words marks (i ∷ is) = ap suc (length_saved words marks is)

pub length-three_words : (ts : List Saved) → length (three_words ts) ≡ 3 * length ts
length-three_words [] = refl
length-three_words (t ∷ ts) = let rest = length-three_words ts in omega arith

pub length_entry : (s : State) (mark : ℕ) (is : List ℕ) → length (entry s mark is) ≡ entry_size (length is)
unfolding entry
length_entry s mark is = simp (length-append, length-three_words, length_saved)

-- ---- Reading back

-- saved samples whose words stand in the journal from u on are read there
pub read_saved : (journal : List ℕ) (u : ℕ) (ts : List Saved)
    → ((i : ℕ) → i < length (three_words ts) → get_or journal (u + i) 0 ≡ get_or (three_words ts) i 0)
    → saved_at journal u (length ts) ≡ ts
unfolding saved_at
read_saved journal u [] h = refl
read_saved journal u (t ∷ ts) h =
    let first : u + 0 ≡ u = omega arith in
    let place : get_or journal u 0 ≡ t.place = rw first at (h 0 (omega arith)) in
    let word : get_or journal (u + 1) 0 ≡ t.word = h 1 (omega arith) in
    let mark : get_or journal (u + 2) 0 ≡ t.mark = h 2 (omega arith) in
    rw (place, word, mark) (ap (λ (r : List Saved). t ∷ r) (read_saved journal (u + 3) ts later))
  where
    later : (i : ℕ) → i < length (three_words ts) → get_or journal (u + 3 + i) 0 ≡ get_or (three_words ts) i 0
    later i k =
        let same : u + 3 + i ≡ u + suc (suc (suc i)) = omega arith in
        rw same (h (suc (suc (suc i))) (omega arith))

-- an entry of the samples at the places `is`, and the mark that was set, appended to a journal with room for it
module _ (s : State) (mark : ℕ) (is j : List ℕ) (u : ℕ) (room : u + entry_size (length is) ≤ length j) where
  -- the entry's word i stands i words after its begin
  entry_word : (i : ℕ) → i < entry_size (length is)
      → get_or (sets j u (entry s mark is)) (u + i) 0 ≡ get_or (entry s mark is) i 0
  entry_word i h = read_within j (entry s mark is) u i 0 (simp length_entry room) (simp length_entry h)

  -- three words for each saved sample
  saved_size : length (three_words (saved s.samples s.marks is)) ≡ 3 * length is
  saved_size = simp (length-three_words, length_saved)

  -- it ends in the count and the mark, and begins with what was saved
  pub entry_count : get_or (sets j u (entry s mark is)) (u + 3 * length is) 0 ≡ length is
  unfolding entry
  entry_count =
      entry_word (3 * length is) (omega arith)
      ∙ get_or_at (three_words (saved s.samples s.marks is)) _ _ 0 _ saved_size

  pub entry_mark : get_or (sets j u (entry s mark is)) (u + (3 * length is + 1)) 0 ≡ mark
  unfolding entry
  entry_mark =
      entry_word (3 * length is + 1) (omega arith)
      ∙ (rw saved_size at (get_or-append-add (three_words (saved s.samples s.marks is)) (length is ∷ mark ∷ []) 1 0))

  pub entry_saved : saved_at (sets j u (entry s mark is)) u (length is) ≡ saved s.samples s.marks is
  entry_saved = rw length_saved at (read_saved (sets j u (entry s mark is)) u (saved s.samples s.marks is) word)
    where
      front : (i : ℕ) → i < length (three_words (saved s.samples s.marks is))
          → get_or (entry s mark is) i 0 ≡ get_or (three_words (saved s.samples s.marks is)) i 0
      front i h = unfold entry in get_or-append (three_words (saved s.samples s.marks is)) _ 0 i h

      word : (i : ℕ) → i < length (three_words (saved s.samples s.marks is))
          → get_or (sets j u (entry s mark is)) (u + i) 0 ≡ get_or (three_words (saved s.samples s.marks is)) i 0
      word i h = entry_word i (omega (arith, saved_size)) ∙ front i h

-- ---- Clearing

-- words that stood in a list, stored over those that were stored over them, give it back
pub stored_back : (j e olds : List ℕ) (u : ℕ) → length olds ≡ length e → u + length e ≤ length j
    → ((i : ℕ) → i < length olds → get_or olds i 0 ≡ get_or j (u + i) 0) → sets (sets j u e) u olds ≡ j
stored_back j e olds u count room there =
    ext_get_or 0 _ _ (simp length-sets) (λ i h. at_each i (lt_or_ge i u) (lt_or_ge i (u + length e)))
  where
    at_each : (i : ℕ) → (i < u) ⊎ (u ≤ i) → (i < u + length e) ⊎ (u + length e ≤ i)
        → get_or (sets (sets j u e) u olds) i 0 ≡ get_or j i 0
    at_each i (inl k) l = read_before (sets j u e) olds u i 0 k ∙ read_before j e u i 0 k
    at_each i (inr k) (inl l) =
        let here : u + (i - u) ≡ i = omega arith in
        let fits : u + length olds ≤ length (sets j u e) = simp length-sets (omega arith) in
        rw here at (read_within (sets j u e) olds u (i - u) 0 fits (omega arith) ∙ there (i - u) (omega arith))
    at_each i (inr k) (inr l) = read_after (sets j u e) olds u i 0 (omega arith) ∙ read_after j e u i 0 l

-- words that are all 0, also past their end
pub all_zero : (n i : ℕ) → get_or {A = ℕ} (replicate n 0) i 0 ≡ 0
all_zero zero i = refl
all_zero (suc n) zero = refl
all_zero (suc n) (suc i) = all_zero n i

-- ---- The tests of undo

-- what was saved at ascending places below n passes the tests of places
pub none_past : (n least : ℕ) (words marks : List ℕ) (cs : List Placed) → Ascending n least cs
    → place_past n (saved words marks (places cs)) ≡ false
unfolding saved place_past
none_past n least words marks [] h = refl
none_past n least words marks (c ∷ cs) h =
    rw (lt-leb n c.place h.1) (none_past n (c.place + 1) words marks cs h.2)

pub rising : (n least : ℕ) (words marks : List ℕ) (cs : List Placed) → Ascending n least cs
    → not_rising (saved words marks (places cs)) ≡ false
unfolding saved not_rising
rising n least words marks [] h = refl
rising n least words marks (c ∷ []) h = refl
rising n least words marks (c ∷ d ∷ cs) h =
    rw (lt-leb d.place c.place (omega (arith, h.2.0))) (rising n (c.place + 1) words marks (d ∷ cs) h.2)

-- and bytes pass the test of marks
pub all_bytes : (words marks is : List ℕ) → Bytes marks → mark_past (saved words marks is) ≡ false
unfolding saved mark_past
all_bytes words marks [] h = refl
all_bytes words marks (i ∷ is) h = rw (le-ltb 255 (get_or marks i 0) (omega (arith, h i))) (all_bytes words marks is h)
