-- The commit: the words of an entry, the named samples of a span and of a workspace place by place, and how a commit ends.
-- Assumes nothing.
use mathlib.Core.Path.{◌≡◌, refl, sym, ap, ◌∙◌}
use mathlib.Core.Bool.{Bool, true, false, not, cond}
use mathlib.Core.List.{List, [], ◌∷◌, ◌++◌}
use Prim.Native.Nat.{ℕ, zero, suc, ◌+◌, ◌-◌, ◌*◌, ◌≤◌, ◌<◌}
use native.Mathlib.Omega.{arith}
use native.Mathlib.Nat.{add-zero, sub-zero}
use native.Mathlib.Numerals.{add-one}
use borrow.Author.Tests.{lt-ltb, le-ltb, eq-eqb, ne_eqb}
use lib.Dec.{eqb}
use lib.ListN.{length, set, get_or, take, drop, replicate, length-take, length-replicate}
use lib.Seq.{sets, length-sets, drop-cons}
use Rattle.leaves.specs.Floats.{in_range}
use Rattle.recording.specs.Recording.{State, state, ended, refused, Placed, places, put, each, saved, three_words}
use Rattle.recording.specs.Recording.{entry_size, entry, recounted_by, committed, entered, ranged, change, span, picked, carried, saved_at, old_marks}
use Rattle.recording.specs.Counts.{recounted}
use Rattle.recording.specs.Inner.{consecutive, flags, picked_by, picked_from, filled, Fits, Recountable}
use Rattle.recording.specs.History.{Ascending}
use Rattle.recording.proofs.Put.{length_places, places_each, places_valued, marks_kept}
use Rattle.recording.proofs.Journal.{length_saved, length-three_words, read_saved, none_past}
use Rattle.recording.proofs.Performing.{span_ascends, picked_ascends}
use Rattle.leaves.proofs.Lists.{read_within}
use Rattle.leaves.proofs.Stores.{stored_behind}
use Rattle.recording.specs.declared.Reason.{Reason}
use Rattle.recording.specs.declared.Reason.TheVariants.{Result, Room}
use Rattle.recording.specs.Answer.{Answer}
use Rattle.std.specs.Prelude.{Ok, Err}

-- ---- The words of an entry

-- two words, one after the other
pub two_words : (j : List ℕ) (at a b : ℕ) → set (set j at a) (at + 1) b ≡ sets j at (a ∷ b ∷ [])
two_words j at a b = rw add-one refl

-- the three words of a saved sample
pub one_saved : (j samples marks : List ℕ) (at place : ℕ)
    → set (set (set j at place) (at + 1) (get_or samples place 0)) (at + 2) (get_or marks place 0)
    ≡ sets j at (three_words (saved samples marks (place ∷ [])))
unfolding saved
one_saved j samples marks at place =
    let one : at + 1 ≡ suc at = omega arith in
    let two : at + 2 ≡ suc (suc at) = omega arith in
    rw (one, two) refl

-- one turn of a loop that saves the samples of a list of places
pub save_more : (j next-j whole samples marks : List ℕ) (at next i : ℕ) (is : List ℕ) → next ≡ at + 3
    → next-j ≡ sets j at (three_words (saved samples marks (i ∷ [])))
    → sets j at (three_words (saved samples marks (i ∷ is))) ≡ whole
    → sets next-j next (three_words (saved samples marks is)) ≡ whole
unfolding saved
save_more j next-j whole samples marks at next i is e ej rest =
    let there : next ≡ suc (suc (suc at)) = omega arith in
    rw (there, ej) rest

-- one of what is left is counted, or saved: the others give the whole number, and fit behind it
pub count_more : {A : Type 0} (x : A) (left later : List A) (m whole : ℕ) → left ≡ x ∷ later → m + length left ≡ whole → m + 1 + length later ≡ whole
count_more x left later m whole e rest = let more : length left ≡ suc (length later) = ap length e in omega arith

pub room_more : {A : Type 0} (x : A) (left later : List A) (at room : ℕ) → left ≡ x ∷ later → at + 3 * length left ≤ room
    → at + 3 + 3 * length later ≤ room
room_more x left later at room e h = let more : length left ≡ suc (length later) = ap length e in omega arith

-- ---- A span

pub consecutive_more : (start len i : ℕ) → i < len → consecutive (start + i) (len - i) ≡ (start + i) ∷ consecutive (start + (i + 1)) (len - (i + 1))
unfolding consecutive
consecutive_more start len i h =
    let left : len - i ≡ suc (len - (i + 1)) = omega arith in
    let next : start + i + 1 ≡ start + (i + 1) = omega arith in
    ap (consecutive (start + i)) left ∙ ap (λ (k : ℕ). (start + i) ∷ consecutive k (len - (i + 1))) next

pub length_span : (i : ℕ) (ws : List ℕ) → length (span i ws) ≡ length ws
unfolding span
length_span i [] = refl
length_span i (w ∷ ws) = ap suc (length_span (i + 1) ws)

pub places_span : (i : ℕ) (ws : List ℕ) → places (span i ws) ≡ consecutive i (length ws)
unfolding span consecutive
places_span i [] = refl
places_span i (w ∷ ws) = ap (λ (is : List ℕ). i ∷ is) (places_span (i + 1) ws)

pub put_span : (i : ℕ) (ws l : List ℕ) → put (span i ws) l ≡ sets l i ws
unfolding span put
put_span i [] l = refl
put_span i (w ∷ ws) l = put_span (i + 1) ws (set l i w) ∙ rw add-one refl

pub put_each : (v i n : ℕ) (l : List ℕ) → put (each v (consecutive i n)) l ≡ sets l i (replicate n v)
unfolding consecutive put
put_each v i zero l = refl
put_each v i (suc n) l = put_each v (i + 1) n (set l i v) ∙ rw add-one refl

-- one turn of the loop that saves a span
pub span_save : (j next-j whole samples marks : List ℕ) (at start len i : ℕ) → i < len
    → next-j ≡ sets j (at + 3 * i) (three_words (saved samples marks ((start + i) ∷ [])))
    → sets j (at + 3 * i) (three_words (saved samples marks (consecutive (start + i) (len - i)))) ≡ whole
    → sets next-j (at + 3 * (i + 1)) (three_words (saved samples marks (consecutive (start + (i + 1)) (len - (i + 1))))) ≡ whole
span_save j next-j whole samples marks at start len i h ej rest =
    save_more j next-j whole samples marks (at + 3 * i) (at + 3 * (i + 1)) (start + i) (consecutive (start + (i + 1)) (len - (i + 1))) (omega arith) ej
    (sym (ap (λ (is : List ℕ). sets j (at + 3 * i) (three_words (saved samples marks is))) (consecutive_more start len i h)) ∙ rest)

-- where no place is left, nothing is left to save
pub span_saved : (j samples marks : List ℕ) (at start len i : ℕ) → len ≤ i
    → sets j at (three_words (saved samples marks (consecutive start (len - i)))) ≡ j
unfolding saved consecutive
span_saved j samples marks at start len i h = let none : len - i ≡ 0 = omega arith in rw none refl

-- ---- A workspace, place by place

-- what is picked from place i on
abbrev pub rest_picked : List ℕ → ℕ → ℕ → List Placed
rest_picked work n i = picked_from work n i (n - i)

-- behind the last place there is nothing
pub pick_end : (work : List ℕ) (n i : ℕ) → n ≤ i → rest_picked work n i ≡ []
unfolding picked_from
pick_end work n i h = let none : n - i ≡ 0 = omega arith in ap (picked_from work n i) none

module _ (work : List ℕ) (n i : ℕ) (h : i < n) where
  -- a place whose flag is 0 is not picked
  pub pick_none : get_or work (n + i) 0 ≡ 0 → rest_picked work n i ≡ rest_picked work n (i + 1)
  unfolding picked_from
  pick_none e =
      let left : n - i ≡ suc (n - (i + 1)) = omega arith in
      ap (picked_from work n i) left ∙ rw (eq-eqb _ _ e) refl

  -- any other is, with its new word
  pub pick_one : (get_or work (n + i) 0 ≡ 0 → ⊥)
      → rest_picked work n i ≡ record { place = i; value = get_or work i 0 } ∷ rest_picked work n (i + 1)
  unfolding picked_from
  pick_one e =
      let left : n - i ≡ suc (n - (i + 1)) = omega arith in
      ap (picked_from work n i) left ∙ rw (ne_eqb _ _ e) refl

  -- its word is in range, or is the first that is not
  pub pick_in : (get_or work (n + i) 0 ≡ 0 → ⊥) → in_range (get_or work i 0) ≡ true
      → ranged (rest_picked work n i) ≡ ranged (rest_picked work n (i + 1))
  unfolding ranged
  pick_in e r = ap ranged (pick_one e) ∙ rw r refl

  pub pick_out : (get_or work (n + i) 0 ≡ 0 → ⊥) → in_range (get_or work i 0) ≡ false → ranged (rest_picked work n i) ≡ Err (Result i)
  unfolding ranged
  pick_out e r = ap ranged (pick_one e) ∙ rw r refl

  -- it is counted, saved, written and marked, and what is left gives the whole
  pub pick_count : (m whole : ℕ) → (get_or work (n + i) 0 ≡ 0 → ⊥) → m + length (rest_picked work n i) ≡ whole
      → m + 1 + length (rest_picked work n (i + 1)) ≡ whole
  pick_count m whole e rest = count_more _ _ _ m whole (pick_one e) rest

  pub pick_room : (at room : ℕ) → (get_or work (n + i) 0 ≡ 0 → ⊥) → at + 3 * length (rest_picked work n i) ≤ room
      → at + 3 + 3 * length (rest_picked work n (i + 1)) ≤ room
  pick_room at room e h = room_more _ _ _ at room (pick_one e) h

  pub pick_save : (j next-j whole samples marks : List ℕ) (at : ℕ) → (get_or work (n + i) 0 ≡ 0 → ⊥)
      → next-j ≡ sets j at (three_words (saved samples marks (i ∷ [])))
      → sets j at (three_words (saved samples marks (places (rest_picked work n i)))) ≡ whole
      → sets next-j (at + 3) (three_words (saved samples marks (places (rest_picked work n (i + 1))))) ≡ whole
  pick_save j next-j whole samples marks at e ej rest =
      save_more j next-j whole samples marks at (at + 3) i (places (rest_picked work n (i + 1))) refl ej
      (sym (ap (λ (cs : List Placed). sets j at (three_words (saved samples marks (places cs)))) (pick_one e)) ∙ rest)

  pub pick_write : (samples whole : List ℕ) → (get_or work (n + i) 0 ≡ 0 → ⊥) → put (rest_picked work n i) samples ≡ whole
      → put (rest_picked work n (i + 1)) (set samples i (get_or work i 0)) ≡ whole
  unfolding put
  pick_write samples whole e rest = sym (ap (λ (cs : List Placed). put cs samples) (pick_one e)) ∙ rest

  pub pick_mark : (marks whole : List ℕ) (mark : ℕ) → (get_or work (n + i) 0 ≡ 0 → ⊥)
      → put (each mark (places (rest_picked work n i))) marks ≡ whole
      → put (each mark (places (rest_picked work n (i + 1)))) (set marks i mark) ≡ whole
  unfolding put
  pick_mark marks whole mark e rest = sym (ap (λ (cs : List Placed). put (each mark (places cs)) marks) (pick_one e)) ∙ rest

-- one more in front, where the test fails
either : (b : Bool) (c : Placed) (xs ys : List Placed) → xs ≡ ys → cond (not b) (c ∷ xs) xs ≡ cond b ys (c ∷ ys)
either true c xs ys e = e
either false c xs ys e = ap (λ (l : List Placed). c ∷ l) e

-- the workspace's lists and its places say the same
picked-from : (work : List ℕ) (n i left : ℕ) → n + i + left ≤ length work → i + left ≤ length work
    → picked i (flags (take left (drop (n + i) work))) (take left (drop i work)) ≡ picked_from work n i left
unfolding picked picked_from
picked-from work n i zero h k = refl
picked-from work n i (suc left) h k =
    let flag : n + i < length work = omega arith in
    let word : i < length work = omega arith in
    let next : suc (n + i) ≡ n + (i + 1) = omega arith in
    rw (drop-cons work (n + i) 0, drop-cons work i 0, next, ← add-one i)
    (either (eqb (get_or work (n + i) 0) 0) _ _ _ (picked-from work n (i + 1) left (omega arith) (omega arith)))

pub picked_all : (work : List ℕ) (n : ℕ) → n + n ≤ length work → rest_picked work n 0 ≡ picked_by work n
unfolding picked_by
picked_all work n h = rw sub-zero (sym (picked-from work n 0 n (omega arith) (omega arith)) ∙ rw add-zero refl)

-- no more are picked than there are places
at_most : (b : Bool) (c : Placed) (cs : List Placed) (left : ℕ) → length cs ≤ left → length (cond b cs (c ∷ cs)) ≤ suc left
at_most true c cs left k = omega arith
at_most false c cs left k = omega arith

few_from : (work : List ℕ) (n i left : ℕ) → length (picked_from work n i left) ≤ left
unfolding picked_from
few_from work n i zero = omega arith
few_from work n i (suc left) = at_most (eqb (get_or work (n + i) 0) 0) _ _ left (few_from work n (i + 1) left)

pub picked_few : (m : ℕ) (work : List ℕ) (n : ℕ) → m ≡ length (picked_by work n) → n + n ≤ length work → m ≤ n
picked_few m work n e h = rw (e, ← picked_all work n h, sub-zero) (few_from work n 0 n)

-- ---- The blocks of the named samples

-- samples that were saved are read where they were saved
saved_there : (j words marks is : List ℕ) (u : ℕ) → u + 3 * length is ≤ length j
    → saved_at (sets j u (three_words (saved words marks is))) u (length is) ≡ saved words marks is
saved_there j words marks is u room =
    let ts = saved words marks is in
    let size : length (three_words ts) ≡ 3 * length is = simp (length-three_words, length_saved) in
    rw length_saved at
    (read_saved (sets j u (three_words ts)) u ts (λ i h. read_within j (three_words ts) u i 0 (omega arith) h))

-- so recounting their blocks is recounting those of their places
places_there : (j words marks is : List ℕ) (u : ℕ) → u + 3 * length is ≤ length j
    → places (old_marks (saved_at (sets j u (three_words (saved words marks is))) u (length is))) ≡ is
places_there j words marks is u room = rw (saved_there j words marks is u room, marks_kept, places_valued) refl

-- and it can be done, where they ascend: under marks of the same number
pub named_recountable : (s : State) (cs : List Placed) (m : ℕ) (marks middle : List ℕ) → Fits s → Ascending (length s.samples) 0 cs
    → m ≡ length cs
    → entry_size m ≤ length s.journal - s.used
    → length marks ≡ length s.marks
    → middle ≡ sets s.journal s.used (three_words (saved s.samples s.marks (places cs)))
    → Recountable marks s.counts middle s.used m
named_recountable s cs m marks middle fits ascend count h long em =
    let same : length marks ≡ length s.samples = long ∙ fits.marked in
    let named : m ≡ length (places cs) = count ∙ sym (length_places cs) in
    let room : s.used + 3 * length (places cs) ≤ length s.journal = omega arith in
    let read = saved_there s.journal s.samples s.marks (places cs) s.used room in
    record {
      counted = rw same fits.counted;
      there = rw (em, length-sets) (omega arith);
      places = rw (same, named, em, read) (none_past (length s.samples) 0 s.samples s.marks cs ascend);
    }

-- of a span
pub span_recountable : (s : State) (mark start len : ℕ) (marks middle : List ℕ) → Fits s → start + len ≤ length s.samples
    → entry_size len ≤ length s.journal - s.used
    → marks ≡ sets s.marks start (replicate len mark)
    → middle ≡ sets s.journal s.used (three_words (saved s.samples s.marks (consecutive start len)))
    → Recountable marks s.counts middle s.used len
span_recountable s mark start len marks middle fits within h set em =
    let long : length marks ≡ length s.marks = ap length set ∙ length-sets s.marks start (replicate len mark) in
    let words : List ℕ = replicate len 0 in
    let size : length words ≡ len = length-replicate len 0 in
    let named : consecutive start len ≡ places (span start words) = sym (places_span start words ∙ ap (consecutive start) size) in
    named_recountable s (span start words) len marks middle fits (span_ascends (length s.samples) 0 start words (omega arith) (omega arith))
    (sym (length_span start words ∙ size)) h long (rw named at em)

-- of a workspace
picked_by_ascends : (work : List ℕ) (n : ℕ) → Ascending n 0 (picked_by work n)
unfolding picked_by
picked_by_ascends work n =
    picked_ascends n 0 0 (flags (take n (drop n work))) (take n work) (omega arith) (omega (arith, length-take n work))

pub picked_recountable : (s : State) (work : List ℕ) (m : ℕ) (marks middle : List ℕ) → Fits s
    → m ≡ length (picked_by work (length s.samples))
    → entry_size m ≤ length s.journal - s.used
    → length marks ≡ length s.marks
    → middle ≡ sets s.journal s.used (three_words (saved s.samples s.marks (places (picked_by work (length s.samples)))))
    → Recountable marks s.counts middle s.used m
picked_recountable s work m marks middle fits count h long em =
    named_recountable s (picked_by work (length s.samples)) m marks middle fits (picked_by_ascends work (length s.samples)) count h long em

-- ---- How a commit ends

-- the saved samples, with m and the mark behind them, are the entry
entry_words : (s : State) (mark : ℕ) (cs : List Placed)
    → sets (sets s.journal s.used (three_words (saved s.samples s.marks (places cs)))) (s.used + 3 * length cs) (length cs ∷ mark ∷ [])
    ≡ sets s.journal s.used (entry s mark (places cs))
unfolding entry
entry_words s mark cs =
    let three = three_words (saved s.samples s.marks (places cs)) in
    let count : 3 * length cs ≡ length three =
    sym (simp (length-three_words, length_saved, length_places)) in
    ap (λ (k : ℕ). sets (sets s.journal s.used three) (s.used + k) (length cs ∷ mark ∷ [])) count
    ∙ stored_behind s.journal three (length cs ∷ mark ∷ []) s.used
    ∙ ap (λ (k : ℕ). sets s.journal s.used (three ++ (k ∷ mark ∷ []))) (sym (length_places cs))

module _ (s : State) (mark : ℕ) (cs : List Placed) where
  pub entered_none : length cs ≡ 0 → ended (Ok 0) s ≡ entered s mark cs
  unfolding entered
  entered_none h = rw (eq-eqb _ _ h) refl

  -- with the answer of the range test: a refusal ends the call, and else the rest decides
  pub carried_out : (a : Answer) (why : Reason) → a ≡ ranged cs → a ≡ Err why → ended a s ≡ carried s (change mark cs)
  unfolding carried
  carried_out a why e h = rw (← e, h) refl

  pub carried_on : (a : Answer) (m : ℕ) → a ≡ ranged cs → a ≡ Ok m → entered s mark cs ≡ carried s (change mark cs)
  unfolding carried
  carried_on a m e h = rw (← e, h) refl

  module _ (some : length cs ≡ 0 → ⊥) where
    pub entered_room : length s.journal - s.used < entry_size (length cs) → refused s Room ≡ entered s mark cs
    unfolding entered
    entered_room h = rw (ne_eqb _ _ some, lt-ltb _ _ h) refl

    -- words, marks, entry and used, with m under another name
    pub entered_done : (m : ℕ) (samples marks counts middle journal : List ℕ) (used : ℕ)
        → m ≡ length cs
        → entry_size m ≤ length s.journal - s.used
        → samples ≡ put cs s.samples
        → marks ≡ put (each mark (places cs)) s.marks
        → middle ≡ sets s.journal s.used (three_words (saved s.samples s.marks (places cs)))
        → counts ≡ recounted marks (places (old_marks (saved_at middle s.used m))) s.counts
        → journal ≡ sets middle (s.used + 3 * m) (m ∷ mark ∷ [])
        → used ≡ s.used + entry_size m
        → ended (Ok m) (state samples marks counts journal used) ≡ entered s mark cs
    unfolding entered committed recounted_by
    entered_done m samples marks counts middle journal used count h es em ei ec ej eu =
        let room : entry_size (length cs) ≤ length s.journal - s.used = rw count at h in
        let all : journal ≡ sets s.journal s.used (entry s mark (places cs)) = (rw (count, ei) at ej) ∙ entry_words s mark cs in
        let places-m : m ≡ length (places cs) = count ∙ sym (length_places cs) in
        let named : places (old_marks (saved_at middle s.used m)) ≡ places cs =
        (rw (ei, places-m) (places_there s.journal s.samples s.marks (places cs) s.used (omega arith))) in
        let recount : counts ≡ recounted (put (each mark (places cs)) s.marks) (places cs) s.counts = rw (← em, ← named) ec in
        rw (ne_eqb _ _ some, le-ltb _ _ room, es, em, recount, all, eu, count, places_each) refl

none_stored : (l : List ℕ) (start : ℕ) (words : List ℕ) → length words ≡ 0 → sets l start words ≡ l
none_stored l start [] h = refl
none_stored l start (w ∷ words) h = absurd (omega arith)

-- The same for a span, whose words come after the entry: nothing is named, there is no room, the entry stands.
module _ (s : State) (mark start len : ℕ) (words : List ℕ) (count : length words ≡ len) where
  pub span_none : len ≡ 0
      → ended (Ok 0) (state (sets s.samples start words) s.marks s.counts s.journal s.used) ≡ entered s mark (span start words)
  span_none h =
      ap (λ (l : List ℕ). ended (Ok 0) (state l s.marks s.counts s.journal s.used)) (none_stored s.samples start words (count ∙ h))
      ∙ entered_none s mark (span start words) (length_span start words ∙ count ∙ h)

  module _ (some : len ≡ 0 → ⊥) where
    -- a span that is not empty names a sample
    span_some : length (span start words) ≡ 0 → ⊥
    span_some h = some (sym count ∙ sym (length_span start words) ∙ h)

    pub span_room : length s.journal - s.used < entry_size len → refused s Room ≡ entered s mark (span start words)
    span_room h = entered_room s mark (span start words) span_some (rw (length_span start words, count) h)

    pub span_entered : (marks counts middle journal : List ℕ) (used : ℕ) → entry_size len ≤ length s.journal - s.used
        → marks ≡ sets s.marks start (replicate len mark)
        → middle ≡ sets s.journal s.used (three_words (saved s.samples s.marks (consecutive start len)))
        → counts ≡ recounted marks (places (old_marks (saved_at middle s.used len))) s.counts
        → journal ≡ sets middle (s.used + 3 * len) (len ∷ mark ∷ [])
        → used ≡ s.used + entry_size len
        → ended (Ok len) (state (sets s.samples start words) marks counts journal used) ≡ entered s mark (span start words)
    span_entered marks counts middle journal used h em ei ec ej eu =
        let named : consecutive start len ≡ places (span start words) = sym (places_span start words ∙ ap (consecutive start) count) in
        entered_done s mark (span start words) span_some len _ marks counts middle journal used (sym (length_span start words ∙ count)) h
        (sym (put_span start words s.samples))
        (em ∙ sym (put_each mark start len s.marks) ∙ ap (λ (is : List ℕ). put (each mark is) s.marks) named)
        (rw named at ei)
        ec
        ej
        eu

  -- the words are in range: the call ends as the entry does, and the caller writes the words where it stands
  module _ (a : Answer) (m : ℕ) (r : Answer) (marks counts journal : List ℕ) (used : ℕ) (e : a ≡ ranged (span start words)) (d : a ≡ Ok m) where
    pub span_refused : (why : Reason) → r ≡ Err why
        → ended r (filled r start words (state s.samples marks counts journal used)) ≡ entered s mark (span start words)
        → ended r (state s.samples marks counts journal used) ≡ carried s (change mark (span start words))
    span_refused why er end = rw er ((rw er at end) ∙ carried_on s mark (span start words) a m e d)

    pub span_written : (k : ℕ) (samples : List ℕ) → r ≡ Ok k → samples ≡ sets s.samples start words
        → ended r (filled r start words (state s.samples marks counts journal used)) ≡ entered s mark (span start words)
        → ended r (state samples marks counts journal used) ≡ carried s (change mark (span start words))
    span_written k samples er es end = rw (er, es) ((rw er at end) ∙ carried_on s mark (span start words) a m e d)
