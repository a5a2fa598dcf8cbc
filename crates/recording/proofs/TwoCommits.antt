-- Two commits that name different samples, in either order: samples, marks, counts and used come out alike, and the journal has the two
-- entries in the order in which they were made. And a commit on a recording that differs in the journal's words alone. Assumes nothing.
use mathlib.Core.Path.{◌≡◌, refl, sym, ap, ◌∙◌}
use mathlib.Core.List.{List, [], ◌∷◌, ◌++◌, map}
use mathlib.Core.Logic.{◌⊎◌, inl, inr}
use Prim.Native.Nat.{ℕ, ◌+◌, ◌≤◌, ◌<◌}
use native.Mathlib.Omega.{arith}
use lib.ListN.{length, get_or, set, length-append}
use lib.Seq.{sets, length-sets, set_comm, ext_get_or}
use Rattle.leaves.proofs.Stores.{stored_behind}
use Rattle.recording.specs.Recording.{State, Placed, places, put, each, Saved, saved, three_words, entry_size, entry, recounted_by}
use Rattle.recording.specs.Recording.{committed}
use Rattle.recording.specs.Counts.{block_of, count_of, recounted}
use Rattle.recording.specs.Consequences.{Among}
use Rattle.recording.proofs.Put.{among_or_not, length_put, put_elsewhere, places_each, length_places}
use Rattle.recording.proofs.Journal.{length_entry}
use Rattle.recording.proofs.Counting.{count_same, length_recounted, block_among, recounted_there, recounted_elsewhere}
use Rattle.recording.proofs.Entering.{Enters, after_elsewhere}
use Rattle.recording.proofs.UndoCommit.{after_fits}

-- no place is in both lists
abbrev pub Disjoint : List ℕ → List ℕ → Type 0
Disjoint is js = (i : ℕ) → Among i is → Among i js → ⊥

-- ---- Values at different places

put_set : (cs : List Placed) (l : List ℕ) (i v : ℕ) → (Among i (places cs) → ⊥) → put cs (set l i v) ≡ set (put cs l) i v
unfolding put
put_set [] l i v out = refl
put_set (c ∷ cs) l i v out =
    ap (put cs) (set_comm l i c.place v c.value (λ (e : i ≡ c.place). out (inl e)))
    ∙ put_set cs (set l c.place c.value) i v (λ (a : Among i (places cs)). out (inr a))

put_either : (cs ds : List Placed) (l : List ℕ) → Disjoint (places cs) (places ds) → put ds (put cs l) ≡ put cs (put ds l)
unfolding put
put_either [] ds l apart = refl
put_either (c ∷ cs) ds l apart =
    put_either cs ds (set l c.place c.value) (λ i a b. apart i (inr a) b)
    ∙ ap (put cs) (put_set ds l c.place c.value (apart c.place (inl refl)))

-- ---- Counts

-- counted anew at the blocks of is, under the marks `first`, and then at those of js, under the marks `last`, which differ at js alone
module _ (first last is js counts : List ℕ) (long : length last ≡ length first)
    (same : (i : ℕ) → (Among i js → ⊥) → get_or last i 0 ≡ get_or first i 0) where
  twice : List ℕ
  twice = recounted last js (recounted first is counts)

  -- a block of either has the count of the last marks
  of_either : (block : ℕ) → block < length counts → Among block (map block_of is) ⊎ Among block (map block_of js)
      → get_or twice block 0 ≡ count_of last block
  unfolding twice
  of_either block h m = go (among_or_not block (map block_of js)) m
    where
      there : block < length (recounted first is counts)
      there = rw length_recounted h

      go : Among block (map block_of js) ⊎ (Among block (map block_of js) → ⊥) → Among block (map block_of is) ⊎ Among block (map block_of js)
          → get_or (recounted last js (recounted first is counts)) block 0 ≡ count_of last block
      go (inl b) m = recounted_there last js (recounted first is counts) block there b
      go (inr f) (inr b) = absurd (f b)
      go (inr f) (inl a) =
          recounted_elsewhere last js (recounted first is counts) block f
          ∙ recounted_there first is counts block h a
          ∙ sym (count_same last first block long (λ j e. same j (λ (b : Among j js). f (rw (← e) (block_among j js b)))))

  -- any other has what it had
  of_neither : (block : ℕ) → (Among block (map block_of is) → ⊥) → (Among block (map block_of js) → ⊥)
      → get_or twice block 0 ≡ get_or counts block 0
  unfolding twice
  of_neither block f g =
      recounted_elsewhere last js (recounted first is counts) block g ∙ recounted_elsewhere first is counts block f

  long_twice : length twice ≡ length counts
  unfolding twice
  long_twice = length_recounted last js (recounted first is counts) ∙ length_recounted first is counts

-- so the order has no say
recounted_either : (one other last is js counts : List ℕ) → length last ≡ length one → length last ≡ length other
    → ((i : ℕ) → (Among i js → ⊥) → get_or last i 0 ≡ get_or one i 0) → ((i : ℕ) → (Among i is → ⊥) → get_or last i 0 ≡ get_or other i 0)
    → recounted last is (recounted other js counts) ≡ recounted last js (recounted one is counts)
unfolding twice
recounted_either one other last is js counts long long-too same same-too =
    ext_get_or 0 _ _ (long_twice other last js is counts long-too same-too ∙ sym (long_twice one last is js counts long same))
    (λ block h. at_each block (rw (long_twice other last js is counts long-too same-too) at h) (among_or_not block (map block_of is))
    (among_or_not block (map block_of js)))
  where
    at_each : (block : ℕ) → block < length counts → Among block (map block_of is) ⊎ (Among block (map block_of is) → ⊥)
        → Among block (map block_of js) ⊎ (Among block (map block_of js) → ⊥)
        → get_or (recounted last is (recounted other js counts)) block 0 ≡ get_or (recounted last js (recounted one is counts)) block 0
    at_each block h (inl a) m =
        of_either other last js is counts long-too same-too block h (inr a) ∙ sym (of_either one last is js counts long same block h (inl a))
    at_each block h (inr f) (inl b) =
        of_either other last js is counts long-too same-too block h (inl b) ∙ sym (of_either one last is js counts long same block h (inr b))
    at_each block h (inr f) (inr g) =
        of_neither other last js is counts long-too same-too block g f ∙ sym (of_neither one last is js counts long same block f g)

-- ---- Entries

saved_same : (words marks words' marks' is : List ℕ)
    → ((i : ℕ) → Among i is → (get_or words' i 0 ≡ get_or words i 0) × (get_or marks' i 0 ≡ get_or marks i 0))
    → saved words' marks' is ≡ saved words marks is
unfolding saved
saved_same words marks words' marks' [] same = refl
saved_same words marks words' marks' (i ∷ is) same =
    let here = same i (inl refl) in
    rw (here.0, here.1)
    (ap (λ (ts : List Saved). record { place = i; word = get_or words i 0; mark = get_or marks i 0 } ∷ ts)
    (saved_same words marks words' marks' is (λ j a. same j (inr a))))

-- a commit stores its entry
stored_entry : (s : State) (mark : ℕ) (cs : List Placed)
    → (committed s mark cs).journal ≡ sets s.journal s.used (entry s mark (places cs))
unfolding committed
stored_entry s mark cs = refl

-- words that are stored behind it
pub then_stored : (s : State) (mark : ℕ) (cs : List Placed) (words : List ℕ)
    → sets (committed s mark cs).journal (committed s mark cs).used words
    ≡ sets s.journal s.used (entry s mark (places cs) ++ words)
unfolding committed
then_stored s mark cs words = rw size (stored_behind s.journal (entry s mark (places cs)) words s.used)
  where
    size : s.used + entry_size (length cs) ≡ s.used + length (entry s mark (places cs))
    size = ap (λ (k : ℕ). s.used + k) (sym (length_entry s mark (places cs) ∙ ap entry_size (length_places cs)))

-- ---- Two commits

module _ (s : State) (mark mark' : ℕ) (cs ds : List Placed) (apart : Disjoint (places cs) (places ds)) where
  -- the second entry is what it would be without the first commit
  pub entry_later : entry (committed s mark cs) mark' (places ds) ≡ entry s mark' (places ds)
  unfolding entry
  entry_later =
      ap (λ (ts : List Saved). three_words ts ++ (length (places ds) ∷ mark' ∷ []))
      (saved_same s.samples s.marks (committed s mark cs).samples (committed s mark cs).marks (places ds)
      (λ i b. after_elsewhere s mark cs i (λ (a : Among i (places cs)). apart i a b)))

  -- the journal has the one and then the other
  pub both_entries : (committed (committed s mark cs) mark' ds).journal
      ≡ sets s.journal s.used (entry s mark (places cs) ++ entry s mark' (places ds))
  both_entries =
      stored_entry (committed s mark cs) mark' ds
      ∙ ap (sets (committed s mark cs).journal (committed s mark cs).used) entry_later
      ∙ then_stored s mark cs (entry s mark' (places ds))

  pub both_used : (committed (committed s mark cs) mark' ds).used
      ≡ s.used + length (entry s mark (places cs) ++ entry s mark' (places ds))
  unfolding committed
  both_used =
      let a = length_entry s mark (places cs) ∙ ap entry_size (length_places cs) in
      let b = length_entry s mark' (places ds) ∙ ap entry_size (length_places ds) in
      let both = length-append (entry s mark (places cs)) (entry s mark' (places ds)) in
      omega (arith, a, b, both)

-- a commit leaves the journal as long as it was
pub room_kept : (s : State) (mark : ℕ) (cs : List Placed) → length (committed s mark cs).journal ≡ length s.journal
unfolding committed
room_kept s mark cs = length-sets s.journal s.used (entry s mark (places cs))

-- a recording that differs in the journal's words alone
pub record Like (s t : State) : Type 0 where
  pub samples : t.samples ≡ s.samples
  pub marks : t.marks ≡ s.marks
  pub counts : t.counts ≡ s.counts
  pub used : t.used ≡ s.used
  pub room : length t.journal ≡ length s.journal

-- in the other order
module _ (s : State) (mark mark' : ℕ) (cs ds : List Placed) (apart : Disjoint (places cs) (places ds)) where
  one : State
  one = committed (committed s mark cs) mark' ds

  other : State
  other = committed (committed s mark' ds) mark cs

  samples_alike : other.samples ≡ one.samples
  unfolding one other committed
  samples_alike = sym (put_either cs ds s.samples apart)

  marks_apart : Disjoint (places (each mark (places cs))) (places (each mark' (places ds)))
  marks_apart = rw (places_each mark (places cs), places_each mark' (places ds)) apart

  marks_alike : other.marks ≡ one.marks
  unfolding one other committed
  marks_alike = sym (put_either (each mark (places cs)) (each mark' (places ds)) s.marks marks_apart)

  counts_alike : other.counts ≡ one.counts
  unfolding one other committed recounted_by
  counts_alike =
      ap (λ (l : List ℕ). recounted l (places ms) (recounted (put ns marks) (places ns) s.counts)) swapped
      ∙ recounted_either (put ms marks) (put ns marks) (put ns (put ms marks)) (places ms) (places ns) s.counts
      (length_put ns (put ms marks)) (length_put ns (put ms marks) ∙ length_put ms marks ∙ sym (length_put ns marks))
      (λ i f. put_elsewhere i ns (put ms marks) f)
      (λ i f. ap (λ (l : List ℕ). get_or l i 0) (sym swapped) ∙ put_elsewhere i ms (put ns marks) f)
    where
      marks : List ℕ
      marks = s.marks

      ms : List Placed
      ms = each mark (places cs)

      ns : List Placed
      ns = each mark' (places ds)

      swapped : put ms (put ns marks) ≡ put ns (put ms marks)
      swapped = sym (put_either ms ns marks marks_apart)

  used_alike : other.used ≡ one.used
  unfolding one other committed
  used_alike = omega arith

  room_alike : length other.journal ≡ length one.journal
  unfolding one other
  room_alike =
      room_kept (committed s mark' ds) mark cs ∙ room_kept s mark' ds
      ∙ sym (room_kept (committed s mark cs) mark' ds ∙ room_kept s mark cs)

  pub commits_alike : Like (committed (committed s mark cs) mark' ds) (committed (committed s mark' ds) mark cs)
  unfolding one other
  commits_alike =
      record { samples = samples_alike; marks = marks_alike; counts = counts_alike; used = used_alike; room = room_alike }

-- where both are entered in the one order, they are in the other
module _ {s : State} {mark mark' : ℕ} {cs ds : List Placed} (e : Enters s mark cs) (f : Enters (committed s mark cs) mark' ds) where
  pub both_fit : s.used + entry_size (length cs) + entry_size (length ds) ≤ length s.journal
  both_fit = unfold committed in (rw length-sets at f.room)

  pub enters_first : Enters s mark' ds
  enters_first =
      record {
        fits = e.fits;
        in-range = f.in-range;
        some = f.some;
        room = omega (arith, both_fit);
        valid = f.valid;
        ascending = unfold committed in (rw length_put at f.ascending);
      }

  pub enters_second : Enters (committed s mark' ds) mark cs
  enters_second =
      record {
        fits = after_fits enters_first;
        in-range = e.in-range;
        some = e.some;
        room = unfold committed in (rw length-sets (omega (arith, both_fit)));
        valid = e.valid;
        ascending = unfold committed in (rw length_put e.ascending);
      }

-- ---- A commit on such a recording

module _ {s t : State} (mark : ℕ) (cs : List Placed) (l : Like s t) where
  -- what is entered in the one is in the other
  pub like_enters : Enters s mark cs → Enters t mark cs
  like_enters e =
      record {
        fits =
            record {
              marked = rw (l.marks, l.samples) e.fits.marked;
              counted = rw (l.counts, l.samples) e.fits.counted;
              few = rw l.samples e.fits.few;
              within = rw (l.used, l.room) e.fits.within;
            };
        in-range = e.in-range;
        some = e.some;
        room = rw (l.used, l.room) e.room;
        valid = e.valid;
        ascending = rw l.samples e.ascending;
      }

  -- and they stay so
  pub like_committed : Like (committed s mark cs) (committed t mark cs)
  unfolding committed recounted_by
  like_committed =
      record {
        samples = ap (put cs) l.samples;
        marks = ap (put (each mark (places cs))) l.marks;
        counts = rw (l.marks, l.counts) refl;
        used = rw l.used refl;
        room = room_kept t mark cs ∙ l.room ∙ sym (room_kept s mark cs);
      }

pub like_itself : (s : State) → Like s s
like_itself s = record { samples = refl; marks = refl; counts = refl; used = refl; room = refl }

pub like_then : {s t u : State} → Like s t → Like t u → Like s u
like_then a b =
    record {
      samples = b.samples ∙ a.samples;
      marks = b.marks ∙ a.marks;
      counts = b.counts ∙ a.counts;
      used = b.used ∙ a.used;
      room = b.room ∙ a.room;
    }
