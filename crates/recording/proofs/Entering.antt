-- A repair whose plan keeps to its rule: it leaves all as it is, or it enters what it names; and what is then kept.
-- Assumes nothing.
use mathlib.Core.Path.{◌≡◌, refl, sym, ap, ◌∙◌}
use mathlib.Core.Bool.{true, false, ◌&&◌, ◌||◌}
use mathlib.Core.List.{List, [], ◌∷◌}
use mathlib.Core.Logic.{◌⊎◌, inl, inr, ◌≢◌}
use Prim.Native.Nat.{ℕ, ◌+◌, ◌-◌, ◌≤◌, ◌<◌}
use native.Mathlib.Omega.{arith}
use lib.ListN.{length, get_or}
use lib.Seq.{length-sets}
use lib.Dec.{leb, ltb, eqb}
use borrow.Author.Tests.{ne_eqb, le-ltb, leb-true, eqb-true, eqb-false, ltb-false}
use Rattle.leaves.proofs.Lists.{read_before, read_after}
use Rattle.leaves.specs.Floats.{in_range}
use Rattle.recording.specs.Recording.{State, ended, Placed, places, put, each, entry_size, entry, recounted_by, committed}
use Rattle.recording.specs.Marks.{made}
use Rattle.recording.specs.Counts.{counted}
use Rattle.recording.specs.Recording.{entered, ranged, Plan, refuse, change, carried, performed}
use Rattle.recording.specs.History.{Ascending, Bytes, Keeps}
use Rattle.recording.specs.Consequences.{Among}
use Rattle.recording.specs.Inner.{Fits}
use Rattle.recording.specs.declared.Reason.{Reason}
use Rattle.recording.specs.declared.Reason.TheVariants.{Result, Room}
use Rattle.std.specs.Prelude.{Ok, Err}
use Rattle.recording.proofs.Put.{among_or_not, among_below, put_elsewhere, put_each, places_each}
use Rattle.recording.proofs.Put.{length_put, length_places}
use Rattle.recording.proofs.Counting.{recounted_all}
use Rattle.recording.proofs.Journal.{length_entry}
use Rattle.recording.proofs.open.Laws.{fits_done, fits_or_not}
use Rattle.leaves.proofs.Choice.{truth, EitherWay, both_hold, either}

-- a repair of these samples is accepted, names some and enters them
pub record Enters (s : State) (mark : ℕ) (cs : List Placed) : Type 0 where
  pub fits : Fits s
  pub in-range : ranged cs ≡ Ok 0
  pub some : 0 < length cs
  pub room : s.used + entry_size (length cs) ≤ length s.journal
  pub valid : made mark ≡ true
  pub ascending : Ascending (length s.samples) 0 cs

-- what a recording keeps from its opening on: the free journal words are 0, marks are bytes, and the counts are those of the marks
pub record Sound (s : State) : Type 0 where
  pub within : s.used ≤ length s.journal
  pub free : (i : ℕ) → s.used ≤ i → get_or s.journal i 0 ≡ 0
  pub bytes : Bytes s.marks
  pub counts : s.counts ≡ counted s.marks

-- a mark that a repair sets is a byte
made_byte : (k : ℕ) → made k ≡ true → k < 256
made_byte k h =
    elim (either (leb 1 k && leb k 5 || eqb k 7) (eqb k 8) h) [
      | inl e ↦ elim (either (leb 1 k && leb k 5) (eqb k 7) e) [
        | inl d ↦ omega (arith, leb-true k 5 (both_hold (leb 1 k) (leb k 5) d).1)
        | inr d ↦ omega (arith, eqb-true k 7 d)
      ]
      | inr e ↦ omega (arith, eqb-true k 8 e)
    ]

-- such a repair ends in the commit
pub enters_ends : {s : State} {mark : ℕ} {cs : List Placed} → Enters s mark cs
    → performed s (change mark cs) ≡ ended (Ok (length cs)) (committed s mark cs)
unfolding performed carried entered
enters_ends {s} {mark} {cs} e =
    rw (fits_done e.fits, e.in-range, ne_eqb (length cs) 0 (λ (z : length cs ≡ 0). omega arith))
    (rw (le-ltb (length s.journal - s.used) (entry_size (length cs)) (omega arith)) refl)

-- every result is in range, or one is refused with its place
pub ranged_ends : (cs : List Placed) → (ranged cs ≡ Ok 0) ⊎ ((place : ℕ) × (ranged cs ≡ Err (Result place)))
unfolding ranged
ranged_ends [] = inl refl
ranged_ends (c ∷ cs) =
    elim (truth (in_range c.value)) [ inl t ↦ rw t (ranged_ends cs) | inr f ↦ inr (c.place, rw f) ]

-- a list of no elements
empty : (cs : List Placed) → eqb (length cs) 0 ≡ true → cs ≡ []
empty [] h = refl
empty (c ∷ cs) h = absurd (omega (arith, eqb-true (length (c ∷ cs)) 0 h))

-- the three ways in which a repair ends
pub data Ending (s : State) (p : Plan) : Type 0 where
  unnamed : (mark : ℕ) → p ≡ change mark [] → performed s p ≡ ended (Ok 0) s → Ending s p
  turned_away : (why : Reason) → performed s p ≡ ended (Err why) s → Ending s p
  enters : (mark : ℕ) (cs : List Placed) → p ≡ change mark cs → Enters s mark cs → Ending s p

pub ending : (s : State) (p : Plan) → Keeps (length s.samples) p → Ending s p
unfolding performed carried entered
ending s p k = elim (fits_or_not s) [ inl f ↦ planned f p k | inr n ↦ turned_away n.0 (rw n.1) ]
  where
    planned : Fits s → (p : Plan) → Keeps (length s.samples) p → Ending s p
    planned f (refuse why) k = turned_away why (rw (fits_done f))
    planned f (change mark cs) k =
        elim (ranged_ends cs) [
          | inl g ↦ sized g (truth (eqb (length cs) 0)) (truth (ltb free (entry_size (length cs))))
          | inr n ↦ turned_away (Result n.0) (rw (fits_done f, n.1))
        ]
      where
        free : ℕ
        free = length s.journal - s.used

        sized : ranged cs ≡ Ok 0 → EitherWay (eqb (length cs) 0) → EitherWay (ltb free (entry_size (length cs)))
            → Ending s (change mark cs)
        sized g (inl z) r = let none : cs ≡ [] = empty cs z in unnamed mark (ap (change mark) none) (rw (fits_done f, g, z))
        sized g (inr z) (inl r) = turned_away Room (rw (fits_done f, g, z, r))
        sized g (inr z) (inr r) =
            enters mark cs refl
            (record {
              fits = f;
              in-range = g;
              some = let n : length cs ≢ 0 = eqb-false _ _ z in omega arith;
              room = let enough : entry_size (length cs) ≤ free = ltb-false _ _ r in omega (arith, f.within);
              valid = k.0;
              ascending = k.1;
            })

-- ---- The recording after a commit

-- sample i has one word and one mark in both recordings
abbrev pub SameAt : ℕ → State → State → Type 0
SameAt i s t = (get_or s.samples i 0 ≡ get_or t.samples i 0) × (get_or s.marks i 0 ≡ get_or t.marks i 0)

module _ (s : State) (mark : ℕ) (cs : List Placed) where
  -- the entry is 3m+2 words long
  pub after_used : (committed s mark cs).used ≡ s.used + entry_size (length cs)
  unfolding committed
  after_used = refl

  -- before the entry the journal is as it was
  pub after_earlier : (i : ℕ) → i < s.used → get_or (committed s mark cs).journal i 0 ≡ get_or s.journal i 0
  unfolding committed
  after_earlier i h = read_before s.journal (entry s mark (places cs)) s.used i 0 h

  -- a sample that is not named is as it was
  pub after_elsewhere : (i : ℕ) → (Among i (places cs) → ⊥) → SameAt i (committed s mark cs) s
  unfolding committed
  after_elsewhere i f =
      (put_elsewhere i cs s.samples f, put_elsewhere i (each mark (places cs)) s.marks (rw places_each f))

module _ {s : State} {mark : ℕ} {cs : List Placed} (e : Enters s mark cs) where
  -- a named one has the mark
  pub after_named : (i : ℕ) → Among i (places cs) → get_or (committed s mark cs).marks i 0 ≡ mark
  unfolding committed
  after_named i a =
      let below : i < length s.samples = among_below (length s.samples) 0 i cs e.ascending a in
      let within : i < length s.marks = omega (arith, e.fits.marked) in
      put_each mark i (places cs) s.marks within a

  -- so one whose mark is none that a repair sets is as it was
  pub after_unmade : (i : ℕ) → made (get_or (committed s mark cs).marks i 0) ≡ false → SameAt i (committed s mark cs) s
  after_unmade i h = elim (among_or_not i (places cs)) [ inl a ↦ never a | inr f ↦ after_elsewhere s mark cs i f ]
    where
      never : Among i (places cs) → SameAt i (committed s mark cs) s
      never a = let both : true ≡ false = sym e.valid ∙ (rw (after_named i a) at h) in (cc, cc)

  -- the free words stay 0, marks stay bytes, and the counts are those of the marks
  pub after_sound : Sound s → Sound (committed s mark cs)
  after_sound kept = record { within = within; free = free; bytes = bytes; counts = counts }
    where
      within : (committed s mark cs).used ≤ length (committed s mark cs).journal
      within = unfold committed in simp length-sets e.room

      free : (i : ℕ) → (committed s mark cs).used ≤ i → get_or (committed s mark cs).journal i 0 ≡ 0
      free i h =
          unfold committed in
          (read_after s.journal (entry s mark (places cs)) s.used i 0 (rw (length_entry, length_places) h)
          ∙ kept.free i (omega arith))

      bytes : (i : ℕ) → get_or (committed s mark cs).marks i 0 < 256
      bytes i =
          elim (among_or_not i (places cs)) [
            | inl a ↦ rw (after_named i a) (made_byte mark e.valid)
            | inr f ↦ rw (after_elsewhere s mark cs i f).1 (kept.bytes i)
          ]

      counts : (committed s mark cs).counts ≡ counted (committed s mark cs).marks
      counts =
          unfold committed recounted_by in
          (rw (kept.counts, places_each)
          (recounted_all s.marks (put (each mark (places cs)) s.marks) (places cs) (length_put (each mark (places cs)) s.marks)
          (λ i f. put_elsewhere i (each mark (places cs)) s.marks (rw places_each f))))
