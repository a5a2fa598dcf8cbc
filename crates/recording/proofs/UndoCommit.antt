-- Undo after a repair that entered its samples: it gives back the very state before. Assumes nothing.
use mathlib.Core.Path.{◌≡◌, sym, ap, ◌∙◌}
use mathlib.Core.List.{List}
use Prim.Native.Nat.{ℕ, ◌+◌, ◌-◌, ◌*◌, ◌≤◌, ◌<◌}
use native.Mathlib.Omega.{arith}
use lib.ListN.{length, get_or, replicate, length-replicate}
use lib.Seq.{sets, length-sets}
use Rattle.recording.specs.Recording.{State, state, ended, Placed, places, put, each, saved, saved_at, old_words}
use Rattle.recording.specs.Recording.{old_marks, entry_size, entry, committed, last_count, last_mark, last_saved}
use Rattle.recording.specs.Recording.{recounted_by, undone}
use Rattle.recording.specs.Counts.{recounted}
use Rattle.recording.specs.Inner.{Fits}
use Rattle.std.specs.Prelude.{Ok}
use Rattle.recording.proofs.Put.{length_put, length_places, ascending_count, put_back, marks_back, words_kept}
use Rattle.recording.proofs.Put.{marks_kept, places_valued}
use Rattle.recording.proofs.Journal.{length_entry, entry_count, entry_mark, entry_saved, stored_back, all_zero}
use Rattle.recording.proofs.Journal.{none_past, rising, all_bytes}
use Rattle.recording.proofs.Entering.{Enters, Sound, after_sound, after_elsewhere}
use Rattle.recording.proofs.Counting.{length_recounted, recounted_all}
use Rattle.recording.proofs.Tests.{Sealed, sealed_undone}

-- after such a repair
module _ {s : State} {mark : ℕ} {cs : List Placed} (e : Enters s mark cs) where
  -- refusals 1, 14, 2 and 3 do not apply
  pub after_fits : Fits (committed s mark cs)
  unfolding committed recounted_by
  after_fits =
      record {
        marked = simp length_put e.fits.marked;
        counted = simp (length_recounted, length_put) e.fits.counted;
        few = simp length_put e.fits.few;
        within = simp length-sets e.room;
      }

  entry_room : s.used + entry_size (length (places cs)) ≤ length s.journal
  entry_room = rw length_places e.room

  -- the last entry, read from its end
  pub last-count : last_count (committed s mark cs).journal (committed s mark cs).used ≡ length cs
  unfolding committed
  last-count =
      let same = length_places cs in
      let at : s.used + entry_size (length cs) - 2 ≡ s.used + 3 * length (places cs) = omega arith in
      rw at (entry_count s mark (places cs) s.journal s.used entry_room ∙ length_places cs)

  pub last-mark : last_mark (committed s mark cs).journal (committed s mark cs).used ≡ mark
  unfolding committed
  last-mark =
      let same = length_places cs in
      let at : s.used + entry_size (length cs) - 1 ≡ s.used + (3 * length (places cs) + 1) = omega arith in
      rw at (entry_mark s mark (places cs) s.journal s.used entry_room)

  pub last_begin : (committed s mark cs).used - entry_size (length cs) ≡ s.used
  unfolding committed
  last_begin = omega arith

  last-saved : last_saved (committed s mark cs).journal (committed s mark cs).used
      ≡ saved s.samples s.marks (places cs)
  unfolding last_saved
  last-saved = rw (last-count, last_begin) (rw length_places at there)
    where
      there : saved_at (committed s mark cs).journal s.used (length (places cs))
          ≡ saved s.samples s.marks (places cs)
      there = unfold committed in entry_saved s mark (places cs) s.journal s.used entry_room

  module _ (kept : Sound s) where
    -- it passes every test of undo
    last_sealed : Sealed (committed s mark cs) (length cs) mark (saved s.samples s.marks (places cs))
    last_sealed =
        record {
          count = last-count;
          set_mark = last-mark;
          saved_there = last-saved;
          some = e.some;
          few = omega (arith, same, ascending_count (length s.samples) 0 cs e.ascending (omega arith));
          fits = long_enough;
          below = rw same (none_past (length s.samples) 0 s.samples s.marks cs e.ascending);
          rising = rising (length s.samples) 0 s.samples s.marks cs e.ascending;
          bytes = all_bytes s.samples s.marks (places cs) kept.bytes;
          valid = e.valid;
        }
      where
        same : length (committed s mark cs).samples ≡ length s.samples
        same = unfold committed in simp length_put

        long_enough : entry_size (length cs) ≤ (committed s mark cs).used
        long_enough = unfold committed in omega arith

    -- what it saved returns to its place, and the journal was 0 where it is cleared
    words_back : put (old_words (saved s.samples s.marks (places cs))) (committed s mark cs).samples ≡ s.samples
    unfolding committed
    words_back = rw words_kept (put_back cs s.samples)

    mark_back : put (old_marks (saved s.samples s.marks (places cs))) (committed s mark cs).marks ≡ s.marks
    unfolding committed
    mark_back = rw marks_kept (marks_back mark (places cs) s.marks)

    entry_back : sets (committed s mark cs).journal s.used (replicate (entry_size (length cs)) 0) ≡ s.journal
    unfolding committed
    entry_back =
        stored_back s.journal (entry s mark (places cs)) (replicate (entry_size (length cs)) 0) s.used
        count room zeros
      where
        size : length (entry s mark (places cs)) ≡ entry_size (length cs)
        size = length_entry s mark (places cs) ∙ ap entry_size (length_places cs)

        count : length {A = ℕ} (replicate (entry_size (length cs)) 0) ≡ length (entry s mark (places cs))
        count = length-replicate (entry_size (length cs)) 0 ∙ sym size

        room : s.used + length (entry s mark (places cs)) ≤ length s.journal
        room = rw size e.room

        zeros : (i : ℕ) → i < length {A = ℕ} (replicate (entry_size (length cs)) 0)
            → get_or {A = ℕ} (replicate (entry_size (length cs)) 0) i 0 ≡ get_or s.journal (s.used + i) 0
        zeros i h = all_zero (entry_size (length cs)) i ∙ sym (kept.free (s.used + i) (omega arith))

    -- the blocks are recounted from the marks that returned
    count_back : recounted_by (old_marks (saved s.samples s.marks (places cs))) (committed s mark cs) ≡ s.counts
    unfolding recounted_by
    count_back =
        let after = committed s mark cs in
        let olds = old_marks (saved s.samples s.marks (places cs)) in
        let named : places olds ≡ places cs = rw (marks_kept, places_valued) in
        ap (λ (marks : List ℕ). recounted marks (places olds) after.counts) mark_back
        ∙ ap (λ (is : List ℕ). recounted s.marks is after.counts) named
        ∙ ap (recounted s.marks (places cs)) (after_sound e kept).counts
        ∙ recounted_all after.marks s.marks (places cs) same (λ i f. sym (after_elsewhere s mark cs i f).1)
        ∙ sym kept.counts
      where
        same : length s.marks ≡ length (committed s mark cs).marks
        same = unfold committed in sym (length_put (each mark (places cs)) s.marks)

    -- so undo gives back the very state before
    pub undo_commit : undone (committed s mark cs) ≡ ended (Ok (length cs)) s
    undo_commit =
        sealed_undone last_sealed after_fits
        ∙ (rw last_begin (λ i. ended (Ok (length cs)) (state (words_back i) (mark_back i) (count_back i) (entry_back i) s.used)))
