-- How undo ends where the last entry passes every test, and where there is none. Assumes nothing.
use mathlib.Core.Path.{◌≡◌, refl, ◌∙◌}
use mathlib.Core.Bool.{true, false}
use mathlib.Core.List.{List}
use mathlib.Core.Logic.{inl, inr}
use Prim.Native.Nat.{ℕ, ◌-◌, ◌≤◌, ◌<◌}
use native.Mathlib.Omega.{arith}
use lib.ListN.{length, replicate}
use lib.Seq.{sets}
use lib.Dec.{eqb}
use borrow.Author.Tests.{eq-eqb, ne_eqb, le-ltb}
use Rattle.recording.specs.Recording.{State, ended, Saved, fitting, entry_size, last_count, last_mark}
use Rattle.recording.specs.Marks.{made}
use Rattle.recording.specs.Recording.{last_saved, place_past, not_rising, mark_past, malformed, old_words, old_marks}
use Rattle.recording.specs.Recording.{put, state, recounted_by, taken_back, undone}
use Rattle.recording.specs.Inner.{Fits}
use Rattle.std.specs.Prelude.{Ok}
use Rattle.recording.proofs.open.Laws.{fits_done, fits_or_not}

-- a last entry that passes every test of undo: its count, the mark that was set, and what was saved
pub record Sealed (s : State) (m mark : ℕ) (olds : List Saved) : Type 0 where
  pub count : last_count s.journal s.used ≡ m
  pub set_mark : last_mark s.journal s.used ≡ mark
  pub saved_there : last_saved s.journal s.used ≡ olds
  pub some : 0 < m
  pub few : m ≤ length s.samples
  pub fits : entry_size m ≤ s.used
  pub below : place_past (length s.samples) olds ≡ false
  pub rising : not_rising olds ≡ false
  pub bytes : mark_past olds ≡ false
  pub valid : made mark ≡ true

-- the words and marks that it saved return, their blocks are recounted, and it is cleared
abbrev pub without : State → ℕ → List Saved → State
without s m olds =
    let begin = s.used - entry_size m in
    let journal = sets s.journal begin (replicate (entry_size m) 0) in
    state (put (old_words olds) s.samples) (put (old_marks olds) s.marks) (recounted_by (old_marks olds) s) journal begin

module _ {s : State} {m mark : ℕ} {olds : List Saved} (e : Sealed s m mark olds) where
  well_formed : malformed (length s.samples) s.journal s.used ≡ false
  unfolding malformed
  well_formed =
      rw (e.saved_there, e.count, e.set_mark)
      (rw (ne_eqb s.used 1 (λ (z : s.used ≡ 1). omega arith), ne_eqb m 0 (λ (z : m ≡ 0). omega arith))
      (rw (le-ltb (length s.samples) m e.few, le-ltb s.used (entry_size m) e.fits)
      (rw (e.below, e.rising, e.bytes, e.valid) refl)))

  sealed_back : taken_back s ≡ without s m olds
  unfolding taken_back
  sealed_back = rw (e.saved_there, e.count)

  -- undo does so
  pub sealed_undone : Fits s → undone s ≡ ended (Ok m) (without s m olds)
  sealed_undone f =
      accepted (fits_done f) (ne_eqb s.used 0 (λ (z : s.used ≡ 0). omega (arith, e.fits))) well_formed
      ∙ rw (e.count, sealed_back)
    where
      accepted : fitting s ≡ Ok 0 → eqb s.used 0 ≡ false
          → malformed (length s.samples) s.journal s.used ≡ false
          → undone s ≡ ended (Ok (last_count s.journal s.used)) (taken_back s)
      accepted one two three = unfold undone in rw (one, two, three)

-- where nothing was entered, undo leaves all as it is
pub undone_idle : (s : State) → s.used ≡ 0 → (undone s).after ≡ s
unfolding undone
undone_idle s z = rw (eq-eqb _ _ z) (elim (fits_or_not s) [ inl f ↦ rw (fits_done f) | inr n ↦ rw n.1 ])
