-- What follows from the rules of the calls, as specs/Consequences.antt states it. A call ends in one of a few ways, so that what holds of each
-- of them holds of the call. Assumes nothing.
use mathlib.Core.Path.{◌≡◌, refl, sym, ap, ◌∙◌}
use mathlib.Core.Bool.{Bool, true, true≢false}
use mathlib.Core.List.{List, [], ◌∷◌, map}
use mathlib.Core.Logic.{◌⊎◌, inl, inr}
use Prim.Native.Nat.{ℕ, ◌≤◌}
use native.Mathlib.Omega.{arith}
use borrow.Author.Tests.{ltb-false}
use lib.Dec.{ltb, eqb}
use lib.ListN.{length, drop, length-map}
use lib.Seq.{length-sets, drop-set-lt}
use Rattle.leaves.proofs.Choice.{picks, picks_by}
use Rattle.leaves.proofs.Parts.{drop-sets}
use Rattle.recording.specs.Answers.{reason_number, number}
use Rattle.recording.specs.Recording.{readable}
use Rattle.recording.specs.declared.Reason.{Reason}
use Rattle.recording.specs.declared.Reason.TheVariants.{Workspace, Read, Pieces}
use Rattle.recording.specs.Answer.{Answer}
use Rattle.std.specs.Prelude.{Ok, Err}
use Rattle.recording.proofs.read.Laws.{ReadEnds, readable_ends}
use Rattle.redraw.proofs.Ending.{done_not_refused}
use lib.Ieee.{Float, binary32, to_bits}
use Rattle.leaves.specs.Arithmetic.{nought, float}
use Rattle.decrackle.specs.declared.Start.TheVariants.{Old}
use Rattle.decrackle.specs.Decrackle.{mean_over}
use Rattle.crackle.specs.declared.Detector.{Detector}
use Rattle.crackle.specs.Pieces.{known_by, held_back, flags_due, Holding, holding, values_with, value_before, with_sample, with_piece, flags_before}
use Rattle.crackle.specs.Pieces.{Told, told, flag_byte, flags_in, closed, stopped, too_few_values, too_much, not_all, unless_out, piece_told}
use Rattle.crackle.specs.Pieces.{last_flags, last_values, end_told}
use Rattle.crackle.specs.Consequences.{AsManyAsDue, Ends, PieceEnds, EndEnds, OldHoldsNothing, OnlyTheseRefusals}
use Rattle.crackle.proofs.Due.{held_few, same_start, due_length, piece_room, last_room}

pub as_many_as_due : AsManyAsDue
as_many_as_due = due_length

-- ---- The ways in which a call ends

module _ (P : Told Holding → Type 0) (h : Holding) (room : List ℕ) (halted : P (told (Err Pieces) (stopped h) room))
    (short : P (told (Err Workspace) h room)) where
  abbrev d : Detector
  d = h.detector

  pub piece_by : (piece : List ℕ) → ((i : ℕ) → P (told (Err (Read i)) (stopped h) room))
      → (mean_over ≤ length h.values → flags_due d.start d.taken (length piece) ≤ length room
      → P (told (Ok (flags_due d.start d.taken (length piece))) (with_piece h piece) (flags_in room (flags_before h piece))))
      → P (piece_told h piece room)
  unfolding piece_told
  piece_by piece out taken =
      picks_by P (too_few_values h) _ _ (λ k. short)
      (λ v. picks P (too_much d n) _ _ halted
      (picks_by P (ltb (length room) (flags_due d.start d.taken n)) _ _ (λ k. short)
      (λ k. read (readable d.taken piece) (readable_ends _ piece) (ltb-false _ _ v) (ltb-false _ _ k))))
    where
      n : ℕ
      n = length piece

      read : (a : Answer) → ReadEnds a → mean_over ≤ length h.values → flags_due d.start d.taken n ≤ length room
          → P (unless_out a h room (told (Ok (flags_due d.start d.taken n)) (with_piece h piece) (flags_in room (flags_before h piece))))
      read (Ok m) e v k = taken v k
      read (Err why) (inl e) v k = absurd (done_not_refused 0 why (sym e))
      read (Err why) (inr (i, e)) v k = rw e (out i)

  pub end_by : (mean_over ≤ length h.values → length (last_flags h) ≤ length room
      → P (told (Ok (length (last_flags h))) (holding (closed d) (last_values h)) (flags_in room (last_flags h))))
      → P (end_told h room)
  unfolding end_told
  end_by given =
      picks_by P (too_few_values h) _ _ (λ k. short)
      (λ v. picks P (not_all d) _ _ halted
      (picks_by P (ltb (length room) (length (last_flags h))) _ _ (λ k. short) (λ k. given (ltb-false _ _ v) (ltb-false _ _ k))))

-- 6 leaves what holds the detector
module _ (h : Holding) (room : List ℕ) where
  abbrev Six : Told Holding → Type 0
  Six t = eqb (number t.answer) 6 ≡ true → t.held ≡ h

  pub end_by_six : Six (end_told h room)
  end_by_six = end_by Six h room (λ e. absurd (true≢false (sym e))) (λ e. refl) (λ v k e. absurd (true≢false (sym e)))

pub piece_by_six : (piece room : List ℕ) (h : Holding) → Six h room (piece_told h piece room)
piece_by_six piece room h =
    piece_by (Six h room) h room (λ e. absurd (true≢false (sym e))) (λ e. refl) piece (λ i e. absurd (true≢false (sym e)))
    (λ v k e. absurd (true≢false (sym e)))

-- ---- What is left

-- what lies behind the values is not touched
values_behind : (h : Holding) (value : Float) → drop mean_over (values_with h value) ≡ drop mean_over h.values
unfolding values_with
values_behind h value =
    picks_by (λ (l : List ℕ). drop mean_over l ≡ drop mean_over h.values) (held_back h.detector.start h.detector.taken) _ _
    (λ back. drop-set-lt mean_over h.values (known_by h.detector.taken) (to_bits binary32 value)
    (let few = (held_few h.detector.start h.detector.taken back).1 in omega (arith, few)))
    (λ free. refl)

sample_behind : (h : Holding) (x : Float) → drop mean_over (with_sample h x).values ≡ drop mean_over h.values
unfolding with_sample
sample_behind h x =
    picks (λ (l : List ℕ). drop mean_over l ≡ drop mean_over h.values) (eqb h.detector.taken 0) _ _ refl
    (values_behind h (value_before h.detector x))

piece_behind : (h : Holding) (ws : List ℕ) → drop mean_over (with_piece h ws).values ≡ drop mean_over h.values
unfolding with_piece
piece_behind h [] = refl
piece_behind h (w ∷ ws) = piece_behind (with_sample h (float w)) ws ∙ sample_behind h (float w)

last_behind : (h : Holding) → drop mean_over (last_values h) ≡ drop mean_over h.values
unfolding last_values
last_behind h =
    picks (λ (l : List ℕ). drop mean_over l ≡ drop mean_over h.values) (eqb h.detector.taken 0) _ _ refl (values_behind h nought)

-- a refusal has one reason, and is no acceptance
same_reason : (v w : Reason) → ◌≡◌ {A = Answer} (Err v) (Err w) → v ≡ w
same_reason v w e = cc

module _ (h : Holding) (room : List ℕ) where
  -- 6
  keeps : Ends h room (told (Err Workspace) h room)
  keeps =
      record {
        unwritten = λ w e. (refl, refl);
        nothing_in = λ e. refl;
        stops = λ w e. inl (sym (same_reason Workspace w e));
        as_long = (refl, refl);
        behind = λ m e. absurd (done_not_refused m Workspace (sym e));
        behind_values = refl;
      }

  -- any other
  stops_run : (why : Reason) → (why ≡ Workspace → ⊥) → Ends h room (told (Err why) (stopped h) room)
  stops_run why other =
      record {
        unwritten = λ w e. (refl, refl);
        nothing_in = λ e. absurd (other (same_reason why Workspace e));
        stops = λ w e. inr refl;
        as_long = (refl, refl);
        behind = λ m e. absurd (done_not_refused m why (sym e));
        behind_values = refl;
      }

  -- an acceptance
  gives : (e : Holding) (fs : List Bool) (m : ℕ) → length fs ≡ m → length e.values ≡ length h.values
      → drop mean_over e.values ≡ drop mean_over h.values → Ends h room (told (Ok m) e (flags_in room fs))
  gives e fs m many long back =
      record {
        unwritten = λ w k. absurd (done_not_refused m w k);
        nothing_in = λ k. absurd (done_not_refused m Workspace k);
        stops = λ w k. absurd (done_not_refused m w k);
        as_long = (length-sets room 0 (map flag_byte fs), long);
        behind = λ i k. drop-sets room (map flag_byte fs) 0 i (omega (arith, length-map fs flag_byte, many, same_count i k));
        behind_values = back;
      }
    where
      same_count : (i : ℕ) → ◌≡◌ {A = Answer} (Ok m) (Ok i) → m ≡ i
      same_count i k = cc

pub piece_ends : PieceEnds
piece_ends h piece room =
    piece_by (Ends h room) h room (stops_run h room Pieces (λ e. omega (arith, ap reason_number e))) (keeps h room) piece
    (λ i. stops_run h room (Read i) (λ e. omega (arith, ap reason_number e)))
    (λ values enough. gives h room _ (flags_before h piece) _ (due_length h piece values) (piece_room h piece) (piece_behind h piece))

pub end_ends : EndEnds
end_ends h room =
    end_by (Ends h room) h room (stops_run h room Pieces (λ e. omega (arith, ap reason_number e))) (keeps h room)
    (λ values enough. gives h room _ (last_flags h) _ refl (last_room h) (last_behind h))

-- ---- The old start

values_kept : (h : Holding) (value : Float) → h.detector.start ≡ Old → values_with h value ≡ h.values
unfolding values_with held_back
values_kept h value e = rw e refl

sample_kept : (h : Holding) (x : Float) → h.detector.start ≡ Old → (with_sample h x).values ≡ h.values
unfolding with_sample
sample_kept h x e =
    picks (λ (l : List ℕ). l ≡ h.values) (eqb h.detector.taken 0) _ _ refl (values_kept h (value_before h.detector x) e)

piece_kept : (h : Holding) (ws : List ℕ) → h.detector.start ≡ Old → (with_piece h ws).values ≡ h.values
unfolding with_piece
piece_kept h [] e = refl
piece_kept h (w ∷ ws) e = piece_kept (with_sample h (float w)) ws (same_start h (float w) ∙ e) ∙ sample_kept h (float w) e

last_kept : (h : Holding) → h.detector.start ≡ Old → last_values h ≡ h.values
unfolding last_values
last_kept h e = picks (λ (l : List ℕ). l ≡ h.values) (eqb h.detector.taken 0) _ _ refl (values_kept h nought e)

pub old_holds_nothing : OldHoldsNothing
old_holds_nothing h piece room e = (
  piece_by (λ (t : Told Holding). t.held.values ≡ h.values) h room refl refl piece (λ i. refl) (λ values enough. piece_kept h piece e),
  end_by (λ (t : Told Holding). t.held.values ≡ h.values) h room refl refl (λ values enough. last_kept h e),
)

pub only_these_refusals : OnlyTheseRefusals
only_these_refusals h piece room = (
  piece_by (λ (t : Told Holding). let k = number t.answer in (k ≡ 0) ⊎ (k ≡ 13) ⊎ (k ≡ 6) ⊎ (k ≡ 7)) h room (inr (inl refl)) (inr (inr (inl refl)))
      piece (λ i. inr (inr (inr refl))) (λ values enough. inl refl),
  end_by (λ (t : Told Holding). let k = number t.answer in (k ≡ 0) ⊎ (k ≡ 13) ⊎ (k ≡ 6)) h room (inr (inl refl)) (inr (inr refl))
      (λ values enough. inl refl),
)
