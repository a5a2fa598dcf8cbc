-- Demand 3, as specs/History.antt states it, and what follows, as specs/Consequences.antt does. A recording is reached
-- from the raw one by the repairs that survive, one commit after the other; a call leads from a reached recording to a
-- reached one, since an undo gives back the very state before the last commit. Assumes nothing.
use mathlib.Core.Path.{◌≡◌, refl, sym, ap, ◌∙◌}
use mathlib.Core.Bool.{false}
use mathlib.Core.List.{List, [], ◌∷◌, ◌++◌, map, map-append, reverse, reverse-cons, reverse-append}
use mathlib.Core.Logic.{◌⊎◌, inl, inr}
use Prim.Native.Nat.{ℕ, zero, suc, ◌-◌, ◌≤◌, ◌<◌}
use native.Mathlib.Omega.{arith}
use lib.ListN.{length, get_or, replicate, length-reverse}
use lib.Dec.{eqb}
use Rattle.recording.specs.Answers.{value}
use Rattle.recording.specs.Recording.{State, Ended, ended, Placed, committed, Plan, change, performed, called}
use Rattle.recording.specs.Marks.{measured, not_received, made}
use Rattle.recording.specs.Recording.{undone, alike, kept_mark, opened_with}
use Rattle.recording.specs.History.{Repair, Call, repair, undo, did, run, surviving, survivors_over, survivors}
use Rattle.recording.specs.History.{replay, fresh}
use Rattle.recording.specs.History.{OpeningIsFresh, Bytes, RawMarks, Keeps, Lawful, AfterAny, Demand3}
use Rattle.recording.specs.Consequences.{AllName, SurvivorsStand, UndoTakesBackTheLast, UndoingAll, MeasuredIsRaw, UnmadeIsRaw}
use Rattle.recording.specs.Consequences.{FreeIsZero, CountsAreWorkedOut}
use Rattle.recording.specs.Consequences.{Closing, closings, mark_of, returned, EntriesAreSurvivors}
use Rattle.recording.specs.Answer.{Answer}
use Rattle.std.specs.Prelude.{Ok, Err}
use Rattle.recording.proofs.Journal.{all_zero}
use Rattle.leaves.proofs.Choice.{picks_by}
use Rattle.recording.proofs.Tests.{undone_idle}
use Rattle.recording.proofs.Entering.{Enters, SameAt, Sound, Ending, unnamed, turned_away, enters, ending}
use Rattle.recording.proofs.Entering.{enters_ends, after_sound, after_unmade, after_earlier, after_used}
use Rattle.recording.proofs.UndoCommit.{undo_commit, last-count, last-mark, last_begin}

-- ---- The relation

-- the recordings that repairs lead to from a raw one whose journal is empty, the last repair first: each named some
-- samples and entered them
pub data Reached (raw : State) : List Repair → State → Type 0 where
  none : Sound raw → raw.used ≡ 0 → Reached raw [] raw
  more : {r : Repair} {kept : List Repair} {s : State} {mark : ℕ} {cs : List Placed}
      → Reached raw kept s → r s.samples ≡ change mark cs → Enters s mark cs
      → Reached raw (r ∷ kept) (committed s mark cs)

-- its free journal words are 0, its marks are bytes, and its counts are those of its marks
reached_sound : {raw : State} {kept : List Repair} {s : State} → Reached raw kept s → Sound s
reached_sound (none sound empty) = sound
reached_sound (more before p e) = after_sound e (reached_sound before)

-- ---- One call

-- a call, by the rules
pub did_repair : (r : Repair) (s : State) → did (repair r) s ≡ performed s (r s.samples)
unfolding did called
did_repair r s = refl

did_undo : (s : State) → did undo s ≡ undone s
unfolding did
did_undo s = refl

-- a repair that enters some samples, whatever repair it is
did_enter : (r : Repair) {s : State} {mark : ℕ} {cs : List Placed} → r s.samples ≡ change mark cs → Enters s mark cs
    → did (repair r) s ≡ ended (Ok (length cs)) (committed s mark cs)
did_enter r {s} p e = did_repair r s ∙ ap (λ (q : Plan). performed s q) p ∙ enters_ends e

-- undo takes the last repair back
did_undo_more : {raw : State} {kept : List Repair} {s : State} {mark : ℕ} {cs : List Placed}
    → Reached raw kept s → Enters s mark cs → did undo (committed s mark cs) ≡ ended (Ok (length cs)) s
did_undo_more {s = s} {mark} {cs} before e = did_undo (committed s mark cs) ∙ undo_commit e (reached_sound before)

-- and leaves the raw recording as it is; where no repair survived, none survives it
did_undo_none : (raw : State) → raw.used ≡ 0 → (did undo raw).after ≡ raw
did_undo_none raw empty = rw did_undo (undone_idle raw empty)

none_left : (a : Answer) → surviving undo a [] ≡ []
none_left (Ok m) = refl
none_left (Err why) = refl

-- a call leads from a reached recording to a reached one
step_repair : (r : Repair) {raw : State} {kept : List Repair} {s : State}
    → Keeps (length s.samples) (r s.samples) → Reached raw kept s
    → Reached raw (surviving (repair r) (did (repair r) s).answer kept) (did (repair r) s).after
step_repair r {raw} {kept} {s} k at = go (ending s (r s.samples) k)
  where
    go : Ending s (r s.samples)
        → Reached raw (surviving (repair r) (did (repair r) s).answer kept) (did (repair r) s).after
    go (unnamed mark p e) = rw (did_repair, e) at
    go (turned_away why e) = rw (did_repair, e) at
    go (enters mark [] p e) = absurd (omega (arith, e.some))
    go (enters mark (c ∷ cs) p e) = rw (did_enter r p e) (more at p e)

step_undo : {raw : State} {kept : List Repair} {s : State} → Reached raw kept s
    → Reached raw (surviving undo (did undo s).answer kept) (did undo s).after
step_undo {raw} (none sound empty) = rw (none_left, did_undo_none raw empty) (none sound empty)
step_undo (more before p e) = rw (did_undo_more before e) before

-- ---- A sequence of calls

-- one call more is made first, and one repair more is made last
run_call : (c : Call) (cs : List Call) (s : State) → run (c ∷ cs) s ≡ run cs (did c s).after
unfolding run
run_call c cs s = refl

pub run_append : (cs ds : List Call) (s : State) → run (cs ++ ds) s ≡ run ds (run cs s)
unfolding run
run_append [] ds s = refl
run_append (c ∷ cs) ds s = run_append cs ds (did c s).after

replay_last : (rs : List Repair) (r : Repair) (s : State)
    → replay (rs ++ (r ∷ [])) s ≡ (did (repair r) (replay rs s)).after
unfolding replay
replay_last rs r s = rw (map-append repair) (run_append (map repair rs) (repair r ∷ []) s)

-- calls lead from a reached recording to the one that the survivors reach
reached_run : (cs : List Call) {raw : State} {kept : List Repair} {s : State} → Lawful cs → Reached raw kept s
    → Reached raw (survivors_over kept cs s) (run cs s)
unfolding survivors_over run
reached_run [] l at = at
reached_run (repair r ∷ cs) {s = s} l at = reached_run cs l.1 (step_repair r (l.0 s.samples) at)
reached_run (undo ∷ cs) l at = reached_run cs l (step_undo at)

-- which these reach by themselves
reached_replay : {raw : State} {kept : List Repair} {s : State} → Reached raw kept s → replay (reverse kept) raw ≡ s
reached_replay (none sound empty) = unfold replay in refl
reached_replay (more {r} before p e) = rw (reverse-cons, replay_last, reached_replay before, did_enter r p e)

-- ---- What holds of a reached recording

-- as many undos as there were repairs, or more, give back the raw one
reached_undone : {raw : State} {kept : List Repair} {s : State} (k : ℕ) → length kept ≤ k → Reached raw kept s
    → run (replicate k undo) s ≡ raw
reached_undone zero h (none sound empty) = unfold run in refl
reached_undone zero h (more before p e) = absurd (omega arith)
reached_undone {raw} (suc k) h (none sound empty) =
    rw (run_call, did_undo_none raw empty) (reached_undone k (omega arith) (none sound empty))
reached_undone {raw = raw} (suc k) h (more {r = r} {kept = kept} {s = s} {mark = mark} {cs = cs} before p e) =
    rw (run_call, did_undo_more before e) (reached_undone {kept = kept} k (omega arith) before)

-- a sample whose mark is none that a repair sets has its raw word and its raw mark
reached_unmade : (i : ℕ) {raw : State} {kept : List Repair} {s : State} → Reached raw kept s
    → made (get_or s.marks i 0) ≡ false → SameAt i s raw
reached_unmade i (none sound empty) h = (refl, refl)
reached_unmade i (more before p e) h =
    let step = after_unmade e i h in
    let earlier = reached_unmade i before (rw step.1 at h) in
    (step.0 ∙ earlier.0, step.1 ∙ earlier.1)

-- the survivors are accepted again, and each names a sample; one more may follow
all_name_last : (rs : List Repair) (r : Repair) (s : State) → AllName rs s
    → (m : ℕ) × ((did (repair r) (replay rs s)).answer ≡ Ok (suc m)) → AllName (rs ++ (r ∷ [])) s
unfolding replay run
all_name_last [] r s all last = (last, tt)
all_name_last (q ∷ rs) r s all last = (all.0, all_name_last rs r (did (repair q) s).after all.1 last)

reached_names : {raw : State} {kept : List Repair} {s : State} → Reached raw kept s → AllName (reverse kept) raw
reached_names (none sound empty) = tt
reached_names {raw} (more {r} {kept} {s} {mark} {cs} before p e) =
    rw reverse-cons (all_name_last (reverse kept) r raw (reached_names before) (rw (reached_replay before) (named cs p e)))
  where
    named : (cs : List Placed) → r s.samples ≡ change mark cs → Enters s mark cs
        → (m : ℕ) × ((did (repair r) s).answer ≡ Ok (suc m))
    named [] p e = absurd (omega (arith, e.some))
    named (c ∷ cs) p e = (length cs, ap (λ (end : Ended). end.answer) (did_enter r p e))

-- what one repair returns and sets, and what one repair more does
abbrev closing : Repair → State → Closing
closing r s = record { count = value (did (repair r) s).answer; mark = mark_of (r s.samples) }

returned_last : (rs : List Repair) (r : Repair) (s : State)
    → returned (rs ++ (r ∷ [])) s ≡ returned rs s ++ (closing r (replay rs s) ∷ [])
unfolding returned replay run
returned_last [] r s = refl
returned_last (q ∷ rs) r s =
    ap (λ (ds : List Closing). closing q s ∷ ds) (returned_last rs r (did (repair q) s).after)

-- the last entry, read from a journal that is below used as after the commit
closings_last : (n : ℕ) (j : List ℕ) {s : State} {mark : ℕ} {cs : List Placed} → Enters s mark cs
    → ((i : ℕ) → i < (committed s mark cs).used → get_or j i 0 ≡ get_or (committed s mark cs).journal i 0)
    → closings (suc n) j (committed s mark cs).used
    ≡ record { count = length cs; mark = mark } ∷ closings n j s.used
unfolding closings
closings_last n j {s} {mark} {cs} e agree =
    let used = after_used s mark cs in
    let count : get_or j ((committed s mark cs).used - 2) 0 ≡ length cs = agree _ (omega arith) ∙ last-count e in
    let set : get_or j ((committed s mark cs).used - 1) 0 ≡ mark = agree _ (omega arith) ∙ last-mark e in
    rw (count, set, last_begin e)

-- the entries, so read, end in what the repairs returned and in the marks that they set
reached_closings : {raw : State} {kept : List Repair} {s : State} (j : List ℕ) → Reached raw kept s
    → ((i : ℕ) → i < s.used → get_or j i 0 ≡ get_or s.journal i 0)
    → closings (length kept) j s.used ≡ reverse (returned (reverse kept) raw)
reached_closings j (none sound empty) agree = unfold closings returned in refl
reached_closings j (more {r} {kept} {s} {mark} {cs} before p e) agree =
    rw (reverse-cons, returned_last, reached_replay before, did_enter r p e, p, reverse-append)
    (closings_last (length kept) j e agree
    ∙ ap (λ (ds : List Closing). record { count = length cs; mark = mark } ∷ ds) (reached_closings j before earlier))
  where
    earlier : (i : ℕ) → i < s.used → get_or j i 0 ≡ get_or s.journal i 0
    earlier i h = let used = after_used s mark cs in agree i (omega arith) ∙ after_earlier s mark cs i h

-- ---- A freshly opened recording

-- an accepted opening makes one
pub opening_is_fresh : OpeningIsFresh
unfolding opened_with
opening_is_fresh marks s h = go (alike s) refl
  where
    go : (a : Answer) → alike s ≡ a → (opened_with marks s).after ≡ fresh s.samples marks (length s.journal)
    go (Ok m) e = rw e
    go (Err why) e = let no-done : Err why ≡ Ok 0 = rw e at h in cc

-- whose marks are bytes
pub zeros_are_bytes : (n : ℕ) → Bytes (replicate n 0)
zeros_are_bytes n i = rw all_zero (omega arith)

-- a mark that was kept says measured or not received
pub kept_or_measured : RawMarks
kept_or_measured [] i = inl refl
kept_or_measured (k ∷ marks) zero = picks_by (λ m. (m ≡ measured) ⊎ (m ≡ not_received)) (eqb k not_received) _ _ (λ h. inr refl) (λ h. inl refl)
kept_or_measured (k ∷ marks) (suc i) = kept_or_measured marks i

pub kept_are_bytes : (marks : List ℕ) → Bytes (map kept_mark marks)
kept_are_bytes marks i = elim (kept_or_measured marks i) [ inl h ↦ omega arith | inr h ↦ omega arith ]

-- after any calls it is one that the survivors reach
reached : AfterAny (λ raw cs. Reached raw (survivors_over [] cs raw) (run cs raw))
reached words marks room cs bytes l =
    reached_run cs l (none (record { within = omega arith; free = λ i h. all_zero room i; bytes = bytes; counts = refl }) refl)

-- ---- The demand

pub demand_3 : Demand3
unfolding survivors
demand_3 words marks room cs bytes l = sym (reached_replay (reached words marks room cs bytes l))

-- ---- What follows

pub survivors_stand : SurvivorsStand
unfolding survivors
survivors_stand words marks room cs bytes l = reached_names (reached words marks room cs bytes l)

pub undo_takes_back_the_last : UndoTakesBackTheLast
undo_takes_back_the_last words marks room cs bytes l r m keeps accepted = go (ending s (r s.samples) (keeps s.samples))
  where
    s : State
    s = run cs (fresh words marks room)

    -- what its plan comes to is its answer
    told : (e : Ended) → performed s (r s.samples) ≡ e → e.answer ≡ Ok (suc m)
    told e ends = ap (λ (end : Ended). end.answer) (sym (did_repair r s ∙ ends)) ∙ accepted

    go : Ending s (r s.samples) → (did undo (did (repair r) s).after).after ≡ s
    go (unnamed mark p e) = absurd (omega (arith, ap value (told _ e)))
    go (turned_away why e) = let never : Err why ≡ Ok (suc m) = told _ e in cc
    go (enters mark ps p e) =
        rw (did_enter r p e) (ap (λ (end : Ended). end.after) (did_undo_more (reached words marks room cs bytes l) e))

pub undoing_all : UndoingAll
unfolding survivors
undoing_all words marks room cs bytes l k h =
    reached_undone k (rw length-reverse at h) (reached words marks room cs bytes l)

pub unmade_is_raw : UnmadeIsRaw
unmade_is_raw words marks room cs bytes l i h = reached_unmade i (reached words marks room cs bytes l) h

pub measured_is_raw : MeasuredIsRaw
measured_is_raw words marks room cs bytes l i h =
    let same = unmade_is_raw words marks room cs bytes l i (rw h) in
    (same.0, sym same.1 ∙ h)

pub free_is_zero : FreeIsZero
free_is_zero words marks room cs bytes l =
    let sound = reached_sound (reached words marks room cs bytes l) in
    (sound.within, sound.free)

pub counts_are_worked_out : CountsAreWorkedOut
counts_are_worked_out words marks room cs bytes l = (reached_sound (reached words marks room cs bytes l)).counts

pub entries_are_survivors : EntriesAreSurvivors
unfolding survivors
entries_are_survivors words marks room cs bytes l =
    rw length-reverse (reached_closings _ (reached words marks room cs bytes l) (λ i h. refl))
