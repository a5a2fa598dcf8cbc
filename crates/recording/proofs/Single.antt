-- Every call, on any recording, as the first part of specs/Consequences.antt states it: a refusal changes nothing, and an accepted repair
-- makes what its rule says. Assumes nothing.
use mathlib.Core.Path.{◌≡◌, refl, sym, ap, ◌∙◌}
use mathlib.Core.List.{List, []}
use Prim.Native.Nat.{ℕ, ◌-◌, ◌<◌}
use native.Mathlib.Omega.{arith}
use lib.ListN.{length}
use lib.Dec.{eqb, ltb}
use Rattle.recording.specs.Answers.{number, reason_number}
use Rattle.recording.specs.Recording.{State, Ended, ended, refused, unless_refused, Placed, put, committed, Plan, refuse, change}
use Rattle.recording.specs.Recording.{fitting, ranged, entry_size, entered, carried, performed, called, malformed, undone}
use Rattle.recording.specs.History.{Call, repair, undo, did}
use Rattle.recording.specs.Consequences.{RefusalChangesNothing, MadeOf, AcceptedAsRuled}
use Rattle.recording.specs.declared.Reason.{Reason}
use Rattle.recording.specs.declared.Reason.TheVariants.{Counts, TooMany, Used, Setting, Gap, Workspace, Read}
use Rattle.recording.specs.declared.Reason.TheVariants.{Result, Room, Nothing, Malformed, Frames, Pieces, Blocks, Proposal, Version, Stored}
use Rattle.recording.specs.declared.Reason.TheVariants.{Wave, Coding, Output}
use Rattle.recording.specs.Answer.{Answer}
use Rattle.std.specs.Prelude.{Ok, Err}
use Rattle.leaves.proofs.Choice.{picks}
use Rattle.recording.proofs.Entering.{Enters, Ending, unnamed, turned_away, enters, ending, enters_ends}
use Rattle.recording.proofs.Entering.{after_elsewhere, after_named}
use Rattle.recording.proofs.History.{did_repair}

-- ---- A refusal changes nothing

-- a call ends accepted, or with the recording that it began with
pub record Keeps (s : State) (e : Ended) : Type 0 where
  pub keeps : 0 < number e.answer → e.after ≡ s

refused_keeps : (s : State) (why : Reason) → Keeps s (refused s why)
refused_keeps s why = record { keeps = λ h. refl }

done_keeps : (m : ℕ) (s t : State) → Keeps s (ended (Ok m) t)
done_keeps m s t = record { keeps = λ h. absurd (omega arith) }

unless_keeps : (a : Answer) (s : State) (rest : Ended) → Keeps s rest → Keeps s (unless_refused a s rest)
unless_keeps (Ok m) s rest h = h
unless_keeps (Err why) s rest h = refused_keeps s why

entered_keeps : (s : State) (mark : ℕ) (cs : List Placed) → Keeps s (entered s mark cs)
unfolding entered
entered_keeps s mark cs =
    picks (Keeps s) (eqb (length cs) 0) _ _ (done_keeps 0 s s)
    (picks (Keeps s) (ltb (length s.journal - s.used) (entry_size (length cs))) _ _ (refused_keeps s _) (done_keeps _ s _))

carried_keeps : (s : State) (p : Plan) → Keeps s (carried s p)
unfolding carried
carried_keeps s (refuse why) = refused_keeps s why
carried_keeps s (change mark cs) = unless_keeps (ranged cs) s (entered s mark cs) (entered_keeps s mark cs)

pub did_keeps : (c : Call) (s : State) → Keeps s (did c s)
unfolding did called performed undone
did_keeps (repair r) s = unless_keeps (fitting s) s _ (carried_keeps s (r s.samples))
did_keeps undo s =
    unless_keeps (fitting s) s _
    (picks (Keeps s) (eqb s.used 0) _ _ (refused_keeps s _)
    (picks (Keeps s) (malformed (length s.samples) s.journal s.used) _ _ (refused_keeps s _) (done_keeps _ s _)))

-- a reason's number is not 0
pub above_zero : (why : Reason) → 0 < reason_number why
above_zero why = elim why as (λ v. 0 < reason_number v) [
  | Counts ↦ omega arith
  | TooMany ↦ omega arith
  | Used ↦ omega arith
  | Setting ↦ omega arith
  | Gap ↦ omega arith
  | Workspace ↦ omega arith
  | Read place ↦ omega arith
  | Result place ↦ omega arith
  | Room ↦ omega arith
  | Nothing ↦ omega arith
  | Malformed ↦ omega arith
  | Frames ↦ omega arith
  | Pieces ↦ omega arith
  | Blocks ↦ omega arith
  | Proposal place ↦ omega arith
  | Version ↦ omega arith
  | Stored ↦ omega arith
  | Wave ↦ omega arith
  | Coding ↦ omega arith
  | Output ↦ omega arith
]

pub refusal_changes_nothing : RefusalChangesNothing
refusal_changes_nothing c s why h = (did_keeps c s).keeps (rw h (above_zero why))

-- ---- An accepted repair

-- one that names nothing, and one that is entered
made_of_none : (mark : ℕ) (s : State) → MadeOf mark [] s s
unfolding put
made_of_none mark s = record { words = refl; named = λ i a. absurd a; others = λ i f. (refl, refl) }

made_of_some : {s : State} {mark : ℕ} {cs : List Placed} → Enters s mark cs → MadeOf mark cs s (committed s mark cs)
made_of_some {s} {mark} {cs} e =
    record { words = unfold committed in refl; named = after_named e; others = after_elsewhere s mark cs }

pub accepted_as_ruled : AcceptedAsRuled
accepted_as_ruled r s mark cs m l p h = go (ending s (r s.samples) (l s.samples))
  where
    made : (k : ℕ) (ds : List Placed) (t : State) → r s.samples ≡ change k ds → performed s (r s.samples) ≡ ended (Ok (length ds)) t
        → MadeOf k ds s t → MadeOf mark cs s (did (repair r) s).after × (m ≡ length cs)
    made k ds t q e all =
        let ends : did (repair r) s ≡ ended (Ok (length ds)) t = did_repair r s ∙ e in
        let same : change k ds ≡ change mark cs = sym q ∙ p in
        let marks : k ≡ mark = cc in
        let named : ds ≡ cs = cc in
        let answers : Ok (length ds) ≡ Ok m = rw ends at h in
        let counts : m ≡ length ds = cc in
        (rw (ends, ← marks, ← named) all, counts ∙ ap length named)

    go : Ending s (r s.samples) → MadeOf mark cs s (did (repair r) s).after × (m ≡ length cs)
    go (unnamed k q e) = made k [] s q e (made_of_none k s)
    go (turned_away why e) =
        let ends : did (repair r) s ≡ ended (Err why) s = did_repair r s ∙ e in
        let never : Err why ≡ Ok m = rw ends at h in
        absurd (omega (arith, ap number never, above_zero why))
    go (enters k ds q e) = made k ds (committed s k ds) q (ap (performed s) q ∙ enters_ends e) (made_of_some e)
