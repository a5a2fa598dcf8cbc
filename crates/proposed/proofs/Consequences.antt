-- What follows from the rule of a proposal, as specs/Consequences.antt states it: the repair is lawful, a proposal is taken exactly where each
-- sample is answered, and what stands at each sample after an accepted one. Assumes nothing.
use mathlib.Core.Path.{◌≡◌, refl, sym, ap, subst, ◌∙◌}
use mathlib.Core.Bool.{Bool, true, false, not}
use mathlib.Core.List.{List, [], ◌∷◌, ◌++◌, map}
use mathlib.Core.Logic.{inl, inr}
use Prim.Native.Nat.{ℕ, zero, suc, ◌+◌, ◌<◌}
use native.Mathlib.Omega.{arith}
use native.Mathlib.Nat.{zero-add, add-zero}
use borrow.Author.Tests.{eq-eqb}
use lib.Ieee.{Float}
use lib.ListN.{length, get_or, length-append}
use lib.Seq.{set_at, append_snoc}
use Rattle.std.specs.Prelude.{if◌then◌else◌}
use Rattle.leaves.specs.Arithmetic.{float}
use Rattle.leaves.proofs.Choice.{EitherWay, truth, picks}
use Rattle.recording.specs.Recording.{State, Ended, Placed, put, picked, readable, unless_read, Plan, change}
use Rattle.recording.specs.Marks.{declip_proposed}
use Rattle.recording.specs.History.{Keeps, did}
use Rattle.recording.specs.Consequences.{Among, MadeOf}
use Rattle.recording.proofs.Performing.{unless_kept}
use Rattle.recording.proofs.Single.{accepted_as_ruled}
use Rattle.recording.specs.declared.Reason.TheVariants.{Proposal}
use Rattle.recording.specs.Answer.{Answer}
use Rattle.std.specs.Prelude.{Ok, Err}
use Rattle.redraw.proofs.Ending.{done_not_refused}
use Rattle.declip.specs.Declip.{allowed, clipped}
use Rattle.proposed.specs.Proposed.{answers, answered, taken, named, proposed_plan, proposed_repair}
use Rattle.proposed.specs.Inner.{checked, clipped_places}
use Rattle.proposed.specs.Consequences.{ProposedIsLawful, AnswersEach, TakenExactlyWhen, ResultsAreInRange, SamplesAreTheProposal}
use Rattle.proposed.specs.Consequences.{SameSide, EachSampleStands}
use Rattle.proposed.proofs.Laws.{bits_kept, above_answered, below_answered, clipped_side, clipped_answered, places_named, named_ascends}
use Rattle.proposed.proofs.Laws.{taken_length, taken_zero, taken_ranged, accepts, ends_refused}

-- ---- Demand 3

-- a refusal decides between plans that keep to the law, where the one that is accepted does
accepted_kept : (n : ℕ) (a : Answer) (p : Plan) → ((m : ℕ) → a ≡ Ok m → Keeps n p) → Keeps n (unless_read a p)
accepted_kept n (Ok m) p kept = kept m refl
accepted_kept n (Err why) p kept = tt

pub proposed_is_lawful : ProposedIsLawful
unfolding proposed_plan
proposed_is_lawful threshold proposal samples =
    picks (Keeps n) (not (allowed threshold)) _ _ tt
    (unless_kept n (readable 0 samples) _
    (accepted_kept n (taken threshold samples proposal) _
    (λ m done. (refl, named_ascends threshold samples proposal (taken_length threshold samples proposal m done)))))
  where
    n : ℕ
    n = length samples

-- ---- "accepted exactly when"

-- every sample is answered where the test of all of them accepts, and the other way round
each_answered : (threshold : Float) (j : ℕ) (ws ps : List ℕ) → length ps ≡ length ws → answered threshold j ws ps ≡ Ok 0
    → (i : ℕ) → i < length ws → answers threshold (get_or ws i 0) (get_or ps i 0) ≡ true
unfolding answered
each_answered threshold j [] ps same h i k = absurd (omega arith)
each_answered threshold j (w ∷ ws) [] same h i k = absurd (omega arith)
each_answered threshold j (w ∷ ws) (p ∷ ps) same h i k =
    elim (truth (answers threshold w p)) [
      | inr wrong ↦ absurd (done_not_refused 0 (Proposal j) (sym (rw wrong at h)))
      | inl right ↦ at_place right (each_answered threshold (j + 1) ws ps (omega arith) (rw right at h)) i k
    ]
  where
    at_place : answers threshold w p ≡ true → ((i : ℕ) → i < length ws → answers threshold (get_or ws i 0) (get_or ps i 0) ≡ true)
        → (i : ℕ) → i < suc (length ws) → answers threshold (get_or (w ∷ ws) i 0) (get_or (p ∷ ps) i 0) ≡ true
    at_place right later zero k = right
    at_place right later (suc i) k = later i (omega arith)

all_answered : (threshold : Float) (j : ℕ) (ws ps : List ℕ) → length ps ≡ length ws
    → ((i : ℕ) → i < length ws → answers threshold (get_or ws i 0) (get_or ps i 0) ≡ true)
    → answered threshold j ws ps ≡ Ok 0
unfolding answered
all_answered threshold j [] ps same each = refl
all_answered threshold j (w ∷ ws) [] same each = refl
all_answered threshold j (w ∷ ws) (p ∷ ps) same each =
    let here : answers threshold w p ≡ true = each 0 (omega arith) in
    rw here (all_answered threshold (j + 1) ws ps (omega arith) (λ i k. each (suc i) (omega arith)))

pub taken_exactly_when : TakenExactlyWhen
unfolding taken
taken_exactly_when threshold samples proposal = (forth, back)
  where
    forth : taken threshold samples proposal ≡ Ok 0 → AnswersEach threshold samples proposal
    forth h =
        let same = taken_length threshold samples proposal 0 h in
        (same, each_answered threshold 0 samples proposal same (taken_zero threshold samples proposal 0 h))

    back : AnswersEach threshold samples proposal → taken threshold samples proposal ≡ Ok 0
    back h = rw (eq-eqb _ _ h.0) (all_answered threshold 0 samples proposal h.0 h.1)

pub results_are_in_range : ResultsAreInRange
results_are_in_range threshold samples proposal h = taken_ranged threshold samples proposal 0 h

-- ---- After an accepted proposal

-- with the words before place i passed, the named words make of the others the proposal
put_from : (threshold : Float) (i : ℕ) (front ws ps : List ℕ) → length front ≡ i → length ps ≡ length ws → answered threshold i ws ps ≡ Ok 0
    → put (picked i (map (clipped threshold) ws) ps) (front ++ ws) ≡ front ++ ps
unfolding answered picked put
put_from threshold i front [] [] count same h = refl
put_from threshold i front [] (p ∷ ps) count same h = absurd (omega arith)
put_from threshold i front (w ∷ ws) [] count same h = absurd (omega arith)
put_from threshold i front (w ∷ ws) (p ∷ ps) count same h =
    elim (truth (answers threshold w p)) [
      | inr wrong ↦ absurd (done_not_refused 0 (Proposal i) (sym (rw wrong at h)))
      | inl right ↦ one right
          (put_from threshold (i + 1) (front ++ (p ∷ [])) ws ps (simp length-append (omega arith)) (omega arith) (rw right at h))
          (truth (clipped threshold w))
    ]
  where
    later : List Placed
    later = picked (i + 1) (map (clipped threshold) ws) ps

    one : answers threshold w p ≡ true → put later ((front ++ (p ∷ [])) ++ ws) ≡ (front ++ (p ∷ [])) ++ ps → EitherWay (clipped threshold w)
        → put (picked i (map (clipped threshold) (w ∷ ws)) (p ∷ ps)) (front ++ w ∷ ws) ≡ front ++ p ∷ ps
    one right passed (inl beyond) =
        ap (λ (b : Bool). put (if b then record { place = i; value = p } ∷ later else later) (front ++ w ∷ ws)) beyond
        ∙ ap (put later) (set_at front w ws p i count)
        ∙ (rw (append_snoc front p ws, append_snoc front p ps) at passed)
    one right passed (inr under) =
        rw (under, ← bits_kept threshold w p right under) (rw (append_snoc front p ws, append_snoc front p ps) at passed)

-- what an acceptance tells: the proposal is taken, and this is the plan
record Taken (threshold : Float) (proposal samples : List ℕ) : Type 0 where
  is_taken : answered threshold 0 samples proposal ≡ Ok 0
  as_long : length proposal ≡ length samples
  plan : proposed_plan threshold proposal samples ≡ change declip_proposed (named threshold samples proposal)

accepted_taken : (threshold : Float) (proposal : List ℕ) (s : State) (m : ℕ) → (proposed_repair threshold proposal s).answer ≡ Ok m
    → Taken threshold proposal s.samples
accepted_taken threshold proposal s m h = go (checked threshold proposal s) refl
  where
    go : (a : Answer) → checked threshold proposal s ≡ a → Taken threshold proposal s.samples
    go (Err why) e =
        let end = ends_refused threshold proposal s (Err why) why (sym e) refl in
        absurd (done_not_refused m why (sym h ∙ sym (ap (λ (x : Ended). x.answer) end)))
    go (Ok k) e =
        let all = accepts threshold proposal s k e in
        let done = all.takes.1 in
        record {
          is_taken = taken_zero threshold s.samples proposal all.takes.0 done;
          as_long = taken_length threshold s.samples proposal all.takes.0 done;
          plan = unfold proposed_plan in all.plans;
        }

-- so the words and marks are as the plan makes them
accepted_made : (threshold : Float) (proposal : List ℕ) (s : State) (m : ℕ) → (proposed_repair threshold proposal s).answer ≡ Ok m
    → MadeOf declip_proposed (named threshold s.samples proposal) s (proposed_repair threshold proposal s).after
unfolding proposed_repair did
accepted_made threshold proposal s m h =
    (accepted_as_ruled (proposed_plan threshold proposal) s declip_proposed (named threshold s.samples proposal) m
    (proposed_is_lawful threshold proposal) (accepted_taken threshold proposal s m h).plan h).0

pub samples_are_the_proposal : SamplesAreTheProposal
samples_are_the_proposal threshold proposal s m h =
    let t = accepted_taken threshold proposal s m h in
    (accepted_made threshold proposal s m h).words
    ∙ unfold named in put_from threshold 0 [] s.samples proposal refl t.as_long t.is_taken

-- a place is among those of the clipped samples exactly where its sample is clipped
clipped_among : (threshold : Float) (j : ℕ) (ws : List ℕ) (i : ℕ) → i < length ws → clipped threshold (get_or ws i 0) ≡ true
    → Among (j + i) (clipped_places threshold j ws)
unfolding clipped_places
clipped_among threshold j [] i k h = absurd (omega arith)
clipped_among threshold j (w ∷ ws) zero k h = rw (h, add-zero j) (inl refl)
clipped_among threshold j (w ∷ ws) (suc i) k h =
    let next : j + suc i ≡ j + 1 + i = omega arith in
    let later = clipped_among threshold (j + 1) ws i (omega arith) h in
    rw next (elim (truth (clipped threshold w)) [ inl beyond ↦ rw beyond (inr later) | inr under ↦ rw under later ])

-- it is neither the first nor one of the others
not_first : (i j : ℕ) (js : List ℕ) → (i ≡ j → ⊥) → (Among i js → ⊥) → Among i (j ∷ js) → ⊥
not_first i j js other later (inl e) = other e
not_first i j js other later (inr a) = later a

none_before : (threshold : Float) (i j : ℕ) (ws : List ℕ) → i < j → Among i (clipped_places threshold j ws) → ⊥
unfolding clipped_places
none_before threshold i j [] h a = a
none_before threshold i j (w ∷ ws) h a =
    let later = none_before threshold i (j + 1) ws (omega arith) in
    elim (truth (clipped threshold w)) [
      | inl beyond ↦ not_first i j (clipped_places threshold (j + 1) ws) (λ e. omega arith) later (rw beyond at a)
      | inr under ↦ later (rw under at a)
    ]

under_not_among : (threshold : Float) (j : ℕ) (ws : List ℕ) (i : ℕ) → i < length ws → clipped threshold (get_or ws i 0) ≡ false
    → Among (j + i) (clipped_places threshold j ws) → ⊥
unfolding clipped_places
under_not_among threshold j [] i k h a = absurd (omega arith)
under_not_among threshold j (w ∷ ws) zero k h a = none_before threshold j (j + 1) ws (omega arith) (rw (h, add-zero j) at a)
under_not_among threshold j (w ∷ ws) (suc i) k h a =
    let next : j + suc i ≡ j + 1 + i = omega arith in
    let later = under_not_among threshold (j + 1) ws i (omega arith) h in
    let there : Among (j + 1 + i) (clipped_places threshold j (w ∷ ws)) = subst (λ x. Among x (clipped_places threshold j (w ∷ ws))) next a in
    elim (truth (clipped threshold w)) [
      | inl beyond ↦ not_first (j + 1 + i) j (clipped_places threshold (j + 1) ws) (λ e. omega arith) later (rw beyond at there)
      | inr under ↦ later (rw under at there)
    ]

-- the side that a sample is on is that of its answer
same_side : (threshold : Float) (w p : ℕ) → answers threshold w p ≡ true → clipped threshold w ≡ true → SameSide threshold (float w) (float p)
same_side threshold w p right beyond =
    elim (clipped_side threshold w p beyond) [
      | inl above ↦ inl (above, (above_answered threshold w p right above).1)
      | inr below ↦ inr (below, (below_answered threshold w p right below).1)
    ]

pub each_sample_stands : EachSampleStands
each_sample_stands threshold proposal s m h i k =
    let t = accepted_taken threshold proposal s m h in
    let made = accepted_made threshold proposal s m h in
    let words = samples_are_the_proposal threshold proposal s m h in
    let places = places_named threshold s.samples proposal t.as_long in
    let right = each_answered threshold 0 s.samples proposal t.as_long t.is_taken i k in
    record {
      under = λ under.
          let apart = made.others i (λ a. under_not_among threshold 0 s.samples i k under (rw zero-add (rw places at a))) in
          (apart.0, apart.1);
      beyond = λ beyond. (
        rw words (clipped_answered threshold _ _ right beyond),
        rw words (same_side threshold _ _ right beyond),
        made.named i (rw places (rw zero-add at (clipped_among threshold 0 s.samples i k beyond))),
      );
    }
