-- A proposal: the words that answer a sample, the clipped samples place by place, and how the call ends. Assumes nothing.
use mathlib.Core.Path.{◌≡◌, refl, sym, ap, ◌∙◌}
use mathlib.Core.Bool.{Bool, true, false, not, ◌&&◌, ◌||◌}
use mathlib.Core.List.{List, [], ◌∷◌, map}
use mathlib.Core.Logic.{◌⊎◌, inl, inr}
use Prim.Native.Nat.{ℕ, ◌+◌, ◌-◌, ◌≤◌, ◌<◌}
use native.Mathlib.Omega.{arith}
use native.Mathlib.Numerals.{add-one}
use borrow.Author.Tests.{eq-eqb, ne_eqb, eqb-true}
use lib.Dec.{eqb}
use lib.Ieee.{Float, binary32, of_bits, le, neg}
use lib.ListN.{length, get_or, set, drop, drop_of_length-le}
use lib.Seq.{sets, drop-cons, drop-set-lt}
use Rattle.std.specs.Prelude.{if◌then◌else◌}
use Rattle.leaves.specs.Arithmetic.{float}
use Rattle.leaves.specs.Floats.{in_range}
use Rattle.leaves.proofs.Choice.{EitherWay, truth, both_hold}
use Rattle.leaves.proofs.Comparing.{beyond_side}
use Rattle.recording.specs.Recording.{State, Ended, ended, fitting, or_else, unless_refused, unless_read, readable, ranged, Placed, places, put, each}
use Rattle.recording.specs.Recording.{picked, saved, three_words, entry_size, Plan, refuse, change, entered, carried, performed, called}
use Rattle.recording.specs.Marks.{declip_proposed}
use Rattle.recording.specs.History.{Ascending}
use Rattle.recording.specs.Inner.{Fits, Recountable}
use Rattle.recording.specs.declared.Reason.{Reason}
use Rattle.recording.specs.declared.Reason.TheVariants.{Setting, Proposal}
use Rattle.recording.specs.Answer.{Answer}
use Rattle.std.specs.Prelude.{Ok, Err}
use Rattle.recording.proofs.Put.{length_places}
use Rattle.recording.proofs.open.Laws.{accepted_fits}
use Rattle.recording.proofs.Performing.{picked_ascends}
use Rattle.recording.proofs.commit.Laws.{named_recountable, carried_on}
use Rattle.redraw.proofs.Ending.{done_not_refused}
use Rattle.declip.specs.Declip.{allowed, clipped}
use Rattle.proposed.specs.Proposed.{keeps_bits, answered_above, answered_below, answers, answered, taken, named, proposed_plan, proposed_repair}
use Rattle.proposed.specs.Inner.{checked, clipped_places}

-- ---- One sample, and the word that answers it

-- A sample on a side, and whether its answer is in range and there, too: what the rule asks of both sides alike, by any test of a side.
module _ (side : Float → Bool) (w p : ℕ) (x : Float) (ex : x ≡ of_bits binary32 w) where
  abbrev Asked : Bool → Type 0
  Asked b = b ≡ not (side (float w)) || (in_range p && side (float p))

  pub side_not : side x ≡ false → Asked true
  unfolding float
  side_not h = rw (← ex, h) refl

  module _ (b : Bool) (eb : b ≡ in_range p) (h : side x ≡ true) where
    pub side_out : b ≡ false → Asked false
    unfolding float
    side_out k = rw (← ex, ← eb, h, k) refl

    pub side_in : (y : Float) → y ≡ of_bits binary32 p → b ≡ true → Asked (side y)
    unfolding float
    side_in y ey k = rw (← ex, ← ey, ← eb, h, k) refl

module _ (threshold : Float) (w p : ℕ) where
  -- by the three tests, one after the other
  pub answers_bits : (a : Bool) → a ≡ keeps_bits threshold w p → a ≡ false → false ≡ answers threshold w p
  unfolding answers
  answers_bits a ea h = rw (sym ea ∙ h) refl

  module _ (a : Bool) (ea : a ≡ keeps_bits threshold w p) (ha : a ≡ true) where
    pub answers_above : (b : Bool) → b ≡ answered_above threshold w p → b ≡ false → false ≡ answers threshold w p
    unfolding answers
    answers_above b eb h = rw (sym ea ∙ ha, sym eb ∙ h) refl

    pub answers_below : (b c : Bool) → b ≡ answered_above threshold w p → b ≡ true → c ≡ answered_below threshold w p → c ≡ answers threshold w p
    unfolding answers
    answers_below b c eb hb ec = rw (sym ea ∙ ha, sym eb ∙ hb) ec

  -- what a word that answers keeps to
  module _ (h : answers threshold w p ≡ true) where
    all_three : (keeps_bits threshold w p ≡ true) × (answered_above threshold w p ≡ true) × (answered_below threshold w p ≡ true)
    unfolding answers
    all_three =
        let last = both_hold (keeps_bits threshold w p && answered_above threshold w p) (answered_below threshold w p) h in
        let two = both_hold (keeps_bits threshold w p) (answered_above threshold w p) last.0 in
        (two.0, two.1, last.1)

    -- where a test does not apply the other holds
    implied : (a b : Bool) → not a || b ≡ true → a ≡ true → b ≡ true
    implied true b e t = e
    implied false b e t = let none : ◌≡◌ {A = Bool} true false = cc in cc

    pub bits_kept : clipped threshold w ≡ false → p ≡ w
    bits_kept under = eqb-true p w (rw under at all_three.0)

    pub above_answered : le threshold (float w) ≡ true → (in_range p ≡ true) × (le threshold (float p) ≡ true)
    above_answered above = both_hold _ _ (implied (le threshold (float w)) _ all_three.1 above)

    pub below_answered : le (float w) (neg threshold) ≡ true → (in_range p ≡ true) × (le (float p) (neg threshold) ≡ true)
    below_answered below = both_hold _ _ (implied (le (float w) (neg threshold)) _ all_three.2 below)

  -- a clipped sample is on one side
  pub clipped_side : clipped threshold w ≡ true → (le threshold (float w) ≡ true) ⊎ (le (float w) (neg threshold) ≡ true)
  unfolding clipped
  clipped_side h = beyond_side threshold (float w) h

  -- so its answer is in range
  pub clipped_answered : answers threshold w p ≡ true → clipped threshold w ≡ true → in_range p ≡ true
  clipped_answered h beyond =
      elim (clipped_side beyond) [ inl above ↦ (above_answered h above).0 | inr below ↦ (below_answered h below).0 ]

-- ---- The test of a proposal

module _ (threshold : Float) (samples proposal : List ℕ) where
  -- what is left of it, from place i on
  abbrev pub rest_answered : ℕ → Answer
  rest_answered i = answered threshold i (drop i samples) (drop i proposal)

  pub taken_short : (length proposal ≡ length samples → ⊥) → Err (Proposal 0) ≡ taken threshold samples proposal
  unfolding taken
  taken_short h = rw (ne_eqb _ _ h) refl

  module _ (same : length proposal ≡ length samples) where
    pub taken_all : rest_answered 0 ≡ taken threshold samples proposal
    unfolding taken
    taken_all = rw (eq-eqb _ _ same) refl

    -- one turn, the place that breaks the rule, and the end
    module _ (i : ℕ) (h : i < length samples) where
      pub answered_more : answers threshold (get_or samples i 0) (get_or proposal i 0) ≡ true → rest_answered i ≡ rest_answered (i + 1)
      unfolding answered
      answered_more e =
          let there : i < length proposal = omega arith in
          rw (drop-cons samples i 0, drop-cons proposal i 0, e, add-one i) refl

      pub answered_out : answers threshold (get_or samples i 0) (get_or proposal i 0) ≡ false → rest_answered i ≡ Err (Proposal i)
      unfolding answered
      answered_out e =
          let there : i < length proposal = omega arith in
          rw (drop-cons samples i 0, drop-cons proposal i 0, e) refl

    pub answered_done : (i : ℕ) → length samples ≤ i → rest_answered i ≡ Ok 0
    unfolding answered
    answered_done i h = rw (drop_of_length-le samples h) refl

-- ---- The clipped samples, place by place

module _ (threshold : Float) (samples : List ℕ) where
  -- their places from place i on
  abbrev pub rest_clipped : ℕ → List ℕ
  rest_clipped i = clipped_places threshold i (drop i samples)

  pub clip_end : (i : ℕ) → length samples ≤ i → rest_clipped i ≡ []
  unfolding clipped_places
  clip_end i h = rw (drop_of_length-le samples h) refl

  module _ (i : ℕ) (h : i < length samples) where
    pub clip_none : clipped threshold (get_or samples i 0) ≡ false → rest_clipped i ≡ rest_clipped (i + 1)
    unfolding clipped_places
    clip_none e = rw (drop-cons samples i 0, e, add-one i) refl

    pub clip_one : clipped threshold (get_or samples i 0) ≡ true → rest_clipped i ≡ i ∷ rest_clipped (i + 1)
    unfolding clipped_places
    clip_one e = rw (drop-cons samples i 0, e, add-one i) refl

  -- with the proposal's words
  module _ (proposal : List ℕ) where
    abbrev pub rest_named : ℕ → List Placed
    rest_named i = picked i (map (clipped threshold) (drop i samples)) (drop i proposal)

    pub named_all : rest_named 0 ≡ named threshold samples proposal
    unfolding named
    named_all = refl

    pub named_end : (i : ℕ) → length samples ≤ i → rest_named i ≡ []
    unfolding picked
    named_end i h = rw (drop_of_length-le samples h) refl

    module _ (same : length proposal ≡ length samples) (i : ℕ) (h : i < length samples) where
      pub named_none : clipped threshold (get_or samples i 0) ≡ false → rest_named i ≡ rest_named (i + 1)
      unfolding picked
      named_none e =
          let there : i < length proposal = omega arith in
          rw (drop-cons samples i 0, drop-cons proposal i 0, e, add-one i) refl

      pub named_one : clipped threshold (get_or samples i 0) ≡ true
          → rest_named i ≡ record { place = i; value = get_or proposal i 0 } ∷ rest_named (i + 1)
      unfolding picked
      named_one e =
          let there : i < length proposal = omega arith in
          rw (drop-cons samples i 0, drop-cons proposal i 0, e, add-one i) refl

-- the named places are those of the clipped samples
places_from : (threshold : Float) (i : ℕ) (ws ps : List ℕ) → length ps ≡ length ws
    → places (picked i (map (clipped threshold) ws) ps) ≡ clipped_places threshold i ws
unfolding picked clipped_places
places_from threshold i [] ps h = refl
places_from threshold i (w ∷ ws) [] h = absurd (omega arith)
places_from threshold i (w ∷ ws) (p ∷ ps) h =
    let later = places_from threshold (i + 1) ws ps (omega arith) in
    elim (truth (clipped threshold w)) [
      | inl beyond ↦ rw beyond (ap (λ (is : List ℕ). i ∷ is) later)
      | inr under ↦ rw under later
    ]

pub places_named : (threshold : Float) (samples proposal : List ℕ) → length proposal ≡ length samples
    → places (named threshold samples proposal) ≡ clipped_places threshold 0 samples
unfolding named
places_named threshold samples proposal h = places_from threshold 0 samples proposal h

pub named_count : (threshold : Float) (samples proposal : List ℕ) → length proposal ≡ length samples
    → length (named threshold samples proposal) ≡ length (clipped_places threshold 0 samples)
named_count threshold samples proposal h =
    sym (length_places (named threshold samples proposal)) ∙ ap length (places_named threshold samples proposal h)

-- they ascend
pub named_ascends : (threshold : Float) (samples proposal : List ℕ) → length proposal ≡ length samples
    → Ascending (length samples) 0 (named threshold samples proposal)
unfolding named
named_ascends threshold samples proposal same =
    picked_ascends (length samples) 0 0 (map (clipped threshold) samples) proposal (omega arith) (omega arith)

-- no more are clipped than there are samples
pub clipped_few : (threshold : Float) (i : ℕ) (ws : List ℕ) → length (clipped_places threshold i ws) ≤ length ws
unfolding clipped_places
clipped_few threshold i [] = omega arith
clipped_few threshold i (w ∷ ws) =
    let later = clipped_few threshold (i + 1) ws in
    elim (truth (clipped threshold w)) [ inl beyond ↦ rw beyond (omega arith) | inr under ↦ rw under (omega arith) ]

-- saved by their places, they are saved as the named ones
pub saved_named : (threshold : Float) (proposal : List ℕ) (s : State) (middle : List ℕ) → length proposal ≡ length s.samples
    → middle ≡ sets s.journal s.used (three_words (saved s.samples s.marks (clipped_places threshold 0 s.samples)))
    → middle ≡ sets s.journal s.used (three_words (saved s.samples s.marks (places (named threshold s.samples proposal))))
saved_named threshold proposal s middle same e =
    e
    ∙ ap (λ (is : List ℕ). sets s.journal s.used (three_words (saved s.samples s.marks is)))
    (sym (places_named threshold s.samples proposal same))

-- and their blocks can be recounted
pub named_blocks : (threshold : Float) (proposal : List ℕ) (s : State) (m : ℕ) (marks middle : List ℕ)
    → Fits s × (length proposal ≡ length s.samples)
    → m ≡ length (named threshold s.samples proposal)
    → entry_size m ≤ length s.journal - s.used
    → length marks ≡ length s.marks
    → middle ≡ sets s.journal s.used (three_words (saved s.samples s.marks (clipped_places threshold 0 s.samples)))
    → Recountable marks s.counts middle s.used m
named_blocks threshold proposal s m marks middle pre count room long e =
    named_recountable s (named threshold s.samples proposal) m marks middle pre.0 ascends count room long
    (saved_named threshold proposal s middle pre.1 e)
  where
    ascends : Ascending (length s.samples) 0 (named threshold s.samples proposal)
    ascends = named_ascends threshold s.samples proposal pre.1

-- ---- Writing them: the samples behind a place are still as they were

module _ (threshold : Float) (samples proposal : List ℕ) (same : length proposal ≡ length samples) (i : ℕ) (h : i < length samples)
    (e : clipped threshold (get_or samples i 0) ≡ true) where
  behind : (v : ℕ) → rest_named threshold (set samples i v) proposal (i + 1) ≡ rest_named threshold samples proposal (i + 1)
  behind v = rw (drop-set-lt (i + 1) samples i v (omega arith)) refl

  pub write_one : (whole : List ℕ) → put (rest_named threshold samples proposal i) samples ≡ whole
      → let next = set samples i (get_or proposal i 0) in put (rest_named threshold next proposal (i + 1)) next ≡ whole
  unfolding put
  write_one whole rest =
      rw (behind (get_or proposal i 0)) (sym (ap (λ (cs : List Placed). put cs samples) (named_one threshold samples proposal same i h e)) ∙ rest)

  pub mark_one : (marks whole : List ℕ) (mark : ℕ) → put (each mark (places (rest_named threshold samples proposal i))) marks ≡ whole
      → let next = set samples i (get_or proposal i 0) in
      put (each mark (places (rest_named threshold next proposal (i + 1)))) (set marks i mark) ≡ whole
  unfolding put
  mark_one marks whole mark rest =
      rw (behind (get_or proposal i 0))
      (sym (ap (λ (cs : List Placed). put (each mark (places cs)) marks) (named_one threshold samples proposal same i h e)) ∙ rest)

-- ---- Refusals 1, 14, 2, 3, 4, 7 and 15

module _ (threshold : Float) (proposal : List ℕ) (s : State) (a : Answer) (sized : a ≡ fitting s) where
  pub checked_unfit : (why : Reason) → a ≡ Err why → a ≡ checked threshold proposal s
  unfolding checked
  checked_unfit why e = rw (sym sized ∙ e, e) refl

  module _ (m : ℕ) (fits : a ≡ Ok m) where
    pub checked_setting : allowed threshold ≡ false → Err Setting ≡ checked threshold proposal s
    unfolding checked
    checked_setting h = rw (sym sized ∙ fits, h) refl

    module _ (right : allowed threshold ≡ true) (b : Answer) (read : b ≡ readable 0 s.samples) where
      pub checked_read : (why : Reason) → b ≡ Err why → b ≡ checked threshold proposal s
      unfolding checked
      checked_read why e = rw (sym sized ∙ fits, right, sym read ∙ e, e) refl

      pub checked_taken : (k : ℕ) (c : Answer) → b ≡ Ok k → c ≡ taken threshold s.samples proposal → c ≡ checked threshold proposal s
      unfolding checked
      checked_taken k c e t = rw (sym sized ∙ fits, right, sym read ∙ e) t

-- ---- How the call ends

-- their tests, with what they test under other names
abbrev first : Answer → Bool → Answer → Answer → Answer
first f b r k = or_else f (if b then Err Setting else or_else r k)

abbrev ruled : State → Answer → Bool → Answer → Answer → Plan → Ended
ruled s f b r k p = unless_refused f s (carried s (if b then refuse Setting else unless_read r (unless_read k p)))

-- a refusal of theirs is the call's
first_refuses : (s : State) (f : Answer) (b : Bool) (r k : Answer) (p : Plan) (why : Reason) → first f b r k ≡ Err why
    → ended (first f b r k) s ≡ ruled s f b r k p
unfolding carried
first_refuses s (Err x) b r k p why e = refl
first_refuses s (Ok m) true r k p why e = refl
first_refuses s (Ok m) false (Err x) k p why e = refl
first_refuses s (Ok m) false (Ok n) (Err x) p why e = refl
first_refuses s (Ok m) false (Ok n) (Ok l) p why e = absurd (done_not_refused l why e)

-- where they accept, each of them does, and the plan decides
pub record Accepts (s : State) (f : Answer) (b : Bool) (r k : Answer) (p : Plan) : Type 0 where
  pub fits : (m : ℕ) × (f ≡ Ok m)
  pub takes : (m : ℕ) × (k ≡ Ok m)
  pub plans : (if b then refuse Setting else unless_read r (unless_read k p)) ≡ p
  pub on : carried s p ≡ ruled s f b r k p

first_accepts : (s : State) (f : Answer) (b : Bool) (r k : Answer) (p : Plan) (m : ℕ) → first f b r k ≡ Ok m → Accepts s f b r k p
first_accepts s (Err x) b r k p m e = absurd (done_not_refused m x (sym e))
first_accepts s (Ok n) true r k p m e = absurd (done_not_refused m Setting (sym e))
first_accepts s (Ok n) false (Err x) k p m e = absurd (done_not_refused m x (sym e))
first_accepts s (Ok n) false (Ok l) (Err x) p m e = absurd (done_not_refused m x (sym e))
first_accepts s (Ok n) false (Ok l) (Ok j) p m e = record { fits = (n, refl); takes = (j, refl); plans = refl; on = refl }

-- a proposal that is taken is as long as the recording, and is answered with 0
pub taken_length : (threshold : Float) (samples proposal : List ℕ) (m : ℕ) → taken threshold samples proposal ≡ Ok m
    → length proposal ≡ length samples
unfolding taken
taken_length threshold samples proposal m h =
    elim (truth (eqb (length proposal) (length samples))) [
      | inl same ↦ eqb-true _ _ same
      | inr other ↦ absurd (done_not_refused m (Proposal 0) (sym (rw other at h)))
    ]

answered_zero : (threshold : Float) (i : ℕ) (ws ps : List ℕ) (m : ℕ) → answered threshold i ws ps ≡ Ok m → answered threshold i ws ps ≡ Ok 0
unfolding answered
answered_zero threshold i [] ps m h = refl
answered_zero threshold i (w ∷ ws) [] m h = refl
answered_zero threshold i (w ∷ ws) (p ∷ ps) m h =
    elim (truth (answers threshold w p)) [
      | inl right ↦ rw right (answered_zero threshold (i + 1) ws ps m (rw right at h))
      | inr wrong ↦ absurd (done_not_refused m (Proposal i) (sym (rw wrong at h)))
    ]

pub taken_zero : (threshold : Float) (samples proposal : List ℕ) (m : ℕ) → taken threshold samples proposal ≡ Ok m
    → answered threshold 0 samples proposal ≡ Ok 0
unfolding taken
taken_zero threshold samples proposal m h =
    let same : eqb (length proposal) (length samples) ≡ true = eq-eqb _ _ (taken_length threshold samples proposal m h) in
    answered_zero threshold 0 samples proposal m (rw same at h)

-- its words for the named samples are in range
answered_ranged : (threshold : Float) (i : ℕ) (ws ps : List ℕ) → answered threshold i ws ps ≡ Ok 0
    → ranged (picked i (map (clipped threshold) ws) ps) ≡ Ok 0
unfolding answered picked ranged
answered_ranged threshold i [] ps h = refl
answered_ranged threshold i (w ∷ ws) [] h = refl
answered_ranged threshold i (w ∷ ws) (p ∷ ps) h =
    elim (truth (answers threshold w p)) [
      | inr wrong ↦ absurd (done_not_refused 0 (Proposal i) (sym (rw wrong at h)))
      | inl right ↦ one right (answered_ranged threshold (i + 1) ws ps (rw right at h)) (truth (clipped threshold w))
    ]
  where
    one : answers threshold w p ≡ true → ranged (picked (i + 1) (map (clipped threshold) ws) ps) ≡ Ok 0 → EitherWay (clipped threshold w)
        → ranged (picked i (map (clipped threshold) (w ∷ ws)) (p ∷ ps)) ≡ Ok 0
    one right later (inl beyond) = rw (beyond, clipped_answered threshold w p right beyond) later
    one right later (inr under) = rw under later

pub taken_ranged : (threshold : Float) (samples proposal : List ℕ) (m : ℕ) → taken threshold samples proposal ≡ Ok m
    → ranged (named threshold samples proposal) ≡ Ok 0
unfolding named
taken_ranged threshold samples proposal m h = answered_ranged threshold 0 samples proposal (taken_zero threshold samples proposal m h)

module _ (threshold : Float) (proposal : List ℕ) (s : State) where
  abbrev planned : Plan
  planned = change declip_proposed (named threshold s.samples proposal)

  checked_first : first (fitting s) (not (allowed threshold)) (readable 0 s.samples) (taken threshold s.samples proposal)
      ≡ checked threshold proposal s
  unfolding checked
  checked_first = refl

  repair_is : ruled s (fitting s) (not (allowed threshold)) (readable 0 s.samples) (taken threshold s.samples proposal) planned
      ≡ proposed_repair threshold proposal s
  unfolding proposed_repair called performed proposed_plan
  repair_is = refl

  pub accepts : (m : ℕ) → checked threshold proposal s ≡ Ok m
      → Accepts s (fitting s) (not (allowed threshold)) (readable 0 s.samples) (taken threshold s.samples proposal) planned
  accepts m e =
      first_accepts s (fitting s) (not (allowed threshold)) (readable 0 s.samples) (taken threshold s.samples proposal) planned m
      (checked_first ∙ e)

  -- a refusal of the tests ends it
  pub ends_refused : (a : Answer) (why : Reason) → a ≡ checked threshold proposal s → a ≡ Err why → ended a s ≡ proposed_repair threshold proposal s
  ends_refused a why ea e =
      let tested = checked_first ∙ sym ea in
      sym (ap (λ (x : Answer). ended x s) tested)
      ∙ first_refuses s (fitting s) (not (allowed threshold)) (readable 0 s.samples) (taken threshold s.samples proposal) planned why (tested ∙ e)
      ∙ repair_is

  module _ (a : Answer) (m : ℕ) (ea : a ≡ checked threshold proposal s) (e : a ≡ Ok m) where
    -- what their acceptance tells
    pub accepted_fit : Fits s × (length proposal ≡ length s.samples)
    accepted_fit =
        let all = accepts m (sym ea ∙ e) in
        (accepted_fits s all.fits.0 all.fits.1, taken_length threshold s.samples proposal all.takes.0 all.takes.1)

    -- and the commit ends it, in which no result is out of range
    pub ends_committed : (end : Ended) → end ≡ entered s declip_proposed (named threshold s.samples proposal)
        → end ≡ proposed_repair threshold proposal s
    ends_committed end ee =
        let all = accepts m (sym ea ∙ e) in
        ee
        ∙ carried_on s declip_proposed (named threshold s.samples proposal) (Ok 0) 0
        (sym (taken_ranged threshold s.samples proposal all.takes.0 all.takes.1)) refl
        ∙ all.on
        ∙ repair_is
