-- The table of refusals, as specs/Demands.antt states it: the number that each rule gives is that of the first line that applies.
-- Assumes nothing.
use mathlib.Core.Path.{◌≡◌, refl, sym, ap, subst, ◌∙◌}
use mathlib.Core.Bool.{Bool, true, false, not, ◌&&◌, ◌||◌}
use mathlib.Core.List.{List, [], ◌∷◌, ◌++◌}
use mathlib.Core.Logic.{◌⊎◌, inl, inr}
use Prim.Native.Nat.{ℕ, ◌+◌, ◌-◌, ◌≤◌, ◌<◌}
use native.Mathlib.Omega.{arith}
use borrow.Author.Tests.{eqb-true, eqb-false, le-leb, lt-leb}
use lib.ListN.{length}
use lib.Dec.{leb, ltb, eqb}
use lib.Ieee.{Float}
use Rattle.std.specs.Prelude.{if◌then◌else◌}
use Rattle.leaves.specs.Floats.{in_range}
use Rattle.leaves.proofs.Choice.{EitherWay, truth}
use Rattle.leaves.proofs.Numbers.{lt_or_ge}
use Rattle.recording.specs.Answers.{number}
use Rattle.recording.specs.Recording.{State, Ended, Placed, Plan, change, picked, differ, counts_wrong, too_many, over_used, or_else, alike}
use Rattle.recording.specs.Recording.{fitting, blank, opened_with}
use Rattle.recording.specs.Recording.{unless_read, unless_refused, readable, ranged, entry_size, entered, carried, performed, called}
use Rattle.recording.specs.Recording.{ended, refused, last_count, malformed, taken_back, undone}
use Rattle.recording.specs.Consequences.{Among}
use Rattle.recording.proofs.open.Laws.{alike_by, fitting_by}
use Rattle.recording.specs.Marks.{declip_proposed}
use Rattle.recording.specs.declared.Reason.TheVariants.{Setting, Read, Result, Nothing, Malformed, Proposal}
use Rattle.recording.specs.Answer.{Answer}
use Rattle.std.specs.Prelude.{Ok, Err}
use Rattle.inpaint.specs.Gap.{gap_wrong, by_line, from, needed, known_before, known_behind, all_readable, repaired, gap_plan, gap_repair}
use Rattle.inpaint.specs.Auto as auto
use Rattle.redraw.specs.Whole as whole
use Rattle.redraw.proofs.Ending.{done_not_refused}
use Rattle.declip.specs.Declip as declips
use Rattle.proposed.specs.Proposed.{answers, answered, taken, named, proposed_plan, proposed_repair}
use Rattle.proposed.proofs.Laws.{taken_ranged}
use Rattle.cathar.specs.Refusals.{changed, any_out, any_unanswered, results, first}

-- ---- The first of several numbers

-- it is 0, or one of them
pub first_among : (applies : ℕ → Bool) (ks : List ℕ) → (first applies ks ≡ 0) ⊎ Among (first applies ks) ks
unfolding first
first_among applies [] = inl refl
first_among applies (k ∷ ks) =
    elim (truth (applies k)) [
      | inl holds ↦ rw holds (inr (inl refl))
      | inr fails ↦
          let same : first applies (k ∷ ks) ≡ first applies ks = rw fails refl in
          let later : (first applies ks ≡ 0) ⊎ Among (first applies ks) (k ∷ ks) =
          elim (first_among applies ks) [ inl none ↦ inl none | inr some ↦ inr (inr some) ] in
          subst (λ (m : ℕ). (m ≡ 0) ⊎ Among m (k ∷ ks)) (sym same) later
    ]

-- among more
pub among_more : (k : ℕ) (js ls : List ℕ) → (k ≡ 0) ⊎ Among k js → (k ≡ 0) ⊎ Among k (js ++ ls)
among_more k js ls (inl none) = inl none
among_more k js ls (inr some) = inr (further js some)
  where
    further : (js : List ℕ) → Among k js → Among k (js ++ ls)
    further [] never = absurd never
    further (j ∷ js) (inl here) = inl here
    further (j ∷ js) (inr there) = inr (further js there)

-- a number from 6 to 9
pub six_to_nine : (k : ℕ) → 6 ≤ k → k ≤ 9 → Among k (6 ∷ 7 ∷ 8 ∷ 9 ∷ [])
six_to_nine k low high =
    elim (lt_or_ge k 7) [
      | inl a ↦ inl (omega arith)
      | inr a ↦ inr (elim (lt_or_ge k 8) [
        | inl b ↦ inl (omega arith)
        | inr b ↦ inr (elim (lt_or_ge k 9) [ inl c ↦ inl (omega arith) | inr c ↦ inr (inl (omega arith)) ])
      ])
    ]

-- ---- Words out of range

any_append : (xs ys : List ℕ) → any_out (xs ++ ys) ≡ any_out xs || any_out ys
unfolding any_out
any_append [] ys = refl
any_append (x ∷ xs) ys =
    elim (truth (in_range x)) [ inl holds ↦ rw holds (any_append xs ys) | inr fails ↦ rw fails refl ]

-- what a test of words answers, by whether one of them is out of range
readable_by : (i : ℕ) (ws : List ℕ)
    → ((any_out ws ≡ false) × (readable i ws ≡ Ok 0)) ⊎ ((any_out ws ≡ true) × (place : ℕ) × (readable i ws ≡ Err (Read place)))
unfolding readable any_out
readable_by i [] = inl (refl, refl)
readable_by i (w ∷ ws) =
    elim (truth (in_range w)) [ inl holds ↦ rw holds (readable_by (i + 1) ws) | inr fails ↦ rw fails (inr (refl, i, refl)) ]

ranged_by : (cs : List Placed)
    → ((any_out (results cs) ≡ false) × (ranged cs ≡ Ok 0))
    ⊎ ((any_out (results cs) ≡ true) × (place : ℕ) × (ranged cs ≡ Err (Result place)))
unfolding ranged any_out
ranged_by [] = inl (refl, refl)
ranged_by (c ∷ cs) =
    elim (truth (in_range c.value)) [ inl holds ↦ rw holds (ranged_by cs) | inr fails ↦ rw fails (inr (refl, c.place, refl)) ]

-- ---- The number of a rule, line by line

-- lines 1, 14, 2 and 3, and else k
abbrev pub sized : State → ℕ → ℕ
sized s k = if differ s then 1 else if counts_wrong s then 14 else if too_many s then 2 else if over_used s then 3 else k

pub unless_number : (s : State) (e : Ended) → number (unless_refused (fitting s) s e).answer ≡ sized s (number e.answer)
unless_number s e =
    fitting_by (λ (a : Answer). number (unless_refused a s e).answer ≡ sized s (number e.answer)) s (λ one. rw one refl)
    (λ one fourteen. rw (one, fourteen) refl) (λ one fourteen two. rw (one, fourteen, two) refl)
    (λ one fourteen two three. rw (one, fourteen, two, three) refl) (λ one fourteen two three. rw (one, fourteen, two, three) refl)

-- lines 8 and 9
abbrev finished : State → List Placed → ℕ
finished s cs =
    let m = length cs in
    if any_out (results cs) then 8 else
    if leb 1 m && ltb (length s.journal - s.used) (entry_size m) then 9 else
    0

carried_number : (s : State) (mark : ℕ) (cs : List Placed) → number (carried s (change mark cs)).answer ≡ finished s cs
unfolding carried entered
carried_number s mark cs =
    elim (ranged_by cs) [
      | inl g ↦ go g.0 g.1 (truth (eqb (length cs) 0)) (truth (ltb free (entry_size (length cs))))
      | inr n ↦ rw (n.0, n.2) refl
    ]
  where
    free : ℕ
    free = length s.journal - s.used

    some : eqb (length cs) 0 ≡ false → leb 1 (length cs) ≡ true
    some z = le-leb 1 (length cs) (omega (arith, eqb-false (length cs) 0 z))

    go : any_out (results cs) ≡ false → ranged cs ≡ Ok 0 → EitherWay (eqb (length cs) 0) → EitherWay (ltb free (entry_size (length cs)))
        → number (carried s (change mark cs)).answer ≡ finished s cs
    go g r (inl z) b =
        let none : leb 1 (length cs) ≡ false = lt-leb 1 (length cs) (omega (arith, eqb-true (length cs) 0 z)) in
        rw (g, r, z, none) refl
    go g r (inr z) (inl b) = rw (g, r, z, b, some z) refl
    go g r (inr z) (inr b) = rw (g, r, z, b, some z) refl

-- line 7, and else k
read_number : (s : State) (i : ℕ) (ws : List ℕ) (rest : Plan) (k : ℕ) → number (carried s rest).answer ≡ k
    → number (carried s (unless_read (readable i ws) rest)).answer ≡ (if any_out ws then 7 else k)
unfolding carried
read_number s i ws rest k h =
    elim (readable_by i ws) [
      | inl g ↦ rw (g.0, g.1) h
      | inr n ↦ rw (n.0, n.2) refl
    ]

-- lines 4, 6, 7, 8 and 9 of a repair over the whole recording
pub whole_number : (allowed : Bool) (room mark : ℕ) (draw : List ℕ → whole.Drawn) (s : State)
    → let made = draw s.samples in
    let cs = picked 0 made.named made.words in
    number (called (whole.whole_plan allowed room mark draw) s).answer
    ≡ sized s
    (if not allowed then 4 else
    if ltb room (whole.needed (length s.samples)) then 6 else
    if any_out s.samples then 7 else
    finished s cs)
unfolding called performed whole.whole_plan carried
whole_number allowed room mark draw s =
    unless_number s (carried s (whole.whole_plan allowed room mark draw s.samples))
    ∙ ap (sized s) (go (truth (not allowed)) (truth (ltb room (whole.needed (length s.samples)))))
  where
    cs : List Placed
    cs = picked 0 (draw s.samples).named (draw s.samples).words

    go : EitherWay (not allowed) → EitherWay (ltb room (whole.needed (length s.samples)))
        → number (carried s (whole.whole_plan allowed room mark draw s.samples)).answer
        ≡ (if not allowed then 4 else
        if ltb room (whole.needed (length s.samples)) then 6 else
        if any_out s.samples then 7 else
        finished s cs)
    go (inl a) b = rw a refl
    go (inr a) (inl b) = rw (a, b) refl
    go (inr a) (inr b) = rw (a, b) (read_number s 0 s.samples (change mark cs) (finished s cs) (carried_number s mark cs))

-- what the test of a proposal answers, by whether a sample is not answered as it should be
unanswered_by : (threshold : Float) (i : ℕ) (ws ps : List ℕ)
    → ((any_unanswered threshold ws ps ≡ false) × (answered threshold i ws ps ≡ Ok 0))
    ⊎ ((any_unanswered threshold ws ps ≡ true) × (place : ℕ) × (answered threshold i ws ps ≡ Err (Proposal place)))
unfolding answered any_unanswered
unanswered_by threshold i [] ps = inl (refl, refl)
unanswered_by threshold i (w ∷ ws) [] = inl (refl, refl)
unanswered_by threshold i (w ∷ ws) (p ∷ ps) =
    elim (truth (answers threshold w p)) [
      | inl holds ↦ rw holds (unanswered_by threshold (i + 1) ws ps)
      | inr fails ↦ rw fails (inr (refl, i, refl))
    ]

-- line 9, where no result is out of range
ranged_number : (s : State) (mark : ℕ) (cs : List Placed) → ranged cs ≡ Ok 0
    → number (carried s (change mark cs)).answer
    ≡ (let m = length cs in if leb 1 m && ltb (length s.journal - s.used) (entry_size m) then 9 else 0)
ranged_number s mark cs h =
    elim (ranged_by cs) [
      | inl g ↦ rw g.0 at (carried_number s mark cs)
      | inr n ↦ absurd (done_not_refused 0 _ (sym h ∙ n.2))
    ]

-- lines 15 and 9 of a proposal
taken_number : (threshold : Float) (proposal : List ℕ) (s : State)
    → let samples = s.samples in
    let cs = named threshold samples proposal in
    number (carried s (unless_read (taken threshold samples proposal) (change declip_proposed cs))).answer
    ≡ (if not (eqb (length proposal) (length samples)) || any_unanswered threshold samples proposal then 15 else
    if leb 1 (length cs) && ltb (length s.journal - s.used) (entry_size (length cs)) then 9 else
    0)
unfolding carried taken
taken_number threshold proposal s =
    elim (truth (eqb (length proposal) (length s.samples))) [
      | inr other ↦ rw other refl
      | inl same ↦ elim (unanswered_by threshold 0 s.samples proposal) [
        | inr n ↦ rw (same, n.0, n.2) refl
        | inl g ↦
            let right : taken threshold s.samples proposal ≡ Ok 0 = rw (same, taken) g.1 in
            rw (same, g.0, g.1)
            (ranged_number s declip_proposed (named threshold s.samples proposal) (taken_ranged threshold s.samples proposal 0 right))
      ]
    ]

-- lines 4, 7, 15 and 9 of a proposal
pub proposed_number : (threshold : Float) (proposal : List ℕ) (s : State)
    → let samples = s.samples in
    let cs = named threshold samples proposal in
    number (proposed_repair threshold proposal s).answer
    ≡ sized s
    (if not (declips.allowed threshold) then 4 else
    if any_out samples then 7 else
    if not (eqb (length proposal) (length samples)) || any_unanswered threshold samples proposal then 15 else
    if leb 1 (length cs) && ltb (length s.journal - s.used) (entry_size (length cs)) then 9 else
    0)
unfolding proposed_repair called performed proposed_plan carried
proposed_number threshold proposal s =
    unless_number s (carried s (proposed_plan threshold proposal s.samples))
    ∙ ap (sized s)
    (elim (truth (not (declips.allowed threshold))) [
      | inl a ↦ rw a refl
      | inr a ↦ rw a (read_number s 0 s.samples _ _ (taken_number threshold proposal s))
    ])

-- line 7 of a gap, of which two parts are read
gap_read_number : (s : State) (start len : ℕ) (rest : Plan) (k : ℕ) → number (carried s rest).answer ≡ k
    → let samples = s.samples in
    number (carried s (unless_read (all_readable samples start len) rest)).answer
    ≡ (if any_out (known_before samples start len ++ known_behind samples start len) then 7 else k)
unfolding carried all_readable
gap_read_number s start len rest k h =
    rw (any_append before behind)
    (elim (readable_by (from start len) before) [
      | inl g ↦ rw (g.0, g.1) (read_number s (start + len) behind rest k h)
      | inr n ↦ rw (n.0, n.2) refl
    ])
  where
    before : List ℕ
    before = known_before s.samples start len

    behind : List ℕ
    behind = known_behind s.samples start len

-- what the rule of a gap names
gap_finished : (s : State) (start len passes : ℕ)
    → number (carried s (repaired passes s.samples start len)).answer ≡ finished s (changed (repaired passes s.samples start len))
unfolding repaired
gap_finished s start len passes =
    elim (truth (by_line len)) [
      | inl holds ↦ rw holds (carried_number s _ _)
      | inr fails ↦ rw fails (carried_number s _ _)
    ]

-- lines 5 to 9 of a gap
pub gap_number : (start len passes room : ℕ) (s : State)
    → let samples = s.samples in
    number (gap_repair start len passes room s).answer
    ≡ sized s
    (if gap_wrong (length samples) start len then 5 else
    if ltb room (needed (length samples) start len) then 6 else
    if any_out (known_before samples start len ++ known_behind samples start len) then 7 else
    finished s (changed (repaired passes samples start len)))
unfolding gap_repair called performed gap_plan carried
gap_number start len passes room s =
    unless_number s (carried s (gap_plan start len passes room samples))
    ∙ ap (sized s) (go (truth (gap_wrong (length samples) start len)) (truth (ltb room (needed (length samples) start len))))
  where
    samples : List ℕ
    samples = s.samples

    go : EitherWay (gap_wrong (length samples) start len) → EitherWay (ltb room (needed (length samples) start len))
        → number (carried s (gap_plan start len passes room samples)).answer
        ≡ (if gap_wrong (length samples) start len then 5 else
        if ltb room (needed (length samples) start len) then 6 else
        if any_out (known_before samples start len ++ known_behind samples start len) then 7 else
        finished s (changed (repaired passes samples start len)))
    go (inl a) b = rw a refl
    go (inr a) (inl b) = rw (a, b) refl
    go (inr a) (inr b) = rw (a, b) (gap_read_number s start len (repaired passes samples start len) _ (gap_finished s start len passes))

-- lines 10 and 11
pub undo_number : (s : State)
    → number (undone s).answer
    ≡ sized s (if eqb s.used 0 then 10 else if malformed (length s.samples) s.journal s.used then 11 else 0)
unfolding undone
undo_number s =
    unless_number s _ ∙ ap (sized s) (go (truth (eqb s.used 0)) (truth (malformed (length s.samples) s.journal s.used)))
  where
    wrong : Bool
    wrong = malformed (length s.samples) s.journal s.used

    go : EitherWay (eqb s.used 0) → EitherWay wrong
        → number
        (if eqb s.used 0 then refused s Nothing else if wrong then refused s Malformed
        else ended (Ok (last_count s.journal s.used)) (taken_back s)).answer
        ≡ (if eqb s.used 0 then 10 else if wrong then 11 else 0)
    go (inl a) b = rw a refl
    go (inr a) (inl b) = rw (a, b) refl
    go (inr a) (inr b) = rw (a, b) refl

-- lines 1, 14 and 2 to 4 of a scan, of which these are the settings
abbrev scan_allowed : ℕ → Float → ℕ → Bool
scan_allowed rate millis held = auto.allowed rate millis && auto.held_allowed held

pub scan_number : (rate : ℕ) (millis : Float) (held : ℕ) (s : State)
    → number (auto.scannable rate millis held s) ≡ sized s (if not (scan_allowed rate millis held) then 4 else 0)
unfolding auto.scannable
scan_number rate millis held s =
    fitting_by (λ (a : Answer). number (or_else a rest) ≡ sized s (if not (scan_allowed rate millis held) then 4 else 0)) s (λ one. rw one refl)
    (λ one fourteen. rw (one, fourteen) refl) (λ one fourteen two. rw (one, fourteen, two) refl)
    (λ one fourteen two three. rw (one, fourteen, two, three) refl)
    (λ one fourteen two three. rw (one, fourteen, two, three) (settings (truth (scan_allowed rate millis held))))
  where
    rest : Answer
    rest = if scan_allowed rate millis held then Ok 0 else Err Setting

    settings : EitherWay (scan_allowed rate millis held) → number rest ≡ (if not (scan_allowed rate millis held) then 4 else 0)
    settings (inl a) = rw a refl
    settings (inr a) = rw a refl

-- the tests before a scan answer 0 where they accept it
pub scannable_zero : (rate : ℕ) (millis : Float) (held : ℕ) (s : State) (m : ℕ) → auto.scannable rate millis held s ≡ Ok m
    → auto.scannable rate millis held s ≡ Ok 0
unfolding auto.scannable
scannable_zero rate millis held s m h = go (fitting s) refl (truth (scan_allowed rate millis held))
  where
    go : (a : Answer) → fitting s ≡ a → EitherWay (scan_allowed rate millis held) → auto.scannable rate millis held s ≡ Ok 0
    go (Ok k) e (inl y) = rw (e, y, auto.scannable)
    go (Ok k) e (inr y) = let no-done : Err Setting ≡ Ok m = rw (e, y, auto.scannable) at h in cc
    go (Err why) e y = let no-done : Err why ≡ Ok m = rw (e, auto.scannable) at h in cc

-- lines 1, 14 and 2 of an opening, whatever raw marks it sets
pub opening_number : (marks : List ℕ) (s : State)
    → number (opened_with marks s).answer ≡ (if differ s then 1 else if counts_wrong s then 14 else if too_many s then 2 else 0)
unfolding opened_with
opening_number marks s =
    alike_by
    (λ (a : Answer).
    number (unless_refused a s (ended (Ok 0) (blank marks s))).answer
    ≡ (if differ s then 1 else if counts_wrong s then 14 else if too_many s then 2 else 0)) s
    (λ one. rw one refl) (λ one fourteen. rw (one, fourteen) refl) (λ one fourteen two. rw (one, fourteen, two) refl)
    (λ one fourteen two. rw (one, fourteen, two) refl)

-- an opening that is turned away keeps all
pub opened_keeps : (marks : List ℕ) (s : State) → 0 < number (opened_with marks s).answer → (opened_with marks s).after ≡ s
unfolding opened_with
opened_keeps marks s = go (alike s) refl
  where
    go : (a : Answer) → alike s ≡ a → 0 < number (opened_with marks s).answer → (opened_with marks s).after ≡ s
    go (Ok m) e h = let none : 0 < 0 = rw e at h in absurd (omega arith)
    go (Err why) e h = rw e refl
