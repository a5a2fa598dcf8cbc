-- The demands, as specs/Demands.antt states them: a call leaves what its rules leave, one after the other, so that what the crate
-- `recording` shows of any sequence of rules holds of any sequence of calls. Assumes nothing.
use mathlib.Core.Path.{◌≡◌, refl, sym, ap, subst, ◌∙◌}
use mathlib.Core.Bool.{Bool, true, false, false≢true}
use mathlib.Core.List.{List, [], ◌∷◌, ◌++◌, map, reverse}
use mathlib.Core.Logic.{◌⊎◌, inl, inr}
use Prim.Native.Nat.{ℕ, zero, suc, ◌≤◌}
use lib.ListN.{length, get_or, replicate}
use lib.Dec.{eqb}
use lib.Ieee.{Float}
use native.Mathlib.Omega.{arith}
use borrow.Author.Tests.{ne_eqb}
use Rattle.std.specs.Prelude.{if◌then◌else◌}
use Rattle.leaves.proofs.Choice.{picks}
use Rattle.recording.specs.Answers.{number, value, reason_number}
use Rattle.recording.specs.Recording.{State, Ended, Placed, Plan, refuse, change, fitting, carried, performed, undone}
use Rattle.recording.specs.Recording.{kept_mark, opened_with, opened, opened_received}
use Rattle.recording.specs.Marks as marks
use Rattle.recording.specs.Counts as blocks
use Rattle.recording.specs.History as single
use Rattle.recording.specs.Consequences.{Among, AllName, closings, returned}
use Rattle.recording.specs.declared.Reason.{Reason}
use Rattle.recording.specs.Answer.{Answer}
use Rattle.std.specs.Prelude.{Ok, Err}
use Rattle.recording.proofs.Journal.{all_zero}
use Rattle.recording.proofs.History as history
use Rattle.recording.proofs.Asking as asking
use Rattle.recording.proofs.Single.{above_zero, accepted_as_ruled}
use Rattle.inpaint.specs.Gap.{gap_repair}
use Rattle.inpaint.specs.Auto.{limit, scannable, automatic}
use Rattle.inpaint.specs.Runs.{Stretch, runs_of, gap_calls, run_answers, first_refusal}
use Rattle.splice.specs.Several.{spans, lists_wrong, gaps_repair}
use Rattle.inpaint.proofs.Scans.{scan_is_its_runs, scan_counts_its_runs, refused_scan, list_lawful, scan_lawful}
use Rattle.inpaint.specs.Consequences.{EachNumber}
use Rattle.inpaint.proofs.Rooms.{own_answers}
use Rattle.inpaint.proofs.Lawful.{gap_lawful}
use Rattle.declip.specs.Declip as declips
use Rattle.decrackle.specs.Decrackle as decrackles
use Rattle.dequant.specs.Dequant as dequants
use Rattle.declip.specs.Declip.{declipped, declip_repair, declip_plan}
use Rattle.decrackle.specs.Decrackle.{mark_for, decrackled, decrackle_repair, decrackle_plan}
use Rattle.dequant.specs.Dequant.{dequantized, dequantize_repair, dequantize_plan, cosparse_repair, cosparse_plan}
use Rattle.dequant.specs.Dequant.{cosparse as sparse}
use Rattle.declip.proofs.Consequences.{declip_lawful}
use Rattle.decrackle.proofs.Consequences.{decrackle_lawful}
use Rattle.dequant.proofs.Consequences.{dequantize_lawful, cosparse_lawful}
use Rattle.proposed.specs.Proposed.{proposed_repair}
use Rattle.proposed.proofs.Consequences.{proposed_is_lawful}
use Rattle.cathar.specs.Calls.{Call, gap, gaps, scan, declip, decrackle, dequantize, cosparse, proposed, undo, Work, Outcome, told, ran}
use Rattle.cathar.specs.Calls.{Opening, as_measured, as_received, opens}
use Rattle.cathar.specs.Refusals.{plain, asked, applies, any_out, any_unanswered, first, turned_away, opening_turned_away, tested_by_opening, can_give}
use Rattle.cathar.specs.Demands.{GivenExactlyWhen, OpeningGivenExactlyWhen, OnlyThese, OpeningOnlyThese, RefusalChangesNothing}
use Rattle.cathar.specs.Demands.{RefusedOpeningChangesNothing, RulesAreLawful, after, AfterAny, Kind, kind, repairs, undoes, scans}
use Rattle.cathar.specs.Demands.{scanned, counted, rules, CallIsItsRules, Demand2, all_rules, Demand3, SurvivorsStand}
use Rattle.cathar.specs.Demands.{UndoingAll, MeasuredIsRaw, MeasuredWasReceived, RawIsMeasuredOrNotReceived, NotReceivedIsRaw}
use Rattle.cathar.specs.Demands.{each_of, Opened, EntriesAreSurvivors, CountsAreWorkedOut, AnswerIsEachMark, YesIsRaw}
use Rattle.cathar.proofs.Refusals.{first_among, among_more, six_to_nine, opened_keeps, whole_number, gap_number, undo_number}
use Rattle.cathar.proofs.Refusals.{scan_number, scannable_zero, proposed_number, opening_number}
use Rattle.cathar.proofs.Spans.{gaps_rules, gaps_number, gaps_keep}
use Rattle.cathar.proofs.Alone.{gap_did, declip_did, decrackle_did, dequantize_did, cosparse_did, proposed_did, undo_did, alone, alone_keeps}

-- ---- A call is its rules

scan_rules : (rate : ℕ) (millis : Float) (held : ℕ) (work : List Float) (s : State)
    → (automatic rate millis held work s).after ≡ single.run (scanned rate millis held work s) s
scan_rules rate millis held work s = go (scannable rate millis held s) refl
  where
    go : (a : Answer) → scannable rate millis held s ≡ a → (automatic rate millis held work s).after ≡ single.run (scanned rate millis held work s) s
    go (Ok m) e = rw (e, scanned) (scan_is_its_runs rate millis held work s (scannable_zero rate millis held s m e))
    go (Err why) e = rw (e, scanned) (unfold single.run in refused_scan rate millis held work s why e)

pub call_is_its_rules : CallIsItsRules
call_is_its_rules (gap start len passes work) s = alone _ s _ (gap_did start len passes (length work) s)
call_is_its_rules (gaps starts lens passes work lists) s = gaps_rules starts lens passes work lists s
call_is_its_rules (scan rate millis held work) s = scan_rules rate millis held work s
call_is_its_rules (declip threshold work) s = alone _ s _ (declip_did threshold (length work) s)
call_is_its_rules (decrackle start sensitivity work) s = alone _ s _ (decrackle_did start sensitivity (length work) s)
call_is_its_rules (dequantize bits strength work) s = alone _ s _ (dequantize_did bits strength (length work) s)
call_is_its_rules (cosparse bits strength iterations work) s = alone _ s _ (cosparse_did bits strength iterations (length work) s)
call_is_its_rules (proposed threshold proposal) s = alone _ s _ (proposed_did threshold proposal s)
call_is_its_rules undo s = alone _ s _ (undo_did s)

-- ---- Refusals

-- the number that a call gives by lines of its own, which a scan's runs have no say in
abbrev own : Call → State → ℕ
own (gap start len passes work) s = number (gap_repair start len passes (length work) s).answer
own (gaps starts lens passes work lists) s = number (gaps_repair starts lens passes work lists s).answer
own (scan rate millis held work) s = number (scannable rate millis held s)
own (declip threshold work) s = number (declip_repair threshold (length work) s).answer
own (decrackle start sensitivity work) s = number (decrackle_repair start sensitivity (length work) s).answer
own (dequantize bits strength work) s = number (dequantize_repair bits strength (length work) s).answer
own (cosparse bits strength iterations work) s = number (cosparse_repair bits strength iterations (length work) s).answer
own (proposed threshold proposal) s = number (proposed_repair threshold proposal s).answer
own undo s = number (undone s).answer

-- is that of the first line that applies
by_lines : (c : Call) (s : State) → own c s ≡ turned_away c s
unfolding turned_away declip_repair declip_plan decrackle_repair decrackle_plan dequantize_repair dequantize_plan cosparse_repair cosparse_plan
by_lines (gap start len passes work) s = gap_number start len passes (length work) s
by_lines (gaps starts lens passes work lists) s = gaps_number starts lens passes work lists s
by_lines (scan rate millis held work) s = scan_number rate millis held s
by_lines (declip threshold work) s = whole_number (declips.allowed threshold) (length work) marks.cubic_declip (declipped threshold) s
by_lines (decrackle start sensitivity work) s =
    whole_number (decrackles.allowed sensitivity) (length work) (mark_for start) (decrackled start sensitivity) s
by_lines (dequantize bits strength work) s =
    whole_number (dequants.allowed strength) (length work) marks.dequantize (dequantized bits strength) s
by_lines (cosparse bits strength iterations work) s =
    whole_number (dequants.allowed strength) (length work) marks.dequantize (sparse bits strength iterations) s
by_lines (proposed threshold proposal) s = proposed_number threshold proposal s
by_lines undo s = undo_number s

-- where there are no runs, the number of the lines is all there is
no_runs : (k line : ℕ) → k ≡ line → k ≡ (if eqb line 0 then 0 else line)
no_runs k zero e = e
no_runs k (suc line) e = rw (ne_eqb (suc line) 0 (λ (z : suc line ≡ 0). omega arith)) e

-- a scan that is turned away gives the number of that refusal
refused_number : (rate : ℕ) (millis : Float) (held : ℕ) (work : List Float) (s : State) (why : Reason) → scannable rate millis held s ≡ Err why
    → (automatic rate millis held work s).refused ≡ reason_number why
unfolding automatic
refused_number rate millis held work s why e = rw (e, automatic) refl

scan_given : (rate : ℕ) (millis : Float) (held : ℕ) (work : List Float) (s : State)
    → (automatic rate millis held work s).refused
    ≡ (let k = turned_away (scan rate millis held work) s in if eqb k 0 then first_refusal (run_answers rate millis held work s) else k)
scan_given rate millis held work s = go (scannable rate millis held s) refl
  where
    line : number (scannable rate millis held s) ≡ turned_away (scan rate millis held work) s
    line = by_lines (scan rate millis held work) s

    go : (a : Answer) → scannable rate millis held s ≡ a
        → (automatic rate millis held work s).refused
        ≡ (let k = turned_away (scan rate millis held work) s in if eqb k 0 then first_refusal (run_answers rate millis held work s) else k)
    go (Ok m) e =
        let none : turned_away (scan rate millis held work) s ≡ 0 = sym line ∙ ap number e in
        rw none (scan_counts_its_runs rate millis held work s (scannable_zero rate millis held s m e)).2
    go (Err why) e =
        let some : turned_away (scan rate millis held work) s ≡ reason_number why = sym line ∙ ap number e in
        let refused : (automatic rate millis held work s).refused ≡ reason_number why = refused_number rate millis held work s why e in
        rw (some, ne_eqb (reason_number why) 0 (λ (z : reason_number why ≡ 0). omega (arith, above_zero why))) refused

pub given_exactly_when : GivenExactlyWhen
given_exactly_when (gap start len passes work) s = no_runs _ _ (by_lines (gap start len passes work) s)
given_exactly_when (gaps starts lens passes work lists) s = no_runs _ _ (by_lines (gaps starts lens passes work lists) s)
given_exactly_when (scan rate millis held work) s = scan_given rate millis held work s
given_exactly_when (declip threshold work) s = no_runs _ _ (by_lines (declip threshold work) s)
given_exactly_when (decrackle start sensitivity work) s = no_runs _ _ (by_lines (decrackle start sensitivity work) s)
given_exactly_when (dequantize bits strength work) s = no_runs _ _ (by_lines (dequantize bits strength work) s)
given_exactly_when (cosparse bits strength iterations work) s = no_runs _ _ (by_lines (cosparse bits strength iterations work) s)
given_exactly_when (proposed threshold proposal) s = no_runs _ _ (by_lines (proposed threshold proposal) s)
given_exactly_when undo s = no_runs _ _ (by_lines undo s)

-- ---- The two openings

-- the raw marks that an opening sets
abbrev raw_marks : Opening → State → List ℕ
raw_marks as_measured s = replicate (length s.marks) marks.measured
raw_marks as_received s = map kept_mark s.marks

-- is all in which the two differ
opens_with : (o : Opening) (s : State) → opens o s ≡ opened_with (raw_marks o s) s
unfolding opened opened_received
opens_with as_measured s = refl
opens_with as_received s = refl

-- they say measured or not received
raw_either : (o : Opening) (s : State) (i : ℕ)
    → (get_or (raw_marks o s) i 0 ≡ marks.measured) ⊎ (get_or (raw_marks o s) i 0 ≡ marks.not_received)
raw_either as_measured s i = inl (all_zero (length s.marks) i)
raw_either as_received s i = history.kept_or_measured s.marks i

pub opening_given_exactly_when : OpeningGivenExactlyWhen
unfolding opening_turned_away
opening_given_exactly_when o s = rw (opens_with o s) (opening_number (raw_marks o s) s)

-- which numbers there can be: of the lines that a call tests those that can apply to it
lines_only : (c : Call) (s : State) → (turned_away c s ≡ 0) ⊎ Among (turned_away c s) (can_give c)
unfolding turned_away first applies any_out any_unanswered
lines_only (gap start len passes work) s = first_among (applies (asked (gap start len passes work) s) s) (can_give (gap start len passes work))
lines_only (gaps starts lens passes work lists) s =
    first_among (applies (asked (gaps starts lens passes work lists) s) s) (can_give (gaps starts lens passes work lists))
lines_only (scan rate millis held work) s =
    among_more _ (1 ∷ 14 ∷ 2 ∷ 3 ∷ 4 ∷ []) (6 ∷ 7 ∷ 8 ∷ 9 ∷ [])
    (first_among (applies (asked (scan rate millis held work) s) s) (1 ∷ 14 ∷ 2 ∷ 3 ∷ 4 ∷ []))
lines_only (declip threshold work) s = first_among (applies (asked (declip threshold work) s) s) (can_give (declip threshold work))
lines_only (decrackle start sensitivity work) s =
    first_among (applies (asked (decrackle start sensitivity work) s) s) (can_give (decrackle start sensitivity work))
lines_only (dequantize bits strength work) s = first_among (applies (asked (dequantize bits strength work) s) s) (can_give (dequantize bits strength work))
lines_only (cosparse bits strength iterations work) s =
    first_among (applies (asked (cosparse bits strength iterations work) s) s) (can_give (cosparse bits strength iterations work))
lines_only (proposed threshold proposal) s = first_among (applies (asked (proposed threshold proposal) s) s) (can_give (proposed threshold proposal))
lines_only undo s = first_among (applies (asked undo s) s) (can_give undo)

-- the first refusal of runs, each of which is accepted or refused by 6 to 9
runs_only : (answers : List Answer) → EachNumber (λ k. (k ≡ 0) ⊎ ((6 ≤ k) × (k ≤ 9))) answers
    → (first_refusal answers ≡ 0) ⊎ ((6 ≤ first_refusal answers) × (first_refusal answers ≤ 9))
runs_only [] each = inl refl
runs_only (Ok m ∷ later) each = runs_only later each.1
runs_only (Err why ∷ later) each = each.0

scan_only : (rate : ℕ) (millis : Float) (held : ℕ) (work : List Float) (s : State)
    → ((automatic rate millis held work s).refused ≡ 0) ⊎ Among (automatic rate millis held work s).refused (can_give (scan rate millis held work))
scan_only rate millis held work s = go (scannable rate millis held s) refl (lines_only (scan rate millis held work) s)
  where
    refused : ℕ
    refused = (automatic rate millis held work s).refused

    line : number (scannable rate millis held s) ≡ turned_away (scan rate millis held work) s
    line = by_lines (scan rate millis held work) s

    Within : ℕ → Type 0
    Within k = (k ≡ 0) ⊎ Among k (can_give (scan rate millis held work))

    go : (a : Answer) → scannable rate millis held s ≡ a → Within (turned_away (scan rate millis held work) s) → Within refused
    go (Ok m) e lines =
        let zero-done = scannable_zero rate millis held s m e in
        let counted : refused ≡ first_refusal (run_answers rate millis held work s) = (scan_counts_its_runs rate millis held work s zero-done).2 in
        rw counted
        (elim (runs_only (run_answers rate millis held work s) (own_answers rate millis held work s zero-done)) [
          | inl none ↦ inl none
          | inr some ↦ inr (inr (inr (inr (inr (inr (six_to_nine _ some.0 some.1))))))
        ])
    go (Err why) e lines =
        let told : refused ≡ turned_away (scan rate millis held work) s =
        refused_number rate millis held work s why e ∙ sym (ap number e) ∙ line
        in
        rw told lines

pub only_these : OnlyThese
only_these (gap start len passes work) s = rw (by_lines (gap start len passes work) s) (lines_only (gap start len passes work) s)
only_these (gaps starts lens passes work lists) s =
    rw (by_lines (gaps starts lens passes work lists) s) (lines_only (gaps starts lens passes work lists) s)
only_these (scan rate millis held work) s = scan_only rate millis held work s
only_these (declip threshold work) s = rw (by_lines (declip threshold work) s) (lines_only (declip threshold work) s)
only_these (decrackle start sensitivity work) s = rw (by_lines (decrackle start sensitivity work) s) (lines_only (decrackle start sensitivity work) s)
only_these (dequantize bits strength work) s = rw (by_lines (dequantize bits strength work) s) (lines_only (dequantize bits strength work) s)
only_these (cosparse bits strength iterations work) s =
    rw (by_lines (cosparse bits strength iterations work) s) (lines_only (cosparse bits strength iterations work) s)
only_these (proposed threshold proposal) s = rw (by_lines (proposed threshold proposal) s) (lines_only (proposed threshold proposal) s)
only_these undo s = rw (by_lines undo s) (lines_only undo s)

pub opening_only_these : OpeningOnlyThese
unfolding opening_turned_away
opening_only_these o s = rw (opening_given_exactly_when o s) (first_among (applies (plain true false) s) tested_by_opening)

-- a refusal changes nothing
pub refusal_changes_nothing : RefusalChangesNothing
refusal_changes_nothing (gap start len passes work) s h =
    alone_keeps _ s _ (gap_did start len passes (length work) s) (rw (by_lines (gap start len passes work) s) h)
refusal_changes_nothing (gaps starts lens passes work lists) s h =
    gaps_keep starts lens passes work lists s (rw (by_lines (gaps starts lens passes work lists) s) h)
refusal_changes_nothing (scan rate millis held work) s h = go (scannable rate millis held s) refl
  where
    go : (a : Answer) → scannable rate millis held s ≡ a → (automatic rate millis held work s).after ≡ s
    go (Ok m) e =
        let none : turned_away (scan rate millis held work) s ≡ 0 = sym (by_lines (scan rate millis held work) s) ∙ ap number e in
        absurd (omega (arith, h, none))
    go (Err why) e = refused_scan rate millis held work s why e
refusal_changes_nothing (declip threshold work) s h =
    alone_keeps _ s _ (declip_did threshold (length work) s) (rw (by_lines (declip threshold work) s) h)
refusal_changes_nothing (decrackle start sensitivity work) s h =
    alone_keeps _ s _ (decrackle_did start sensitivity (length work) s) (rw (by_lines (decrackle start sensitivity work) s) h)
refusal_changes_nothing (dequantize bits strength work) s h =
    alone_keeps _ s _ (dequantize_did bits strength (length work) s) (rw (by_lines (dequantize bits strength work) s) h)
refusal_changes_nothing (cosparse bits strength iterations work) s h =
    alone_keeps _ s _ (cosparse_did bits strength iterations (length work) s) (rw (by_lines (cosparse bits strength iterations work) s) h)
refusal_changes_nothing (proposed threshold proposal) s h =
    alone_keeps _ s _ (proposed_did threshold proposal s) (rw (by_lines (proposed threshold proposal) s) h)
refusal_changes_nothing undo s h = alone_keeps _ s _ (undo_did s) (rw (by_lines undo s) h)

pub refused_opening_changes_nothing : RefusedOpeningChangesNothing
unfolding opening_turned_away
refused_opening_changes_nothing o s h =
    rw (opens_with o s) (opened_keeps (raw_marks o s) s (rw (opening_number (raw_marks o s) s) h))

-- ---- Sequences

after_is_run : (cs : List Call) (s : State) → after cs s ≡ single.run (all_rules cs s) s
after_is_run [] s = unfold single.run in refl
after_is_run (c ∷ cs) s =
    after_is_run cs (ran c s).after
    ∙ ap (single.run (all_rules cs (ran c s).after)) (call_is_its_rules c s)
    ∙ sym (history.run_append (rules c s) (all_rules cs (ran c s).after) s)

lawful_append : (cs ds : List single.Call) → single.Lawful cs → single.Lawful ds → single.Lawful (cs ++ ds)
lawful_append [] ds l m = m
lawful_append (single.repair r ∷ cs) ds l m = (l.0, lawful_append cs ds l.1 m)
lawful_append (single.undo ∷ cs) ds l m = lawful_append cs ds l m

scanned_lawful : (room : ℕ) (rs : List Stretch) (a : Answer)
    → single.Lawful (elim a [ Ok m ↦ gap_calls room rs | Err why ↦ [] ])
scanned_lawful room rs (Ok m) = scan_lawful room rs
scanned_lawful room rs (Err why) = tt

pub rules_are_lawful : RulesAreLawful
rules_are_lawful (gap start len passes work) s = (gap_lawful start len passes (length work), tt)
rules_are_lawful (gaps starts lens passes work lists) s =
    picks single.Lawful (lists_wrong starts lens lists) _ _ tt (list_lawful passes (length work) (spans starts lens))
rules_are_lawful (scan rate millis held work) s =
    scanned_lawful (length work) (runs_of s.samples (limit millis rate) held) (scannable rate millis held s)
rules_are_lawful (declip threshold work) s = (declip_lawful threshold (length work), tt)
rules_are_lawful (decrackle start sensitivity work) s = (decrackle_lawful start sensitivity (length work), tt)
rules_are_lawful (dequantize bits strength work) s = (dequantize_lawful bits strength (length work), tt)
rules_are_lawful (cosparse bits strength iterations work) s = (cosparse_lawful bits strength iterations (length work), tt)
rules_are_lawful (proposed threshold proposal) s = (proposed_is_lawful threshold proposal, tt)
rules_are_lawful undo s = tt

-- a call that counts as one repair ends as that does, and tells its number and value
record Told (o : Outcome) (e : Ended) : Type 0 where
  number_told : o.number ≡ number e.answer
  value_told : o.figures ≡ value e.answer ∷ []
  after_told : o.after ≡ e.after

told_by : (e : Ended) (w : Work) (rule r : single.Repair) (s : State) → e ≡ single.did (single.repair rule) s → repairs rule ≡ repairs r
    → Told (told e w) (single.did (single.repair r) s)
told_by e w rule r s h k =
    let same : e ≡ single.did (single.repair r) s = h ∙ ap (λ (l : Kind). single.did (single.repair (rule_of l)) s) k in
    record {
      number_told = ap (λ (d : Ended). number d.answer) same;
      value_told = ap (λ (d : Ended). value d.answer ∷ []) same;
      after_told = ap (λ (d : Ended). d.after) same;
    }
  where
    rule_of : Kind → single.Repair
    rule_of (repairs q) = q
    rule_of undoes = r
    rule_of (scans rate millis held work) = r
    rule_of (each_of calls) = r

-- a scan, several gaps and an undo do not count as one
abbrev is_repair : Kind → Bool
is_repair (repairs q) = true
is_repair undoes = false
is_repair (scans rate millis held work) = false
is_repair (each_of calls) = false

one_repair : (c : Call) (s : State) (r : single.Repair) → kind c ≡ repairs r → Told (ran c s) (single.did (single.repair r) s)
one_repair (gap start len passes work) s r h = told_by _ _ _ r s (gap_did start len passes (length work) s) h
one_repair (gaps starts lens passes work lists) s r h = absurd (false≢true (ap is_repair h))
one_repair (scan rate millis held work) s r h = absurd (false≢true (ap is_repair h))
one_repair (declip threshold work) s r h = told_by _ _ _ r s (declip_did threshold (length work) s) h
one_repair (decrackle start sensitivity work) s r h = told_by _ _ _ r s (decrackle_did start sensitivity (length work) s) h
one_repair (dequantize bits strength work) s r h = told_by _ _ _ r s (dequantize_did bits strength (length work) s) h
one_repair (cosparse bits strength iterations work) s r h = told_by _ _ _ r s (cosparse_did bits strength iterations (length work) s) h
one_repair (proposed threshold proposal) s r h = told_by _ _ _ r s (proposed_did threshold proposal s) h
one_repair undo s r h = absurd (false≢true (ap is_repair h))

-- an answer with the number 0 is an acceptance
pub accepted_by : (a : Answer) → number a ≡ 0 → a ≡ Ok (value a)
accepted_by (Ok m) h = refl
accepted_by (Err why) h = absurd (omega (arith, above_zero why, h))

-- a rule that refuses is not accepted
refused_plan : (s : State) (why : Reason) (m : ℕ) → (performed s (refuse why)).answer ≡ Ok m → ⊥
unfolding performed carried
refused_plan s why m h = go (fitting s) refl
  where
    never : (reason : Reason) → Err reason ≡ Ok m → ⊥
    never reason e = omega (arith, ap number e, above_zero reason)

    go : (a : Answer) → fitting s ≡ a → ⊥
    go (Ok k) e = never why (rw e at h)
    go (Err first) e = never first (rw e at h)

-- so the rule of an accepted repair makes a plan
plans : (r : single.Repair) (s : State) (p : Plan) → r s.samples ≡ p → (m : ℕ) → (single.did (single.repair r) s).answer ≡ Ok m
    → (mark : ℕ) × (cs : List Placed) × (r s.samples ≡ change mark cs)
plans r s (change mark cs) e m h = (mark, cs, e)
plans r s (refuse why) e m h =
    absurd (refused_plan s why m (sym (ap (λ (d : Ended). d.answer) (history.did_repair r s ∙ ap (performed s) e)) ∙ h))

pub demand_2 : Demand2
demand_2 c s r k h =
    let told = one_repair c s r k in
    let a = (single.did (single.repair r) s).answer in
    let accepted : a ≡ Ok (value a) = accepted_by a (sym told.number_told ∙ h) in
    let plan = plans r s (r s.samples) refl (value a) accepted in
    let lawful : single.Lawful (single.repair r ∷ []) = subst (λ (l : Kind). single.Lawful (counted l s)) k (rules_are_lawful c s) in
    let made = accepted_as_ruled r s plan.0 plan.1 (value a) lawful.0 plan.2 accepted in
    (plan.0, plan.1, plan.2, rw told.after_told made.0, told.value_told ∙ ap (λ (m : ℕ). m ∷ []) made.1)

all_lawful : (cs : List Call) (s : State) → single.Lawful (all_rules cs s)
all_lawful [] s = tt
all_lawful (c ∷ cs) s = lawful_append (rules c s) _ (rules_are_lawful c s) (all_lawful cs (ran c s).after)

-- ---- On a freshly opened recording

-- an accepted opening left it so
opened_fresh : (raw : State) (o : Opened raw)
    → raw ≡ single.fresh o.lent.samples (raw_marks o.way o.lent) (length o.lent.journal)
opened_fresh raw o =
    let with-marks = opens_with o.way o.lent in
    sym o.leaves
    ∙ rw with-marks (history.opening_is_fresh (raw_marks o.way o.lent) o.lent (rw with-marks at o.accepted))

raw_bytes : (o : Opening) (s : State) → single.Bytes (raw_marks o s)
raw_bytes as_measured s = history.zeros_are_bytes (length s.marks)
raw_bytes as_received s = history.kept_are_bytes s.marks

-- what holds of the rules on every fresh recording holds of the calls on every opened one
pub opened_any : (P : State → List single.Call → State → Type 0) → single.AfterAny (λ raw cs. P raw cs (single.run cs raw))
    → AfterAny (λ raw cs. P raw (all_rules cs raw) (after cs raw))
opened_any P all raw cs o =
    let words = o.lent.samples in
    let marks = raw_marks o.way o.lent in
    let room = length o.lent.journal in
    rw (after_is_run cs raw)
    (rw (opened_fresh raw o)
    (all words marks room (all_rules cs (single.fresh words marks room)) (raw_bytes o.way o.lent)
    (all_lawful cs (single.fresh words marks room))))

pub demand_3 : Demand3
demand_3 = opened_any (λ raw cs end. end ≡ single.replay (single.survivors cs raw) raw) history.demand_3

pub survivors_stand : SurvivorsStand
survivors_stand = opened_any (λ raw cs end. AllName (single.survivors cs raw) raw) history.survivors_stand

-- so many undos are so many single undos
undos : (k : ℕ) (s : State) → after (replicate k undo) s ≡ single.run (replicate k single.undo) s
unfolding single.run
undos zero s = refl
undos (suc k) s = undos k (undone s).after ∙ ap (λ (e : Ended). single.run (replicate k single.undo) e.after) (undo_did s)

pub undoing_all : UndoingAll
undoing_all raw cs o k h =
    undos k (after cs raw)
    ∙ opened_any (λ raw cs end. (k : ℕ) → length (single.survivors cs raw) ≤ k → single.run (replicate k single.undo) end ≡ raw)
    history.undoing_all raw cs o k h

-- a sample whose mark is none that a repair sets has its raw word and its raw mark
unmade_is_raw : (raw : State) (cs : List Call) → Opened raw → (i : ℕ) → marks.made (get_or (after cs raw).marks i 0) ≡ false
    → (get_or (after cs raw).samples i 0 ≡ get_or raw.samples i 0) × (get_or (after cs raw).marks i 0 ≡ get_or raw.marks i 0)
unmade_is_raw =
    opened_any
    (λ raw cs end. (i : ℕ) → marks.made (get_or end.marks i 0) ≡ false
    → (get_or end.samples i 0 ≡ get_or raw.samples i 0) × (get_or end.marks i 0 ≡ get_or raw.marks i 0))
    history.unmade_is_raw

pub measured_is_raw : MeasuredIsRaw
measured_is_raw raw cs o i h = (unmade_is_raw raw cs o i (rw h)).0

pub measured_was_received : MeasuredWasReceived
measured_was_received raw cs o i h = sym (unmade_is_raw raw cs o i (rw h)).1 ∙ h

pub raw_is_measured_or_not_received : RawIsMeasuredOrNotReceived
raw_is_measured_or_not_received raw o i = rw (opened_fresh raw o) (raw_either o.way o.lent i)

pub not_received_is_raw : NotReceivedIsRaw
not_received_is_raw raw cs o i h =
    let same = unmade_is_raw raw cs o i (rw h) in
    (same.0, sym same.1 ∙ h)

pub counts_are_worked_out : CountsAreWorkedOut
counts_are_worked_out = opened_any (λ raw cs end. end.counts ≡ blocks.counted end.marks) history.counts_are_worked_out

pub answer_is_each_mark : AnswerIsEachMark
answer_is_each_mark raw cs o start len h =
    rw (counts_are_worked_out raw cs o) (asking.answer_is_each_mark (after cs raw).marks start len h)

pub yes_is_raw : YesIsRaw
yes_is_raw raw cs o start len affirmed i low high =
    let mark = (asking.yes_exactly_when (after cs raw).marks start len).0 (rw (counts_are_worked_out raw cs o) at affirmed) i low high in
    (measured_is_raw raw cs o i mark, measured_was_received raw cs o i mark)

pub entries_are_survivors : EntriesAreSurvivors
entries_are_survivors =
    opened_any
    (λ raw cs end. closings (length (single.survivors cs raw)) end.journal end.used ≡ reverse (returned (single.survivors cs raw) raw))
    history.entries_are_survivors
