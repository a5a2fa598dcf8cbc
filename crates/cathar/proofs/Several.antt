-- Several gaps in one call, as specs/Several.antt states it: they are single calls in turn, and an undo takes back the last of them that was
-- accepted. Assumes nothing.
use mathlib.Core.Path.{◌≡◌, refl, sym, ap, subst, ◌∙◌}
use mathlib.Core.List.{List, [], ◌∷◌, ◌++◌}
use Prim.Native.Nat.{ℕ, suc, ◌-◌}
use native.Mathlib.Omega.{arith}
use lib.ListN.{length}
use lib.Ieee.{Float}
use Rattle.leaves.specs.Arithmetic.{nought}
use Rattle.recording.specs.Answers.{value}
use Rattle.recording.specs.Recording.{State, Ended, work_after}
use Rattle.recording.specs.History as single
use Rattle.std.specs.Prelude.{Ok}
use Rattle.recording.proofs.History as history
use Rattle.inpaint.specs.Gap.{needed, gap_plan, gap_repair}
use Rattle.inpaint.specs.Order.{gap_order}
use Rattle.inpaint.specs.Runs.{Stretch, single_calls}
use Rattle.splice.specs.Several.{spans, Several, with_answer, in_turn}
use Rattle.inpaint.proofs.Lawful.{gap_lawful}
use Rattle.inpaint.proofs.Rooms.{accepted_names_the_gap}
use Rattle.inpaint.proofs.Scans.{run_first}
use Rattle.splice.proofs.InTurn.{taken_list, cut_anywhere, list_is_its_repairs}
use Rattle.cathar.specs.Calls.{Call, gap, gaps, undo, ran}
use Rattle.cathar.specs.Demands.{after, Opened}
use Rattle.cathar.specs.Several.{singly, GapsAreSingleCalls, AllRefused, UndoTakesBackOneSpan}
use Rattle.cathar.proofs.Alone.{gap_did, undo_did, alone_keeps}
use Rattle.cathar.proofs.Demands.{accepted_by, opened_any}

-- ---- Single calls in turn

in_turn_singly : (passes : ℕ) (gs : List Stretch) (work : List Float) (s : State) → in_turn passes gs work s ≡ singly passes gs work s
unfolding in_turn singly
in_turn_singly passes [] work s = refl
in_turn_singly passes (g ∷ gs) work s =
    let e = gap_repair g.start g.len passes (length work) s in
    let left = work_after nought (needed (length s.samples) g.start g.len) e.answer work in
    ap (with_answer e.answer (gap_order g.start g.len passes (length work) s)) (in_turn_singly passes gs left e.after)

pub gaps_are_single_calls : GapsAreSingleCalls
gaps_are_single_calls starts lens passes work lists s right =
    (taken_list starts lens passes work lists s right).0 ∙ in_turn_singly passes (spans starts lens) work s

-- ---- An undo

-- the calls of these gaps, each with that workspace
abbrev calls : ℕ → List Float → List Stretch → List Call
calls passes work [] = []
calls passes work (g ∷ gs) = gap g.start g.len passes work ∷ calls passes work gs

-- leave what the list leaves
calls_after : (passes : ℕ) (work : List Float) (gs : List Stretch) (s : State)
    → after (calls passes work gs) s ≡ single.run (single_calls passes (length work) gs) s
calls_after passes work [] s = unfold single.run in refl
calls_after passes work (g ∷ gs) s =
    calls_after passes work gs (gap_repair g.start g.len passes (length work) s).after ∙ run_first passes (length work) g gs s

after_append : (cs ds : List Call) (s : State) → after (cs ++ ds) s ≡ after ds (after cs s)
after_append [] ds s = refl
after_append (c ∷ cs) ds s = after_append cs ds (ran c s).after

-- spans that are refused change nothing
refused_keep : (passes : ℕ) (gs : List Stretch) (work : List Float) (s : State) → AllRefused (in_turn passes gs work s).lists.numbers
    → (in_turn passes gs work s).after ≡ s
unfolding in_turn
refused_keep passes [] work s h = refl
refused_keep passes (g ∷ gs) work s h =
    let e = gap_repair g.start g.len passes (length work) s in
    refused_keep passes gs _ e.after h.1 ∙ alone_keeps _ s e (gap_did g.start g.len passes (length work) s) h.0

-- a gap that was accepted after any calls is taken back by an undo
undo_takes_back_a_gap : (raw : State) (cs : List Call) → Opened raw → (start len passes : ℕ) (work : List Float)
    → let s = after cs raw in
    (ran (gap start len passes work) s).number ≡ 0 → (ran undo (ran (gap start len passes work) s).after).after ≡ s
undo_takes_back_a_gap raw cs o start len passes work accepted =
    let s = after cs raw in
    let did = gap_did start len passes (length work) s in
    let e = gap_repair start len passes (length work) s in
    let done : e.answer ≡ Ok (value e.answer) = accepted_by e.answer accepted in
    let m = accepted_names_the_gap start len passes (length work) (value e.answer) s done in
    let some : value e.answer ≡ suc (len - 1) = omega (arith, m) in
    let named : (single.did (single.repair (gap_plan start len passes (length work))) s).answer ≡ Ok (suc (len - 1)) =
    sym (ap (λ (end : Ended). end.answer) did) ∙ done ∙ ap Ok some
    in
    ap (λ (end : Ended). end.after) (undo_did e.after)
    ∙ ap (λ (end : Ended). (single.did single.undo end.after).after) did
    ∙ opened_any
    (λ raw cs end.
    (r : single.Repair) (m : ℕ) → single.LawfulRepair r → (single.did (single.repair r) end).answer ≡ Ok (suc m)
    → (single.did single.undo (single.did (single.repair r) end).after).after ≡ end)
    history.undo_takes_back_the_last raw cs o (gap_plan start len passes (length work)) (len - 1) (gap_lawful start len passes (length work)) named

pub undo_takes_back_one_span : UndoTakesBackOneSpan
undo_takes_back_one_span raw cs o starts lens passes work lists before later g right cut accepted refused =
    ap (λ (t : State). (ran undo t).after) whole
    ∙ subst Undone reached
    (undo_takes_back_a_gap raw (cs ++ calls passes work before) o g.start g.len passes found.work) accepted
  where
    s : State
    s = after cs raw

    found : Several
    found = in_turn passes before work s

    -- an undo behind the call of g
    Undone : State → Type 0
    Undone t =
        let own = ran (gap g.start g.len passes found.work) t in
        own.number ≡ 0 → (ran undo own.after).after ≡ t

    reached : after (cs ++ calls passes work before) raw ≡ found.after
    reached =
        after_append cs (calls passes work before) raw
        ∙ calls_after passes work before s
        ∙ sym (list_is_its_repairs passes before work s)

    -- the list leaves what g left
    whole : (ran (gaps starts lens passes work lists) s).after ≡ (ran (gap g.start g.len passes found.work) found.after).after
    whole =
        ap (λ (c : Several). c.after) (taken_list starts lens passes work lists s right).0
        ∙ ap (λ (gs : List Stretch). (in_turn passes gs work s).after) cut
        ∙ ap (λ (c : Several). c.after) (cut_anywhere passes before (g ∷ later) work s)
        ∙ unfold in_turn in refused_keep passes later _ _ refused
