-- A list of spans: what 4 turns away, and that the spans are single calls in turn, wherever the list is cut. Assumes nothing.
use mathlib.Core.Path.{◌≡◌, refl, sym, ap, ◌∙◌}
use mathlib.Core.List.{List, [], ◌∷◌, ◌++◌}
use Prim.Native.Nat.{ℕ, ◌+◌}
use native.Mathlib.Omega.{arith}
use lib.ListN.{length, get_or}
use lib.Seq.{get_or-append-add}
use lib.Ieee.{Float}
use Rattle.leaves.specs.Arithmetic.{nought}
use Rattle.recording.specs.Recording.{State, work_after}
use Rattle.recording.specs.History.{run}
use Rattle.recording.specs.Answer.{Answer}
use Rattle.std.specs.Prelude.{Ok}
use Rattle.inpaint.specs.Gap.{needed, gap_repair}
use Rattle.inpaint.specs.Runs.{Stretch, single_calls}
use Rattle.inpaint.specs.Order.{gap_order}
use Rattle.splice.specs.Several.{spans, several, with_answer, in_turn, gaps_repair}
use Rattle.splice.specs.Consequences.{RefusedList, TakenList, EmptyList, CutAnywhere, OwnPlace, ListIsItsRepairs}
use Rattle.splice.proofs.Laws.{list_refused, list_taken, answered_count}
use Rattle.inpaint.proofs.Scans.{work_count, run_first}

-- ---- The call

pub refused_list : RefusedList
refused_list starts lens passes work lists s h = sym (list_refused starts lens passes work lists s h)

accepts : (passes : ℕ) (gs : List Stretch) (work : List Float) (s : State) → (in_turn passes gs work s).answer ≡ Ok 0
unfolding in_turn
accepts passes [] work s = refl
accepts passes (g ∷ gs) work s = accepts passes gs _ _

pub taken_list : TakenList
taken_list starts lens passes work lists s h =
    (sym (list_taken starts lens passes work lists s h), accepts passes (spans starts lens) work s)

pub empty_list : EmptyList
unfolding gaps_repair in_turn
empty_list passes work s = refl

-- ---- One after the other

pub cut_anywhere : CutAnywhere
unfolding in_turn
cut_anywhere passes [] hs work s =
    let all = in_turn passes hs work s in
    ap (λ (a : Answer). several a all.lists all.after all.work) (accepts passes hs work s)
cut_anywhere passes (g ∷ gs) hs work s =
    let e = gap_repair g.start g.len passes (length work) s in
    ap (with_answer e.answer (gap_order g.start g.len passes (length work) s)) (cut_anywhere passes gs hs _ e.after)

-- the workspace keeps its size
work_kept : (passes : ℕ) (gs : List Stretch) (work : List Float) (s : State) → length (in_turn passes gs work s).work ≡ length work
unfolding in_turn
work_kept passes [] work s = refl
work_kept passes (g ∷ gs) work s =
    let e = gap_repair g.start g.len passes (length work) s in
    work_kept passes gs _ e.after ∙ work_count (needed (length s.samples) g.start g.len) e.answer work

pub list_is_its_repairs : ListIsItsRepairs
unfolding in_turn run
list_is_its_repairs passes [] work s = refl
list_is_its_repairs passes (g ∷ gs) work s =
    let e = gap_repair g.start g.len passes (length work) s in
    let n = needed (length s.samples) g.start g.len in
    list_is_its_repairs passes gs (work_after nought n e.answer work) e.after
    ∙ ap (λ (room : ℕ). run (single_calls passes room gs) e.after) (work_count n e.answer work)
    ∙ run_first passes (length work) g gs s

-- ---- Each in its own place

-- the element at the seam of two lists, of which the first has so many elements
seam : (xs : List ℕ) (k : ℕ) (ys : List ℕ) → length xs ≡ k → get_or (xs ++ ys) k 0 ≡ get_or ys 0 0
seam xs k ys e =
    let here : k ≡ length xs + 0 = omega arith in
    ap (λ (j : ℕ). get_or (xs ++ ys) j 0) here ∙ get_or-append-add xs ys 0 0

pub own_place : OwnPlace
unfolding in_turn
own_place passes before later g work s =
    let found = in_turn passes before work s in
    let own = in_turn passes (g ∷ later) found.work found.after in
    let count = answered_count passes before work s in
    let room = work_kept passes before work s in
    rw (cut_anywhere passes before (g ∷ later) work s, ← room) (
      seam found.lists.numbers _ own.lists.numbers count.0,
      seam found.lists.values _ own.lists.values count.1,
      seam found.lists.orders _ own.lists.orders count.2,
    )
