-- `inpaint::auto::repair_runs` meets its contract. The loop's invariant: the scan from here on gives the whole scan, and the orders
-- of the runs from here on the whole list;
-- each run found took a place or more, so that the runs counted are at most as many as the places passed. The measure
-- is how many places are left. Assumes nothing.
use Rattle.std.proofs.Common.{◌≡◌, ◌+◌, ◌<◌, ◌≤◌, cond, eqb, length, sym, refl, ap, ◌∙◌, arith}
use native.Mathlib.Nat.{sub-zero}
use Rattle.recording.specs.Answers.{number}
use Rattle.recording.specs.Recording.{Ended, ended}
use Rattle.inpaint.specs.Gap.{gap_repair}
use Rattle.recording.specs.Lent.{held}
use Rattle.inpaint.specs.Filled.{answer_of}
use Rattle.inpaint.specs.Auto.{refused_number}
use Rattle.inpaint.proofs.auto.Laws.{accepted_keeps, refused_counts, refused_first, scan_stops, scan_turn}
use Rattle.inpaint.proofs.auto.Runs.{found_within}
use Rattle.inpaint.proofs.Orders.{orders_none, orders_turn}
use Rattle.inpaint.proofs.Scans.{repair_leaves}
use Rattle.inpaint.proofs.auto.repair_runs.Goals as goal
use Rattle.inpaint.proofs.auto.repair_runs.Goals.{in-Ok, in-Err}

pub loop-start-init : goal.loop-start-init
loop-start-init c =
    (omega arith, omega arith, omega arith, refl, (refl, refl, refl, refl, refl), simp sub-zero refl, simp sub-zero refl)

pub overflow_add-qualified : goal.overflow_add-qualified
overflow_add-qualified c =
    let gap = c.in-Some.field-0 in
    let run_found : (c.loop-start.at < gap.start + gap.len) × (gap.start + gap.len < length c.loop-start.recording.samples.now) =
    found_within _ _ _ _ gap.start gap.len (sym c.next_gap.ensures ∙ c.in-Some.is) in
    omega (arith, run_found, c.requires, c.loop-start.invariant.0, c.loop-start.invariant.1)

pub overflow_add-repaired : goal.overflow_add-repaired
overflow_add-repaired c =
    let gap = c.in-Some.field-0 in
    let run_found : (c.loop-start.at < gap.start + gap.len) × (gap.start + gap.len < length c.loop-start.recording.samples.now) =
    found_within _ _ _ _ gap.start gap.len (sym c.next_gap.ensures ∙ c.in-Some.is) in
    omega (arith, run_found, c.requires, c.loop-start.invariant.0, c.loop-start.invariant.1, c.loop-start.invariant.2)

pub overflow_add-at : goal.overflow_add-at
overflow_add-at c =
    let gap = c.in-Some.field-0 in
    let run_found : (c.loop-start.at < gap.start + gap.len) × (gap.start + gap.len < length c.loop-start.recording.samples.now) =
    found_within _ _ _ _ gap.start gap.len (sym c.next_gap.ensures ∙ c.in-Some.is) in
    omega (arith, run_found, c.requires, c.loop-start.invariant.3)

pub loop-start-smaller : goal.loop-start-smaller
loop-start-smaller c =
    let gap = c.in-Some.field-0 in
    let run_found : (c.loop-start.at < gap.start + gap.len) × (gap.start + gap.len < length c.loop-start.recording.samples.now) =
    found_within _ _ _ _ gap.start gap.len (sym c.next_gap.ensures ∙ c.in-Some.is) in
    omega (arith, run_found, c.loop-start.invariant.3)

pub loop-start-preserved : goal.loop-start-preserved
loop-start-preserved c =
    let gap = c.in-Some.field-0 in
    let i = c.loop-start.invariant in
    let s = held c.loop-start.recording in
    let found = sym c.next_gap.ensures ∙ c.in-Some.is in
    let run_found : (c.loop-start.at < gap.start + gap.len) × (gap.start + gap.len < length c.loop-start.recording.samples.now) =
    found_within _ _ _ _ gap.start gap.len (sym c.next_gap.ensures ∙ c.in-Some.is) in
    let rule = c.inpaint_gap-filled.ensures.rule in
    let same = c.inpaint_gap-filled.ensures.memory in
    let answer = answer_of c.inpaint_gap-filled.result in
    let k = refused_number c.loop-start.refused in
    let ends : ended answer (held c.inpaint_gap-filled.new.recording) ≡ gap_repair gap.start gap.len 3 (length c.loop-start.work) s = rule.0 in
    let count : length c.inpaint_gap-filled.new.recording.samples.now ≡ length s.samples =
    ap (λ (e : Ended). length e.after.samples) ends ∙ (repair_leaves gap.start gap.len 3 (length c.loop-start.work) s).count in
    let once : c.match-filled.repaired ≡ c.loop-start.repaired + cond (eqb (number answer) 0) 1 0 =
    elim c.match-filled.branch [
      | in-Ok w ↦ rw (w.in-Ok.is, w.repaired-is) refl
      | in-Err w ↦ rw (w.in-Err.is, w.repaired-is) (refused_counts _ _)
    ] in
    let first : refused_number c.match-filled.refused ≡ cond (eqb k 0) (number answer) k =
    elim c.match-filled.branch [
      | in-Ok w ↦ rw (w.in-Ok.is, w.refused-is) (accepted_keeps k 0)
      | in-Err w ↦ rw (w.in-Err.is, w.refused-is, w.or-refused.ensures) (refused_first c.loop-start.refused _)
    ] in
    let most : c.match-filled.repaired ≤ c.loop-start.repaired + 1 =
    elim c.match-filled.branch [ in-Ok w ↦ omega (arith, w.repaired-is) | in-Err w ↦ omega (arith, w.repaired-is) ] in (
      omega (arith, run_found, i.3),
      omega (arith, run_found, i.1),
      omega (arith, i.2, most),
      count ∙ i.3,
      (same.0 ∙ i.4.0, same.1 ∙ i.4.1, same.2 ∙ i.4.2, same.3 ∙ i.4.3, same.4 ∙ i.4.4),
      scan_turn _ _ _ gap.start gap.len _ _ _ _ _ _ s _ c.loop-start.work _ answer _ (omega (arith, run_found, i.1, i.3)) found ends rule.1
          once first i.5,
      orders_turn _ _ _ gap.start gap.len _ _ s _ c.loop-start.work answer _ _ _ _ i.3 c.loop-start.auto.work found ends rule.2
          c.note_order.ensures i.6,
    )

pub returns-clause-rule : goal.returns-clause-rule
returns-clause-rule c =
    let ends = sym c.next_gap.ensures ∙ c.in_default.is in
    sym (scan_stops _ _ _ _ _ ends) ∙ c.loop-start.invariant.5

pub returns-clause-orders : goal.returns-clause-orders
returns-clause-orders c =
    let ends = sym c.next_gap.ensures ∙ c.in_default.is in
    orders_none _ _ _ _ _ (held c.loop-start.recording) _ _ c.loop-start.invariant.3 ends c.loop-start.invariant.6
