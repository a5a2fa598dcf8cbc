-- What the plan of a gap does not depend on: the number of passes, and what stood in the gap. Assumes nothing.
use Rattle.std.proofs.Common.{◌≡◌, ℕ, zero, suc, ◌+◌, ◌-◌, ◌<◌, ◌≤◌, true, eqb, ltb, List, [], ◌∷◌, map, length, take, drop, set, sym, refl, ap, ◌∙◌, inl, inr, arith}
use lib.ListN.{length-map}
use lib.Seq.{sets, length-sets, drop-set-add, take-set-lt}
use lib.Ieee.{Float}
use borrow.Author.Tests.{eqb-false}
use Rattle.leaves.specs.Arithmetic.{float}
use Rattle.leaves.proofs.Lists.{read_before, read_after}
use Rattle.leaves.proofs.Choice.{truth}
use Rattle.model.specs.Model.{order_for}
use Rattle.leaves.proofs.Parts.{part_before_sets, part_behind_sets}
use Rattle.model.proofs.Passes.{Same, stored_same, solved_same, order_same, one_pass}
use Rattle.model.proofs.Orders.{every_pass_alike}
use Rattle.inpaint.specs.Gap.{gap_wrong, context, from, to, window_size, window, narrow_word, needed}
use Rattle.recording.specs.Recording.{Plan, refuse, unless_read}
use Rattle.std.specs.Prelude.{if◌then◌else◌}
use Rattle.recording.specs.declared.Reason.TheVariants.{Gap, Workspace}
use Rattle.recording.specs.Answer.{Answer}
use Rattle.inpaint.specs.Gap.{known_before, known_behind, all_readable, left_of, right_of, line, model}
use Rattle.inpaint.specs.Gap.{repaired, gap_plan}
use Rattle.inpaint.specs.Order.{fill_order}
use Rattle.inpaint.proofs.window.Laws.{gap_right}
use Rattle.inpaint.proofs.fill.Laws.{numbers, gap_within, model_passes}
use Rattle.inpaint.specs.Consequences.{EveryCount, GapHasNoSay}

-- ---- Every count gives the answer of one pass

pub every_count : EveryCount
unfolding gap_plan repaired
every_count start len passes room samples =
    elim (truth (gap_wrong (length samples) start len)) [
      | inl wrong ↦ rw wrong refl
      | inr right ↦ rw (right, ← model_passes samples start len (gap_right (length samples) start len right).inside passes) refl
    ]

-- ---- What stood in the gap has no say

drop_stores : {A : Type 0} (s ws : List A) (start f : ℕ) → f ≤ start → drop f (sets s start ws) ≡ sets (drop f s) (start - f) ws
drop_stores s [] start f h = refl
drop_stores {A = A} s (w ∷ ws) start f h =
    let there : f + (start - f) ≡ start = omega arith in
    let next : suc start - f ≡ suc (start - f) = omega arith in
    drop_stores (set s start w) ws (suc start) f (omega arith)
    ∙ rw next (ap (λ (l : List A). sets l (suc (start - f)) ws) (sym (ap (λ (k : ℕ). drop f (set s k w)) there) ∙ drop-set-add f s (start - f) w))

take_stores : {A : Type 0} (l ws : List A) (g k : ℕ) → g + length ws ≤ k → take k (sets l g ws) ≡ sets (take k l) g ws
take_stores l [] g k h = refl
take_stores {A = A} l (w ∷ ws) g k h =
    take_stores (set l g w) ws (suc g) k (omega arith) ∙ ap (λ (m : List A). sets m (suc g) ws) (take-set-lt k l g w (omega arith))

map-set : {A B : Type 0} (f : A → B) (l : List A) (i : ℕ) (x : A) → map f (set l i x) ≡ set (map f l) i (f x)
map-set f [] zero x = refl
map-set f [] (suc i) x = refl
map-set f (y ∷ l) zero x = refl
map-set {B = B} f (y ∷ l) (suc i) x = ap (λ (m : List B). f y ∷ m) (map-set f l i x)

map_stores : {A B : Type 0} (f : A → B) (l ws : List A) (g : ℕ) → map f (sets l g ws) ≡ sets (map f l) g (map f ws)
map_stores f l [] g = refl
map_stores {B = B} f l (w ∷ ws) g = map_stores f (set l g w) ws (suc g) ∙ ap (λ (m : List B). sets m (suc g) (map f ws)) (map-set f l g w)

module _ (start len : ℕ) (samples words : List ℕ) (count : length words ≡ len) (inside : start + len ≤ length samples) where
  as_many : length (sets samples start words) ≡ length samples
  as_many = length-sets samples start words

  known_same : all_readable (sets samples start words) start len ≡ all_readable samples start len
  unfolding all_readable known_before known_behind
  known_same =
      rw (
        as_many,
        part_before_sets samples words start (from start len) (start - from start len) (before (context len)),
        part_behind_sets samples words start (start + len) (to (length samples) start len - (start + len)) behind,
      ) refl
    where
      before : (c : ℕ) → start - c + (start - (start - c)) ≤ start
      before c = omega arith

      behind : start + length words ≤ start + len
      behind = omega (arith, count)

  left_same : left_of (sets samples start words) start ≡ left_of samples start
  unfolding left_of
  left_same =
      elim (truth (eqb start 0)) [
        | inl first ↦ rw first refl
        | inr later ↦ rw (later, read_before samples words start (start - 1) 0 (one_before (eqb-false start 0 later))) refl
      ]
    where
      one_before : (start ≡ 0 → ⊥) → start - 1 < start
      one_before h = omega (arith, h)

  right_same : right_of (sets samples start words) (start + len) ≡ right_of samples (start + len)
  unfolding right_of
  right_same = rw (as_many, read_after samples words start (start + len) 0 (omega (arith, count))) refl

  line_same : line (sets samples start words) start len ≡ line samples start len
  unfolding line
  line_same = rw (left_same, right_same) refl

  -- the window has the other words at the gap's place in it
  window_stores : window (sets samples start words) start len ≡ sets (window samples start len) (start - from start len) words
  unfolding window
  window_stores =
      rw (as_many, drop_stores samples words start (from start len) (lower (context len)))
      (take_stores (drop (from start len) samples) words (start - from start len) (window_size (length samples) start len)
      (rw count (numbers (length samples) start len (context len) inside).within))
    where
      lower : (c : ℕ) → start - c ≤ start
      lower c = omega arith

  -- so it is the same outside the gap
  abbrev g : ℕ
  g = start - from start len

  abbrev seg : List Float
  seg = map float (window samples start len)

  stored : map float (window (sets samples start words) start len) ≡ sets seg g (map float words)
  stored = ap (map float) window_stores ∙ map_stores float (window samples start len) words g

  outside : Same g len seg (sets seg g (map float words))
  outside = stored_same g len seg (map float words) (length-map words float ∙ count)

  within : g + len ≤ length seg
  within = gap_within samples start len inside

  model_same : (passes : ℕ) → model passes (sets samples start words) start len ≡ model passes samples start len
  unfolding model
  model_same passes =
      rw stored
      (ap (map narrow_word)
      (one_pass passes (sets seg g (map float words)) g len (rw outside.count within)
      ∙ solved_same g len seg (sets seg g (map float words)) outside (order_for len)
      ∙ sym (one_pass passes seg g len within)))

  pub fill_order_same : (passes : ℕ) → fill_order passes (sets samples start words) start len ≡ fill_order passes samples start len
  unfolding fill_order
  fill_order_same passes =
      let p = order_for len in
      rw stored
      (every_pass_alike passes (sets seg g (map float words)) g len p (rw outside.count within)
      ∙ order_same g len seg (sets seg g (map float words)) outside p
      ∙ sym (every_pass_alike passes seg g len p within))

  repaired_same : (passes : ℕ) → repaired passes (sets samples start words) start len ≡ repaired passes samples start len
  unfolding repaired
  repaired_same passes = rw (line_same, model_same passes) refl

-- the plan, from the number of samples, what is read and what is repaired
planned : ℕ → ℕ → ℕ → ℕ → Answer → Plan → Plan
planned start len room n read made =
    if gap_wrong n start len then refuse Gap else
    if ltb room (needed n start len) then refuse Workspace else
    unless_read read made

as_planned : (start len passes room : ℕ) (samples : List ℕ)
    → gap_plan start len passes room samples
    ≡ planned start len room (length samples) (all_readable samples start len) (repaired passes samples start len)
unfolding gap_plan planned
as_planned start len passes room samples = refl

-- where the gap is turned away, nothing else matters
turned_away : (start len room n : ℕ) (read read' : Answer) (made made' : Plan) → gap_wrong n start len ≡ true
    → planned start len room n read made ≡ planned start len room n read' made'
unfolding planned
turned_away start len room n read read' made made' wrong = rw wrong refl

pub gap_has_no_say : GapHasNoSay
gap_has_no_say start len passes room samples words count =
    let n = length samples in
    let other = sets samples start words in
    as_planned start len passes room other
    ∙ ap (λ (k : ℕ). planned start len room k (all_readable other start len) (repaired passes other start len)) (length-sets samples start words)
    ∙ elim (truth (gap_wrong n start len)) [
      | inl wrong ↦ turned_away start len room n _ _ _ _ wrong
      | inr right ↦
          let inside = (gap_right n start len right).inside in
          ap (λ (r : Answer). planned start len room n r (repaired passes other start len)) (known_same start len samples words count inside)
          ∙ ap (planned start len room n (all_readable samples start len)) (repaired_same start len samples words count inside passes)
    ]
    ∙ sym (as_planned start len passes room samples)
