-- How far the repair of a gap reaches, as specs/Reach.antt states it. Assumes nothing.
use Rattle.std.proofs.Common.{◌≡◌, ℕ, ◌+◌, ◌-◌, ◌<◌, ◌≤◌, min, eqb, leb, ◌⊎◌, List, length, get_or, take, drop, sym, refl, ap, ◌∙◌, inl, inr, true≢false, arith, get_or-drop, get_or-take, ext_get_or, le-ltb, le-leb, leb-false, leb-true}
use borrow.Author.Tests.{lt-leb, eqb-false}
use lib.Seq.{sets, length-sets}
use Rattle.leaves.proofs.Choice.{truth, EitherWay}
use Rattle.leaves.proofs.Lists.{read_before, read_after, read_within}
use Rattle.leaves.proofs.Numbers.{lt_or_ge}
use Rattle.leaves.proofs.Parts.{part_length}
use Rattle.recording.specs.Recording.{State, places, Plan, refuse, change, performed, called}
use Rattle.recording.specs.Consequences.{Among}
use Rattle.recording.proofs.Entering.{Ending, unnamed, turned_away, enters, ending, enters_ends, after_elsewhere}
use Rattle.inpaint.specs.Gap.{gap_wrong, by_line, context, from, to, window_size, window, needed, known_before, known_behind, all_readable}
use Rattle.inpaint.specs.Gap.{left_of, right_of, line, model, repaired, gap_plan, gap_repair}
use Rattle.inpaint.specs.Order.{fill_order}
use Rattle.inpaint.specs.Reach.{SameWindow, WindowDecides, WindowDecidesOrder, RoomThatFits, GapAlone}
use Rattle.inpaint.proofs.window.Laws.{gap_right, right_gap}
use Rattle.inpaint.proofs.fill.Laws.{numbers}
use Rattle.inpaint.proofs.Plans.{gap_has_no_say, fill_order_same}
use Rattle.inpaint.proofs.Lawful.{plan_holds, gap_lawful}
use Rattle.inpaint.proofs.Scans.{span_places}

-- ---- Two recordings with the same window, the gap among it

-- a part at each place of which two lists agree
part_agrees : (l m : List ℕ) (low n : ℕ) → low + n ≤ length l → low + n ≤ length m
    → ((i : ℕ) → low ≤ i → i < low + n → get_or m i 0 ≡ get_or l i 0) → take n (drop low m) ≡ take n (drop low l)
part_agrees l m low n hl hm same =
    ext_get_or 0 _ _ (part_length m low n hm ∙ sym (part_length l low n hl))
    (λ i h. at_each i (rw (part_length m low n hm) at h))
  where
    read : (k : List ℕ) (i : ℕ) → i < n → get_or (take n (drop low k)) i 0 ≡ get_or k (low + i) 0
    read k i h = get_or-take n (drop low k) i 0 h ∙ get_or-drop low k i 0

    at_each : (i : ℕ) → i < n → get_or (take n (drop low m)) i 0 ≡ get_or (take n (drop low l)) i 0
    at_each i h = read m i h ∙ same (low + i) (omega arith) (omega arith) ∙ sym (read l i h)

-- the context has a sample at least
context_some : (len : ℕ) → 1 ≤ context len
context_some len = elim (truth (by_line len)) [ inl long ↦ rw long (omega arith) | inr short ↦ rw short (omega arith) ]

-- where the window ends at the same place, the gap lies within both or neither
both_within : (n m start len c : ℕ) → min m (start + len + c) ≡ min n (start + len + c) → start + len ≤ n → start + len ≤ m
both_within n m start len c ends h = omega arith

module _ (start len : ℕ) (samples others : List ℕ) (ends : to (length others) start len ≡ to (length samples) start len)
    (words : (i : ℕ) → from start len ≤ i → i < to (length samples) start len → get_or others i 0 ≡ get_or samples i 0)
    (inside : start + len ≤ length samples) where
  within : start + len ≤ length others
  within = both_within (length samples) (length others) start len (context len) ends inside

  before_same : known_before others start len ≡ known_before samples start len
  unfolding known_before
  before_same =
      part_agrees samples others (from start len) (start - from start len) (low (context len) (length samples) inside)
      (low (context len) (length others) within) (λ i l h. words i l (high (context len) i h))
    where
      low : (c n : ℕ) → start + len ≤ n → start - c + (start - (start - c)) ≤ n
      low c n h = omega arith

      high : (c i : ℕ) → i < start - c + (start - (start - c)) → i < min (length samples) (start + len + c)
      high c i h = omega (arith, inside)

  behind_same : known_behind others start len ≡ known_behind samples start len
  unfolding known_behind
  behind_same =
      rw ends
      (part_agrees samples others (start + len) (to (length samples) start len - (start + len)) (first (context len))
      (second (context len) ends) (λ i l h. words i (low (context len) i l) (high (context len) i h)))
    where
      first : (c : ℕ) → start + len + (min (length samples) (start + len + c) - (start + len)) ≤ length samples
      first c = omega (arith, inside)

      second : (c : ℕ) → min (length others) (start + len + c) ≡ min (length samples) (start + len + c)
          → start + len + (min (length samples) (start + len + c) - (start + len)) ≤ length others
      second c e = omega (arith, within)

      low : (c i : ℕ) → start + len ≤ i → start - c ≤ i
      low c i h = omega arith

      high : (c i : ℕ) → i < start + len + (min (length samples) (start + len + c) - (start + len)) → i < min (length samples) (start + len + c)
      high c i h = omega (arith, inside)

  known_same : all_readable others start len ≡ all_readable samples start len
  unfolding all_readable
  known_same = rw (before_same, behind_same) refl

  left_same : left_of others start ≡ left_of samples start
  unfolding left_of
  left_same =
      elim (truth (eqb start 0)) [
        | inl first ↦ rw first refl
        | inr later ↦ rw (later, words (start - 1) (low (context len) (context_some len)) (high (context len) (eqb-false start 0 later))) refl
      ]
    where
      low : (c : ℕ) → 1 ≤ c → start - c ≤ start - 1
      low c h = omega arith

      high : (c : ℕ) → (start ≡ 0 → ⊥) → start - 1 < min (length samples) (start + len + c)
      high c h = omega (arith, inside, h)

  right_same : right_of others (start + len) ≡ right_of samples (start + len)
  unfolding right_of
  right_same =
      elim (truth (leb (length samples) (start + len))) [
        | inl last ↦ rw (last, le-leb _ _ (no_more (context len) (context_some len) ends (leb-true _ _ last))) refl
        | inr more ↦
            let on = leb-false _ _ more in
            let further = one_more (context len) (context_some len) ends on in
            rw (more, lt-leb _ _ further, words (start + len) (low (context len)) (high (context len) (context_some len) on)) refl
      ]
    where
      no_more : (c : ℕ) → 1 ≤ c → min (length others) (start + len + c) ≡ min (length samples) (start + len + c)
          → length samples ≤ start + len → length others ≤ start + len
      no_more c some e h = omega arith

      one_more : (c : ℕ) → 1 ≤ c → min (length others) (start + len + c) ≡ min (length samples) (start + len + c)
          → start + len < length samples → start + len < length others
      one_more c some e h = omega arith

      low : (c : ℕ) → start - c ≤ start + len
      low c = omega arith

      high : (c : ℕ) → 1 ≤ c → start + len < length samples → start + len < min (length samples) (start + len + c)
      high c some h = omega arith

  line_same : line others start len ≡ line samples start len
  unfolding line
  line_same = rw (left_same, right_same) refl

  window_same : window others start len ≡ window samples start len
  unfolding window
  window_same =
      rw ends
      (part_agrees samples others (from start len) (window_size (length samples) start len)
      (numbers (length samples) start len (context len) inside).inside
      (fits (context len) ends) (λ i l h. words i l (high (context len) i h)))
    where
      fits : (c : ℕ) → min (length others) (start + len + c) ≡ min (length samples) (start + len + c)
          → start - c + (min (length samples) (start + len + c) - (start - c)) ≤ length others
      fits c e = omega (arith, within)

      high : (c i : ℕ) → i < start - c + (min (length samples) (start + len + c) - (start - c)) → i < min (length samples) (start + len + c)
      high c i h = omega (arith, inside)

  repaired_same : (passes : ℕ) → repaired passes others start len ≡ repaired passes samples start len
  unfolding repaired model
  repaired_same passes = rw (line_same, window_same) refl

  pub whole_order : (passes : ℕ) → fill_order passes others start len ≡ fill_order passes samples start len
  unfolding fill_order
  whole_order passes = rw window_same refl

  needed_same : needed (length others) start len ≡ needed (length samples) start len
  unfolding needed
  needed_same = rw ends refl

  pub whole_plan : 1 ≤ len → (passes room : ℕ) → gap_plan start len passes room others ≡ gap_plan start len passes room samples
  unfolding gap_plan
  whole_plan some passes room =
      rw (
        right_gap (length others) start len some within,
        right_gap (length samples) start len some inside,
        needed_same,
        known_same,
        repaired_same passes,
      ) refl

-- ---- The window decides

-- samples with other words in the gap: those that stand there in a recording with the same window have all of its window
module _ (start len : ℕ) (samples others : List ℕ) (same : SameWindow start len samples others) (inside : start + len ≤ length samples) where
  there : start + len ≤ length others
  there = both_within (length samples) (length others) start len (context len) same.ends inside

  filling : List ℕ
  filling = take len (drop start others)

  count : length filling ≡ len
  unfolding filling
  count = part_length others start len there

  filling_word : (j : ℕ) → j < len → get_or filling j 0 ≡ get_or others (start + j) 0
  unfolding filling
  filling_word j h = get_or-take len (drop start others) j 0 h ∙ get_or-drop start others j 0

  refilled : List ℕ
  refilled = sets samples start filling

  long : length refilled ≡ length samples
  unfolding refilled
  long = length-sets samples start filling

  refilled_words : (i : ℕ) → from start len ≤ i → i < to (length samples) start len → get_or others i 0 ≡ get_or refilled i 0
  unfolding refilled
  refilled_words i low high = go (lt_or_ge i start) (lt_or_ge i (start + len))
    where
      outside : (start ≤ i → i < start + len → ⊥) → get_or others i 0 ≡ get_or samples i 0
      outside out = same.words i low high out

      go : (i < start) ⊎ (start ≤ i) → (i < start + len) ⊎ (start + len ≤ i) → get_or others i 0 ≡ get_or (sets samples start filling) i 0
      go (inl before) k = outside (λ l h. omega arith) ∙ sym (read_before samples filling start i 0 before)
      go (inr on) (inr behind) = outside (λ l h. omega arith) ∙ sym (read_after samples filling start i 0 (omega (arith, count)))
      go (inr on) (inl inner) =
          let there : start + (i - start) ≡ i = omega arith in
          let stored = read_within samples filling start (i - start) 0 (omega (arith, count)) (omega (arith, count)) in
          sym (rw there at (stored ∙ filling_word (i - start) (omega arith)))

  ends_too : to (length others) start len ≡ to (length refilled) start len
  ends_too = rw long same.ends

  words_too : (i : ℕ) → from start len ≤ i → i < to (length refilled) start len → get_or others i 0 ≡ get_or refilled i 0
  words_too i low high = refilled_words i low (rw long at high)

  pub plan_decided : 1 ≤ len → (passes room : ℕ) → gap_plan start len passes room others ≡ gap_plan start len passes room samples
  plan_decided some passes room =
      whole_plan start len refilled others ends_too words_too (rw long inside) some passes room
      ∙ unfold refilled in gap_has_no_say start len passes room samples filling count

  pub order_decided : (passes : ℕ) → fill_order passes others start len ≡ fill_order passes samples start len
  order_decided passes =
      whole_order start len refilled others ends_too words_too (rw long inside) passes
      ∙ unfold refilled in fill_order_same start len samples filling count inside passes

pub window_decides : WindowDecides
window_decides start len passes room samples others same =
    go (truth (gap_wrong (length samples) start len)) (truth (gap_wrong (length others) start len))
  where
    go : EitherWay (gap_wrong (length samples) start len) → EitherWay (gap_wrong (length others) start len)
        → gap_plan start len passes room others ≡ gap_plan start len passes room samples
    go (inr right) other =
        let fine = gap_right (length samples) start len right in
        plan_decided start len samples others same fine.inside fine.some passes room
    go (inl wrong) (inl wrong-too) = unfold gap_plan in (rw (wrong, wrong-too) refl)
    go (inl wrong) (inr right) =
        let fine = gap_right (length others) start len right in
        let inside = both_within (length others) (length samples) start len (context len) (sym same.ends) fine.inside in
        absurd (true≢false (sym wrong ∙ right_gap (length samples) start len fine.some inside))

pub window_decides_order : WindowDecidesOrder
window_decides_order start len passes samples others right same =
    order_decided start len samples others same (gap_right (length samples) start len right).inside passes

pub room_that_fits : RoomThatFits
unfolding gap_plan
room_that_fits start len passes room other samples fits fits-too = rw (le-ltb _ _ fits, le-ltb _ _ fits-too) refl

-- ---- The gap alone is written

-- of a plan: it names samples of its gap alone
abbrev pub NamesWithin : ℕ → ℕ → ℕ → Plan → Type 0
NamesWithin start len j (refuse why) = Unit {0}
NamesWithin start len j (change mark cs) = Among j (places cs) → (start ≤ j) × (j < start + len)

pub names_within : (start len passes room j : ℕ) (samples : List ℕ) → NamesWithin start len j (gap_plan start len passes room samples)
names_within start len passes room j samples =
    plan_holds (NamesWithin start len j) start len passes room samples (λ h. tt) (λ h. tt) (λ i. tt)
    (λ mark ws m count inside among. let within = span_places j start ws among in (within.0, omega (arith, within.1, count)))

pub gap_alone : GapAlone
unfolding gap_repair called
gap_alone start len passes room s i out = go (ending s plan (gap_lawful start len passes room s.samples))
  where
    plan : Plan
    plan = gap_plan start len passes room s.samples

    Same : State → Type 0
    Same t = (get_or t.samples i 0 ≡ get_or s.samples i 0) × (get_or t.marks i 0 ≡ get_or s.marks i 0)

    go : Ending s plan → Same (performed s plan).after
    go (unnamed mark p e) = rw e (refl, refl)
    go (turned_away why e) = rw e (refl, refl)
    go (enters mark cs p e) =
        let within : NamesWithin start len i (change mark cs) = rw p at (names_within start len passes room i s.samples) in
        let ends = ap (performed s) p ∙ enters_ends e in
        rw ends (after_elsewhere s mark cs i (λ (a : Among i (places cs)). let w = within a in out w.0 w.1))
