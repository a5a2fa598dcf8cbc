-- The span question, line by line: one turn of the loops that look at marks and at counts, whatever they look for, the parts of a span, and how the
-- question ends. Assumes nothing.
use mathlib.Core.Path.{◌≡◌, refl, sym, ap, ◌∙◌}
use mathlib.Core.Bool.{Bool, true, false, ◌&&◌}
use mathlib.Core.List.{List}
use Prim.Native.Nat.{ℕ, zero, suc, ◌+◌, ◌-◌, ◌≤◌, ◌<◌}
use native.Mathlib.Omega.{arith}
use lib.ListN.{length, get_or}
use borrow.Author.Tests.{eq-eqb, ne_eqb}
use Rattle.recording.specs.Counts.{block_of, block_begin, blocks}
use Rattle.recording.specs.Question.{all_are, marks_say, counts_say, span_measured, span_past, span_verdict}
use Rattle.recording.specs.declared.Reason.TheVariants.{Gap, Blocks}
use Rattle.std.specs.Prelude.{Ok, Err}

-- ---- One turn over a stretch of elements

module _ (k : ℕ) (l : List ℕ) (start n i : ℕ) (whole : Bool) (rest : all_are k l (start + i) (n - i) ≡ whole) where
  -- nothing is left to look at
  pub all_looked : n ≤ i → true ≡ whole
  unfolding all_are
  all_looked h = let none : n - i ≡ 0 = omega arith in sym (ap (all_are k l (start + i)) none) ∙ rest

  module _ (more : i < n) where
    left_more : n - i ≡ suc (n - (i + 1))
    left_more = omega arith

    -- an element that is another
    pub one_other : (get_or l (start + i) 0 ≡ k → ⊥) → false ≡ whole
    unfolding all_are
    one_other h = rw (ne_eqb _ _ h) at (sym (ap (all_are k l (start + i)) left_more) ∙ rest)

    -- one that is not
    pub one_same : get_or l (start + i) 0 ≡ k → all_are k l (start + (i + 1)) (n - (i + 1)) ≡ whole
    unfolding all_are
    one_same h =
        let next : start + (i + 1) ≡ start + i + 1 = omega arith in
        rw next (rw (eq-eqb _ _ h) at (sym (ap (all_are k l (start + i)) left_more) ∙ rest))

-- ---- A span within one block, and over several

module _ (marks counts : List ℕ) (start : ℕ) where
  -- a span of no samples
  pub span_none : (len : ℕ) → len ≡ 0 → true ≡ span_measured marks counts start len
  unfolding span_measured
  span_none len h = rw h refl

  module _ (more : ℕ) where
    -- the block behind the first, and the last
    abbrev second : ℕ
    second = block_of start + 1

    abbrev final : ℕ
    final = block_of (start + more)

    pub span_one : block_of start ≡ final → marks_say marks start (suc more) ≡ span_measured marks counts start (suc more)
    unfolding span_measured
    span_one h = rw (eq-eqb _ _ h) refl

    pub span_parts : (block_of start ≡ final → ⊥)
        → marks_say marks start (block_begin second - start) && counts_say counts second (final - second)
        && marks_say marks (block_begin final) (start + more + 1 - block_begin final)
        ≡ span_measured marks counts start (suc more)
    unfolding span_measured
    span_parts h = rw (ne_eqb _ _ h) refl

-- the same of a span of len samples, as the code has it: the last sample lies one place before the end
pub span_within : (marks counts : List ℕ) (start len : ℕ) → (len ≡ 0 → ⊥) → block_of start ≡ block_of (start + len - 1)
    → marks_say marks start len ≡ span_measured marks counts start len
span_within marks counts start zero some h = absurd (some refl)
span_within marks counts start (suc more) some h =
    let last : start + suc more - 1 ≡ start + more = omega arith in
    span_one marks counts start more (rw last at h)

pub span_several : (marks counts : List ℕ) (start len : ℕ) → (len ≡ 0 → ⊥) → (block_of start ≡ block_of (start + len - 1) → ⊥)
    → let second = block_of start + 1 in
    let final = block_of (start + len - 1) in
    marks_say marks start (block_begin second - start) && counts_say counts second (final - second)
    && marks_say marks (block_begin final) (start + len - block_begin final)
    ≡ span_measured marks counts start len
span_several marks counts start zero some h = absurd (some refl)
span_several marks counts start (suc more) some h =
    let last : start + suc more - 1 ≡ start + more = omega arith in
    let end : start + suc more ≡ start + more + 1 = omega arith in
    rw (last, end) (span_parts marks counts start more (rw last at h))

-- ---- How the question ends

module _ (marks counts : List ℕ) (start len : ℕ) where
  pub verdict_blocks : (length counts ≡ blocks (length marks) → ⊥) → Err Blocks ≡ span_verdict marks counts start len
  unfolding span_verdict
  verdict_blocks h = rw (ne_eqb _ _ h) refl

  module _ (one : length counts ≡ blocks (length marks)) (past : Bool) (tested : past ≡ span_past (length marks) start len) where
    pub verdict_gap : past ≡ true → Err Gap ≡ span_verdict marks counts start len
    unfolding span_verdict
    verdict_gap h = rw (eq-eqb _ _ one, ← tested, h) refl

    module _ (inside : past ≡ false) (says : Bool) (looked : says ≡ span_measured marks counts start len) where
      pub verdict_said : Ok says ≡ span_verdict marks counts start len
      unfolding span_verdict
      verdict_said = rw (eq-eqb _ _ one, ← tested, inside, ← looked) refl
