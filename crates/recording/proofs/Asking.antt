-- The span question, as specs/Consequences.antt speaks of it: where the counts are those of the marks, the blocks between say what their
-- marks say, so that the three parts of the answer are the marks of the whole span. Assumes nothing.
use mathlib.Core.Path.{◌≡◌, refl, sym, ap, ap₂, ◌∙◌}
use mathlib.Core.Bool.{Bool, true, ◌&&◌, and_assoc}
use mathlib.Core.List.{List}
use mathlib.Core.Logic.{◌⊎◌, inl, inr}
use Prim.Native.Nat.{ℕ, zero, suc, ◌+◌, ◌-◌, ◌*◌, ◌≤◌, ◌<◌}
use native.Mathlib.Decide.{ℕ_discrete}
use native.Mathlib.Omega.{arith}
use native.Mathlib.Nat.{add-zero, zero-add, suc-add}
use lib.ListN.{length, get_or}
use lib.Dec.{eqb}
use borrow.Author.Tests.{eqb-true, eq-eqb, ne_eqb, le-ltb, ltb-false}
use Rattle.leaves.proofs.Choice.{truth, EitherWay, both_hold, picks_by}
use Rattle.recording.specs.Answers.{verdict_yes}
use Rattle.recording.specs.Marks.{measured}
use Rattle.recording.specs.Counts.{block_size, block_of, block_begin, block_length, unmeasured, count_of}
use Rattle.recording.specs.Counts.{counted, miscounted}
use Rattle.recording.specs.Question.{all_are, marks_say, counts_say, span_measured, span_past, span_verdict}
use Rattle.recording.specs.Consequences.{EachMeasured, AnswerIsEachMark, YesExactlyWhen}
use Rattle.recording.specs.Consequences.{OtherMarksHaveNoSay, OtherCountsHaveNoSay}
use Rattle.recording.specs.Answer.{Verdict}
use Rattle.std.specs.Prelude.{Ok, true, false}
use Rattle.recording.proofs.Counting.{length_counted, read_counted}
use Rattle.recording.proofs.question.Laws.{span_one, span_parts}

-- ---- A stretch of elements

-- two stretches, one behind the other
all_join : (k : ℕ) (l : List ℕ) (i n m : ℕ) → all_are k l i (n + m) ≡ all_are k l i n && all_are k l (i + n) m
unfolding all_are
all_join k l i zero m = rw (add-zero, zero-add) refl
all_join k l i (suc n) m =
    let there : i + suc n ≡ i + 1 + n = omega arith in
    rw (there, suc-add, all_join k l (i + 1) n m) (sym (and_assoc (eqb (get_or l i 0) k) (all_are k l (i + 1) n) (all_are k l (i + 1 + n) m)))

-- elements elsewhere have no say
all_same : (k : ℕ) (a b : List ℕ) (i n : ℕ) → ((j : ℕ) → i ≤ j → j < i + n → get_or a j 0 ≡ get_or b j 0) → all_are k a i n ≡ all_are k b i n
unfolding all_are
all_same k a b i zero same = refl
all_same k a b i (suc n) same =
    rw (same i (omega arith) (omega arith), all_same k a b (i + 1) n (λ j h g. same j (omega arith) (omega arith))) refl

-- each element is this one, and the other way round
all_each : (k : ℕ) (l : List ℕ) (i n : ℕ) → all_are k l i n ≡ true → (j : ℕ) → i ≤ j → j < i + n → get_or l j 0 ≡ k
unfolding all_are
all_each k l i zero h j low high = absurd (omega arith)
all_each k l i (suc n) h j low high =
    let both = both_hold (eqb (get_or l i 0) k) (all_are k l (i + 1) n) h in
    elim (ℕ_discrete j i) [
      | yes e ↦ rw e (eqb-true _ _ both.0)
      | no f ↦ all_each k l (i + 1) n both.1 j (omega arith) (omega arith)
    ]

each_all : (k : ℕ) (l : List ℕ) (i n : ℕ) → ((j : ℕ) → i ≤ j → j < i + n → get_or l j 0 ≡ k) → all_are k l i n ≡ true
unfolding all_are
each_all k l i zero all = refl
each_all k l i (suc n) all =
    rw (eq-eqb _ _ (all i (omega arith) (omega arith)), each_all k l (i + 1) n (λ j h g. all j (omega arith) (omega arith))) refl

-- ---- The counts say what the marks say

-- none of these marks is counted exactly where each says measured
none_counted : (marks : List ℕ) (i n : ℕ) → eqb (unmeasured marks i n) 0 ≡ marks_say marks i n
unfolding unmeasured all_are
none_counted marks i zero = refl
none_counted marks i (suc n) =
    let rest = unmeasured marks (i + 1) n in
    elim (truth (eqb (get_or marks i 0) measured)) [
      | inl t ↦ rw (t, zero-add) (none_counted marks (i + 1) n)
      | inr f ↦ rw f (ne_eqb (1 + rest) 0 (λ (z : 1 + rest ≡ 0). omega arith))
    ]

-- blocks that are whole
whole_block : (marks : List ℕ) (block : ℕ) → block_begin (block + 1) ≤ length marks
    → get_or (counted marks) block 0 ≡ unmeasured marks (block_begin block) block_size
unfolding count_of
whole_block marks block here =
    let whole : block_length (length marks) block ≡ block_size = omega arith in
    read_counted marks block (omega arith) ∙ ap (unmeasured marks (block_begin block)) whole

blocks_say : (marks : List ℕ) (block n : ℕ) → block_begin (block + n) ≤ length marks
    → counts_say (counted marks) block n ≡ marks_say marks (block_begin block) (n * block_size)
unfolding all_are
blocks_say marks block zero h = refl
blocks_say marks block (suc n) h =
    let here : block_begin (block + 1) ≤ length marks = omega arith in
    let next : block_begin (block + 1) ≡ block_begin block + block_size = omega arith in
    let size : block_size + n * block_size ≡ suc n * block_size = omega arith in
    ap₂ ◌&&◌ (ap (λ (k : ℕ). eqb k 0) (whole_block marks block here) ∙ none_counted marks (block_begin block) block_size)
    (blocks_say marks (block + 1) n (omega arith) ∙ ap (λ (k : ℕ). marks_say marks k (n * block_size)) next)
    ∙ sym (all_join measured marks (block_begin block) block_size (n * block_size))
    ∙ ap (marks_say marks (block_begin block)) size

-- ---- The span

-- the marks of the whole span, in its three parts
span_joined : (marks : List ℕ) (start more : ℕ) → start + suc more ≤ length marks → (block_of start ≡ block_of (start + more) → ⊥)
    → let second = block_of start + 1 in
    let final = block_of (start + more) in
    marks_say marks start (block_begin second - start) && counts_say (counted marks) second (final - second)
    && marks_say marks (block_begin final) (start + more + 1 - block_begin final)
    ≡ marks_say marks start (suc more)
span_joined marks start more h several =
    let second = block_of start + 1 in
    let final = block_of (start + more) in
    let a = block_begin second - start in
    let b = (final - second) * block_size in
    let c = start + more + 1 - block_begin final in
    let begins : block_begin second ≡ start + a = omega arith in
    let ends : block_begin final ≡ start + (a + b) = omega arith in
    let size : a + b + c ≡ suc more = omega arith in
    ap₂ ◌&&◌
    (ap (λ (x : Bool). marks_say marks start a && x)
    (blocks_say marks second (final - second) (omega arith) ∙ ap (λ (k : ℕ). marks_say marks k b) begins)
    ∙ sym (all_join measured marks start a b))
    (ap (λ (k : ℕ). marks_say marks k c) ends)
    ∙ sym (all_join measured marks start (a + b) c)
    ∙ ap (marks_say marks start) size

-- so the answer is that of looking at each mark
span_each : (marks : List ℕ) (start len : ℕ) → start + len ≤ length marks → span_measured marks (counted marks) start len ≡ marks_say marks start len
span_each marks start zero h = unfold span_measured all_are in refl
span_each marks start (suc more) h =
    elim (ℕ_discrete (block_of start) (block_of (start + more))) [
      | yes e ↦ sym (span_one marks (counted marks) start more e)
      | no f ↦ sym (span_parts marks (counted marks) start more f) ∙ span_joined marks start more h f
    ]

pub answer_is_each_mark : AnswerIsEachMark
unfolding span_verdict
answer_is_each_mark marks start len h =
    rw (eq-eqb _ _ (length_counted marks), le-ltb (length marks) (start + len) h, span_each marks start len h) refl

-- a span that passes the end has no answer
past_no_answer : (marks counts : List ℕ) (start len : ℕ) → span_verdict marks counts start len ≡ Ok true → start + len ≤ length marks
unfolding span_verdict
past_no_answer marks counts start len =
    picks_by (λ (v : Verdict). v ≡ Ok true → start + len ≤ length marks) (miscounted (length marks) counts) _ _
    (λ wrong e. absurd (omega (arith, ap verdict_yes e)))
    (λ right. picks_by (λ (v : Verdict). v ≡ Ok true → start + len ≤ length marks) (span_past (length marks) start len) _ _
    (λ past e. absurd (omega (arith, ap verdict_yes e))) (λ within e. ltb-false _ _ within))

pub yes_exactly_when : YesExactlyWhen
yes_exactly_when marks start len = (yes_each (truth (marks_say marks start len)), each_yes)
  where
    yes_each : EitherWay (marks_say marks start len) → span_verdict marks (counted marks) start len ≡ Ok true → EachMeasured marks start len
    yes_each (inl t) e i = all_each measured marks start len t i
    yes_each (inr f) e i =
        let within = past_no_answer marks (counted marks) start len e in
        let no : Ok false ≡ Ok true = sym (rw f at (answer_is_each_mark marks start len within)) ∙ e in
        absurd (omega (arith, ap verdict_yes no))

    each_yes : start + len ≤ length marks → EachMeasured marks start len → span_verdict marks (counted marks) start len ≡ Ok true
    each_yes within all = rw (each_all measured marks start len all) at (answer_is_each_mark marks start len within)

-- ---- Who has no say

-- a place within the span's first part, and one within its last, lie in the blocks of its ends
same_marks : (marks others counts : List ℕ) (start len : ℕ)
    → ((i : ℕ) → (block_of i ≡ block_of start) ⊎ (block_of i ≡ block_of (start + len - 1)) → get_or others i 0 ≡ get_or marks i 0)
    → span_measured others counts start len ≡ span_measured marks counts start len
same_marks marks others counts start zero same = unfold span_measured in refl
same_marks marks others counts start (suc more) same =
    elim (ℕ_discrete (block_of start) (block_of (start + more))) [
      | yes e ↦ sym (span_one others counts start more e)
          ∙ all_same measured others marks start (suc more) (λ i low high. same i (inl (omega arith)))
          ∙ span_one marks counts start more e
      | no f ↦ sym (span_parts others counts start more f)
          ∙ ap₂ ◌&&◌
          (ap (λ (x : Bool). x && counts_say counts (block_of start + 1) (block_of (start + more) - (block_of start + 1)))
          (all_same measured others marks start _ (λ i low high. same i (inl (omega arith)))))
          (all_same measured others marks _ _ (λ i low high. same i (inr (omega arith))))
          ∙ span_parts marks counts start more f
    ]

pub other_marks_have_no_say : OtherMarksHaveNoSay
unfolding span_verdict
other_marks_have_no_say marks others counts start len long same = rw (long, same_marks marks others counts start len same) refl

same_counts : (marks counts others : List ℕ) (start len : ℕ)
    → ((block : ℕ) → block_of start < block → block < block_of (start + len - 1) → get_or others block 0 ≡ get_or counts block 0)
    → span_measured marks others start len ≡ span_measured marks counts start len
same_counts marks counts others start zero same = unfold span_measured in refl
same_counts marks counts others start (suc more) same =
    let final = block_begin (block_of (start + more)) in
    let behind = marks_say marks final (start + more + 1 - final) in
    elim (ℕ_discrete (block_of start) (block_of (start + more))) [
      | yes e ↦ sym (span_one marks others start more e) ∙ span_one marks counts start more e
      | no f ↦ sym (span_parts marks others start more f)
          ∙ ap (λ (x : Bool). marks_say marks start (block_begin (block_of start + 1) - start) && x && behind)
          (all_same 0 others counts (block_of start + 1) _ (λ block low high. same block (omega arith) (omega arith)))
          ∙ span_parts marks counts start more f
    ]

pub other_counts_have_no_say : OtherCountsHaveNoSay
unfolding span_verdict
other_counts_have_no_say marks counts others start len long same = rw (long, same_counts marks counts others start len same) refl
