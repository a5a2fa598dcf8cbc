-- Two gaps in either order and several in any, as calls, as specs/EitherOrder.antt states it: what the crate `splice` proves of the rules.
-- Assumes nothing.
use mathlib.Core.Path.{◌≡◌, sym, ap, ◌∙◌}
use mathlib.Core.Bool.{false}
use mathlib.Core.List.{List, [], ◌∷◌}
use Prim.Native.Nat.{ℕ}
use lib.ListN.{length, replicate}
use lib.Ieee.{Float}
use Rattle.recording.specs.Answers.{number, value}
use Rattle.recording.specs.Recording.{State}
use Rattle.recording.specs.Answer.{Answer}
use Rattle.splice.specs.Several.{spans, AnswerLists, lists_wrong, Several, in_turn, gaps_repair}
use Rattle.splice.specs.AnyOrder.{AllAccepted}
use Rattle.splice.proofs.Laws.{as_long, spans_count}
use Rattle.splice.proofs.InTurn.{taken_list}
use Rattle.splice.proofs.EitherOrder.{either_order}
use Rattle.splice.proofs.AnyOrder.{any_order}
use Rattle.cathar.specs.Calls.{doubles}
use Rattle.cathar.specs.EitherOrder.{sized, EitherOrderOfCalls, AnyOrderOfCalls}

pub either_order_of_calls : EitherOrderOfCalls
either_order_of_calls g a a' h b b' s apart first second fits-g fits-h =
    let o = either_order g (sized a) (sized a') h (sized b) (sized b') s apart first second fits-g fits-h in
    record {
      first = (ap number o.first ∙ second, ap (λ (x : Answer). value x ∷ []) o.first);
      second = (ap number o.second ∙ first, ap (λ (x : Answer). value x ∷ []) o.second);
      first_order = o.first_order;
      second_order = o.second_order;
      alike = o.alike;
      entries = o.entries;
    }

-- a list that is not turned away is repaired in turn, and has as many spans as starts
module _ (starts lens : List ℕ) (passes : ℕ) (work : List Float) (lists : AnswerLists) (s : State)
    (taken : lists_wrong starts lens lists ≡ false) where
  turns : gaps_repair starts lens passes work lists s ≡ in_turn passes (spans starts lens) work s
  turns = (taken_list starts lens passes work lists s taken).0

  count : length (spans starts lens) ≡ length starts
  count =
      spans_count starts lens
      (as_long (length starts) (length lens) (length lists.numbers) (length lists.values) (length lists.orders) taken).of_lens

pub any_order_of_calls : AnyOrderOfCalls
any_order_of_calls starts lens starts' lens' passes work lists lists' s taken taken' order apart accepted =
    let one = turns starts lens passes work lists s taken in
    let other = turns starts' lens' passes work lists' s taken' in
    let all : AllAccepted passes (spans starts lens) work s =
    sym (ap (λ (c : Several). c.lists.numbers) one) ∙ accepted
    ∙ sym (ap (λ (k : ℕ). replicate k 0) (count starts lens passes work lists s taken)) in
    let o = any_order passes (spans starts lens) (spans starts' lens') work s order apart all in
    record {
      accepted =
          ap (λ (c : Several). c.lists.numbers) other ∙ o.accepted
          ∙ ap (λ (k : ℕ). replicate k 0) (count starts' lens' passes work lists' s taken');
      answers = ap (λ (c : Several). c.lists) other ∙ o.answers;
      alike = rw (one, other) o.alike;
      work_alike = rw (one, other) (ap doubles o.work_alike);
      journal = ap (λ (c : Several). c.after.journal) other ∙ o.journal;
    }
