-- Request P13 of document 02, of the calls of this library: two gaps neither of which touches the other's window may be repaired in either
-- order, and a list of such gaps in any. Definitions, and then two statements over those of specs/EitherOrder.antt of the crate `splice`;
-- they are proved as `either_order_of_calls` and `any_order_of_calls` of proofs/EitherOrder.antt, which nobody has to read.
use Rattle.std.specs.Prelude.{ℕ, ◌≡◌, false, length, replicate, Float}
use mathlib.Core.List.{List, Permᴰ}
use Rattle.std.proofs.lemmas.List.Edits.{sets}
use Rattle.recording.specs.Recording.{State}
use Rattle.inpaint.specs.Runs.{Stretch}
use Rattle.splice.specs.Several.{spans, AnswerLists, lists_wrong}
use Rattle.splice.specs.EitherOrder.{Apart, Given, Fitting, order_of, AlikeButJournal, gap_entry, SwappedEntries}
use Rattle.splice.specs.AnyOrder.{AllApart, shared, alone_answers, alone_entries}
use Rattle.cathar.specs.Calls.{Call, gap, gaps, ran, answers_of}

-- what the call on a gap is lent beside the recording: the count of passes, and a workspace
pub record Lent : Type 0 where
  pub passes : ℕ
  pub work : List Float

abbrev pub call_on : Stretch → Lent → Call
call_on g a = gap g.start g.len a.passes a.work

-- the same for the rules, which ask for its size alone
abbrev pub sized : Lent → Given
sized a = record { passes = a.passes; room = length a.work }

-- the recording after the call on a gap
abbrev pub after_call : Stretch → Lent → State → State
after_call g a s = (ran (call_on g a) s).after

-- In the one order the call on g is made, lent `a`, and then that on h, lent `b`, and both are accepted; in the other that on h is made,
-- lent `b'`, and then that on g, lent `a'`. Both are accepted there too, with the same figure each, and the same order of each model.
pub record CallsOtherOrder (g : Stretch) (a a' : Lent) (h : Stretch) (b b' : Lent) (s : State) : Type 0 where
  pub first : ((ran (call_on h b') s).number ≡ 0) × ((ran (call_on h b') s).figures ≡ (ran (call_on h b) (after_call g a s)).figures)
  pub second : ((ran (call_on g a') (after_call h b' s)).number ≡ 0)
      × ((ran (call_on g a') (after_call h b' s)).figures ≡ (ran (call_on g a) s).figures)
  pub first_order : order_of h (sized b') s ≡ order_of h (sized b) (after_call g a s)
  pub second_order : order_of g (sized a') (after_call h b' s) ≡ order_of g (sized a) s
  pub alike : AlikeButJournal (after_call h b (after_call g a s)) (after_call g a' (after_call h b' s))
  pub entries : SwappedEntries s (after_call h b (after_call g a s)) (after_call g a' (after_call h b' s))
      (gap_entry g (sized a) s) (gap_entry h (sized b) s)

abbrev pub EitherOrderOfCalls : Type 0
EitherOrderOfCalls =
    (g : Stretch) (a a' : Lent) (h : Stretch) (b b' : Lent) (s : State) → Apart (length s.samples) g h
    → (ran (call_on g a) s).number ≡ 0 → (ran (call_on h b) (after_call g a s)).number ≡ 0
    → Fitting (length s.samples) g (sized a') → Fitting (length s.samples) h (sized b')
    → CallsOtherOrder g a a' h b b' s

-- Several gaps in one call, all accepted, and the same gaps in a list of another order, with other lists for the answers: all are accepted
-- there too, each has in its place what its call alone answers, the journal has the entries in the list's order, and all else is the same.
pub record CallsAnotherOrder (starts lens starts' lens' : List ℕ) (passes : ℕ) (work : List Float) (lists lists' : AnswerLists) (s : State)
    : Type 0 where
  pub accepted : (answers_of starts' lens' passes work lists' s).numbers ≡ replicate (length starts') 0
  pub answers : answers_of starts' lens' passes work lists' s ≡ alone_answers (spans starts' lens') (shared passes work) s
  pub alike : AlikeButJournal (ran (gaps starts lens passes work lists) s).after (ran (gaps starts' lens' passes work lists') s).after
  pub work_alike : (ran (gaps starts' lens' passes work lists') s).work ≡ (ran (gaps starts lens passes work lists) s).work
  pub journal : (ran (gaps starts' lens' passes work lists') s).after.journal
      ≡ sets s.journal s.used (alone_entries (spans starts' lens') (shared passes work) s)

abbrev pub AnyOrderOfCalls : Type 0
AnyOrderOfCalls =
    (starts lens starts' lens' : List ℕ) (passes : ℕ) (work : List Float) (lists lists' : AnswerLists) (s : State)
    → lists_wrong starts lens lists ≡ false → lists_wrong starts' lens' lists' ≡ false
    → Permᴰ (spans starts lens) (spans starts' lens') → AllApart (length s.samples) (spans starts lens)
    → (answers_of starts lens passes work lists s).numbers ≡ replicate (length starts) 0
    → CallsAnotherOrder starts lens starts' lens' passes work lists lists' s
