-- Several gaps in any order: what request P13 of document 02 comes to for the list of request P6. Of two gaps it stands in EitherOrder.antt.
-- Definitions, and then the statement, which is proved as `any_order` of proofs/AnyOrder.antt, which nobody has to read.
use Rattle.std.specs.Prelude.{ℕ, ◌≡◌, length, replicate, Float}
use mathlib.Core.List.{List, [], ◌∷◌, map, flatten, Permᴰ}
use Rattle.std.proofs.lemmas.List.Edits.{sets}
use Rattle.recording.specs.Answers.{number, value}
use Rattle.recording.specs.Recording.{State}
use Rattle.inpaint.specs.Runs.{Stretch}
use Rattle.splice.specs.Several.{AnswerLists, answer_lists, in_turn}
use Rattle.splice.specs.EitherOrder.{Apart, Given, repair_of, order_of, AlikeButJournal, gap_entry}

-- "neither gap touches the other's window", of one gap and each of a list, and of each two of a list
abbrev pub ApartFrom : ℕ → Stretch → List Stretch → Type 0
ApartFrom n g [] = Unit {0}
ApartFrom n g (h ∷ hs) = Apart n g h × ApartFrom n g hs

abbrev pub AllApart : ℕ → List Stretch → Type 0
AllApart n [] = Unit {0}
AllApart n (g ∷ gs) = ApartFrom n g gs × AllApart n gs

-- all spans of a list are accepted
abbrev pub AllAccepted : ℕ → List Stretch → List Float → State → Type 0
AllAccepted passes gs work s = (in_turn passes gs work s).lists.numbers ≡ replicate (length gs) 0

-- what a list of calls is given: a workspace, which the spans share
abbrev pub shared : ℕ → List Float → Given
shared passes work = record { passes = passes; room = length work }

-- what each gap of a list answers when its call is the only one on the recording
abbrev pub alone_answers : List Stretch → Given → State → AnswerLists
alone_answers gs a s =
    answer_lists (map (λ (g : Stretch). number (repair_of g a s).answer) gs) (map (λ (g : Stretch). value (repair_of g a s).answer) gs)
    (map (λ (g : Stretch). order_of g a s) gs)

-- and the entries of their repairs, one behind the other
abbrev pub alone_entries : List Stretch → Given → State → List ℕ
alone_entries gs a s = flatten (map (λ (g : Stretch). gap_entry g a s) gs)

-- In any other order, which is a permutation of the list, all are accepted too, with equal samples, marks, block counts, used and
-- workspace. There, as in the list's own order, each gap answers what it answers alone, and the journal has the entries in the order of the
-- gaps.
pub record AnotherOrder (passes : ℕ) (gs hs : List Stretch) (work : List Float) (s : State) : Type 0 where
  pub accepted : AllAccepted passes hs work s
  pub answers : (in_turn passes hs work s).lists ≡ alone_answers hs (shared passes work) s
  pub alike : AlikeButJournal (in_turn passes gs work s).after (in_turn passes hs work s).after
  pub work_alike : (in_turn passes hs work s).work ≡ (in_turn passes gs work s).work
  pub journal : (in_turn passes hs work s).after.journal ≡ sets s.journal s.used (alone_entries hs (shared passes work) s)

abbrev pub AnyOrder : Type 0
AnyOrder =
    (passes : ℕ) (gs hs : List Stretch) (work : List Float) (s : State) → Permᴰ gs hs → AllApart (length s.samples) gs
    → AllAccepted passes gs work s → AnotherOrder passes gs hs work s
