-- A detector kept in lent words between calls, as the exported functions have it. Definitions only.
use Rattle.std.specs.Prelude.{ℕ, ◌+◌, Bool, List, [], ◌∷◌, ◌++◌, length, get_or, drop, ltb, eqb, Float}
use Rattle.std.specs.Float.{binary32}
use Rattle.std.specs.Float.Ieee.{to_bits}
use Rattle.leaves.specs.Arithmetic.{float}
use Rattle.std.specs.Prelude.{if◌then◌else◌}
use Rattle.recording.specs.Answers.{number}
use Rattle.recording.specs.declared.Reason.{Reason}
use Rattle.recording.specs.declared.Reason.TheVariants.{Workspace}
use Rattle.recording.specs.Answer.{Answer}
use Rattle.std.specs.Prelude.{Result, Ok, Err}
use Rattle.decrackle.specs.declared.Start.{Start}
use Rattle.decrackle.specs.declared.Start.TheVariants.{Mean, Old}
use Rattle.decrackle.specs.Decrackle.{mean_over}
use Rattle.crackle.specs.declared.Detector.{Detector}
use Rattle.crackle.specs.Pieces.{announced, Holding, holding, Told, told, piece_told, end_told}

-- ---- The words

-- so many are the detector itself, and so many belong to it with the values that it holds back, for either start; what lies behind them stays
abbrev pub head_words : ℕ
head_words = 8

abbrev pub state_words : ℕ
state_words = head_words + mean_over

-- 1 for a run that goes on, and else 0
abbrev pub running_word : Bool → ℕ
running_word running = if running then 1 else 0

-- 1 for the new start, and else 0
unfoldable pub start_word : Start → ℕ
start_word Mean = 1
start_word Old = 0

abbrev pub start_of : ℕ → Start
start_of word = if eqb word 1 then Mean else Old

-- the detector: numbers as they are, floats as their patterns
unfoldable pub head_of : Detector → List ℕ
unfolding start_word to_bits
head_of d =
    d.total
    ∷ d.taken
    ∷ running_word d.running
    ∷ to_bits binary32 d.factor
    ∷ to_bits binary32 d.floor
    ∷ to_bits binary32 d.before
    ∷ to_bits binary32 d.last
    ∷ start_word d.start
    ∷ []

-- and the values behind it
unfoldable pub words_of : Holding → List ℕ
unfolding head_of
words_of h = head_of h.detector ++ h.values

-- the detector of any words: a run goes on where the third is 1, and starts from the mean where the eighth is 1
unfoldable pub detector_of : List ℕ → Detector
unfolding float
detector_of words =
    record {
      start = start_of (get_or words 7 0);
      total = get_or words 0 0;
      taken = get_or words 1 0;
      running = eqb (get_or words 2 0) 1;
      factor = float (get_or words 3 0);
      floor = float (get_or words 4 0);
      before = float (get_or words 5 0);
      last = float (get_or words 6 0);
    }

-- and the values that it holds back
unfoldable pub holding_of : List ℕ → Holding
unfolding detector_of
holding_of words = holding (detector_of words) (drop head_words words)

-- ---- The calls

-- fewer words than belong to a detector: 6, "before all else"
abbrev pub too_few : List ℕ → Bool
too_few words = ltb (length words) state_words

-- the detector behind a call stands in the words; after 6, which "takes nothing in", they stay as they were
abbrev pub words_after : Answer → Holding → List ℕ → List ℕ
words_after a h words = if eqb (number a) 6 then words else words_of h

abbrev pub kept_told : Told Holding → List ℕ → Told (List ℕ)
kept_told t words = told t.answer (words_after t.answer t.held words) t.room

-- an announcement, which has no room for flags; where it is turned away there is no detector, and the words stay
abbrev pub kept_begun : Result Detector Reason → List ℕ → Told (List ℕ)
kept_begun (Ok d) words = told (Ok 0) (words_of (holding d (drop head_words words))) []
kept_begun (Err why) words = told (Err why) words []

unfoldable pub begin_kept : Start → ℕ → Float → List ℕ → Told (List ℕ)
unfolding announced words_of
begin_kept start total sensitivity words =
    if too_few words then told (Err Workspace) words [] else kept_begun (announced start total sensitivity) words

-- any other call on the detector of the words, with this room
unfoldable pub kept_by : (Holding → List ℕ → Told Holding) → List ℕ → List ℕ → Told (List ℕ)
unfolding holding_of words_of
kept_by call words room = if too_few words then told (Err Workspace) words room else kept_told (call (holding_of words) room) words

-- a piece, and the end
abbrev pub piece_kept : List ℕ → List ℕ → List ℕ → Told (List ℕ)
piece_kept words piece room = kept_by (λ h. piece_told h piece) words room

abbrev pub end_kept : List ℕ → List ℕ → Told (List ℕ)
end_kept words room = kept_by end_told words room
