-- The recording: document 01, "The recording" and "What is turned away", and what requests of document 02 add to it; the comments quote
-- their sentences. A list's element i is `get_or l i 0`; `set l i x` has x there instead, and `sets l i xs` has all of xs from place i on.
-- Definitions only.
use Rattle.std.specs.Prelude.{ℕ, zero, suc, ◌+◌, ◌-◌, ◌*◌, Bool, false, not, ◌||◌, List, [], ◌∷◌, ◌++◌, map, length, get_or, set, replicate, leb, ltb, eqb}
use Rattle.std.proofs.lemmas.List.Edits.{sets}
use Rattle.std.specs.Prelude.{if◌then◌else◌}
use Rattle.leaves.specs.Floats.{in_range}
use Rattle.recording.specs.declared.Reason.{Reason}
use Rattle.recording.specs.declared.Reason.TheVariants.{Counts, TooMany, Used, Read, Result, Room, Nothing, Malformed, Blocks}
use Rattle.recording.specs.Answer.{Answer}
use Rattle.std.specs.Prelude.{Ok, Err}
use Rattle.recording.specs.Answers.{number}
use Rattle.recording.specs.Marks.{measured, not_received, made}
use Rattle.recording.specs.Counts.{miscounted, counted, recounted}

-- ---- The recording

-- "Samples: .. words of 32 bits", "Marks: one byte per sample", "Journal: lent 32-bit words and a used count"; request P5: "beside the
-- marks a count for each block"
pub record State : Type 0 where
  pub samples : List ℕ
  pub marks : List ℕ
  pub counts : List ℕ
  pub journal : List ℕ
  pub used : ℕ

abbrev pub state : List ℕ → List ℕ → List ℕ → List ℕ → ℕ → State
state s m c j u = record { samples = s; marks = m; counts = c; journal = j; used = u }

-- "at most 1,048,576"
abbrev pub most_samples : ℕ
most_samples = 1048576

-- ---- How a call ends

-- with its answer, and the recording after it
pub record Ended : Type 0 where
  pub answer : Answer
  pub after : State

abbrev pub ended : Answer → State → Ended
ended a s = record { answer = a; after = s }

-- "All refusals keep samples, marks, journal and used.", and the counts
abbrev pub refused : State → Reason → Ended
refused s why = ended (Err why) s

-- 1: "marks and samples differ in number"
abbrev pub differ : State → Bool
differ s = not (eqb (length s.marks) (length s.samples))

-- request P5, 14: "wrong number of counts"
abbrev pub counts_wrong : State → Bool
counts_wrong s = miscounted (length s.samples) s.counts

-- 2: "more than 1,048,576 samples"
abbrev pub too_many : State → Bool
too_many s = ltb most_samples (length s.samples)

-- 3: "used exceeds the journal's length"
abbrev pub over_used : State → Bool
over_used s = ltb (length s.journal) s.used

-- the first refusal of two tests, or else an acceptance
abbrev pub or_else : Answer → Answer → Answer
or_else (Ok m) later = later
or_else (Err why) later = Err why

-- the refusal among 1, 14 and 2, or else an acceptance: 14 is given "after 1"
unfoldable pub alike : State → Answer
alike s =
    if differ s then Err Counts else
    if counts_wrong s then Err Blocks else
    if too_many s then Err TooMany else
    Ok 0

-- the refusal among 1, 14, 2 and 3, or else an acceptance
unfoldable pub fitting : State → Answer
unfolding alike
fitting s = or_else (alike s) (if over_used s then Err Used else Ok 0)

-- a refusal where there is one, and else the rest of the call
abbrev pub unless_refused : Answer → State → Ended → Ended
unless_refused (Ok m) s rest = rest
unless_refused (Err why) s rest = refused s why

-- ---- An accepted repair

-- a value for a place: of a named sample, its new word
pub record Placed : Type 0 where
  pub place : ℕ
  pub value : ℕ

-- the places alone
abbrev pub places : List Placed → List ℕ
places [] = []
places (c ∷ cs) = c.place ∷ places cs

-- named as a span: consecutive places from i on, with these words
unfoldable pub span : ℕ → List ℕ → List Placed
span i [] = []
span i (w ∷ ws) = record { place = i; value = w } ∷ span (i + 1) ws

-- named as picked out of the places from i on: those with true, with the word that stands beside it
unfoldable pub picked : ℕ → List Bool → List ℕ → List Placed
picked i [] ws = []
picked i (b ∷ bs) [] = []
picked i (b ∷ bs) (w ∷ ws) = let later = picked (i + 1) bs ws in if b then record { place = i; value = w } ∷ later else later

-- the list with each value at its place
unfoldable pub put : List Placed → List ℕ → List ℕ
put [] l = l
put (c ∷ cs) l = put cs (set l c.place c.value)

-- the same value for every place
abbrev pub each : ℕ → List ℕ → List Placed
each v [] = []
each v (i ∷ is) = record { place = i; value = v } ∷ each v is

-- what the journal keeps of a sample: "its place, old word and old mark"
pub record Saved : Type 0 where
  pub place : ℕ
  pub word : ℕ
  pub mark : ℕ

-- of each of these places
unfoldable pub saved : List ℕ → List ℕ → List ℕ → List Saved
saved samples marks [] = []
saved samples marks (i ∷ is) = record { place = i; word = get_or samples i 0; mark = get_or marks i 0 } ∷ saved samples marks is

-- as words of the journal
abbrev pub three_words : List Saved → List ℕ
three_words [] = []
three_words (t ∷ ts) = t.place ∷ t.word ∷ t.mark ∷ three_words ts

-- "An accepted repair that names m samples, m at least 1, appends 3m+2 words"
abbrev pub entry_size : ℕ → ℕ
entry_size m = 3 * m + 2

-- "for each named sample, ascending, its place, old word and old mark; then m; then the mark it set"
unfoldable pub entry : State → ℕ → List ℕ → List ℕ
unfolding saved
entry s mark is = three_words (saved s.samples s.marks is) ++ (length is ∷ mark ∷ [])

-- request P5: "an accepted repair or undo recounts the blocks of its samples and no others", once these marks stand at their places
unfoldable pub recounted_by : List Placed → State → List ℕ
unfolding put recounted
recounted_by ms s = recounted (put ms s.marks) (places ms) s.counts

-- the entry is appended, the named samples get their words and the mark, and their blocks are recounted
unfoldable pub committed : State → ℕ → List Placed → State
unfolding entry put recounted_by
committed s mark cs =
    let ms = each mark (places cs) in
    state (put cs s.samples) (put ms s.marks) (recounted_by ms s) (sets s.journal s.used (entry s mark (places cs)))
    (s.used + entry_size (length cs))

-- ---- A repair: its rule, and refusals 7, 8 and 9

-- what a repair's own rule makes of the samples: a reason among 4 to 7, or 15 for a proposal, or a mark and the named samples, ascending
pub data Plan : Type 0 where
  refuse : Reason → Plan
  change : ℕ → List Placed → Plan

-- 7: "a sample that the repair reads is not in range", with "the lowest such place", for words that stand from place i on; or
-- else an acceptance
unfoldable pub readable : ℕ → List ℕ → Answer
unfolding in_range
readable i [] = Ok 0
readable i (w ∷ ws) = let later = readable (i + 1) ws in if in_range w then later else Err (Read i)

-- a refusal where there is one, and else the rest of the plan
abbrev pub unless_read : Answer → Plan → Plan
unless_read (Ok m) rest = rest
unless_read (Err why) rest = refuse why

-- 8: "a result at a named sample is not in range", with "the lowest such place"; or else an acceptance
unfoldable pub ranged : List Placed → Answer
unfolding in_range
ranged [] = Ok 0
ranged (c ∷ cs) = let later = ranged cs in if in_range c.value then later else Err (Result c.place)

-- 9: "m is at least 1 and the journal has fewer than 3m+2 free words". "Naming nothing is accepted and appends nothing".
unfoldable pub entered : State → ℕ → List Placed → Ended
unfolding committed
entered s mark cs =
    let m = length cs in
    let free = length s.journal - s.used in
    if eqb m 0 then ended (Ok 0) s else
    if ltb free (entry_size m) then refused s Room else
    ended (Ok m) (committed s mark cs)

-- refusals 4 to 7 and 15 are the plan's own, then 8, then 9
unfoldable pub carried : State → Plan → Ended
unfolding ranged entered
carried s (refuse why) = refused s why
carried s (change mark cs) = unless_refused (ranged cs) s (entered s mark cs)

-- refusals 1, 14, 2 and 3, and then the plan
unfoldable pub performed : State → Plan → Ended
unfolding fitting carried
performed s p = unless_refused (fitting s) s (carried s p)

-- the call of a repair whose rule, with its settings, this is
unfoldable pub called : (List ℕ → Plan) → State → Ended
unfolding performed
called rule s = performed s (rule s.samples)

-- ---- The workspace

-- the first n elements become +0, which `nought` stands for, and "Workspace beyond the needed part is never touched."
abbrev pub cleared : {A : Type 0} → A → ℕ → List A → List A
cleared nought n work = sets work 0 (replicate n nought)

-- "The needed part of the workspace is all +0 after an acceptance or after 8 or 9; after any other refusal it keeps its contents."
abbrev pub clears : Answer → Bool
clears a = eqb (number a) 0 || eqb (number a) 8 || eqb (number a) 9

abbrev pub work_after : {A : Type 0} → A → ℕ → Answer → List A → List A
work_after nought n a work = if clears a then cleared nought n work else work

-- ---- Opening

-- "all journal words to 0 and used to 0", under these raw marks; request P5: "Opening sets" the counts
abbrev pub blank : List ℕ → State → State
blank marks s = state s.samples marks (counted marks) (replicate (length s.journal) 0) 0

-- "It gives refusals 1 and 2 only, and returns 0 when accepted." Request P5: 14 is "given by opening and undo too".
unfoldable pub opened_with : List ℕ → State → Ended
unfolding alike
opened_with marks s = unless_refused (alike s) s (ended (Ok 0) (blank marks s))

-- "Opening sets all marks and all journal words to 0 and used to 0."
unfoldable pub opened : State → Ended
unfolding opened_with
opened s = opened_with (replicate (length s.marks) measured) s

-- request P2: "The recording opens from the result, keeping these marks, so demand 3's raw marks are 0 or 6": of the marks that are
-- lent, those that say not received
abbrev pub kept_mark : ℕ → ℕ
kept_mark mark = if eqb mark not_received then not_received else measured

unfoldable pub opened_received : State → Ended
unfolding opened_with
opened_received s = opened_with (map kept_mark s.marks) s

-- ---- Undo

-- the last entry ends, at used, in m and the set mark; its first word is 3m+2 words before
abbrev pub last_count : List ℕ → ℕ → ℕ
last_count journal used = get_or journal (used - 2) 0

abbrev pub last_mark : List ℕ → ℕ → ℕ
last_mark journal used = get_or journal (used - 1) 0

abbrev pub last_begin : List ℕ → ℕ → ℕ
last_begin journal used = used - entry_size (last_count journal used)

-- m saved samples, read from journal word i on
unfoldable pub saved_at : List ℕ → ℕ → ℕ → List Saved
saved_at journal i zero = []
saved_at journal i (suc m) =
    record { place = get_or journal i 0; word = get_or journal (i + 1) 0; mark = get_or journal (i + 2) 0 } ∷ saved_at journal (i + 3) m

-- what the last entry keeps
unfoldable pub last_saved : List ℕ → ℕ → List Saved
unfolding saved_at
last_saved journal used = saved_at journal (last_begin journal used) (last_count journal used)

-- "a place is not below the number of samples"
unfoldable pub place_past : ℕ → List Saved → Bool
place_past n [] = false
place_past n (t ∷ ts) = leb n t.place || place_past n ts

-- "places do not strictly rise"
unfoldable pub not_rising : List Saved → Bool
not_rising [] = false
not_rising (t ∷ []) = false
not_rising (t ∷ u ∷ ts) = leb u.place t.place || not_rising (u ∷ ts)

-- "an old mark exceeds 255"
unfoldable pub mark_past : List Saved → Bool
mark_past [] = false
mark_past (t ∷ ts) = ltb 255 t.mark || mark_past ts

-- 11: "used is 1, m is 0 or more than the samples, 3m+2 exceeds used, a place is not below the number of samples, places do
-- not strictly rise, an old mark exceeds 255, or the set mark is not 1 to 5"; requests P7 and P9: it "now allows a set mark of 7" and "now
-- allows 8"
unfoldable pub malformed : ℕ → List ℕ → ℕ → Bool
unfolding last_saved place_past not_rising mark_past
malformed n journal used =
    let m = last_count journal used in
    let olds = last_saved journal used in
    eqb used 1
    || eqb m 0
    || ltb n m
    || ltb used (entry_size m)
    || place_past n olds
    || not_rising olds
    || mark_past olds
    || not (made (last_mark journal used))

-- the words that it keeps, and the marks, each with its place
abbrev pub old_words : List Saved → List Placed
old_words [] = []
old_words (t ∷ ts) = record { place = t.place; value = t.word } ∷ old_words ts

abbrev pub old_marks : List Saved → List Placed
old_marks [] = []
old_marks (t ∷ ts) = record { place = t.place; value = t.mark } ∷ old_marks ts

-- "words and marks return, used falls by 3m+2, and the freed journal words become 0"; and the blocks of its samples are recounted
unfoldable pub taken_back : State → State
unfolding last_saved put recounted_by
taken_back s =
    let m = last_count s.journal s.used in
    let begin = last_begin s.journal s.used in
    let olds = last_saved s.journal s.used in
    let ms = old_marks olds in
    state (put (old_words olds) s.samples) (put ms s.marks) (recounted_by ms s) (sets s.journal begin (replicate (entry_size m) 0))
    begin

-- "Undo can give 1, 2, 3, 10, 11.", and 14 by request P5. 10: "undo with used 0"
unfoldable pub undone : State → Ended
unfolding fitting malformed taken_back
undone s =
    unless_refused (fitting s) s
    (if eqb s.used 0 then refused s Nothing else
    if malformed (length s.samples) s.journal s.used then refused s Malformed else
    ended (Ok (last_count s.journal s.used)) (taken_back s))
