-- However a recording is cut: what requests P4 and P7 say of the pieces of a whole, whose sentences the comments quote, for either start.
-- Statements only, each proved under the same name, written small, in proofs/Cuts.antt, and the last two in proofs/Words.antt.
use Rattle.std.specs.Prelude.{ℕ, ◌+◌, ◌-◌, ◌≤◌, ◌<◌, ◌≡◌, Bool, true, false, List, [], ◌∷◌, ◌++◌, map, ◌⊎◌, length, take, replicate, ltb, Float}
use Rattle.std.specs.Prelude.{if◌then◌else◌}
use Rattle.recording.specs.Answers.{number}
use Rattle.recording.specs.Recording.{most_samples, readable}
use Rattle.recording.specs.declared.Reason.TheVariants.{Read}
use Rattle.recording.specs.Answer.{Answer}
use Rattle.std.specs.Prelude.{Ok, Err}
use Rattle.decrackle.specs.declared.Start.{Start}
use Rattle.decrackle.specs.Decrackle.{allowed, mean_over, least_samples, flags_of, decrackled}
use Rattle.crackle.specs.Pieces.{begun, announced, given_by, flags_due, Holding, holding, flag_byte, Told, told, stopped, piece_told, end_told}
use Rattle.crackle.specs.Kept.{state_words, holding_of, begin_kept, piece_kept, end_kept}

-- ---- The whole

-- the flags "of document 01 on the whole", from this start: those of all its places, and under 8 samples none is set
unfoldable pub whole_flags : Start → Float → List ℕ → List Bool
unfolding flags_of
whole_flags start sensitivity s = if ltb (length s) least_samples then replicate (length s) false else flags_of start sensitivity s

-- they are the places that decrackle names
abbrev pub FlagsAreNamed : Type 0
FlagsAreNamed = (start : Start) (sensitivity : Float) (s : List ℕ) → whole_flags start sensitivity s ≡ (decrackled start sensitivity s).named

-- "an in-range recording": refusal 7 does not apply to its samples
abbrev pub InRange : List ℕ → Type 0
InRange s = readable 0 s ≡ Ok 0

-- ---- The calls

-- a piece as it is given, with the room that is lent for its flags
pub record Offer : Type 0 where
  pub piece : List ℕ
  pub room : List ℕ

-- the flags that a call gave, by its answer: as many, from the first place of the room on; none where it was refused
abbrev pub flags_given : Answer → List ℕ → List ℕ
flags_given (Ok m) room = take m room
flags_given (Err why) room = []

-- what calls give, one after the other, each on what the one before it left: the number of each answer, "the flags joined together", and what
-- holds the detector behind them
pub record Run (D : Type 0) : Type 0 where
  pub numbers : List ℕ
  pub flags : List ℕ
  pub held : D

unfoldable pub in_turn : {D : Type 0} → (D → Offer → Told D) → D → List Offer → Run D
in_turn call d [] = record { numbers = []; flags = []; held = d }
in_turn call d (o ∷ os) =
    let t = call d o in
    let later = in_turn call t.held os in
    record {
      numbers = number t.answer ∷ later.numbers;
      flags = flags_given t.answer t.room ++ later.flags;
      held = later.held;
    }

-- a piece on a detector by value, and such pieces
abbrev pub by_value : Holding → Offer → Told Holding
by_value h o = piece_told h o.piece o.room

abbrev pub handed : Holding → List Offer → Run Holding
handed = in_turn by_value

-- what calls answer of which none stops the run, where t samples are in: 6, "no room for this call's flags", where the room is short, and else 0
unfoldable pub by_room : Start → ℕ → List Offer → List ℕ
unfolding flags_due
by_room start t [] = []
by_room start t (o ∷ os) =
    let n = length o.piece in
    if ltb (length o.room) (flags_due start t n) then 6 ∷ by_room start t os else 0 ∷ by_room start (t + n) os

-- ---- A cut

-- These calls bring in the samples q, where t of the total are in. One that lacks room offers no more than is left, and takes nothing in:
-- what it offered may be tried again with more room, or in other pieces. One with room brings in its piece.
unfoldable pub Cut : Start → ℕ → ℕ → List Offer → List ℕ → Type 0
Cut start total t [] q = q ≡ []
Cut start total t (o ∷ os) q =
    let n = length o.piece in
    ((length o.room < flags_due start t n) × (t + n ≤ total) × Cut start total t os q)
    ⊎ ((flags_due start t n ≤ length o.room) × ((later : List ℕ) × (q ≡ o.piece ++ later) × Cut start total (t + n) os later))

-- ---- The announcement

-- a detector that begins, with room for the values that it holds back, whatever stands there
abbrev pub Enough : List ℕ → Type 0
Enough values = mean_over ≤ length values

abbrev pub fresh : Start → ℕ → Float → List ℕ → Holding
fresh start total sensitivity values = holding (begun start total sensitivity) values

-- ---- The statements

-- "Flags come one sample late", and from the mean they are held back "until 1,024 detector values or the end are in": whatever is still to
-- come, when the samples p of a recording are in, by calls however cut, so many of the flags of the whole have been given, and no call was
-- refused but where its room was short
abbrev pub FlagsSoFar : Type 0
FlagsSoFar =
    (start : Start) (sensitivity : Float) (p rest values : List ℕ) (offers : List Offer)
    → let s = p ++ rest in
    InRange p → Enough values → Cut start (length s) 0 offers p
    → let run = handed (fresh start (length s) sensitivity values) offers in
    (run.numbers ≡ by_room start 0 offers) × (run.flags ≡ map flag_byte (take (given_by start (length p)) (whole_flags start sensitivity s)))

-- "However an in-range recording is cut, the flags joined together equal those of document 01 on the whole", with refusals for lack of room
-- between, and "the last at the end", with all that were held back where 1,024 values never were in
abbrev pub HoweverCut : Type 0
HoweverCut =
    (start : Start) (sensitivity : Float) (s values : List ℕ) (offers : List Offer) (room : List ℕ)
    → allowed sensitivity ≡ true → length s ≤ most_samples → InRange s → Enough values
    → Cut start (length s) 0 offers s → length s - given_by start (length s) ≤ length room
    → let run = handed (fresh start (length s) sensitivity values) offers in
    let end = end_told run.held room in
    (announced start (length s) sensitivity ≡ Ok (begun start (length s) sensitivity))
    × (run.numbers ≡ by_room start 0 offers)
    × (number end.answer ≡ 0)
    × (run.flags ++ flags_given end.answer end.room ≡ map flag_byte (whole_flags start sensitivity s))

-- "An out-of-range sample stops the run: flags already given stand", which are those of the whole up to there, and "that piece gives none":
-- where the samples p are in, and the piece behind them has one out of range
abbrev pub StoppedByASample : Type 0
StoppedByASample =
    (start : Start) (sensitivity : Float) (p piece later values room : List ℕ) (offers : List Offer) (place : ℕ)
    → let s = p ++ (piece ++ later) in
    InRange p → Enough values → Cut start (length s) 0 offers p
    → readable (length p) piece ≡ Err (Read place) → flags_due start (length p) (length piece) ≤ length room
    → let run = handed (fresh start (length s) sensitivity values) offers in
    (run.numbers ≡ by_room start 0 offers)
    × (run.flags ≡ map flag_byte (take (given_by start (length p)) (whole_flags start sensitivity s)))
    × (piece_told run.held piece room ≡ told (Err (Read place)) (stopped run.held) room)

-- "and every later piece is refused", behind any stop and behind the end, and the end with them: nothing moves any more
abbrev pub ClosedForGood : Type 0
ClosedForGood =
    (h : Holding) (offers : List Offer) (room : List ℕ) → h.detector.running ≡ false → Enough h.values
    → let run = handed h offers in
    (run.numbers ≡ replicate (length offers) 13)
    × (run.flags ≡ [])
    × (run.held ≡ h)
    × (number (end_told h room).answer ≡ 13)
    × ((end_told h room).room ≡ room)

-- ---- In words

-- The same calls on a detector that is kept in words.
abbrev pub in_words : List ℕ → Offer → Told (List ℕ)
in_words words o = piece_kept words o.piece o.room

abbrev pub handed_kept : List ℕ → List Offer → Run (List ℕ)
handed_kept = in_turn in_words

-- They give the same answers and the same flags, and behind them the words hold the same detector and the same values, whatever they held: so
-- each of the above holds of a kept detector too.
abbrev pub KeptAlike : Type 0
KeptAlike =
    (words : List ℕ) (offers : List Offer) → state_words ≤ length words
    → let run = handed (holding_of words) offers in
    let kept = handed_kept words offers in
    (kept.numbers ≡ run.numbers) × (kept.flags ≡ run.flags) × (holding_of kept.held ≡ run.held)

-- The first of them, once more, in any words that are lent: as the exported functions have it.
abbrev pub HoweverCutInWords : Type 0
HoweverCutInWords =
    (start : Start) (sensitivity : Float) (s : List ℕ) (offers : List Offer) (words room : List ℕ)
    → allowed sensitivity ≡ true → length s ≤ most_samples → InRange s → state_words ≤ length words
    → Cut start (length s) 0 offers s → length s - given_by start (length s) ≤ length room
    → let begun = begin_kept start (length s) sensitivity words in
    let run = handed_kept begun.held offers in
    let end = end_kept run.held room in
    (number begun.answer ≡ 0)
    × (run.numbers ≡ by_room start 0 offers)
    × (number end.answer ≡ 0)
    × (run.flags ++ flags_given end.answer end.room ≡ map flag_byte (whole_flags start sensitivity s))
