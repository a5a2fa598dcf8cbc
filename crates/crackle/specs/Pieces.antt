-- Crackle detection as the sound arrives: request P4 of document 02, and of request P7 what it says of the pieces. The comments quote their
-- sentences. What is flagged is document 01's, in decrackle's specs. Definitions only.
use Rattle.std.specs.Prelude.{ℕ, ◌+◌, ◌-◌, Bool, true, false, not, ◌||◌, List, [], ◌∷◌, ◌++◌, map, length, take, set, replicate, ltb, eqb, Float}
use Rattle.std.proofs.lemmas.List.Edits.{sets}
use Rattle.std.specs.Float.{binary32}
use Rattle.std.specs.Float.Ieee.{to_bits}
use Rattle.leaves.specs.Arithmetic.{nought, float}
use Rattle.std.specs.Prelude.{if◌then◌else◌}
use Rattle.leaves.specs.Floats.{magnitude}
use Rattle.recording.specs.Recording.{most_samples, readable}
use Rattle.recording.specs.declared.Reason.{Reason}
use Rattle.recording.specs.declared.Reason.TheVariants.{TooMany, Setting, Workspace, Pieces}
use Rattle.recording.specs.Answer.{Answer}
use Rattle.std.specs.Prelude.{Result, Ok, Err}
use Rattle.decrackle.specs.declared.Start.{Start}
use Rattle.decrackle.specs.declared.Start.TheVariants.{Mean, Old}
use Rattle.decrackle.specs.Decrackle.{allowed, factor_for, from_middle, mean_over, old_floor, opening_floor, floor_after, flags_from, least_samples}
use Rattle.crackle.specs.declared.Detector.{Detector}

-- ---- "Announce the total"

-- "The detector keeps the running floor and the last two samples, carried from piece to piece": a `Detector` of src/lib.rt has these, and
-- beside them the start, of which "the piecewise form must be told", the announced total, how many samples are in, whether the run goes on, and
-- the factor of its sensitivity. When it begins no sample is in, and what stands for the last two has no say; nor has the floor where it starts
-- from the mean, before that is known.
unfoldable pub begun : Start → ℕ → Float → Detector
unfolding factor_for old_floor
begun start total sensitivity =
    record {
      start = start;
      total = total;
      taken = 0;
      running = true;
      factor = factor_for sensitivity;
      floor = old_floor;
      before = nought;
      last = nought;
    }

-- "Refusals: 2 and 4 at the announcement"
unfoldable pub announced : Start → ℕ → Float → Result Detector Reason
unfolding begun
announced start total sensitivity =
    if ltb most_samples total then Err TooMany else
    if not (allowed sensitivity) then Err Setting else
    Ok (begun start total sensitivity)

-- ---- When flags come

-- "flags come one sample late": when t samples are in, the detector's values of so many places are known, those of places 0 to t-2
abbrev pub known_by : ℕ → ℕ
known_by t = t - 1

-- "for the new start it holds back flags until 1,024 detector values or the end are in": whether it does when t samples are in
unfoldable pub held_back : Start → ℕ → Bool
held_back Mean t = ltb (known_by t) mean_over
held_back Old t = false

-- so many flags have been given then: "P4's one-sample delay then starts there"
unfoldable pub given_by : Start → ℕ → ℕ
unfolding held_back
given_by start t = if held_back start t then 0 else known_by t

-- "this call's flags" are so many, of a piece of n samples that comes when t are in
unfoldable pub flags_due : Start → ℕ → ℕ → ℕ
unfolding given_by
flags_due start t n = given_by start (t + n) - given_by start t

-- ---- A place is judged, or held back

-- a detector, and the room in which it holds values back: the value of place k, as a word, in word k of it
pub record Holding : Type 0 where
  pub detector : Detector
  pub values : List ℕ

abbrev pub holding : Detector → List ℕ → Holding
holding d values = record { detector = d; values = values }

-- the value of the last place comes in, when so many samples are: where flags are held back, it is put behind the values before it
unfoldable pub values_with : Holding → Float → List ℕ
unfolding held_back to_bits
values_with h value =
    let d = h.detector in
    if held_back d.start d.taken then set h.values (known_by d.taken) (to_bits binary32 value) else h.values

-- the magnitudes of values that are held
unfoldable pub magnitudes_in : List ℕ → List Float
unfolding float
magnitudes_in values = map (λ (w : ℕ). magnitude (float w)) values

-- those of all that are held then, one for each sample that is in
unfoldable pub held_with : Holding → Float → List Float
unfolding values_with magnitudes_in
held_with h value = magnitudes_in (take h.detector.taken (values_with h value))

-- the magnitudes that are judged with it, in order: its own, or, where flags are held back, none before that is `over`, and then all of these
unfoldable pub judged_with : Holding → Float → Bool → List Float
unfolding held_back held_with
judged_with h value over =
    let d = h.detector in
    if held_back d.start d.taken then (if over then held_with h value else []) else magnitude value ∷ []

-- the floor before them: the one that is carried, or the one that starts from these
unfoldable pub floor_before : Holding → Float → Bool → Float
unfolding held_back held_with opening_floor
floor_before h value over =
    let d = h.detector in
    if held_back d.start d.taken then (if over then opening_floor d.start (held_with h value) else d.floor) else d.floor

-- the floor behind places with these magnitudes
unfoldable pub floor_along : Float → List Float → Float
unfolding floor_after
floor_along floor [] = floor
floor_along floor (a ∷ ms) = floor_along (floor_after floor a) ms

-- and their flags, as document 01 has them. "A total under 8 leaves every flag unset."
unfoldable pub flags_along : Detector → Float → List Float → List Bool
unfolding flags_from
flags_along d floor ms = if ltb d.total least_samples then replicate (length ms) false else flags_from d.factor floor ms

-- so the flags that the value brings, and the floor that it leaves
unfoldable pub flags_with : Holding → Float → Bool → List Bool
unfolding flags_along floor_before judged_with
flags_with h value over = flags_along h.detector (floor_before h value over) (judged_with h value over)

unfoldable pub floor_with : Holding → Float → Bool → Float
unfolding floor_along floor_before judged_with
floor_with h value over = floor_along (floor_before h value over) (judged_with h value over)

-- ---- A sample

-- the detector's value at the place of the last sample, now that the next one is known: 0 at the first place, which is an end
unfoldable pub value_before : Detector → Float → Float
unfolding from_middle
value_before d next = if eqb d.taken 1 then nought else from_middle d.before d.last next

-- whether, when it is in, flags are not held back any more
unfoldable pub over_with : Detector → Bool
unfolding held_back
over_with d = not (held_back d.start (d.taken + 1))

-- the flags that it brings; the very first sample brings none
unfoldable pub flags_by : Holding → Float → List Bool
unfolding flags_with value_before over_with
flags_by h next =
    let d = h.detector in
    if eqb d.taken 0 then [] else flags_with h (value_before d next) (over_with d)

-- the detector when it is in, and the values that are held
unfoldable pub with_sample : Holding → Float → Holding
unfolding floor_with value_before over_with values_with
with_sample h next =
    let d = h.detector in
    let value = value_before d next in
    holding
    (record {
      start = d.start;
      total = d.total;
      taken = d.taken + 1;
      running = d.running;
      factor = d.factor;
      floor = if eqb d.taken 0 then d.floor else floor_with h value (over_with d);
      before = d.last;
      last = next;
    })
    (if eqb d.taken 0 then h.values else values_with h value)

-- ---- A piece, sample after sample: "consecutive pieces of any length, zero length too"

-- the detector when all of it is in
unfoldable pub with_piece : Holding → List ℕ → Holding
unfolding with_sample float
with_piece h [] = h
with_piece h (w ∷ ws) = with_piece (with_sample h (float w)) ws

-- the flags that it brings, in order
unfoldable pub flags_before : Holding → List ℕ → List Bool
unfolding flags_by with_sample float
flags_before h [] = []
flags_before h (w ∷ ws) = flags_by h (float w) ++ flags_before (with_sample h (float w)) ws

-- ---- How a call ends

-- with its answer, with what holds the detector behind it (here itself, and in Kept.antt the words that keep it), and with the room for flags
pub record Told (D : Type 0) : Type 0 where
  pub answer : Answer
  pub held : D
  pub room : List ℕ

abbrev pub told : {D : Type 0} → Answer → D → List ℕ → Told D
told a d room = record { answer = a; held = d; room = room }

-- a flag as a byte: 1 where the sample is flagged
abbrev pub flag_byte : Bool → ℕ
flag_byte b = if b then 1 else 0

-- these flags stand in the first places of the room, and the rest of it stays
abbrev pub flags_in : List ℕ → List Bool → List ℕ
flags_in room flags = sets room 0 (map flag_byte flags)

-- "a stop or the end": the run does not go on
abbrev pub closed : Detector → Detector
closed d =
    record {
      start = d.start;
      total = d.total;
      taken = d.taken;
      running = false;
      factor = d.factor;
      floor = d.floor;
      before = d.before;
      last = d.last;
    }

abbrev pub stopped : Holding → Holding
stopped h = holding (closed h.detector) h.values

-- room for fewer values than are held back, for either start: 6, "before all else"
abbrev pub too_few_values : Holding → Bool
too_few_values h = ltb (length h.values) mean_over

-- 13 of a piece of n samples: "more samples than announced, .. or a call after a stop or the end"
abbrev pub too_much : Detector → ℕ → Bool
too_much d n = not d.running || ltb d.total (d.taken + n)

-- 13 of the end: "fewer at the end, or a call after a stop or the end"; more are in only where no call made the detector
abbrev pub not_all : Detector → Bool
not_all d = not d.running || not (eqb d.taken d.total)

-- what is left of a call once 13 and 6 are tested, by the test of the samples: 7, which stops the run, or these
abbrev pub unless_out : Answer → Holding → List ℕ → Told Holding → Told Holding
unless_out (Ok m) h room rest = rest
unless_out (Err why) h room rest = told (Err why) (stopped h) room

-- A piece. "13, ..; 6, no room for this call's flags; 7 with the place in the whole; tested in that order. 13 and 7 stop the run, 6 takes
-- nothing in, and all leave the flag room unwritten."
unfoldable pub piece_told : Holding → List ℕ → List ℕ → Told Holding
unfolding flags_due readable with_piece flags_before
piece_told h piece room =
    let d = h.detector in
    let n = length piece in
    let due = flags_due d.start d.taken n in
    if too_few_values h then told (Err Workspace) h room else
    if too_much d n then told (Err Pieces) (stopped h) room else
    if ltb (length room) due then told (Err Workspace) h room else
    unless_out (readable d.taken piece) h room (told (Ok due) (with_piece h piece) (flags_in room (flags_before h piece)))

-- "and the last at the end": with the value of the last place, 0 as at both ends, all that was held back comes; nothing where the total is 0
unfoldable pub last_flags : Holding → List Bool
unfolding flags_with
last_flags h = if eqb h.detector.taken 0 then [] else flags_with h nought true

-- and the values that are held then
unfoldable pub last_values : Holding → List ℕ
unfolding values_with
last_values h = if eqb h.detector.taken 0 then h.values else values_with h nought

-- The end, with the same refusals but 7.
unfoldable pub end_told : Holding → List ℕ → Told Holding
unfolding last_flags last_values
end_told h room =
    let d = h.detector in
    let flags = last_flags h in
    if too_few_values h then told (Err Workspace) h room else
    if not_all d then told (Err Pieces) (stopped h) room else
    if ltb (length room) (length flags) then told (Err Workspace) h room else
    told (Ok (length flags)) (holding (closed d) (last_values h)) (flags_in room flags)
