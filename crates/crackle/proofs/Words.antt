-- A detector in words: what a call leaves there is the detector that it leaves by value, so that calls on the words go as by value
-- (specs/Cuts.antt, the last statement). Assumes nothing.
use mathlib.Core.Path.{◌≡◌, refl, sym, ap, subst, ◌∙◌}
use mathlib.Core.Bool.{Bool, true, false}
use mathlib.Core.List.{List, [], ◌∷◌, ◌++◌, map}
use mathlib.Core.Logic.{◌⊎◌, inl, inr}
use Prim.Native.Nat.{ℕ, ◌+◌, ◌≤◌}
use native.Mathlib.Omega.{arith}
use borrow.Author.Tests.{le-ltb}
use lib.Dec.{T, eqb}
use lib.ListN.{length, get_or, take, drop, length-append, length-drop}
use lib.Ieee.{Float, binary32, fits, lt, is_nan}
use lib.Ieee.Bits.{of_bits-to_bits, of_bits-fits}
use lib.Ieee.Fits.{add-fits, sub-fits, div-fits, round-fits}
use Rattle.leaves.specs.Arithmetic.{◌-₃₂◌, ◌*₃₂◌, ◌/₃₂◌, nought, one, near, float, count}
use Rattle.std.specs.Prelude.{if◌then◌else◌}
use Rattle.leaves.specs.Floats.{larger, held}
use Rattle.leaves.proofs.Choice.{picks}
use Rattle.recording.specs.Answers.{number}
use Rattle.recording.specs.declared.Reason.TheVariants.{Workspace}
use Rattle.std.specs.Prelude.{Ok, Err}
use Rattle.decrackle.specs.declared.Start.{Start}
use Rattle.decrackle.specs.declared.Start.TheVariants.{Mean, Old}
use Rattle.decrackle.specs.Decrackle.{factor_for, least_floor, mean_over, summed, mean_floor, old_floor, opening_floor, alpha, floor_after}
use Rattle.crackle.specs.Pieces.{begun, announced, held_back, Holding, holding, held_with, judged_with, floor_before, floor_along, floor_with}
use Rattle.crackle.specs.Pieces.{value_before, over_with, with_sample, with_piece, flag_byte, Told, told, closed, piece_told, last_values, end_told}
use Rattle.crackle.specs.Kept.{head_words, state_words, start_word, start_of, head_of, words_of, detector_of, holding_of, words_after, kept_told}
use Rattle.crackle.specs.Kept.{begin_kept, kept_by, piece_kept, end_kept}
use Rattle.crackle.specs.Cuts.{whole_flags, Offer, flags_given, Run, in_turn, by_value, handed, by_room, fresh, in_words, handed_kept}
use Rattle.crackle.specs.Cuts.{KeptAlike, HoweverCutInWords}
use Rattle.crackle.proofs.Due.{piece_room, last_room}
use Rattle.crackle.proofs.Consequences.{piece_by, end_by}
use Rattle.crackle.proofs.Places.{nought_fits}
use Rattle.crackle.proofs.Cuts.{first_told, however_cut}

-- ---- A detector whose floats are all f32s

abbrev Fit : Float → Type 0
Fit x = T (fits binary32 x)

record Fitting (h : Holding) : Type 0 where
  factor_fits : T (fits binary32 h.detector.factor)
  floor_fits : T (fits binary32 h.detector.floor)
  before_fits : T (fits binary32 h.detector.before)
  last_fits : T (fits binary32 h.detector.last)

read_fits : (words : List ℕ) → Fitting (holding_of words)
unfolding holding_of detector_of float
read_fits words =
    record {
      factor_fits = of_bits-fits binary32 (get_or words 3 0);
      floor_fits = of_bits-fits binary32 (get_or words 4 0);
      before_fits = of_bits-fits binary32 (get_or words 5 0);
      last_fits = of_bits-fits binary32 (get_or words 6 0);
    }

-- a floor that has moved is one, and so is each that places leave
floor_moves : (floor a : Float) → T (fits binary32 (floor_after floor a))
unfolding floor_after
floor_moves floor a = add-fits binary32 (floor *₃₂ (one -₃₂ alpha)) (a *₃₂ alpha)

along_fits : (floor : Float) (ms : List Float) → T (fits binary32 floor) → T (fits binary32 (floor_along floor ms))
unfolding floor_along
along_fits floor [] f = f
along_fits floor (a ∷ ms) f = along_fits (floor_after floor a) ms (floor_moves floor a)

-- where it starts
least_fits : T (fits binary32 least_floor)
unfolding least_floor near
least_fits = round-fits binary32 false 1 1000000

old_fits : T (fits binary32 old_floor)
unfolding old_floor near
old_fits = round-fits binary32 false 1 1000000

larger_fits : (a b : Float) → T (fits binary32 a) → T (fits binary32 b) → T (fits binary32 (larger a b))
unfolding larger
larger_fits a b f g =
    picks Fit (is_nan a) b (if lt a b then b else a) g (picks Fit (lt a b) b a g f)

mean_fits : (sum : Float) (n : ℕ) → T (fits binary32 (mean_floor sum n))
unfolding mean_floor
mean_fits sum n = larger_fits (sum /₃₂ count n) least_floor (div-fits binary32 sum (count n)) least_fits

opening_fits : (start : Start) (ms : List Float) → T (fits binary32 (opening_floor start ms))
unfolding opening_floor
opening_fits Mean ms = mean_fits (summed nought (take mean_over ms)) (length (take mean_over ms))
opening_fits Old ms = old_fits

before_judged_fits : (h : Holding) (value : Float) (over : Bool) → Fitting h → T (fits binary32 (floor_before h value over))
unfolding floor_before
before_judged_fits h value over f =
    let d = h.detector in
    let carried = f.floor_fits in
    picks Fit (held_back d.start d.taken) (if over then opening_floor d.start (held_with h value) else d.floor) d.floor
    (picks Fit over (opening_floor d.start (held_with h value)) d.floor (opening_fits d.start (held_with h value)) carried) carried

floor_stays : (h : Holding) (value : Float) (over : Bool) → Fitting h → T (fits binary32 (floor_with h value over))
unfolding floor_with
floor_stays h value over f = along_fits (floor_before h value over) (judged_with h value over) (before_judged_fits h value over f)

sample_fits : (h : Holding) (w : ℕ) → Fitting h → Fitting (with_sample h (float w))
unfolding with_sample float
sample_fits h w f =
    let d = h.detector in
    record {
      factor_fits = f.factor_fits;
      floor_fits = picks Fit (eqb d.taken 0) d.floor (floor_with h (value_before d (float w)) (over_with d))
          f.floor_fits (floor_stays h (value_before d (float w)) (over_with d) f);
      before_fits = f.last_fits;
      last_fits = of_bits-fits binary32 w;
    }

piece_fits : (h : Holding) (ws : List ℕ) → Fitting h → Fitting (with_piece h ws)
unfolding with_piece
piece_fits h [] f = f
piece_fits h (w ∷ ws) f = piece_fits (with_sample h (float w)) ws (sample_fits h w f)

closed_fits : (h : Holding) (values : List ℕ) → Fitting h → Fitting (holding (closed h.detector) values)
closed_fits h values f =
    record { factor_fits = f.factor_fits; floor_fits = f.floor_fits; before_fits = f.before_fits; last_fits = f.last_fits }

-- ---- Written, and read back

length_words : (h : Holding) → length (words_of h) ≡ head_words + length h.values
unfolding words_of head_of
length_words h = length-append (head_of h.detector) h.values

start_back : (start : Start) → start_of (start_word start) ≡ start
unfolding start_word
start_back Mean = refl
start_back Old = refl

written : (h : Holding) → Fitting h → holding_of (words_of h) ≡ h
unfolding words_of head_of holding_of detector_of float
written h f =
    rw (
      start_back h.detector.start,
      runs h.detector.running,
      of_bits-to_bits binary32 _ f.factor_fits,
      of_bits-to_bits binary32 _ f.floor_fits,
      of_bits-to_bits binary32 _ f.before_fits,
      of_bits-to_bits binary32 _ f.last_fits,
    ) refl
  where
    runs : (b : Bool) → eqb (if b then 1 else 0) 1 ≡ b
    runs true = refl
    runs false = refl

-- ---- Behind a call

-- it was refused by 6 and left what holds the detector, or the words are written; the room for values is as long
record Left (h : Holding) (t : Told Holding) : Type 0 where
  leaves : ((t.answer ≡ Err Workspace) × (t.held ≡ h)) ⊎ ((eqb (number t.answer) 6 ≡ false) × Fitting t.held)
  as_long : length t.held.values ≡ length h.values

piece_left : (h : Holding) (piece room : List ℕ) → Fitting h → Left h (piece_told h piece room)
piece_left h piece room f =
    piece_by (Left h) h room (record { leaves = inr (refl, closed_fits h h.values f); as_long = refl })
    (record { leaves = inl (refl, refl); as_long = refl }) piece
    (λ i. record { leaves = inr (refl, closed_fits h h.values f); as_long = refl })
    (λ values enough. record { leaves = inr (refl, piece_fits h piece f); as_long = piece_room h piece })

end_left : (h : Holding) (room : List ℕ) → Fitting h → Left h (end_told h room)
end_left h room f =
    end_by (Left h) h room (record { leaves = inr (refl, closed_fits h h.values f); as_long = refl })
    (record { leaves = inl (refl, refl); as_long = refl })
    (λ values enough. record { leaves = inr (refl, closed_fits h (last_values h) f); as_long = last_room h })

-- the room for values that words hold
values_count : (words : List ℕ) → state_words ≤ length words → head_words + length (holding_of words).values ≡ length words
unfolding holding_of
values_count words h = omega (arith, h, length-drop head_words words)

-- what the words then hold
told_words : (words : List ℕ) (t : Told Holding) → state_words ≤ length words → Left (holding_of words) t
    → (holding_of (words_after t.answer t.held words) ≡ t.held) × (length (words_after t.answer t.held words) ≡ length words)
told_words words t h l = go l.leaves
  where
    go : ((t.answer ≡ Err Workspace) × (t.held ≡ holding_of words)) ⊎ ((eqb (number t.answer) 6 ≡ false) × Fitting t.held)
        → (holding_of (words_after t.answer t.held words) ≡ t.held) × (length (words_after t.answer t.held words) ≡ length words)
    go (inl (six, same)) = rw six (sym same, refl)
    go (inr (other, f)) = rw other (written t.held f, omega (arith, length_words t.held, l.as_long, values_count words h))

-- ---- Calls in turn

-- a call on words that are enough
kept-told : (call : Holding → List ℕ → Told Holding) (words room : List ℕ) → state_words ≤ length words
    → kept_by call words room ≡ kept_told (call (holding_of words) room) words
unfolding kept_by
kept-told call words room h = rw (le-ltb (length words) state_words h) refl

-- the calls on words and the calls by value
record Alike (words : List ℕ) (d : Holding) (offers : List Offer) : Type 0 where
  numbers_are : (handed_kept words offers).numbers ≡ (handed d offers).numbers
  flags_are : (handed_kept words offers).flags ≡ (handed d offers).flags
  holds : holding_of (handed_kept words offers).held ≡ (handed d offers).held
  as_many : length (handed_kept words offers).held ≡ length words

-- one call, and then the others
module _ (words : List ℕ) (o : Offer) (os : List Offer) (h : state_words ≤ length words) where
  abbrev t : Told Holding
  t = piece_told (holding_of words) o.piece o.room

  abbrev next : List ℕ
  next = words_after t.answer t.held words

  told_so : piece_kept words o.piece o.room ≡ kept_told t words
  told_so = kept-told (λ d. piece_told d o.piece) words o.room h

  leaves : (holding_of next ≡ t.held) × (length next ≡ length words)
  leaves = told_words words t h (piece_left (holding_of words) o.piece o.room (read_fits words))

  and_others : Alike next t.held os → Alike words (holding_of words) (o ∷ os)
  and_others later =
      let first = first_told by_value (holding_of words) o os t refl in
      let first_kept = first_told in_words words o os (kept_told t words) told_so in
      record {
        numbers_are =
            ap (λ (r : Run (List ℕ)). r.numbers) first_kept
            ∙ ap (λ (ks : List ℕ). number t.answer ∷ ks) later.numbers_are
            ∙ sym (ap (λ (r : Run Holding). r.numbers) first);
        flags_are =
            ap (λ (r : Run (List ℕ)). r.flags) first_kept
            ∙ ap (λ (fs : List ℕ). flags_given t.answer t.room ++ fs) later.flags_are
            ∙ sym (ap (λ (r : Run Holding). r.flags) first);
        holds =
            ap (λ (r : Run (List ℕ)). holding_of r.held) first_kept ∙ later.holds ∙ sym (ap (λ (r : Run Holding). r.held) first);
        as_many = ap (λ (r : Run (List ℕ)). length r.held) first_kept ∙ later.as_many ∙ leaves.1;
      }

alike : (words : List ℕ) (offers : List Offer) → state_words ≤ length words → Alike words (holding_of words) offers
unfolding in_turn
alike words [] h = record { numbers_are = refl; flags_are = refl; holds = refl; as_many = refl }
alike words (o ∷ os) h =
    let there = leaves words o os h in
    and_others words o os h
    (subst (λ (d : Holding). Alike (next words o os h) d os) there.0 (alike (next words o os h) os (omega (arith, h, there.1))))

pub kept_alike : KeptAlike
kept_alike words offers h = let all = alike words offers h in (all.numbers_are, all.flags_are, all.holds)

-- ---- A whole run

begun_fits : (start : Start) (total : ℕ) (sensitivity : Float) (values : List ℕ) → Fitting (fresh start total sensitivity values)
unfolding begun factor_for
begun_fits start total sensitivity values =
    record {
      factor_fits = sub-fits binary32 (count 12) (held one (count 10) sensitivity);
      floor_fits = old_fits;
      before_fits = nought_fits;
      last_fits = nought_fits;
    }

begun_told : (start : Start) (total : ℕ) (sensitivity : Float) (words : List ℕ) → state_words ≤ length words
    → announced start total sensitivity ≡ Ok (begun start total sensitivity)
    → begin_kept start total sensitivity words ≡ told (Ok 0) (words_of (fresh start total sensitivity (drop head_words words))) []
unfolding begin_kept
begun_told start total sensitivity words h e = rw (le-ltb (length words) state_words h, e) refl

pub however_cut_in_words : HoweverCutInWords
however_cut_in_words start sensitivity s offers words room may few good enough-words cut enough =
    rw (begun_so, end_so, run_alike.flags_are, run_alike.numbers_are) (refl, cuts.1, cuts.2, cuts.3)
  where
    values : List ℕ
    values = drop head_words words

    first : Holding
    first = fresh start (length s) sensitivity values

    cuts : (announced start (length s) sensitivity ≡ Ok first.detector)
        × ((handed first offers).numbers ≡ by_room start 0 offers)
        × (number (end_told (handed first offers).held room).answer ≡ 0)
        × ((handed first offers).flags ++ flags_given (end_told (handed first offers).held room).answer (end_told (handed first offers).held room).room
        ≡ map flag_byte (whole_flags start sensitivity s))
    cuts =
        however_cut start sensitivity s values offers room may few good (omega (arith, enough-words, length-drop head_words words)) cut enough

    opened : List ℕ
    opened = words_of first

    many : length opened ≡ length words
    many = omega (arith, enough-words, length_words first, length-drop head_words words)

    begun_so : begin_kept start (length s) sensitivity words ≡ told (Ok 0) opened []
    begun_so = begun_told start (length s) sensitivity words enough-words cuts.0

    holds : holding_of opened ≡ first
    holds = written first (begun_fits start (length s) sensitivity values)

    run_alike : Alike opened first offers
    run_alike = subst (λ (d : Holding). Alike opened d offers) holds (alike opened offers (omega (arith, enough-words, many)))

    last : List ℕ
    last = (handed_kept opened offers).held

    end_so : end_kept last room ≡ kept_told (end_told (handed first offers).held room) last
    end_so =
        kept-told end_told last room (omega (arith, enough-words, many, run_alike.as_many))
        ∙ ap (λ (f : Holding). kept_told (end_told f room) last) run_alike.holds
