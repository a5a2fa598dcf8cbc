-- However a recording is cut, as specs/Cuts.antt states it: calls that bring in samples of it give the first of the flags that are left, and
-- when it begins these are the flags of the whole. Assumes nothing.
use mathlib.Core.Path.{◌≡◌, refl, sym, ap, subst, ◌∙◌}
use mathlib.Core.Bool.{Bool, true, false}
use mathlib.Core.List.{List, [], ◌∷◌, ◌++◌, map, append_assoc, append-nil, map-append}
use mathlib.Core.Logic.{inl, inr}
use Prim.Native.Nat.{ℕ, zero, suc, ◌+◌, ◌-◌, ◌≤◌, ◌<◌}
use native.Mathlib.Omega.{arith}
use native.Mathlib.Nat.{add-zero, zero-add, sub-zero}
use borrow.Author.Tests.{lt-ltb, le-ltb, eq-eqb}
use lib.Dec.{ltb, eqb}
use lib.ListN.{length, take, drop, replicate, length-append, length-drop, length-map}
use lib.Seq.{drop-drop, drop-append_seam, take_at}
use lib.Ieee.{Float}
use Rattle.leaves.specs.Arithmetic.{float}
use Rattle.std.specs.Prelude.{if◌then◌else◌}
use Rattle.leaves.specs.Floats.{in_range}
use Rattle.leaves.proofs.Choice.{truth}
use Rattle.leaves.proofs.Parts.{part_of_sets}
use Rattle.recording.specs.Answers.{number}
use Rattle.recording.specs.Recording.{most_samples, readable}
use Rattle.recording.specs.declared.Reason.TheVariants.{Workspace, Read, Pieces}
use Rattle.recording.specs.Answer.{Answer}
use Rattle.std.specs.Prelude.{Ok, Err}
use Rattle.redraw.specs.Whole.{untouched, drawn}
use Rattle.redraw.proofs.Ending.{done_not_refused}
use Rattle.decrackle.specs.declared.Start.{Start}
use Rattle.decrackle.specs.declared.Start.TheVariants.{Mean, Old}
use Rattle.decrackle.specs.Decrackle.{least_samples, magnitudes_from, magnitudes, mean_over, opening_floor, flags_of, smoothed, decrackled}
use Rattle.decrackle.proofs.Opening.{length_magnitudes}
use Rattle.crackle.specs.Pieces.{begun, announced, held_back, given_by, flags_due, Holding, holding, flags_along, with_sample, with_piece, flags_before}
use Rattle.crackle.specs.Pieces.{Told, told, flag_byte, flags_in, closed, stopped, too_much, unless_out, piece_told, last_flags, last_values, end_told}
use Rattle.crackle.specs.Cuts.{whole_flags, FlagsAreNamed, InRange, Offer, flags_given, Run, in_turn, by_value, handed, by_room, Cut, Enough, fresh}
use Rattle.crackle.specs.Cuts.{FlagsSoFar, HoweverCut, StoppedByASample, ClosedForGood}
use Rattle.crackle.proofs.Due.{given_within, same_start, due_length}
use Rattle.crackle.proofs.Places.{floor_at, left, length_left, At, no_magnitude, piece_gives, end_gives}

-- ---- A call

-- what is tested of a piece that is not more than is left
not_more : (s : List ℕ) (t n : ℕ) (d : Holding) → At s t d → t + n ≤ length s → too_much d.detector n ≡ false
not_more s t n d at h = rw (at.goes_on, at.total_is, at.taken_is, le-ltb (length s) (t + n) h) refl

-- a piece without room
no_room : (s : List ℕ) (t : ℕ) (d : Holding) (piece room : List ℕ) → At s t d → t + length piece ≤ length s
    → length room < flags_due d.detector.start t (length piece) → piece_told d piece room ≡ told (Err Workspace) d room
unfolding piece_told
no_room s t d piece room at h short =
    let start = d.detector.start in
    let less : ltb (length room) (flags_due start d.detector.taken (length piece)) ≡ true = rw at.taken_is (lt-ltb _ _ short) in
    rw (le-ltb (length d.values) mean_over at.enough, not_more s t (length piece) d at h, less) refl

-- a piece with room, by the test of its samples
with_room : (s : List ℕ) (t : ℕ) (d : Holding) (piece room : List ℕ) (a : Answer) → At s t d → t + length piece ≤ length s
    → flags_due d.detector.start t (length piece) ≤ length room → readable t piece ≡ a
    → piece_told d piece room
    ≡ unless_out a d room (told (Ok (flags_due d.detector.start t (length piece))) (with_piece d piece) (flags_in room (flags_before d piece)))
unfolding piece_told
with_room s t d piece room a at h enough e =
    let start = d.detector.start in
    let less : ltb (length room) (flags_due start d.detector.taken (length piece)) ≡ false = rw at.taken_is (le-ltb _ _ enough) in
    rw (le-ltb (length d.values) mean_over at.enough, not_more s t (length piece) d at h, less, at.taken_is, e) refl

-- the flags stand in the room
flags_there : (room : List ℕ) (fs : List Bool) (m : ℕ) → length fs ≡ m → m ≤ length room → take m (flags_in room fs) ≡ map flag_byte fs
flags_there room fs m e h = part_of_sets room (map flag_byte fs) 0 m (length-map fs flag_byte ∙ e) (omega (arith, h))

-- the samples of a piece and those behind it, tested one after the other
readable_both : (i : ℕ) (xs ys : List ℕ) → readable i (xs ++ ys) ≡ Ok 0 → (readable i xs ≡ Ok 0) × (readable (i + length xs) ys ≡ Ok 0)
unfolding readable
readable_both i [] ys h = (refl, rw (add-zero i) h)
readable_both i (x ∷ xs) ys h =
    elim (truth (in_range x)) [
      | inl good ↦
          let both = readable_both (i + 1) xs ys (rw good at h) in
          let more : i + 1 + length xs ≡ i + suc (length xs) = omega arith in
          (rw good both.0, ap (λ (k : ℕ). readable k ys) (sym more) ∙ both.1)
      | inr bad ↦ let never : Err (Read i) ≡ Ok 0 = rw bad at h in absurd (done_not_refused 0 (Read i) (sym never))
    ]

-- ---- Calls in turn

-- the first of them, and then the others
abbrev pub from : {D : Type 0} → (D → Offer → Told D) → List Offer → Told D → Run D
from call os t =
    let later = in_turn call t.held os in
    record {
      numbers = number t.answer ∷ later.numbers;
      flags = flags_given t.answer t.room ++ later.flags;
      held = later.held;
    }

pub first_told : {D : Type 0} (call : D → Offer → Told D) (d : D) (o : Offer) (os : List Offer) (t : Told D) → call d o ≡ t
    → in_turn call d (o ∷ os) ≡ from call os t
unfolding in_turn
first_told call d o os t e = ap (from call os) e

-- the answer of the first
module _ (start : Start) (t : ℕ) (o : Offer) (os : List Offer) where
  short_answer : length o.room < flags_due start t (length o.piece) → by_room start t (o ∷ os) ≡ 6 ∷ by_room start t os
  unfolding by_room
  short_answer h = rw (lt-ltb _ _ h) refl

  with_answer : flags_due start t (length o.piece) ≤ length o.room → by_room start t (o ∷ os) ≡ 0 ∷ by_room start (t + length o.piece) os
  unfolding by_room
  with_answer h = rw (le-ltb _ _ h) refl

-- what calls that bring in the samples q leave
record Brought (s : List ℕ) (t : ℕ) (d : Holding) (offers : List Offer) (q : List ℕ) (run : Run Holding) : Type 0 where
  only_room : run.numbers ≡ by_room d.detector.start t offers
  stands : At s (t + length q) run.held
  same_start : run.held.detector.start ≡ d.detector.start
  gives : run.flags ++ map flag_byte (left s run.held.detector (t + length q)) ≡ map flag_byte (left s d.detector t)

-- a piece leaves the start
piece_start : (h : Holding) (ws : List ℕ) → (with_piece h ws).detector.start ≡ h.detector.start
unfolding with_piece
piece_start h [] = refl
piece_start h (w ∷ ws) = piece_start (with_sample h (float w)) ws ∙ same_start h (float w)

-- a piece that is taken in, and then such calls
module _ (s : List ℕ) (t : ℕ) (d : Holding) (q rest : List ℕ) (at : At s t d) (e : drop t s ≡ q ++ rest) (good : readable t q ≡ Ok 0)
    (o : Offer) (os : List Offer) (more : List ℕ) (enough : flags_due d.detector.start t (length o.piece) ≤ length o.room)
    (parts : q ≡ o.piece ++ more) where
  abbrev n : ℕ
  n = length o.piece

  abbrev start : Start
  start = d.detector.start

  abbrev fs : List Bool
  fs = flags_before d o.piece

  abbrev next : Holding
  next = with_piece d o.piece

  left_over : drop t s ≡ o.piece ++ (more ++ rest)
  left_over = e ∙ ap (λ (l : List ℕ). l ++ rest) parts ∙ append_assoc o.piece more rest

  within : t + n ≤ length s
  within = omega (arith, at.inside, length-drop t s, ap length left_over, length-append o.piece (more ++ rest))

  tested : (readable t o.piece ≡ Ok 0) × (readable (t + n) more ≡ Ok 0)
  tested = readable_both t o.piece more (sym (ap (readable t) parts) ∙ good)

  gave : At s (t + n) next × (fs ++ left s next.detector (t + n) ≡ left s d.detector t)
  gave = piece_gives s o.piece (more ++ rest) t d at left_over

  behind : drop (t + n) s ≡ more ++ rest
  behind = sym (drop-drop n t s) ∙ ap (drop n) left_over ∙ drop-append_seam o.piece (more ++ rest)

  told_so : piece_told d o.piece o.room ≡ told (Ok (flags_due start t n)) next (flags_in o.room fs)
  told_so = with_room s t d o.piece o.room (Ok 0) at within enough tested.0

  written : take (flags_due start t n) (flags_in o.room fs) ≡ map flag_byte fs
  written =
      flags_there o.room fs (flags_due start t n) (due_length d o.piece at.enough ∙ ap (λ (k : ℕ). flags_due start k n) at.taken_is) enough

  whole : t + length q ≡ t + n + length more
  whole = omega (arith, ap length parts, length-append o.piece more)

  taken_and_more : Brought s (t + n) next os more (handed next os) → Brought s t d (o ∷ os) q (handed d (o ∷ os))
  taken_and_more later =
      let run = handed next os in
      let same = piece_start d o.piece in
      subst (Brought s t d (o ∷ os) q) (sym (first_told by_value d o os _ told_so))
      (record {
        only_room =
            ap (λ (ks : List ℕ). 0 ∷ ks) (later.only_room ∙ ap (λ (b : Start). by_room b (t + n) os) same) ∙ sym (with_answer start t o os enough);
        stands = rw whole later.stands;
        same_start = later.same_start ∙ same;
        gives =
            ap (λ (k : ℕ). take (flags_due start t n) (flags_in o.room fs) ++ run.flags ++ map flag_byte (left s run.held.detector k)) whole
            ∙ ap (λ (l : List ℕ). l ++ run.flags ++ map flag_byte (left s run.held.detector (t + n + length more))) written
            ∙ append_assoc (map flag_byte fs) run.flags _
            ∙ ap (λ (l : List ℕ). map flag_byte fs ++ l) later.gives
            ∙ sym (map-append flag_byte fs (left s next.detector (t + n)))
            ∙ ap (map flag_byte) gave.1;
      })

none_bring : (s : List ℕ) (t : ℕ) (d : Holding) → At s t d → Brought s t d [] [] (handed d [])
unfolding in_turn by_room
none_bring s t d at =
    record {
      only_room = refl;
      stands = subst (λ (k : ℕ). At s k d) (sym (add-zero t)) at;
      same_start = refl;
      gives = ap (λ (k : ℕ). map flag_byte (left s d.detector k)) (add-zero t);
    }

-- calls that bring in samples, from the start that the detector has
calls_bring : (s : List ℕ) (start : Start) (offers : List Offer) (t : ℕ) (d : Holding) (q rest : List ℕ) → d.detector.start ≡ start → At s t d
    → drop t s ≡ q ++ rest → readable t q ≡ Ok 0 → Cut start (length s) t offers q → Brought s t d offers q (handed d offers)
unfolding in_turn Cut
calls_bring s start [] t d q rest own at e good cut = rw cut (none_bring s t d at)
calls_bring s start (o ∷ os) t d q rest own at e good (inl (short, fit, cut)) =
    let mine : length o.room < flags_due d.detector.start t (length o.piece) = rw own short in
    let told_so = no_room s t d o.piece o.room at fit mine in
    let later = calls_bring s start os t d q rest own at e good cut in
    subst (Brought s t d (o ∷ os) q) (sym (first_told by_value d o os _ told_so))
    (record {
      only_room = ap (λ (ks : List ℕ). 6 ∷ ks) later.only_room ∙ sym (short_answer d.detector.start t o os mine);
      stands = later.stands;
      same_start = later.same_start;
      gives = later.gives;
    })
calls_bring s start (o ∷ os) t d q rest own at e good (inr (enough, (more, parts, cut))) =
    let mine : flags_due d.detector.start t (length o.piece) ≤ length o.room = rw own enough in
    taken_and_more s t d q rest at e good o os more mine parts
    (calls_bring s start os (t + length o.piece) (with_piece d o.piece) more rest (piece_start d o.piece ∙ own)
    (gave s t d q rest at e good o os more mine parts).0 (behind s t d q rest at e good o os more mine parts)
    (tested s t d q rest at e good o os more mine parts).1 cut)

-- ---- From the announcement on

-- what is left then are the flags of the whole, from either start
left_opening : (start : Start) (sensitivity : Float) (s : List ℕ) → floor_at s (begun start (length s) sensitivity) 0 ≡ opening_floor start (magnitudes s)
unfolding floor_at begun held_back opening_floor
left_opening Mean sensitivity s = refl
left_opening Old sensitivity s = refl

along_whole : (start : Start) (sensitivity : Float) (s : List ℕ)
    → flags_along (begun start (length s) sensitivity) (opening_floor start (magnitudes s)) (magnitudes_from s 0 (length s)) ≡ whole_flags start sensitivity s
unfolding flags_along begun whole_flags flags_of magnitudes
along_whole start sensitivity s = rw (length_magnitudes s 0 (length s)) refl

none_given : (start : Start) → given_by start 0 ≡ 0
none_given start = omega (arith, given_within start 0)

module _ (start : Start) (sensitivity : Float) (s values : List ℕ) (enough : Enough values) where
  abbrev first : Holding
  first = fresh start (length s) sensitivity values

  begun_there : At s 0 first
  unfolding begun
  begun_there =
      record {
        total_is = refl;
        taken_is = refl;
        inside = omega arith;
        goes_on = refl;
        last_is = λ h. absurd (omega (arith, h));
        before_is = λ h. absurd (omega (arith, h));
        enough = enough;
        held_is = λ h. no_magnitude s values;
      }

  first_start : first.detector.start ≡ start
  unfolding begun
  first_start = refl

  left_whole : left s first.detector 0 ≡ whole_flags start sensitivity s
  unfolding left
  left_whole =
      let d = begun start (length s) sensitivity in
      let opening = opening_floor start (magnitudes s) in
      let none : length s - 0 ≡ length s = omega arith in
      ap (λ (f : Float). flags_along d f (magnitudes_from s (given_by d.start 0) (length s - given_by d.start 0))) (left_opening start sensitivity s)
      ∙ ap (λ (k : ℕ). flags_along d opening (magnitudes_from s k (length s - k))) (none_given d.start)
      ∙ ap (λ (k : ℕ). flags_along d opening (magnitudes_from s 0 k)) none
      ∙ along_whole start sensitivity s

  module _ (p rest : List ℕ) (offers : List Offer) (parts : s ≡ p ++ rest) (good : InRange p) (cut : Cut start (length s) 0 offers p) where
    abbrev run : Run Holding
    run = handed first offers

    brought : Brought s 0 first offers p run
    brought = calls_bring s start offers 0 first p rest first_start begun_there parts good cut

    run_numbers : run.numbers ≡ by_room start 0 offers
    run_numbers = brought.only_room ∙ ap (λ (b : Start). by_room b 0 offers) first_start

    run_start : run.held.detector.start ≡ start
    run_start = brought.same_start ∙ first_start

    run_stands : At s (length p) run.held
    run_stands = subst (λ (k : ℕ). At s k run.held) (zero-add (length p)) brought.stands

    run_gives : run.flags ++ map flag_byte (left s run.held.detector (length p)) ≡ map flag_byte (whole_flags start sensitivity s)
    run_gives =
        ap (λ (k : ℕ). run.flags ++ map flag_byte (left s run.held.detector k)) (sym (zero-add (length p)))
        ∙ brought.gives
        ∙ ap (map flag_byte) left_whole

    so_far : run.flags ≡ map flag_byte (take (given_by start (length p)) (whole_flags start sensitivity s))
    so_far =
        sym (take_at run.flags _ (given_by start (length p)) many)
        ∙ ap (take (given_by start (length p))) run_gives
        ∙ take-map (given_by start (length p)) (whole_flags start sensitivity s)
      where
        take-map : (k : ℕ) (bs : List Bool) → take k (map flag_byte bs) ≡ map flag_byte (take k bs)
        take-map zero bs = refl
        take-map (suc k) [] = refl
        take-map (suc k) (b ∷ bs) = ap (λ (l : List ℕ). flag_byte b ∷ l) (take-map k bs)

        rest_flags : List Bool
        rest_flags = left s run.held.detector (length p)

        rest_count : length rest_flags ≡ length s - given_by start (length p)
        rest_count = length_left s run.held.detector (length p) ∙ ap (λ (b : Start). length s - given_by b (length p)) run_start

        all_count : length (whole_flags start sensitivity s) ≡ length s
        all_count =
            ap length (sym left_whole)
            ∙ length_left s first.detector 0
            ∙ ap (λ (k : ℕ). length s - k) (none_given first.detector.start)
            ∙ sub-zero (length s)

        count : length run.flags + (length s - given_by start (length p)) ≡ length s
        count =
            ap (λ (k : ℕ). length run.flags + k) (sym (length-map rest_flags flag_byte ∙ rest_count))
            ∙ sym (length-append run.flags (map flag_byte rest_flags))
            ∙ ap length run_gives
            ∙ length-map (whole_flags start sensitivity s) flag_byte
            ∙ all_count

        within_all : length p ≤ length s
        within_all = omega (arith, ap length parts, length-append p rest)

        many : length run.flags ≡ given_by start (length p)
        many = omega (arith, count, within_all, given_within start (length p))

pub flags_so_far : FlagsSoFar
flags_so_far start sensitivity p rest values offers good enough cut =
    let s = p ++ rest in (
      run_numbers start sensitivity s values enough p rest offers refl good cut,
      so_far start sensitivity s values enough p rest offers refl good cut,
    )

-- ---- The end

end_due : (s : List ℕ) (d : Holding) → At s (length s) d → length (last_flags d) ≡ length s - given_by d.detector.start (length s)
end_due s d at = ap length (end_gives s d at) ∙ length_left s d.detector (length s)

end-told : (s : List ℕ) (d : Holding) (room : List ℕ) → At s (length s) d → length s - given_by d.detector.start (length s) ≤ length room
    → end_told d room ≡ told (Ok (length (last_flags d))) (holding (closed d.detector) (last_values d)) (flags_in room (last_flags d))
unfolding end_told
end-told s d room at enough =
    let all : eqb d.detector.taken d.detector.total ≡ true = eq-eqb _ _ (at.taken_is ∙ sym at.total_is) in
    let less : ltb (length room) (length (last_flags d)) ≡ false = rw (end_due s d at) (le-ltb _ _ enough) in
    rw (le-ltb (length d.values) mean_over at.enough, at.goes_on, all, less) refl

pub however_cut : HoweverCut
unfolding announced
however_cut start sensitivity s values offers room may few good enough cut fit = (
  rw (le-ltb most_samples (length s) few, may) refl,
  run_numbers start sensitivity s values enough s [] offers whole_so good cut,
  rw ends refl,
  rw ends given,
)
  where
    whole_so : s ≡ s ++ []
    whole_so = sym (append-nil s)

    run_all : Run Holding
    run_all = handed (fresh start (length s) sensitivity values) offers

    d : Holding
    d = run_all.held

    at : At s (length s) d
    at = run_stands start sensitivity s values enough s [] offers whole_so good cut

    fits : length s - given_by d.detector.start (length s) ≤ length room
    fits = rw (run_start start sensitivity s values enough s [] offers whole_so good cut) fit

    ends : end_told d room ≡ told (Ok (length (last_flags d))) (holding (closed d.detector) (last_values d)) (flags_in room (last_flags d))
    ends = end-told s d room at fits

    given : run_all.flags ++ take (length (last_flags d)) (flags_in room (last_flags d)) ≡ map flag_byte (whole_flags start sensitivity s)
    given =
        ap (λ (l : List ℕ). run_all.flags ++ l) (flags_there room (last_flags d) (length (last_flags d)) refl (rw (end_due s d at) fits))
        ∙ ap (λ (l : List Bool). run_all.flags ++ map flag_byte l) (end_gives s d at)
        ∙ run_gives start sensitivity s values enough s [] offers whole_so good cut

-- ---- A stop

pub stopped_by_a_sample : StoppedByASample
stopped_by_a_sample start sensitivity p piece later values room offers place good enough cut out fit =
    let s = p ++ (piece ++ later) in
    let rest = piece ++ later in
    let at = run_stands start sensitivity s values enough p rest offers refl good cut in
    let own = run_start start sensitivity s values enough p rest offers refl good cut in
    let inside : length p + length piece ≤ length s = omega (arith, length-append p rest, length-append piece later) in (
      run_numbers start sensitivity s values enough p rest offers refl good cut,
      so_far start sensitivity s values enough p rest offers refl good cut,
      with_room s (length p) _ piece room (Err (Read place)) at inside (rw own fit) out,
    )

-- a detector that is closed stays so
stopped_is : (h : Holding) → h.detector.running ≡ false → stopped h ≡ h
stopped_is h e =
    let d = h.detector in
    ap
    (λ (b : Bool).
    holding
    (record {
      start = d.start;
      total = d.total;
      taken = d.taken;
      running = b;
      factor = d.factor;
      floor = d.floor;
      before = d.before;
      last = d.last;
    })
    h.values)
    (sym e)

module _ (h : Holding) (room : List ℕ) (over : h.detector.running ≡ false) (enough : Enough h.values) where
  closed_end : end_told h room ≡ told (Err Pieces) h room
  unfolding end_told
  closed_end =
      subst (λ (e : Holding). end_told e room ≡ told (Err Pieces) e room) (stopped_is h over) (rw (le-ltb (length h.values) mean_over enough) refl)

  closed_piece : (piece : List ℕ) → piece_told h piece room ≡ told (Err Pieces) h room
  unfolding piece_told
  closed_piece piece =
      subst (λ (e : Holding). piece_told e piece room ≡ told (Err Pieces) e room) (stopped_is h over)
      (rw (le-ltb (length h.values) mean_over enough) refl)

-- no call gives anything
abbrev Over : Holding → List Offer → Run Holding → Type 0
Over d offers run = (run.numbers ≡ replicate (length offers) 13) × (run.flags ≡ []) × (run.held ≡ d)

closed_calls : (d : Holding) (offers : List Offer) → d.detector.running ≡ false → Enough d.values → Over d offers (handed d offers)
unfolding in_turn
closed_calls d [] h enough = (refl, refl, refl)
closed_calls d (o ∷ os) h enough =
    let later = closed_calls d os h enough in
    subst (Over d (o ∷ os)) (sym (first_told by_value d o os _ (closed_piece d o.room h enough o.piece))) (
      ap (λ (ks : List ℕ). 13 ∷ ks) later.0,
      later.1,
      later.2,
    )

pub closed_for_good : ClosedForGood
closed_for_good d offers room h enough =
    let calls = closed_calls d offers h enough in
    let end = closed_end d room h enough in
    (calls.0, calls.1, calls.2, ap (λ (t : Told Holding). number t.answer) end, ap (λ (t : Told Holding). t.room) end)

pub flags_are_named : FlagsAreNamed
unfolding whole_flags decrackled
flags_are_named start sensitivity s = go (ltb (length s) least_samples)
  where
    go : (b : Bool)
        → (if b then replicate (length s) false else flags_of start sensitivity s)
        ≡ (if b then untouched s else drawn (smoothed (flags_of start sensitivity s) s) (flags_of start sensitivity s)).named
    go true = refl
    go false = refl
