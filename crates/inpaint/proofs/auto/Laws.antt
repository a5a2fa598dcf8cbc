-- The scan for dropouts: its settings, its limit and its refusals, and the scan run by run. Assumes nothing.
use Rattle.std.proofs.Common.{◌≡◌, ℕ, zero, suc, ◌+◌, ◌-◌, ◌*◌, ◌/◌, ◌<◌, ◌≤◌, min, Bool, true, false, cond, ◌&&◌, T, eqb, leb, List, length, replicate, pos, sym, refl, ap, ◌∙◌, subst, inl, inr, true≢false, le-div_iff_mul-le, add-zero, arith, ltb-false, le-ltb, lt-ltb, ne_eqb, le-leb, leb-true}
use mathlib.Core.Bool.{false≢true}
use lib.Seq.{sets}
use lib.Ieee.{Float, nan, inf, fin, binary32, up, down, neg, div, mul, lt, is_nan, to_unsigned, of_bits, of_int}
use lib.Ieee.Fits.{down_pos}
use lib.Ieee.Scale.{finite}
use borrow.Author.Tests.{lt-leb}
use Rattle.leaves.proofs.Literals.{unbounded, plus_infinity, one_word}
use Rattle.leaves.specs.Arithmetic.{nought, one, count}
use Rattle.leaves.specs.Floats.{larger}
use Rattle.leaves.proofs.words.Laws.{one_nan}
use Rattle.recording.specs.Answers.{number, reason_number}
use Rattle.recording.specs.Recording.{State, Ended, ended, fitting, or_else, work_after}
use Rattle.std.specs.Prelude.{if◌then◌else◌}
use Rattle.recording.specs.declared.Reason.{Reason}
use Rattle.recording.specs.declared.Reason.TheVariants.{Setting}
use Rattle.recording.specs.Answer.{Answer}
use Rattle.std.specs.Prelude.{Ok, Err}
use Rattle.leaves.proofs.Choice.{truth, EitherWay, both_hold}
use Rattle.recording.specs.Recording.{most_samples}
use Rattle.recording.proofs.open.Laws.{accepted_fits}
use Rattle.recording.proofs.Single.{above_zero}
use Rattle.recording.proofs.Answers.{never_both}
use Rattle.std.specs.Option.{option_or}
use Rattle.inpaint.specs.Auto.{refused_number}
use Rattle.inpaint.specs.Gap.{needed, gap_repair}
use Rattle.inpaint.specs.Auto.{allowed, held_allowed, limit, next_run, Scan, scan, repair_at, scan_from, scannable, automatic}
use Rattle.inpaint.specs.Runs.{stretch}
use Rattle.inpaint.specs.Order.{noted}
use Rattle.inpaint.specs.declared.Stretch.{Stretch}
use Rattle.std.specs.Prelude.{Option, Some, None}
use Rattle.inpaint.proofs.auto.Runs.{both}

-- ---- how the repair of a run counts

-- a reason has a number that is not 0
pub numbered : (why : Reason) → eqb (reason_number why) 0 ≡ false
numbered why = ne_eqb (reason_number why) 0 (λ (e : reason_number why ≡ 0). omega (arith, above_zero why))

-- an acceptance is one run more that was repaired, and leaves the first refusal as it is
pub accepted_counts : (r m : ℕ) → r + 1 ≡ r + cond (eqb (number (Ok m)) 0) 1 0
accepted_counts r m = refl

pub accepted_keeps : (k m : ℕ) → k ≡ cond (eqb k 0) (number (Ok m)) k
accepted_keeps zero m = refl
accepted_keeps (suc k) m = rw (ne_eqb (suc k) 0 (λ (e : suc k ≡ 0). omega (arith, e))) refl

-- a refusal is none, and is the first where there was none before
pub refused_counts : (r : ℕ) (why : Reason) → r ≡ r + cond (eqb (number (Err why)) 0) 1 0
refused_counts r why = rw (numbered why) (sym (add-zero r))

pub refused_first : (first : Option Reason) (why : Reason)
    → refused_number (option_or first (Some why)) ≡ cond (eqb (refused_number first) 0) (number (Err why)) (refused_number first)
refused_first None why = refl
refused_first (Some other) why = rw (numbered other) refl

-- ---- the settings

pub rate_past : (rate : ℕ) (ms : Float) → 16777216 < rate → false ≡ allowed rate ms
rate_past rate ms h = rw (lt-leb rate 16777216 h) refl

-- between the infinities lies all but the infinities and the NaN
between : (x : Float) → lt x (inf false) ≡ true → lt (inf true) x ≡ finite x
unfolding lt
between nan h = refl
between (inf true) h = refl
between (inf false) h = absurd (false≢true h)
between (fin s m e) h = refl

beyond : (x : Float) → lt x (inf false) ≡ false → false ≡ finite x
unfolding lt
beyond nan h = refl
beyond (inf true) h = refl
beyond (inf false) h = refl
beyond (fin s m e) h = sym h

pub limit_between : (rate : ℕ) (ms : Float) → rate ≤ 16777216 → lt ms unbounded ≡ true
    → lt (neg unbounded) ms ≡ allowed rate ms
unfolding neg
limit_between rate ms r h = rw (le-leb rate 16777216 r, plus_infinity) (between ms (rw plus_infinity at h))

pub limit_beyond : (rate : ℕ) (ms : Float) → rate ≤ 16777216 → lt ms unbounded ≡ false → false ≡ allowed rate ms
limit_beyond rate ms r h = rw (le-leb rate 16777216 r) (beyond ms (rw plus_infinity at h))

-- ---- a float cut to a whole number

-- 2 ^ 64 as the code has it
abbrev pub past_word : Float
past_word = of_bits binary32 1602224128

pub cut_below : (x : Float) → lt x past_word ≡ true → lt (neg (of_bits binary32 1065353216)) x ≡ true
    → T (lt (fin true 1 (pos 0)) x) × T (lt x (fin false 1 (pos 64)))
unfolding of_bits neg
cut_below x h k = (subst T (sym k) tt, subst T (sym h) tt)

-- what is not above -1 has a sign, or is a NaN
pub cut_negative : (x : Float) → lt (neg (of_bits binary32 1065353216)) x ≡ false → 0 ≡ to_unsigned 64 x
unfolding of_bits neg lt to_unsigned
cut_negative nan h = refl
cut_negative (inf true) h = refl
cut_negative (inf false) h = absurd (true≢false h)
cut_negative (fin true m e) h = refl
cut_negative (fin false m e) h = both (lt-ltb 0 (1 * 1 * down e + m * up e * 1) (omega (arith, down_pos e))) h

-- a quotient of at least p is cut to p - 1
capped : (p a d : ℕ) → 0 < d → p * d ≤ a → p - 1 ≡ min (a / d) (p - 1)
capped p a d h k =
    let most : p ≤ a / d = (le-div_iff_mul-le h).1 k in
    omega arith

-- what is not below 2 ^ 64, and no NaN, has no sign, and is cut to the largest number
pub cut_past : (x : Float) → lt x past_word ≡ false → is_nan x ≡ false → 18446744073709551615 ≡ to_unsigned 64 x
unfolding of_bits lt is_nan to_unsigned
cut_past nan h k = absurd (true≢false k)
cut_past (inf true) h k = absurd (true≢false h)
cut_past (inf false) h k = refl
cut_past (fin true m e) h k =
    both (lt-ltb 0 (m * up e * 1 + 18446744073709551616 * down e) (omega (arith, down_pos e))) h
cut_past (fin false m e) h k =
    let past = ltb-false (m * up e * 1) (18446744073709551616 * down e) h in
    capped 18446744073709551616 (m * up e) (down e) (down_pos e) (omega (arith, past))

-- a NaN alone differs from itself
pub cut_nan : (x : Float) → is_nan x ≡ true → 0 ≡ to_unsigned 64 x
unfolding to_unsigned
cut_nan x h = sym (ap (to_unsigned 64) (one_nan x h))

-- ---- the limit

-- the code's 1000.0 is the rule's
thousand : of_bits binary32 1148846080 ≡ count 1000
unfolding of_bits count of_int
thousand = refl

limit_opened : (ms : Float) (rate : ℕ)
    → to_unsigned 64 (larger (mul binary32 (div binary32 ms (count 1000)) (count rate)) one) ≡ limit ms rate
unfolding limit
limit_opened ms rate = refl

pub limit_is : (ms : Float) (rate : ℕ) (k l : Float) (r : ℕ) → k ≡ count rate
    → l ≡ larger (mul binary32 (div binary32 ms (of_bits binary32 1148846080)) k) (of_bits binary32 1065353216)
    → r ≡ to_unsigned 64 l → r ≡ limit ms rate
limit_is ms rate k l r a b c = c ∙ ap (to_unsigned 64) (b ∙ rw (a, thousand, one_word) refl) ∙ limit_opened ms rate

-- ---- refusals 1, 14 and 2 to 4

abbrev settled : ℕ → Float → ℕ → Answer → Answer
settled rate ms held sized =
    or_else sized (if allowed rate ms && held_allowed held then Ok 0 else Err Setting)

module _ (rate : ℕ) (ms : Float) (held : ℕ) (s : State) (sized : Answer) (answered : sized ≡ fitting s) where
  opened : settled rate ms held sized ≡ scannable rate ms held s
  unfolding scannable
  opened = ap (settled rate ms held) answered

  pub scannable_unfit : (why : Reason) → sized ≡ Err why → sized ≡ scannable rate ms held s
  scannable_unfit why h = h ∙ sym (ap (settled rate ms held) h) ∙ opened

  module _ (m : ℕ) (accepted : sized ≡ Ok m) (r : Bool) (tested : r ≡ allowed rate ms && held_allowed held) where
    pub scannable_all : r ≡ true → Ok 0 ≡ scannable rate ms held s
    scannable_all h =
        let told : Ok 0 ≡ settled rate ms held (Ok m) = rw (← tested, h) refl in
        told ∙ sym (ap (settled rate ms held) accepted) ∙ opened

    pub scannable_setting : r ≡ false → Err Setting ≡ scannable rate ms held s
    scannable_setting h =
        let told : Err Setting ≡ settled rate ms held (Ok m) = rw (← tested, h) refl in
        told ∙ sym (ap (settled rate ms held) accepted) ∙ opened

-- ---- the scan, run by run

-- what the repair of a run, ended so, leaves
abbrev repaired_so : Scan → ℕ → ℕ → Ended → Scan
repaired_so c start len e =
    let k = number e.answer in
    scan (c.qualified + 1) (c.repaired + cond (eqb k 0) 1 0) (cond (eqb c.refused 0) k c.refused) e.after
    (work_after nought (needed (length c.after.samples) start len) e.answer c.work)

-- what the scan does with what the search answers
abbrev goes_on : ℕ → ℕ → ℕ → Scan → Option Stretch → Scan
goes_on most held n c r = elim r [ None ↦ c | Some g ↦ scan_from most held (g.start + g.len) n (repair_at c g.start g.len) ]

pub scan_stops : (most held i n : ℕ) (c : Scan) → next_run c.after.samples most held i ≡ None → scan_from most held i n c ≡ c
unfolding scan_from
scan_stops most held i zero c h = refl
scan_stops most held i (suc n) c h = ap (goes_on most held n c) h

pub scan_takes : (most held i n start len : ℕ) (c : Scan) → next_run c.after.samples most held i ≡ Some (stretch start len)
    → scan_from most held i (suc n) c ≡ scan_from most held (start + len) n (repair_at c start len)
unfolding scan_from
scan_takes most held i n start len c h = ap (goes_on most held n c) h

-- one turn: a run is found and repaired, and then what is left gives the same whole
pub scan_turn : (most held i start len n q r k done first : ℕ) (s t : State) (w v : List Float) (a : Answer) (whole : Scan)
    → q < n
    → next_run s.samples most held i ≡ Some (stretch start len)
    → ended a t ≡ gap_repair start len 3 (length w) s
    → v ≡ work_after nought (needed (length s.samples) start len) a w
    → done ≡ r + cond (eqb (number a) 0) 1 0
    → first ≡ cond (eqb k 0) (number a) k
    → scan_from most held i (n - q) (scan q r k s w) ≡ whole
    → scan_from most held (start + len) (n - (q + 1)) (scan (q + 1) done first t v) ≡ whole
scan_turn most held i start len n q r k done first s t w v a whole h found ends works ed ef rest =
    let c = scan q r k s w in
    let left : n - q ≡ suc (n - (q + 1)) = omega arith in
    let now : scan (q + 1) done first t v ≡ repaired_so c start len (ended a t) = rw (works, ed, ef) refl in
    ap (scan_from most held (start + len) (n - (q + 1))) (now ∙ ap (repaired_so c start len) ends)
    ∙ sym (scan_takes most held i (n - (q + 1)) start len c found)
    ∙ sym (ap (λ (m : ℕ). scan_from most held i m c) left)
    ∙ rest

-- ---- the order of a run's model

module _ (start len m order : ℕ) (orders : List ℕ) (a : Answer) (accepted : a ≡ Ok m) where
  -- it is noted at the places of a gap by the model,
  pub noted_model : (left : List ℕ) → len ≤ 2048 → left ≡ sets orders start (replicate len order)
      → left ≡ noted (stretch start len) a order orders
  noted_model left short e = e ∙ rw (accepted, le-ltb 2048 len short) refl

  -- and nowhere for a straight line
  pub noted_line : 2048 < len → orders ≡ noted (stretch start len) a order orders
  noted_line long = rw (accepted, lt-ltb 2048 len long) refl

-- ---- the whole call

abbrev scanned_so : ℕ → ℕ → ℕ → List Float → State → Answer → Scan
scanned_so most held n w s first =
    elim first [ Ok m ↦ scan_from most held 0 n (scan 0 0 0 s w) | Err why ↦ scan 0 0 (reason_number why) s w ]

module _ (rate : ℕ) (ms : Float) (held : ℕ) (w : List Float) (s : State)
    (checked : Answer) (tested : checked ≡ scannable rate ms held s) where
  whole_call : scanned_so (limit ms rate) held (length s.samples) w s checked ≡ automatic rate ms held w s
  unfolding automatic
  whole_call = ap (scanned_so (limit ms rate) held (length s.samples) w s) tested

  pub automatic_refused : (why : Reason) → checked ≡ Err why → scan 0 0 (reason_number why) s w ≡ automatic rate ms held w s
  automatic_refused why h = sym (ap (scanned_so (limit ms rate) held (length s.samples) w s) h) ∙ whole_call

  module _ (m : ℕ) (accepted : checked ≡ Ok m) where
    pub automatic_scanned : (most : ℕ) (c : Scan) → most ≡ limit ms rate
        → c ≡ scan_from most held 0 (length s.samples) (scan 0 0 0 s w) → c ≡ automatic rate ms held w s
    automatic_scanned most c e h =
        h
        ∙ ap (λ (l : ℕ). scan_from l held 0 (length s.samples) (scan 0 0 0 s w)) e
        ∙ sym (ap (scanned_so (limit ms rate) held (length s.samples) w s) accepted)
        ∙ whole_call

    -- accepted settings are allowed
    settings_hold : allowed rate ms && held_allowed held ≡ true
    settings_hold = go (fitting s) refl (truth (allowed rate ms && held_allowed held))
      where
        go : (sized : Answer) → sized ≡ fitting s → EitherWay (allowed rate ms && held_allowed held) → allowed rate ms && held_allowed held ≡ true
        go (Ok j) f (inl y) = y
        go (Ok j) f (inr y) =
            let refused = scannable_setting rate ms held s (Ok j) f j refl (allowed rate ms && held_allowed held) refl y in
            never_both (sym accepted ∙ tested ∙ sym refused)
        go (Err why) f y =
            never_both (sym accepted ∙ tested ∙ sym (scannable_unfit rate ms held s (Err why) f why refl))

    each_holds : (allowed rate ms ≡ true) × (held_allowed held ≡ true)
    each_holds = both_hold (allowed rate ms) (held_allowed held) settings_hold

    -- the recording is one that refusal 2 does not turn away
    pub accepted_few : length s.samples ≤ most_samples
    accepted_few = go (fitting s) refl
      where
        go : (sized : Answer) → sized ≡ fitting s → length s.samples ≤ most_samples
        go (Ok j) f = (accepted_fits s j (sym f)).few
        go (Err why) f = never_both (sym accepted ∙ tested ∙ sym (scannable_unfit rate ms held s (Err why) f why refl))

    -- the rate is one that an f32 holds
    pub accepted_rate : rate ≤ 16777216
    accepted_rate = leb-true rate 16777216 (both_hold (leb rate 16777216) (finite ms) each_holds.0).0

    -- and a held run has two words at least
    pub accepted_held : 2 ≤ held
    accepted_held = leb-true 2 held (both_hold (leb 2 held) (leb held 4096) each_holds.1).0
