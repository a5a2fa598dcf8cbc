-- What each run of a scan answers: an acceptance or a refusal from 6 to 9; none by 9 where the journal has as many free words as the
-- densest runs take, and none by 6 where the workspace suffices for every gap within the limit. And how much that is at most. Assumes nothing.
use Rattle.std.proofs.Common.{◌≡◌, ℕ, zero, suc, ◌+◌, ◌-◌, ◌*◌, ◌<◌, ◌≤◌, true, false, eqb, ltb, ◌⊎◌, List, [], ◌∷◌, length, get_or, sym, refl, ap, ◌∙◌, subst, inl, inr, true≢false, mul_assoc, add-mul, mul-le-mul_left, one-mul, mul-add, mul_left_comm, arith, ltb-false, ltb-true}
use native.Mathlib.Nat.{sub-zero}
use lib.Seq.{length-sets}
use lib.Ieee.{Float}
use Rattle.leaves.specs.Floats.{in_range}
use Rattle.recording.specs.Answers.{number, value}
use Rattle.recording.specs.Recording.{State, Ended, Placed, span, Plan, refuse, change, places, entry, entry_size}
use Rattle.recording.specs.Recording.{fitting, ranged, entered, committed, carried, performed, called}
use Rattle.recording.specs.Recording.{unless_refused}
use Rattle.recording.specs.Inner.{Fits}
use Rattle.recording.specs.Answer.{Answer}
use Rattle.std.specs.Prelude.{Ok, Err}
use Rattle.recording.proofs.commit.Laws.{length_span}
use Rattle.recording.proofs.open.Laws.{fitting_by, fits_done, accepted_fits}
use Rattle.recording.proofs.UndoCommit.{after_fits}
use Rattle.recording.proofs.Entering.{Enters, Ending, unnamed, turned_away, enters, ending, enters_ends}
use Rattle.leaves.proofs.Choice.{picks, picks_by}
use Rattle.model.specs.Model.{doubles_for}
use Rattle.recording.proofs.Put.{length_put}
use Rattle.inpaint.specs.Gap.{gap_wrong, needed, gap_plan, gap_repair}
use Rattle.inpaint.specs.Auto.{limit, zero_or_nan, run_at, next_run, source_passes, scannable}
use Rattle.inpaint.specs.Runs.{Stretch, runs_among, runs_of, gap_calls, answers}
use Rattle.inpaint.specs.Consequences.{AcceptedNamesTheGap, NeededAtMost, EachNumber, OwnAnswers, dense_places, dense_words, DenseSuffices, WideSuffices}
use Rattle.recording.proofs.Answers.{never_both}
use Rattle.std.specs.Prelude.{Option, Some, None}
use Rattle.inpaint.proofs.auto.Laws.{scannable_unfit, accepted_held}
use Rattle.inpaint.proofs.auto.Runs.{OfZeros, OfHeld, Found, found_run, Fit, fits}
use Rattle.inpaint.proofs.window.Laws.{right_gap, context_least, context_most, needed_within}
use Rattle.inpaint.proofs.gap.Laws.{plan_gap}
use Rattle.inpaint.proofs.Lawful.{plan_holds, gap_lawful}
use Rattle.inpaint.proofs.Dropouts.{zeros_end}
use Rattle.inpaint.proofs.Scans.{none_among, runs_behind, answers_first}

-- ---- What the repair of a gap answers

-- what holds of each number that it can give holds of the one that it gives
module _ (P : ℕ → Type 0) (s : State) (start len passes room : ℕ) (accepted : P 0) (unfit : P (number (fitting s)))
    (wrong : gap_wrong (length s.samples) start len ≡ true → P 5) (short : room < needed (length s.samples) start len → P 6)
    (read : P 7) (result : P 8) (full : length s.journal < s.used + entry_size len → P 9) where
  abbrev Holds : Ended → Type 0
  Holds e = P (number e.answer)

  unless : (a : Answer) (e : Ended) → P (number a) → Holds e → Holds (unless_refused a s e)
  unless (Ok m) e p q = q
  unless (Err why) e p q = p

  ranged_number : (cs : List Placed) → P (number (ranged cs))
  unfolding ranged
  ranged_number [] = accepted
  ranged_number (c ∷ cs) = picks (λ (a : Answer). P (number a)) (in_range c.value) _ _ (ranged_number cs) result

  entered_number : (mark : ℕ) (cs : List Placed) → length cs ≡ len → Holds (entered s mark cs)
  unfolding entered
  entered_number mark cs count =
      picks Holds (eqb (length cs) 0) _ _ accepted
      (picks_by Holds (ltb (length s.journal - s.used) (entry_size (length cs))) _ _
      (λ less. full (omega (arith, count, ltb-true (length s.journal - s.used) (entry_size (length cs)) less))) (λ enough. accepted))

  plan_number : Holds (carried s (gap_plan start len passes room s.samples))
  unfolding carried
  plan_number =
      plan_holds (λ (p : Plan). Holds (carried s p)) start len passes room s.samples wrong short (λ i. read)
      (λ mark ws m count inside. unless (ranged (span start ws)) _ (ranged_number (span start ws))
      (entered_number mark (span start ws) (length_span start ws ∙ count)))

  gap_number : Holds (gap_repair start len passes room s)
  unfolding gap_repair called performed
  gap_number = unless (fitting s) _ unfit plan_number

-- refusals 1, 14, 2 and 3 have these numbers
fitting_number : (P : ℕ → Type 0) (s : State) → P 0 → P 1 → P 14 → P 2 → P 3 → P (number (fitting s))
fitting_number P s p0 p1 p14 p2 p3 =
    fitting_by (λ (a : Answer). P (number a)) s (λ one. p1) (λ one fourteen. p14) (λ one fourteen two. p2) (λ one fourteen two three. p3)
    (λ one fourteen two three. p0)

-- ---- What it leaves

-- so many samples, marks and journal words as there were, with no more than one entry used
record Left (s : State) (len : ℕ) (t : State) : Type 0 where
  samples : length t.samples ≡ length s.samples
  journal : length t.journal ≡ length s.journal
  grown : t.used ≤ s.used + entry_size len
  fits : Fits s → Fits t

left_as_it_was : (s : State) (len : ℕ) → Left s len s
left_as_it_was s len = record { samples = refl; journal = refl; grown = omega arith; fits = λ f. f }

left_committed : (s : State) (len mark : ℕ) (cs : List Placed) → length cs ≡ len → Enters s mark cs → Left s len (committed s mark cs)
unfolding committed
left_committed s len mark cs count e =
    let samples = length_put cs s.samples in
    let journal = length-sets s.journal s.used (entry s mark (places cs)) in
    record {
      samples = samples;
      journal = journal;
      grown = omega (arith, count);
      fits = λ f. after_fits e;
    }

-- a plan names as many samples as the gap has
abbrev Names : ℕ → Plan → Type 0
Names len (refuse why) = Unit {0}
Names len (change mark cs) = length cs ≡ len

plan_names : (s : State) (start len passes room : ℕ) → Names len (gap_plan start len passes room s.samples)
plan_names s start len passes room =
    plan_holds (Names len) start len passes room s.samples (λ h. tt) (λ h. tt) (λ i. tt)
    (λ mark ws m count inside. length_span start ws ∙ count)

gap_left : (s : State) (start len passes room : ℕ) → Left s len (gap_repair start len passes room s).after
unfolding gap_repair called
gap_left s start len passes room = go (ending s plan (gap_lawful start len passes room s.samples))
  where
    plan : Plan
    plan = gap_plan start len passes room s.samples

    go : Ending s plan → Left s len (performed s plan).after
    go (unnamed mark p e) = rw e (left_as_it_was s len)
    go (turned_away why e) = rw e (left_as_it_was s len)
    go (enters mark cs p e) =
        rw (ap (performed s) p ∙ enters_ends e)
        (left_committed s len mark cs (subst (Names len) p (plan_names s start len passes room)) e)

-- a plan names all samples of its gap, and of none that has no sample
pub accepted_names_the_gap : AcceptedNamesTheGap
unfolding gap_repair called
accepted_names_the_gap start len passes room m s h = go (ending s plan (gap_lawful start len passes room s.samples))
  where
    plan : Plan
    plan = gap_plan start len passes room s.samples

    named : Names len plan
    named = plan_names s start len passes room

    changes : Plan → ℕ
    changes (refuse why) = 0
    changes (change mark cs) = 1

    go : Ending s plan → (m ≡ len) × (1 ≤ len)
    go (unnamed mark p e) =
        let none : 0 ≡ len = subst (Names len) p named in
        let wrong = plan_gap s.samples start len passes room (rw (← none) refl) in
        absurd (omega (arith, ap changes (sym wrong ∙ p)))
    go (turned_away why e) =
        let both : Err why ≡ Ok m = sym (ap (λ (end : Ended). end.answer) e) ∙ h in
        let none : ◌≡◌ {A = ℕ} 0 1 = cc in
        absurd (omega arith)
    go (enters mark cs p e) =
        let count : length cs ≡ len = subst (Names len) p named in
        let ends = ap (performed s) p ∙ enters_ends e in
        let told = ap value (sym (ap (λ (end : Ended). end.answer) ends) ∙ h) in
        (omega (arith, told, count), omega (arith, e.some, count))

-- ---- The runs of a scan

-- runs that are found one behind the other, the first from place i on
abbrev pub InTurn : List ℕ → ℕ → ℕ → ℕ → List Stretch → Type 0
InTurn samples most held i [] = Unit {0}
InTurn samples most held i (r ∷ rs) = Found samples most held i i r.start r.len × InTurn samples most held (r.start + r.len) rs

runs_in_turn : (samples : List ℕ) (most held k i : ℕ) → length samples ≤ i + k
    → InTurn samples most held i (runs_among samples most held i i (length samples - i))
runs_in_turn samples most held zero i h =
    let none : length samples - i ≡ 0 = omega arith in
    rw none (unfold runs_among in tt)
runs_in_turn samples most held (suc k) i h = go (next_run samples most held i) refl (runs_in_turn samples most held k)
  where
    n : ℕ
    n = length samples

    go : (t : Option Stretch) → next_run samples most held i ≡ t
        → ((j : ℕ) → n ≤ j + k → InTurn samples most held j (runs_among samples most held j j (n - j)))
        → InTurn samples most held i (runs_among samples most held i i (n - i))
    go None e later = rw (none_among samples most held i i (n - i) e) tt
    go (Some r) e later =
        let f = found_run samples most held i r.start r.len e in
        rw (runs_behind samples most held i r.start r.len f) (f, later (r.start + r.len) (omega (arith, f.on, (fits f).ends)))

-- and so all runs of a recording
pub all_in_turn : (samples : List ℕ) (most held : ℕ) → InTurn samples most held 0 (runs_of samples most held)
all_in_turn samples most held =
    subst (λ (m : ℕ). InTurn samples most held 0 (runs_among samples most held 0 0 m)) (sub-zero (length samples))
    (runs_in_turn samples most held (length samples) 0 (omega arith))

-- the repair of a run that is found from place i on has an answer of which P holds, where I holds of the place and the recording, and
-- leaves them so
abbrev Step : (ℕ → Type 0) → (ℕ → State → Type 0) → List ℕ → ℕ → ℕ → ℕ → Type 0
Step P I samples most held room =
    (i start len : ℕ) (s : State) → I i s → Found samples most held i i start len
    → let e = gap_repair start len source_passes room s in P (number e.answer) × I (start + len) e.after

-- so P holds of all answers
each_number : (P : ℕ → Type 0) (I : ℕ → State → Type 0) (samples : List ℕ) (most held room : ℕ) → Step P I samples most held room
    → (rs : List Stretch) (i : ℕ) (s : State) → InTurn samples most held i rs → I i s → EachNumber P (answers (gap_calls room rs) s)
each_number P I samples most held room step [] i s h k = unfold answers in tt
each_number P I samples most held room step (r ∷ rs) i s h k =
    let e = gap_repair r.start r.len source_passes room s in
    let now = step i r.start r.len s k h.0 in
    rw (answers_first room r rs s) (now.0, each_number P I samples most held room step rs (r.start + r.len) e.after h.1 now.1)

all_numbers : (P : ℕ → Type 0) (I : ℕ → State → Type 0) (most held room : ℕ) (s : State) → Step P I s.samples most held room → I 0 s
    → EachNumber P (answers (gap_calls room (runs_of s.samples most held)) s)
all_numbers P I most held room s step begin =
    let n = length s.samples in
    each_number P I s.samples most held room step (runs_of s.samples most held) 0 s
    (all_in_turn s.samples most held) begin

-- ---- How much of the journal they take

-- Runs take at most 3 * p + 1 words for p places, where p is two more than a held run has at least: for each place three words and a p-th
-- of a word. So all is counted in p-ths of a word, of which these are those for i places.
abbrev dense : ℕ → ℕ → ℕ
dense p i = 3 * (p * i) + i

dense_rate : (held i : ℕ) → 2 ≤ held → dense_words held * i ≡ dense (dense_places held) i
dense_rate held i two =
    let p = dense_places held in
    let words : dense_words held ≡ 3 * p + 1 = omega arith in
    ap (λ (w : ℕ). w * i) words
    ∙ add-mul (3 * p) 1 i
    ∙ ap (λ (m : ℕ). m + 1 * i) (mul_assoc 3 p i)
    ∙ ap (λ (m : ℕ). 3 * (p * i) + m) (one-mul i)

module _ (p v : ℕ) (some : 1 ≤ p) where
  -- what an entry adds: three words for each of `len` samples, and two more
  grows : (u u' len : ℕ) → u' ≤ u + entry_size len → p * u' ≤ p * u + 3 * (p * len) + 2 * p
  grows u u' len grown =
      omega (arith, mul-le-mul_left p grown, mul-add p u (3 * len + 2), mul-add p (3 * len) 2, mul_left_comm p 3 len)

  -- what is used behind a run of zeros and NaN from place `at` on, if before it no more was than the densest runs take;
  after_lost : (i at len u u' : ℕ) → u' ≤ u + entry_size len → 2 ≤ len → i ≤ at → p * u ≤ p * v + dense p i
      → p * u' ≤ p * v + dense p (at + len) + (2 * p - 2)
  after_lost i at len u u' grown two on h = omega (arith, grows u u' len grown, mul-le-mul_left p on, mul-add p at len)

  -- if before it as much was as another such run can leave, at whose end it does not begin;
  after_both : (i at len u u' : ℕ) → u' ≤ u + entry_size len → 2 ≤ len → i + 1 ≤ at → p * u ≤ p * v + dense p i + (2 * p - 2)
      → p * u' ≤ p * v + dense p (at + len) + (2 * p - 2)
  after_both i at len u u' grown two on h =
      omega (arith, grows u u' len grown, mul-le-mul_left p on, mul-add p i 1, mul-add p at len)

  -- and behind a run of a held word, of one sample more than its gap has, so that its entry has a word less than three for each of its samples
  after_held : (i at len u u' : ℕ) → u' ≤ u + entry_size len → p ≤ len + 3 → i ≤ at → p * u ≤ p * v + dense p i + (2 * p - 2)
      → p * u' ≤ p * v + dense p (at + (len + 1))
  after_held i at len u u' grown long on h =
      omega (arith, grows u u' len grown, mul-le-mul_left p on, mul-add p at (len + 1), mul-add p len 1)

  -- where the journal has as many words as the densest runs take at n places, no more are used up to a place before the last of them
  no_more : (n j k x : ℕ) → p * v + dense p n ≤ p * j → k + 1 ≤ n → p * x ≤ p * v + dense p k + (2 * p - 2) → j < x → ⊥
  no_more n j k x long inside h full =
      let below : j ≤ x = omega arith in
      omega (arith, mul-le-mul_left p inside, mul-le-mul_left p below, mul-add p k 1)

-- up to place i, with u words used from the v on that were used before: no more than the densest runs take; or, at the end of a run of zeros
-- and NaN, where no such sample follows, up to two words less two p-ths of a word more (34 eighteenths, where 16 words are held)
abbrev UsedTo : List ℕ → ℕ → ℕ → ℕ → ℕ → Type 0
UsedTo samples p v i u =
    (p * u ≤ p * v + dense p i) ⊎ ((p * u ≤ p * v + dense p i + (2 * p - 2)) × (zero_or_nan (get_or samples i 0) ≡ false))

-- so in both cases
used_most : (samples : List ℕ) (p v i u : ℕ) → UsedTo samples p v i u → p * u ≤ p * v + dense p i + (2 * p - 2)
used_most samples p v i u (inl h) = omega arith
used_most samples p v i u (inr h) = h.0

-- a run more, with its entry
uses : (samples : List ℕ) (most held v i start len u u' : ℕ) → Found samples most held i i start len
    → UsedTo samples (dense_places held) v i u → u' ≤ u + entry_size len → UsedTo samples (dense_places held) v (start + len) u'
uses samples most held v i start len u u' f so_far grown = go g.kind so_far
  where
    p : ℕ
    p = dense_places held

    some : 1 ≤ p
    some = omega arith

    g : Fit samples most held f.at start len
    g = fits f

    go : OfZeros (get_or samples f.at 0) (run_at samples f.at) ⊎ OfHeld held (get_or samples f.at 0) (run_at samples f.at)
        → UsedTo samples p v i u → UsedTo samples p v (start + len) u'
    go (inl z) (inl h) =
        let first : start ≡ f.at = omega (arith, f.start_is, z.none_kept) in
        let two : 2 ≤ len = omega (arith, first, g.ends, z.two) in
        inr (after_lost p v some i start len u u' grown two (omega (arith, first, f.on)) h, zeros_end f z.zero)
    -- where another run of zeros and NaN ends, there stands no such sample
    go (inl z) (inr h) =
        let apart : i ≡ f.at → ⊥ = λ e. true≢false (sym z.zero ∙ ap (λ (j : ℕ). zero_or_nan (get_or samples j 0)) (sym e) ∙ h.1) in
        let first : start ≡ f.at = omega (arith, f.start_is, z.none_kept) in
        let two : 2 ≤ len = omega (arith, first, g.ends, z.two) in
        let on : i + 1 ≤ start = omega (arith, first, f.on, apart) in
        inr (after_both p v some i start len u u' grown two on h.0, zeros_end f z.zero)
    go (inr k) before =
        let end : f.at + (len + 1) ≡ start + len = omega (arith, f.start_is, k.one_kept) in
        let long : p ≤ len + 3 = omega (arith, end, g.ends, k.enough) in
        let most-used = used_most samples p v i u before in
        inl (subst (λ (m : ℕ). p * u' ≤ p * v + dense p m) end (after_held p v some i f.at len u u' grown long f.on most-used))

-- ---- The answers of a scan's runs

pub dense_suffices : DenseSuffices
dense_suffices rate ms held work s two long = all_numbers P I (limit ms rate) held (length work) s step (refl, refl, inl (omega arith))
  where
    p : ℕ
    p = dense_places held

    room : p * s.used + dense p (length s.samples) ≤ p * length s.journal
    room = subst (λ (m : ℕ). p * s.used + m ≤ p * length s.journal) (dense_rate held (length s.samples) two) long

    P : ℕ → Type 0
    P k = k ≡ 9 → ⊥

    I : ℕ → State → Type 0
    I i t = (length t.samples ≡ length s.samples) × (length t.journal ≡ length s.journal) × UsedTo s.samples p s.used i t.used

    other : (k : ℕ) → k < 9 → k ≡ 9 → ⊥
    other k h e = omega arith

    step : Step P I s.samples (limit ms rate) held (length work)
    step i start len t h f =
        let left = gap_left t start len source_passes (length work) in
        let entry = t.used + entry_size len in
        let used =
        used_most s.samples p s.used (start + len) entry
        (uses s.samples (limit ms rate) held s.used i start len t.used entry f h.2 (omega arith))
        in
        let inside : start + len + 1 ≤ length s.samples = omega (arith, (fits f).inside) in (
          gap_number P t start len source_passes (length work) (other 0 (omega arith))
              (fitting_number P t (other 0 (omega arith)) (other 1 (omega arith)) (λ (e : 14 ≡ 9). omega arith) (other 2 (omega arith))
              (other 3 (omega arith)))
              (λ w. other 5 (omega arith)) (λ w. other 6 (omega arith)) (other 7 (omega arith)) (other 8 (omega arith))
              (λ full e. no_more p s.used (omega arith) (length s.samples) (length s.journal) (start + len) entry room inside used
              (omega (arith, full, h.1))),
          (
            left.samples ∙ h.0,
            left.journal ∙ h.1,
            uses s.samples (limit ms rate) held s.used i start len t.used _ f h.2 left.grown,
          ),
        )

pub wide_suffices : WideSuffices
wide_suffices rate ms held work s wide = all_numbers P I (limit ms rate) held (length work) s step refl
  where
    P : ℕ → Type 0
    P k = k ≡ 6 → ⊥

    I : ℕ → State → Type 0
    I i t = length t.samples ≡ length s.samples

    other : (k : ℕ) → (k < 6) ⊎ (6 < k) → k ≡ 6 → ⊥
    other k (inl h) e = omega arith
    other k (inr h) e = omega arith

    step : Step P I s.samples (limit ms rate) held (length work)
    step i start len t h f = (
      gap_number P t start len source_passes (length work) (other 0 (inl (omega arith)))
          (fitting_number P t (other 0 (inl (omega arith))) (other 1 (inl (omega arith))) (other 14 (inr (omega arith))) (other 2 (inl (omega arith)))
          (other 3 (inl (omega arith)))) (λ w. other 5 (inl (omega arith)))
          (λ less e. omega (arith, rw h at less, wide start len (fits f).short)) (other 7 (inr (omega arith))) (other 8 (inr (omega arith)))
          (λ full. other 9 (inr (omega arith))),
      (gap_left t start len source_passes (length work)).samples ∙ h,
    )

-- a scan that is not turned away fits
scannable_fits : (rate : ℕ) (ms : Float) (held : ℕ) (s : State) → scannable rate ms held s ≡ Ok 0 → Fits s
scannable_fits rate ms held s h = go (fitting s) refl
  where
    go : (a : Answer) → a ≡ fitting s → Fits s
    go (Ok m) e = accepted_fits s m (sym e)
    go (Err why) e =
        never_both (sym h ∙ sym (scannable_unfit rate ms held s (Err why) e why refl))

pub own_answers : OwnAnswers
own_answers rate ms held work s h = all_numbers P I (limit ms rate) held (length work) s step (refl, scannable_fits rate ms held s h)
  where
    P : ℕ → Type 0
    P k = (k ≡ 0) ⊎ ((6 ≤ k) × (k ≤ 9))

    I : ℕ → State → Type 0
    I i t = (length t.samples ≡ length s.samples) × Fits t

    refusal : (k : ℕ) → 6 ≤ k → k ≤ 9 → P k
    refusal k a b = inr (a, b)

    two : 2 ≤ held
    two = accepted_held rate ms held work s (Ok 0) (sym h) 0 refl

    step : Step P I s.samples (limit ms rate) held (length work)
    step i start len t k f =
        let left = gap_left t start len source_passes (length work) in
        let right = right_gap (length t.samples) start len ((fits f).one two) (omega (arith, k.0, (fits f).inside)) in (
          gap_number P t start len source_passes (length work) (inl refl) (rw (fits_done k.1) (inl refl))
              (λ w. absurd (true≢false (sym w ∙ right))) (λ w. refusal 6 (omega arith) (omega arith)) (refusal 7 (omega arith) (omega arith))
              (refusal 8 (omega arith) (omega arith)) (λ w. refusal 9 (omega arith) (omega arith)),
          (left.samples ∙ k.0, left.fits k.1),
        )

-- ---- The workspace of a gap

-- one of at most `most` samples, where these are so few that the context is 1024 and the order no more than `most`
pub needed_short : (n start len most : ℕ) → len ≤ most → 32 ≤ most → most ≤ 128
    → needed n start len ≤ doubles_for (most + 2 * 1024) most most
needed_short n start len most short low high =
    let context-is = context_least len (omega arith) (omega arith) in
    needed_within n start len most 1024 most short (omega arith) (omega (arith, context-is)) (omega arith)

pub needed_at_most : NeededAtMost
needed_at_most n start len model =
    needed_within n start len 2048 8192 128 (ltb-false 2048 len model) (omega arith) (context_most len) (omega arith)
