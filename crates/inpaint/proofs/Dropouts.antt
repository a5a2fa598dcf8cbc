-- What a dropout run is made of, and what stands on either side of it; so the runs of a scan are those that the documents describe, and no
-- others. Assumes nothing.
use Rattle.std.proofs.Common.{◌≡◌, ℕ, zero, suc, ◌+◌, ◌-◌, ◌<◌, ◌≤◌, true, false, eqb, List, length, get_or, sym, refl, ap, ◌∙◌, subst, inl, inr, arith, lt-ltb, eq-eqb, ne_eqb, eqb-true, le-leb}
use mathlib.Core.Bool.{and-false}
use native.Mathlib.Decide.{ℕ_discrete}
use Rattle.leaves.proofs.Choice.{truth, EitherWay, both_hold}
use Rattle.recording.specs.Consequences.{Among}
use Rattle.recording.proofs.Runs.{run_met, run_behind, run_exact}
use Rattle.inpaint.specs.Auto.{zero_or_nan, holdable, continues, continues_at, run_begins, run_at, long_enough, kept}
use Rattle.inpaint.specs.Auto.{gap_at, gap_length, gap_allowed, qualifies, starts}
use Rattle.inpaint.specs.Runs.{Stretch, stretch, runs_among, runs_of}
use Rattle.inpaint.specs.Dropouts.{Lost, Held, Dropout, RunsInWords}
use Rattle.inpaint.proofs.auto.Runs.{both, zero_not_held, continues_zeros, enough_zeros, enough_held, OfZeros, OfHeld}
use Rattle.inpaint.proofs.auto.Runs.{kept_zeros, kept_held, more, qualifies_gap, Found, found_there, Fit, fits}

-- ---- What one word tells of the next

-- what continues with a zero or a NaN began with one
pub back_to_zero : (v w : ℕ) → zero_or_nan w ≡ true → continues v w ≡ zero_or_nan v
unfolding continues
back_to_zero v w z =
    elim (truth (zero_or_nan v)) [
      | inl y ↦ sym (continues_zeros v w y) ∙ z ∙ sym y
      | inr y ↦ rw (y, zero_not_held w z, and-false) refl
    ]

held_not_zero : (w : ℕ) → holdable w ≡ true → zero_or_nan w ≡ false
held_not_zero w held = elim (truth (zero_or_nan w)) [ inl z ↦ both held (zero_not_held w z) | inr z ↦ z ]

-- a word that is held is continued by the same word
same_goes_on : (v w : ℕ) → holdable w ≡ true → v ≡ w → continues v w ≡ true
unfolding continues
same_goes_on v w held e = rw (held_not_zero w held, and-false, eq-eqb v w e, held) refl

-- and by no other; and no other does it continue
same_before : (v w : ℕ) → holdable w ≡ true → continues v w ≡ true → v ≡ w
unfolding continues
same_before v w held on = eqb-true v w (both_hold (eqb v w) (holdable w) (rw (held_not_zero w held, and-false) at on)).0

same_behind : (v w : ℕ) → holdable v ≡ true → continues v w ≡ true → v ≡ w
unfolding continues
same_behind v w held on = eqb-true v w (both_hold (eqb v w) (holdable w) (rw (held_not_zero v held) at on)).0

-- ---- The samples of a run

module _ (samples : List ℕ) where
  abbrev at_place : ℕ → ℕ
  at_place i = get_or samples i 0

  -- what is handed on by each word to the next holds of all of them if it holds of the first
  handed_on : (P : ℕ → Type 0) (i k : ℕ) → ((v w : ℕ) → P v → continues v w ≡ true → P w) → P (at_place i) → k < run_at samples i
      → P (at_place (i + k))
  handed_on P i zero on first h = subst (λ (j : ℕ). P (at_place j)) (omega arith) first
  handed_on P i (suc k) on first h =
      let before = handed_on P i k on first (omega arith) in
      let met = run_met (continues_at samples) (i + 1) (length samples - (i + 1)) k (omega arith) in
      let back : i + k ≡ i + 1 + k - 1 = omega arith in
      let there : i + 1 + k ≡ i + suc k = omega arith in
      subst (λ (j : ℕ). P (at_place j)) there (on _ _ (subst (λ (j : ℕ). P (at_place j)) back before) met)

  zeros_all : (i k : ℕ) → zero_or_nan (at_place i) ≡ true → k < run_at samples i → zero_or_nan (at_place (i + k)) ≡ true
  zeros_all i k z h = handed_on (λ (w : ℕ). zero_or_nan w ≡ true) i k (λ v w y on. continues_zeros v w y ∙ on) z h

  pub equal_words : (i k : ℕ) → holdable (at_place i) ≡ true → k < run_at samples i → at_place (i + k) ≡ at_place i
  equal_words i k held h =
      handed_on (λ (w : ℕ). w ≡ at_place i) i k (λ v w e on. sym (same_behind v w (ap holdable e ∙ held) on) ∙ e) refl h

-- ---- What stands on either side of it

module _ {samples : List ℕ} {most held from i start len : ℕ} (f : Found samples most held from i start len) where
  g : Fit samples most held f.at start len
  g = fits f

  -- the sample behind a run does not continue it
  pub found_behind : continues_at samples (start + len) ≡ false
  found_behind =
      let end : start + len ≡ f.at + 1 + more samples (f.at + 1) = omega (arith, g.ends) in
      ap (continues_at samples) end
      ∙ run_behind (continues_at samples) (f.at + 1) (length samples - (f.at + 1)) (omega (arith, g.ends, g.inside))

  -- behind zeros and NaN stands neither
  pub zeros_end : zero_or_nan (get_or samples f.at 0) ≡ true → zero_or_nan (get_or samples (start + len) 0) ≡ false
  zeros_end z =
      let last : f.at + (start + len - 1 - f.at) ≡ start + len - 1 = omega (arith, g.ends) in
      let all = zeros_all samples f.at (start + len - 1 - f.at) z (omega (arith, g.ends)) in
      continues_zeros _ _ (ap (λ (j : ℕ). zero_or_nan (get_or samples j 0)) (sym last) ∙ all) ∙ found_behind

-- ---- A run of the scan, in words

module _ (samples : List ℕ) (most held i : ℕ) (two : 2 ≤ held) (here : starts samples most held 0 i ≡ true) where
  abbrev start : ℕ
  start = gap_at samples i

  abbrev len : ℕ
  len = gap_length samples i

  f : Found samples most held 0 i start len
  f = found_there samples most held 0 i here

  fit : Fit samples most held i start len
  unfolding f found_there
  fit = fits f

  -- it does not continue what stands before it
  anew : 0 < i → continues_at samples i ≡ false
  anew later =
      let begins = (both_hold (run_begins samples 0 i) (qualifies (length samples) most held (get_or samples i 0) i (run_at samples i)) here).0 in
      elim (truth (continues_at samples i)) [
        | inl on ↦ both begins (rw (ne_eqb i 0 (λ e. absurd (omega arith)), on) refl)
        | inr off ↦ off
      ]

  of_zeros : OfZeros (get_or samples i 0) (run_at samples i) → Lost samples start len
  unfolding f found_there
  of_zeros z =
      let first : start ≡ i = omega (arith, z.none_kept) in
      let whole : len ≡ run_at samples i = omega (arith, z.none_kept) in
      record {
        all = λ k below. ap (λ (j : ℕ). zero_or_nan (get_or samples (j + k) 0)) first ∙ zeros_all samples i k z.zero (omega (arith, whole));
        before =
            ap (λ (j : ℕ). zero_or_nan (get_or samples (j - 1) 0)) first
            ∙ sym (back_to_zero _ _ z.zero)
            ∙ anew (omega (arith, fit.later, first));
        behind = zeros_end f z.zero;
        least = omega (arith, z.two, whole);
      }

  of_held : OfHeld held (get_or samples i 0) (run_at samples i) → Held samples held start len
  of_held k =
      record {
        word = ap holdable gap_word ∙ k.word;
        equal =
            λ j below. ap (λ (m : ℕ). get_or samples (m + j) 0) back
            ∙ equal_words samples i j k.word (omega (arith, whole))
            ∙ sym gap_word;
        before =
            λ later same. both (same_goes_on _ _ k.word (ap (λ (m : ℕ). get_or samples m 0) two_back ∙ same ∙ gap_word))
            (anew (omega (arith, first)));
        behind =
            λ same. both (same_goes_on _ _ (ap holdable (same ∙ gap_word) ∙ k.word) (last ∙ sym (same ∙ gap_word))) (found_behind f);
        least = omega (arith, k.enough, whole);
      }
    where
      first : start ≡ i + 1
      first = omega (arith, k.one_kept)

      whole : run_at samples i ≡ 1 + len
      whole = omega (arith, k.one_kept)

      back : start - 1 ≡ i
      back = omega (arith, first)

      two_back : i - 1 ≡ start - 2
      two_back = omega (arith, first)

      -- the gap's first word, and its last, are that of the run
      gap_word : get_or samples start 0 ≡ get_or samples i 0
      gap_word = ap (λ (m : ℕ). get_or samples m 0) first ∙ equal_words samples i 1 k.word (omega (arith, k.enough))

      last : get_or samples (start + len - 1) 0 ≡ get_or samples i 0
      last =
          let there : start + len - 1 ≡ i + len = omega (arith, first) in
          ap (λ (m : ℕ). get_or samples m 0) there ∙ equal_words samples i len k.word (omega (arith, whole))

  in_words : Dropout samples most held start len
  in_words =
      record {
        short = fit.short;
        later = fit.later;
        inside = fit.inside;
        kind = elim fit.kind [ inl z ↦ inl (of_zeros z) | inr k ↦ inr (of_held k) ];
      }

-- ---- Words that describe a run of the scan

-- where a run begins and is long enough, and its gap is allowed, there it starts
starts_there : (samples : List ℕ) (most held i : ℕ) → run_begins samples 0 i ≡ true
    → long_enough held (get_or samples i 0) (run_at samples i) ≡ true
    → gap_length samples i ≤ most → 0 < gap_at samples i → gap_at samples i + gap_length samples i < length samples
    → starts samples most held 0 i ≡ true
starts_there samples most held i begins long short later inside =
    let w = get_or samples i 0 in
    let allowed : gap_allowed (length samples) most (gap_at samples i) (gap_length samples i) ≡ true =
    rw (
      le-leb (gap_length samples i) most short,
      lt-ltb 0 (gap_at samples i) later,
      lt-ltb (gap_at samples i + gap_length samples i) (length samples) inside,
    ) refl
    in
    let yes = sym (qualifies_gap (length samples) most held w i (run_at samples i) long (kept w) refl) ∙ allowed in
    rw (begins, yes) refl

module _ (samples : List ℕ) (i : ℕ) where
  -- one begins behind a place that it does not continue
  begins_there : (0 < i → continues_at samples i ≡ false) → run_begins samples 0 i ≡ true
  begins_there off =
      elim (ℕ_discrete i 0) [
        | yes e ↦ rw (eq-eqb i 0 e) refl
        | no n ↦ rw (ne_eqb i 0 n, off (omega arith)) refl
      ]

  -- and is so long, if so many places continue each other and the next does not
  runs_exactly : (len : ℕ) → i + 1 + len < length samples → ((k : ℕ) → k < len → continues_at samples (i + 1 + k) ≡ true)
      → continues_at samples (i + 1 + len) ≡ false → run_at samples i ≡ len + 1
  runs_exactly len inside all stop =
      ap (λ (m : ℕ). m + 1) (run_exact (continues_at samples) (i + 1) (length samples - (i + 1)) len (omega arith) all stop)

-- the run of a gap: from where on it begins, of which it is the gap
record Run-of (samples : List ℕ) (most held start len : ℕ) : Type 0 where
  begin : ℕ
  inside : begin < length samples
  here : starts samples most held 0 begin ≡ true
  start_is : gap_at samples begin ≡ start
  len_is : gap_length samples begin ≡ len

of_lost : (samples : List ℕ) (most held start len : ℕ) → Dropout samples most held start len → Lost samples start len
    → Run-of samples most held start len
of_lost samples most held start len d z =
    record {
      begin = start;
      inside = omega (arith, d.inside);
      here =
          starts_there samples most held start begins long (omega (arith, len_is, d.short)) (omega (arith, none, d.later))
          (omega (arith, none, len_is, d.inside));
      start_is = omega (arith, none);
      len_is = len_is;
    }
  where
    first : zero_or_nan (get_or samples start 0) ≡ true
    first = ap (λ (j : ℕ). zero_or_nan (get_or samples j 0)) (omega arith) ∙ z.all 0 (omega (arith, z.least))

    none : kept (get_or samples start 0) ≡ 0
    none = kept_zeros (get_or samples start 0) (zero_not_held (get_or samples start 0) first)

    begins : run_begins samples 0 start ≡ true
    begins = begins_there samples start (λ h. back_to_zero _ _ first ∙ z.before)

    -- each zero continues the one before it
    on : (k : ℕ) → k < len - 1 → continues_at samples (start + 1 + k) ≡ true
    on k h =
        let there : start + 1 + k ≡ start + (k + 1) = omega arith in
        let back : start + 1 + k - 1 ≡ start + k = omega arith in
        back_to_zero _ _ (ap (λ (j : ℕ). zero_or_nan (get_or samples j 0)) there ∙ z.all (k + 1) (omega arith))
        ∙ ap (λ (j : ℕ). zero_or_nan (get_or samples j 0)) back
        ∙ z.all k (omega arith)

    stop : continues_at samples (start + 1 + (len - 1)) ≡ false
    stop =
        let end : start + 1 + (len - 1) ≡ start + len = omega (arith, z.least) in
        let last : start + 1 + (len - 1) - 1 ≡ start + (len - 1) = omega arith in
        sym (continues_zeros _ _ (ap (λ (j : ℕ). zero_or_nan (get_or samples j 0)) last ∙ z.all (len - 1) (omega (arith, z.least))))
        ∙ ap (λ (j : ℕ). zero_or_nan (get_or samples j 0)) end
        ∙ z.behind

    run : run_at samples start ≡ len
    run = runs_exactly samples start (len - 1) (omega (arith, z.least, d.inside)) on stop ∙ omega (arith, z.least)

    len_is : gap_length samples start ≡ len
    len_is = omega (arith, run, none)

    long : long_enough held (get_or samples start 0) (run_at samples start) ≡ true
    long =
        sym (enough_zeros held (get_or samples start 0) (run_at samples start) first)
        ∙ le-leb 2 (run_at samples start) (omega (arith, run, z.least))

of_equal : (samples : List ℕ) (most held start len : ℕ) → Dropout samples most held start len → Held samples held start len
    → Run-of samples most held start len
of_equal samples most held start len d h =
    record {
      begin = begin;
      inside = omega (arith, d.inside);
      here =
          starts_there samples most held begin begins long (omega (arith, len_is, d.short)) (omega (arith, one))
          (omega (arith, start_is, len_is, d.inside));
      start_is = start_is;
      len_is = len_is;
    }
  where
    begin : ℕ
    begin = start - 1

    w : ℕ
    w = get_or samples start 0

    word : get_or samples begin 0 ≡ w
    word = ap (λ (j : ℕ). get_or samples j 0) (omega arith) ∙ h.equal 0 (omega arith)

    holds : holdable (get_or samples begin 0) ≡ true
    holds = ap holdable word ∙ h.word

    one : kept (get_or samples begin 0) ≡ 1
    one = kept_held (get_or samples begin 0) holds

    start_is : gap_at samples begin ≡ start
    start_is = omega (arith, one, d.later)

    begins : run_begins samples 0 begin ≡ true
    begins =
        begins_there samples begin
        (λ later.
        elim (truth (continues_at samples begin)) [
          | inl on ↦
              let two_back : start - 2 ≡ begin - 1 = omega arith in
              let same = ap (λ (j : ℕ). get_or samples j 0) two_back ∙ same_before _ _ holds on ∙ word in
              absurd (h.before (omega arith) same)
          | inr off ↦ off
        ])

    -- each word continues the one before it
    on : (k : ℕ) → k < len → continues_at samples (begin + 1 + k) ≡ true
    on k below =
        let there : begin + 1 + k ≡ begin + (k + 1) = omega arith in
        let back : begin + 1 + k - 1 ≡ begin + k = omega arith in
        let this : get_or samples (begin + 1 + k) 0 ≡ w = ap (λ (j : ℕ). get_or samples j 0) there ∙ h.equal (k + 1) (omega arith) in
        let before : get_or samples (begin + 1 + k - 1) 0 ≡ w = ap (λ (j : ℕ). get_or samples j 0) back ∙ h.equal k (omega arith) in
        same_goes_on _ _ (ap holdable this ∙ h.word) (before ∙ sym this)

    stop : continues_at samples (begin + 1 + len) ≡ false
    stop =
        let end : start + len ≡ begin + 1 + len = omega (arith, d.later) in
        let last : begin + 1 + len - 1 ≡ begin + len = omega arith in
        let before : get_or samples (begin + 1 + len - 1) 0 ≡ w = ap (λ (j : ℕ). get_or samples j 0) last ∙ h.equal len (omega arith) in
        elim (truth (continues_at samples (begin + 1 + len))) [
          | inl on ↦
              let same = ap (λ (j : ℕ). get_or samples j 0) end ∙ sym (same_behind _ _ (ap holdable before ∙ h.word) on) ∙ before in
              absurd (h.behind same)
          | inr off ↦ off
        ]

    run : run_at samples begin ≡ len + 1
    run = runs_exactly samples begin len (omega (arith, d.later, d.inside)) on stop

    len_is : gap_length samples begin ≡ len
    len_is = omega (arith, run, one)

    long : long_enough held (get_or samples begin 0) (run_at samples begin) ≡ true
    long =
        sym (enough_held held (get_or samples begin 0) (run_at samples begin) (held_not_zero (get_or samples begin 0) holds) holds)
        ∙ le-leb held (run_at samples begin) (omega (arith, run, h.least))

-- ---- The runs of a scan

-- each of them starts somewhere
record Starting (samples : List ℕ) (most held i n : ℕ) (r : Stretch) : Type 0 where
  begin : ℕ
  here : starts samples most held 0 begin ≡ true
  is : r ≡ stretch (gap_at samples begin) (gap_length samples begin)

starting : (samples : List ℕ) (most held i n : ℕ) (r : Stretch) → Among r (runs_among samples most held 0 i n) → Starting samples most held i n r
unfolding runs_among
starting samples most held i zero r none = absurd none
starting samples most held i (suc n) r a = go (truth (starts samples most held 0 i)) (starting samples most held (i + 1) n r) a
  where
    go : EitherWay (starts samples most held 0 i)
        → (Among r (runs_among samples most held 0 (i + 1) n) → Starting samples most held (i + 1) n r)
        → Among r (runs_among samples most held 0 i (suc n)) → Starting samples most held i (suc n) r
    go (inl t) later a =
        elim (rw t at a) [
          | inl e ↦ record { begin = i; here = t; is = e }
          | inr b ↦ let s = later b in record { begin = s.begin; here = s.here; is = s.is }
        ]
    go (inr t) later a = let s = later (rw t at a) in record { begin = s.begin; here = s.here; is = s.is }

-- and what starts is one of them
among_runs : (samples : List ℕ) (most held i n j : ℕ) → i ≤ j → j < i + n → starts samples most held 0 j ≡ true
    → Among (stretch (gap_at samples j) (gap_length samples j)) (runs_among samples most held 0 i n)
unfolding runs_among
among_runs samples most held i zero j a b t = absurd (omega arith)
among_runs samples most held i (suc n) j a b t =
    elim (ℕ_discrete j i) [
      | yes e ↦ first e
      | no f ↦ behind (truth (starts samples most held 0 i)) (among_runs samples most held (i + 1) n j (omega arith) (omega arith) t)
    ]
  where
    there : Stretch
    there = stretch (gap_at samples j) (gap_length samples j)

    first : j ≡ i → Among there (runs_among samples most held 0 i (suc n))
    first e =
        let here : starts samples most held 0 i ≡ true = ap (starts samples most held 0) (sym e) ∙ t in
        rw here (inl (ap (λ (m : ℕ). stretch (gap_at samples m) (gap_length samples m)) e))

    behind : EitherWay (starts samples most held 0 i) → Among there (runs_among samples most held 0 (i + 1) n)
        → Among there (runs_among samples most held 0 i (suc n))
    behind (inl h) m = rw h (inr m)
    behind (inr h) m = rw h m

pub runs_in_words : RunsInWords
runs_in_words samples most held r two = (there, back)
  where
    there : Among r (runs_of samples most held) → Dropout samples most held r.start r.len
    there a =
        let s = starting samples most held 0 (length samples) r a in
        subst (λ (t : Stretch). Dropout samples most held t.start t.len) (sym s.is) (in_words samples most held s.begin two s.here)

    among : Run-of samples most held r.start r.len → Among r (runs_of samples most held)
    among s =
        let is =
        ap (λ (m : ℕ). stretch m (gap_length samples s.begin)) s.start_is ∙ ap (λ (m : ℕ). stretch r.start m) s.len_is
        in
        subst (λ (t : Stretch). Among t (runs_of samples most held)) is
        (among_runs samples most held 0 (length samples) s.begin (omega arith) (omega (arith, s.inside)) s.here)

    back : Dropout samples most held r.start r.len → Among r (runs_of samples most held)
    back d =
        elim d.kind [
          | inl z ↦ among (of_lost samples most held r.start r.len d z)
          | inr h ↦ among (of_equal samples most held r.start r.len d h)
        ]
