-- Dropout runs: what the code's tests tell of a word and of a run, the search for a run place by place, and what a run that is found is. Assumes
-- nothing.
use Rattle.std.proofs.Common.{◌≡◌, ℕ, zero, suc, ◌+◌, ◌-◌, ◌<◌, ◌≤◌, Bool, true, false, not, ◌&&◌, ◌||◌, eqb, ltb, leb, ◌⊎◌, List, length, get_or, sym, refl, ap, ◌∙◌, subst, inl, inr, true≢false, arith, ltb-true, le-ltb, eq-eqb, ne_eqb, eqb-true, leb-true}
use mathlib.Core.Bool.{and-false, or-false}
use native.Mathlib.Decide.{ℕ_discrete}
use mir.Val.{bool_byte}
use lib.Ieee.{Float, binary32, eq, ne, is_nan, of_bits}
use Rattle.leaves.specs.Arithmetic.{nought, float}
use Rattle.leaves.specs.Floats.{in_range}
use Rattle.leaves.proofs.words.Laws.{one_nan}
use Rattle.std.specs.Prelude.{if◌then◌else◌}
use Rattle.recording.specs.Runs.{run_length}
use Rattle.leaves.proofs.Choice.{truth, EitherWay, both_hold}
use Rattle.inpaint.specs.Auto.{zero_or_nan, holdable, continues, continues_at, run_begins, run_at, long_enough, kept}
use Rattle.inpaint.specs.Auto.{gap_at, gap_length, gap_allowed, qualifies, starts, next_among, next_run}
use Rattle.inpaint.specs.declared.Stretch.{Stretch}
use Rattle.std.specs.Prelude.{Option, Some, None}
use Rattle.inpaint.specs.Runs.{stretch}

-- A test cannot have given both answers.
pub both : {A : Type 0} {b : Bool} → b ≡ true → b ≡ false → A
both t f = absurd (true≢false (sym t ∙ f))

-- ---- the two kinds of words

pub zero_word : (w : ℕ) (x : Float) → x ≡ of_bits binary32 w → eq x (of_bits binary32 0) ≡ true → true ≡ zero_or_nan w
unfolding zero_or_nan float of_bits
zero_word w x e h = rw (← e, h) refl

pub no_zero_word : (w : ℕ) (x : Float) → x ≡ of_bits binary32 w → eq x (of_bits binary32 0) ≡ false → is_nan x ≡ zero_or_nan w
unfolding zero_or_nan float of_bits
no_zero_word w x e h = rw (← e, h) refl

pub holdable_out : (w : ℕ) → in_range w ≡ false → false ≡ holdable w
unfolding holdable
holdable_out w h = rw h refl

pub holdable_in : (w : ℕ) (x : Float) → in_range w ≡ true → x ≡ of_bits binary32 w → ne x (of_bits binary32 0) ≡ holdable w
unfolding holdable float of_bits ne
holdable_in w x h e = rw (h, ← e) refl

-- a NaN is not in range
nan_out : (w : ℕ) → is_nan (of_bits binary32 w) ≡ true → in_range w ≡ false
unfolding in_range
nan_out w h = rw (one_nan (of_bits binary32 w) h) refl

-- no word is of both kinds
pub zero_not_held : (w : ℕ) → zero_or_nan w ≡ true → holdable w ≡ false
unfolding zero_or_nan holdable float
zero_not_held w h = go (truth (eq (of_bits binary32 w) nought))
  where
    go : EitherWay (eq (of_bits binary32 w) nought) → in_range w && not (eq (of_bits binary32 w) nought) ≡ false
    go (inl z) = rw (z, and-false) refl
    go (inr z) = rw (nan_out w (sym (ap (λ (b : Bool). b || is_nan (of_bits binary32 w)) z) ∙ h)) refl

-- ---- whether a word continues the run of the one before it

module _ (v w : ℕ) where
  pub continues_zeros : zero_or_nan v ≡ true → zero_or_nan w ≡ continues v w
  unfolding continues
  continues_zeros h = go (truth (zero_or_nan w))
    where
      go : EitherWay (zero_or_nan w) → zero_or_nan w ≡ zero_or_nan v && zero_or_nan w || eqb v w && holdable w
      go (inl z) = rw (h, z) refl
      go (inr z) =
          elim (truth (eqb v w)) [
            | inl e ↦ both h (ap zero_or_nan (eqb-true v w e) ∙ z)
            | inr e ↦ rw (z, and-false, e) refl
          ]

  pub continues_other : zero_or_nan v ≡ false → (v ≡ w → ⊥) → false ≡ continues v w
  unfolding continues
  continues_other h n = rw (h, ne_eqb v w n) refl

  pub continues_held : zero_or_nan v ≡ false → v ≡ w → holdable w ≡ continues v w
  unfolding continues
  continues_held h e = rw (h, eq-eqb v w e) refl

-- ---- whether a run is long enough, and its gap allowed

module _ (held w len : ℕ) where
  pub enough_zeros : zero_or_nan w ≡ true → leb 2 len ≡ long_enough held w len
  unfolding long_enough
  enough_zeros h = rw (h, zero_not_held w h) (sym (or-false (leb 2 len)))

  pub enough_other : zero_or_nan w ≡ false → holdable w ≡ false → false ≡ long_enough held w len
  unfolding long_enough
  enough_other h k = rw (h, k) refl

  pub enough_held : zero_or_nan w ≡ false → holdable w ≡ true → leb held len ≡ long_enough held w len
  unfolding long_enough
  enough_held h k = rw (h, k) refl

-- so it is of one of the two kinds
pub record OfZeros (w len : ℕ) : Type 0 where
  pub zero : zero_or_nan w ≡ true
  pub none_kept : kept w ≡ 0
  pub two : 2 ≤ len

pub record OfHeld (held w len : ℕ) : Type 0 where
  pub word : holdable w ≡ true
  pub one_kept : kept w ≡ 1
  pub enough : held ≤ len

pub kept_zeros : (w : ℕ) → holdable w ≡ false → kept w ≡ 0
unfolding kept
kept_zeros w h = rw h refl

pub kept_held : (w : ℕ) → holdable w ≡ true → kept w ≡ 1
unfolding kept
kept_held w h = rw h refl

pub kept_is : (w : ℕ) (b : Bool) → b ≡ holdable w → bool_byte b ≡ kept w
kept_is w true h = sym (kept_held w (sym h))
kept_is w false h = sym (kept_zeros w (sym h))

pub kind_of : (held w len : ℕ) → long_enough held w len ≡ true → OfZeros w len ⊎ OfHeld held w len
kind_of held w len h = go (truth (zero_or_nan w)) (truth (holdable w))
  where
    go : EitherWay (zero_or_nan w) → EitherWay (holdable w) → OfZeros w len ⊎ OfHeld held w len
    go (inl z) k =
        inl record {
          zero = z;
          none_kept = kept_zeros w (zero_not_held w z);
          two = leb-true 2 len (enough_zeros held w len z ∙ h);
        }
    go (inr z) (inl k) =
        inr record {
          word = k;
          one_kept = kept_held w k;
          enough = leb-true held len (enough_held held w len z k ∙ h);
        }
    go (inr z) (inr k) = both h (sym (enough_other held w len z k))

module _ (n most held w i len : ℕ) where
  pub qualifies_short : long_enough held w len ≡ false → false ≡ qualifies n most held w i len
  unfolding qualifies
  qualifies_short h = rw h refl

  pub qualifies_gap : long_enough held w len ≡ true → (k : ℕ) → k ≡ kept w
      → gap_allowed n most (i + k) (len - k) ≡ qualifies n most held w i len
  unfolding qualifies
  qualifies_gap h k e = rw (h, e) refl

-- what its tests say of a gap that is allowed, and of a run that qualifies
allowed_all : (n most start len : ℕ) → gap_allowed n most start len ≡ true → (len ≤ most) × (0 < start) × (start + len < n)
allowed_all n most start len h =
    let last = both_hold (leb len most && ltb 0 start) (ltb (start + len) n) h in
    let first = both_hold (leb len most) (ltb 0 start) last.0 in
    (leb-true len most first.0, ltb-true 0 start first.1, ltb-true (start + len) n last.1)

qualifies_both : (n most held w i len : ℕ) → qualifies n most held w i len ≡ true
    → (long_enough held w len ≡ true) × (gap_allowed n most (i + kept w) (len - kept w) ≡ true)
unfolding qualifies
qualifies_both n most held w i len h = both_hold (long_enough held w len) (gap_allowed n most (i + kept w) (len - kept w)) h

-- a run keeps one sample at most
pub at_most_kept : (w : ℕ) → kept w ≤ 1
at_most_kept w = elim (truth (holdable w)) [ inl h ↦ omega (arith, kept_held w h) | inr h ↦ omega (arith, kept_zeros w h) ]

pub keeps_one : (w k : ℕ) → k ≡ kept w → k ≤ 1
keeps_one w k e = omega (arith, at_most_kept w)

-- a run that reaches the end does not qualify
touching : (n most held w i len : ℕ) → 1 ≤ len → n ≤ i + len → qualifies n most held w i len ≡ false
unfolding qualifies
touching n most held w i len some reach =
    let past : n ≤ i + kept w + (len - kept w) = omega (arith, at_most_kept w) in
    rw (le-ltb (i + kept w + (len - kept w)) n past, and-false, and-false) refl

-- ---- the search, place by place

-- how many places from i on continue a run
abbrev pub more : List ℕ → ℕ → ℕ
more samples i = run_length (continues_at samples) i (length samples - i)

-- the search of the places from `from` on, as it goes on at place i
abbrev pub searched : List ℕ → ℕ → ℕ → ℕ → ℕ → Option Stretch
searched samples most held from i = next_among samples most held from i (length samples - i)

module _ (samples : List ℕ) (most held from i : ℕ) (whole : Option Stretch) (within : i < length samples)
    (search : searched samples most held from i ≡ whole) where
  -- what the search does at place i
  at_place : searched samples most held from i
      ≡ (if starts samples most held from i then Some (stretch (gap_at samples i) (gap_length samples i)) else searched samples most held from (i + 1))
  unfolding next_among
  at_place =
      let left : length samples - i ≡ suc (length samples - (i + 1)) = omega arith in
      ap (next_among samples most held from i) left

  passed : starts samples most held from i ≡ false → searched samples most held from (i + 1) ≡ whole
  passed t = sym (at_place ∙ rw t refl) ∙ search

  -- no run begins there
  pub search_passes : (b : Bool) → b ≡ run_begins samples from i → b ≡ false → searched samples most held from (i + 1) ≡ whole
  search_passes b e h = passed (rw (← e, h) refl)

  -- one does, and ends before place `end`
  module _ (end : ℕ) (ends : end ≡ i + 1 + more samples (i + 1)) where
    run : run_at samples i ≡ end - i
    run = omega (arith, ends)

    -- it does not qualify
    pub search_fails : (q : Bool) → q ≡ qualifies (length samples) most held (get_or samples i 0) i (end - i) → q ≡ false
        → searched samples most held from (i + 1) ≡ whole
    search_fails q e h =
        let no : qualifies (length samples) most held (get_or samples i 0) i (run_at samples i) ≡ false = rw (run, ← e, h) refl in
        passed (rw (no, and-false) refl)

    -- it touches the recording's end
    pub search_touches : length samples ≤ end → searched samples most held from (i + 1) ≡ whole
    search_touches h =
        search_fails _ refl (touching (length samples) most held (get_or samples i 0) i (end - i) (omega (arith, ends)) (omega (arith, ends)))

    -- it qualifies
    pub search_finds : (b q : Bool) (k : ℕ) → b ≡ run_begins samples from i → b ≡ true
        → q ≡ qualifies (length samples) most held (get_or samples i 0) i (end - i) → q ≡ true → k ≡ kept (get_or samples i 0)
        → Some (stretch (i + k) (end - i - k)) ≡ whole
    search_finds b q k e h f t g =
        let yes : qualifies (length samples) most held (get_or samples i 0) i (run_at samples i) ≡ true = rw (run, ← f, t) refl in
        sym (at_place ∙ rw (← e, h, yes, run, ← g) refl) ∙ search

-- past the end nothing is found
pub search_ends : (samples : List ℕ) (most held from i : ℕ) (whole : Option Stretch) → length samples ≤ i → searched samples most held from i ≡ whole
    → None ≡ whole
unfolding next_among
search_ends samples most held from i whole h e =
    let left : length samples - i ≡ 0 = omega arith in
    sym (ap (next_among samples most held from i) left) ∙ e

-- ---- a run that is found

-- where the run that begins at place i ends, its gap does
pub gap_ends : (samples : List ℕ) (i : ℕ) → gap_at samples i + gap_length samples i ≡ i + run_at samples i
gap_ends samples i = omega (arith, at_most_kept (get_or samples i 0))

-- the run that is found from place i on begins at place `at`, of which this is the gap, and none does before
pub record Found (samples : List ℕ) (most held from i start len : ℕ) : Type 0 where
  pub at : ℕ
  pub on : i ≤ at
  pub here : starts samples most held from at ≡ true
  pub none_before : (j : ℕ) → i ≤ j → j < at → starts samples most held from j ≡ false
  pub start_is : gap_at samples at ≡ start
  pub len_is : gap_length samples at ≡ len

-- place i itself, or what is found from the next on
unfoldable pub found_there : (samples : List ℕ) (most held from i : ℕ) → starts samples most held from i ≡ true
    → Found samples most held from i (gap_at samples i) (gap_length samples i)
found_there samples most held from i t =
    record {
      at = i;
      on = omega arith;
      here = t;
      none_before = λ j a b. absurd (omega arith);
      start_is = refl;
      len_is = refl;
    }

found_later : (samples : List ℕ) (most held from i start len : ℕ) → starts samples most held from i ≡ false
    → Found samples most held from (i + 1) start len → Found samples most held from i start len
found_later samples most held from i start len t f =
    record {
      at = f.at;
      on = omega (arith, f.on);
      here = f.here;
      none_before = before;
      start_is = f.start_is;
      len_is = f.len_is;
    }
  where
    before : (j : ℕ) → i ≤ j → j < f.at → starts samples most held from j ≡ false
    before j a b =
        elim (ℕ_discrete j i) [ yes e ↦ ap (starts samples most held from) e ∙ t | no n ↦ f.none_before j (omega arith) b ]

-- a run is one only
same_run : (P : ℕ → ℕ → Type 0) (i j k l : ℕ) → Some (stretch i j) ≡ Some (stretch k l) → P i j → P k l
same_run P i j k l e p =
    let one : stretch i j ≡ stretch k l = cc in
    subst (λ (r : Stretch). P r.start r.len) one p

found_among : (samples : List ℕ) (most held from i n start len : ℕ)
    → next_among samples most held from i n ≡ Some (stretch start len) → Found samples most held from i start len
unfolding next_among
found_among samples most held from i zero start len h =
    let none : ◌≡◌ {A = ℕ} 0 1 = cc in
    absurd (omega arith)
found_among samples most held from i (suc n) start len h =
    go (truth (starts samples most held from i)) (found_among samples most held from (i + 1) n start len)
  where
    go : EitherWay (starts samples most held from i)
        → (next_among samples most held from (i + 1) n ≡ Some (stretch start len) → Found samples most held from (i + 1) start len)
        → Found samples most held from i start len
    go (inl t) later =
        let step : next_among samples most held from i (suc n) ≡ Some (stretch (gap_at samples i) (gap_length samples i)) = rw t refl in
        same_run (Found samples most held from i) (gap_at samples i) (gap_length samples i) start len (sym step ∙ h)
        (found_there samples most held from i t)
    go (inr t) later =
        let step : next_among samples most held from i (suc n) ≡ next_among samples most held from (i + 1) n = rw t refl in
        found_later samples most held from i start len t (later (sym step ∙ h))

pub found_run : (samples : List ℕ) (most held from start len : ℕ)
    → next_run samples most held from ≡ Some (stretch start len) → Found samples most held from from start len
found_run samples most held from start len h = found_among samples most held from from (length samples - from) start len h

-- what the tests of a run that is found say of it: it is of one of the two kinds, and its gap ends where the run does, is within the limit
-- and touches neither end; and it has a sample, unless a single word is said to be held
pub record Fit (samples : List ℕ) (most held at start len : ℕ) : Type 0 where
  pub kind : OfZeros (get_or samples at 0) (run_at samples at) ⊎ OfHeld held (get_or samples at 0) (run_at samples at)
  pub one : 2 ≤ held → 1 ≤ len
  pub behind : at ≤ start
  pub ends : start + len ≡ at + run_at samples at
  pub short : len ≤ most
  pub later : 0 < start
  pub inside : start + len < length samples

pub fits : {samples : List ℕ} {most held from i start len : ℕ} (f : Found samples most held from i start len)
    → Fit samples most held f.at start len
fits {samples} {most} {held} {from} {i} {start} {len} f =
    record {
      kind = kind;
      one = λ two. omega (arith, some kind two, f.len_is);
      behind = omega (arith, f.start_is);
      ends = omega (arith, f.start_is, f.len_is, gap_ends samples f.at);
      short = omega (arith, f.len_is, within.0);
      later = omega (arith, f.start_is, within.1);
      inside = omega (arith, f.start_is, f.len_is, within.2);
    }
  where
    w : ℕ
    w = get_or samples f.at 0

    tests : (long_enough held w (run_at samples f.at) ≡ true)
        × (gap_allowed (length samples) most (gap_at samples f.at) (gap_length samples f.at) ≡ true)
    tests =
        qualifies_both (length samples) most held w f.at (run_at samples f.at)
        (both_hold (run_begins samples from f.at) (qualifies (length samples) most held w f.at (run_at samples f.at)) f.here).1

    kind : OfZeros w (run_at samples f.at) ⊎ OfHeld held w (run_at samples f.at)
    kind = kind_of held w (run_at samples f.at) tests.0

    within : (gap_length samples f.at ≤ most) × (0 < gap_at samples f.at) × (gap_at samples f.at + gap_length samples f.at < length samples)
    within = allowed_all (length samples) most (gap_at samples f.at) (gap_length samples f.at) tests.1

    some : OfZeros w (run_at samples f.at) ⊎ OfHeld held w (run_at samples f.at) → 2 ≤ held → 1 ≤ gap_length samples f.at
    some (inl z) two = omega (arith, z.none_kept)
    some (inr k) two = omega (arith, k.one_kept, k.enough)

-- so where its gap ends: past the place from which the search began, and before the recording's end
pub found_within : (samples : List ℕ) (most held from start len : ℕ) → next_run samples most held from ≡ Some (stretch start len)
    → (from < start + len) × (start + len < length samples)
found_within samples most held from start len h =
    let f = found_run samples most held from start len h in
    let g = fits f in
    (omega (arith, f.on, g.ends), g.inside)
