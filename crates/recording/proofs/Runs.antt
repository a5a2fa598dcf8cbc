-- Runs: where one begins and ends, as a function finds it place by place, and what it is made of. Assumes nothing.
use mathlib.Core.Path.{◌≡◌, refl, sym, ap, ◌∙◌}
use mathlib.Core.Bool.{Bool, true, false, not, ◌||◌, and-false}
use mathlib.Core.Logic.{inl, inr}
use Prim.Native.Nat.{ℕ, zero, suc, ◌+◌, ◌-◌, ◌≤◌, ◌<◌}
use native.Mathlib.Omega.{arith}
use borrow.Author.Tests.{eq-eqb, ne_eqb}
use lib.Dec.{eqb}
use Rattle.recording.specs.Runs.{begins, run_length}
use Rattle.leaves.proofs.Choice.{truth, EitherWay, both_hold}

module _ (test : ℕ → Bool) where
  -- ---- Where a run begins

  pub begins_not : (i : ℕ) → test i ≡ false → false ≡ begins test i
  unfolding begins
  begins_not i h = rw h refl

  pub begins_first : (i : ℕ) → test i ≡ true → i ≡ 0 → true ≡ begins test i
  unfolding begins
  begins_first i h e = rw (h, eq-eqb _ _ e) refl

  pub begins_after : (i : ℕ) (b : Bool) → test i ≡ true → (i ≡ 0 → ⊥) → test (i - 1) ≡ b → not b ≡ begins test i
  unfolding begins
  begins_after i b h e k = rw (h, ne_eqb _ _ e, k) refl

  -- what stands at its first place
  pub begins_there : (i : ℕ) → begins test i ≡ true → test i ≡ true
  unfolding begins
  begins_there i h = (both_hold (test i) (eqb i 0 || not (test (i - 1))) h).0

  -- none begins right behind a place that meets the test
  pub begins_not_behind : (i : ℕ) → test i ≡ true → begins test (i + 1) ≡ false
  unfolding begins
  begins_not_behind i h =
      let back : i + 1 - 1 ≡ i = omega arith in
      let no : eqb (i + 1) 0 ≡ false = ne_eqb (i + 1) 0 (λ e. absurd (omega arith)) in
      rw (back, no, h, and-false) refl

  -- ---- Where it ends, found from `start` on up to place `end`

  -- one place more meets the test
  pub run_more : (start end n : ℕ) → end < n → test end ≡ true
      → end + run_length test end (n - end) ≡ start + run_length test start (n - start)
      → end + 1 + run_length test (end + 1) (n - (end + 1)) ≡ start + run_length test start (n - start)
  unfolding run_length
  run_more start end n h t rest =
      let left : n - end ≡ suc (n - (end + 1)) = omega arith in
      let one : run_length test end (n - end) ≡ suc (run_length test (end + 1) (n - (end + 1))) = rw (left, t) refl in
      omega (arith, one, rest)

  -- the place does not meet it
  pub run_stops : (start end n : ℕ) → end < n → test end ≡ false
      → end + run_length test end (n - end) ≡ start + run_length test start (n - start)
      → end ≡ start + run_length test start (n - start)
  unfolding run_length
  run_stops start end n h t rest =
      let left : n - end ≡ suc (n - (end + 1)) = omega arith in
      let none : run_length test end (n - end) ≡ 0 = rw (left, t) refl in
      omega (arith, none, rest)

  -- there is no place more
  pub run_ends : (start end n : ℕ) → n ≤ end
      → end + run_length test end (n - end) ≡ start + run_length test start (n - start)
      → end ≡ start + run_length test start (n - start)
  unfolding run_length
  run_ends start end n h rest =
      let left : n - end ≡ 0 = omega arith in
      let none : run_length test end (n - end) ≡ 0 = rw left refl in
      omega (arith, none, rest)

  -- a place that does not meet the test is not passed
  pub run_short : (i n j : ℕ) → test (i + j) ≡ false → run_length test i n ≤ j
  unfolding run_length
  run_short i zero j h = omega arith
  run_short i (suc n) zero h =
      let here : i + 0 ≡ i = omega arith in
      let out : test i ≡ false = sym (ap test here) ∙ h in
      rw out (omega arith)
  run_short i (suc n) (suc j) h =
      let there : i + suc j ≡ i + 1 + j = omega arith in
      go (test i) refl (run_short (i + 1) n j (sym (ap test there) ∙ h))
    where
      go : (b : Bool) → test i ≡ b → run_length test (i + 1) n ≤ j → run_length test i (suc n) ≤ suc j
      go true e later = rw e (omega (arith, later))
      go false e later = rw e (omega arith)

  -- it is no longer than the places that it may have
  pub run_within : (i n : ℕ) → run_length test i n ≤ n
  unfolding run_length
  run_within i zero = omega arith
  run_within i (suc n) = go (truth (test i)) (run_within (i + 1) n)
    where
      go : EitherWay (test i) → run_length test (i + 1) n ≤ n → run_length test i (suc n) ≤ suc n
      go (inl t) later = rw t (omega (arith, later))
      go (inr t) later = rw t (omega arith)

  -- ---- What it is made of

  -- places that meet the test, as many as it is long
  pub run_met : (i n j : ℕ) → j < run_length test i n → test (i + j) ≡ true
  unfolding run_length
  run_met i zero j h = absurd (omega arith)
  run_met i (suc n) j h = go (truth (test i)) j h (run_met (i + 1) n)
    where
      go : EitherWay (test i) → (j : ℕ) → j < run_length test i (suc n) → ((k : ℕ) → k < run_length test (i + 1) n → test (i + 1 + k) ≡ true)
          → test (i + j) ≡ true
      go (inl d) zero h later = ap test (omega arith) ∙ d
      go (inl d) (suc j) h later =
          let long : run_length test i (suc n) ≡ suc (run_length test (i + 1) n) = rw d refl in
          ap test (omega arith) ∙ later j (omega (arith, long))
      go (inr d) j h later =
          let none : run_length test i (suc n) ≡ 0 = rw d refl in
          absurd (omega (arith, none))

  -- and behind them one that does not, if it does not touch the end
  pub run_behind : (i n : ℕ) → run_length test i n < n → test (i + run_length test i n) ≡ false
  unfolding run_length
  run_behind i zero h = absurd (omega arith)
  run_behind i (suc n) h = go (truth (test i)) (run_behind (i + 1) n)
    where
      go : EitherWay (test i) → (run_length test (i + 1) n < n → test (i + 1 + run_length test (i + 1) n) ≡ false)
          → test (i + run_length test i (suc n)) ≡ false
      go (inl d) later =
          let long : run_length test i (suc n) ≡ suc (run_length test (i + 1) n) = rw d refl in
          ap test (omega (arith, long)) ∙ later (omega (arith, long))
      go (inr d) later =
          let none : run_length test i (suc n) ≡ 0 = rw d refl in
          ap test (omega (arith, none)) ∙ d

  -- so many places that meet the test, and behind them one that does not, are all of it
  pub run_exact : (i n len : ℕ) → len < n → ((k : ℕ) → k < len → test (i + k) ≡ true) → test (i + len) ≡ false
      → run_length test i n ≡ len
  unfolding run_length
  run_exact i zero len h all stop = absurd (omega arith)
  run_exact i (suc n) zero h all stop =
      let out : test i ≡ false = ap test (omega arith) ∙ stop in
      rw out refl
  run_exact i (suc n) (suc len) h all stop =
      let here : test i ≡ true = ap test (omega arith) ∙ all 0 (omega arith) in
      let later =
      run_exact (i + 1) n len (omega arith) (λ k b. ap test (omega arith) ∙ all (suc k) (omega arith)) (ap test (omega arith) ∙ stop)
      in
      rw (here, later) refl

-- ---- Two tests that agree on the places of a run

module _ (test other : ℕ → Bool) where
  pub length_same : (i n : ℕ) → ((j : ℕ) → i ≤ j → other j ≡ test j) → run_length other i n ≡ run_length test i n
  unfolding run_length
  length_same i zero same = refl
  length_same i (suc n) same =
      let later = length_same (i + 1) n (λ j h. same j (omega arith)) in
      rw (same i (omega arith), later) refl

  pub begins_same : (i : ℕ) → other i ≡ test i → other (i - 1) ≡ test (i - 1) → begins other i ≡ begins test i
  unfolding begins
  begins_same i here before = rw (here, before) refl
