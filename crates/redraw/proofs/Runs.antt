-- A step for each run, as a loop takes them. Assumes nothing.
use mathlib.Core.Path.{◌≡◌, sym, ap, ◌∙◌, refl}
use mathlib.Core.Bool.{Bool, true, false}
use Prim.Native.Nat.{ℕ, zero, suc, ◌+◌, ◌-◌, ◌≤◌, ◌<◌}
use native.Mathlib.Omega.{arith}
use Rattle.std.specs.Prelude.{if◌then◌else◌}
use Rattle.recording.specs.Runs.{begins, run_length}
use Rattle.redraw.specs.Runs.{over_runs}

-- a step for each run, at place i of n
module _ (test : ℕ → Bool) {D : Type 0} (step : ℕ → ℕ → D → D) where
  one_place : (i n : ℕ) (d : D)
      → over_runs test step i (suc n) d ≡ over_runs test step (i + 1) n (if begins test i then step i (i + run_length test i (suc n)) d else d)
  unfolding over_runs
  one_place i n d = refl

  -- a run begins there, and ends at e
  pub over_one : (i n e : ℕ) (d next whole : D) → i < n → begins test i ≡ true → e ≡ i + run_length test i (n - i) → next ≡ step i e d
      → over_runs test step i (n - i) d ≡ whole → over_runs test step (i + 1) (n - (i + 1)) next ≡ whole
  over_one i n e d next whole h b ee en rest =
      let left : n - i ≡ suc (n - (i + 1)) = omega arith in
      let drawn : next ≡ step i (i + run_length test i (suc (n - (i + 1)))) d =
      en ∙ ap (λ (k : ℕ). step i k d) (ee ∙ ap (λ (k : ℕ). i + run_length test i k) left) in
      let first = ap (λ (k : ℕ). over_runs test step i k d) left ∙ one_place i (n - (i + 1)) d in
      let taken = ap (λ (c : Bool). over_runs test step (i + 1) (n - (i + 1)) (if c then step i (i + run_length test i (suc (n - (i + 1)))) d else d)) b in
      ap (λ (x : D). over_runs test step (i + 1) (n - (i + 1)) x) drawn ∙ sym (first ∙ taken) ∙ rest

  -- none does
  pub over_none : (i n : ℕ) (d whole : D) → i < n → begins test i ≡ false
      → over_runs test step i (n - i) d ≡ whole → over_runs test step (i + 1) (n - (i + 1)) d ≡ whole
  over_none i n d whole h b rest =
      let left : n - i ≡ suc (n - (i + 1)) = omega arith in
      let first = ap (λ (k : ℕ). over_runs test step i k d) left ∙ one_place i (n - (i + 1)) d in
      let passed = ap (λ (c : Bool). over_runs test step (i + 1) (n - (i + 1)) (if c then step i (i + run_length test i (suc (n - (i + 1)))) d else d)) b in
      sym (first ∙ passed) ∙ rest

  -- there is no place more
  pub over_all : (i n : ℕ) (d whole : D) → n ≤ i → over_runs test step i (n - i) d ≡ whole → d ≡ whole
  unfolding over_runs
  over_all i n d whole h rest =
      let left : n - i ≡ 0 = omega arith in
      sym (ap (λ (k : ℕ). over_runs test step i k d) left) ∙ rest

  -- what every step keeps, all of them keep
  pub over_keeps : (P : D → Type 0) → ((s e : ℕ) (d : D) → P d → P (step s e d)) → (i n : ℕ) (d : D) → P d → P (over_runs test step i n d)
  unfolding over_runs
  over_keeps P kept i zero d p = p
  over_keeps P kept i (suc n) d p = over_keeps P kept (i + 1) n _ (go (begins test i))
    where
      go : (b : Bool) → P (if b then step i (i + run_length test i (suc n)) d else d)
      go true = kept i (i + run_length test i (suc n)) d p
      go false = p
