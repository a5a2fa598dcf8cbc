-- The pass: the sums of the coefficients and the right sides, each filled in place by place, and what the stages, one
-- after the other, leave in the workspace. Assumes nothing.
use mathlib.Core.Path.{◌≡◌, ap, ◌∙◌}
use mathlib.Core.List.{List, []}
use Prim.Native.Nat.{ℕ, ◌+◌, ◌*◌, ◌≤◌}
use native.Mathlib.Omega.{arith}
use native.Mathlib.Nat.{zero-add}
use lib.ListN.{length, set}
use lib.Seq.{sets}
use lib.Ieee.{Float}
use Rattle.model.specs.Model.{each, coef_at, coef_autocorr, right_side, right_sides, factored, forward, doubles_for}
use Rattle.model.specs.Model.{backward, solve_spd_banded, estimate_ar_known, solved}
use Rattle.model.specs.Areas.{area, Only, coefs_at, band_at, results_at}
use Rattle.model.proofs.Parts.{only_then, only_wider, only_before}
use Rattle.model.proofs.sums.Laws.{length_each}
use Rattle.model.proofs.banded.Laws.{length_factored, length_forward, length_backward}
use Rattle.model.proofs.estimate.Laws.{run_count, run_stands, run_before, run_behind, run_only}
use Rattle.model.proofs.estimate.Laws.{fill_turn, fill_done}

-- ---- The sums of the coefficients

pub coef_turn : (w₀ w : List Float) (a b p n j : ℕ) (v : Float) → n ≡ p + 1 → a + (p + 1) ≤ b
    → w ≡ sets w₀ b (each (coef_at (area w₀ a (p + 1)) p) 0 j)
    → v ≡ coef_at (area w a n) p j
    → set w (b + j) v ≡ sets w₀ b (each (coef_at (area w₀ a (p + 1)) p) 0 (j + 1))
coef_turn w₀ w a b p n j v en h e ev =
    let f = coef_at (area w₀ a (p + 1)) p in
    let same : area w a n ≡ area w₀ a (p + 1) =
    ap (area w a) en ∙ run_before w₀ w (each f 0 j) b a (p + 1) e h in
    fill_turn w₀ w b j f v e (ev ∙ ap (λ (l : List Float). coef_at l p j) same)

pub coef_done : (w₀ w : List Float) (a b p j : ℕ) → j ≡ p + 1
    → w ≡ sets w₀ b (each (coef_at (area w₀ a (p + 1)) p) 0 j)
    → w ≡ sets w₀ b (coef_autocorr (area w₀ a (p + 1)) p)
unfolding coef_autocorr
coef_done w₀ w a b p j h e = fill_done w₀ w b j (p + 1) (coef_at (area w₀ a (p + 1)) p) e h

-- ---- The right sides

module _ (w₀ w : List Float) (size g len b rhs p i : ℕ) where
  pub side_turn : (m n : ℕ) (v : Float) → m ≡ size → n ≡ p + 1 → size ≤ rhs → b + (p + 1) ≤ rhs
      → w ≡ sets w₀ rhs (each (right_side (area w₀ 0 size) g len (area w₀ b (p + 1)) p) 0 i)
      → v ≡ right_side (area w 0 m) g len (area w b n) p i
      → set w (rhs + i) v ≡ sets w₀ rhs (each (right_side (area w₀ 0 size) g len (area w₀ b (p + 1)) p) 0 (i + 1))
  side_turn m n v em en h k e ev =
      let f = right_side (area w₀ 0 size) g len (area w₀ b (p + 1)) p in
      let window : area w 0 m ≡ area w₀ 0 size =
      ap (area w 0) em ∙ run_before w₀ w (each f 0 i) rhs 0 size e (omega arith) in
      let sums : area w b n ≡ area w₀ b (p + 1) =
      ap (area w b) en ∙ run_before w₀ w (each f 0 i) rhs b (p + 1) e k in
      fill_turn w₀ w rhs i f v e
      (ev
      ∙ ap (λ (l : List Float). right_side l g len (area w b n) p i) window
      ∙ ap (λ (l : List Float). right_side (area w₀ 0 size) g len l p i) sums)

  pub side_done : i ≡ len
      → w ≡ sets w₀ rhs (each (right_side (area w₀ 0 size) g len (area w₀ b (p + 1)) p) 0 i)
      → w ≡ sets w₀ rhs (right_sides (area w₀ 0 size) g len (area w₀ b (p + 1)) p)
  unfolding right_sides
  side_done h e = fill_done w₀ w rhs i len (right_side (area w₀ 0 size) g len (area w₀ b (p + 1)) p) e h

-- ---- How long the right sides and the sums are

length_sides : (seg : List Float) (g len : ℕ) (b : List Float) (p : ℕ) → length (right_sides seg g len b p) ≡ len
unfolding right_sides
length_sides seg g len b p = length_each (right_side seg g len b p) 0 len

length_coefs : (a : List Float) (p : ℕ) → length (coef_autocorr a p) ≡ p + 1
unfolding coef_autocorr
length_coefs a p = length_each (coef_at a p) 0 (p + 1)

-- ---- The equations, laid down and solved

-- the right sides, the band's rows, and the results of both solves: each list from the areas as the stages before it
-- left them
module _ (w w₁ w₂ w₃ w₄ : List Float) (size g len p b band rhs y x : ℕ)
    (hb : b + (p + 1) ≤ band) (hr : band + len * (p + 1) ≤ rhs) (hy : rhs + len ≤ y) (hx : y + len ≤ x)
    (room : x + len ≤ length w)
    (sides factors firsts results : List Float)
    (es : sides ≡ right_sides (area w 0 size) g len (area w b (p + 1)) p)
    (ef : factors ≡ factored (area w₁ b (p + 1)) p len)
    (ey : firsts ≡ forward (area w₂ band (len * (p + 1))) (area w₂ rhs len) p len [])
    (ex : results ≡ backward (area w₃ band (len * (p + 1))) (area w₃ y len) p len len [])
    (e₁ : w₁ ≡ sets w rhs sides) (e₂ : w₂ ≡ sets w₁ band factors)
    (e₃ : w₃ ≡ sets w₂ y firsts) (e₄ : w₄ ≡ sets w₃ x results) where
  count_sides : length sides ≡ len
  count_sides = ap length es ∙ length_sides (area w 0 size) g len (area w b (p + 1)) p

  count_factors : length factors ≡ len * (p + 1)
  count_factors = ap length ef ∙ length_factored (area w₁ b (p + 1)) p len

  count_firsts : length firsts ≡ len
  count_firsts = ap length ey ∙ length_forward (area w₂ band (len * (p + 1))) (area w₂ rhs len) p len [] ∙ zero-add len

  count_results : length results ≡ len
  count_results =
      ap length ex ∙ length_backward (area w₃ band (len * (p + 1))) (area w₃ y len) p len len [] ∙ zero-add len

  count₁ : length w₁ ≡ length w
  count₁ = run_count w w₁ sides rhs e₁

  count₂ : length w₂ ≡ length w
  count₂ = run_count w₁ w₂ factors band e₂ ∙ count₁

  count₃ : length w₃ ≡ length w
  count₃ = run_count w₂ w₃ firsts y e₃ ∙ count₂

  factors_same : factors ≡ factored (area w b (p + 1)) p len
  factors_same = ef ∙ ap (λ (l : List Float). factored l p len) (run_before w w₁ sides rhs b (p + 1) e₁ (omega arith))

  -- the band and the right sides, as the forward solve finds them
  band_stands : area w₂ band (len * (p + 1)) ≡ factors
  band_stands = run_stands w₁ w₂ factors band (len * (p + 1)) e₂ count_factors (rw count₁ (omega arith))

  sides_stand : area w₂ rhs len ≡ sides
  sides_stand =
      run_behind w₁ w₂ factors band (len * (p + 1)) rhs len e₂ count_factors hr
      ∙ run_stands w w₁ sides rhs len e₁ count_sides (omega arith)

  firsts_same : firsts ≡ forward factors sides p len []
  firsts_same =
      ey
      ∙ ap (λ (l : List Float). forward l (area w₂ rhs len) p len []) band_stands
      ∙ ap (λ (l : List Float). forward factors l p len []) sides_stand

  -- the band and y, as the back solve finds them
  band_still : area w₃ band (len * (p + 1)) ≡ factors
  band_still = run_before w₂ w₃ firsts y band (len * (p + 1)) e₃ (omega arith) ∙ band_stands

  firsts_stand : area w₃ y len ≡ firsts
  firsts_stand = run_stands w₂ w₃ firsts y len e₃ count_firsts (rw count₂ (omega arith))

  results_same : results ≡ solve_spd_banded (area w b (p + 1)) (right_sides (area w 0 size) g len (area w b (p + 1)) p) p len
  unfolding solve_spd_banded
  results_same =
      ex
      ∙ ap (λ (l : List Float). backward l (area w₃ y len) p len len []) band_still
      ∙ ap (λ (l : List Float). backward factors l p len len []) (firsts_stand ∙ firsts_same)
      ∙ ap (λ (l : List Float). backward l (forward l sides p len []) p len len []) factors_same
      ∙ ap (λ (l : List Float). solve_spd_banded (area w b (p + 1)) l p len) es

  all_kept : (end : ℕ) → x + len ≤ end → Only band end w w₄
  all_kept end h =
      only_then band end w w₃ w₄
      (only_then band end w w₂ w₃
      (only_then band end w w₁ w₂
      (run_only w w₁ sides rhs len band end e₁ count_sides (omega arith) (omega arith))
      (run_only w₁ w₂ factors band (len * (p + 1)) band end e₂ count_factors (omega arith) (omega arith)))
      (run_only w₂ w₃ firsts y len band end e₃ count_firsts (omega arith) (omega arith)))
      (run_only w₃ w₄ results x len band end e₄ count_results (omega arith) h)

  pub gap_solved : (from end : ℕ) → from ≡ x → x + len ≤ end
      → (area w₄ from len
      ≡ solve_spd_banded (area w b (p + 1)) (right_sides (area w 0 size) g len (area w b (p + 1)) p) p len)
      × Only band end w w₄
  gap_solved from end e h = (
    ap (λ (k : ℕ). area w₄ k len) e ∙ run_stands w₃ w₄ results x len e₄ count_results (rw count₃ room) ∙ results_same,
    all_kept end h,
  )

-- ---- The pass

pub pass_solved : (w w₁ w₂ w₃ : List Float) (size g len p : ℕ) → doubles_for size len p ≤ length w
    → area w₁ (coefs_at size p) (p + 1) ≡ estimate_ar_known (area w 0 size) g len p
    → Only size (size + 3 * (p + 1)) w w₁
    → w₂ ≡ sets w₁ (size + 3 * (p + 1)) (coef_autocorr (area w₁ (size + 2 * (p + 1)) (p + 1)) p)
    → area w₃ (results_at size len p) len
    ≡ solve_spd_banded (area w₂ (size + 3 * (p + 1)) (p + 1))
    (right_sides (area w₂ 0 size) g len (area w₂ (size + 3 * (p + 1)) (p + 1)) p) p len
    → Only (band_at size p) (doubles_for size len p) w₂ w₃
    → (area w₃ (results_at size len p) len ≡ solved (area w 0 size) g len p) × Only size (doubles_for size len p) w w₃
unfolding solved
pass_solved w w₁ w₂ w₃ size g len p room model first e₂ results last =
    let b = size + 3 * (p + 1) in
    let end = doubles_for size len p in
    let coefs = area w₁ (size + 2 * (p + 1)) (p + 1) in
    let count : length (coef_autocorr coefs p) ≡ p + 1 = length_coefs coefs p in
    let there : b + (p + 1) ≤ length w₁ = rw first.count (omega arith) in
    let sums : area w₂ b (p + 1) ≡ coef_autocorr (estimate_ar_known (area w 0 size) g len p) p =
    run_stands w₁ w₂ (coef_autocorr coefs p) b (p + 1) e₂ count there
    ∙ ap (λ (l : List Float). coef_autocorr l p) model in
    let window : area w₂ 0 size ≡ area w 0 size =
    run_before w₁ w₂ (coef_autocorr coefs p) b 0 size e₂ (omega arith)
    ∙ only_before size b 0 size w w₁ first (omega arith) in
    let kept : Only size end w w₂ =
    only_then size end w w₁ w₂
    (only_wider size b size end w w₁ (omega arith) (omega arith) first)
    (run_only w₁ w₂ (coef_autocorr coefs p) b (p + 1) size end e₂ count (omega arith) (omega arith)) in (
      results
          ∙ ap (λ (l : List Float). solve_spd_banded l (right_sides (area w₂ 0 size) g len l p) p len) sums
          ∙ ap (λ (l : List Float). solve_spd_banded (coef_autocorr (estimate_ar_known (area w 0 size) g len p) p)
          (right_sides l g len (coef_autocorr (estimate_ar_known (area w 0 size) g len p) p) p) p len) window,
      only_then size end w w₂ w₃ kept (only_wider (band_at size p) end size end w₂ w₃ (omega arith) (omega arith) last),
    )
