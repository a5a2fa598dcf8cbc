-- The areas of the one workspace that the stages of the model share. No promise of a repair needs these. Definitions only.
use Rattle.std.specs.Prelude.{ℕ, ◌+◌, ◌*◌, ◌≤◌, ◌≡◌, List, length, take, drop, Float}
use Rattle.model.specs.Model.{most_window, doubles_for}

-- the n doubles from place `from` on
abbrev pub area : List Float → ℕ → ℕ → List Float
area w from n = take n (drop from w)

-- a stage that went from w to w' wrote places from low to before high, and no others
pub record Only (low high : ℕ) (w w' : List Float) : Type 0 where
  pub count : length w' ≡ length w
  pub before : take low w' ≡ take low w
  pub behind : drop high w' ≡ drop high w

-- Behind the window, of `size` doubles, stand four lists of p + 1: the lags r, a copy of the coefficients, the coefficients a and
-- b; then the band; then three lists of len: the right sides, y and x.
abbrev pub coefs_at : ℕ → ℕ → ℕ
coefs_at size p = size + 2 * (p + 1)

abbrev pub band_at : ℕ → ℕ → ℕ
band_at size p = size + 4 * (p + 1)

abbrev pub results_at : ℕ → ℕ → ℕ → ℕ
results_at size len p = size + 4 * (p + 1) + len * (p + 1) + 2 * len

-- what the stages ask for: a gap within its window, an order, lengths that no sum of them overflows, and room in the workspace
pub record Laid (size g len p : ℕ) (w : List Float) : Type 0 where
  pub within : g + len ≤ size
  pub few : size ≤ most_window
  pub short : len ≤ 2048
  pub some : 1 ≤ len
  pub order : 1 ≤ p
  pub low : p ≤ 128
  pub room : doubles_for size len p ≤ length w
