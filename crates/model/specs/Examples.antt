-- How far the recursion gets, computed: rows by hand, each with the lags, p, and the order that the rule gives and that it should give,
-- one statement for all, which the checker computes.
use Rattle.std.specs.Prelude.{ℕ, ◌≡◌, refl, List, [], ◌∷◌, map, Float}
use Rattle.leaves.specs.Arithmetic.{nought, one, ◌/2^◌}
use Rattle.model.specs.Order.{levinson_order}

-- lags, a highest order, and the order that the recursion gets to
pub record Row : Type 0 where
  pub lags : List Float
  pub p : ℕ
  pub order : ℕ

abbrev pub row : List Float → ℕ → ℕ → Row
row lags p order = record { lags = lags; p = p; order = order }

abbrev pub rows : List Row
rows =
    -- "0 when it stopped at once": 2^-40 is below 1e-12, and 2^-39 is not
    row (1 /2^ 40 ∷ nought ∷ nought ∷ []) 2 0
    -- k is a zero, at each order: it is used all the same
    ∷ row (1 /2^ 39 ∷ nought ∷ nought ∷ []) 2 2
    -- k is -1/2, and then a zero
    ∷ row (one ∷ 1 /2^ 1 ∷ 1 /2^ 2 ∷ []) 2 2
    -- k is -3/4, and e falls to 7/16 of 2^-39, which is below 1e-12: it stops before it uses another
    ∷ row (1 /2^ 39 ∷ 3 /2^ 41 ∷ nought ∷ nought ∷ []) 3 1
    -- k is -1, and then e is 0; k is -1/2 and then -2, and then e is below 0: it stops right after it
    ∷ row (one ∷ one ∷ nought ∷ nought ∷ []) 3 1
    ∷ row (one ∷ 1 /2^ 1 ∷ 7 /2^ 2 ∷ nought ∷ []) 3 2
    ∷ []

pub rows_hold : map (λ (r : Row). levinson_order r.lags r.p) rows ≡ map (λ (r : Row). r.order) rows
unfolding levinson_order
rows_hold = refl
