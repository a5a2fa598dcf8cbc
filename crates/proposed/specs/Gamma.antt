-- What the original's methods propose: each of the five ends in `project_gamma`, sample by sample. Its text, operation by operation, over the
-- leaves: `abs` is `magnitude`, `max` and `min` are `larger` and `smaller`. Definitions only.
use Rattle.std.specs.Prelude.{ℕ, ◌<◌, ◌^◌, Bool, true, ◌||◌, ◌≡◌, List, [], ◌∷◌, Float}
use Rattle.std.specs.Float.{binary32}
use Rattle.std.specs.Float.Ieee.{neg, lt, le, is_nan, to_bits}
use Rattle.std.specs.Prelude.{if◌then◌else◌}
use Rattle.leaves.specs.Arithmetic.{float}
use Rattle.leaves.specs.Floats.{magnitude, larger, smaller, in_range}

-- `project_gamma(cand, obs, threshold)` of declip.rs
unfoldable pub project_gamma : Float → Float → Float → Float
unfolding lt le neg larger smaller
project_gamma cand obs threshold =
    if lt (magnitude obs) threshold then obs else
    if le threshold obs then larger cand threshold else
    smaller cand (neg threshold)

-- of a candidate and a sample, as words
abbrev pub projected_word : Float → ℕ → ℕ → ℕ
projected_word threshold c w = to_bits binary32 (project_gamma (float c) (float w) threshold)

-- of all candidates and samples, one by one
unfoldable pub projected : Float → List ℕ → List ℕ → List ℕ
unfolding float to_bits project_gamma
projected threshold [] ws = []
projected threshold (c ∷ cs) [] = []
projected threshold (c ∷ cs) (w ∷ ws) = projected_word threshold c w ∷ projected threshold cs ws

-- "in-range or NaN candidates"
unfoldable pub in_range_or_nan : ℕ → Bool
unfolding in_range float is_nan
in_range_or_nan c = in_range c || is_nan (float c)

-- each word of a list is one
abbrev pub Candidates : List ℕ → Type 0
Candidates [] = Unit {0}
Candidates (c ∷ cs) = (in_range_or_nan c ≡ true) × Candidates cs

-- "an in-range recording": each of its words is in range, and has 32 bits, as a sample has
abbrev pub InRange : List ℕ → Type 0
InRange [] = Unit {0}
InRange (w ∷ ws) = (in_range w ≡ true) × (w < 2 ^ 32) × InRange ws
