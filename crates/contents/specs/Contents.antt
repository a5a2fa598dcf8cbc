-- A contents table and the bodies of its parts, as request P10 of document 02 lays them out, in its words: "First the contents: a 32-bit
-- number of parts, .. then part number, offset and length in bytes for each; then the bodies .., in that order and touching, all
-- little-endian". So many bytes, `before`, stand in front of the table, and offsets count from the first of them. Definitions only.
use Rattle.std.specs.Prelude.{ℕ, zero, suc, ◌+◌, ◌*◌, Bool, ◌&&◌, length, take, drop, eqb}
use mathlib.Core.List.{List, [], ◌∷◌, ◌++◌, map, flatten}
use Rattle.wire.specs.Wire.{word_at, encoded}

-- ---- Laid down

-- the bytes of a table of n parts: a word for their number, and three for each of them
abbrev pub table_bytes : ℕ → ℕ
table_bytes n = 4 + 12 * n

-- "part number, offset and length in bytes for each", of parts whose bodies have these lengths. The first of them is part k, and its
-- body begins at byte `at`; the others are numbered "in turn" and touch.
unfoldable pub rows : ℕ → ℕ → List ℕ → List ℕ
rows k at [] = []
rows k at (len ∷ lens) = k ∷ at ∷ len ∷ rows (k + 1) (at + len) lens

-- "a 32-bit number of parts, .. then" the rows, of which the first body begins behind the table, and the first part is number 1
unfoldable pub table : ℕ → List ℕ → List ℕ
unfolding rows
table before lens = length lens ∷ rows 1 (before + table_bytes (length lens)) lens

-- the table as bytes, "then the bodies"
unfoldable pub filed : ℕ → List (List ℕ) → List ℕ
unfolding encoded table flatten
filed before bodies = encoded (table before (map length bodies)) ++ flatten bodies

-- ---- Read

-- the lengths that n rows tell, the first of which begins at byte i
unfoldable pub lengths_from : List ℕ → ℕ → ℕ → List ℕ
unfolding word_at
lengths_from bytes i zero = []
lengths_from bytes i (suc n) = word_at bytes (i + 8) ∷ lengths_from bytes (i + 12) n

-- and those of the table of n parts
abbrev pub lengths_in : ℕ → ℕ → List ℕ → List ℕ
lengths_in before n bytes = lengths_from bytes (before + 4) n

-- n rows, the first of which begins at byte i, are of parts numbered from k on, "1, 2, 3 in turn", whose bodies touch, the first from
-- byte `at` on; "and nothing follows the last body"
unfoldable pub in_turn : List ℕ → ℕ → ℕ → ℕ → ℕ → Bool
unfolding word_at
in_turn bytes i k at zero = eqb at (length bytes)
in_turn bytes i k at (suc n) =
    eqb (word_at bytes i) k && eqb (word_at bytes (i + 4)) at && in_turn bytes (i + 12) (k + 1) (at + word_at bytes (i + 8)) n

-- the bytes have this form, with n parts. That they do not end within the table goes without saying: the last body ends where they do.
unfoldable pub laid_out : ℕ → ℕ → List ℕ → Bool
unfolding word_at in_turn
laid_out before n bytes = eqb (word_at bytes before) n && in_turn bytes (before + 4) 1 (before + table_bytes n) n

-- bytes cut into bodies of these lengths
unfoldable pub cut : List ℕ → List ℕ → List (List ℕ)
cut [] bytes = []
cut (len ∷ lens) bytes = take len bytes ∷ cut lens (drop len bytes)

-- the bodies that the table tells of
unfoldable pub bodies_in : ℕ → ℕ → List ℕ → List (List ℕ)
unfolding lengths_from cut
bodies_in before n bytes = cut (lengths_in before n bytes) (drop (before + table_bytes n) bytes)
