-- How many bytes the parts of a case take in the list.
use Rattle.std.specs.Prelude.{ℕ, ◌+◌, ◌*◌}

-- A word: eight digits, and the space or the line's end behind them.
abbrev pub word_bytes : ℕ
word_bytes = 9

-- What a case begins with: a letter and a space, and eight words.
abbrev pub head_bytes : ℕ
head_bytes = 2 + 8 * word_bytes

-- What stands behind that for so many samples, of which so many are renewed: the words of all, their marks with a digit
-- for each and one byte behind them, and the new words.
abbrev pub row_bytes : ℕ → ℕ → ℕ
row_bytes samples renewed = word_bytes * samples + (samples + 1) + word_bytes * renewed
