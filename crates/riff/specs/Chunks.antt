-- The chunks of a RIFF file, as the RIFF WAVE document lays them out: "four bytes of name, a 32-bit size, the body, and one byte more
-- where the size is odd". A chunk is told by the byte at which it begins. Definitions only.
use Rattle.std.specs.Prelude.{ℕ, zero, suc, ◌+◌, ◌*◌, ◌%◌, Bool, ◌&&◌, List, [], ◌∷◌, length, ◌==◌, nat_le, nat_lt}
use Rattle.std.specs.Prelude.{if◌then◌else◌}
use Rattle.wire.specs.Wire.{word_at}

-- ---- Names

-- four letters, by their numbers in ASCII, as the word that they are in the file
abbrev pub letters : ℕ → ℕ → ℕ → ℕ → ℕ
letters a b c d = a + 256 * b + 65536 * c + 16777216 * d

-- R I F F
abbrev pub riff_name : ℕ
riff_name = letters 82 73 70 70

-- W A V E
abbrev pub wave_name : ℕ
wave_name = letters 87 65 86 69

-- f m t and a space
abbrev pub fmt_name : ℕ
fmt_name = letters 102 109 116 32

-- d a t a
abbrev pub data_name : ℕ
data_name = letters 100 97 116 97

-- ---- A chunk

-- the bytes of its head: name and size
abbrev pub head_bytes : ℕ
head_bytes = 8

-- name and size of the chunk that begins at byte i
abbrev pub name_at : List ℕ → ℕ → ℕ
name_at file i = word_at file i

abbrev pub size_at : List ℕ → ℕ → ℕ
size_at file i = word_at file (i + 4)

-- the bytes of its body, "and one byte more where the size is odd", "also where it is the last"
abbrev pub padded : ℕ → ℕ
padded size = size + size % 2

-- where the next one begins
abbrev pub next_at : List ℕ → ℕ → ℕ
next_at file i = i + head_bytes + padded (size_at file i)

-- it has this name and at least so many bytes
abbrev pub named : List ℕ → ℕ → ℕ → ℕ → Bool
named file name fewest i = name_at file i == name && nat_le fewest (size_at file i)

-- ---- Chunks, one behind the other

-- where the chunks from byte i on begin, as long as a head is left; n at most
unfoldable pub beginnings : ℕ → List ℕ → ℕ → List ℕ
unfolding word_at
beginnings zero file i = []
beginnings (suc n) file i = if nat_lt (length file) (i + head_bytes) then [] else i ∷ beginnings n file (next_at file i)

-- where the last of them ends
unfoldable pub ending : ℕ → List ℕ → ℕ → ℕ
unfolding word_at
ending zero file i = i
ending (suc n) file i = if nat_lt (length file) (i + head_bytes) then i else ending n file (next_at file i)

-- all of them: there are fewer than the file has bytes, since each takes eight at least
abbrev pub chunks_from : List ℕ → ℕ → List ℕ
chunks_from file i = beginnings (length file) file i

abbrev pub end_from : List ℕ → ℕ → ℕ
end_from file i = ending (length file) file i

-- the first of some places at which a test holds, or `none`
unfoldable pub first_of : (ℕ → Bool) → ℕ → List ℕ → ℕ
first_of test none [] = none
first_of test none (i ∷ is) = if test i then i else first_of test none is
