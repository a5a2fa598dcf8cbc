-- Numbers as bytes, the lowest byte first. A list's element i is `get_or l i 0`. Definitions only.
use Rattle.std.specs.Prelude.{ℕ, zero, suc, ◌+◌, ◌*◌, ◌/◌, ◌%◌, ◌<◌, List, [], ◌∷◌, ◌++◌, get_or}

-- the number of 16 bits that the two bytes from place i on are
unfoldable pub half_at : List ℕ → ℕ → ℕ
half_at bytes i = get_or bytes i 0 + 256 * get_or bytes (i + 1) 0

-- n such numbers, one behind the other, from byte i on
unfoldable pub halves : List ℕ → ℕ → ℕ → List ℕ
unfolding half_at
halves bytes i zero = []
halves bytes i (suc n) = half_at bytes i ∷ halves bytes (i + 2) n

-- the word of 32 bits that the four bytes from place i on are
unfoldable pub word_at : List ℕ → ℕ → ℕ
word_at bytes i = get_or bytes i 0 + 256 * get_or bytes (i + 1) 0 + 65536 * get_or bytes (i + 2) 0 + 16777216 * get_or bytes (i + 3) 0

-- n words, one behind the other, from byte i on
unfoldable pub decoded : List ℕ → ℕ → ℕ → List ℕ
unfolding word_at
decoded bytes i zero = []
decoded bytes i (suc n) = word_at bytes i ∷ decoded bytes (i + 4) n

-- the four bytes of a word
unfoldable pub bytes_of : ℕ → List ℕ
bytes_of w = w % 256 ∷ w / 256 % 256 ∷ w / 65536 % 256 ∷ w / 16777216 % 256 ∷ []

-- those of words, one behind the other
unfoldable pub encoded : List ℕ → List ℕ
unfolding bytes_of
encoded [] = []
encoded (w ∷ ws) = bytes_of w ++ encoded ws

-- the two bytes of a number of 16 bits
unfoldable pub half_bytes : ℕ → List ℕ
half_bytes h = h % 256 ∷ h / 256 % 256 ∷ []

-- those of numbers of 16 bits, one behind the other
unfoldable pub encoded_halves : List ℕ → List ℕ
unfolding half_bytes
encoded_halves [] = []
encoded_halves (h ∷ hs) = half_bytes h ++ encoded_halves hs

-- each number of a list is below m: 256 of bytes, 2 ^ 16 of halves, and of words 2 ^ 32
abbrev pub Below : ℕ → List ℕ → Type 0
Below m l = (i : ℕ) → get_or l i 0 < m

abbrev pub bytes_to : ℕ
bytes_to = 256

abbrev pub halves_to : ℕ
halves_to = 65536

abbrev pub words_to : ℕ
words_to = 4294967296
