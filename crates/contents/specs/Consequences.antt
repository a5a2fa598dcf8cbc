-- What follows of a contents table with its bodies: what is laid down is read back, and what is read is what would be laid down. Statements
-- only, each proved under the same name, written small, in proofs/Consequences.antt, which nobody has to read.
use Rattle.std.specs.Prelude.{ℕ, ◌≡◌, true, List, ◌++◌, map, length, take}
use Rattle.wire.specs.Wire.{Below, bytes_to, words_to}
use Rattle.contents.specs.Contents.{table, filed, lengths_in, laid_out, bodies_in}

-- behind so many bytes, whatever they are, a table whose figures are all of 32 bits and its bodies have the form, and the lengths and the
-- bodies are read back
abbrev pub FiledIsRead : Type 0
FiledIsRead =
    (before : ℕ) (front : List ℕ) (bodies : List (List ℕ)) → length front ≡ before → Below words_to (table before (map length bodies))
    → let whole = front ++ filed before bodies in
    (laid_out before (length bodies) whole ≡ true)
    × (lengths_in before (length bodies) whole ≡ map length bodies)
    × (bodies_in before (length bodies) whole ≡ bodies)

-- bytes that have the form are what stands before the table, and then the table and the bodies that are read, laid down again; there are as
-- many bodies as parts, and each is as long as the table tells
abbrev pub ReadIsFiled : Type 0
ReadIsFiled =
    (before n : ℕ) (bytes : List ℕ) → Below bytes_to bytes → laid_out before n bytes ≡ true
    → (bytes ≡ take before bytes ++ filed before (bodies_in before n bytes))
    × (map length (bodies_in before n bytes) ≡ lengths_in before n bytes)
    × (length (bodies_in before n bytes) ≡ n)
