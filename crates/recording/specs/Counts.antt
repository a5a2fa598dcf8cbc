-- Block counts: request P5 of document 02, whose sentences the comments quote. "Keep beside the marks a count for each block of 256 samples
-- of those whose mark is not 0; the last block may be short." Definitions only.
use Rattle.std.specs.Prelude.{ℕ, zero, suc, ◌+◌, ◌-◌, ◌*◌, ◌/◌, min, Bool, not, List, [], ◌∷◌, length, get_or, set, eqb}
use Rattle.std.specs.Prelude.{if◌then◌else◌}
use Rattle.recording.specs.Marks.{measured}

-- ---- Blocks

-- "each block of 256 samples"
abbrev pub block_size : ℕ
block_size = 256

-- the block that the sample of a place falls in
abbrev pub block_of : ℕ → ℕ
block_of place = place / block_size

-- the place at which a block begins
abbrev pub block_begin : ℕ → ℕ
block_begin block = block * block_size

-- how many blocks n samples make, of which "the last block may be short"
abbrev pub blocks : ℕ → ℕ
blocks n = (n + (block_size - 1)) / block_size

-- how many samples a block has, of n: 256, or what is left for the last
abbrev pub block_length : ℕ → ℕ → ℕ
block_length n block = min (n - block_begin block) block_size

-- ---- Counts

-- 1 for a mark that is counted, one "whose mark is not 0", and 0 for measured
unfoldable pub counted_mark : ℕ → ℕ
counted_mark mark = if eqb mark measured then 0 else 1

-- how many of the n marks from place i on are counted
unfoldable pub unmeasured : List ℕ → ℕ → ℕ → ℕ
unfolding counted_mark
unmeasured marks i zero = 0
unmeasured marks i (suc n) = counted_mark (get_or marks i 0) + unmeasured marks (i + 1) n

-- the count of a block
unfoldable pub count_of : List ℕ → ℕ → ℕ
unfolding unmeasured
count_of marks block = unmeasured marks (block_begin block) (block_length (length marks) block)

-- the counts of n blocks, one behind the other, from a block on
unfoldable pub counts_from : List ℕ → ℕ → ℕ → List ℕ
unfolding count_of
counts_from marks block zero = []
counts_from marks block (suc n) = count_of marks block ∷ counts_from marks (block + 1) n

-- "a count for each block", "worked out from the marks"
unfoldable pub counted : List ℕ → List ℕ
unfolding counts_from
counted marks = counts_from marks 0 (blocks (length marks))

-- 14: "wrong number of counts", for n samples
abbrev pub miscounted : ℕ → List ℕ → Bool
miscounted n counts = not (eqb (length counts) (blocks n))

-- "recounts the blocks of its samples and no others", for samples at these places, from the marks as they are now
unfoldable pub recounted : List ℕ → List ℕ → List ℕ → List ℕ
unfolding count_of
recounted marks [] counts = counts
recounted marks (i ∷ is) counts = recounted marks is (set counts (block_of i) (count_of marks (block_of i)))
