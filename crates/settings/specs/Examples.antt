-- Blocks by hand: the words of one of either version, place by place, and what the two readers give for blocks that are whole, cut, made
-- longer or changed, one statement for all, which the checker computes.
use Rattle.std.specs.Prelude.{ℕ, ◌≡◌, refl, List, [], ◌∷◌, ◌++◌, map, take, Result, Ok, Err}
use Rattle.std.specs.Float.Ieee.{lt, is_nan}
use Rattle.recording.specs.Answers.{reason_number}
use Rattle.wire.specs.Wire.{encoded}
use Rattle.recording.specs.declared.Reason.{Reason}
use Rattle.settings.specs.declared.Settings.{Settings}
use Rattle.settings.specs.Settings.{block_of, read_v1, read}

-- threshold 3/4, sensitivity 1/2, strength 1/4, 8 bits, 1 ms, 48,000 a second; and a held run of 16 words
abbrev pub six : List ℕ
six = 0x3f400000 ∷ 0x3f000000 ∷ 0x3e800000 ∷ 8 ∷ 0x3f800000 ∷ 48000 ∷ []

abbrev pub seven : List ℕ
seven = six ++ (16 ∷ [])

-- the version, how many parts, and of each its number, its offset and its length
abbrev pub head_v1 : List ℕ
head_v1 = 1 ∷ 6 ∷ 1 ∷ 80 ∷ 4 ∷ 2 ∷ 84 ∷ 4 ∷ 3 ∷ 88 ∷ 4 ∷ 4 ∷ 92 ∷ 4 ∷ 5 ∷ 96 ∷ 4 ∷ 6 ∷ 100 ∷ 4 ∷ []

abbrev pub head : List ℕ
head = 2 ∷ 7 ∷ 1 ∷ 92 ∷ 4 ∷ 2 ∷ 96 ∷ 4 ∷ 3 ∷ 100 ∷ 4 ∷ 4 ∷ 104 ∷ 4 ∷ 5 ∷ 108 ∷ 4 ∷ 6 ∷ 112 ∷ 4 ∷ 7 ∷ 116 ∷ 4 ∷ []

pub blocks_by_hand : (block_of 1 six ≡ encoded (head_v1 ++ six)) × (block_of 2 seven ≡ encoded (head ++ seven))
unfolding block_of encoded
blocks_by_hand = (refl, refl)

-- the first byte of the block in front, 1 and then 0, is the lowest of the version
pub lowest_first : take 5 (block_of 1 six) ≡ 1 ∷ 0 ∷ 0 ∷ 0 ∷ 6 ∷ []
unfolding block_of encoded
lowest_first = refl

-- what a reader gives: 0 for settings, and else the number of the refusal
abbrev pub number : {S : Type 0} → Result S Reason → ℕ
number (Ok s) = 0
number (Err why) = reason_number why

-- a block, and what the version 1 reader and the new one give
pub record Row : Type 0 where
  pub block : List ℕ
  pub old : ℕ
  pub new : ℕ

abbrev pub row : List ℕ → ℕ → ℕ → Row
row block old new = record { block = block; old = old; new = new }

-- the six with another threshold, or with another rate
abbrev pub with_threshold : ℕ → List ℕ
with_threshold w = w ∷ 0x3f000000 ∷ 0x3e800000 ∷ 8 ∷ 0x3f800000 ∷ 48000 ∷ []

abbrev pub with_rate : ℕ → List ℕ
with_rate w = 0x3f400000 ∷ 0x3f000000 ∷ 0x3e800000 ∷ 8 ∷ 0x3f800000 ∷ w ∷ []

abbrev pub rows : List Row
rows =
    -- one of either version
    row (block_of 1 six) 0 0
    ∷ row (block_of 2 seven) 17 0
    -- "a missing version included"; a version that is not known, "whatever follows it"
    ∷ row [] 18 18
    ∷ row (1 ∷ 0 ∷ 0 ∷ []) 18 18
    ∷ row (encoded (0 ∷ [])) 17 17
    ∷ row (encoded (3 ∷ 7 ∷ [])) 17 17
    -- six settings under version 2, and seven under version 1
    ∷ row (block_of 2 six) 17 18
    ∷ row (block_of 1 seven) 18 18
    -- one byte less, and one more
    ∷ row (take 103 (block_of 1 six)) 18 18
    ∷ row (block_of 1 six ++ (0 ∷ [])) 18 18
    -- "parts numbered from 1": part 1 is called 7; an offset that counts from behind the version
    ∷ row (encoded (1 ∷ 6 ∷ 7 ∷ 80 ∷ 4 ∷ 2 ∷ 84 ∷ 4 ∷ 3 ∷ 88 ∷ 4 ∷ 4 ∷ 92 ∷ 4 ∷ 5 ∷ 96 ∷ 4 ∷ 6 ∷ 100 ∷ 4 ∷ []) ++ encoded six) 18 18
    ∷ row (encoded (1 ∷ 6 ∷ 1 ∷ 76 ∷ 4 ∷ 2 ∷ 80 ∷ 4 ∷ 3 ∷ 84 ∷ 4 ∷ 4 ∷ 88 ∷ 4 ∷ 5 ∷ 92 ∷ 4 ∷ 6 ∷ 96 ∷ 4 ∷ []) ++ encoded six) 18 18
    -- bodies that touch, of 3 bytes and of 5
    ∷ row (encoded (1 ∷ 6 ∷ 1 ∷ 80 ∷ 3 ∷ 2 ∷ 83 ∷ 5 ∷ 3 ∷ 88 ∷ 4 ∷ 4 ∷ 92 ∷ 4 ∷ 5 ∷ 96 ∷ 4 ∷ 6 ∷ 100 ∷ 4 ∷ []) ++ encoded six) 18 18
    -- a threshold of 0, of plus infinity and of NaN; the highest rate, and one more
    ∷ row (block_of 1 (with_threshold 0)) 18 18
    ∷ row (block_of 1 (with_threshold 0x7f800000)) 18 18
    ∷ row (block_of 1 (with_threshold 0x7fc00000)) 18 18
    ∷ row (block_of 1 (with_rate 16777216)) 0 0
    ∷ row (block_of 1 (with_rate 16777217)) 18 18
    -- a run length "2 to 4,096"
    ∷ row (block_of 2 (six ++ (1 ∷ []))) 17 18
    ∷ row (block_of 2 (six ++ (2 ∷ []))) 17 0
    ∷ row (block_of 2 (six ++ (4096 ∷ []))) 17 0
    ∷ row (block_of 2 (six ++ (4097 ∷ []))) 17 18
    ∷ []

pub rows_hold : (map (λ (r : Row). number (read_v1 r.block)) rows ≡ map (λ (r : Row). r.old) rows)
    × (map (λ (r : Row). number (read r.block)) rows ≡ map (λ (r : Row). r.new) rows)
unfolding read_v1 read block_of encoded lt is_nan
rows_hold = (refl, refl)

-- the version 1 block through the new reader: its six, and 16
abbrev pub held_of : Result Settings Reason → ℕ
held_of (Ok s) = s.held
held_of (Err why) = 0

pub given_sixteen : held_of (read (block_of 1 six)) ≡ 16
unfolding read block_of encoded lt is_nan
given_sixteen = refl
