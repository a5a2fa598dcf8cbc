-- "Sums done by hand": the rows marked P, "as a single table under one statement about the rules". Each row has, one below the other,
-- what the rules give and what it should be, and the statement is `table_holds` at the end. The checker computes it.
use Rattle.std.specs.Prelude.{ℕ, ◌≡◌, refl, List, [], ◌∷◌, map, length, replicate, Float}
use Rattle.std.specs.Float.Ieee.{neg, to_bits}
use Rattle.std.specs.Float.{binary32, binary64}
use Rattle.leaves.specs.Arithmetic.{one, near, ◌/2^◌}
use Rattle.leaves.specs.Floats.{narrowed, rounded}
use Rattle.leaves.specs.Root.{root}
use Rattle.recording.specs.Answers.{number, value}
use Rattle.recording.specs.Recording.{State, Ended, undone}
use Rattle.recording.specs.Marks.{measured}
use Rattle.recording.specs.Counts.{counted}
use Rattle.recording.specs.History.{fresh}
use Rattle.inpaint.specs.Gap.{gap_repair}
use Rattle.inpaint.specs.Order.{gap_order}
use Rattle.declip.specs.Declip.{declip_repair}
use Rattle.dequant.specs.Dequant.{dequantize_repair}

pub record Row : Type 0 where
  pub given : List (List ℕ)
  pub should : List (List ℕ)

-- ---- Leaves: the patterns of what a rule gives for each number

unfoldable pub roots : List Float → List ℕ
unfolding root to_bits
roots = map (λ x. to_bits binary64 (root x))

unfoldable pub wholes : List Float → List ℕ
unfolding rounded to_bits
wholes = map (λ x. to_bits binary32 (rounded x))

unfoldable pub narrows : List Float → List ℕ
unfolding narrowed to_bits
narrows = map (λ x. to_bits binary32 (narrowed x))

-- ---- Calls: everything that they leave

-- number, value and used; samples; marks; the count of their one block; journal
abbrev pub leaving : ℕ → ℕ → ℕ → List ℕ → List ℕ → ℕ → List ℕ → List (List ℕ)
leaving number value used samples marks count journal = (number ∷ value ∷ used ∷ []) ∷ samples ∷ marks ∷ (count ∷ []) ∷ journal ∷ []

unfoldable pub shown : Ended → List (List ℕ)
shown e = let s = e.after in (number e.answer ∷ value e.answer ∷ s.used ∷ []) ∷ s.samples ∷ s.marks ∷ s.counts ∷ s.journal ∷ []

-- so many parts of d each, as words
unfoldable pub parts_of : ℕ → List ℕ → List ℕ
unfolding near to_bits
parts_of d = map (λ k. to_bits binary32 (near binary32 k d))

-- these words freshly opened, with a journal of so many words
abbrev pub recorded : List ℕ → ℕ → State
recorded words room = fresh words (replicate (length words) measured) room

-- *quiet*: "2^-30, 2^-30, 0, 0, 2^-30, 2^-30, gap at 2, length 2"; 2^-30 is the word 30800000. A model of order 32 needs 210 doubles for
-- it: a window of 6, a band of 2 * 33, 3 * 2 and 4 * 33.
abbrev pub quiet : List ℕ
quiet = 0x30800000 ∷ 0x30800000 ∷ 0 ∷ 0 ∷ 0x30800000 ∷ 0x30800000 ∷ []

unfoldable pub quiet_gap : ℕ → ℕ → Ended
unfolding gap_repair
quiet_gap len room = gap_repair 2 len 3 210 (recorded quiet room)

-- "9 samples, the fifth 1, the last 0.5, others 0", and "4 samples, only place 1 clipped", in parts of 1024
abbrev pub one_clipped : List ℕ
one_clipped = parts_of 1024 (0 ∷ 0 ∷ 0 ∷ 0 ∷ 1024 ∷ 0 ∷ 0 ∷ 0 ∷ 512 ∷ [])

abbrev pub four_samples : List ℕ
four_samples = parts_of 1024 (0 ∷ 1024 ∷ 0 ∷ 0 ∷ [])

-- "5 samples 0,0,0.125,0,0", in parts of 32
abbrev pub spike : List ℕ
spike = parts_of 32 (0 ∷ 0 ∷ 4 ∷ 0 ∷ 0 ∷ [])

-- ---- The table

unfoldable pub table : List Row
unfolding neg roots wholes narrows shown parts_of quiet_gap gap_order undone declip_repair dequantize_repair
table =
    let repaired = quiet_gap 2 8 in
    let back = undone repaired.after in
    -- root of 2.25 is 1.5; root of 2^-1074 is 2^-537
    record {
      given = roots (9 /2^ 2 ∷ 1 /2^ 1074 ∷ []) ∷ [];
      should = (0x3ff8000000000000 ∷ 0x1e60000000000000 ∷ []) ∷ [];
    }
    -- rounding: 2.5 to 3, −2.5 to −3, −0.25 to −0
    ∷ record {
      given = wholes (5 /2^ 1 ∷ neg (5 /2^ 1) ∷ neg (1 /2^ 2) ∷ []) ∷ [];
      should = (0x40400000 ∷ 0xc0400000 ∷ 0x80000000 ∷ []) ∷ [];
    }
    -- narrowing: 1+2^-24 to 1; 1+3*2^-24 to 1+2^-22
    ∷ record {
      given = narrows (16777217 /2^ 24 ∷ 16777219 /2^ 24 ∷ []) ∷ [];
      should = (0x3f800000 ∷ 0x3f800002 ∷ []) ∷ [];
    }
    -- *quiet*: words 80000000, 00000000; journal after *quiet*: 2,0,0,3,0,0,2,1; used 8
    ∷ record {
      given = shown repaired;
      should =
          leaving 0 2 8 (0x30800000 ∷ 0x30800000 ∷ 0x80000000 ∷ 0 ∷ 0x30800000 ∷ 0x30800000 ∷ []) (0 ∷ 0 ∷ 1 ∷ 1 ∷ 0 ∷ 0 ∷ []) 2
          (2 ∷ 0 ∷ 0 ∷ 3 ∷ 0 ∷ 0 ∷ 2 ∷ 1 ∷ []);
    }
    -- the order of its model: "0 in *quiet*" (request P8 of document 02)
    ∷ record { given = (gap_order 2 2 3 210 (recorded quiet 8) ∷ []) ∷ []; should = (0 ∷ []) ∷ [] }
    -- *quiet* then undo: raw words, marks 0, used 0, journal 0
    ∷ record { given = shown back; should = leaving 0 2 0 quiet (replicate 6 0) 0 (replicate 8 0) }
    -- a further undo: 10
    ∷ record { given = shown (undone back.after); should = leaving 10 0 0 quiet (replicate 6 0) 0 (replicate 8 0) }
    -- *quiet*, journal of 7 words: 9
    ∷ record { given = shown (quiet_gap 2 7); should = leaving 9 0 0 quiet (replicate 6 0) 0 (replicate 7 0) }
    -- gap length 0: 5
    ∷ record { given = shown (quiet_gap 0 8); should = leaving 5 0 0 quiet (replicate 6 0) 0 (replicate 8 0) }
    -- 5 samples 0,0,0.125,0,0, `dequantize`, bits 4, strength 1: 0, 0.0625, 0.0625, 0.03125, 0. The word of 0.125 is 3e000000.
    ∷ record {
      given = shown (dequantize_repair 4 one 10 (recorded spike 11));
      should =
          leaving 0 3 11 (parts_of 32 (0 ∷ 2 ∷ 2 ∷ 1 ∷ 0 ∷ [])) (0 ∷ 5 ∷ 5 ∷ 5 ∷ 0 ∷ []) 3
          (1 ∷ 0 ∷ 0 ∷ 2 ∷ 0x3e000000 ∷ 0 ∷ 3 ∷ 0 ∷ 0 ∷ 3 ∷ 5 ∷ []);
    }
    -- 9 samples, the fifth 1, the last 0.5, others 0, threshold 1: places 1..7 become 22, 80, 162, 256, 350, 432, 490 over 1024
    ∷ record {
      given = shown (declip_repair one 18 (recorded one_clipped 23));
      should =
          leaving 0 7 23 (parts_of 1024 (0 ∷ 22 ∷ 80 ∷ 162 ∷ 256 ∷ 350 ∷ 432 ∷ 490 ∷ 512 ∷ [])) (0 ∷ 3 ∷ 3 ∷ 3 ∷ 3 ∷ 3 ∷ 3 ∷ 3 ∷ 0 ∷ []) 7
          (1 ∷ 0 ∷ 0 ∷ 2 ∷ 0 ∷ 0 ∷ 3 ∷ 0 ∷ 0 ∷ 4 ∷ 0x3f800000 ∷ 0 ∷ 5 ∷ 0 ∷ 0 ∷ 6 ∷ 0 ∷ 0 ∷ 7 ∷ 0 ∷ 0 ∷ 7 ∷ 3 ∷ []);
    }
    -- 4 samples, only place 1 clipped: nothing named
    ∷ record {
      given = shown (declip_repair one 8 (recorded four_samples 14));
      should = leaving 0 0 0 four_samples (replicate 4 0) 0 (replicate 14 0);
    }
    ∷ []

-- the statement: in every row the rules give what it should be
pub table_holds : map (λ (r : Row). r.given) table ≡ map (λ (r : Row). r.should) table
unfolding table counted
table_holds = refl
