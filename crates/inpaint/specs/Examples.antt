-- Which runs of a recording qualify, computed: rows by hand, each with the gaps that the rule gives and those that it should, one
-- statement for all, which the checker computes.
use Rattle.std.specs.Prelude.{◌≡◌, ℕ, List, [], ◌∷◌, ◌++◌, map, replicate, refl}
use Rattle.inpaint.specs.Runs.{Stretch, stretch, runs_among, runs_of}

-- 1/2, which stands around the runs, and two words that the bus holds: 1/4 and -3/4
abbrev pub sound : List ℕ
sound = 0x3f000000 ∷ []

abbrev pub held : ℕ → List ℕ
held = λ n. replicate n 0x3e800000

abbrev pub held_other : ℕ → List ℕ
held_other = λ n. replicate n 0xbf400000

-- +0 and -0; the word of a lost sample, which is a NaN, and one more NaN; plus infinity; the float behind 65,536, the largest in range
abbrev pub zeros : List ℕ
zeros = 0 ∷ 0x80000000 ∷ []

abbrev pub nans : List ℕ
nans = 0x7fc00000 ∷ 0xff800001 ∷ []

abbrev pub infinite : ℕ → List ℕ
infinite = λ n. replicate n 0x7f800000

abbrev pub too_loud : ℕ → List ℕ
too_loud = λ n. replicate n 0x47800001

-- a recording, a limit, from how many equal words on they are a dropout, and the gaps of the runs that qualify
pub record Row : Type 0 where
  pub samples : List ℕ
  pub most : ℕ
  pub least : ℕ
  pub gaps : List Stretch

abbrev pub row : List ℕ → ℕ → ℕ → List Stretch → Row
row samples most least gaps = record { samples = samples; most = most; least = least; gaps = gaps }

abbrev pub rows : List Row
rows =
    -- "15 equal words are sound"; 16; 17
    row (sound ++ held 15 ++ sound) 48 16 []
    ∷ row (sound ++ held 16 ++ sound) 48 16 (stretch 2 15 ∷ [])
    ∷ row (sound ++ held 17 ++ sound) 48 16 (stretch 2 16 ∷ [])
    -- at either end: "the gap must touch neither"
    ∷ row (held 16 ++ sound) 48 16 (stretch 1 15 ∷ [])
    ∷ row (sound ++ held 16) 48 16 []
    -- directly before zeros, and directly behind them
    ∷ row (sound ++ held 16 ++ zeros ++ sound) 48 16 (stretch 2 15 ∷ stretch 17 2 ∷ [])
    ∷ row (sound ++ zeros ++ held 16 ++ sound) 48 16 (stretch 1 2 ∷ stretch 4 15 ∷ [])
    -- directly before NaN and behind zeros, which are one run with it; one word behind the other
    ∷ row (sound ++ held 16 ++ nans ++ zeros ++ held 16 ++ sound) 48 16 (stretch 2 15 ∷ stretch 17 4 ∷ stretch 22 15 ∷ [])
    ∷ row (sound ++ held 16 ++ held_other 16 ++ sound) 48 16 (stretch 2 15 ∷ stretch 18 15 ∷ [])
    -- the limit exactly, and one more: "under the same length limit"
    ∷ row (sound ++ held 17 ++ sound) 16 16 (stretch 2 16 ∷ [])
    ∷ row (sound ++ held 18 ++ sound) 16 16 []
    ∷ row (sound ++ zeros ++ sound) 2 16 (stretch 1 2 ∷ [])
    ∷ row (sound ++ zeros ++ nans ++ sound) 3 16 []
    -- "in range": neither is held
    ∷ row (sound ++ infinite 16 ++ sound) 48 16 []
    ∷ row (sound ++ too_loud 16 ++ sound) 48 16 []
    -- a run of 16 zeros is a gap of 16
    ∷ row (sound ++ replicate 16 0 ++ sound) 48 16 (stretch 1 16 ∷ [])
    -- request P11: "P1's number becomes this setting (at 2, a gap of one sample qualifies)", and one word that nothing repeats is sound
    ∷ row (sound ++ held 2 ++ sound) 48 2 (stretch 2 1 ∷ [])
    ∷ row (sound ++ held 1 ++ sound) 48 2 []
    ∷ row (sound ++ held 3 ++ held_other 2 ++ sound) 48 2 (stretch 2 2 ∷ stretch 5 1 ∷ [])
    ∷ row (held 2 ++ zeros ++ held_other 2) 48 2 (stretch 1 1 ∷ stretch 2 2 ∷ [])
    -- one short of the setting, and just as many: 3, 15 and 17; and 40, of which the limit has a say too
    ∷ row (sound ++ held 2 ++ sound) 48 3 []
    ∷ row (sound ++ held 3 ++ sound) 48 3 (stretch 2 2 ∷ [])
    ∷ row (sound ++ held 14 ++ sound) 48 15 []
    ∷ row (sound ++ held 15 ++ sound) 48 15 (stretch 2 14 ∷ [])
    ∷ row (sound ++ held 16 ++ sound) 48 17 []
    ∷ row (sound ++ held 17 ++ sound) 48 17 (stretch 2 16 ∷ [])
    ∷ row (sound ++ held 39 ++ sound) 48 40 []
    ∷ row (sound ++ held 40 ++ sound) 39 40 (stretch 2 39 ∷ [])
    ∷ row (sound ++ held 40 ++ sound) 38 40 []
    -- of zeros two are a dropout whatever the setting
    ∷ row (sound ++ zeros ++ sound) 48 4096 (stretch 1 2 ∷ [])
    ∷ row (sound ++ replicate 1 0 ++ sound) 48 2 []
    ∷ []

pub rows_hold : map (λ (r : Row). runs_of r.samples r.most r.least) rows ≡ map (λ (r : Row). r.gaps) rows
unfolding runs_among
rows_hold = refl
