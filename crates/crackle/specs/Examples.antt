-- Short runs, computed. The samples are nine of which the fifth alone is 1, as in document 01's "Sums done by hand", at sensitivity 10:
-- places 3, 4 and 5 are flagged, from either start.
use Rattle.std.specs.Prelude.{◌≡◌, refl, List, [], ◌∷◌, ℕ, replicate}
use Rattle.leaves.specs.Arithmetic.{count}
use Rattle.decrackle.specs.declared.Start.TheVariants.{Mean, Old}
use Rattle.decrackle.specs.Decrackle.{mean_over}
use Rattle.crackle.specs.Pieces.{begun, Holding, piece_told, end_told}
use Rattle.crackle.specs.Cuts.{Offer, Run, in_turn, handed, fresh}

-- the word of 1
abbrev pub click : ℕ
click = 0x3f800000

-- a room of five bytes that are 9
abbrev pub five : List ℕ
five = 9 ∷ 9 ∷ 9 ∷ 9 ∷ 9 ∷ []

abbrev pub offer : List ℕ → List ℕ → Offer
offer piece room = record { piece = piece; room = room }

-- the first four; none; the other five, for whose flags there is no room; and again, with room
abbrev pub offers : List Offer
offers =
    offer (0 ∷ 0 ∷ 0 ∷ 0 ∷ []) five
    ∷ offer [] []
    ∷ offer (click ∷ 0 ∷ 0 ∷ 0 ∷ 0 ∷ []) (9 ∷ 9 ∷ 9 ∷ 9 ∷ [])
    ∷ offer (click ∷ 0 ∷ 0 ∷ 0 ∷ 0 ∷ []) five
    ∷ []

-- ---- From the old start

unfoldable pub run : Run Holding
unfolding in_turn piece_told begun count
run = handed (fresh Old 9 (count 10) (replicate mean_over 0)) offers

-- the first four give three flags, and the click is flagged when the sample behind it is in
pub answers_given : run.numbers ≡ 0 ∷ 0 ∷ 6 ∷ 0 ∷ []
unfolding run
answers_given = refl

pub flags_joined : run.flags ≡ 0 ∷ 0 ∷ 0 ∷ 1 ∷ 1 ∷ 1 ∷ 0 ∷ 0 ∷ []
unfolding run
flags_joined = refl

-- and the end gives the ninth, in the first byte of its room
pub last_flag : (end_told run.held five).room ≡ 0 ∷ 9 ∷ 9 ∷ 9 ∷ 9 ∷ []
unfolding run end_told
last_flag = refl

-- ---- From the mean

-- the same samples in two pieces, which bring no flag and need no room
unfoldable pub held_run : Run Holding
unfolding in_turn piece_told begun count
held_run =
    handed (fresh Mean 9 (count 10) (replicate mean_over 0)) (offer (0 ∷ 0 ∷ 0 ∷ 0 ∷ []) [] ∷ offer (click ∷ 0 ∷ 0 ∷ 0 ∷ 0 ∷ []) [] ∷ [])

pub held_answers : held_run.numbers ≡ 0 ∷ 0 ∷ []
unfolding held_run
held_answers = refl

pub held_flags : held_run.flags ≡ []
unfolding held_run
held_flags = refl

-- and the end gives all nine
pub all_at_the_end : (end_told held_run.held (replicate 10 9)).room ≡ 0 ∷ 0 ∷ 0 ∷ 1 ∷ 1 ∷ 1 ∷ 0 ∷ 0 ∷ 0 ∷ 9 ∷ []
unfolding held_run end_told
all_at_the_end = refl
