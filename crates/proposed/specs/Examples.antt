-- Proposals for three samples, 0.5, 1 and -2, at the threshold 1, computed. The first is under the threshold, the second just at it, and the
-- third at or below -1.
use Rattle.std.specs.Prelude.{◌≡◌, refl, List, [], ◌∷◌, ℕ, replicate}
use Rattle.leaves.specs.Arithmetic.{one}
use Rattle.recording.specs.Recording.{State, Ended, state, ended, refused}
use Rattle.recording.specs.Marks.{measured}
use Rattle.recording.specs.Counts.{counted}
use Rattle.recording.specs.History.{fresh}
use Rattle.recording.specs.declared.Reason.TheVariants.{Room, Proposal}
use Rattle.std.specs.Prelude.{Ok}
use Rattle.proposed.specs.Proposed.{proposed_repair}
use Rattle.proposed.specs.Gamma.{projected}

-- 0.5, 1 and -2, freshly opened, with a journal of so many words: an entry of two samples takes 8
unfoldable pub three : ℕ → State
three room = fresh (0x3f000000 ∷ 0x3f800000 ∷ 0xc0000000 ∷ []) (replicate 3 measured) room

-- this proposal for them, at the threshold 1
unfoldable pub proposing : ℕ → List ℕ → Ended
unfolding three proposed_repair
proposing room proposal = proposed_repair one proposal (three room)

-- 0.5, 1.5 and -2: accepted, and both samples at or beyond the threshold are named, the one that keeps its word too
pub accepted : proposing 8 (0x3f000000 ∷ 0x3fc00000 ∷ 0xc0000000 ∷ [])
    ≡ ended (Ok 2)
    (state (0x3f000000 ∷ 0x3fc00000 ∷ 0xc0000000 ∷ []) (0 ∷ 8 ∷ 8 ∷ []) (2 ∷ []) (1 ∷ 0x3f800000 ∷ 0 ∷ 2 ∷ 0xc0000000 ∷ 0 ∷ 2 ∷ 8 ∷ []) 8)
unfolding proposing counted
accepted = refl

-- the same with a journal of 7 words: 9
pub no_room : proposing 7 (0x3f000000 ∷ 0x3fc00000 ∷ 0xc0000000 ∷ []) ≡ refused (three 7) Room
unfolding proposing three counted
no_room = refl

-- the sample under the threshold with its sign changed, 1 answered by the float below it, and -2 by 2: 15 with the lowest place, before 9
pub all_wrong : proposing 7 (0xbf000000 ∷ 0x3f7fffff ∷ 0x40000000 ∷ []) ≡ refused (three 7) (Proposal 0)
unfolding proposing three counted
all_wrong = refl

pub below_threshold : proposing 8 (0x3f000000 ∷ 0x3f7fffff ∷ 0x40000000 ∷ []) ≡ refused (three 8) (Proposal 1)
unfolding proposing three counted
below_threshold = refl

pub wrong_side : proposing 8 (0x3f000000 ∷ 0x3f800000 ∷ 0x40000000 ∷ []) ≡ refused (three 8) (Proposal 2)
unfolding proposing three counted
wrong_side = refl

-- -2 answered by the float below -65,536: out of range
pub out_of_range : proposing 8 (0x3f000000 ∷ 0x3f800000 ∷ 0xc7800001 ∷ []) ≡ refused (three 8) (Proposal 2)
unfolding proposing three counted
out_of_range = refl

-- a proposal of another length: place 0
pub too_short : proposing 8 (0x3f000000 ∷ 0x3f800000 ∷ []) ≡ refused (three 8) (Proposal 0)
unfolding proposing three counted
too_short = refl

-- what `project_gamma` makes of the candidates 3, a NaN and -1.5: the sample itself, the threshold, and min(-1.5, -1)
pub gamma : projected one (0x40400000 ∷ 0x7fc00000 ∷ 0xbfc00000 ∷ []) (0x3f000000 ∷ 0x3f800000 ∷ 0xc0000000 ∷ [])
    ≡ 0x3f000000 ∷ 0x3f800000 ∷ 0xbfc00000 ∷ []
unfolding projected
gamma = refl
