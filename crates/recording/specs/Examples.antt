-- Survivors of short histories, computed: three repairs of six samples, one of which names two of them, one none and one the first.
-- An entry of two samples takes 8 words of the journal, and one of one sample 5.
use Rattle.std.specs.Prelude.{◌≡◌, refl, [], ◌∷◌, ℕ, replicate}
use Rattle.recording.specs.Recording.{State, change, span}
use Rattle.recording.specs.Marks.{measured, gap_by_model, decrackle, dequantize}
use Rattle.recording.specs.Counts.{counted}
use Rattle.recording.specs.History.{Repair, repair, undo, survivors, fresh}

-- six samples with a journal of so many words
unfoldable pub six : ℕ → State
six room = fresh (replicate 6 0) (replicate 6 measured) room

unfoldable pub gap : Repair
unfolding span
gap samples = change gap_by_model (span 2 (0x80000000 ∷ 0 ∷ []))

unfoldable pub nothing : Repair
nothing samples = change decrackle []

unfoldable pub first : Repair
unfolding span
first samples = change dequantize (span 0 (0 ∷ []))

-- one that names nothing and one that is undone do not survive, nor one that finds no room (8 words and 5 are needed)
pub gap_survives : survivors (repair gap ∷ repair nothing ∷ repair first ∷ undo ∷ []) (six 13) ≡ gap ∷ []
unfolding survivors six gap nothing first counted
gap_survives = refl

pub no_room_survives_not : survivors (repair gap ∷ repair first ∷ []) (six 12) ≡ gap ∷ []
unfolding survivors six gap first counted
no_room_survives_not = refl

pub both_survive : survivors (repair gap ∷ repair first ∷ []) (six 13) ≡ gap ∷ first ∷ []
unfolding survivors six gap first counted
both_survive = refl

pub none_survives : survivors (repair gap ∷ undo ∷ undo ∷ undo ∷ []) (six 13) ≡ []
unfolding survivors six gap counted
none_survives = refl
