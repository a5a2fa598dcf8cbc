-- What an inner function of this crate speaks of: nothing that a promise of a call needs. Definitions only.
use Rattle.std.specs.Prelude.{ℕ, Bool, false, List, ltb, eqb, Float}
use Rattle.std.proofs.lemmas.List.Edits.{sets}
use Rattle.std.specs.Prelude.{if◌then◌else◌}
use Rattle.recording.specs.Answers.{number}
use Rattle.recording.specs.Answer.{Answer}
use Rattle.decrackle.specs.Decrackle.{flagged, least_samples}
use Rattle.crackle.specs.declared.Detector.{Detector}
use Rattle.crackle.specs.Pieces.{Holding, with_sample}
use Rattle.crackle.specs.Kept.{head_of}

-- whether a place with the detector's magnitude a is flagged against this floor
unfoldable pub flag_against : Detector → Float → Float → Bool
unfolding flagged
flag_against d floor a = if ltb d.total least_samples then false else flagged d.factor floor a

-- the floor that the next sample leaves
unfoldable pub floor_behind : Holding → Float → Float
unfolding with_sample
floor_behind h next = (with_sample h next).detector.floor

-- the words with the detector behind a call in the first of them; after 6 they stay as they were
abbrev pub head_after : Answer → Detector → List ℕ → List ℕ
head_after a d words = if eqb (number a) 6 then words else sets words 0 (head_of d)
