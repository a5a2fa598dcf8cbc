-- What the inner functions of this crate speak of: nothing that a published promise of a repair, of opening or of undo needs.
-- Definitions only.
use Rattle.std.specs.Prelude.{ℕ, zero, suc, ◌+◌, ◌*◌, ◌≤◌, ◌≡◌, Bool, false, not, ◌||◌, List, [], ◌∷◌, map, length, get_or, take, drop, leb, ltb, eqb}
use Rattle.std.proofs.lemmas.List.Edits.{sets}
use Rattle.std.specs.Prelude.{if◌then◌else◌}
use Rattle.recording.specs.Recording.{State, state, Placed, Saved, most_samples, picked, saved_at, place_past, mark_past, malformed, last_count}
use Rattle.recording.specs.declared.Reason.TheVariants.{Nothing, Malformed}
use Rattle.recording.specs.Counts.{blocks}
use Rattle.recording.specs.Answer.{Answer}
use Rattle.std.specs.Prelude.{Ok, Err}

-- refusals 1, 14, 2 and 3 do not apply
pub record Fits (s : State) : Type 0 where
  pub marked : length s.marks ≡ length s.samples
  pub counted : length s.counts ≡ blocks (length s.samples)
  pub few : length s.samples ≤ most_samples
  pub within : s.used ≤ length s.journal

-- the consecutive places of a span
unfoldable pub consecutive : ℕ → ℕ → List ℕ
consecutive i zero = []
consecutive i (suc n) = i ∷ consecutive (i + 1) n

-- a recording in which a span was entered, once the words are in place, which they are where the call was accepted
abbrev pub filled : Answer → ℕ → List ℕ → State → State
filled (Ok m) start words s = state (sets s.samples start words) s.marks s.counts s.journal s.used
filled (Err why) start words s = s

-- The workspace of a repair over the whole recording, of n samples: n new words, then n words of which each that is not 0
-- names the sample of its place.
abbrev pub flags : List ℕ → List Bool
flags = map (λ w. not (eqb w 0))

unfoldable pub picked_by : List ℕ → ℕ → List Placed
unfolding picked
picked_by work n = picked 0 (flags (take n (drop n work))) (take n work)

-- the same, place by place: those among the `left` places from i on
unfoldable pub picked_from : List ℕ → ℕ → ℕ → ℕ → List Placed
picked_from work n i zero = []
picked_from work n i (suc left) =
    let later = picked_from work n (i + 1) left in
    if eqb (get_or work (n + i) 0) 0 then later else record { place = i; value = get_or work i 0 } ∷ later

-- the tests of saved samples in one pass: a place below `least`, which is one more than the place before, or not below n, or a
-- mark above 255
unfoldable pub any_wrong : ℕ → ℕ → List Saved → Bool
any_wrong n least [] = false
any_wrong n least (t ∷ ts) = ltb t.place least || leb n t.place || ltb 255 t.mark || any_wrong n (t.place + 1) ts

-- the refusal among 10 and 11, or else an acceptance with the number of samples that the last entry saved
unfoldable pub last_entry : State → Answer
unfolding malformed
last_entry s =
    if eqb s.used 0 then Err Nothing else
    if malformed (length s.samples) s.journal s.used then Err Malformed else
    Ok (last_count s.journal s.used)

-- m saved samples from journal word `begin` on can be given back: they are there, and their places and marks are such
pub record Restorable (samples marks journal : List ℕ) (begin m : ℕ) : Type 0 where
  pub counts : length marks ≡ length samples
  pub there : begin + 3 * m ≤ length journal
  pub places : place_past (length samples) (saved_at journal begin m) ≡ false
  pub bytes : mark_past (saved_at journal begin m) ≡ false

-- m saved samples from journal word `begin` on can be recounted: they are there, their places are such, and there is a count for each block
pub record Recountable (marks counts journal : List ℕ) (begin m : ℕ) : Type 0 where
  pub counted : length counts ≡ blocks (length marks)
  pub there : begin + 3 * m ≤ length journal
  pub places : place_past (length marks) (saved_at journal begin m) ≡ false
