-- What the inner functions of the three repairs speak of: nothing that a promise of a repair needs. Definitions only.
use Rattle.std.specs.Prelude.{ℕ, ◌+◌, ◌≤◌, ◌≡◌, Bool, false, not, List, length, get_or, take, drop, ltb}
use Rattle.recording.specs.Recording.{State, most_samples, fitting, or_else, readable}
use Rattle.std.specs.Prelude.{if◌then◌else◌}
use Rattle.recording.specs.Inner.{flags}
use Rattle.recording.specs.declared.Reason.TheVariants.{Setting, Workspace}
use Rattle.recording.specs.Answer.{Answer}
use Rattle.std.specs.Prelude.{Ok, Err}
use Rattle.redraw.specs.Whole.{Drawn, drawn, untouched, needed}

-- refusals 1, 14 and 2 to 4, 6 and 7, in this order; or else an acceptance
unfoldable pub begun : Bool → ℕ → State → Answer
unfolding fitting readable
begun allowed room s =
    or_else (fitting s)
    (if not allowed then Err Setting else
    if ltb room (needed (length s.samples)) then Err Workspace else
    readable 0 s.samples)

-- The workspace of a repair of n samples: n words, then n words of which each that is not 0 names the sample of its place.
abbrev pub words_in : ℕ → List ℕ → List ℕ
words_in n work = take n work

abbrev pub flags_in : ℕ → List ℕ → List ℕ
flags_in n work = take n (drop n work)

-- in the place of the flags, before these are written: the words as they stood, for a pass that reads what it overwrites
abbrev pub snapshot_in : ℕ → List ℕ → List ℕ
snapshot_in n work = take n (drop n work)

abbrev pub rest_of : ℕ → List ℕ → List ℕ
rest_of n work = drop (n + n) work

-- whether the flag of place i is set
abbrev pub flagged_at : ℕ → List ℕ → ℕ → Bool
flagged_at n work i = get_or (flags (flags_in n work)) i false

-- what it holds
abbrev pub drawn_in : ℕ → List ℕ → Drawn
drawn_in n work = drawn (words_in n work) (flags (flags_in n work))

-- a step's new workspace holds d, and beyond the 2n words it is as it was
pub record Holds (n : ℕ) (d : Drawn) (before after : List ℕ) : Type 0 where
  pub holds : drawn_in n after ≡ d
  pub keeps : rest_of n after ≡ rest_of n before

-- the word of a flag
abbrev pub flag_word : Bool → ℕ
flag_word b = if b then 1 else 0

-- how a repair's start leaves its workspace: where it was accepted the samples stand there, and none is named
abbrev pub Begun : Answer → List ℕ → List ℕ → List ℕ → Type 0
Begun (Ok m) samples before after = Holds (length samples) (untouched samples) before after
Begun (Err why) samples before after = after ≡ before

-- a workspace that suffices for n samples, which refusal 2 does not turn away
pub record Room (n : ℕ) (work : List ℕ) : Type 0 where
  pub few : n ≤ most_samples
  pub enough : needed n ≤ length work
