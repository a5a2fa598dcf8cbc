-- What the last three modules of document 01 share: "The last three modules read every sample, whatever the settings, and need a
-- workspace of their own of 2n 32-bit words." Definitions only.
use Rattle.std.specs.Prelude.{ℕ, ◌*◌, Bool, false, not, List, length, get_or, set, replicate, ltb, Float}
use Rattle.std.specs.Float.{binary32}
use Rattle.std.specs.Float.Ieee.{to_bits}
use Rattle.leaves.specs.Arithmetic.{float}
use Rattle.recording.specs.Recording.{Plan, refuse, change, picked, readable, unless_read}
use Rattle.std.specs.Prelude.{if◌then◌else◌}
use Rattle.recording.specs.declared.Reason.TheVariants.{Setting, Workspace}

-- the float of the sample at place i, and the samples with the word of the float x there
abbrev pub sample : List ℕ → ℕ → Float
sample words i = float (get_or words i 0)

abbrev pub store : List ℕ → ℕ → Float → List ℕ
store words i x = set words i (to_bits binary32 x)

-- what a repair makes of the samples: a word for each, and whether it names it
pub record Drawn : Type 0 where
  pub words : List ℕ
  pub named : List Bool

abbrev pub drawn : List ℕ → List Bool → Drawn
drawn ws bs = record { words = ws; named = bs }

-- where it names nothing
abbrev pub untouched : List ℕ → Drawn
untouched samples = drawn samples (replicate (length samples) false)

-- "a workspace of their own of 2n 32-bit words"
abbrev pub needed : ℕ → ℕ
needed n = 2 * n

-- refusals 4, 6 and 7 in this order, "whatever the settings", and else the mark and the named samples with their words. `allowed`
-- says whether the settings are, `room` how many words of workspace are lent, and `draw` is the module's own rule.
unfoldable pub whole_plan : Bool → ℕ → ℕ → (List ℕ → Drawn) → List ℕ → Plan
unfolding readable picked
whole_plan allowed room mark draw samples =
    let made = draw samples in
    if not allowed then refuse Setting else
    if ltb room (needed (length samples)) then refuse Workspace else
    unless_read (readable 0 samples) (change mark (picked 0 made.named made.words))
