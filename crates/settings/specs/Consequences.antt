-- What follows from the rules of the readers and the writers: reading what was written gives the settings back, writing what was read gives the
-- same bytes, and what the two readers make of a block of either version. Statements only, each proved under the same name, written small,
-- in Consequences.antt, Patterns.antt or BothWays.antt of proofs/, which nobody has to read.
use Rattle.std.specs.Prelude.{ℕ, ◌≤◌, ◌<◌, ◌≡◌, true, List, ◌⊎◌, length, take}
use Rattle.std.proofs.lemmas.List.Edits.{sets}
use Rattle.std.specs.Float.{binary32}
use Rattle.std.specs.Float.Ieee.{fits}
use Rattle.wire.specs.Wire.{word_at, Below, bytes_to, words_to}
use Rattle.recording.specs.declared.Reason.TheVariants.{Version}
use Rattle.std.specs.Prelude.{Ok, Err}
use Rattle.settings.specs.declared.SettingsV1.{SettingsV1}
use Rattle.settings.specs.declared.Settings.{Settings}
use Rattle.settings.specs.Settings.{parts_v1, parts, words_v1, words, settings_v1, settings, allowed_v1, allowed, version_bytes, block_of, block_bytes}
use Rattle.settings.specs.Settings.{read_v1, with_held_run, read, left, read_to_v1, read_to, write_from_v1, write_from}

-- ---- What a variable of the program can hold: floats of 32 bits and words

pub record HoldsV1 (s : SettingsV1) : Type 0 where
  pub threshold : fits binary32 s.threshold ≡ true
  pub sensitivity : fits binary32 s.sensitivity ≡ true
  pub strength : fits binary32 s.strength ≡ true
  pub bits : s.bits < words_to
  pub longest : fits binary32 s.longest ≡ true
  pub rate : s.rate < words_to

pub record Holds (s : Settings) : Type 0 where
  pub first : HoldsV1 s.first
  pub held : s.held < words_to

-- ---- Both ways

-- a block has 104 bytes, or 120
abbrev pub BlocksAreAsLong : Type 0
BlocksAreAsLong =
    ((version : ℕ) (s : SettingsV1) → length (block_of version (words_v1 s)) ≡ 104)
    × ((version : ℕ) (s : Settings) → length (block_of version (words s)) ≡ 120)

-- reading what was written gives the settings back, of version 1 and of version 2
abbrev pub WrittenIsReadV1 : Type 0
WrittenIsReadV1 = (s : SettingsV1) → HoldsV1 s → allowed_v1 s ≡ true → read_v1 (block_of 1 (words_v1 s)) ≡ Ok s

abbrev pub WrittenIsRead : Type 0
WrittenIsRead = (s : Settings) → Holds s → allowed s ≡ true → read (block_of 2 (words s)) ≡ Ok s

-- an accepted block, written again in its version, gives the same bytes
abbrev pub ReadIsWrittenV1 : Type 0
ReadIsWrittenV1 = (block : List ℕ) (s : SettingsV1) → Below bytes_to block → read_v1 block ≡ Ok s → block_of 1 (words_v1 s) ≡ block

abbrev pub ReadIsWritten : Type 0
ReadIsWritten =
    (block : List ℕ) (s : Settings) → Below bytes_to block → read block ≡ Ok s
    → (word_at block 0 ≡ 1 → block_of 1 (words_v1 s.first) ≡ block)
    × (word_at block 0 ≡ 2 → block_of 2 (words s) ≡ block)

-- what is accepted is of version 1 or 2, and its settings are allowed
abbrev pub AcceptedAreAllowed : Type 0
AcceptedAreAllowed =
    (block : List ℕ) (s : Settings) → read block ≡ Ok s → ((word_at block 0 ≡ 1) ⊎ (word_at block 0 ≡ 2)) × (allowed s ≡ true)

-- so "there is just one block for each version and list of settings"
abbrev pub JustOneBlock : Type 0
JustOneBlock =
    (block other : List ℕ) (s : Settings) → Below bytes_to block → Below bytes_to other → read block ≡ Ok s → read other ≡ Ok s
    → word_at block 0 ≡ word_at other 0 → block ≡ other

-- the words of an interface come back as they were given, where the settings are allowed: none of them is a NaN
abbrev pub WordsAreKept : Type 0
WordsAreKept =
    ((ws : List ℕ) → length ws ≡ parts_v1 → Below words_to ws → allowed_v1 (settings_v1 ws) ≡ true → words_v1 (settings_v1 ws) ≡ ws)
    × ((ws : List ℕ) → length ws ≡ parts → Below words_to ws → allowed (settings ws) ≡ true → words (settings ws) ≡ ws)

-- ---- The two readers

-- what the new reader makes of a block of version 1 is what the version 1 reader makes, with 16 beside it
abbrev pub FirstWithHeldRun : Type 0
FirstWithHeldRun = (block : List ℕ) → word_at block 0 ≡ 1 → read block ≡ with_held_run (read_v1 block)

-- the version 1 reader accepts no block of another version
abbrev pub FirstAlone : Type 0
FirstAlone =
    (block : List ℕ) → version_bytes ≤ length block → (word_at block 0 ≡ 1 → ⊥) → read_v1 block ≡ Err Version

-- ---- Of the calls that take and give words

-- what a writer left in its room, read into any area that has a place for each setting, gives the words that were written
abbrev pub CallsReadBack : Type 0
CallsReadBack =
    ((ws room area : List ℕ) (m : ℕ) → length ws ≡ parts_v1 → Below words_to ws → parts_v1 ≤ length area
    → (write_from_v1 ws room).answer ≡ Ok m
    → read_to_v1 (take m (write_from_v1 ws room).lent) area ≡ left (Ok parts_v1) (sets area 0 ws))
    × ((ws room area : List ℕ) (m : ℕ) → length ws ≡ parts → Below words_to ws → parts ≤ length area
    → (write_from ws room).answer ≡ Ok m
    → read_to (take m (write_from ws room).lent) area ≡ left (Ok parts) (sets area 0 ws))

-- what a reader left in its area of a block of its version, written into any room that is large enough, gives the block
abbrev pub CallsWriteBack : Type 0
CallsWriteBack =
    ((block area room : List ℕ) (m : ℕ) → Below bytes_to block → length area ≡ parts_v1 → block_bytes parts_v1 ≤ length room
    → (read_to_v1 block area).answer ≡ Ok m
    → write_from_v1 (read_to_v1 block area).lent room ≡ left (Ok (block_bytes parts_v1)) (sets room 0 block))
    × ((block area room : List ℕ) (m : ℕ) → Below bytes_to block → length area ≡ parts → block_bytes parts ≤ length room
    → word_at block 0 ≡ 2 → (read_to block area).answer ≡ Ok m
    → write_from (read_to block area).lent room ≡ left (Ok (block_bytes parts)) (sets room 0 block))
