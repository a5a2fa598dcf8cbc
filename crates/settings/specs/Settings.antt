-- Settings kept on the recorder: request P11 of document 02, whose sentences the comments quote. The contents table is that of the crate
-- `contents`. Definitions only.
use Rattle.std.specs.Prelude.{ℕ, ◌+◌, ◌*◌, Bool, true, not, ◌&&◌, List, [], ◌∷◌, ◌++◌, map, length, get_or, ltb, eqb}
use Rattle.std.proofs.lemmas.List.Edits.{sets}
use Rattle.std.specs.Float.{binary32}
use Rattle.std.specs.Float.Ieee.{to_bits}
use Rattle.leaves.specs.Arithmetic.{float}
use Rattle.std.specs.Prelude.{if◌then◌else◌}
use Rattle.wire.specs.Wire.{word_at, decoded, bytes_of}
use Rattle.contents.specs.Contents.{table_bytes, filed, lengths_in, lengths_from, laid_out}
use Rattle.recording.specs.declared.Reason.{Reason}
use Rattle.recording.specs.declared.Reason.TheVariants.{Workspace, Version, Stored}
use Rattle.recording.specs.Answer.{Answer}
use Rattle.std.specs.Prelude.{Result, Ok, Err}
use Rattle.inpaint.specs.Auto as scan
use Rattle.declip.specs.Declip as declip
use Rattle.decrackle.specs.Decrackle as decrackle
use Rattle.dequant.specs.Dequant as dequant
use Rattle.settings.specs.declared.SettingsV1.{SettingsV1}
use Rattle.settings.specs.declared.Settings.{Settings}

-- ---- The settings

-- "Version 1 has those six; version 2 adds P1's run length"
abbrev pub parts_v1 : ℕ
parts_v1 = 6

abbrev pub parts : ℕ
parts = 7

-- "Threshold, sensitivity, strength, bits, longest gap and rate", "each setting one 32-bit word": a float by its pattern
unfoldable pub words_v1 : SettingsV1 → List ℕ
unfolding to_bits
words_v1 s =
    to_bits binary32 s.threshold
    ∷ to_bits binary32 s.sensitivity
    ∷ to_bits binary32 s.strength
    ∷ s.bits
    ∷ to_bits binary32 s.longest
    ∷ s.rate
    ∷ []

-- and the run length behind them
unfoldable pub words : Settings → List ℕ
unfolding words_v1
words s = words_v1 s.first ++ (s.held ∷ [])

-- the settings that words stand for
unfoldable pub settings_v1 : List ℕ → SettingsV1
unfolding float
settings_v1 ws =
    record {
      threshold = float (get_or ws 0 0);
      sensitivity = float (get_or ws 1 0);
      strength = float (get_or ws 2 0);
      bits = get_or ws 3 0;
      longest = float (get_or ws 4 0);
      rate = get_or ws 5 0;
    }

unfoldable pub settings : List ℕ → Settings
unfolding settings_v1
settings ws = record { first = settings_v1 ws; held = get_or ws 6 0 }

-- "a setting not allowed under document 01 or here": each as the repair that takes it has it, and any bits
unfoldable pub allowed_v1 : SettingsV1 → Bool
allowed_v1 s =
    declip.allowed s.threshold
    && decrackle.allowed s.sensitivity
    && dequant.allowed s.strength
    && scan.allowed s.rate s.longest

unfoldable pub allowed : Settings → Bool
unfolding allowed_v1
allowed s = allowed_v1 s.first && scan.held_allowed s.held

-- ---- The block

-- "led by a version number", of 32 bits
abbrev pub version_bytes : ℕ
version_bytes = 4

-- "a contents table as in P10, led by a version number, each setting one 32-bit word, parts numbered from 1 in that order"
unfoldable pub block_of : ℕ → List ℕ → List ℕ
unfolding bytes_of filed
block_of version ws = bytes_of version ++ filed version_bytes (map bytes_of ws)

-- how many bytes it has, of n settings: 104 of version 1, and 120 of version 2
abbrev pub block_bytes : ℕ → ℕ
block_bytes n = version_bytes + table_bytes n + 4 * n

-- each body is one word
unfoldable pub one_word_each : List ℕ → Bool
one_word_each [] = true
one_word_each (len ∷ lens) = eqb len 4 && one_word_each lens

-- a block of n settings is not "malformed"
unfoldable pub formed : ℕ → List ℕ → Bool
unfolding laid_out lengths_from one_word_each
formed n block = laid_out version_bytes n block && one_word_each (lengths_in version_bytes n block)

-- the words of its settings
abbrev pub words_in : ℕ → List ℕ → List ℕ
words_in n block = decoded block (version_bytes + table_bytes n) n

-- ---- Reading: "17, unknown version; 18, malformed, a missing version included, or a setting not allowed .., in that order"

-- what a block of n settings keeps: the settings that its words stand for, where they are allowed
abbrev pub kept_in : {S : Type 0} → ℕ → (List ℕ → S) → (S → Bool) → List ℕ → Result S Reason
kept_in n of rule block =
    if not (formed n block) then Err Stored else
    if not (rule (of (words_in n block))) then Err Stored else
    Ok (of (words_in n block))

-- a block of version 1
unfoldable pub of_first : List ℕ → Result SettingsV1 Reason
unfolding formed settings_v1 decoded allowed_v1
of_first block = kept_in parts_v1 settings_v1 allowed_v1 block

-- a block of version 2
unfoldable pub of_second : List ℕ → Result Settings Reason
unfolding formed settings decoded allowed
of_second block = kept_in parts settings allowed block

-- what a reader gives of a block that has a version, and of any other
abbrev pub with_version : {S : Type 0} → List ℕ → Result S Reason → Result S Reason
with_version block rest = if ltb (length block) version_bytes then Err Stored else rest

-- "A version 1 reader turns a version 2 block away as such and shows none of it." Where there is no version, there is none that could be
-- unknown.
unfoldable pub read_v1 : List ℕ → Result SettingsV1 Reason
unfolding word_at of_first
read_v1 block =
    with_version block (
    if eqb (word_at block 0) 1 then of_first block else
    Err Version)

-- "The new reader gives a version 1 block the run length 16."
abbrev pub with_held_run : Result SettingsV1 Reason → Result Settings Reason
with_held_run (Ok s) = Ok (record { first = s; held = scan.held_run })
with_held_run (Err why) = Err why

-- it knows both versions
unfoldable pub read : List ℕ → Result Settings Reason
unfolding word_at of_first of_second
read block =
    with_version block (
    if eqb (word_at block 0) 1 then with_held_run (of_first block) else
    if eqb (word_at block 0) 2 then of_second block else
    Err Version)

-- ---- Writing, with room for a block; and settings as words, as the interface has them: "Where a reader's area for settings, a writer's
-- settings or its room for the block is too short: 6, before all else; longer ones are used as far as needed."

-- how a call ends: its answer, which has how many bytes or words were written, and the memory that was lent to be written
pub record Left : Type 0 where
  pub answer : Answer
  pub lent : List ℕ

abbrev pub left : Answer → List ℕ → Left
left a l = record { answer = a; lent = l }

-- a block of this version with these words in the room, where the settings are allowed
abbrev pub stored : ℕ → List ℕ → Bool → List ℕ → Left
stored version ws good room =
    if ltb (length room) (block_bytes (length ws)) then left (Err Workspace) room else
    if not good then left (Err Stored) room else
    left (Ok (block_bytes (length ws))) (sets room 0 (block_of version ws))

unfoldable pub write_v1 : SettingsV1 → List ℕ → Left
unfolding words_v1 allowed_v1 block_of
write_v1 s room = stored 1 (words_v1 s) (allowed_v1 s) room

unfoldable pub write : Settings → List ℕ → Left
unfolding words allowed block_of
write s room = stored 2 (words s) (allowed s) room

-- a reader's area, for what it gives, n settings that are these words
abbrev pub laid_in : {S : Type 0} → ℕ → (S → List ℕ) → Result S Reason → List ℕ → Left
laid_in n words_are (Ok s) area = left (Ok n) (sets area 0 (words_are s))
laid_in n words_are (Err why) area = left (Err why) area

abbrev pub read_into : {S : Type 0} → ℕ → (S → List ℕ) → Result S Reason → List ℕ → Left
read_into n words_are kept area = if ltb (length area) n then left (Err Workspace) area else laid_in n words_are kept area

unfoldable pub read_to_v1 : List ℕ → List ℕ → Left
unfolding read_v1 words_v1
read_to_v1 block area = read_into parts_v1 words_v1 (read_v1 block) area

unfoldable pub read_to : List ℕ → List ℕ → Left
unfolding read words
read_to block area = read_into parts words (read block) area

-- a writer's settings, n of them, where the writer leaves this
abbrev pub from_words : ℕ → List ℕ → List ℕ → Left → Left
from_words n ws room rest = if ltb (length ws) n then left (Err Workspace) room else rest

unfoldable pub write_from_v1 : List ℕ → List ℕ → Left
unfolding settings_v1 write_v1
write_from_v1 ws room = from_words parts_v1 ws room (write_v1 (settings_v1 ws) room)

unfoldable pub write_from : List ℕ → List ℕ → Left
unfolding settings write
write_from ws room = from_words parts ws room (write (settings ws) room)
