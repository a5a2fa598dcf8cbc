-- What follows from the rules of WAV in and out, of every input. Statements only, each proved under the same name, written small, in
-- Values.antt, Walk.antt or BothWays.antt of proofs/, which nobody has to read.
use Rattle.std.specs.Prelude.{◌≡◌, ℕ, ◌*◌, ◌<◌, ◌≤◌, Bool, true, ◌⊎◌, List, map, length, take, replicate}
use Rattle.std.proofs.lemmas.List.Edits.{sets}
use Rattle.std.specs.Float.Ieee.Exact.{HasValue}
use Rattle.leaves.specs.Arithmetic.{float, ◌*₃₂◌}
use Rattle.leaves.specs.Floats.{in_range}
use Rattle.wire.specs.Wire.{Below, bytes_to, halves_to, words_to}
use Rattle.recording.specs.Answers.{number}
use Rattle.recording.specs.Recording.{most_samples}
use Rattle.recording.specs.Marks.{measured}
use Rattle.recording.specs.declared.Reason.{Reason}
use Rattle.std.specs.Prelude.{Ok, Err}
use Rattle.riff.specs.Values.{all_values, below_zero, size_of, sample_word, scale, value_of}
use Rattle.riff.specs.Chunks.{beginnings, ending, chunks_from, end_from}
use Rattle.riff.specs.Wav.{format_at, data_at, rate_at, values_at, heard, unheard, wav_read, wav_of, wav_bytes, written, wav_written}

-- ---- Values

-- "sample v becomes exactly v/32768", of every value: the sample's float has the value's sign, and its size over 32,768
abbrev pub ExactlyThat : Type 0
ExactlyThat = (v : ℕ) → v < all_values → HasValue (float (sample_word v)) (below_zero v) (size_of v) 32768

-- so it is in range
abbrev pub ValuesAreInRange : Type 0
ValuesAreInRange = (v : ℕ) → v < all_values → in_range (sample_word v) ≡ true

-- "sample times 32768" loses nothing, of every sample in range: where the sample is a / c, its product is a * 32768 / c
abbrev pub ProductIsExact : Type 0
ProductIsExact =
    (w : ℕ) (s : Bool) (a c : ℕ) → in_range w ≡ true → HasValue (float w) s a c → HasValue (float w *₃₂ scale) s (a * 32768) c

-- every value of 16 bits comes back as itself
abbrev pub EveryValueBack : Type 0
EveryValueBack = (v : ℕ) → v < all_values → value_of (sample_word v) ≡ v

-- what is written has 16 bits
abbrev pub SixteenBits : Type 0
SixteenBits = (w : ℕ) → in_range w ≡ true → value_of w < all_values

-- ---- Chunks

-- the walk over chunks ends: as many turns as the file has bytes are enough, and more find no more
abbrev pub WalkEnds : Type 0
WalkEnds =
    (n i : ℕ) (file : List ℕ) → length file ≤ n
    → (beginnings n file i ≡ chunks_from file i) × (ending n file i ≡ end_from file i)

-- ---- Refusals

-- the reader answers with the number of samples, or is turned away by 19, 20, 2 or 21; the writer by 2, 7 or 21
abbrev pub OnlyTheseRefusals : Type 0
OnlyTheseRefusals =
    ((file samples marks : List ℕ)
    → let k = number (wav_read file samples marks).answer in (k ≡ 0) ⊎ (k ≡ 19) ⊎ (k ≡ 20) ⊎ (k ≡ 2) ⊎ (k ≡ 21))
    × ((samples : List ℕ) (rate : ℕ) (out : List ℕ)
    → let k = number (wav_written samples rate out).answer in (k ≡ 0) ⊎ (k ≡ 2) ⊎ (k ≡ 7) ⊎ (k ≡ 21))

-- "The output is then unwritten.", and no rate is told
abbrev pub RefusalWritesNothing : Type 0
RefusalWritesNothing =
    ((file samples marks : List ℕ) (why : Reason) → (wav_read file samples marks).answer ≡ Err why
    → wav_read file samples marks ≡ unheard why samples marks)
    × ((samples : List ℕ) (rate : ℕ) (out : List ℕ) (why : Reason) → (wav_written samples rate out).answer ≡ Err why
    → wav_written samples rate out ≡ written (Err why) out)

-- ---- Both ways

-- the file of any values, read into rooms that suffice, gives the samples that they stand for, and the rate
abbrev pub FileIsRead : Type 0
FileIsRead =
    (rate : ℕ) (values samples marks : List ℕ) → rate < words_to → Below halves_to values → length values ≤ most_samples
    → length values ≤ length samples → length values ≤ length marks
    → wav_read (wav_of rate values) samples marks
    ≡ heard (Ok (length values)) rate (sets samples 0 (map sample_word values)) (sets marks 0 (replicate (length values) measured))

-- reading what was written gives the samples that the written values stand for, and the rate
abbrev pub WrittenIsRead : Type 0
WrittenIsRead =
    (rate m : ℕ) (words out samples marks : List ℕ) → rate < words_to → (wav_written words rate out).answer ≡ Ok m
    → length words ≤ length samples → length words ≤ length marks
    → wav_read (take m (wav_written words rate out).out) samples marks
    ≡ heard (Ok (length words)) rate (sets samples 0 (map sample_word (map value_of words)))
    (sets marks 0 (replicate (length words) measured))

-- "Reading then writing gives the same sample values": what was read of a file, written at the rate that was read, is the file of the same
-- values and rate, where there is room for it
abbrev pub ReadIsWritten : Type 0
ReadIsWritten =
    (file samples marks out : List ℕ) (n : ℕ) → Below bytes_to file → (wav_read file samples marks).answer ≡ Ok n → wav_bytes n ≤ length out
    → let read = wav_read file samples marks in
    wav_written (take n read.samples) read.rate out
    ≡ written (Ok (wav_bytes n)) (sets out 0 (wav_of (rate_at file (format_at file)) (values_at file (data_at file))))
