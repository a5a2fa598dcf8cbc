-- WAV in and out: request P12 of document 02, whose sentences the comments quote. Definitions only.
use Rattle.std.specs.Prelude.{ℕ, ◌+◌, ◌*◌, ◌/◌, ◌%◌, Bool, not, ◌&&◌, ◌||◌, List, [], ◌∷◌, ◌++◌, map, length, replicate, ◌==◌, nat_lt}
use Rattle.std.proofs.lemmas.List.Edits.{sets}
use Rattle.std.specs.Prelude.{if◌then◌else◌}
use Rattle.wire.specs.Wire.{half_at, word_at, halves, encoded, encoded_halves, words_to}
use Rattle.recording.specs.Recording.{most_samples, readable}
use Rattle.recording.specs.Marks.{measured}
use Rattle.recording.specs.declared.Reason.{Reason}
use Rattle.recording.specs.declared.Reason.TheVariants.{TooMany, Wave, Coding, Output}
use Rattle.recording.specs.Answer.{Answer}
use Rattle.std.specs.Prelude.{Result, Ok, Err}
use Rattle.riff.specs.declared.WavRead.{WavRead}
use Rattle.riff.specs.Values.{sample_word, value_of}
use Rattle.riff.specs.Chunks.{riff_name, wave_name, fmt_name, data_name, head_bytes, size_at, named, beginnings, ending, chunks_from, end_from, first_of}

-- ---- Reading: "Read mono 16-bit PCM as the RIFF WAVE document lays it out, skipping chunks it doesn't know"

-- the bytes before the first chunk: `RIFF`, a size and `WAVE`
abbrev pub first_chunk : ℕ
first_chunk = 12

-- "a whole RIFF WAVE file": its length is 8 plus the RIFF size, and the chunks fill it exactly. (A file of fewer bytes than stand before
-- the first chunk is none: its chunks would end behind it.)
unfoldable pub whole : List ℕ → Bool
unfolding word_at ending
whole file =
    (word_at file 0 == riff_name)
    && length file == 8 + word_at file 4
    && word_at file 8 == wave_name
    && end_from file first_chunk == length file

-- where the first chunk of this name with at least so many bytes begins, and the file's end where there is none
unfoldable pub first_named : ℕ → ℕ → List ℕ → ℕ
unfolding beginnings word_at first_of
first_named name fewest file = first_of (named file name fewest) (length file) (chunks_from file first_chunk)

-- a fmt chunk has 16 bytes at least: one of fewer "is none"
abbrev pub fmt_bytes : ℕ
fmt_bytes = 16

abbrev pub format_at : List ℕ → ℕ
format_at file = first_named fmt_name fmt_bytes file

-- a data chunk may have any number
abbrev pub data_at : List ℕ → ℕ
data_at file = first_named data_name 0 file

-- "fmt before data": the first data chunk stands behind the first fmt chunk, and there is one
abbrev pub fmt_before_data : List ℕ → Bool
fmt_before_data file = nat_lt (format_at file) (data_at file) && nat_lt (data_at file) (length file)

-- the opposite of 19: "a whole RIFF WAVE file with fmt before data and an even data length"
unfoldable pub is_wave : List ℕ → Bool
unfolding whole first_named word_at
is_wave file = whole file && fmt_before_data file && size_at file (data_at file) % 2 == 0

-- what the body of the fmt chunk that begins at byte i says: format tag, channels and rate; bytes a second and block align, which have no
-- say, stand between these and the bits of a sample
abbrev pub tag_at : List ℕ → ℕ → ℕ
tag_at file i = half_at file (i + head_bytes)

abbrev pub channels_at : List ℕ → ℕ → ℕ
channels_at file i = half_at file (i + head_bytes + 2)

abbrev pub rate_at : List ℕ → ℕ → ℕ
rate_at file i = word_at file (i + head_bytes + 4)

abbrev pub bits_at : List ℕ → ℕ → ℕ
bits_at file i = half_at file (i + head_bytes + 14)

-- the format tag of PCM
abbrev pub pcm : ℕ
pcm = 1

-- the opposite of 20: "mono 16-bit PCM"
unfoldable pub mono_pcm : List ℕ → ℕ → Bool
unfolding half_at
mono_pcm file i = tag_at file i == pcm && channels_at file i == 1 && bits_at file i == 16

-- the values of the data chunk that begins at byte i: two bytes each
abbrev pub values_at : List ℕ → ℕ → List ℕ
values_at file i = halves file (i + head_bytes) (size_at file i / 2)

-- how the reading ends: with its answer, which has the number of samples; with the file's rate; and with the two rooms
pub record Heard : Type 0 where
  pub answer : Answer
  pub rate : ℕ
  pub samples : List ℕ
  pub marks : List ℕ

abbrev pub heard : Answer → ℕ → List ℕ → List ℕ → Heard
heard a rate samples marks = record { answer = a; rate = rate; samples = samples; marks = marks }

-- the answer that the reader gives, and the rate, which is 0 where it refuses
abbrev pub answer_of : Result WavRead Reason → Answer
answer_of (Ok r) = Ok r.samples
answer_of (Err why) = Err why

abbrev pub rate_of : Result WavRead Reason → ℕ
rate_of (Ok r) = r.rate
rate_of (Err why) = 0

-- "The output is then unwritten."
abbrev pub unheard : Reason → List ℕ → List ℕ → Heard
unheard why samples marks = heard (Err why) 0 samples marks

-- "19, ..; 20, not mono 16-bit PCM; 21, output room short; in that order. Reading more than 1,048,576 samples gives 2, after 20"; or else
-- the samples stand in the first places of their room, and "The fresh recording has marks 0"
unfoldable pub wav_read : List ℕ → List ℕ → List ℕ → Heard
unfolding is_wave first_named mono_pcm halves half_at word_at sample_word
wav_read file samples marks =
    if not (is_wave file) then unheard Wave samples marks else
    if not (mono_pcm file (format_at file)) then unheard Coding samples marks else
    let values = values_at file (data_at file) in
    let n = length values in
    if nat_lt most_samples n then unheard TooMany samples marks else
    if nat_lt (length samples) n || nat_lt (length marks) n then unheard Output samples marks else
    heard (Ok n) (rate_at file (format_at file)) (sets samples 0 (map sample_word values)) (sets marks 0 (replicate n measured))

-- ---- Writing: "Write the same kind back at the rate that was read, a 16-byte fmt chunk and then data"

-- two numbers of 16 bits that stand one behind the other, as a word
abbrev pub both : ℕ → ℕ → ℕ
both first second = first + 65536 * second

-- what stands before n samples, as words: `RIFF` and how many bytes follow; `WAVE`; a fmt chunk of 16 bytes: PCM, one channel, the rate, the
-- bytes of a second (two for each sample, in 32 bits), two bytes for each sample, of 16 bits; and the head of the data chunk
abbrev pub head : ℕ → ℕ → List ℕ
head rate n =
    riff_name
    ∷ (36 + 2 * n)
    ∷ wave_name
    ∷ fmt_name
    ∷ fmt_bytes
    ∷ both pcm 1
    ∷ rate
    ∷ ((rate + rate) % words_to)
    ∷ both 2 16
    ∷ data_name
    ∷ (2 * n)
    ∷ []

-- the file of these values
unfoldable pub wav_of : ℕ → List ℕ → List ℕ
unfolding encoded encoded_halves
wav_of rate values = encoded (head rate (length values)) ++ encoded_halves values

-- its bytes, of n samples
abbrev pub wav_bytes : ℕ → ℕ
wav_bytes n = 44 + 2 * n

-- how the writing ends: its answer, which has how many bytes were written, and the room for them
pub record Written : Type 0 where
  pub answer : Answer
  pub out : List ℕ

abbrev pub written : Answer → List ℕ → Written
written a out = record { answer = a; out = out }

-- the file, where there is room for it: "21, output room short"
abbrev pub laid_down : List ℕ → ℕ → List ℕ → Written
laid_down samples rate out =
    if nat_lt (length out) (wav_bytes (length samples)) then written (Err Output) out else
    written (Ok (wav_bytes (length samples))) (sets out 0 (wav_of rate (map value_of samples)))

-- 2 for too many samples; "writing a sample out of range gives 7 with the lowest place, before 21"
unfoldable pub wav_written : List ℕ → ℕ → List ℕ → Written
unfolding readable wav_of value_of
wav_written samples rate out =
    if nat_lt most_samples (length samples) then written (Err TooMany) out else
    elim (readable 0 samples) [ Ok m ↦ laid_down samples rate out | Err why ↦ written (Err why) out ]
