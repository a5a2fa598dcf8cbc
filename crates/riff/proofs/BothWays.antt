-- Reading what was written, and writing what was read. A file of values has two chunks, fmt and data, which fill it, and its words are those
-- of its head. Assumes nothing.
use Rattle.std.proofs.Common.{◌≡◌, ℕ, zero, suc, ◌+◌, ◌*◌, ◌/◌, ◌%◌, ◌<◌, ◌≤◌, true, eqb, ltb, List, [], ◌∷◌, ◌++◌, map, length, get_or, take, replicate, sym, refl, ap, ◌∙◌, append-nil, arith, le-ltb, lt-ltb, eq-eqb, le-leb}
use lib.ListN.{length-map}
use lib.Seq.{sets}
use Rattle.leaves.proofs.Parts.{part_of_sets}
use Rattle.wire.specs.Wire.{word_at, halves, encoded, encoded_halves, Below, bytes_to, halves_to, words_to}
use Rattle.wire.proofs.Laws.{length_encoded, halves_behind, halves_back, halves_below, word_of_encoded, half_of_word, encoded_bytes, encoded_halves_bytes}
use Rattle.recording.specs.Recording.{most_samples}
use Rattle.recording.specs.Marks.{measured}
use Rattle.std.specs.Prelude.{Ok}
use Rattle.riff.specs.Values.{sample_word, value_of}
use Rattle.riff.specs.Chunks.{riff_name, wave_name, fmt_name, data_name, head_bytes, size_at, next_at, named, chunks_from, end_from, first_of}
use Rattle.riff.specs.Wav.{first_chunk, whole, first_named, fmt_bytes, format_at, data_at, is_wave, pcm, mono_pcm, rate_at, values_at, Heard, heard, wav_read}
use Rattle.riff.specs.Wav.{both, head, wav_of, wav_bytes, Written, written, wav_written}
use Rattle.riff.specs.Consequences.{OnlyTheseRefusals, RefusalWritesNothing, FileIsRead, WrittenIsRead, ReadIsWritten}
use Rattle.riff.proofs.Walk.{chunks_more, chunks_none, end_more, end_none, first_here, first_later}
use Rattle.riff.proofs.Values.{values_are_in_range, every_value_back, sixteen_bits}
use Rattle.riff.proofs.Reading.{read_only_these, read_away, read_done}
use Rattle.riff.proofs.Writing.{length_wav, AllInRange, wav_done, written_only_these, written_away, written_done}

-- ---- The bytes and words of a file

-- a list's numbers are below m where each one is, and where those of its two parts are
abbrev Each : ℕ → List ℕ → Type 0
Each m [] = 0 < m
Each m (w ∷ ws) = (w < m) × Each m ws

each_below : (m : ℕ) (ws : List ℕ) → Each m ws → Below m ws
each_below m [] h i = h
each_below m (w ∷ ws) h zero = h.0
each_below m (w ∷ ws) h (suc i) = each_below m ws h.1 i

below_both : (m : ℕ) (xs ys : List ℕ) → Below m xs → Below m ys → Below m (xs ++ ys)
below_both m [] ys h later i = later i
below_both m (x ∷ xs) ys h later zero = h 0
below_both m (x ∷ xs) ys h later (suc i) = below_both m xs ys (λ k. h (suc k)) later i

-- the words of a head are of 32 bits
head_below : (rate n : ℕ) → rate < words_to → n ≤ most_samples → Below words_to (head rate n)
head_below rate n small few =
    each_below words_to (head rate n) (
      omega arith,
      (
        omega arith,
        (
          omega arith,
          (omega arith, (omega arith, (omega arith, (small, (omega arith, (omega arith, (omega arith, (omega arith, omega arith)))))))),
        ),
      ),
    )

-- what is written are bytes
wav-bytes : (rate : ℕ) (values : List ℕ) → Below bytes_to (wav_of rate values)
unfolding wav_of
wav-bytes rate values =
    let words = head rate (length values) in
    below_both bytes_to (encoded words) (encoded_halves values) (encoded_bytes words) (encoded_halves_bytes values)

-- what the tests of the reader ask of a file
record Headed (file : List ℕ) (rate n : ℕ) : Type 0 where
  size : length file ≡ wav_bytes n
  bytes : Below bytes_to file
  riff : word_at file 0 ≡ riff_name
  counted : word_at file 4 ≡ 36 + 2 * n
  wave : word_at file 8 ≡ wave_name
  fmt : word_at file 12 ≡ fmt_name
  fmt_size : word_at file 16 ≡ fmt_bytes
  coding : word_at file 20 ≡ both pcm 1
  rate_there : word_at file 24 ≡ rate
  block : word_at file 32 ≡ both 2 16
  data_there : word_at file 36 ≡ data_name
  data_size : word_at file 40 ≡ 2 * n

-- the file of any values has it
module _ (rate : ℕ) (values : List ℕ) (small : rate < words_to) (few : length values ≤ most_samples) where
  head_word : (k : ℕ) → k < 11 → word_at (wav_of rate values) (4 * k) ≡ get_or (head rate (length values)) k 0
  unfolding wav_of
  head_word k h =
      word_of_encoded (head rate (length values)) (encoded_halves values) k (head_below rate (length values) small few) h

  headed : Headed (wav_of rate values) rate (length values)
  headed =
      record {
        size = length_wav rate values;
        bytes = wav-bytes rate values;
        riff = head_word 0 (omega arith);
        counted = head_word 1 (omega arith);
        wave = head_word 2 (omega arith);
        fmt = head_word 3 (omega arith);
        fmt_size = head_word 4 (omega arith);
        coding = head_word 5 (omega arith);
        rate_there = head_word 6 (omega arith);
        block = head_word 8 (omega arith);
        data_there = head_word 9 (omega arith);
        data_size = head_word 10 (omega arith);
      }

-- its values stand behind its head
values_there : (rate : ℕ) (values : List ℕ) → Below halves_to values → halves (wav_of rate values) 44 (length values) ≡ values
unfolding wav_of
values_there rate values small =
    let front = encoded (head rate (length values)) in
    let there : 44 ≡ length front + 0 = omega (arith, length_encoded (head rate (length values))) in
    ap (λ (i : ℕ). halves (front ++ encoded_halves values) i (length values)) there
    ∙ halves_behind front (encoded_halves values) 0 (length values)
    ∙ ap (λ (l : List ℕ). halves l 0 (length values)) (sym (append-nil (encoded_halves values)))
    ∙ halves_back values [] small

-- ---- The walk over its chunks

module _ (file : List ℕ) (rate n : ℕ) (f : Headed file rate n) where
  -- the second one begins where the first ends, and ends with the file
  next_fmt : next_at file 12 ≡ 36
  next_fmt = omega (arith, f.fmt_size)

  next_data : next_at file 36 ≡ wav_bytes n
  next_data = omega (arith, f.data_size)

  fmt_fits : 12 + head_bytes ≤ length file
  fmt_fits = omega (arith, f.size)

  data_fits : 36 + head_bytes ≤ length file
  data_fits = omega (arith, f.size)

  none_fits : length file < wav_bytes n + head_bytes
  none_fits = omega (arith, f.size)

  two_chunks : chunks_from file first_chunk ≡ 12 ∷ 36 ∷ []
  two_chunks =
      chunks_more file 12 fmt_fits
      ∙ ap (λ (i : ℕ). 12 ∷ chunks_from file i) next_fmt
      ∙ ap (λ (l : List ℕ). 12 ∷ l) (chunks_more file 36 data_fits)
      ∙ ap (λ (i : ℕ). 12 ∷ 36 ∷ chunks_from file i) next_data
      ∙ ap (λ (l : List ℕ). 12 ∷ 36 ∷ l) (chunks_none file (wav_bytes n) none_fits)

  walk_end : end_from file first_chunk ≡ length file
  walk_end =
      end_more file 12 fmt_fits
      ∙ ap (end_from file) next_fmt
      ∙ end_more file 36 data_fits
      ∙ ap (end_from file) next_data
      ∙ end_none file (wav_bytes n) none_fits
      ∙ sym f.size

  -- format and data
  format_is : format_at file ≡ 12
  unfolding first_named
  format_is =
      ap (first_of (named file fmt_name fmt_bytes) (length file)) two_chunks
      ∙ first_here (named file fmt_name fmt_bytes) (length file) 12 (36 ∷ [])
      (rw (f.fmt, f.fmt_size) refl)

  data_is : data_at file ≡ 36
  unfolding first_named
  data_is =
      ap (first_of (named file data_name 0) (length file)) two_chunks
      ∙ first_later (named file data_name 0) (length file) 12 (36 ∷ []) (rw f.fmt refl)
      ∙ first_here (named file data_name 0) (length file) 36 [] (rw f.data_there (le-leb 0 (size_at file 36) (omega arith)))

  -- so it is turned away neither by 19 nor by 20
  is_whole : whole file ≡ true
  unfolding whole
  is_whole =
      let sized = eq-eqb (length file) (8 + word_at file 4) (omega (arith, f.size, f.counted)) in
      rw (f.riff, f.wave, eq-eqb (end_from file first_chunk) (length file) walk_end, sized) refl

  is-wave : is_wave file ≡ true
  unfolding is_wave
  is-wave =
      let there : ltb 36 (length file) ≡ true = lt-ltb 36 (length file) (omega (arith, f.size)) in
      let even : eqb (size_at file 36 % 2) 0 ≡ true = eq-eqb (size_at file 36 % 2) 0 (omega (arith, f.data_size)) in
      rw (is_whole, format_is, data_is, there, even) refl

  is_mono : mono_pcm file 12 ≡ true
  unfolding mono_pcm
  is_mono =
      let coded = half_of_word file 20 1 1 f.bytes (omega arith) f.coding in
      let bits = half_of_word file 32 2 16 f.bytes (omega arith) f.block in
      rw (coded.0, coded.1, bits.1) refl

  -- and its samples are read
  reads : (values samples marks : List ℕ) → values_at file 36 ≡ values → length values ≤ most_samples → length values ≤ length samples
      → length values ≤ length marks
      → wav_read file samples marks
      ≡ heard (Ok (length values)) rate (sets samples 0 (map sample_word values)) (sets marks 0 (replicate (length values) measured))
  unfolding wav_read
  reads values samples marks are few room room' =
      rw (
        is-wave,
        format_is,
        is_mono,
        data_is,
        are,
        le-ltb most_samples (length values) few,
        le-ltb (length samples) (length values) room,
        le-ltb (length marks) (length values) room',
        f.rate_there,
      )
      refl

pub file_is_read : FileIsRead
file_is_read rate values samples marks small below few room room' =
    let f = headed rate values small few in
    let half : size_at (wav_of rate values) 36 / 2 ≡ length values = omega (arith, f.data_size) in
    let are = ap (halves (wav_of rate values) 44) half ∙ values_there rate values below in
    reads (wav_of rate values) rate (length values) f values samples marks are few room room'

-- ---- What was written is read

-- what was stored in front stands there
front_again : (room vs : List ℕ) (m : ℕ) → length vs ≡ m → m ≤ length room → take m (sets room 0 vs) ≡ vs
front_again room vs m count fits = part_of_sets room vs 0 m count (omega arith)

-- the values of samples in range are of 16 bits
values_below : (words : List ℕ) → AllInRange words → Below halves_to (map value_of words)
values_below [] ranged i = omega arith
values_below (w ∷ ws) ranged zero = sixteen_bits w (ranged 0 (omega arith))
values_below (w ∷ ws) ranged (suc i) = values_below ws (λ k inside. ranged (suc k) (omega arith)) i

pub written_is_read : WrittenIsRead
written_is_read rate m words out samples marks small h room room' =
    let d = written_done words rate out m h in
    let values = map value_of words in
    let count : length values ≡ length words = length-map words value_of in
    let long : length (wav_of rate values) ≡ m = omega (arith, length_wav rate values, count, d.count) in
    let file : take m (wav_written words rate out).out ≡ wav_of rate values =
    ap (λ (w : Written). take m w.out) d.file ∙ front_again out (wav_of rate values) m long (omega (arith, d.count, d.room)) in
    ap (λ (l : List ℕ). wav_read l samples marks) file
    ∙ file_is_read rate values samples marks small (values_below words d.ranged) (omega (arith, count, d.few)) (omega (arith, count))
    (omega (arith, count))
    ∙ ap (λ (n : ℕ). heard (Ok n) rate (sets samples 0 (map sample_word values)) (sets marks 0 (replicate n measured))) count

-- ---- What was read is written

-- samples that stand for values of 16 bits are in range
samples_ranged : (values : List ℕ) → Below halves_to values → AllInRange (map sample_word values)
samples_ranged [] below i inside = absurd (omega arith)
samples_ranged (v ∷ vs) below zero inside = values_are_in_range v (below 0)
samples_ranged (v ∷ vs) below (suc i) inside = samples_ranged vs (λ k. below (suc k)) i (omega arith)

-- and stand for these values
values_back : (values : List ℕ) → Below halves_to values → map value_of (map sample_word values) ≡ values
values_back [] below = refl
values_back (v ∷ vs) below = rw (every_value_back v (below 0), values_back vs (λ k. below (suc k))) refl

-- values that were read are written
written_again : (rate n : ℕ) (values samples out : List ℕ) → Below halves_to values → length values ≡ n → n ≤ most_samples → n ≤ length samples
    → wav_bytes n ≤ length out
    → wav_written (take n (sets samples 0 (map sample_word values))) rate out ≡ written (Ok (wav_bytes n)) (sets out 0 (wav_of rate values))
written_again rate n values samples out below count few room place =
    let words = map sample_word values in
    let long : length words ≡ n = length-map values sample_word ∙ count in
    ap (λ (l : List ℕ). wav_written l rate out) (front_again samples words n long room)
    ∙ wav_done words rate out (omega (arith, long)) (samples_ranged values below) (omega (arith, long))
    ∙ ap (λ (k : ℕ). written (Ok (wav_bytes k)) (sets out 0 (wav_of rate (map value_of words)))) long
    ∙ ap (λ (l : List ℕ). written (Ok (wav_bytes n)) (sets out 0 (wav_of rate l))) (values_back values below)

pub read_is_written : ReadIsWritten
read_is_written file samples marks out n bytes h place =
    let told = read_done file samples marks n h in
    let at = data_at file in
    let values = values_at file at in
    let below : Below halves_to values = halves_below file (at + head_bytes) (size_at file at / 2) bytes in
    ap (λ (r : Heard). wav_written (take n r.samples) r.rate out) told.all
    ∙ written_again (rate_at file (format_at file)) n values samples out below told.count told.few told.samples_room place

-- ---- Of both calls

pub only_these_refusals : OnlyTheseRefusals
only_these_refusals = (read_only_these, written_only_these)

pub refusal_writes_nothing : RefusalWritesNothing
refusal_writes_nothing = (read_away, written_away)
