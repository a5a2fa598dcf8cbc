-- The reader of a WAV file: what its tests say of a file, one law for each way out, and the ways in which the reading ends. Assumes nothing.
use Rattle.std.proofs.Common.{◌≡◌, ℕ, suc, ◌+◌, ◌-◌, ◌*◌, ◌/◌, ◌%◌, ◌<◌, ◌≤◌, Bool, true, false, ◌&&◌, ◌||◌, eqb, ltb, leb, ◌⊎◌, List, map, length, set, replicate, sym, refl, ap, ◌∙◌, inl, inr, arith, ltb-false, ltb-true, le-ltb, lt-ltb, ne_eqb, eqb-true, leb-true}
use mathlib.Core.Bool.{and-false}
use lib.Seq.{sets}
use Rattle.leaves.proofs.Choice.{truth, both_hold, neither, EitherWay}
use Rattle.wire.specs.Wire.{half_at, word_at, halves}
use Rattle.wire.proofs.Laws.{length_halves}
use Rattle.recording.specs.Answers.{number}
use Rattle.recording.specs.Recording.{most_samples}
use Rattle.recording.specs.Marks.{measured}
use Rattle.recording.specs.declared.Reason.{Reason}
use Rattle.recording.specs.declared.Reason.TheVariants.{TooMany, Wave, Coding, Output}
use Rattle.recording.specs.Answer.{Answer}
use Rattle.std.specs.Prelude.{Result, Ok, Err, is_ok}
use Rattle.recording.proofs.Answers.{never_both}
use Rattle.riff.specs.Values.{sample_word}
use Rattle.riff.specs.Chunks.{riff_name, wave_name, fmt_name, data_name, head_bytes, name_at, size_at, named, end_from}
use Rattle.riff.specs.Wav.{first_chunk, whole, first_named, fmt_bytes, format_at, data_at, fmt_before_data, is_wave, rate_at}
use Rattle.riff.specs.Wav.{mono_pcm, values_at, Heard, heard, unheard, wav_read}
use Rattle.riff.specs.Inner.{sound_in}
use Rattle.riff.proofs.Walk.{never_back, Found, first_found}

-- ---- A whole file

module _ (file : List ℕ) where
  -- fewer bytes than stand before the first chunk: the walk would end behind them
  pub too_short : length file < first_chunk → false ≡ whole file
  unfolding whole
  too_short h =
      let past : eqb (end_from file first_chunk) (length file) ≡ false =
      ne_eqb _ _ (λ (e : end_from file first_chunk ≡ length file). omega (arith, never_back file first_chunk)) in
      rw (past, and-false) refl

  -- the walk of a whole file ends with it
  pub walk_of_whole : whole file ≡ true → end_from file first_chunk ≡ length file
  unfolding whole
  walk_of_whole h =
      let before = eqb (word_at file 0) riff_name && eqb (length file) (8 + word_at file 4) && eqb (word_at file 8) wave_name in
      let fill = eqb (end_from file first_chunk) (length file) in
      eqb-true (end_from file first_chunk) (length file) (both_hold before fill h).1

-- ---- Format and data

-- a chunk that is found has its name and bytes enough, and lies within the file
pub record Within (file : List ℕ) (fewest at : ℕ) : Type 0 where
  pub bytes : fewest ≤ size_at file at
  pub inside : at + head_bytes + size_at file at ≤ length file

found_within : (file : List ℕ) (name fewest at : ℕ) → Found file (named file name fewest) at → Within file fewest at
found_within file name fewest at f =
    let tests = both_hold (eqb (name_at file at) name) (leb fewest (size_at file at)) f.taken in
    record { bytes = leb-true fewest (size_at file at) tests.1; inside = omega (arith, f.inside) }

pub named_within : (file : List ℕ) (name fewest : ℕ) → whole file ≡ true → first_named name fewest file < length file
    → Within file fewest (first_named name fewest file)
unfolding first_named
named_within file name fewest w h =
    found_within file name fewest _ (first_found file (named file name fewest) first_chunk (walk_of_whole file w) h)

-- where they stand, with what is known of them
pub record Placed (file : List ℕ) (format data' : ℕ) : Type 0 where
  pub wave : is_wave file ≡ true
  pub of_format : format ≡ format_at file
  pub of_data : data' ≡ data_at file
  pub format_within : Within file fmt_bytes format
  pub data_within : Within file 0 data'

-- a WAVE file has both
pub placed : (file : List ℕ) → is_wave file ≡ true → Placed file (format_at file) (data_at file)
unfolding is_wave
placed file h =
    let f = format_at file in
    let d = data_at file in
    let even = both_hold (whole file && fmt_before_data file) (eqb (size_at file d % 2) 0) h in
    let parts = both_hold (whole file) (fmt_before_data file) even.0 in
    let order = both_hold (ltb f d) (ltb d (length file)) parts.1 in
    let first = ltb-true f d order.0 in
    let there = ltb-true d (length file) order.1 in
    record {
      wave = h;
      of_format = refl;
      of_data = refl;
      format_within = named_within file fmt_name fmt_bytes parts.0 (omega arith);
      data_within = named_within file data_name 0 parts.0 there;
    }

-- ---- What finding them gives

-- places or a refusal, and their parts
abbrev sound : ℕ → ℕ → Result (ℕ × ℕ) Reason
sound format data' = Ok (format, data')

abbrev no_sound : Reason → Result (ℕ × ℕ) Reason
no_sound why = Err why

abbrev why_none : Result (ℕ × ℕ) Reason → Reason
why_none (Ok p) = Wave
why_none (Err why) = why

abbrev first_place : Result (ℕ × ℕ) Reason → ℕ
first_place (Ok p) = p.0
first_place (Err why) = 0

abbrev second_place : Result (ℕ × ℕ) Reason → ℕ
second_place (Ok p) = p.1
second_place (Err why) = 0

never_sound : {A : Type 0} {why : Reason} {format data' : ℕ} → no_sound why ≡ sound format data' → A
never_sound e = let none = eqb-true 0 1 (ap is_ok e) in absurd (omega arith)

same_sound : {format data' f d : ℕ} → sound format data' ≡ sound f d → (format ≡ f) × (data' ≡ d)
same_sound e = (ap first_place e, ap second_place e)

-- what is found stands so
pub stands_placed : (file : List ℕ) (format data' : ℕ) → Ok (format, data') ≡ sound_in file → Placed file format data'
unfolding sound_in
stands_placed file format data' e = go (truth (is_wave file))
  where
    go : EitherWay (is_wave file) → Placed file format data'
    go (inl h) =
        let same : sound (format_at file) (data_at file) ≡ sound format data' = sym (e ∙ rw h refl) in
        let both = same_sound same in
        rw (← both.0, ← both.1) (placed file h)
    go (inr h) =
        let never : no_sound Wave ≡ sound format data' = sym (e ∙ rw h refl) in
        never_sound never

-- ---- Samples are stored

-- one more
pub sample_more : (file samples rest : List ℕ) (from count i v : ℕ) → i < count → v ≡ sample_word (half_at file (from + 2 * i))
    → sets samples i (map sample_word (halves file (from + 2 * i) (count - i))) ≡ rest
    → sets (set samples i v) (i + 1) (map sample_word (halves file (from + 2 * (i + 1)) (count - (i + 1)))) ≡ rest
unfolding halves
sample_more file samples rest from count i v more e all =
    let left : count - i ≡ suc (count - (i + 1)) = omega arith in
    let next : from + 2 * (i + 1) ≡ from + 2 * i + 2 = omega arith in
    let one : i + 1 ≡ suc i = omega arith in
    let opened = ap (λ (n : ℕ). sets samples i (map sample_word (halves file (from + 2 * i) n))) (sym left) ∙ all in
    let later = map sample_word (halves file (from + 2 * i + 2) (count - (i + 1))) in
    rw (next, e) (ap (λ (k : ℕ). sets (set samples i (sample_word (half_at file (from + 2 * i)))) k later) one ∙ opened)

-- none is left
pub samples_all : (file samples rest : List ℕ) (from count i : ℕ) → count ≤ i
    → sets samples i (map sample_word (halves file (from + 2 * i) (count - i))) ≡ rest → samples ≡ rest
unfolding halves
samples_all file samples rest from count i end all =
    let none : count - i ≡ 0 = omega arith in
    ap (λ (n : ℕ). sets samples i (map sample_word (halves file (from + 2 * i) n))) (sym none) ∙ all

-- ---- The lines of the rule

module _ (file samples marks : List ℕ) where
  -- 19
  away_wave : is_wave file ≡ false → unheard Wave samples marks ≡ wav_read file samples marks
  unfolding wav_read
  away_wave h = rw h refl

  pub read_no_sound : (why : Reason) → Err why ≡ sound_in file → unheard why samples marks ≡ wav_read file samples marks
  unfolding sound_in
  read_no_sound why e = go (truth (is_wave file))
    where
      go : EitherWay (is_wave file) → unheard why samples marks ≡ wav_read file samples marks
      go (inr h) =
          let same : no_sound why ≡ no_sound Wave = e ∙ rw h refl in
          rw (ap why_none same) (away_wave h)
      go (inl h) =
          let never : no_sound why ≡ sound (format_at file) (data_at file) = e ∙ rw h refl in
          never_sound never

  -- 20
  module _ (wave : is_wave file ≡ true) where
    pub away_coding : mono_pcm file (format_at file) ≡ false → unheard Coding samples marks ≡ wav_read file samples marks
    unfolding wav_read
    away_coding h = rw (wave, h) refl

    module _ (mono : mono_pcm file (format_at file) ≡ true) (n : ℕ) (so_many : length (values_at file (data_at file)) ≡ n) where
      -- 2
      pub away_many : most_samples < n → unheard TooMany samples marks ≡ wav_read file samples marks
      unfolding wav_read
      away_many h = rw (wave, mono, so_many, lt-ltb most_samples n h) refl

      module _ (few : n ≤ most_samples) where
        -- 21
        pub away_room : ltb (length samples) n || ltb (length marks) n ≡ true → unheard Output samples marks ≡ wav_read file samples marks
        unfolding wav_read
        away_room h = rw (wave, mono, so_many, le-ltb most_samples n few, h) refl

        -- or the file is read
        pub done_reading : ltb (length samples) n || ltb (length marks) n ≡ false
            → heard (Ok n) (rate_at file (format_at file)) (sets samples 0 (map sample_word (values_at file (data_at file))))
            (sets marks 0 (replicate n measured))
            ≡ wav_read file samples marks
        unfolding wav_read
        done_reading h = rw (wave, mono, so_many, le-ltb most_samples n few, h) refl

-- the same, by where format and data were found
module _ (file samples marks : List ℕ) (format data' : ℕ) (found : Ok (format, data') ≡ sound_in file) where
  at_place : Placed file format data'
  at_place = stands_placed file format data' found

  pub format_fits : format + head_bytes + fmt_bytes ≤ length file
  format_fits = omega (arith, at_place.format_within.bytes, at_place.format_within.inside)

  pub data_head_fits : data' + head_bytes ≤ length file
  data_head_fits = omega (arith, at_place.data_within.inside)

  mono_is : (b : Bool) → b ≡ mono_pcm file format → mono_pcm file (format_at file) ≡ b
  mono_is b e = ap (mono_pcm file) (sym at_place.of_format) ∙ sym e

  pub read_other_coding : mono_pcm file format ≡ false → unheard Coding samples marks ≡ wav_read file samples marks
  read_other_coding h = away_coding file samples marks at_place.wave (mono_is false (sym h))

  module _ (mono : mono_pcm file format ≡ true) (size : ℕ) (of_size : size ≡ size_at file data') where
    mono_so : mono_pcm file (format_at file) ≡ true
    mono_so = mono_is true (sym mono)

    values_so : length (values_at file (data_at file)) ≡ size / 2
    values_so =
        length_halves file (data_at file + head_bytes) (size_at file (data_at file) / 2)
        ∙ ap (λ (n : ℕ). n / 2) (ap (size_at file) (sym at_place.of_data) ∙ sym of_size)

    pub data_fits : data' + head_bytes + 2 * (size / 2) ≤ length file
    data_fits = omega (arith, at_place.data_within.inside, of_size)

    pub read_too_many : most_samples < size / 2 → unheard TooMany samples marks ≡ wav_read file samples marks
    read_too_many h = away_many file samples marks at_place.wave mono_so (size / 2) values_so h

    module _ (few : size / 2 ≤ most_samples) where
      pub read_no_samples : length samples < size / 2 → unheard Output samples marks ≡ wav_read file samples marks
      read_no_samples h =
          let short : ltb (length samples) (size / 2) || ltb (length marks) (size / 2) ≡ true =
          rw (lt-ltb (length samples) (size / 2) h) refl in
          away_room file samples marks at_place.wave mono_so (size / 2) values_so few short

      module _ (room : size / 2 ≤ length samples) where
        pub read_no_marks : length marks < size / 2 → unheard Output samples marks ≡ wav_read file samples marks
        read_no_marks h =
            let short : ltb (length samples) (size / 2) || ltb (length marks) (size / 2) ≡ true =
            rw (le-ltb (length samples) (size / 2) room, lt-ltb (length marks) (size / 2) h) refl in
            away_room file samples marks at_place.wave mono_so (size / 2) values_so few short

        pub read_all : (rate : ℕ) (samples' marks' : List ℕ) → size / 2 ≤ length marks → rate ≡ rate_at file format
            → samples' ≡ sets samples 0 (map sample_word (halves file (data' + head_bytes) (size / 2)))
            → marks' ≡ sets marks 0 (replicate (size / 2) measured)
            → heard (Ok (size / 2)) rate samples' marks' ≡ wav_read file samples marks
        read_all rate samples' marks' fits of-rate of-samples of-marks =
            let rooms : ltb (length samples) (size / 2) || ltb (length marks) (size / 2) ≡ false =
            rw (le-ltb (length samples) (size / 2) room, le-ltb (length marks) (size / 2) fits) refl in
            let there : halves file (data' + head_bytes) (size / 2) ≡ values_at file (data_at file) =
            rw (of_size) (ap (values_at file) at_place.of_data) in
            rw (of-samples, of-marks, of-rate, there, at_place.of_format)
            (done_reading file samples marks at_place.wave mono_so (size / 2) values_so few rooms)

-- ---- The ways in which the reading ends

-- the file was read: what is known then
pub record ReadDone (file samples marks : List ℕ) (n : ℕ) : Type 0 where
  pub wave : is_wave file ≡ true
  pub mono : mono_pcm file (format_at file) ≡ true
  pub count : length (values_at file (data_at file)) ≡ n
  pub few : n ≤ most_samples
  pub samples_room : n ≤ length samples
  pub marks_room : n ≤ length marks
  pub all : wav_read file samples marks
      ≡ heard (Ok n) (rate_at file (format_at file)) (sets samples 0 (map sample_word (values_at file (data_at file)))) (sets marks 0 (replicate n measured))

pub data ReadEnding (file samples marks : List ℕ) : Type 0 where
  -- turned away by 19, 20, 2 or 21
  away : (why : Reason) → (why ≡ Wave) ⊎ (why ≡ Coding) ⊎ (why ≡ TooMany) ⊎ (why ≡ Output)
      → wav_read file samples marks ≡ unheard why samples marks
      → ReadEnding file samples marks
  -- read
  into : (n : ℕ) → ReadDone file samples marks n → ReadEnding file samples marks

pub read_ending : (file samples marks : List ℕ) → ReadEnding file samples marks
read_ending file samples marks =
    go (truth (is_wave file)) (truth (mono_pcm file (format_at file))) (truth (ltb most_samples n))
    (truth (ltb (length samples) n || ltb (length marks) n))
  where
    n : ℕ
    n = length (values_at file (data_at file))

    go : EitherWay (is_wave file) → EitherWay (mono_pcm file (format_at file)) → EitherWay (ltb most_samples n)
        → EitherWay (ltb (length samples) n || ltb (length marks) n)
        → ReadEnding file samples marks
    go (inr w) m k r = away Wave (inl refl) (sym (away_wave file samples marks w))
    go (inl w) (inr m) k r = away Coding (inr (inl refl)) (sym (away_coding file samples marks w m))
    go (inl w) (inl m) (inl k) r =
        away TooMany (inr (inr (inl refl))) (sym (away_many file samples marks w m n refl (ltb-true most_samples n k)))
    go (inl w) (inl m) (inr k) (inl r) =
        away Output (inr (inr (inr refl))) (sym (away_room file samples marks w m n refl (ltb-false most_samples n k) r))
    go (inl w) (inl m) (inr k) (inr r) =
        let few' = ltb-false most_samples n k in
        let rooms = neither (ltb (length samples) n) (ltb (length marks) n) r in
        into n
        (record {
          wave = w;
          mono = m;
          count = refl;
          few = few';
          samples_room = ltb-false (length samples) n rooms.0;
          marks_room = ltb-false (length marks) n rooms.1;
          all = sym (done_reading file samples marks w m n refl few' r);
        })

-- the reader is turned away by 19, 20, 2 or 21
pub read_only_these : (file samples marks : List ℕ)
    → let k = number (wav_read file samples marks).answer in (k ≡ 0) ⊎ (k ≡ 19) ⊎ (k ≡ 20) ⊎ (k ≡ 2) ⊎ (k ≡ 21)
read_only_these file samples marks = go (read_ending file samples marks)
  where
    told : (why : Reason) → wav_read file samples marks ≡ unheard why samples marks
        → (other : Reason) → why ≡ other → number (wav_read file samples marks).answer ≡ number (Err other)
    told why is other e = ap (λ (h : Heard). number h.answer) is ∙ ap (λ (r : Reason). number (Err r)) e

    go : ReadEnding file samples marks
        → let k = number (wav_read file samples marks).answer in (k ≡ 0) ⊎ (k ≡ 19) ⊎ (k ≡ 20) ⊎ (k ≡ 2) ⊎ (k ≡ 21)
    go (into n d) = inl (ap (λ (h : Heard). number h.answer) d.all)
    go (away why (inl e) is) = inr (inl (told why is Wave e))
    go (away why (inr (inl e)) is) = inr (inr (inl (told why is Coding e)))
    go (away why (inr (inr (inl e))) is) = inr (inr (inr (inl (told why is TooMany e))))
    go (away why (inr (inr (inr e))) is) = inr (inr (inr (inr (told why is Output e))))

-- and then both rooms are as they were, and no rate is told
pub read_away : (file samples marks : List ℕ) (why : Reason) → (wav_read file samples marks).answer ≡ Err why
    → wav_read file samples marks ≡ unheard why samples marks
read_away file samples marks why h = go (read_ending file samples marks)
  where
    go : ReadEnding file samples marks → wav_read file samples marks ≡ unheard why samples marks
    go (into n d) = never_both (sym (ap (λ (x : Heard). x.answer) d.all) ∙ h)
    go (away other e is) =
        let same : Err other ≡ Err why = sym (ap (λ (x : Heard). x.answer) is) ∙ h in
        is ∙ ap (λ (a : Answer). heard a 0 samples marks) same

-- where it accepts, the file is read
pub read_done : (file samples marks : List ℕ) (n : ℕ) → (wav_read file samples marks).answer ≡ Ok n → ReadDone file samples marks n
read_done file samples marks n h = go (read_ending file samples marks)
  where
    go : ReadEnding file samples marks → ReadDone file samples marks n
    go (away why e is) = never_both (sym h ∙ ap (λ (x : Heard). x.answer) is)
    go (into k d) =
        let same : Ok k ≡ Ok n = sym (ap (λ (x : Heard). x.answer) d.all) ∙ h in
        let so_many : k ≡ n = cc in
        rw (← so_many) d
