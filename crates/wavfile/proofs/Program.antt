-- What is told of a file, from what the reading, the scan and the writing ensure. Assumes nothing.
use Prim.Native.Nat.{ℕ, ◌≤◌}
use native.Mathlib.Omega.{arith}
use mathlib.Core.Path.{◌≡◌, refl, sym, ap, ◌∙◌}
use mathlib.Core.Bool.{Bool, true, false}
use mathlib.Core.List.{List, ◌++◌}
use lib.ListN.{length, take, drop}
use lib.Seq.{length-sets, take_at, length-take-le}
use lib.Ieee.{Float, binary32, of_bits}
use Rattle.std.specs.Prelude.{if◌then◌else◌}
use Rattle.leaves.proofs.Choice.{picks_by}
use Rattle.leaves.proofs.Literals.{one_word}
use Rattle.recording.specs.declared.Reason.{Reason}
use Rattle.recording.specs.declared.Reason.TheVariants.{Setting}
use Rattle.recording.specs.Answer.{Answer}
use Rattle.std.specs.Prelude.{Ok, Err, IfOk}
use Rattle.std.proofs.Common.{rules}
use Rattle.inpaint.specs.Auto.{allowed, refused_number}
use Rattle.inpaint.specs.declared.Scanned.{Scanned}
use Rattle.monitor.specs.Scanning.{Report, report}
use Rattle.riff.specs.Wav.{Heard, heard, unheard, wav_read}
use Rattle.riff.specs.Wav.{Written, written, wav_written}
use Rattle.riff.proofs.Reading.{read_done}
use Rattle.riff.proofs.Writing.{written_done}
use Rattle.recording.proofs.Answers.{never_both}
use Rattle.wavfile.specs.declared.Repaired.{Repaired}
use Rattle.wavfile.specs.Program.{limit_ms, reported, taken, Told, telling, rewritten, of_taken, told, tells_all, tells_first}

-- ---- What is taken

module _ (file samples marks : List ℕ) where
  -- the code's limit is the rule's
  rule_limit : (rate : ℕ) (b : Bool) → b ≡ allowed rate (of_bits binary32 1065353216) → b ≡ allowed rate limit_ms
  rule_limit rate b e = e ∙ ap (λ (ms : Float). allowed rate ms) one_word

  module _ (h : Heard) (e : h ≡ wav_read file samples marks) (b : Bool) (test : b ≡ allowed h.rate (of_bits binary32 1065353216)) where
    -- what the test chooses
    abbrev chosen : Heard → Bool → Heard
    chosen w b = if b then w else unheard Setting w.samples w.marks

    chosen_so : chosen h b ≡ taken file samples marks
    unfolding taken
    chosen_so =
        ap (chosen h) (rule_limit h.rate b test)
        ∙ ap (λ (w : Heard). chosen w (allowed w.rate limit_ms)) e

    pub takes_it : b ≡ true → h ≡ taken file samples marks
    takes_it is = ap (chosen h) (sym is) ∙ chosen_so

    pub takes_no_rate : b ≡ false → unheard Setting h.samples h.marks ≡ taken file samples marks
    takes_no_rate is = ap (chosen h) (sym is) ∙ chosen_so

  -- what the reader turns away has the rate 0, which is allowed
  pub takes_none : (why : Reason) (samples' marks' : List ℕ) → unheard why samples' marks' ≡ wav_read file samples marks
      → unheard why samples' marks' ≡ taken file samples marks
  unfolding of_bits
  takes_none why samples' marks' e =
      takes_it (unheard why samples' marks') e (allowed 0 (of_bits binary32 1065353216)) refl refl

  -- where n samples are taken, both rooms have as many places, and as many as before
  abbrev Fitting : ℕ → Heard → Type 0
  Fitting n h =
      h.answer ≡ Ok n
      → (n ≤ length samples) × (n ≤ length marks) × (length h.samples ≡ length samples) × (length h.marks ≡ length marks)

  read_fits : (n : ℕ) → Fitting n (wav_read file samples marks)
  read_fits n is =
      let d = read_done file samples marks n is in (
        d.samples_room,
        d.marks_room,
        ap (λ (h : Heard). length h.samples) d.all ∙ simp length-sets,
        ap (λ (h : Heard). length h.marks) d.all ∙ simp length-sets,
      )

  taken_fits : (n : ℕ) → Fitting n (taken file samples marks)
  unfolding taken
  taken_fits n =
      picks_by (Fitting n) (allowed (wav_read file samples marks).rate limit_ms) _ _ (λ t. read_fits n) (λ t is. never_both (sym is))

-- ---- What is written

-- the scan of all samples, and the file of what it leaves
pub rewrites : (rate : ℕ) (samples marks orders space samples' marks' orders' space' : List ℕ) (s : Scanned) (a : Answer)
    → report s.qualified s.repaired (refused_number s.refused) samples' marks' orders' ≡ reported rate samples marks orders
    → written a space' ≡ wav_written samples' rate space
    → tells_all (record { written = a; samples = length samples; rate = rate; scanned = s }) samples' marks' orders' space'
    ≡ rewritten rate samples marks orders space
unfolding rewritten
rewrites rate samples marks orders space samples' marks' orders' space' s a scanned laid =
    let n = length samples in
    let made = report s.qualified s.repaired (refused_number s.refused) samples' marks' orders' in
    ap (λ (w : Written). telling w.answer n rate made w.out) laid
    ∙ ap (λ (r : Report). telling (wav_written r.samples rate space).answer n rate r (wav_written r.samples rate space).out) scanned

-- it tells as many samples as there are
count_so : (rate : ℕ) (samples marks orders space : List ℕ) → (rewritten rate samples marks orders space).samples ≡ length samples
unfolding rewritten
count_so rate samples marks orders space = refl

-- ---- What is told

module _ (n : ℕ) (space samples marks orders : List ℕ) (a : Answer) (rate : ℕ) (samples' marks' : List ℕ)
    (read : heard a rate samples' marks' ≡ taken (take n space) samples marks) where
  told_so : of_taken a (heard a rate samples' marks') orders space ≡ told n space samples marks orders
  unfolding told
  told_so = ap (λ (h : Heard). of_taken h.answer h orders space) read

  module _ (m : ℕ) (e : a ≡ Ok m) where
    -- the rooms have as many places as samples are taken
    pub rooms : (m ≤ length samples) × (m ≤ length marks) × (m ≤ length samples') × (m ≤ length marks')
    rooms =
        let fit = taken_fits (take n space) samples marks m (sym (ap (λ (h : Heard). h.answer) read) ∙ e) in
        let same = ap (λ (h : Heard). length h.samples) read ∙ fit.2 in
        let same' = ap (λ (h : Heard). length h.marks) read ∙ fit.3 in
        (fit.0, fit.1, omega (arith, same, fit.0), omega (arith, same', fit.1))

    -- the first places of all rooms were repaired
    pub tells_scan : (r : Repaired) (part part' part'' space' : List ℕ) → length orders ≡ length samples → length part ≡ length (take m samples')
        → length part' ≡ length (take m marks') → length part'' ≡ length (take m orders)
        → tells_all r part part' part'' space' ≡ rewritten rate (take m samples') (take m marks') (take m orders) space
        → tells_first (Ok r) (part ++ drop m samples') (part' ++ drop m marks') (part'' ++ drop m orders) space' ≡ told n space samples marks orders
    tells_scan r part part' part'' space' as_many count count' count'' h =
        let room : m ≤ length orders = omega (arith, as_many, rooms.0) in
        let size : r.samples ≡ m =
        ap (λ (t : Told). t.samples) h ∙ count_so rate (take m samples') (take m marks') (take m orders) space ∙ length-take-le _ _ rooms.2 in
        rw (
          take_at part (drop m samples') r.samples (count ∙ length-take-le _ _ rooms.2 ∙ sym size),
          take_at part' (drop m marks') r.samples (count' ∙ length-take-le _ _ rooms.3 ∙ sym size),
          take_at part'' (drop m orders) r.samples (count'' ∙ length-take-le _ _ room ∙ sym size),
        )
        (h ∙ ap (λ (x : Answer). of_taken x (heard a rate samples' marks') orders space) (sym e) ∙ told_so)

-- of a file that is turned away
pub tells_away : (n : ℕ) (space samples marks orders : List ℕ) (why : Reason) (samples' marks' : List ℕ)
    → unheard why samples' marks' ≡ taken (take n space) samples marks
    → tells_first (Err why) samples' marks' orders space ≡ told n space samples marks orders
tells_away n space samples marks orders why samples' marks' read = told_so n space samples marks orders (Err why) 0 samples' marks' read

-- ---- What is told fits

-- what is written lies within the space
written_fits : (samples : List ℕ) (rate : ℕ) (out : List ℕ) (size : ℕ) → (wav_written samples rate out).answer ≡ Ok size → size ≤ length out
written_fits samples rate out size is =
    let d = written_done samples rate out size is in
    omega (arith, d.count, d.room)

rewritten_fits : (rate : ℕ) (samples marks orders space : List ℕ) (size : ℕ) → (rewritten rate samples marks orders space).answer ≡ Ok size
    → size ≤ length space
unfolding rewritten
rewritten_fits rate samples marks orders space size e = written_fits (reported rate samples marks orders).samples rate space size e

-- and there are no more samples than the rooms have places
module _ (n : ℕ) (space samples marks orders : List ℕ) (size : ℕ) where
  pub told_fits : (r : Repaired) (samples' marks' orders' space' : List ℕ)
      → tells_first (Ok r) samples' marks' orders' space' ≡ told n space samples marks orders → r.written ≡ Ok size
      → (size ≤ length space) × (r.samples ≤ length samples) × (r.samples ≤ length marks)
  unfolding told
  told_fits r samples' marks' orders' space' so is = go h.answer refl so
    where
      h : Heard
      h = taken (take n space) samples marks

      go : (a : Answer) → h.answer ≡ a → tells_first (Ok r) samples' marks' orders' space' ≡ of_taken a h orders space
          → (size ≤ length space) × (r.samples ≤ length samples) × (r.samples ≤ length marks)
      go (Err why) e so = never_both (sym is ∙ ap (λ (t : Told). t.answer) so)
      go (Ok m) e so =
          let fit = taken_fits (take n space) samples marks m e in
          let within : m ≤ length h.samples = omega (arith, fit.0, fit.2) in
          let count : r.samples ≡ m =
          ap (λ (t : Told). t.samples) so ∙ count_so h.rate (take m h.samples) (take m h.marks) (take m orders) space ∙ length-take-le _ _ within in (
            rewritten_fits h.rate (take m h.samples) (take m h.marks) (take m orders) space size (sym (ap (λ (t : Told). t.answer) so) ∙ is),
            omega (arith, count, fit.0),
            omega (arith, count, fit.1),
          )

-- as a promise says it: where the file is written
pub told_within : (n : ℕ) (space samples marks orders : List ℕ) (r : Repaired) (samples' marks' orders' space' : List ℕ)
    → tells_first (Ok r) samples' marks' orders' space' ≡ told n space samples marks orders
    → IfOk r.written (λ size. (size ≤ length space) × (r.samples ≤ length samples) × (r.samples ≤ length marks))
told_within n space samples marks orders r samples' marks' orders' space' so = go r.written refl
  where
    go : (a : Answer) → r.written ≡ a
        → IfOk a (λ size. (size ≤ length space) × (r.samples ≤ length samples) × (r.samples ≤ length marks))
    go (Ok size) is = told_fits n space samples marks orders size r samples' marks' orders' space' so is
    go (Err why) is = search rules
