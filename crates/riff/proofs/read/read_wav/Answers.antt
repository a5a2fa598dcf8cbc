-- `riff::read::read_wav` meets its contract: each way out is a line of the rule. Assumes nothing.
use Rattle.std.proofs.Common.{[], sym, ◌∙◌, ◌/◌, ap, ℕ, replicate, arith}
use lib.Seq.{sets}
use Rattle.std.proofs.lemmas.Result.{err_from_is_err_and}
use Rattle.riff.proofs.Reading.{read_no_sound, format_fits, data_head_fits, data_fits, read_other_coding, read_too_many}
use Rattle.riff.proofs.Reading.{read_no_samples, read_no_marks, read_all}
use Rattle.riff.proofs.read.read_wav.Goals as goal
use Rattle.riff.proofs.read.read_wav.Goals.{then-samples-n-via-then-samples-n, then-samples-n-via-else-samples-n+then-marks-n}

pub returns-in_err-format : goal.returns-in_err-format
returns-in_err-format c =
    let p = err_from_is_err_and c.from_residual.result c.from_residual.ensures.1 in
    rw (p.1, p.2) (read_no_sound _ _ _ _ c.in_err-format.ensures)

pub is_mono_pcm-requires : goal.is_mono_pcm-requires
is_mono_pcm-requires c = format_fits _ [] [] _ _ c.in_ok-format.ensures

pub returns-then-not-is_mono_pcm : goal.returns-then-not-is_mono_pcm
returns-then-not-is_mono_pcm c =
    read_other_coding _ _ _ _ _ c.in_ok-format.ensures (sym c.if-not-is_mono_pcm.ensures)

pub overflow_add-data : goal.overflow_add-data
overflow_add-data c = omega (arith, data_head_fits _ [] [] _ _ c.in_ok-format.ensures)

pub word_at-requires : goal.word_at-requires
word_at-requires c = omega (arith, data_head_fits _ [] [] _ _ c.in_ok-format.ensures)

pub returns-then-n-gt-MOST_SAMPLES : goal.returns-then-n-gt-MOST_SAMPLES
returns-then-n-gt-MOST_SAMPLES c =
    read_too_many _ _ _ _ _ c.in_ok-format.ensures (sym c.if-not-is_mono_pcm.ensures) _ c.word_at.ensures
    c.if-n-gt-MOST_SAMPLES.true

pub returns-then-samples-n : goal.returns-then-samples-n
returns-then-samples-n c =
    let found = c.in_ok-format.ensures in
    let mono = sym c.if-not-is_mono_pcm.ensures in
    elim c.then-samples-n.branch [
      | then-samples-n-via-then-samples-n w ↦
          read_no_samples _ _ _ _ _ found mono _ c.word_at.ensures c.if-n-gt-MOST_SAMPLES.false w.if-samples-n.true
      | then-samples-n-via-else-samples-n+then-marks-n w ↦
          read_no_marks _ _ _ _ _ found mono _ c.word_at.ensures c.if-n-gt-MOST_SAMPLES.false w.if-samples-n.false
          w.if-marks-n.true
    ]

pub overflow_add-data-2 : goal.overflow_add-data-2
overflow_add-data-2 c = omega (arith, data_head_fits _ [] [] _ _ c.in_ok-format.ensures)

pub store_samples-requires : goal.store_samples-requires
store_samples-requires c =
    let fits = data_fits _ [] [] _ _ c.in_ok-format.ensures (sym c.if-not-is_mono_pcm.ensures) _ c.word_at.ensures in
    (omega (arith, fits), omega arith)

pub overflow_add-format : goal.overflow_add-format
overflow_add-format c = omega (arith, format_fits _ [] [] _ _ c.in_ok-format.ensures)

pub overflow_add-format-2 : goal.overflow_add-format-2
overflow_add-format-2 c = omega (arith, format_fits _ [] [] _ _ c.in_ok-format.ensures)

pub word_at-requires-2 : goal.word_at-requires-2
word_at-requires-2 c = omega (arith, format_fits _ [] [] _ _ c.in_ok-format.ensures)

pub returns : goal.returns
returns c =
    let n = c.word_at.result / 2 in
    let mark = ap (λ (byte : ℕ). sets c.args.marks.now 0 (replicate n byte)) c.byte.ensures in
    read_all _ _ _ _ _ c.in_ok-format.ensures (sym c.if-not-is_mono_pcm.ensures) _ c.word_at.ensures
    c.if-n-gt-MOST_SAMPLES.false c.if-samples-n.false _ _ _ c.if-marks-n.false c.word_at-2.ensures c.store_samples.ensures
    (c.set_all.ensures ∙ mark)
