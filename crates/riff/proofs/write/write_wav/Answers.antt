-- `riff::write::write_wav` meets its contract: each way out is a line of the rule. Assumes nothing.
use Rattle.std.proofs.Common.{refl}
use Rattle.std.proofs.lemmas.Result.{err_from_is_err_and}
use Rattle.riff.proofs.Writing.{writes_many, writes_unread, writes_short, writes_values, writes_done}
use Rattle.riff.proofs.write.write_wav.Goals as goal

pub returns-then-samples-gt-MOST_SAMPLES : goal.returns-then-samples-gt-MOST_SAMPLES
returns-then-samples-gt-MOST_SAMPLES c = writes_many _ _ _ c.if-samples-gt-MOST_SAMPLES.true

pub returns-in_err-check_words : goal.returns-in_err-check_words
returns-in_err-check_words c =
    let p = err_from_is_err_and c.from_residual.result c.from_residual.ensures.1 in
    rw (p.1, p.2)
    (writes_unread _ _ _ c.if-samples-gt-MOST_SAMPLES.false _ c.in_err-check_words.ensures _ refl)

pub returns-then-out-bytes : goal.returns-then-out-bytes
returns-then-out-bytes c =
    writes_short _ _ _ c.if-samples-gt-MOST_SAMPLES.false _ c.in_ok-check_words.ensures _ refl c.if-out-bytes.true

pub write_values-requires : goal.write_values-requires
write_values-requires c =
    writes_values _ _ _ c.if-samples-gt-MOST_SAMPLES.false _ c.in_ok-check_words.ensures _ refl c.if-out-bytes.false _
    c.write_head.ensures

pub returns : goal.returns
returns c =
    writes_done _ _ _ c.if-samples-gt-MOST_SAMPLES.false _ c.in_ok-check_words.ensures _ refl c.if-out-bytes.false _ _
    c.write_head.ensures c.write_values.ensures
