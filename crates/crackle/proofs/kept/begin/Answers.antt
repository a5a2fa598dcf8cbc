-- `crackle::kept::begin` meets its contract: each way out is a line of the rule. Assumes nothing.
use Rattle.std.proofs.Common.{refl}
use Rattle.std.proofs.lemmas.Result.{err_from_is_err_and}
use Rattle.crackle.proofs.Keeping.{begin_few, begin_so, begin_away}
use Rattle.crackle.proofs.kept.begin.Goals as goal

pub returns-then-words-lt-STATE_WORDS : goal.returns-then-words-lt-STATE_WORDS
returns-then-words-lt-STATE_WORDS c = begin_few _ _ _ _ c.if-words-lt-STATE_WORDS.true

pub returns-in_err-announce : goal.returns-in_err-announce
returns-in_err-announce c =
    let p = err_from_is_err_and c.from_residual.result c.from_residual.ensures.1 in
    rw (p.1, p.2) (begin_away _ _ _ _ c.if-words-lt-STATE_WORDS.false _ c.in_err-announce.ensures _ refl)

pub returns : goal.returns
returns c =
    begin_so _ _ _ _ c.if-words-lt-STATE_WORDS.false _ c.in_ok-announce.ensures _ _ refl c.write_detector.ensures
