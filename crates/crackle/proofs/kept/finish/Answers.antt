-- `crackle::kept::finish` meets its contract: what the call by value leaves is kept. Assumes nothing.
use Rattle.crackle.proofs.Consequences.{end_by_six}
use Rattle.crackle.proofs.Keeping.{kept_few, kept_so}
use Rattle.crackle.proofs.kept.finish.Goals as goal

pub returns-then-words-lt-STATE_WORDS : goal.returns-then-words-lt-STATE_WORDS
returns-then-words-lt-STATE_WORDS c = kept_few _ _ _ c.if-words-lt-STATE_WORDS.true

pub returns : goal.returns
returns c =
    kept_so _ _ _ _ _ _ _ _ _ _ (λ h. end_by_six h _) c.if-words-lt-STATE_WORDS.false c.read_detector-detector.ensures c.keep.ensures
    c.finish-heard.ensures
