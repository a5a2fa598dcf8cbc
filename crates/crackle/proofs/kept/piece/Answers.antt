-- `crackle::kept::piece` meets its contract: what the call by value leaves is kept. Assumes nothing.
use Rattle.crackle.proofs.Consequences.{piece_by_six}
use Rattle.crackle.proofs.Keeping.{kept_few, kept_so}
use Rattle.crackle.proofs.kept.piece.Goals as goal

pub returns-then-words-lt-STATE_WORDS : goal.returns-then-words-lt-STATE_WORDS
returns-then-words-lt-STATE_WORDS c = kept_few _ _ _ c.if-words-lt-STATE_WORDS.true

pub returns : goal.returns
returns c =
    kept_so _ _ _ _ _ _ _ _ _ _ (piece_by_six _ _) c.if-words-lt-STATE_WORDS.false c.read_detector-detector.ensures c.keep.ensures
    c.piece-heard.ensures
