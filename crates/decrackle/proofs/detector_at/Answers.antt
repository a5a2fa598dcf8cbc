-- `decrackle::detector_at` meets its contract: each way out is a line of the rule. Assumes nothing.
use Rattle.decrackle.proofs.Flags.{detector_first, detector_last, detector_between}
use Rattle.decrackle.proofs.detector_at.Goals as goal
use Rattle.decrackle.proofs.detector_at.Goals.{then-i-eq0-via-then-i-eq0, then-i-eq0-via-else-i-eq0+then-i-samples}

pub returns-then-i-eq0 : goal.returns-then-i-eq0
returns-then-i-eq0 c =
    elim c.then-i-eq0.branch [
      | then-i-eq0-via-then-i-eq0 w ↦ detector_first _ _ w.if-i-eq0.true
      | then-i-eq0-via-else-i-eq0+then-i-samples w ↦ detector_last _ _ w.if-i-eq0.false w.if-i-samples.true
    ]

pub returns : goal.returns
returns c =
    detector_between _ _ c.if-i-eq0.false _ _ _ _ c.if-i-samples.false c.f32_of_word-before.ensures c.f32_of_word-behind.ensures
    c.f32_of_word.ensures c.from_middle.ensures
