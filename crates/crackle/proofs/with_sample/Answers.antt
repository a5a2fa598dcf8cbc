-- `crackle::with_sample` meets its contract: the fields are those of the rule. Assumes nothing.
use Rattle.crackle.proofs.Steps.{sample_in}
use Rattle.crackle.proofs.with_sample.Goals as goal

pub returns : goal.returns
returns c = sample_in _ _ _ _ _ _ _ _ c.judge_before-floor.ensures
