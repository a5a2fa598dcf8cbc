-- `decrackle::slope_before` meets its contract: each way out is a line of the rule. Assumes nothing.
use Rattle.decrackle.proofs.Curves.{slope_before_none, slope_before_some}
use Rattle.decrackle.proofs.slope_before.Goals as goal

pub returns-then-start-lt2 : goal.returns-then-start-lt2
returns-then-start-lt2 c = slope_before_none _ _ c.if-start-lt2.true

pub returns : goal.returns
returns c =
    slope_before_some _ _ _ _ _ c.if-start-lt2.false c.requires.2 c.f32_of_word.ensures c.f32_of_word-2.ensures
