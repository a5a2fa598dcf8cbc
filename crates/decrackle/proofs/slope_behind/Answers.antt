-- `decrackle::slope_behind` meets its contract: each way out is a line of the rule. Assumes nothing.
use Rattle.decrackle.proofs.Curves.{slope_behind_none, slope_behind_some}
use Rattle.decrackle.proofs.slope_behind.Goals as goal

pub returns-then-n-end : goal.returns-then-n-end
returns-then-n-end c = slope_behind_none _ _ _ c.requires.0 c.if-n-end.true

pub returns : goal.returns
returns c =
    slope_behind_some _ _ _ _ _ c.requires.0 c.if-n-end.false c.f32_of_word.ensures c.f32_of_word-2.ensures
