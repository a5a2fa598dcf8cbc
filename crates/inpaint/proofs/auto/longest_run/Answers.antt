-- `inpaint::auto::longest_run` meets its contract: the product, raised to 1 and cut, is the rule's. Assumes nothing.
use Rattle.inpaint.proofs.auto.Laws.{limit_is}
use Rattle.inpaint.proofs.auto.longest_run.Goals as goal

pub returns : goal.returns
returns c =
    limit_is _ _ _ _ _ c.count_as_f32.ensures c.larger.ensures
    c.whole_part.ensures
