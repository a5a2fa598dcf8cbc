-- `inpaint::auto::kept_of` meets its contract: the test's number is the rule's. Assumes nothing.
use Rattle.std.proofs.Common.{◌∙◌}
use Rattle.inpaint.proofs.auto.Runs.{kept_is}
use Rattle.inpaint.proofs.auto.kept_of.Goals as goal

pub returns : goal.returns
returns c = c.from.ensures ∙ kept_is _ _ c.is_holdable.ensures
