-- `dequant::lattice::snapshot` meets its contract: what is copied are the first n words. Assumes nothing.
use mathlib.Core.Path.{◌∙◌}
use Rattle.dequant.proofs.lattice.Laws.{copied_behind}
use Rattle.dequant.proofs.lattice.snapshot.Goals as goal

pub returns : goal.returns
returns c = c.copy_within.ensures.after ∙ copied_behind _ _ c.requires
