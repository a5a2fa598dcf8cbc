-- `scaled_root` meets its contract: `nearest_root` gives the digits of the root, and `Steps.antt` beside it says what
-- pattern they make. Assumes nothing.
use Rattle.leaves.proofs.root.Steps.{scaled_root_is}
use Rattle.leaves.proofs.root.scaled_root.Goals as goal

pub returns : goal.returns
returns c =
    let pre = c.requires in
    scaled_root_is _ _ pre.0 pre.1.0 pre.1.1 _ c.nearest_root-q.ensures _ c.f64_of_word.ensures
