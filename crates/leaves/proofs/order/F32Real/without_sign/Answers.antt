-- `leaves::order::Real::without_sign` at `f32` meets its contract. Assumes nothing.
use Rattle.leaves.proofs.order.Laws.{magnitude_is}
use Rattle.leaves.proofs.order.F32Real.without_sign.Goals as goal

pub returns : goal.returns
returns c = magnitude_is c.args.self c.abs.ensures.value
