-- `crackle::flags_due` meets its contract: it is what is given then less what is given now, which is not more. Assumes nothing.
use native.Mathlib.Omega.{arith}
use Rattle.crackle.proofs.Due.{given_grows, due_is}
use Rattle.crackle.proofs.flags_due.Goals as goal

pub overflow_sub-result : goal.overflow_sub-result
overflow_sub-result c =
    let args = c.args in
    omega (arith, c.given_by.ensures, c.given_by-2.ensures, given_grows args.start args.taken args.n)

pub returns : goal.returns
returns c = due_is _ _ _ _ _ c.given_by.ensures c.given_by-2.ensures
