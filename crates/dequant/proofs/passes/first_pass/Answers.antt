-- `dequant::passes::first_pass` meets its contract. The loop's invariant: what is left of the pass gives the whole, and behind the words
-- all stays. Assumes nothing.
use native.Mathlib.Omega.{arith}
use Rattle.dequant.proofs.passes.Laws.{first_more, first_all, behind_stays}
use Rattle.dequant.proofs.passes.first_pass.Goals as goal

pub loop-i-preserved : goal.loop-i-preserved
loop-i-preserved c =
    let inv = c.loop-i.invariant in
    let test = c.loop-i-test.true in
    (first_more _ _ _ _ _ _ inv.0 _ c.loop-i.auto.i test c.first_word.ensures, behind_stays c.args.n c.loop-i.i _ _ _ (omega arith) inv.1)

pub returns : goal.returns
returns c =
    let inv = c.loop-i.invariant in
    (first_all _ _ _ _ _ _ inv.0 c.loop-i-test.false, inv.1)
