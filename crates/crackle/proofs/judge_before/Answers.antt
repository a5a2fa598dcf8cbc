-- `crackle::judge_before` meets its contract: the very first sample brings nothing, and any other the value of the place before it. Assumes nothing.
use mathlib.Core.Path.{refl}
use native.Mathlib.Omega.{arith}
use Rattle.crackle.proofs.Steps.{first_judged, later_judged, before_room}
use Rattle.crackle.proofs.judge_before.Goals as goal

pub returns-then-detector-eq0 : goal.returns-then-detector-eq0
returns-then-detector-eq0 c = first_judged _ _ _ _ _ c.if-detector-eq0.true

pub judge-requires : goal.judge-requires
judge-requires c =
    let pre = c.requires in
    (omega (arith, c.if-detector-eq0.false), pre.0, before_room _ _ _ _ _ _ _ c.if-detector-eq0.false pre.0 c.held_back-over.ensures refl pre.1)

pub returns : goal.returns
returns c =
    later_judged _ _ _ _ _ _ _ _ _ _ _ c.if-detector-eq0.false c.value_before.ensures c.held_back-over.ensures refl c.judge.ensures
