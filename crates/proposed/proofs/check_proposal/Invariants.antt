-- `proposed::check_proposal` meets its contract. The loop's invariant: the test of what is left gives the answer of the whole. Assumes nothing.
use mathlib.Core.Path.{◌≡◌}
use Rattle.proposed.specs.Proposed.{taken}
use Rattle.proposed.proofs.Laws.{rest_answered}
use Rattle.proposed.proofs.check_proposal.Given as goal

abbrev pub invariant-loop-i : goal.invariant-loop-i
invariant-loop-i l = (rest_answered l.threshold l.samples l.proposal l.i ≡ taken l.threshold l.samples l.proposal)
