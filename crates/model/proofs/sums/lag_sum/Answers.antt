-- `model::sums::lag_sum` meets its contract. The loop's invariant: adding what is left gives the whole. Assumes nothing.
use Rattle.model.proofs.sums.Laws.{where_added, where_passed, where_done, lag_start}
use Rattle.model.proofs.sums.Laws.{both_known, first_unknown, second_unknown}
use Rattle.model.proofs.sums.lag_sum.Goals as goal
use Rattle.model.proofs.sums.lag_sum.Goals.{then-is_known+then-is_known-2, else-is_known, else-is_known-via-then-is_known+else-is_known-2, else-is_known-via-else-is_known}

pub loop-i-init : goal.loop-i-init
loop-i-init c = lag_start _ _ _ _

pub loop-i-preserved : goal.loop-i-preserved
loop-i-preserved c =
    let here = c.is_known.ensures in
    let more = c.loop-i-test.true in
    let inv = c.loop-i.invariant in
    elim c.if-is_known.branch [
      | then-is_known+then-is_known-2 w ↦
          let both = both_known here w.if-is_known.true w.is_known-then-is_known.ensures w.if-is_known-2.true in
          rw w.s-is (where_added _ _ _ _ _ _ more both inv)
      | else-is_known w ↦
          elim w.else-is_known.branch [
            | else-is_known-via-then-is_known+else-is_known-2 v ↦
                let passed = second_unknown here v.if-is_known.true v.is_known-then-is_known.ensures v.if-is_known-2.false in
                rw w.s-is (where_passed _ _ _ _ _ _ more passed inv)
            | else-is_known-via-else-is_known v ↦
                rw w.s-is (where_passed _ _ _ _ _ _ more (first_unknown _ here v.if-is_known.false) inv)
          ]
    ]

pub returns : goal.returns
returns c = where_done _ _ _ _ _ _ c.loop-i-test.false c.loop-i.invariant
