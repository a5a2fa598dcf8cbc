-- `inpaint::auto::next_run` meets its contract. The outer loop's invariant: the search from here on gives what the search from `from` on
-- gives, and nothing is found yet. The inner loop's: what continues the run from `end` on ends where the whole run does. Assumes nothing.
use Rattle.std.proofs.Common.{sym, ap, not, ◌∙◌, arith}
use borrow.Author.Tests.{not-true, not-false}
use Rattle.recording.proofs.Runs.{run_more, run_stops, run_ends}
use Rattle.inpaint.specs.Auto.{continues_at}
use Rattle.inpaint.proofs.auto.Runs.{keeps_one, search_passes, search_fails, search_touches, search_finds, search_ends}
use Rattle.inpaint.proofs.auto.next_run.Goals as goal
use Rattle.inpaint.proofs.auto.next_run.Goals.{then-run_begins+else-loop-end-test, then-run_begins+then-loop-end-test+then-not-continues_run+else-run_qualifies, else-run_begins}

pub overflow_add-found : goal.overflow_add-found
overflow_add-found c = omega (arith, keeps_one _ _ c.kept_of-kept.ensures)

pub overflow_sub-found-then-run_qualifies : goal.overflow_sub-found-then-run_qualifies
overflow_sub-found-then-run_qualifies c = omega (arith, keeps_one _ _ c.kept_of-kept.ensures)

pub loop-end-preserved : goal.loop-end-preserved
loop-end-preserved c =
    let followed = c.loop-end.invariant in
    let met = sym c.continues_run.ensures ∙ not-false _ (ap not c.if-not-continues_run.false) in
    (followed.0, run_more (continues_at c.args.samples.now) _ _ _ c.loop-end-test.true met followed.1)

pub search-preserved : goal.search-preserved
search-preserved c =
    let test = continues_at c.args.samples.now in
    elim c.if-run_begins.branch [
      | then-run_begins+else-loop-end-test w ↦
          let ends = run_ends test _ _ _ w.loop-end-test.false w.loop-end.invariant.1 in (
            w.found-is ∙ w.loop-end.invariant.0,
            search_touches _ _ _ _ _ _ c.search-test.true c.search.invariant.1 _ ends w.loop-end-test.false,
          )
      | then-run_begins+then-loop-end-test+then-not-continues_run+else-run_qualifies w ↦
          let none = sym w.continues_run.ensures ∙ not-true _ (ap not w.if-not-continues_run.true) in
          let stops = run_stops test _ _ _ w.loop-end-test.true none w.loop-end.invariant.1 in (
            w.found-is ∙ w.loop-end.invariant.0,
            search_fails _ _ _ _ _ _ c.search-test.true c.search.invariant.1 _ stops _ w.run_qualifies.ensures w.if-run_qualifies.false,
          )
      | else-run_begins w ↦ (
        w.found-is ∙ c.search.invariant.0,
        search_passes _ _ _ _ _ _ c.search-test.true c.search.invariant.1 _ c.run_begins.ensures w.if-run_begins.false,
      )
    ]

pub returns-after-search : goal.returns-after-search
returns-after-search c =
    let stands = c.search.invariant in
    stands.0 ∙ search_ends _ _ _ _ _ _ c.search-test.false stands.1

pub returns-then-run_qualifies : goal.returns-then-run_qualifies
returns-then-run_qualifies c =
    let none = sym c.continues_run.ensures ∙ not-true _ (ap not c.if-not-continues_run.true) in
    search_finds _ _ _ _ _ _ c.search-test.true c.search.invariant.1 _
    (run_stops (continues_at c.args.samples.now) _ _ _ c.loop-end-test.true none c.loop-end.invariant.1) _ _ _
    c.run_begins.ensures c.if-run_begins.true c.run_qualifies.ensures c.if-run_qualifies.true c.kept_of-kept.ensures
