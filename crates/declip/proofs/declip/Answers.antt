-- `declip::declip` meets its contract: a refusal of the start ends it, and else what the workspace holds is committed. Assumes
-- nothing.
use mathlib.Core.Path.{◌≡◌, sym}
use lib.ListN.{length}
use Rattle.std.proofs.Common.{rules}
use Rattle.std.proofs.lemmas.Result.{err_from_is_err_and}
use Rattle.recording.specs.Lent.{held}
use Rattle.recording.specs.Marks.{cubic_declip}
use Rattle.redraw.proofs.Ending.{start_room, start_finishes, start_holds, whole_refused, whole_done}
use Rattle.declip.specs.Declip.{declipped}
use Rattle.declip.proofs.Laws.{declip_is}
use Rattle.declip.proofs.declip.Goals as goal

pub returns-in_err-begin_held : goal.returns-in_err-begin_held
returns-in_err-begin_held c =
    let rule_is = declip_is c.args.threshold c.threshold_allowed.result (length c.args.work.now) (held c.args.recording.now) c.threshold_allowed.ensures in
    let p = err_from_is_err_and c.from_residual.result c.from_residual.ensures.1 in
    let same : c.from_residual.result ≡ c.begin_held.result = rw (p.1, p.2) (sym c.in_err-begin_held.was) in
    let ends = whole_refused _ c.args.work.now (held c.args.recording.now) _ c.begin_held.ensures.0 cubic_declip (declipped c.args.threshold) _ rule_is
    _ _ _ same c.in_err-begin_held.was c.begin_held.ensures.1 in
    record { memory = search rules; rule = ends.0; work = ends.1 }

pub bridge_runs-requires : goal.bridge_runs-requires
bridge_runs-requires c =
    let s = held c.args.recording.now in
    (start_room _ _ s _ c.begin_held.ensures.0 _ _ c.in_ok-begin_held.was c.begin_held.auto.work, (start_holds s.samples _ _ _ _ c.in_ok-begin_held.was c.begin_held.ensures.1).holds)

pub finish-requires : goal.finish-requires
finish-requires c =
    start_finishes _ _ (held c.args.recording.now) _ c.begin_held.ensures.0 _ _ _ c.in_ok-begin_held.was c.begin_held.auto.work c.bridge_runs.auto.work

pub returns : goal.returns
returns c =
    let rule_is = declip_is c.args.threshold c.threshold_allowed.result (length c.args.work.now) (held c.args.recording.now) c.threshold_allowed.ensures in
    let ends = whole_done _ c.args.work.now (held c.args.recording.now) _ c.begin_held.ensures.0 cubic_declip (declipped c.args.threshold) _ rule_is
    _ _ _ _ _ (held c.finish.new.recording) c.in_ok-begin_held.was c.begin_held.ensures.1 c.begin_held.auto.work
    c.bridge_runs.ensures c.bridge_runs.auto.work c.finish.ensures.rule c.finish.ensures.work in
    record { memory = c.finish.ensures.memory; rule = ends.0; work = ends.1 }
