-- `dequant::cosparse::dequantize_cosparse` meets its contract: a refusal of the start ends it, and else what is drawn is committed. Assumes
-- nothing.
use mathlib.Core.Path.{◌≡◌, sym}
use lib.ListN.{length}
use Rattle.std.proofs.Common.{rules}
use Rattle.std.proofs.lemmas.Result.{err_from_is_err_and}
use Rattle.recording.specs.Lent.{held}
use Rattle.recording.specs.Marks.{dequantize}
use Rattle.redraw.proofs.Ending.{start_room, start_finishes, start_laid, whole_refused, whole_drawn}
use Rattle.dequant.specs.Dequant.{cosparse}
use Rattle.dequant.proofs.cosparse.Laws.{cosparse_is}
use Rattle.dequant.proofs.cosparse.dequantize_cosparse.Goals as goal

pub returns-in_err-begin_held : goal.returns-in_err-begin_held
returns-in_err-begin_held c =
    let a = c.args in
    let p = err_from_is_err_and c.from_residual.result c.from_residual.ensures.1 in
    let same : c.from_residual.result ≡ c.begin_held.result = rw (p.1, p.2) (sym c.in_err-begin_held.was) in
    let ends = whole_refused _ a.work.now (held a.recording.now) _ c.begin_held.ensures.0 dequantize (cosparse a.bits a.strength a.iterations) _
    (cosparse_is a.bits a.strength a.iterations (length a.work.now) (held a.recording.now) _ c.is_nan.ensures.value) _ _ _ same c.in_err-begin_held.was c.begin_held.ensures.1 in
    record { memory = search rules; rule = ends.0; work = ends.1 }

pub draw-requires : goal.draw-requires
draw-requires c =
    let s = held c.args.recording.now in
    (start_room _ _ s _ c.begin_held.ensures.0 _ _ c.in_ok-begin_held.was c.begin_held.auto.work, start_laid s.samples _ _ _ _ c.in_ok-begin_held.was c.begin_held.ensures.1)

pub finish-requires : goal.finish-requires
finish-requires c =
    start_finishes _ _ (held c.args.recording.now) _ c.begin_held.ensures.0 _ _ _ c.in_ok-begin_held.was c.begin_held.auto.work c.draw.auto.work

pub returns : goal.returns
returns c =
    let a = c.args in
    let ends = whole_drawn _ a.work.now (held a.recording.now) _ c.begin_held.ensures.0 dequantize (cosparse a.bits a.strength a.iterations) _
    (cosparse_is a.bits a.strength a.iterations (length a.work.now) (held a.recording.now) _ c.is_nan.ensures.value) _ _ _ _ _ (held c.finish.new.recording) c.in_ok-begin_held.was c.begin_held.ensures.1 c.begin_held.auto.work
    c.draw.ensures c.draw.auto.work c.finish.ensures.rule c.finish.ensures.work in
    record { memory = c.finish.ensures.memory; rule = ends.0; work = ends.1 }
