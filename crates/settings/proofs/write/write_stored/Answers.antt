-- `settings::write::write_stored` meets its contract: a block is as long as its version says, and the words stand in the code's own list. Assumes
-- nothing.
use Rattle.std.proofs.Common.{◌≡◌, ◌≤◌, ◌∙◌, length, arith}
use lib.Seq.{length-take-le}
use Rattle.settings.specs.Settings.{parts, block_bytes}
use Rattle.settings.proofs.Storing.{written}
use Rattle.settings.proofs.write.write_stored.Goals as goal

pub returns : goal.returns
returns g c =
    let s = c.args.settings in
    let few : c.PARTS-count.result ≤ parts = omega (arith, c.PARTS-count.ensures, g.met.S.Stored.few) in
    let all : c.BYTES-bytes.result ≡ block_bytes g.S.Stored.PARTS = c.BYTES-bytes.ensures ∙ g.met.S.Stored.sized in
    let enough : block_bytes g.S.Stored.PARTS ≤ length c.args.room.now = omega (arith, all, c.if-room-bytes.false) in
    rw (all, ← c.VERSION.ensures)
    (written _ _ (g.S.Stored.word_list s) c.args.room.now (g.S.Stored.rule s) (g.met.S.Stored.as_many s) enough _ c.is_allowed.ensures _ _
    (length-take-le _ _ few ∙ c.PARTS-count.ensures) c.store.ensures c.if-not-is_allowed.false _ c.write_block.ensures)
