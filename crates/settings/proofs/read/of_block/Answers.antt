-- `settings::read::of_block` meets its contract: each way out is a line of the rule. Assumes nothing.
use Rattle.std.proofs.Common.{ℕ, ◌+◌, ◌≤◌, List, length, take, arith}
use lib.Seq.{length-take-le}
use Rattle.settings.specs.Settings.{parts}
use Rattle.settings.proofs.Keeping.{within, not_allowed, all_allowed}
use Rattle.settings.proofs.read.of_block.Goals as goal

-- the first n places of the code's own list are n
room_of : (n : ℕ) (list : List ℕ) → n ≤ length list → 0 + n ≤ length (take n list)
room_of n list h = omega (arith, length-take-le n list h)

pub decode-requires : goal.decode-requires
decode-requires g c =
    let few : c.PARTS-count.result ≤ parts = omega (arith, c.PARTS-count.ensures, g.met.S.Stored.few) in (
      within _ _ g.S.Stored.settings_of g.S.Stored.rule _ _ c.is_formed.ensures c.if-not-is_formed.false _ c.bodies_at.ensures,
      room_of _ _ few,
    )

pub returns-then-not-is_allowed : goal.returns-then-not-is_allowed
returns-then-not-is_allowed g c =
    let few : c.PARTS-count.result ≤ parts = omega (arith, c.PARTS-count.ensures, g.met.S.Stored.few) in
    rw (← c.PARTS-count.ensures)
    (not_allowed _ _ g.S.Stored.settings_of g.S.Stored.rule _ _ c.is_formed.ensures c.if-not-is_formed.false _ _ _ _ _ (length-take-le _ _ few)
    c.bodies_at.ensures c.decode.ensures c.of_words-found.ensures c.is_allowed.ensures c.if-not-is_allowed.true)

pub returns : goal.returns
returns g c =
    let few : c.PARTS-count.result ≤ parts = omega (arith, c.PARTS-count.ensures, g.met.S.Stored.few) in
    rw (← c.PARTS-count.ensures)
    (all_allowed _ _ g.S.Stored.settings_of g.S.Stored.rule _ _ c.is_formed.ensures c.if-not-is_formed.false _ _ _ _ _ (length-take-le _ _ few)
    c.bodies_at.ensures c.decode.ensures c.of_words-found.ensures c.is_allowed.ensures c.if-not-is_allowed.false)
