-- `declip::cubic_fill` meets its contract. The loop's invariant: filling the places that are left gives the whole fill, and
-- beyond the 2n words nothing has changed. Assumes nothing.
use mathlib.Core.Path.{refl}
use Rattle.declip.proofs.Laws.{fill_begins, fill_more, fill_ends, named_rest}
use Rattle.declip.proofs.cubic_fill.Goals as goal

pub loop-i-init : goal.loop-i-init
loop-i-init c =
    (refl, fill_begins _ _ _ _ _ _ c.requires.1 c.requires.2 c.f32_of_word-y0.ensures c.f32_of_word-y1.ensures)

pub loop-i-preserved : goal.loop-i-preserved
loop-i-preserved c =
    let inv = c.loop-i.invariant in
    let inside = c.requires.2 in
    (named_rest _ _ _ _ _ _ c.loop-i-test.true inside inv.0, fill_more _ _ _ _ _ _ _ _ _ c.loop-i-test.true inside c.cubic_word.ensures inv.1)

pub returns : goal.returns
returns c =
    let inv = c.loop-i.invariant in
    record { holds = fill_ends _ _ _ _ _ _ _ c.loop-i-test.false inv.1; keeps = inv.0 }
