-- `dequant::cosparse::draw` meets its contract: where one of the tests fails nothing is done, and else the iterations run and
-- the inner places are named. Assumes nothing.
use mathlib.Core.Path.{◌≡◌, refl, sym, ap, ◌∙◌}
use mathlib.Core.Bool.{Bool, true, false, not}
use Prim.Native.Nat.{ℕ}
use lib.Ieee.{Float}
use borrow.Author.Tests.{not-true, not-false}
use Rattle.dequant.proofs.cosparse.Laws.{acts_five, none_run, some_run, drawn_not, drawn_so}
use Rattle.dequant.specs.Dequant.{strength_of, acts}
use Rattle.dequant.proofs.cosparse.draw.Goals as goal

-- what the test of the strength says
reached : (strength held : Float) (n : ℕ) (r b : Bool) → held ≡ strength_of strength → r ≡ acts held 5 n → r ≡ b → acts (strength_of strength) 5 n ≡ b
reached strength held n r b h e is = sym (ap (λ (x : Float). acts x 5 n) h) ∙ sym e ∙ is

pub returns-then-not-reaches : goal.returns-then-not-reaches
returns-then-not-reaches c =
    let pre = c.requires in
    drawn_not _ _ _ _ _ pre.0 false _ (reached _ _ _ _ false c.strength_of-held.ensures c.reaches.ensures (not-true _ (ap not c.if-not-reaches.true))) refl refl pre.1

pub returns-then-iterations-eq0 : goal.returns-then-iterations-eq0
returns-then-iterations-eq0 c =
    let pre = c.requires in
    drawn_not _ _ _ _ _ pre.0 true false (reached _ _ _ _ true c.strength_of-held.ensures c.reaches.ensures (not-false _ (ap not c.if-not-reaches.false))) (none_run _ c.if-iterations-eq0.true) refl pre.1

pub sparse_passes-requires : goal.sparse_passes-requires
sparse_passes-requires c =
    (c.requires.0, acts_five _ _ (reached _ _ _ _ true c.strength_of-held.ensures c.reaches.ensures (not-false _ (ap not c.if-not-reaches.false))))

pub returns : goal.returns
returns c =
    let pre = c.requires in
    let done = c.sparse_passes.ensures in
    drawn_so _ _ _ _ _ pre.0 true true (reached _ _ _ _ true c.strength_of-held.ensures c.reaches.ensures (not-false _ (ap not c.if-not-reaches.false))) (some_run _ c.if-iterations-eq0.false) refl
    _ _ _ _ _ c.step_of-step.ensures c.strength_of-held.ensures c.min-most.ensures done.0 done.1
    c.name_inner.ensures
