-- `inpaint::auto::write_order` meets its contract: what would be stored behind the list's end is left out. Assumes nothing.
use Rattle.std.proofs.Common.{◌≡◌, ℕ, zero, suc, ◌+◌, ◌-◌, ◌<◌, ◌≤◌, leb, List, length, replicate, sym, ap, ◌∙◌, inl, inr, arith, leb-true, leb-false}
use lib.ListN.{set, length-set}
use lib.Seq.{sets}
use Rattle.leaves.proofs.Choice.{truth}
use Rattle.leaves.proofs.Lists.{none_stored}
use Rattle.inpaint.proofs.auto.write_order.Goals as goal

-- as many as the list has places for are all that is stored
stored_cut : (xs : List ℕ) (a count more v : ℕ) → length xs ≤ a + count
    → sets xs a (replicate count v) ≡ sets xs a (replicate (count + more) v)
stored_cut xs a zero more v h = sym (none_stored xs (replicate (0 + more) v) a (omega (arith, h)))
stored_cut xs a (suc c) more v h =
    let one : suc (c + more) ≡ suc c + more = omega arith in
    stored_cut (set xs a v) (suc a) c more v (omega (arith, h, length-set xs a v)) ∙ ap (λ (n : ℕ). sets xs a (replicate n v)) one

stored_within : (xs : List ℕ) (a end len v : ℕ) → end ≤ a + len → (end < length xs → end ≡ a + len)
    → sets xs a (replicate (end - a) v) ≡ sets xs a (replicate len v)
stored_within xs a end len v most within = elim (truth (leb (length xs) end)) [
  | inl past ↦
      let all : (end - a) + (len - (end - a)) ≡ len = omega (arith, most) in
      stored_cut xs a (end - a) (len - (end - a)) v (omega (arith, leb-true _ _ past)) ∙ ap (λ (n : ℕ). sets xs a (replicate n v)) all
  | inr there ↦
      let all : end - a ≡ len = omega (arith, within (leb-false (length xs) end there)) in
      ap (λ (n : ℕ). sets xs a (replicate n v)) all
]

pub returns-then-start-end : goal.returns-then-start-end
returns-then-start-end c =
    let a = c.args in
    c.set_all.ensures
    ∙ stored_within a.orders.now a.start c.min-end.result a.len a.order (omega (arith, c.min-end.ensures, c.saturating_add.ensures))
    (λ h. omega (arith, h, c.min-end.ensures, c.saturating_add.ensures))

pub returns-else-start-end : goal.returns-else-start-end
returns-else-start-end c =
    let a = c.args in
    let none : c.min-end.result - a.start ≡ 0 = omega (arith, c.if-start-end.false) in
    sym (ap (λ (n : ℕ). sets a.orders.now a.start (replicate n a.order)) none)
    ∙ stored_within a.orders.now a.start c.min-end.result a.len a.order (omega (arith, c.min-end.ensures, c.saturating_add.ensures))
    (λ h. omega (arith, h, c.min-end.ensures, c.saturating_add.ensures))
