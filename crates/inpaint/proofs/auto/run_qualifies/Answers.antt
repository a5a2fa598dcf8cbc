-- `inpaint::auto::run_qualifies` meets its contract: each way out is a line of the rule. Assumes nothing.
use Rattle.std.proofs.Common.{sym, ◌∙◌, arith}
use Rattle.inpaint.proofs.auto.Runs.{keeps_one, qualifies_short, qualifies_gap}
use Rattle.inpaint.proofs.auto.run_qualifies.Goals as goal

pub overflow_add-start : goal.overflow_add-start
overflow_add-start c = omega (arith, keeps_one _ _ c.kept_of.ensures)

pub overflow_sub-len : goal.overflow_sub-len
overflow_sub-len c = omega (arith, keeps_one _ _ c.kept_of-then-is_long_enough.ensures)

pub is_gap_allowed-requires : goal.is_gap_allowed-requires
is_gap_allowed-requires c =
    omega (arith, keeps_one _ _ c.kept_of.ensures, c.kept_of-then-is_long_enough.ensures ∙ sym c.kept_of.ensures)

pub returns-then-is_long_enough : goal.returns-then-is_long_enough
returns-then-is_long_enough c =
    let same = c.kept_of-then-is_long_enough.ensures ∙ sym c.kept_of.ensures in
    c.is_gap_allowed.ensures
    ∙ rw same (qualifies_gap _ _ _ _ _ _ (sym c.is_long_enough.ensures ∙ c.if-is_long_enough.true) _ c.kept_of.ensures)

pub returns-else-is_long_enough : goal.returns-else-is_long_enough
returns-else-is_long_enough c =
    c.if-is_long_enough.false ∙ qualifies_short _ _ _ _ _ _ (sym c.is_long_enough.ensures ∙ c.if-is_long_enough.false)
