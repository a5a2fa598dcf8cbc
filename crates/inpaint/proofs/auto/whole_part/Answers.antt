-- `inpaint::auto::whole_part` meets its contract: each way out is a line of the cut, by cases on the float.
-- Assumes nothing.
use Rattle.std.proofs.Common.{sym}
use Rattle.inpaint.proofs.auto.Laws.{cut_below, cut_negative, cut_past, cut_nan}
use Rattle.inpaint.proofs.auto.whole_part.Goals as goal

pub truncating_f32_to_u64-requires : goal.truncating_f32_to_u64-requires
truncating_f32_to_u64-requires c =
    let within = cut_below c.args.x c.if-x.true c.if-x-2.true in
    record { lower_bound = within.0; upper_bound = within.1 }

pub returns-else-x-2 : goal.returns-else-x-2
returns-else-x-2 c = cut_negative _ c.if-x-2.false

pub returns-then-is_nan : goal.returns-then-is_nan
returns-then-is_nan c = cut_nan _ (sym c.if-is_nan.ensures.value)

pub returns-else-is_nan : goal.returns-else-is_nan
returns-else-is_nan c = cut_past _ c.if-x.false (sym c.if-is_nan.ensures.value)
