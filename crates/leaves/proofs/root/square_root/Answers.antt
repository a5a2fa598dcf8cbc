-- `square_root` meets its contract: the doubles that have no root to work out are told apart by their tests, and the
-- rest go to `positive_root`. Assumes nothing.
use Rattle.std.proofs.Common.{T, sym, ◌∙◌, subst, rules}
use lib.Ieee.{binary64, fits, of_bits}
use Rattle.leaves.proofs.words.Laws.{zero_by_zero}
use Rattle.leaves.proofs.root.Steps.{Positive, by_rule, of_nan, of_negative, of_zero, of_infinity, positive_bits}
use Rattle.leaves.proofs.root.square_root.Goals as goal

-- past every test the number is finite and positive
left : (c : goal.Else-bits-eq-INFINITY64) → Positive c.args.x c.word_of_f64-bits.result
unfolding of_bits
left c =
    let held : T (fits binary64 c.args.x) = subst T (sym c.well_formed.0.1) tt in
    positive_bits _ _ held c.word_of_f64-bits.ensures c.if-x.false
    c.if-x-2.false c.if-x-3.false c.if-bits-eq-INFINITY64.false

pub returns-then-x : goal.returns-then-x
returns-then-x c =
    let held : T (fits binary64 c.args.x) = subst T (sym c.well_formed.0.1) tt in
    by_rule _ _ held (zero_by_zero binary64 ∙ of_nan _ c.if-x.true)

pub returns-then-x-2 : goal.returns-then-x-2
unfolding of_bits
returns-then-x-2 c =
    let held : T (fits binary64 c.args.x) = subst T (sym c.well_formed.0.1) tt in
    by_rule _ _ held (zero_by_zero binary64 ∙ of_negative _ c.if-x-2.true)

pub returns-then-x-3 : goal.returns-then-x-3
unfolding of_bits
returns-then-x-3 c =
    let held : T (fits binary64 c.args.x) = subst T (sym c.well_formed.0.1) tt in
    by_rule _ _ held (of_zero _ c.if-x-3.true)

pub returns-then-bits-eq-INFINITY64 : goal.returns-then-bits-eq-INFINITY64
returns-then-bits-eq-INFINITY64 c =
    let held : T (fits binary64 c.args.x) = subst T (sym c.well_formed.0.1) tt in
    by_rule _ _ held (of_infinity _ held (sym c.word_of_f64-bits.ensures ∙ c.if-bits-eq-INFINITY64.true))

pub positive_root-requires : goal.positive_root-requires
positive_root-requires c = ((left c).bounds.0, (left c).bounds.1)

pub returns : goal.returns
returns c = (left c.before).rooted _ (search rules) c.positive_root.ensures
