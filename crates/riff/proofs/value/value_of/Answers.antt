-- `riff::value::value_of` meets its contract: the whole number is one of 16 bits, so that neither the casts nor the difference lose
-- anything. Assumes nothing.
use Rattle.std.proofs.Common.{◌≡◌, arith}
use lib.Ieee.{neg}
use Rattle.leaves.proofs.Literals.{nought_word}
use Rattle.riff.specs.Values.{whole_of}
use Rattle.riff.proofs.Values.{Sixteen, Cast, whole_by_code, whole_sixteen, negated, plain, value_negated, value_plain}
use Rattle.riff.proofs.value.value_of.Goals as goal

pub truncating_f32_to_u64-requires : goal.truncating_f32_to_u64-requires
truncating_f32_to_u64-requires c =
    let below : Cast 1 32768 (neg c.clamp-whole.result) = let sixteen : Sixteen c.clamp-whole.result = let whole : c.clamp-whole.result ≡ whole_of c.args.word = whole_by_code _ _ _ _ c.f32_of_word.ensures c.round_to_whole.ensures c.clamp-whole.ensures in
    rw whole (whole_sixteen _ c.requires) in
    negated _ sixteen (rw nought_word at c.if-whole.true) in
    record { lower_bound = below.above; upper_bound = below.under }

pub overflow_sub-result : goal.overflow_sub-result
overflow_sub-result c =
    let below : Cast 1 32768 (neg c.clamp-whole.result) = let sixteen : Sixteen c.clamp-whole.result = let whole : c.clamp-whole.result ≡ whole_of c.args.word = whole_by_code _ _ _ _ c.f32_of_word.ensures c.round_to_whole.ensures c.clamp-whole.ensures in
    rw whole (whole_sixteen _ c.requires) in
    negated _ sixteen (rw nought_word at c.if-whole.true) in
    omega (arith, below.upper)

pub overflow_cast-result-then-whole : goal.overflow_cast-result-then-whole
overflow_cast-result-then-whole c =
    let below : Cast 1 32768 (neg c.clamp-whole.result) = let sixteen : Sixteen c.clamp-whole.result = let whole : c.clamp-whole.result ≡ whole_of c.args.word = whole_by_code _ _ _ _ c.f32_of_word.ensures c.round_to_whole.ensures c.clamp-whole.ensures in
    rw whole (whole_sixteen _ c.requires) in
    negated _ sixteen (rw nought_word at c.if-whole.true) in
    omega (arith, below.lower)

pub truncating_f32_to_u64-requires-else-whole : goal.truncating_f32_to_u64-requires-else-whole
truncating_f32_to_u64-requires-else-whole c =
    let above : Cast 0 32767 c.clamp-whole.result = let sixteen : Sixteen c.clamp-whole.result = let whole : c.clamp-whole.result ≡ whole_of c.args.word = whole_by_code _ _ _ _ c.f32_of_word.ensures c.round_to_whole.ensures c.clamp-whole.ensures in
    rw whole (whole_sixteen _ c.requires) in
    plain _ sixteen (rw nought_word at c.if-whole.false) in
    record { lower_bound = above.above; upper_bound = above.under }

pub overflow_cast-result-else-whole : goal.overflow_cast-result-else-whole
overflow_cast-result-else-whole c =
    let above : Cast 0 32767 c.clamp-whole.result = let sixteen : Sixteen c.clamp-whole.result = let whole : c.clamp-whole.result ≡ whole_of c.args.word = whole_by_code _ _ _ _ c.f32_of_word.ensures c.round_to_whole.ensures c.clamp-whole.ensures in
    rw whole (whole_sixteen _ c.requires) in
    plain _ sixteen (rw nought_word at c.if-whole.false) in
    omega (arith, above.upper)

pub returns-then-whole : goal.returns-then-whole
returns-then-whole c =
    let whole : c.clamp-whole.result ≡ whole_of c.args.word = whole_by_code _ _ _ _ c.f32_of_word.ensures c.round_to_whole.ensures c.clamp-whole.ensures in
    value_negated _ _ _ whole (rw nought_word at c.if-whole.true) c.truncating_f32_to_u64.ensures

pub returns-else-whole : goal.returns-else-whole
returns-else-whole c =
    let whole : c.clamp-whole.result ≡ whole_of c.args.word = whole_by_code _ _ _ _ c.f32_of_word.ensures c.round_to_whole.ensures c.clamp-whole.ensures in
    value_plain _ _ _ whole (rw nought_word at c.if-whole.false) c.truncating_f32_to_u64-else-whole.ensures
