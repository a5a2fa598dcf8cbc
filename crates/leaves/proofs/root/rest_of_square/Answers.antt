-- `leaves::root::rest_of_square` meets its contract. The square in two halves, and that its parts fit, are laws of
-- `../Squares.antt`; over the three parts all else is linear. Assumes nothing.
use Rattle.std.proofs.Common.{◌≡◌, ℕ, ◌+◌, ◌-◌, ◌*◌, ◌^◌, ◌<◌, ◌≤◌, arith}
use Rattle.leaves.proofs.root.Squares.{high, low, square_of_halves, product_small, low_square_small}
use Rattle.leaves.proofs.root.rest_of_square.Goals as goal

-- the products are taken away from the digits, and the square of the lower half from what they leave
taken_away : (digits root left rest : ℕ) → high root * high root ≤ digits
    → (left < 2 ^ 63 → (digits - high root * high root) * 2 ^ 26 ≡ 2 * high root * low root + left)
    → left * 2 ^ 26 ≡ low root * low root + rest → rest < 2 ^ 63 → digits * 2 ^ 52 ≡ root * root + rest
taken_away digits root left rest under first second h =
    let left_is = first (omega (arith, low_square_small root)) in
    omega (arith, square_of_halves root)

-- a small rest is found: what is left before it is small enough to bring digits down to
found : (digits root left r rest : ℕ) → root < 2 ^ 53 → high root * high root ≤ digits
    → ((x : ℕ) → digits - high root * high root ≤ 2 ^ 36 → (digits - high root * high root) * 2 ^ 26 ≡ 2 * high root * low root + x → left ≡ x)
    → ((x : ℕ) → left ≤ 2 ^ 36 → left * 2 ^ 26 ≡ low root * low root + x → r ≡ x)
    → rest < 2 ^ 60 → digits * 2 ^ 52 ≡ root * root + rest → r ≡ rest
found digits root left r rest small under first second h e =
    let square = square_of_halves root in
    let product-fits = product_small root small in
    let low_fits = low_square_small root in
    let left_is = first ((digits - high root * high root) * 2 ^ 26 - 2 * high root * low root) (omega arith) (omega arith) in
    second rest (omega arith) (omega arith)

pub returns-then-digits-high : goal.returns-then-digits-high
returns-then-digits-high c =
    let square = square_of_halves c.args.root in
    (λ h. absurd (omega (arith, h)), λ rest h e. absurd (omega (arith, square, e, c.if-digits-high.true)))

pub returns : goal.returns
returns c =
    let root = c.args.root in
    let under = c.if-digits-high.false in
    let first = c.brought_down-left.ensures in
    let second = c.brought_down.ensures in
    (λ h. taken_away _ root _ _ under first.0 (second.0 h) h, λ rest. found _ root _ _ rest c.requires under first.1 second.1)
