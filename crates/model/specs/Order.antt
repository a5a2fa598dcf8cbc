-- How far the model got: request P8 of document 02, whose sentences the comments quote. "The prediction step must also answer the
-- highest order it used, 0 when it stopped at once." A rule of its own beside that of the coefficients (Model.antt), over the same
-- lags and the same recursion. Definitions, and then four statements, which are proved under the same names, written small, in
-- proofs/Orders.antt, which nobody has to read.
use Rattle.std.specs.Prelude.{ℕ, zero, suc, ◌+◌, ◌-◌, ◌≤◌, ◌<◌, ◌≡◌, List, length, set, Float}
use Rattle.std.specs.Float.Ieee.{add, sub, mul, div, neg, lt, le}
use Rattle.std.specs.Prelude.{if◌then◌else◌}
use Rattle.leaves.specs.Arithmetic.{◌+₆₄◌, ◌-₆₄◌, ◌*₆₄◌, ◌/₆₄◌, nought, one, at}
use Rattle.leaves.specs.Floats.{magnitude}
use Rattle.model.specs.Model.{micro, pico, lags, unit, shortfall, raised, levinson, estimate_ar_known, pass}

-- ---- The rule

-- "the highest order it used", of the orders from i on, n of them: where "it stops at |e|<1e-12 before using k", and where no order is
-- left, that is the order before i; where it stops "at e≤0 after it", that is i
unfoldable pub highest_used : List Float → List Float → Float → ℕ → ℕ → ℕ
unfolding shortfall raised mul div neg sub lt le pico
highest_used r a e i zero = i - 1
highest_used r a e i (suc n) =
    let k = neg (shortfall a r i) /₆₄ e in
    let a' = raised a i k in
    let e' = e *₆₄ (one -₆₄ k *₆₄ k) in
    let on = highest_used r a' e' (i + 1) n in
    if lt (magnitude e) pico then i - 1 else
    if le e' nought then i else
    on

-- from order 1 on, with the model 1,0,..,0 and e = r[0]
unfoldable pub levinson_order : List Float → ℕ → ℕ
unfolding highest_used
levinson_order r p = highest_used r (unit p) (at r 0) 1 p

-- "0 when it stopped at once": where r[0] is at most 0 no order is used at all
unfoldable pub model_order : List Float → ℕ → ℕ → ℕ → ℕ
unfolding lags levinson_order le mul add micro
model_order seg g len p =
    let r = lags seg g len p in
    let order = levinson_order (set r 0 (at r 0 *₆₄ (one +₆₄ micro))) p in
    if le (at r 0) nought then 0 else order

-- the order of the last of so many passes, which is the one that fills the gap: "any number is allowed, 0 means 1."
unfoldable pub passes_order : ℕ → ℕ → ℕ → ℕ → List Float → ℕ
unfolding pass model_order
passes_order zero g len p seg = model_order seg g len p
passes_order (suc zero) g len p seg = model_order seg g len p
passes_order (suc (suc n)) g len p seg = passes_order (suc n) g len p (pass g len p seg)

-- ---- What ties it to the coefficients

-- so many orders of the recursion, from i on, with none of its tests
unfoldable pub order_after_order : List Float → List Float → Float → ℕ → ℕ → List Float
unfolding shortfall raised mul div neg sub
order_after_order r a e i zero = a
order_after_order r a e i (suc n) =
    let k = neg (shortfall a r i) /₆₄ e in
    order_after_order r (raised a i k) (e *₆₄ (one -₆₄ k *₆₄ k)) (i + 1) n

-- the coefficients are those of just so many orders as the order says
abbrev pub SoManyOrders : Type 0
SoManyOrders =
    (r : List Float) (p : ℕ) → levinson r p ≡ order_after_order r (unit p) (at r 0) 1 (levinson_order r p)

-- and those behind it are +0
abbrev pub BehindIsZero : Type 0
BehindIsZero =
    (seg : List Float) (g len p i : ℕ) → model_order seg g len p < i → i ≤ p → at (estimate_ar_known seg g len p) i ≡ nought

-- it is at most p
abbrev pub OrderAtMost : Type 0
OrderAtMost = (seg : List Float) (g len p : ℕ) → model_order seg g len p ≤ p

-- every count of passes gives the same
abbrev pub EveryPassAlike : Type 0
EveryPassAlike =
    (n : ℕ) (seg : List Float) (g len p : ℕ) → g + len ≤ length seg → passes_order n g len p seg ≡ model_order seg g len p
