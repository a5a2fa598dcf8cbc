-- The model fill of a gap: document 01's inpaint.rs from "r[lag]" on, over lists. Each rule keeps the name, the structure and the
-- order of operations of the source's function. A window is a list `seg` of doubles; the gap is its `len` places from `g` on, and
-- `p` is the order of the model. Definitions only.
use Rattle.std.specs.Prelude.{ℕ, zero, suc, ◌+◌, ◌-◌, ◌*◌, max, min, Bool, ◌&&◌, ◌||◌, List, [], ◌∷◌, ◌++◌, length, set, replicate, take, drop, leb, ltb, eqb, Float}
use Rattle.std.specs.Float.{binary64}
use Rattle.std.specs.Float.Ieee.{add, sub, mul, div, neg, lt, le}
use Rattle.std.specs.Prelude.{if◌then◌else◌}
use Rattle.leaves.specs.Arithmetic.{◌+₆₄◌, ◌-₆₄◌, ◌*₆₄◌, ◌/₆₄◌, nought, one, near, at}
use Rattle.leaves.specs.Floats.{magnitude, larger}
use Rattle.leaves.specs.Root.{root}

-- "p is len held to 32..128"
abbrev pub order_for : ℕ → ℕ
order_for len = min (max len 32) 128

-- "Workspace, in doubles: window + len*(p+1) + 3*len + 4*(p+1)", for a window of `size` samples
abbrev pub doubles_for : ℕ → ℕ → ℕ → ℕ
doubles_for size len p = size + len * (p + 1) + 3 * len + 4 * (p + 1)

-- the most samples that a window has: a gap of 2048, and a context of 4 * 2048 on either side of it
abbrev pub most_window : ℕ
most_window = 18432

-- the 1e-6 of "1+1e-6" and of "1e-6*b[0]"
unfoldable pub micro : Float
unfolding near
micro = near binary64 1 1000000

-- the 1e-12 of "|e|<1e-12" and of the pivot
unfoldable pub pico : Float
unfolding near
pico = near binary64 1 1000000000000

-- ---- Sums and lists

-- s with f i, f (i + 1), .. added in turn, n of them
unfoldable pub plus : (ℕ → Float) → ℕ → ℕ → Float → Float
unfolding add
plus f i zero s = s
plus f i (suc n) s = plus f (i + 1) n (s +₆₄ f i)

-- s with f i, f (i + 1), .. taken away in turn, n of them
unfoldable pub minus : (ℕ → Float) → ℕ → ℕ → Float → Float
unfolding sub
minus f i zero s = s
minus f i (suc n) s = minus f (i + 1) n (s -₆₄ f i)

-- s with those of the n from i on added in turn whose places pass a test
unfoldable pub plus_where : (ℕ → Bool) → (ℕ → Float) → ℕ → ℕ → Float → Float
unfolding add
plus_where test f i zero s = s
plus_where test f i (suc n) s = plus_where test f (i + 1) n (if test i then s +₆₄ f i else s)

-- f i, f (i + 1), ..: n of them
unfoldable pub each : (ℕ → Float) → ℕ → ℕ → List Float
each f i zero = []
each f i (suc n) = f i ∷ each f (i + 1) n

-- ---- estimate_ar_known

-- "Everything in it outside the gap is known"
abbrev pub known : ℕ → ℕ → ℕ → Bool
known g len i = ltb i g || leb (g + len) i

-- "r[lag] ..: sum over ascending i of products of known pairs"
unfoldable pub lag_sum : List Float → ℕ → ℕ → ℕ → Float
unfolding plus_where mul
lag_sum seg g len lag =
    plus_where (λ i. known g len i && known g len (i - lag)) (λ i. at seg i *₆₄ at seg (i - lag)) lag (length seg - lag) nought

-- "lag 0..p"
unfoldable pub lags : List Float → ℕ → ℕ → ℕ → List Float
unfolding each lag_sum
lags seg g len p = each (lag_sum seg g len) 0 (p + 1)

-- "the model is 1,0,..,0"
abbrev pub unit : ℕ → List Float
unit p = one ∷ replicate p nought

-- ---- levinson

-- what the i-th order has to make up for
unfoldable pub shortfall : List Float → List Float → ℕ → Float
unfolding plus mul
shortfall a r i = plus (λ j. at a j *₆₄ at r (i - j)) 1 (i - 1) (at r i)

-- the order i: each coefficient between the first and the i-th gains k times its mirror, and the i-th is k
unfoldable pub raised_at : List Float → ℕ → Float → ℕ → Float
unfolding add mul
raised_at a i k j =
    if ltb 0 j && ltb j i then at a j +₆₄ k *₆₄ at a (i - j) else
    if eqb j i then k else
    at a j

-- so all of them
unfoldable pub raised : List Float → ℕ → Float → List Float
unfolding each raised_at
raised a i k = each (raised_at a i k) 0 (length a)

-- the orders from i on, n of them: "it stops at |e|<1e-12 before using k, and at e≤0 after it"
unfoldable pub orders : List Float → List Float → Float → ℕ → ℕ → List Float
unfolding shortfall raised mul div neg sub lt le pico
orders r a e i zero = a
orders r a e i (suc n) =
    let k = neg (shortfall a r i) /₆₄ e in
    let a' = raised a i k in
    let e' = e *₆₄ (one -₆₄ k *₆₄ k) in
    let on = orders r a' e' (i + 1) n in
    if lt (magnitude e) pico then a else
    if le e' nought then a' else
    on

-- from order 1 on, with the model 1,0,..,0 and e = r[0]
unfoldable pub levinson : List Float → ℕ → List Float
unfolding orders
levinson r p = orders r (unit p) (at r 0) 1 p

-- "If r[0]≤0 the model is 1,0,..,0. Else r[0] is multiplied by 1+1e-6 and `levinson` runs"
unfoldable pub estimate_ar_known : List Float → ℕ → ℕ → ℕ → List Float
unfolding lags levinson le mul add micro
estimate_ar_known seg g len p =
    let r = lags seg g len p in
    let model = levinson (set r 0 (at r 0 *₆₄ (one +₆₄ micro))) p in
    if le (at r 0) nought then unit p else model

-- ---- coef_autocorr

-- b[j]: the sum of a[k] a[k + j]
unfoldable pub coef_at : List Float → ℕ → ℕ → Float
unfolding plus mul
coef_at a p j = plus (λ k. at a k *₆₄ at a (k + j)) 0 (p + 1 - j) nought

-- all of b
unfoldable pub coef_autocorr : List Float → ℕ → List Float
unfolding each coef_at
coef_autocorr a p = each (coef_at a p) 0 (p + 1)

-- ---- solve_gap

-- the matrix at a place d before the diagonal: b by the distance from the diagonal; "diagonal plus 1e-6*b[0]"
unfoldable pub laid : List Float → ℕ → Float
unfolding add mul micro
laid b d = if eqb d 0 then at b 0 +₆₄ micro *₆₄ at b 0 else at b d

-- "right side from known neighbours within p": of the gap's place c, those before the gap, then those behind it, ascending
unfoldable pub right_side : List Float → ℕ → ℕ → List Float → ℕ → ℕ → Float
unfolding plus mul neg
right_side seg g len b p i =
    let c = g + i in
    let end = g + len in
    let before = plus (λ x. at b (c - x) *₆₄ at seg x) (c - p) (g - (c - p)) nought in
    neg (plus (λ x. at b (x - c) *₆₄ at seg x) end (min (c + p + 1) (length seg) - end) before)

-- of all the gap's places
unfoldable pub right_sides : List Float → ℕ → ℕ → List Float → ℕ → List Float
unfolding each right_side
right_sides seg g len b p = each (right_side seg g len b p) 0 len

-- ---- solve_spd_banded

-- The lower triangle's band: row after row, of each the p + 1 places up to the diagonal. mat[i][j] stands at p * (i + 1) + j, for
-- j from i - p to i.
abbrev pub mat : ℕ → List Float → ℕ → ℕ → Float
mat p band i j = at band (p * (i + 1) + j)

-- the place of row i that is d before the diagonal, with those before it in the band: "banded Cholesky, pivot raised to at
-- least 1e-12 before its square root". A place before column 0 is left +0.
unfoldable pub cell_at : List Float → ℕ → List Float → ℕ → ℕ → Float
unfolding laid minus mul div larger root pico
cell_at b p band i d =
    let j = i - d in
    let low = i - p in
    let sum = minus (λ k. mat p band i k *₆₄ mat p band j k) low (j - low) (laid b d) in
    if ltb i d then nought else
    if eqb d 0 then root (larger sum pico) else
    sum /₆₄ mat p band j j

-- the n last places of row i, behind those that stand in the band
unfoldable pub cells : List Float → ℕ → ℕ → ℕ → List Float → List Float
unfolding cell_at
cells b p i zero band = band
cells b p i (suc d) band = cells b p i d (band ++ (cell_at b p band i d ∷ []))

-- the n rows from the i-th on, behind those that stand in the band
unfoldable pub rows : List Float → ℕ → ℕ → ℕ → List Float → List Float
unfolding cells
rows b p i zero band = band
rows b p i (suc n) band = rows b p (i + 1) n (cells b p i (p + 1) band)

-- all rows
unfoldable pub factored : List Float → ℕ → ℕ → List Float
unfolding rows
factored b p len = rows b p 0 len []

-- "forward .. solves": y[i], with those before it in y
unfoldable pub forward_at : List Float → List Float → ℕ → List Float → Float
unfolding minus mul div
forward_at band rhs p y =
    let i = length y in
    minus (λ k. mat p band i k *₆₄ at y k) (i - p) (i - (i - p)) (at rhs i) /₆₄ mat p band i i

-- the next n, behind those that stand in y
unfoldable pub forward : List Float → List Float → ℕ → ℕ → List Float → List Float
unfolding forward_at
forward band rhs p zero y = y
forward band rhs p (suc n) y = forward band rhs p n (y ++ (forward_at band rhs p y ∷ []))

-- "back solves": x[i], with those from i + 1 on in x
unfoldable pub backward_at : List Float → List Float → ℕ → ℕ → ℕ → List Float → Float
unfolding minus mul div
backward_at band y p len i x =
    let high = min (i + p) (len - 1) in
    minus (λ k. mat p band k i *₆₄ at x (k - (i + 1))) (i + 1) (high - i) (at y i) /₆₄ mat p band i i

-- the first n, before those that stand in x
unfoldable pub backward : List Float → List Float → ℕ → ℕ → ℕ → List Float → List Float
unfolding backward_at
backward band y p len zero x = x
backward band y p len (suc i) x = backward band y p len i (backward_at band y p len i x ∷ x)

-- "banded Cholesky ..; forward and back solves"
unfoldable pub solve_spd_banded : List Float → List Float → ℕ → ℕ → List Float
unfolding factored forward backward
solve_spd_banded b rhs p len =
    let band = factored b p len in
    backward band (forward band rhs p len []) p len len []

-- ---- The passes

-- the gap's doubles after one pass: a model of what is known, and the gap that fits it best
unfoldable pub solved : List Float → ℕ → ℕ → ℕ → List Float
unfolding estimate_ar_known coef_autocorr right_sides solve_spd_banded
solved seg g len p =
    let b = coef_autocorr (estimate_ar_known seg g len p) p in
    solve_spd_banded b (right_sides seg g len b p) p len

-- one pass: the window with the gap so filled
unfoldable pub pass : ℕ → ℕ → ℕ → List Float → List Float
unfolding solved
pass g len p seg = take g seg ++ (solved seg g len p ++ drop (g + len) seg)

-- "The pass count: any number is allowed, 0 means 1."
unfoldable pub passes : ℕ → ℕ → ℕ → ℕ → List Float → List Float
unfolding pass
passes zero g len p seg = pass g len p seg
passes (suc zero) g len p seg = pass g len p seg
passes (suc (suc n)) g len p seg = passes (suc n) g len p (pass g len p seg)

-- the gap's doubles after so many passes
unfoldable pub filled : ℕ → List Float → ℕ → ℕ → List Float
unfolding passes
filled n seg g len = take len (drop g (passes n g len (order_for len) seg))
