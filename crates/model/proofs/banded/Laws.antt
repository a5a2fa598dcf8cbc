-- The banded equations: what the code's literals are, where a place of the band lies, each place of a row and of
-- the two solves by the code's steps, and one turn of each loop over the workspace. Assumes nothing.
use mathlib.Core.Path.{◌≡◌, refl, sym, ap, ◌∙◌}
use mathlib.Core.List.{List, [], ◌∷◌, ◌++◌}
use Prim.Native.Nat.{ℕ, zero, suc, ◌+◌, ◌-◌, ◌*◌, ◌≤◌, ◌<◌, min}
use native.Mathlib.Omega.{arith}
use native.Mathlib.Nat.{zero-add, zero-mul, sub-zero, mul-add, mul-one, mul_comm, mul-le-mul_right}
use borrow.Author.Tests.{lt-ltb, le-ltb, eq-eqb, ne_eqb}
use lib.Ieee.{Float, binary64, of_bits}
use lib.ListN.{length, set, take, drop, length-append}
use lib.Seq.{sets, sets-eq, length-sets}
use Rattle.leaves.specs.Arithmetic.{◌+₆₄◌, ◌*₆₄◌, ◌/₆₄◌, at}
use Rattle.leaves.specs.Floats.{larger}
use Rattle.leaves.specs.Root.{root}
use Rattle.model.specs.Model.{minus, mat, laid, cell_at, cells, rows, factored}
use Rattle.model.specs.Model.{forward_at, forward, backward_at, backward}
use Rattle.model.specs.Areas.{area}
use Rattle.leaves.proofs.Parts.{take-sets, drop-sets, store_next, store_before, part_length, part_of_sets}
use Rattle.leaves.proofs.Parts.{part_before_sets, part_grows}
use Rattle.leaves.proofs.Literals.{nought_double}
use Rattle.model.proofs.sums.Laws.{micro_word, pico_word}

-- ---- Where a place of the band lies

-- rows of the band, one more
pub row_more : (i p : ℕ) → (i + 1) * (p + 1) ≡ i * (p + 1) + (p + 1)
row_more i p = omega (arith, mul_comm (i + 1) (p + 1), mul_comm i (p + 1), mul-add (p + 1) i 1, mul-one (p + 1))

-- ---- laid

pub laid_diagonal : (b : List Float) (d : ℕ) → d ≡ 0
    → at b 0 +₆₄ of_bits binary64 4517329193108106637 *₆₄ at b 0 ≡ laid b d
unfolding laid
laid_diagonal b d h = rw (eq-eqb _ _ h, micro_word) refl

pub laid_below : (b : List Float) (d : ℕ) → (d ≡ 0 → ⊥) → at b d ≡ laid b d
unfolding laid
laid_below b d h = rw (ne_eqb _ _ h) refl

-- ---- A place of the factor, by the code's steps

module _ (b : List Float) (p : ℕ) (band : List Float) (i d : ℕ) where
  pub cell_outside : i < d → of_bits binary64 0 ≡ cell_at b p band i d
  unfolding cell_at
  cell_outside h = rw (lt-ltb _ _ h, nought_double) refl

  module _ (low : ℕ) (v sum : Float) (h : d ≤ i) (el : low ≡ i - p) (ev : v ≡ laid b d)
      (es : sum ≡ minus (λ k. at band (p * (i + 1) + k) *₆₄ at band (p * (i - d + 1) + k)) low (i - d - low) v)
    where
      pub cell_diagonal : (m r : Float) → d ≡ 0 → m ≡ larger sum (of_bits binary64 4427486594234968593) → r ≡ root m
          → r ≡ cell_at b p band i d
      unfolding cell_at
      cell_diagonal m r z em er = rw (er, em, pico_word, es, ev, el, le-ltb _ _ h, eq-eqb _ _ z) refl

      pub cell_below : (d ≡ 0 → ⊥) → sum /₆₄ at band (p * (i - d + 1) + (i - d)) ≡ cell_at b p band i d
      unfolding cell_at
      cell_below z = rw (es, ev, el, le-ltb _ _ h, ne_eqb _ _ z) refl

-- ---- A place of each solve

pub forward_place : (band rhs : List Float) (p : ℕ) (y : List Float) (low : ℕ) (sum : Float) → low ≡ length y - p
    → sum ≡ minus (λ k. at band (p * (length y + 1) + k) *₆₄ at y (0 + k)) low (length y - low) (at rhs (length y))
    → sum /₆₄ at band (p * (length y + 1) + length y) ≡ forward_at band rhs p y
unfolding forward_at
forward_place band rhs p y low sum el es = rw (es, el) (simp zero-add)

pub backward_place : (band y : List Float) (p i : ℕ) (x : List Float) (high : ℕ) (sum : Float)
    → high ≡ min (i + p) (length y - 1)
    → sum ≡ minus (λ k. mat p band k i *₆₄ at x (k - (i + 1))) (i + 1) (high - i) (at y i)
    → sum /₆₄ at band (p * (i + 1) + i) ≡ backward_at band y p (length y) i x
unfolding backward_at
backward_place band y p i x high sum eh es = rw (es, eh) refl

-- ---- Parts of the workspace, as the code lends them

abbrev pub lent : List Float → ℕ → ℕ → List Float
lent w from n = take (from + n - from) (drop from w)

pub lent_area : (w : List Float) (from n : ℕ) → lent w from n ≡ area w from n
lent_area w from n = let count : from + n - from ≡ n = omega arith in ap (λ (k : ℕ). take k (drop from w)) count

pub lent_length : (w : List Float) (from n : ℕ) → from + n ≤ length w → length (lent w from n) ≡ n
lent_length w from n h = ap length (lent_area w from n) ∙ part_length w from n h

-- a part before a run of stores is lent as it was
pub lent_before : (w₀ w l : List Float) (d from n : ℕ) → w ≡ sets w₀ d l → from + n ≤ d → lent w from n ≡ area w₀ from n
lent_before w₀ w l d from n e h =
    lent_area w from n ∙ ap (λ (z : List Float). area z from n) e ∙ part_before_sets w₀ l d from n h

-- ---- A run of stores: one more behind it, one more before it, and a longer one in its place

pub run_grows : (w₀ w : List Float) (d c : ℕ) (v : Float) → d + c < length w → w ≡ sets w₀ d (area w d c)
    → set w (d + c) v ≡ sets w₀ d (area (set w (d + c) v) d (c + 1))
run_grows w₀ w d c v h e =
    let count : length (area w d c) ≡ c = part_length w d c (omega arith) in
    ap (λ (z : List Float). set z (d + c) v) e
    ∙ ap (λ (k : ℕ). set (sets w₀ d (area w d c)) (d + k) v) (sym count)
    ∙ store_next w₀ (area w d c) d v
    ∙ ap (λ (l : List Float). sets w₀ d l) (sym (part_grows w d c v h))

pub run_before : (w₀ w l : List Float) (a d : ℕ) (v : Float) → suc a ≡ d → w ≡ sets w₀ d l
    → set w a v ≡ sets w₀ a (v ∷ l)
run_before w₀ w l a d v n e =
    ap (λ (z : List Float). set z a v) e
    ∙ store_before w₀ l a d v (omega arith)
    ∙ ap (λ (k : ℕ). sets (set w₀ a v) k l) (sym n)

pub run_over : (w l m : List Float) (d : ℕ) → length l ≤ length m → d + length m ≤ length w
    → sets (sets w d l) d m ≡ sets w d m
run_over w l m d h k =
    sets-eq m (sets w d l) d (rw length-sets k)
    ∙ ap (λ (z : List Float). (z ++ m) ++ drop (d + length m) (sets w d l)) (take-sets w l d d (omega arith))
    ∙ ap (λ (z : List Float). (take d w ++ m) ++ z) (drop-sets w l d (d + length m) (omega arith))
    ∙ sym (sets-eq m w d k)

-- ---- One turn of the forward solve, and its end

module _ (w₀ w : List Float) (band rhs y len p i : ℕ) (whole : List Float) (e : w ≡ sets w₀ y (area w y i)) where
  pub forward_turn : (v : Float) → i < len → band + len * (p + 1) ≤ y → rhs + len ≤ y → y + len ≤ length w
      → v ≡ forward_at (lent w band (len * (p + 1))) (lent w rhs len) p (lent w y i)
      → forward (area w₀ band (len * (p + 1))) (area w₀ rhs len) p (len - i) (area w y i) ≡ whole
      → forward (area w₀ band (len * (p + 1))) (area w₀ rhs len) p (len - (i + 1)) (area (set w (y + i) v) y (i + 1))
      ≡ whole
  unfolding forward
  forward_turn v h hb hr hy ev rest =
      let b = area w₀ band (len * (p + 1)) in
      let r = area w₀ rhs len in
      let left : len - i ≡ suc (len - (i + 1)) = omega arith in
      let place : v ≡ forward_at b r p (area w y i) =
      ev
      ∙ ap (λ (z : List Float). forward_at z (lent w rhs len) p (lent w y i))
      (lent_before w₀ w (area w y i) y band (len * (p + 1)) e hb)
      ∙ ap (λ (z : List Float). forward_at b z p (lent w y i)) (lent_before w₀ w (area w y i) y rhs len e hr)
      ∙ ap (λ (z : List Float). forward_at b r p z) (lent_area w y i) in
      ap (λ (z : List Float). forward b r p (len - (i + 1)) z) (part_grows w y i v (omega arith))
      ∙ ap (λ (z : Float). forward b r p (len - (i + 1)) (area w y i ++ (z ∷ []))) place
      ∙ sym (ap (λ (n : ℕ). forward b r p n (area w y i)) left)
      ∙ rest

  pub forward_done : len ≤ i
      → forward (area w₀ band (len * (p + 1))) (area w₀ rhs len) p (len - i) (area w y i) ≡ whole
      → w ≡ sets w₀ y whole
  unfolding forward
  forward_done h rest =
      let none : len - i ≡ 0 = omega arith in
      let all : area w y i ≡ whole =
      sym (ap (λ (n : ℕ). forward (area w₀ band (len * (p + 1))) (area w₀ rhs len) p n (area w y i)) none) ∙ rest in
      e ∙ ap (λ (l : List Float). sets w₀ y l) all

-- ---- One turn of a row of the factor, and its end

module _ (w₀ w : List Float) (b band p i row k : ℕ) (whole : List Float) (e : w ≡ sets w₀ band (area w band (row + k))) where
  pub cells_turn : (v : Float) → k ≤ p → b + (p + 1) ≤ band → band + (row + k) < length w
      → v ≡ cell_at (lent w b (p + 1)) p (lent w band (row + k)) i (p - k)
      → cells (area w₀ b (p + 1)) p i (p + 1 - k) (area w band (row + k)) ≡ whole
      → cells (area w₀ b (p + 1)) p i (p + 1 - (k + 1)) (area (set w (band + (row + k)) v) band (row + (k + 1))) ≡ whole
  unfolding cells
  cells_turn v h hb hw ev rest =
      let bs = area w₀ b (p + 1) in
      let one : p + 1 - k ≡ suc (p - k) = omega arith in
      let left : p + 1 - (k + 1) ≡ p - k = omega arith in
      let next : row + (k + 1) ≡ row + k + 1 = omega arith in
      let place : v ≡ cell_at bs p (area w band (row + k)) i (p - k) =
      ev
      ∙ ap (λ (z : List Float). cell_at z p (lent w band (row + k)) i (p - k))
      (lent_before w₀ w (area w band (row + k)) band b (p + 1) e hb)
      ∙ ap (λ (z : List Float). cell_at bs p z i (p - k)) (lent_area w band (row + k)) in
      rw (left, next)
      (ap (λ (z : List Float). cells bs p i (p - k) z) (part_grows w band (row + k) v hw)
      ∙ ap (λ (z : Float). cells bs p i (p - k) (area w band (row + k) ++ (z ∷ []))) place
      ∙ sym (ap (λ (n : ℕ). cells bs p i n (area w band (row + k))) one)
      ∙ rest)

  pub cells_done : p < k → cells (area w₀ b (p + 1)) p i (p + 1 - k) (area w band (row + k)) ≡ whole → w ≡ sets w₀ band whole
  unfolding cells
  cells_done h rest =
      let none : p + 1 - k ≡ 0 = omega arith in
      let all : area w band (row + k) ≡ whole =
      sym (ap (λ (n : ℕ). cells (area w₀ b (p + 1)) p i n (area w band (row + k))) none) ∙ rest in
      e ∙ ap (λ (l : List Float). sets w₀ band l) all

-- a row adds its places
pub length_cells : (b : List Float) (p i n : ℕ) (l : List Float) → length (cells b p i n l) ≡ length l + n
unfolding cells
length_cells b p i zero l = omega arith
length_cells b p i (suc n) l =
    let next = l ++ (cell_at b p l i n ∷ []) in
    let more : length next ≡ length l + 1 = simp length-append in
    let rest : length (cells b p i n next) ≡ length next + n = length_cells b p i n next in
    omega arith

-- ---- The factor before its first row, one turn of it, and its end

pub none_stored : (w : List Float) (band p : ℕ) → w ≡ sets w band (area w band (0 * (p + 1)))
none_stored w band p = rw zero-mul refl

pub rows_start : (b w : List Float) (band p len : ℕ)
    → rows b p 0 (len - 0) (area w band (0 * (p + 1))) ≡ factored b p len
unfolding factored
rows_start b w band p len = rw (zero-mul, sub-zero) refl

module _ (w₀ w : List Float) (b band len p i : ℕ) (e : w ≡ sets w₀ band (area w band (i * (p + 1)))) where
  module _ (v : List Float) (h : i < len) (hb : b + (p + 1) ≤ band) (hw : band + len * (p + 1) ≤ length w)
      (same : length w ≡ length w₀)
      (ev : v ≡ sets w band (cells (area w b (p + 1)) p i (p + 1) (area w band (i * (p + 1)))))
    where
      abbrev row : List Float
      row = cells (area w b (p + 1)) p i (p + 1) (area w band (i * (p + 1)))

      room : (i + 1) * (p + 1) ≤ len * (p + 1)
      room = mul-le-mul_right (p + 1) (omega arith)

      before : length (area w band (i * (p + 1))) ≡ i * (p + 1)
      before = part_length w band (i * (p + 1)) (omega (arith, room, row_more i p))

      count : length row ≡ (i + 1) * (p + 1)
      count =
          let added = length_cells (area w b (p + 1)) p i (p + 1) (area w band (i * (p + 1))) in
          omega (arith, before, row_more i p)

      grown : area v band ((i + 1) * (p + 1)) ≡ row
      grown =
          ap (λ (z : List Float). area z band ((i + 1) * (p + 1))) ev
          ∙ part_of_sets w row band ((i + 1) * (p + 1)) count (omega (arith, room))

      pub row_length : length v ≡ length w₀
      row_length = ap length ev ∙ length-sets w band row ∙ same

      pub row_stored : v ≡ sets w₀ band (area v band ((i + 1) * (p + 1)))
      row_stored =
          ev
          ∙ ap (λ (z : List Float). sets z band row) e
          ∙ run_over w₀ (area w band (i * (p + 1))) row band (omega (arith, count, before, row_more i p))
          (omega (arith, count, room))
          ∙ ap (λ (l : List Float). sets w₀ band l) (sym grown)

      pub rows_turn : (whole : List Float)
          → rows (area w₀ b (p + 1)) p i (len - i) (area w band (i * (p + 1))) ≡ whole
          → rows (area w₀ b (p + 1)) p (i + 1) (len - (i + 1)) (area v band ((i + 1) * (p + 1))) ≡ whole
      unfolding rows
      rows_turn whole rest =
          let bs = area w₀ b (p + 1) in
          let l = area w band (i * (p + 1)) in
          let left : len - i ≡ suc (len - (i + 1)) = omega arith in
          let kept : area w b (p + 1) ≡ bs =
          ap (λ (z : List Float). area z b (p + 1)) e ∙ part_before_sets w₀ l band b (p + 1) hb in
          ap (λ (z : List Float). rows bs p (i + 1) (len - (i + 1)) z) grown
          ∙ ap (λ (z : List Float). rows bs p (i + 1) (len - (i + 1)) (cells z p i (p + 1) l)) kept
          ∙ sym (ap (λ (n : ℕ). rows bs p i n l) left)
          ∙ rest

  pub rows_done : (whole : List Float) → len ≤ i
      → rows (area w₀ b (p + 1)) p i (len - i) (area w band (i * (p + 1))) ≡ whole
      → w ≡ sets w₀ band whole
  unfolding rows
  rows_done whole h rest =
      let l = area w band (i * (p + 1)) in
      let none : len - i ≡ 0 = omega arith in
      let all : l ≡ whole = sym (ap (λ (n : ℕ). rows (area w₀ b (p + 1)) p i n l) none) ∙ rest in
      e ∙ ap (λ (z : List Float). sets w₀ band z) all

-- ---- One turn of the back solve, and its end

-- what is lent of the results that stand
pub lent_results : (w : List Float) (x i len : ℕ) → 0 < i → i ≤ len
    → take (x + len - (x + (i - 1 + 1))) (drop (x + (i - 1 + 1)) w) ≡ area w (x + i) (len - i)
lent_results w x i len h hi =
    let count : x + len - (x + (i - 1 + 1)) ≡ len - i = omega arith in
    let place : x + (i - 1 + 1) ≡ x + i = omega arith in
    rw (count, place) refl

module _ (w₀ w : List Float) (x len i : ℕ) (e : w ≡ sets w₀ (x + i) (area w (x + i) (len - i))) where
  module _ (v : Float) (h : 0 < i) (hi : i ≤ len) (hx : x + len ≤ length w) (same : length w ≡ length w₀) where
    back_run : set w (x + (i - 1)) v ≡ sets w₀ (x + (i - 1)) (v ∷ area w (x + i) (len - i))
    back_run = run_before w₀ w (area w (x + i) (len - i)) (x + (i - 1)) (x + i) v (omega arith) e

    back_grown : area (set w (x + (i - 1)) v) (x + (i - 1)) (len - (i - 1)) ≡ v ∷ area w (x + i) (len - i)
    back_grown =
        let before : length (area w (x + i) (len - i)) ≡ len - i = part_length w (x + i) (len - i) (omega arith) in
        let count : length (v ∷ area w (x + i) (len - i)) ≡ len - (i - 1) = omega arith in
        ap (λ (z : List Float). area z (x + (i - 1)) (len - (i - 1))) back_run
        ∙ part_of_sets w₀ (v ∷ area w (x + i) (len - i)) (x + (i - 1)) (len - (i - 1)) count (omega arith)

    pub back_stored : set w (x + (i - 1)) v
        ≡ sets w₀ (x + (i - 1)) (area (set w (x + (i - 1)) v) (x + (i - 1)) (len - (i - 1)))
    back_stored = back_run ∙ ap (λ (l : List Float). sets w₀ (x + (i - 1)) l) (sym back_grown)

    pub back_turn : (band y p : ℕ) (whole : List Float) → band + len * (p + 1) ≤ x → y + len ≤ x
        → v ≡ backward_at (lent w band (len * (p + 1))) (lent w y len) p (length (lent w y len)) (i - 1)
        (take (x + len - (x + (i - 1 + 1))) (drop (x + (i - 1 + 1)) w))
        → backward (area w₀ band (len * (p + 1))) (area w₀ y len) p len i (area w (x + i) (len - i)) ≡ whole
        → backward (area w₀ band (len * (p + 1))) (area w₀ y len) p len (i - 1)
        (area (set w (x + (i - 1)) v) (x + (i - 1)) (len - (i - 1)))
        ≡ whole
    unfolding backward
    back_turn band y p whole hb hy ev rest =
        let b = area w₀ band (len * (p + 1)) in
        let ys = area w₀ y len in
        let l = area w (x + i) (len - i) in
        let one : i ≡ suc (i - 1) = omega arith in
        let same-b = lent_before w₀ w l (x + i) band (len * (p + 1)) e (omega arith) in
        let same-y = lent_before w₀ w l (x + i) y len e (omega arith) in
        let count : length (lent w y len) ≡ len = lent_length w y len (omega arith) in
        let place : v ≡ backward_at b ys p len (i - 1) l =
        ev
        ∙ ap (backward_at (lent w band (len * (p + 1))) (lent w y len) p (length (lent w y len)) (i - 1))
        (lent_results w x i len h hi)
        ∙ ap (λ (n : ℕ). backward_at (lent w band (len * (p + 1))) (lent w y len) p n (i - 1) l) count
        ∙ ap (λ (z : List Float). backward_at z (lent w y len) p len (i - 1) l) same-b
        ∙ ap (λ (z : List Float). backward_at b z p len (i - 1) l) same-y in
        ap (λ (z : List Float). backward b ys p len (i - 1) z) back_grown
        ∙ ap (λ (z : Float). backward b ys p len (i - 1) (z ∷ l)) place
        ∙ sym (ap (λ (n : ℕ). backward b ys p len n l) one)
        ∙ rest

  pub back_done : (band y p : ℕ) (whole : List Float) → i ≤ 0
      → backward (area w₀ band (len * (p + 1))) (area w₀ y len) p len i (area w (x + i) (len - i)) ≡ whole
      → w ≡ sets w₀ x whole
  unfolding backward
  back_done band y p whole h rest =
      let none : i ≡ 0 = omega arith in
      let there : x + i ≡ x = omega arith in
      let l = area w (x + i) (len - i) in
      let all : l ≡ whole =
      sym (ap (λ (n : ℕ). backward (area w₀ band (len * (p + 1))) (area w₀ y len) p len n l) none) ∙ rest in
      e ∙ ap (λ (k : ℕ). sets w₀ k l) there ∙ ap (λ (z : List Float). sets w₀ x z) all

-- ---- How many places each stage writes

length_rows : (b : List Float) (p i n : ℕ) (l : List Float) → length (rows b p i n l) ≡ length l + n * (p + 1)
unfolding rows
length_rows b p i zero l = omega (arith, zero-mul (p + 1))
length_rows b p i (suc n) l =
    let one : suc n ≡ n + 1 = omega arith in
    let more : suc n * (p + 1) ≡ n * (p + 1) + (p + 1) = ap (λ (k : ℕ). k * (p + 1)) one ∙ row_more n p in
    let row = length_cells b p i (p + 1) l in
    let rest = length_rows b p (i + 1) n (cells b p i (p + 1) l) in
    omega arith

pub length_factored : (b : List Float) (p len : ℕ) → length (factored b p len) ≡ len * (p + 1)
unfolding factored
length_factored b p len = length_rows b p 0 len [] ∙ zero-add (len * (p + 1))

pub length_forward : (band rhs : List Float) (p n : ℕ) (y : List Float)
    → length (forward band rhs p n y) ≡ length y + n
unfolding forward
length_forward band rhs p zero y = omega arith
length_forward band rhs p (suc n) y =
    let next = y ++ (forward_at band rhs p y ∷ []) in
    let more : length next ≡ length y + 1 = simp length-append in
    let rest = length_forward band rhs p n next in
    omega arith

pub length_backward : (band y : List Float) (p len i : ℕ) (x : List Float)
    → length (backward band y p len i x) ≡ length x + i
unfolding backward
length_backward band y p len zero x = omega arith
length_backward band y p len (suc i) x =
    let rest = length_backward band y p len i (backward_at band y p len i x ∷ x) in
    omega arith
