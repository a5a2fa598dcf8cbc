-- Parts of a list, of any element: what a run of stores leaves of each part, and how a part grows by one store. Assumes nothing.
use Rattle.std.proofs.Common.{◌≡◌, ℕ, zero, suc, ◌+◌, ◌-◌, ◌<◌, ◌≤◌, List, [], ◌∷◌, ◌++◌, length, take, drop, set, sym, refl, ap, ◌∙◌, append_assoc, arith, length-drop, take-append-drop, length-take-le, take-take, drop-drop, take-suc-set, drop-set-lt, drop_at}
use lib.Seq.{sets, sets-eq, take-set-le, drop-set-add}
use lib.Seq.{take-append_seam, set_comm}

module _ {A : Type 0} where
  -- a run of stores leaves what stands before and behind it
  pub take-sets : (w l : List A) (d n : ℕ) → n ≤ d → take n (sets w d l) ≡ take n w
  take-sets w [] d n h = refl
  take-sets w (x ∷ l) d n h = take-sets (set w d x) l (suc d) n (omega arith) ∙ take-set-le n w d x h

  pub drop-sets : (w l : List A) (d n : ℕ) → d + length l ≤ n → drop n (sets w d l) ≡ drop n w
  drop-sets w [] d n h = refl
  drop-sets w (x ∷ l) d n h = drop-sets (set w d x) l (suc d) n (omega arith) ∙ drop-set-lt n w d x (omega arith)

  -- a second run right behind it
  pub sets_both : (w l m : List A) (d : ℕ) → sets (sets w d l) (d + length l) m ≡ sets w d (l ++ m)
  sets_both w [] m d = let here : d + 0 ≡ d = omega arith in rw here refl
  sets_both w (x ∷ l) m d =
      let next : d + suc (length l) ≡ suc d + length l = omega arith in
      rw next (sets_both (set w d x) l m (suc d))

  -- one store more behind a run, and one before it
  pub store_next : (w l : List A) (d : ℕ) (v : A) → set (sets w d l) (d + length l) v ≡ sets w d (l ++ (v ∷ []))
  store_next w l d v = sets_both w l (v ∷ []) d

  pub store_before : (w l : List A) (a d : ℕ) (v : A) → a < d → set (sets w d l) a v ≡ sets (set w a v) d l
  store_before w [] a d v h = refl
  store_before w (x ∷ l) a d v h =
      store_before (set w d x) l a (suc d) v (omega arith)
      ∙ ap (λ (z : List A). sets z (suc d) l) (set_comm w d a x v (λ (e : d ≡ a). omega arith))

  -- a part of a part
  pub part_of_front : (w : List A) (from n : ℕ) → drop from (take (from + n) w) ≡ take n (drop from w)
  part_of_front w zero n = let same : 0 + n ≡ n = omega arith in rw same refl
  part_of_front [] (suc from) n =
      let more : suc from + n ≡ suc (from + n) = omega arith in
      rw more (nothing n)
    where
      nothing : (k : ℕ) → ◌≡◌ {A = List A} [] (take k [])
      nothing zero = refl
      nothing (suc k) = refl
  part_of_front (x ∷ w) (suc from) n = let more : suc from + n ≡ suc (from + n) = omega arith in rw more (part_of_front w from n)

  -- a part that lies before, or behind, what changed is as it was
  pub kept_before : (w v : List A) (low from n : ℕ) → take low v ≡ take low w → from + n ≤ low
      → take n (drop from v) ≡ take n (drop from w)
  kept_before w v low from n e h =
      sym (part_of_front v from n)
      ∙ ap (λ (z : List A). drop from z) (sym (take-take (from + n) low v h) ∙ ap (λ (z : List A). take (from + n) z) e ∙ take-take (from + n) low w h)
      ∙ part_of_front w from n

  pub kept_behind : (w v : List A) (high from n : ℕ) → drop high v ≡ drop high w → high ≤ from
      → take n (drop from v) ≡ take n (drop from w)
  kept_behind w v high from n e h =
      let there : high + (from - high) ≡ from = omega arith in
      let behind : (z : List A) → drop from z ≡ drop (from - high) (drop high z) =
      λ z. sym (ap (λ (k : ℕ). drop k z) there) ∙ sym (drop-drop (from - high) high z) in
      ap (λ (z : List A). take n z) (behind v ∙ ap (λ (z : List A). drop (from - high) z) e ∙ sym (behind w))

  pub part_length : (w : List A) (from n : ℕ) → from + n ≤ length w → length (take n (drop from w)) ≡ n
  part_length w from n h = length-take-le n (drop from w) (rw (length-drop from w) (omega arith))

  -- of a run of stores: its own part, and one before or behind it
  pub part_of_sets : (w l : List A) (d n : ℕ) → length l ≡ n → d + n ≤ length w → take n (drop d (sets w d l)) ≡ l
  part_of_sets w l d n e h =
      let within : d + length l ≤ length w = rw e h in
      let front : length (take d w) ≡ d = length-take-le d w (omega arith) in
      ap (λ (z : List A). take n (drop d z)) (sets-eq l w d within ∙ append_assoc (take d w) l (drop (d + length l) w))
      ∙ ap (λ (z : List A). take n z) (drop_at (take d w) (l ++ drop (d + length l) w) d front)
      ∙ sym (ap (λ (k : ℕ). take k (l ++ drop (d + length l) w)) e)
      ∙ take-append_seam l (drop (d + length l) w)

  pub part_before_sets : (w l : List A) (d from n : ℕ) → from + n ≤ d → take n (drop from (sets w d l)) ≡ take n (drop from w)
  part_before_sets w l d from n h = kept_before w (sets w d l) d from n (take-sets w l d d (omega arith)) h

  pub part_behind_sets : (w l : List A) (d from n : ℕ) → d + length l ≤ from
      → take n (drop from (sets w d l)) ≡ take n (drop from w)
  part_behind_sets w l d from n h =
      kept_behind w (sets w d l) (d + length l) from n (drop-sets w l d (d + length l) (omega arith)) h

  -- a part grows by the store behind it
  pub part_grows : (w : List A) (d c : ℕ) (v : A) → d + c < length w
      → take (c + 1) (drop d (set w (d + c) v)) ≡ take c (drop d w) ++ (v ∷ [])
  part_grows w d c v h =
      let more : c + 1 ≡ suc c = omega arith in
      let inside : c < length (drop d w) = rw (length-drop d w) (omega arith) in
      rw (more, drop-set-add d w c v) (take-suc-set (drop d w) c v inside)

  -- a list into which its own part is stored stays
  pub own_part : (w : List A) (d n : ℕ) → d + n ≤ length w → sets w d (take n (drop d w)) ≡ w
  own_part w d n h =
      let count : length (take n (drop d w)) ≡ n = part_length w d n h in
      sets-eq (take n (drop d w)) w d (rw count h)
      ∙ append_assoc (take d w) (take n (drop d w)) (drop (d + length (take n (drop d w))) w)
      ∙ ap (λ (k : ℕ). take d w ++ (take n (drop d w) ++ drop (d + k) w)) count
      ∙ ap (λ (z : List A). take d w ++ (take n (drop d w) ++ z)) (sym (drop-drop n d w))
      ∙ ap (λ (z : List A). take d w ++ z) (take-append-drop n (drop d w))
      ∙ take-append-drop d w
