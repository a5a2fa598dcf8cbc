-- Runs of stores: the length they leave, one that covers a whole list, one behind another, a list that is copied in, a loop
-- that stores one value after the other, one that stores the image of what stands in another list or in the same place: what is left to store, stored from the present place on,
-- gives the whole. Assumes nothing.
use Rattle.std.proofs.Common.{◌≡◌, ℕ, suc, ◌+◌, ◌-◌, ◌<◌, ◌≤◌, List, [], ◌∷◌, ◌++◌, map, length, get_or, take, drop, set, replicate, sym, refl, ap, ◌∙◌, append-nil, append_assoc, zero-add, arith, drop_of_length-le, take_all, drop-cons, take-suc-set, drop-set-lt}
use lib.Seq.{sets, sets-eq, length-sets, drop-length, drop-drop, append_snoc}
use borrow.Rule.Slice.PartMut.{put_mid}

-- what is stored leaves a list's length
pub as_long : {A : Type 0} (l after vs : List A) (a : ℕ) → after ≡ sets l a vs → length after ≡ length l
as_long l after vs a e = ap length e ∙ length-sets l a vs

-- as many values as the list has, stored from its first place on
pub stored_over : {A : Type 0} (l vs : List A) → length vs ≡ length l → sets l 0 vs ≡ vs
stored_over l vs count = sets-eq vs l 0 (omega arith) ∙ rw (count, zero-add, drop-length l, append-nil vs) refl

-- copying a list into a part of its length is to store its elements from there on
pub copied_in : {A : Type 0} (xs ys zs : List A) (i k : ℕ) → ys ≡ zs → length zs ≡ k → i + k ≤ length xs → put_mid i k xs ys ≡ sets xs i zs
copied_in xs ys zs i k e n h =
    ap (λ l. take i xs ++ (l ++ drop k (drop i xs))) e
    ∙ ap (λ l. take i xs ++ (zs ++ l)) (drop-drop k i xs ∙ ap (λ m. drop (i + m) xs) (sym n))
    ∙ sym (append_assoc (take i xs) zs _)
    ∙ sym (sets-eq zs xs i (rw n h))

-- values stored behind others are stored with them
pub stored_behind : {A : Type 0} (l xs ys : List A) (a : ℕ) → sets (sets l a xs) (a + length xs) ys ≡ sets l a (xs ++ ys)
stored_behind l [] ys a = let here : a + 0 ≡ a = omega arith in rw here refl
stored_behind l (x ∷ xs) ys a =
    let next : a + suc (length xs) ≡ suc a + length xs = omega arith in
    rw next (stored_behind (set l a x) xs ys (suc a))

-- one turn of a loop that puts the image of each element in its own place: the elements passed, and the images of the others
pub each_more : {A : Type 0} (f : A → A) (l whole : List A) (i : ℕ) (d v : A) → i < length l → v ≡ f (get_or l i d)
    → take i l ++ map f (drop i l) ≡ whole
    → take (i + 1) (set l i v) ++ map f (drop (i + 1) (set l i v)) ≡ whole
each_more f l whole i d v h ev rest =
    let more : i + 1 ≡ suc i = omega arith in
    rw (more, take-suc-set l i v h, drop-set-lt (suc i) l i v (omega arith), append_snoc (take i l) v (map f (drop (suc i) l)), ev)
    (sym (ap (λ (xs : List _). take i l ++ map f xs) (drop-cons l i d h)) ∙ rest)

-- where none is left, the images are there
pub each_all : {A : Type 0} (f : A → A) (l whole : List A) (i : ℕ) → length l ≤ i → take i l ++ map f (drop i l) ≡ whole → l ≡ whole
each_all f l whole i h rest = sym (append-nil l) ∙ (rw (take_all i l h, drop_of_length-le l h) at rest)

-- one turn of a loop that stores the image of what stands in vs
pub image_more : {A B : Type 0} (f : A → B) (l whole : List B) (vs : List A) (a next i : ℕ) (d : A) (v : B)
    → i < length vs → next ≡ a + 1 → v ≡ f (get_or vs i d)
    → sets l a (map f (drop i vs)) ≡ whole
    → sets (set l a v) next (map f (drop (i + 1) vs)) ≡ whole
image_more f l whole vs a next i d v h e ev rest =
    let there : next ≡ suc a = omega arith in
    let more : i + 1 ≡ suc i = omega arith in
    rw (there, more, ev) (sym (ap (λ (xs : List _). sets l a (map f xs)) (drop-cons vs i d h)) ∙ rest)

-- where nothing is left to store, the whole is there
pub image_all : {A B : Type 0} (f : A → B) (l whole : List B) (vs : List A) (a i : ℕ) → length vs ≤ i
    → sets l a (map f (drop i vs)) ≡ whole → l ≡ whole
image_all f l whole vs a i h rest = sym (ap (λ (xs : List _). sets l a (map f xs)) (drop_of_length-le vs h)) ∙ rest

-- the same, where it is stored as it stands there
pub copy_more : {A : Type 0} (l whole vs : List A) (a next i : ℕ) (d : A) → i < length vs → next ≡ a + 1
    → sets l a (drop i vs) ≡ whole
    → sets (set l a (get_or vs i d)) next (drop (i + 1) vs) ≡ whole
copy_more l whole vs a next i d h e rest =
    let there : next ≡ suc a = omega arith in
    let more : i + 1 ≡ suc i = omega arith in
    rw (there, more) (sym (ap (λ (xs : List _). sets l a xs) (drop-cons vs i d h)) ∙ rest)

pub all_copied : {A : Type 0} (l whole vs : List A) (a i : ℕ) → length vs ≤ i → sets l a (drop i vs) ≡ whole → l ≡ whole
all_copied l whole vs a i h rest = sym (ap (λ (xs : List _). sets l a xs) (drop_of_length-le vs h)) ∙ rest

-- one turn of a loop that stores v at `count` places
pub run_more : {A : Type 0} (l whole : List A) (a next count i : ℕ) (v : A) → i < count → next ≡ a + 1
    → sets l a (replicate (count - i) v) ≡ whole
    → sets (set l a v) next (replicate (count - (i + 1)) v) ≡ whole
run_more l whole a next count i v h e rest =
    let left : count - i ≡ suc (count - (i + 1)) = omega arith in
    let there : next ≡ suc a = omega arith in
    rw there (sym (ap (λ (n : ℕ). sets l a (replicate n v)) left) ∙ rest)

-- where nothing is left to store, the whole is there
pub all_stored : {A : Type 0} (l whole : List A) (a count i : ℕ) (v : A) → count ≤ i → sets l a (replicate (count - i) v) ≡ whole → l ≡ whole
all_stored l whole a count i v h rest =
    let none : count - i ≡ 0 = omega arith in
    sym (ap (λ (n : ℕ). sets l a (replicate n v)) none) ∙ rest
