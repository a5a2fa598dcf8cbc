-- Laws on lists, of any element, that the crates above cite: a part that was lent to be written and comes back is a run
-- of stores (`sets`), and what a run of stores leaves at each place. Assumes nothing.
use Rattle.std.proofs.Common.{◌≡◌, ℕ, zero, suc, ◌+◌, ◌-◌, ◌<◌, ◌≤◌, List, [], ◌∷◌, length, get_or, take, drop, set, sym, refl, ap, ◌∙◌, append_assoc, arith, length-drop, length-set, length-take, get_or-set_other, get_or-set_same, drop-drop}
use lib.Seq.{sets, sets-eq, set_out}
use borrow.Rule.Slice.PartMut.{put_mid}

-- as many elements are lent by `&mut xs[start..start + len]` as it says
pub lent_count : {A : Type 0} (start len : ℕ) (xs : List A) → start + len ≤ length xs → length (take (start + len - start) (drop start xs)) ≡ len
lent_count start len xs h = simp (length-take, length-drop) (omega arith)

-- the part comes back as stores into the whole
pub lent_back : {A : Type 0} (start len : ℕ) (xs part : List A) → start + len ≤ length xs → length part ≡ len
    → put_mid start (start + len - start) xs part ≡ sets xs start part
lent_back start len xs part h count =
    let span : start + len - start ≡ len = omega arith in
    let within : start + length part ≤ length xs = rw count h in
    rw (span, sets-eq part xs start within, drop-drop len start xs, count) (sym (append_assoc (take start xs) part (drop (start + len) xs)))

-- a place before the stores, and one after them, is as it was
pub read_before : {A : Type 0} (xs ys : List A) (a i : ℕ) (d : A) → i < a → get_or (sets xs a ys) i d ≡ get_or xs i d
read_before xs [] a i d h = refl
read_before xs (y ∷ ys) a i d h = read_before (set xs a y) ys (suc a) i d (omega arith) ∙ get_or-set_other xs a i y d (λ (e : i ≡ a). omega arith)

pub read_after : {A : Type 0} (xs ys : List A) (a i : ℕ) (d : A) → a + length ys ≤ i → get_or (sets xs a ys) i d ≡ get_or xs i d
read_after xs [] a i d h = refl
read_after xs (y ∷ ys) a i d h = read_after (set xs a y) ys (suc a) i d (omega arith) ∙ get_or-set_other xs a i y d (λ (e : i ≡ a). omega arith)

-- where the list has none of their places, nothing is stored
pub none_stored : {A : Type 0} (xs ys : List A) (a : ℕ) → length xs ≤ a → sets xs a ys ≡ xs
none_stored xs [] a h = refl
none_stored {A = A} xs (y ∷ ys) a h =
    ap (λ (l : List A). sets l (suc a) ys) (set_out xs a y h) ∙ none_stored xs ys (suc a) (omega arith)

-- a place among them has what was stored there, where the list has that place
pub read_there : {A : Type 0} (xs ys : List A) (a j : ℕ) (d : A) → a + j < length xs → j < length ys
    → get_or (sets xs a ys) (a + j) d ≡ get_or ys j d
read_there xs [] a j d h k = absurd (omega arith)
read_there xs (y ∷ ys) a zero d h k =
    let here : a + 0 ≡ a = omega arith in
    rw here (read_before (set xs a y) ys (suc a) a d (omega arith) ∙ get_or-set_same xs a y d (omega arith))
read_there xs (y ∷ ys) a (suc j) d h k =
    let next : a + suc j ≡ suc a + j = omega arith in
    rw next (read_there (set xs a y) ys (suc a) j d (simp length-set (omega arith)) (omega arith))

-- as it does where all are stored
pub read_within : {A : Type 0} (xs ys : List A) (a j : ℕ) (d : A) → a + length ys ≤ length xs → j < length ys
    → get_or (sets xs a ys) (a + j) d ≡ get_or ys j d
read_within xs ys a j d h k = read_there xs ys a j d (omega arith) k
