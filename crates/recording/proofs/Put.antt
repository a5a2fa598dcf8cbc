-- Laws of `put`: what stands at a place after values were put at places, and how the old values are put back. Words and
-- marks are both such lists, so each law is said once. Assumes nothing.
use mathlib.Core.Path.{◌≡◌, refl, ap, ◌∙◌}
use mathlib.Core.List.{List, [], ◌∷◌}
use mathlib.Core.Logic.{◌⊎◌, inl, inr}
use Prim.Native.Nat.{ℕ, suc, ◌+◌, ◌≤◌, ◌<◌}
use native.Mathlib.Decide.{ℕ_discrete}
use native.Mathlib.Omega.{arith}
use lib.ListN.{length, get_or, set, length-set}
use lib.Seq.{get_or-set_same, get_or-set_other, ext_get_or}
use Rattle.recording.specs.Recording.{Placed, places, put, each, saved, old_words, old_marks}
use Rattle.recording.specs.History.{Ascending}
use Rattle.recording.specs.Consequences.{Among}

-- a place is one of these, or it is not
pub among_or_not : (i : ℕ) (js : List ℕ) → Among i js ⊎ (Among i js → ⊥)
among_or_not i [] = inr (λ (e : ⊥). e)
among_or_not i (j ∷ js) = elim (ℕ_discrete i j) [ yes e ↦ inl (inl e) | no f ↦ later f (among_or_not i js) ]
  where
    later : (i ≡ j → ⊥) → Among i js ⊎ (Among i js → ⊥) → Among i (j ∷ js) ⊎ (Among i (j ∷ js) → ⊥)
    later f (inl m) = inl (inr m)
    later f (inr n) = inr (λ (a : (i ≡ j) ⊎ Among i js). elim a [ inl e ↦ f e | inr m ↦ n m ])

-- no element is added or lost
pub length_put : (cs : List Placed) (l : List ℕ) → length (put cs l) ≡ length l
unfolding put
length_put [] l = refl
length_put (c ∷ cs) l = length_put cs (set l c.place c.value) ∙ length-set l c.place c.value

-- a place that is not named is as it was
pub put_elsewhere : (i : ℕ) (cs : List Placed) (l : List ℕ) → (Among i (places cs) → ⊥)
    → get_or (put cs l) i 0 ≡ get_or l i 0
unfolding put
put_elsewhere i [] l h = refl
put_elsewhere i (c ∷ cs) l h =
    put_elsewhere i cs (set l c.place c.value) (λ (a : Among i (places cs)). h (inr a))
    ∙ get_or-set_other l c.place i c.value 0 (λ (e : i ≡ c.place). h (inl e))

-- for each place its value under v
abbrev pub valued : (ℕ → ℕ) → List ℕ → List Placed
valued v [] = []
valued v (i ∷ is) = record { place = i; value = v i } ∷ valued v is

-- its places are these
pub places_valued : (v : ℕ → ℕ) (is : List ℕ) → places (valued v is) ≡ is
places_valued v [] = refl
places_valued v (i ∷ is) = ap (λ (js : List ℕ). i ∷ js) (places_valued v is)

-- after that, a place that is among them, or had its value already, has its value
pub put_valued : (v : ℕ → ℕ) (i : ℕ) (is l : List ℕ) → i < length l → Among i is ⊎ (get_or l i 0 ≡ v i)
    → get_or (put (valued v is) l) i 0 ≡ v i
unfolding put
put_valued v i [] l h (inl none) = absurd none
put_valued v i [] l h (inr e) = e
put_valued v i (j ∷ js) l h m =
    put_valued v i js (set l j (v j)) (simp length-set h)
    (elim (ℕ_discrete i j) [ yes e ↦ inr (here e) | no f ↦ other f m ])
  where
    here : i ≡ j → get_or (set l j (v j)) i 0 ≡ v i
    here e = rw (← e) (get_or-set_same l i (v i) 0 h)

    other : (i ≡ j → ⊥) → Among i (j ∷ js) ⊎ (get_or l i 0 ≡ v i) → Among i js ⊎ (get_or (set l j (v j)) i 0 ≡ v i)
    other f (inl (inl e)) = absurd (f e)
    other f (inl (inr a)) = inl a
    other f (inr e) = inr (get_or-set_other l j i (v j) 0 f ∙ e)

-- the values that a list has at places
abbrev pub kept : List ℕ → List ℕ → List Placed
kept l is = valued (λ i. get_or l i 0) is

-- put back over any values at the same places, they give the list as it was
pub put_back : (cs : List Placed) (l : List ℕ) → put (kept l (places cs)) (put cs l) ≡ l
put_back cs l = ext_get_or 0 _ _ same at_each
  where
    same : length (put (kept l (places cs)) (put cs l)) ≡ length l
    same = length_put (kept l (places cs)) (put cs l) ∙ length_put cs l

    at_each : (i : ℕ) → i < length (put (kept l (places cs)) (put cs l))
        → get_or (put (kept l (places cs)) (put cs l)) i 0 ≡ get_or l i 0
    at_each i h =
        put_valued (λ i. get_or l i 0) i (places cs) (put cs l) (rw length_put at h)
        (elim (among_or_not i (places cs)) [ inl a ↦ inl a | inr f ↦ inr (put_elsewhere i cs l f) ])

-- one mark for every place: their places, and what a place among them then has
each_valued : (v : ℕ) (is : List ℕ) → each v is ≡ valued (λ i. v) is
each_valued v [] = refl
each_valued v (i ∷ is) = ap (λ (cs : List Placed). record { place = i; value = v } ∷ cs) (each_valued v is)

pub places_each : (v : ℕ) (is : List ℕ) → places (each v is) ≡ is
places_each v is = rw each_valued (places_valued (λ i. v) is)

pub put_each : (v i : ℕ) (is l : List ℕ) → i < length l → Among i is → get_or (put (each v is) l) i 0 ≡ v
put_each v i is l h a = rw each_valued (put_valued (λ i. v) i is l h (inl a))

-- marks are put back over one mark for every place
pub marks_back : (v : ℕ) (is l : List ℕ) → put (kept l is) (put (each v is) l) ≡ l
marks_back v is l = rw places_each at (put_back (each v is) l)

-- what the journal keeps of the samples at places: their words, and their marks
pub words_kept : (words marks is : List ℕ) → old_words (saved words marks is) ≡ kept words is
unfolding saved
words_kept words marks [] = refl
words_kept words marks (i ∷ is) =
    ap (λ (cs : List Placed). record { place = i; value = get_or words i 0 } ∷ cs) (words_kept words marks is)

pub marks_kept : (words marks is : List ℕ) → old_marks (saved words marks is) ≡ kept marks is
unfolding saved
marks_kept words marks [] = refl
marks_kept words marks (i ∷ is) =
    ap (λ (cs : List Placed). record { place = i; value = get_or marks i 0 } ∷ cs) (marks_kept words marks is)

-- ascending places below n: each is below n, and they are at most n
pub among_below : (n least i : ℕ) (cs : List Placed) → Ascending n least cs → Among i (places cs) → i < n
among_below n least i [] h none = absurd none
among_below n least i (c ∷ cs) h (inl e) = rw e h.1
among_below n least i (c ∷ cs) h (inr a) = among_below n (c.place + 1) i cs h.2 a

pub ascending_count : (n least : ℕ) (cs : List Placed) → Ascending n least cs → least ≤ n → least + length cs ≤ n
ascending_count n least [] h k = omega arith
ascending_count n least (c ∷ cs) h k =
    let rest : c.place + 1 + length cs ≤ n = ascending_count n (c.place + 1) cs h.2 (omega (arith, h.1)) in
    omega (arith, h.0)

-- as many places as named samples
pub length_places : (cs : List Placed) → length (places cs) ≡ length cs
length_places [] = refl
length_places (c ∷ cs) = ap suc (length_places cs)
