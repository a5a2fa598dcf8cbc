-- The walk over chunks: as many turns as the file has bytes are enough from every place, so that the walk from a chunk on is that chunk and
-- the walk from the next one on; where the walk ends the file, each chunk lies within it; and what the first chunk that a test takes is.
-- Assumes nothing.
use Rattle.std.proofs.Common.{◌≡◌, ℕ, zero, suc, ◌+◌, ◌<◌, ◌≤◌, Bool, true, false, ltb, ◌⊎◌, List, [], ◌∷◌, length, sym, refl, ap, ◌∙◌, inl, inr, arith, ltb-false, ltb-true, le-ltb, lt-ltb}
use Rattle.leaves.proofs.Choice.{truth}
use Rattle.riff.specs.Chunks.{head_bytes, next_at, beginnings, ending, chunks_from, end_from, first_of}
use Rattle.riff.specs.Consequences.{WalkEnds}

-- ---- Turns enough

-- one turn more from a place at which a head is left, and where none is
begins_more : (n : ℕ) (file : List ℕ) (i : ℕ) → i + head_bytes ≤ length file
    → beginnings (suc n) file i ≡ i ∷ beginnings n file (next_at file i)
unfolding beginnings
begins_more n file i h = rw (le-ltb (length file) (i + head_bytes) h) refl

begins_none : (n : ℕ) (file : List ℕ) (i : ℕ) → length file < i + head_bytes → beginnings n file i ≡ []
unfolding beginnings
begins_none zero file i h = refl
begins_none (suc n) file i h = rw (lt-ltb (length file) (i + head_bytes) h) refl

ends_more : (n : ℕ) (file : List ℕ) (i : ℕ) → i + head_bytes ≤ length file → ending (suc n) file i ≡ ending n file (next_at file i)
unfolding ending
ends_more n file i h = rw (le-ltb (length file) (i + head_bytes) h) refl

ends_none : (n : ℕ) (file : List ℕ) (i : ℕ) → length file < i + head_bytes → ending n file i ≡ i
unfolding ending
ends_none zero file i h = refl
ends_none (suc n) file i h = rw (lt-ltb (length file) (i + head_bytes) h) refl

-- a head is left at a place, or none is
head_left : (file : List ℕ) (i : ℕ) → (i + head_bytes ≤ length file) ⊎ (length file < i + head_bytes)
head_left file i = elim (truth (ltb (length file) (i + head_bytes))) [
  | inl h ↦ inr (ltb-true (length file) (i + head_bytes) h)
  | inr h ↦ inl (ltb-false (length file) (i + head_bytes) h)
]

-- where none is, any two numbers of turns find nothing
nothing_left : (n m : ℕ) (file : List ℕ) (i : ℕ) → length file < i + head_bytes
    → (beginnings n file i ≡ beginnings m file i) × (ending n file i ≡ ending m file i)
nothing_left n m file i h =
    (begins_none n file i h ∙ sym (begins_none m file i h), ends_none n file i h ∙ sym (ends_none m file i h))

-- two numbers of turns that both reach the end from a place find the same chunks from there, and the same end
turns_enough : (n m : ℕ) (file : List ℕ) (i : ℕ) → length file ≤ n + i → length file ≤ m + i
    → (beginnings n file i ≡ beginnings m file i) × (ending n file i ≡ ending m file i)
turns_enough zero m file i a b = nothing_left 0 m file i (omega arith)
turns_enough (suc n) zero file i a b = nothing_left (suc n) 0 file i (omega arith)
turns_enough (suc n) (suc m) file i a b = elim (head_left file i) [
  | inl h ↦
      let later = turns_enough n m file (next_at file i) (omega arith) (omega arith) in (
        begins_more n file i h ∙ ap (λ (l : List ℕ). i ∷ l) later.0 ∙ sym (begins_more m file i h),
        ends_more n file i h ∙ later.1 ∙ sym (ends_more m file i h),
      )
  | inr h ↦ nothing_left (suc n) (suc m) file i h
]

pub walk_ends : WalkEnds
walk_ends n i file h = turns_enough n (length file) file i (omega arith) (omega arith)

-- ---- One chunk, and those behind it

pub chunks_more : (file : List ℕ) (i : ℕ) → i + head_bytes ≤ length file → chunks_from file i ≡ i ∷ chunks_from file (next_at file i)
chunks_more file i h =
    (turns_enough (length file) (suc (length file)) file i (omega arith) (omega arith)).0
    ∙ begins_more (length file) file i h

pub chunks_none : (file : List ℕ) (i : ℕ) → length file < i + head_bytes → chunks_from file i ≡ []
chunks_none file i h = begins_none (length file) file i h

pub end_more : (file : List ℕ) (i : ℕ) → i + head_bytes ≤ length file → end_from file i ≡ end_from file (next_at file i)
end_more file i h =
    (turns_enough (length file) (suc (length file)) file i (omega arith) (omega arith)).1
    ∙ ends_more (length file) file i h

pub end_none : (file : List ℕ) (i : ℕ) → length file < i + head_bytes → end_from file i ≡ i
end_none file i h = ends_none (length file) file i h

-- ---- Within the file

-- the walk never goes back
walk_rises : (n : ℕ) (file : List ℕ) (i : ℕ) → i ≤ ending n file i
walk_rises zero file i = unfold ending in omega arith
walk_rises (suc n) file i = elim (head_left file i) [
  | inl h ↦ rw (ends_more n file i h) (omega (arith, walk_rises n file (next_at file i)))
  | inr h ↦ rw (ends_none (suc n) file i h) (omega arith)
]

pub never_back : (file : List ℕ) (i : ℕ) → i ≤ end_from file i
never_back file i = walk_rises (length file) file i

-- where the walk ends with the file, at a place before its end a head is left, and the chunk there ends within it
pub head_there : (file : List ℕ) (i : ℕ) → end_from file i ≡ length file → i < length file → i + head_bytes ≤ length file
head_there file i e h = elim (head_left file i) [
  | inl there ↦ there
  | inr none ↦ absurd (omega (arith, sym (end_none file i none) ∙ e))
]

pub next_within : (file : List ℕ) (i : ℕ) → end_from file i ≡ length file → i + head_bytes ≤ length file → next_at file i ≤ length file
next_within file i e h = omega (arith, never_back file (next_at file i), sym (end_more file i h) ∙ e)

-- ---- The first chunk that a test takes

module _ (test : ℕ → Bool) (none : ℕ) where
  pub first_here : (i : ℕ) (is : List ℕ) → test i ≡ true → first_of test none (i ∷ is) ≡ i
  unfolding first_of
  first_here i is h = rw h refl

  pub first_later : (i : ℕ) (is : List ℕ) → test i ≡ false → first_of test none (i ∷ is) ≡ first_of test none is
  unfolding first_of
  first_later i is h = rw h refl

-- of a walk that ends with the file, the first chunk that a test takes, where there is one, lies within the file
pub record Found (file : List ℕ) (test : ℕ → Bool) (at : ℕ) : Type 0 where
  pub taken : test at ≡ true
  pub inside : next_at file at ≤ length file

-- where no head is left there is none
none_found : (n : ℕ) (file : List ℕ) (test : ℕ → Bool) (i : ℕ) → length file < i + head_bytes
    → first_of test (length file) (beginnings n file i) ≡ length file
unfolding first_of
none_found n file test i h = ap (first_of test (length file)) (begins_none n file i h)

first_of_walk : (n : ℕ) (file : List ℕ) (test : ℕ → Bool) (i : ℕ) → ending n file i ≡ length file → length file ≤ n + i
    → first_of test (length file) (beginnings n file i) < length file
    → Found file test (first_of test (length file) (beginnings n file i))
first_of_walk zero file test i e enough h = absurd (omega (arith, none_found 0 file test i (omega arith)))
first_of_walk (suc n) file test i e enough h = elim (head_left file i) [
  | inr none ↦ absurd (omega (arith, none_found (suc n) file test i none))
  | inl there ↦
      let j = next_at file i in
      let later : ending n file j ≡ length file = sym (ends_more n file i there) ∙ e in
      elim (truth (test i)) [
        | inl takes ↦
            let here = ap (first_of test (length file)) (begins_more n file i there) ∙ first_here test (length file) i (beginnings n file j) takes in
            rw here (record { taken = takes; inside = omega (arith, walk_rises n file j, later) })
        | inr passes ↦
            let on = ap (first_of test (length file)) (begins_more n file i there) ∙ first_later test (length file) i (beginnings n file j) passes in
            rw on (first_of_walk n file test j later (omega arith) (omega (arith, on)))
      ]
]

pub first_found : (file : List ℕ) (test : ℕ → Bool) (i : ℕ) → end_from file i ≡ length file
    → first_of test (length file) (chunks_from file i) < length file
    → Found file test (first_of test (length file) (chunks_from file i))
first_found file test i e h = first_of_walk (length file) file test i e (omega arith) h
