-- The workspace of a repair of n samples: what it holds after a store, and what is read from it. Assumes nothing.
use mathlib.Core.Path.{◌≡◌, refl, sym, ap, ◌∙◌}
use mathlib.Core.Bool.{Bool, true, false, not}
use mathlib.Core.List.{List, [], ◌∷◌}
use Prim.Native.Nat.{ℕ, zero, suc, ◌+◌, ◌≤◌, ◌<◌}
use native.Mathlib.Omega.{arith}
use lib.Dec.{eqb}
use lib.ListN.{length, get_or, set, take, drop, replicate, length-replicate, get_or-map}
use lib.Seq.{sets, take-set-le, take-set-lt, drop-set-lt, drop-set-add, get_or-take, get_or-drop, drop-drop}
use lib.Seq.{length-take-le, length-sets}
use Rattle.leaves.proofs.Parts.{take-sets, drop-sets, part_of_sets, part_length}
use Rattle.recording.specs.Inner.{flags}
use Rattle.redraw.specs.Whole.{Drawn, drawn, untouched, needed}
use Rattle.redraw.specs.Inner.{words_in, flags_in, rest_of, flagged_at, drawn_in, Holds, Room, flag_word}

-- ---- A store among the words

module _ (n i x : ℕ) (w : List ℕ) (h : i < n) where
  pub store_words : words_in n (set w i x) ≡ set (words_in n w) i x
  store_words = take-set-lt n w i x h

  -- what stands behind the words stays
  pub store_behind : drop n (set w i x) ≡ drop n w
  store_behind = drop-set-lt n w i x h

  -- what is read there
  pub word_there : get_or (words_in n w) i 0 ≡ get_or w i 0
  word_there = get_or-take n w i 0 h

-- ---- A store among the flags

flag_map : (l : List ℕ) (i x : ℕ) → flags (set l i x) ≡ set (flags l) i (not (eqb x 0))
flag_map [] i x = refl
flag_map (y ∷ l) zero x = refl
flag_map (y ∷ l) (suc i) x = ap (λ (bs : List Bool). not (eqb y 0) ∷ bs) (flag_map l i x)

flag_back : (b : Bool) → not (eqb (flag_word b) 0) ≡ b
flag_back true = refl
flag_back false = refl

module _ (n i : ℕ) (w : List ℕ) (h : i < n) where
  pub flag_words : (x : ℕ) → words_in n (set w (n + i) x) ≡ words_in n w
  flag_words x = take-set-le n w (n + i) x (omega arith)

  pub store_flag : (x : ℕ) → flags_in n (set w (n + i) x) ≡ set (flags_in n w) i x
  store_flag x = ap (λ (l : List ℕ). take n l) (drop-set-add n w i x) ∙ take-set-lt n (drop n w) i x h

  -- a flag under its word
  pub name_flag : (b : Bool) → flags (flags_in n (set w (n + i) (flag_word b))) ≡ set (flags (flags_in n w)) i b
  name_flag b =
      ap flags (store_flag (flag_word b)) ∙ flag_map (flags_in n w) i (flag_word b)
      ∙ ap (λ (c : Bool). set (flags (flags_in n w)) i c) (flag_back b)

  pub flag_there : get_or (flags_in n w) i 0 ≡ get_or w (n + i) 0
  flag_there = get_or-take n (drop n w) i 0 h ∙ get_or-drop n w i 0

  pub flagged_there : flagged_at n w i ≡ not (eqb (get_or w (n + i) 0) 0)
  flagged_there = get_or-map (λ (v : ℕ). not (eqb v 0)) (flags_in n w) i 0 ∙ ap (λ (v : ℕ). not (eqb v 0)) flag_there

-- ---- What lies beyond

-- a store within the 2n words leaves it
pub store_rest : (n i x : ℕ) (w : List ℕ) → i < n + n → rest_of n (set w i x) ≡ rest_of n w
store_rest n i x w h = drop-set-lt (n + n) w i x h

-- it is behind what stands behind the words
pub rest_behind : (n : ℕ) (v w : List ℕ) → drop n v ≡ drop n w → rest_of n v ≡ rest_of n w
rest_behind n v w e = sym (drop_twice v) ∙ ap (λ (l : List ℕ). drop n l) e ∙ drop_twice w
  where
    drop_twice : (l : List ℕ) → drop n (drop n l) ≡ rest_of n l
    drop_twice l = drop-drop n n l

-- and so are the flags
pub flags_behind : (n : ℕ) (v w : List ℕ) → drop n v ≡ drop n w → flags_in n v ≡ flags_in n w
flags_behind n v w e = ap (λ (l : List ℕ). take n l) e

-- ---- Sizes

pub words_count : (n : ℕ) (w : List ℕ) → Room n w → length (words_in n w) ≡ n
words_count n w r = length-take-le n w (omega (arith, r.enough))

pub flags_count : (n : ℕ) (w : List ℕ) → Room n w → length (flags_in n w) ≡ n
flags_count n w r = part_length w n n (omega (arith, r.enough))

pub room_stays : (n : ℕ) (v w : List ℕ) → Room n w → length v ≡ length w → Room n v
room_stays n v w r e = record { few = r.few; enough = rw e r.enough }

-- ---- One step after another

pub holds_then : (n : ℕ) (d : Drawn) (u v w : List ℕ) → rest_of n v ≡ rest_of n u → Holds n d v w → Holds n d u w
holds_then n d u v w e h = record { holds = h.holds; keeps = h.keeps ∙ e }

-- ---- The samples, laid out

no_flags : (n : ℕ) → flags (replicate n 0) ≡ replicate n false
no_flags zero = refl
no_flags (suc n) = ap (λ (bs : List Bool). false ∷ bs) (no_flags n)

-- they stand at the front, and the flags behind them are cleared
pub laid_out_lem : (samples w v u : List ℕ) → needed (length samples) ≤ length w → v ≡ sets w 0 samples
    → u ≡ sets v (length samples) (replicate (length samples) 0) → Holds (length samples) (untouched samples) w u
laid_out_lem samples w v u room ev eu = record { holds = held; keeps = kept }
  where
    n : ℕ
    n = length samples

    zeros : List ℕ
    zeros = replicate n 0

    count : length v ≡ length w
    count = ap length ev ∙ length-sets w 0 samples

    words : words_in n u ≡ samples
    words =
        ap (λ (l : List ℕ). take n l) eu ∙ take-sets v zeros n n (omega arith)
        ∙ ap (λ (l : List ℕ). take n l) ev ∙ part_of_sets w samples 0 n refl (omega arith)

    none : flags_in n u ≡ zeros
    none = ap (λ (l : List ℕ). take n (drop n l)) eu ∙ part_of_sets v zeros n n (length-replicate n 0) (omega (arith, count))

    held : drawn_in n u ≡ untouched samples
    held =
        ap (λ (l : List ℕ). drawn l (flags (flags_in n u))) words ∙ ap (λ (l : List ℕ). drawn samples (flags l)) none
        ∙ ap (λ (bs : List Bool). drawn samples bs) (no_flags n)

    kept : rest_of n u ≡ rest_of n w
    kept =
        let many : length zeros ≡ n = length-replicate n 0 in
        ap (λ (l : List ℕ). rest_of n l) eu ∙ drop-sets v zeros n (n + n) (omega arith)
        ∙ ap (λ (l : List ℕ). rest_of n l) ev ∙ drop-sets w samples 0 (n + n) (omega arith)
