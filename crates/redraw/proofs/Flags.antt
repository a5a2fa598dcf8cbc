-- A flag for each sample, stored behind the words: what the workspace then holds. Assumes nothing.
use mathlib.Core.Path.{◌≡◌, refl, ap, ◌∙◌}
use mathlib.Core.Bool.{Bool, true, false}
use mathlib.Core.List.{List, [], ◌∷◌, map}
use Prim.Native.Nat.{ℕ, ◌+◌}
use native.Mathlib.Omega.{arith}
use lib.ListN.{length, take, drop, length-map}
use lib.Seq.{sets}
use Rattle.leaves.proofs.Parts.{take-sets, drop-sets, part_of_sets}
use Rattle.recording.specs.Inner.{flags}
use Rattle.redraw.specs.Whole.{drawn}
use Rattle.redraw.specs.Inner.{words_in, flags_in, rest_of, drawn_in, flag_word, Holds, Room}

-- the words of flags
abbrev pub flag_words : List Bool → List ℕ
flag_words bs = map flag_word bs

flags_back : (bs : List Bool) → flags (flag_words bs) ≡ bs
flags_back [] = refl
flags_back (true ∷ bs) = ap (λ (cs : List Bool). true ∷ cs) (flags_back bs)
flags_back (false ∷ bs) = ap (λ (cs : List Bool). false ∷ cs) (flags_back bs)

pub flags_stored : (n : ℕ) (bs : List Bool) (w v : List ℕ) → Room n w → length bs ≡ n → v ≡ sets w n (flag_words bs)
    → Holds n (drawn (words_in n w) bs) w v
flags_stored n bs w v room count e = record { holds = held; keeps = kept }
  where
    many : length (flag_words bs) ≡ n
    many = length-map bs flag_word ∙ count

    words : words_in n v ≡ words_in n w
    words = ap (λ (l : List ℕ). take n l) e ∙ take-sets w (flag_words bs) n n (omega arith)

    named : flags_in n v ≡ flag_words bs
    named = ap (λ (l : List ℕ). take n (drop n l)) e ∙ part_of_sets w (flag_words bs) n n many (omega (arith, room.enough))

    held : drawn_in n v ≡ drawn (words_in n w) bs
    held =
        ap (λ (l : List ℕ). drawn l (flags (flags_in n v))) words ∙ ap (λ (l : List ℕ). drawn (words_in n w) (flags l)) named
        ∙ ap (λ (cs : List Bool). drawn (words_in n w) cs) (flags_back bs)

    kept : rest_of n v ≡ rest_of n w
    kept = ap (λ (l : List ℕ). rest_of n l) e ∙ drop-sets w (flag_words bs) n (n + n) (omega (arith, many))
