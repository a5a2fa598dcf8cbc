-- The test of what a repair reads. Assumes nothing.
use mathlib.Core.Path.{◌≡◌, refl}
use mathlib.Core.Bool.{true, false}
use mathlib.Core.List.{List, [], ◌∷◌}
use mathlib.Core.Logic.{inl, inr, ◌⊎◌}
use Prim.Native.Nat.{ℕ, ◌+◌, ◌≤◌, ◌<◌}
use native.Mathlib.Omega.{arith}
use native.Mathlib.Numerals.{add-one}
use lib.ListN.{length, get_or, drop, drop_of_length-le}
use lib.Seq.{drop-cons}
use Rattle.leaves.specs.Floats.{in_range}
use Rattle.recording.specs.Recording.{readable}
use Rattle.recording.specs.declared.Reason.TheVariants.{Read}
use Rattle.recording.specs.Answer.{Answer}
use Rattle.std.specs.Prelude.{Ok, Err}
use Rattle.leaves.proofs.Choice.{truth, EitherWay}

-- one turn of the test of words, and the word that is out of range
pub read_more : (ws : List ℕ) (first i : ℕ) → i < length ws → in_range (get_or ws i 0) ≡ true
    → readable (first + i) (drop i ws) ≡ readable (first + (i + 1)) (drop (i + 1) ws)
unfolding readable
read_more ws first i h e =
    let next : first + i + 1 ≡ first + (i + 1) = omega arith in
    rw (drop-cons ws i 0, e, next, add-one i) refl

pub read_out : (ws : List ℕ) (first i : ℕ) → i < length ws → in_range (get_or ws i 0) ≡ false
    → readable (first + i) (drop i ws) ≡ Err (Read (first + i))
unfolding readable
read_out ws first i h e = rw (drop-cons ws i 0, e) refl

pub read_done : (ws : List ℕ) (first i : ℕ) → length ws ≤ i → readable (first + i) (drop i ws) ≡ Ok 0
unfolding readable
read_done ws first i h = rw (drop_of_length-le ws h) refl

-- the test of what is read gives no other refusal than 7
abbrev pub ReadEnds : Answer → Type 0
ReadEnds a = (a ≡ Ok 0) ⊎ ((i : ℕ) × (a ≡ Err (Read i)))

pub readable_ends : (i : ℕ) (ws : List ℕ) → ReadEnds (readable i ws)
unfolding readable
readable_ends i [] = inl refl
readable_ends i (w ∷ ws) = one (truth (in_range w)) (readable_ends (i + 1) ws)
  where
    one : EitherWay (in_range w) → ReadEnds (readable (i + 1) ws) → ReadEnds (readable i (w ∷ ws))
    one (inl h) later = rw h later
    one (inr h) later = inr (i, rw h refl)
