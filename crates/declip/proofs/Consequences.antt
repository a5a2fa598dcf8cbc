-- What follows from the rules of cubic declip: a fill is never shorter than 4, and the repair is lawful. Assumes nothing.
use mathlib.Core.Path.{◌≡◌, refl}
use mathlib.Core.Bool.{true, false}
use mathlib.Core.List.{List}
use Prim.Native.Nat.{ℕ, zero, suc, ◌+◌, ◌-◌}
use native.Mathlib.Omega.{arith}
use borrow.Author.Tests.{le-ltb, ltb-true}
use lib.Dec.{ltb}
use lib.ListN.{length, length-set}
use lib.Ieee.{Float}
use Rattle.recording.specs.Marks.{cubic_declip}
use Rattle.leaves.proofs.Choice.{picks}
use Rattle.redraw.specs.Whole.{Drawn, sample, untouched}
use Rattle.redraw.proofs.Runs.{over_keeps}
use Rattle.redraw.proofs.Ending.{whole_lawful}
use Rattle.declip.specs.Declip.{allowed, clipped_at, from, to, cubic_from, cubic_fill, bridged, declipped, declip_plan}
use Rattle.declip.specs.Consequences.{GuardNeverMet, DeclipIsLawful}

pub guard_never_met : GuardNeverMet
guard_never_met n s e h = go (from s) (to n e) h
  where
    go : (a z : ℕ) → ltb (a + 4) z ≡ true → ltb (z - a) 4 ≡ false
    go a z long = le-ltb (z - a) 4 (omega (arith, ltb-true (a + 4) z long))

-- ---- A fill keeps the number of words

-- so many words
abbrev Counts : ℕ → Drawn → Type 0
Counts k d = length d.words ≡ k

cubic_counts : (k : ℕ) (y0 y1 : Float) (a z i n : ℕ) (d : Drawn) → Counts k d → Counts k (cubic_from y0 y1 a z i n d)
unfolding cubic_from
cubic_counts k y0 y1 a z i zero d h = h
cubic_counts k y0 y1 a z i (suc n) d h = cubic_counts k y0 y1 a z (i + 1) n _ (simp length-set h)

fill_counts : (k a z : ℕ) (d : Drawn) → Counts k d → Counts k (cubic_fill a z d)
unfolding cubic_fill
fill_counts k a z d h = cubic_counts k (sample d.words a) (sample d.words z) a z (a + 1) (z - a - 1) d h

bridge_counts : (k n s e : ℕ) (d : Drawn) → Counts k d → Counts k (bridged n s e d)
unfolding bridged
bridge_counts k n s e d h = picks (Counts k) (ltb (from s + 4) (to n e)) _ _ (fill_counts k (from s) (to n e) d h) h

declip_counts : (threshold : Float) (samples : List ℕ) → length (declipped threshold samples).words ≡ length samples
unfolding declipped
declip_counts threshold samples =
    let n = length samples in
    over_keeps (clipped_at threshold samples) (bridged n) (Counts n) (bridge_counts n n) 0 n (untouched samples) refl

pub declip_lawful : DeclipIsLawful
unfolding declip_plan
declip_lawful threshold room = whole_lawful (allowed threshold) room cubic_declip (declipped threshold) refl (declip_counts threshold)
