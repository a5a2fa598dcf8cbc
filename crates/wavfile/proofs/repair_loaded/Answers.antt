-- `wavfile::repair_loaded` is safe: the rooms have 262,144 places each. Assumes nothing.
use Prim.Native.Nat.{ℕ, ◌≤◌}
use native.Mathlib.Omega.{arith}
use mathlib.Core.Path.{◌≡◌, refl, sym}
use lib.ListN.{length, replicate, length-replicate}
use Rattle.wavfile.proofs.repair_loaded.Goals as goal

-- as many as there are zeros, whatever their number
count_of : (n : ℕ) → n ≡ length (replicate {A = ℕ} n 0)
count_of n = sym (length-replicate {0} {A = ℕ} n 0)

no_more : (n : ℕ) → length (replicate {A = ℕ} n 0) ≤ n
no_more n = omega (arith, count_of n)

pub slice_bounds-repair_to-end : goal.slice_bounds-repair_to-end
slice_bounds-repair_to-end g c = count_of 262144

pub slice_bounds-repair_to-end-2 : goal.slice_bounds-repair_to-end-2
slice_bounds-repair_to-end-2 g c = count_of 262144

pub slice_bounds-repair_to-end-3 : goal.slice_bounds-repair_to-end-3
slice_bounds-repair_to-end-3 g c = count_of 262144

pub repair_to-requires : goal.repair_to-requires
repair_to-requires g c =
    let pre = c.requires in
    (pre.0, pre.1, no_more 262144, refl)
