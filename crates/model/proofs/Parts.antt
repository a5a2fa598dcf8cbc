-- The areas of a workspace: what a stage that keeps to its own places leaves of each. Assumes nothing.
use mathlib.Core.Path.{◌≡◌, sym, ap, ◌∙◌}
use mathlib.Core.List.{List}
use Prim.Native.Nat.{ℕ, ◌+◌, ◌-◌, ◌*◌, ◌≤◌}
use native.Mathlib.Omega.{arith}
use native.Mathlib.Nat.{mul-le-mul}
use lib.ListN.{length, take, drop}
use lib.Seq.{sets, length-sets, take-take, drop-drop}
use lib.Ieee.{Float}
use Rattle.leaves.proofs.Parts.{take-sets, drop-sets, kept_before}
use Rattle.model.specs.Areas.{area, Only}

pub only_sets : (w l : List Float) (d low high : ℕ) → low ≤ d → d + length l ≤ high → Only low high w (sets w d l)
only_sets w l d low high h k =
    record {
      count = length-sets w d l;
      before = take-sets w l d low h;
      behind = drop-sets w l d high k;
    }

pub only_then : (low high : ℕ) (u v w : List Float) → Only low high u v → Only low high v w → Only low high u w
only_then low high u v w a b =
    record { count = b.count ∙ a.count; before = b.before ∙ a.before; behind = b.behind ∙ a.behind }

pub only_wider : (low high low' high' : ℕ) (w v : List Float) → low' ≤ low → high ≤ high' → Only low high w v → Only low' high' w v
only_wider low high low' high' w v h k o =
    record {
      count = o.count;
      before =
          sym (take-take low' low v h) ∙ ap (λ (z : List Float). take low' z) o.before ∙ take-take low' low w h;
      behind = wider;
    }
  where
    wider : drop high' v ≡ drop high' w
    wider =
        let there : high + (high' - high) ≡ high' = omega arith in
        let behind : (z : List Float) → drop high' z ≡ drop (high' - high) (drop high z) =
        λ z. sym (ap (λ (n : ℕ). drop n z) there) ∙ sym (drop-drop (high' - high) high z) in
        behind v ∙ ap (λ (z : List Float). drop (high' - high) z) o.behind ∙ sym (behind w)

pub only_before : (low high from n : ℕ) (w v : List Float) → Only low high w v → from + n ≤ low → area v from n ≡ area w from n
only_before low high from n w v o h = kept_before w v low from n o.before h

-- the band, the largest of the areas, is small
pub band_most : (len p : ℕ) → len ≤ 2048 → p ≤ 128 → len * (p + 1) ≤ 264192
band_most len p h k =
    let wide : p + 1 ≤ 129 = omega arith in
    mul-le-mul h wide
