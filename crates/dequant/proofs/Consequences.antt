-- What follows from the rules of dequantize: the repair of each form is lawful, since each has a word for each sample. Assumes
-- nothing.
use mathlib.Core.Path.{◌≡◌, refl, ◌∙◌}
use mathlib.Core.List.{List}
use Prim.Native.Nat.{ℕ, zero, suc, ◌+◌, ◌-◌}
use lib.ListN.{length, length-set}
use lib.Ieee.{Float}
use Rattle.recording.specs.Marks as marks
use Rattle.leaves.proofs.Choice.{picks}
use Rattle.redraw.specs.Whole.{Drawn, sample, store}
use Rattle.redraw.proofs.Ending.{whole_lawful}
use Rattle.dequant.specs.Dequant.{allowed, strength_of, step_of, first_at, first_pass, second_at, second_pass, wide, widened}
use Rattle.dequant.specs.Dequant.{acts, dequantized, dequantize_plan, cosparse, cosparse_plan}
use Rattle.dequant.specs.Consequences.{DequantizeIsLawful, CosparseIsLawful}
use Rattle.dequant.proofs.cosparse.Laws.{length_cosparse}

module _ (step strength : Float) where
  first_count : (i left : ℕ) (out : List ℕ) → length (first_pass step strength i left out) ≡ length out
  unfolding first_pass
  first_count i zero out = refl
  first_count i (suc left) out = first_count (i + 1) left (store out i (first_at step strength out i)) ∙ length-set out i _

  second_count : (src : List ℕ) (i left : ℕ) (out : List ℕ) → length (second_pass step strength src i left out) ≡ length out
  unfolding second_pass
  second_count src i zero out = refl
  second_count src i (suc left) out =
      second_count src (i + 1) left (store out i (second_at step strength src (sample out i) i)) ∙ length-set out i _

  widened_count : (src : List ℕ) → length (widened step strength src) ≡ length src
  widened_count src =
      picks (λ (l : List ℕ). length l ≡ length src) (wide strength (length src)) _ src (second_count src 2 (length src - 4) src) refl

dequantized_count : (bits : ℕ) (strength : Float) (samples : List ℕ) → length (dequantized bits strength samples).words ≡ length samples
unfolding dequantized
dequantized_count bits strength samples =
    let held = strength_of strength in
    let step = step_of bits in
    let n = length samples in
    picks (λ (d : Drawn). length d.words ≡ n) (acts held 3 n) _ _
    (widened_count step held (first_pass step held 1 (n - 2) samples) ∙ first_count step held 1 (n - 2) samples) refl

pub dequantize_lawful : DequantizeIsLawful
unfolding dequantize_plan
dequantize_lawful bits strength room =
    whole_lawful (allowed strength) room marks.dequantize (dequantized bits strength) refl (dequantized_count bits strength)

pub cosparse_lawful : CosparseIsLawful
unfolding cosparse_plan
cosparse_lawful bits strength iterations room =
    whole_lawful (allowed strength) room marks.dequantize (cosparse bits strength iterations) refl (length_cosparse bits strength iterations)
