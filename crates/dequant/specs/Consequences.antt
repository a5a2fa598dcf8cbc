-- What follows from the rules of dequantize, each proved in proofs/. Statements only.
use Rattle.std.specs.Prelude.{ℕ, Float}
use Rattle.recording.specs.History.{LawfulRepair}
use Rattle.dequant.specs.Dequant.{dequantize_plan, cosparse_plan}

-- demand 3 covers both forms
abbrev pub DequantizeIsLawful : Type 0
DequantizeIsLawful = (bits : ℕ) (strength : Float) (room : ℕ) → LawfulRepair (dequantize_plan bits strength room)

abbrev pub CosparseIsLawful : Type 0
CosparseIsLawful = (bits : ℕ) (strength : Float) (iterations room : ℕ) → LawfulRepair (cosparse_plan bits strength iterations room)
