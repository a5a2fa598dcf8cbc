-- The marks: what documents 01 and 02 say of a sample by its byte, in the sentence that the comment quotes. The code has them by the
-- same names, as the variants of `Mark` in src/marks.rt. Definitions only.
use Rattle.std.specs.Prelude.{ℕ, Bool, ◌&&◌, ◌||◌, leb, eqb}
use Rattle.recording.specs.declared.marks.Mark.{Mark}
use Rattle.recording.specs.declared.marks.Mark.TheVariants.{Measured, GapByModel, GapByLine, CubicDeclip, Decrackle, Dequantize, NotReceived}
use Rattle.recording.specs.declared.marks.Mark.TheVariants.{DecrackleFromMean, DeclipProposed}

-- "0 measured, 1 gap by model, 2 gap by straight line, 3 cubic declip, 4 decrackle, 5 dequantize (either form)"
abbrev pub measured : ℕ
measured = 0

abbrev pub gap_by_model : ℕ
gap_by_model = 1

abbrev pub gap_by_line : ℕ
gap_by_line = 2

abbrev pub cubic_declip : ℕ
cubic_declip = 3

abbrev pub decrackle : ℕ
decrackle = 4

abbrev pub dequantize : ℕ
dequantize = 5

-- request P2: "the new mark 6, not received"
abbrev pub not_received : ℕ
not_received = 6

-- request P7, of decrackle that starts from the mean: "This sets mark 7."
abbrev pub decrackle_from_mean : ℕ
decrackle_from_mean = 7

-- request P9, of declip by a proposal: "mark 8"
abbrev pub declip_proposed : ℕ
declip_proposed = 8

-- the byte of a mark
abbrev pub byte_of : Mark → ℕ
byte_of Measured = measured
byte_of GapByModel = gap_by_model
byte_of GapByLine = gap_by_line
byte_of CubicDeclip = cubic_declip
byte_of Decrackle = decrackle
byte_of Dequantize = dequantize
byte_of NotReceived = not_received
byte_of DecrackleFromMean = decrackle_from_mean
byte_of DeclipProposed = declip_proposed

-- the marks that a repair sets: 1 to 5, 7 and 8. "No repair sets mark 6".
abbrev pub made : ℕ → Bool
made k = leb gap_by_model k && leb k dequantize || eqb k decrackle_from_mean || eqb k declip_proposed
