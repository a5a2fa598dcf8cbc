-- `contents::write_row` meets its contract: three words, one behind the other. Assumes nothing.
use Prim.Native.Nat.{ℕ, suc, ◌+◌}
use native.Mathlib.Omega.{arith}
use mathlib.Core.Path.{◌≡◌, refl, ◌∙◌}
use mathlib.Core.List.{List, [], ◌∷◌}
use lib.Seq.{sets}
use Rattle.wire.specs.Wire.{bytes_of, encoded}
use Rattle.contents.proofs.write_row.Goals as goal

-- stored so, three words stand one behind the other
three_stores : (bytes one two three : List ℕ) (i x y z : ℕ) → one ≡ sets bytes i (bytes_of x) → two ≡ sets one (i + 4) (bytes_of y)
    → three ≡ sets two (i + 8) (bytes_of z) → three ≡ sets bytes i (encoded (x ∷ y ∷ z ∷ []))
unfolding bytes_of encoded
three_stores bytes one two three i x y z e f g =
    let four : i + 4 ≡ suc (suc (suc (suc i))) = omega arith in
    let eight : i + 8 ≡ suc (suc (suc (suc (suc (suc (suc (suc i))))))) = omega arith in
    g ∙ rw (f, e, four, eight) refl

pub returns : goal.returns
returns c =
    three_stores _ _ _ _ _ _ _ _ c.store_word.ensures c.store_word-2.ensures c.store_word-3.ensures
