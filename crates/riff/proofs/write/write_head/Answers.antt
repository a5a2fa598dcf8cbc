-- `riff::write::write_head` meets its contract: the words of the array are those of the rule. Assumes nothing.
use Rattle.std.proofs.Common.{◌≡◌, ℕ, ◌+◌, ◌*◌, ◌%◌, List, [], ◌∷◌}
use lib.Seq.{sets}
use Rattle.wire.specs.Wire.{encoded, words_to}
use Rattle.riff.specs.Chunks.{riff_name, wave_name, fmt_name, data_name}
use Rattle.riff.specs.Wav.{fmt_bytes, pcm, both, head}
use Rattle.riff.proofs.write.write_head.Goals as goal

-- the head, with twice the rate as it was added up
abbrev head_with : ℕ → ℕ → ℕ → List ℕ
head_with rate n twice =
    riff_name ∷ (36 + 2 * n) ∷ wave_name ∷ fmt_name ∷ fmt_bytes ∷ both pcm 1 ∷ rate ∷ twice ∷ both 2 16 ∷ data_name ∷ (2 * n) ∷ []

-- twice the rate, in 32 bits, makes it the head
head_is : (out after : List ℕ) (rate n twice : ℕ) → twice ≡ (rate + rate) % words_to → after ≡ sets out 0 (encoded (head_with rate n twice))
    → after ≡ sets out 0 (encoded (head rate n))
head_is out after rate n twice e stored = rw e at stored

pub returns : goal.returns
returns c =
    head_is _ _ _ _ _ c.wrapping_add_u32.ensures.value c.encode.ensures
