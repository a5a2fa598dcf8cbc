-- How many samples the limit of 1 ms is at the rates that recordings have, computed: the workspace suffices at all of these
-- (`WorkspaceSuffices` of Program.antt).
use Rattle.std.specs.Prelude.{◌≡◌, refl, [], ◌∷◌, map}
use Rattle.inpaint.specs.Auto.{limit}
use Rattle.wavfile.specs.Program.{limit_ms}

pub limits_by_hand : map (limit limit_ms) (8000 ∷ 11025 ∷ 16000 ∷ 22050 ∷ 44100 ∷ 48000 ∷ 96000 ∷ 192000 ∷ 384000 ∷ [])
    ≡ 8 ∷ 11 ∷ 16 ∷ 22 ∷ 44 ∷ 48 ∷ 96 ∷ 192 ∷ 384 ∷ []
unfolding limit
limits_by_hand = refl
