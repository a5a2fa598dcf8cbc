-- `settings::words::settings_v1` meets its contract: each word stands for its setting. Assumes nothing.
use Prim.Native.Nat.{ℕ}
use mathlib.Core.Path.{◌≡◌, refl}
use mathlib.Core.List.{List}
use lib.ListN.{get_or}
use lib.Ieee.{Float, binary32, of_bits}
use Rattle.leaves.specs.Arithmetic.{float}
use Rattle.settings.specs.declared.SettingsV1.{SettingsV1}
use Rattle.settings.specs.Settings.{settings_v1}
use Rattle.settings.proofs.words.settings_v1.Goals as goal

each_of_six : (ws : List ℕ) (a b c e : Float) → a ≡ of_bits binary32 (get_or ws 0 0) → b ≡ of_bits binary32 (get_or ws 1 0)
    → c ≡ of_bits binary32 (get_or ws 2 0) → e ≡ of_bits binary32 (get_or ws 4 0)
    → ◌≡◌ {A = SettingsV1}
    (record { threshold = a; sensitivity = b; strength = c; bits = get_or ws 3 0; longest = e; rate = get_or ws 5 0 })
    (settings_v1 ws)
unfolding settings_v1 float
each_of_six ws a b c e p q r t = rw (p, q, r, t) refl

pub returns : goal.returns
returns c =
    each_of_six _ _ _ _ _ c.f32_of_word.ensures c.f32_of_word-2.ensures c.f32_of_word-3.ensures
    c.f32_of_word-4.ensures
