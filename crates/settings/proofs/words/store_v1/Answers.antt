-- `settings::words::store_v1` meets its contract: six stores, one behind the other, are those of the six words. Assumes nothing.
use Prim.Native.Nat.{ℕ}
use native.Mathlib.Omega.{arith}
use mathlib.Core.Path.{◌≡◌, refl}
use mathlib.Core.List.{List}
use lib.ListN.{set, length-set}
use lib.Seq.{sets}
use lib.Ieee.{binary32, to_bits}
use Rattle.settings.specs.declared.SettingsV1.{SettingsV1}
use Rattle.settings.specs.Settings.{words_v1}
use Rattle.settings.proofs.words.store_v1.Goals as goal

six_stores : (area : List ℕ) (s : SettingsV1) (a b c e : ℕ) → a ≡ to_bits binary32 s.threshold → b ≡ to_bits binary32 s.sensitivity
    → c ≡ to_bits binary32 s.strength → e ≡ to_bits binary32 s.longest
    → set (set (set (set (set (set area 0 a) 1 b) 2 c) 3 s.bits) 4 e) 5 s.rate ≡ sets area 0 (words_v1 s)
unfolding words_v1
six_stores area s a b c e p q r t = rw (p, q, r, t) refl

pub bounds-area-1 : goal.bounds-area-1
bounds-area-1 c = simp length-set (omega arith)

pub bounds-area-2 : goal.bounds-area-2
bounds-area-2 c = simp length-set (omega arith)

pub bounds-area-3 : goal.bounds-area-3
bounds-area-3 c = simp length-set (omega arith)

pub bounds-area-4 : goal.bounds-area-4
bounds-area-4 c = simp length-set (omega arith)

pub returns : goal.returns
returns c =
    six_stores _ _ _ _ _ _ c.word_of_f32.ensures c.word_of_f32-2.ensures c.word_of_f32-3.ensures c.word_of_f32-4.ensures
