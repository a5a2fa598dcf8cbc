-- Settings as words, there and back: a float of 32 bits comes back from its pattern, and a pattern of no NaN from its float. Assumes nothing.
use Prim.Native.Nat.{ℕ, zero, suc, ◌+◌, ◌<◌}
use native.Mathlib.Omega.{arith}
use mathlib.Core.Path.{◌≡◌, refl, sym, ap, subst, ◌∙◌}
use mathlib.Core.Bool.{true, not, true≢false}
use mathlib.Core.List.{List, [], ◌∷◌, ◌++◌}
use lib.ListN.{length, get_or, drop, drop_of_length-le}
use lib.Seq.{drop-cons}
use lib.Dec.{T, leb}
use lib.Ieee.{Float, nan, inf, fin, binary32, fits, is_nan, to_bits}
use lib.Ieee.Bits.{of_bits-to_bits, to_bits-of_bits, to_bits-lt}
use lib.Ieee.Scale.{finite}
use Rattle.leaves.specs.Arithmetic.{float}
use Rattle.leaves.proofs.Choice.{both_hold}
use Rattle.wire.specs.Wire.{Below, words_to}
use Rattle.inpaint.specs.Auto as scan
use Rattle.declip.specs.Declip as declip
use Rattle.decrackle.specs.Decrackle as decrackle
use Rattle.dequant.specs.Dequant as dequant
use Rattle.settings.specs.declared.SettingsV1.{SettingsV1}
use Rattle.settings.specs.declared.Settings.{Settings}
use Rattle.settings.specs.Settings.{words_v1, words, settings_v1, settings, allowed_v1, allowed}
use Rattle.settings.specs.Consequences.{HoldsV1, Holds, WordsAreKept}

-- ---- From settings to words and back

float_back : (x : Float) → fits binary32 x ≡ true → float (to_bits binary32 x) ≡ x
unfolding float
float_back x h = of_bits-to_bits binary32 x (subst T (sym h) tt)

pub settings_back_v1 : (s : SettingsV1) → HoldsV1 s → settings_v1 (words_v1 s) ≡ s
unfolding settings_v1 words_v1
settings_back_v1 s h =
    rw (
      float_back s.threshold h.threshold,
      float_back s.sensitivity h.sensitivity,
      float_back s.strength h.strength,
      float_back s.longest h.longest,
    ) refl

pub settings_back : (s : Settings) → Holds s → settings (words s) ≡ s
unfolding settings settings_v1 words words_v1
settings_back s h = ap (λ (first : SettingsV1). record { first = first; held = s.held }) (settings_back_v1 s.first h.first)

-- the words are of 32 bits
pattern_below : (x : Float) → fits binary32 x ≡ true → to_bits binary32 x < words_to
pattern_below x h = to_bits-lt binary32 x (subst T (sym h) tt)

pub words_below_v1 : (s : SettingsV1) → HoldsV1 s → Below words_to (words_v1 s)
unfolding words_v1
words_below_v1 s h zero = pattern_below s.threshold h.threshold
words_below_v1 s h (suc zero) = pattern_below s.sensitivity h.sensitivity
words_below_v1 s h (suc (suc zero)) = pattern_below s.strength h.strength
words_below_v1 s h (suc (suc (suc zero))) = h.bits
words_below_v1 s h (suc (suc (suc (suc zero)))) = pattern_below s.longest h.longest
words_below_v1 s h (suc (suc (suc (suc (suc zero))))) = h.rate
words_below_v1 s h (suc (suc (suc (suc (suc (suc i)))))) = omega arith

pub words_below : (s : Settings) → Holds s → Below words_to (words s)
unfolding words words_v1
words_below s h zero = words_below_v1 s.first h.first 0
words_below s h (suc zero) = words_below_v1 s.first h.first 1
words_below s h (suc (suc zero)) = words_below_v1 s.first h.first 2
words_below s h (suc (suc (suc zero))) = words_below_v1 s.first h.first 3
words_below s h (suc (suc (suc (suc zero)))) = words_below_v1 s.first h.first 4
words_below s h (suc (suc (suc (suc (suc zero))))) = words_below_v1 s.first h.first 5
words_below s h (suc (suc (suc (suc (suc (suc zero)))))) = h.held
words_below s h (suc (suc (suc (suc (suc (suc (suc i))))))) = omega arith

-- ---- From words to settings and back

finite_not_nan : (x : Float) → finite x ≡ true → not (is_nan x) ≡ true
unfolding is_nan
finite_not_nan nan h = absurd (true≢false (sym h))
finite_not_nan (inf s) h = refl
finite_not_nan (fin s m e) h = refl

pattern_back : (w : ℕ) → w < words_to → not (is_nan (float w)) ≡ true → to_bits binary32 (float w) ≡ w
unfolding float
pattern_back w h sound = to_bits-of_bits binary32 w h (subst T (sym sound) tt)

-- what allowed settings tell of each
record Good (s : SettingsV1) : Type 0 where
  threshold : not (is_nan s.threshold) ≡ true
  sensitivity : not (is_nan s.sensitivity) ≡ true
  strength : not (is_nan s.strength) ≡ true
  longest : not (is_nan s.longest) ≡ true

good : (s : SettingsV1) → allowed_v1 s ≡ true → Good s
unfolding allowed_v1
good s h =
    let gap = both_hold _ (scan.allowed s.rate s.longest) h in
    let strong = both_hold _ (dequant.allowed s.strength) gap.0 in
    let keen = both_hold (declip.allowed s.threshold) (decrackle.allowed s.sensitivity) strong.0 in
    record {
      threshold = finite_not_nan s.threshold (both_hold (finite s.threshold) _ keen.0).0;
      sensitivity = keen.1;
      strength = strong.1;
      longest = finite_not_nan s.longest (both_hold (leb s.rate 16777216) (finite s.longest) gap.1).1;
    }

-- n words from place i on, place by place
abbrev placed : List ℕ → ℕ → ℕ → List ℕ
placed ws i zero = []
placed ws i (suc n) = get_or ws i 0 ∷ placed ws (i + 1) n

placed_all : (ws : List ℕ) (i n : ℕ) → length ws ≡ i + n → placed ws i n ≡ drop i ws
placed_all ws i zero count = sym (drop_of_length-le ws {i = i} (omega arith))
placed_all ws i (suc n) count =
    let next : suc i ≡ i + 1 = omega arith in
    sym (drop-cons ws i 0 (omega arith) ∙ rw (next, ← placed_all ws (i + 1) n (omega arith)) refl)

first_six : (ws : List ℕ) → Below words_to ws → allowed_v1 (settings_v1 ws) ≡ true → words_v1 (settings_v1 ws) ≡ placed ws 0 6
unfolding settings_v1 words_v1
first_six ws below h =
    let g = good (settings_v1 ws) h in
    rw (
      pattern_back (get_or ws 0 0) (below 0) g.threshold,
      pattern_back (get_or ws 1 0) (below 1) g.sensitivity,
      pattern_back (get_or ws 2 0) (below 2) g.strength,
      pattern_back (get_or ws 4 0) (below 4) g.longest,
    ) refl

pub words_are_kept : WordsAreKept
unfolding settings words
words_are_kept = (
  λ ws count below h. first_six ws below h ∙ placed_all ws 0 6 count,
  λ ws count below h.
      let six = (both_hold (allowed_v1 (settings_v1 ws)) (scan.held_allowed (get_or ws 6 0)) (unfold allowed in h)).0 in
      ap (λ (l : List ℕ). l ++ (get_or ws 6 0 ∷ [])) (first_six ws below six) ∙ placed_all ws 0 7 count,
)
