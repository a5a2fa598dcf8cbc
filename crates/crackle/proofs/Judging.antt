-- Places that are judged, or held back: what the code of one place and of the values that are held gives is what the rule says. Assumes nothing.
use mathlib.Core.Path.{◌≡◌, refl, sym, ap, ◌∙◌}
use mathlib.Core.Bool.{Bool, true, false}
use mathlib.Core.List.{List, [], ◌∷◌, map}
use Prim.Native.Nat.{ℕ, suc, ◌+◌, ◌-◌, ◌≤◌, ◌<◌}
use native.Mathlib.Omega.{arith}
use borrow.Author.Tests.{eq-eqb, ne_eqb}
use lib.Dec.{ltb}
use lib.ListN.{length, get_or, take, drop, set, replicate, drop_of_length-le}
use lib.Seq.{sets, drop-cons, get_or-take, length-take-le, take_all}
use lib.Ieee.{Float, binary32, of_bits, to_bits}
use Rattle.leaves.specs.Arithmetic.{◌+₃₂◌, nought, float}
use Rattle.std.specs.Prelude.{if◌then◌else◌}
use Rattle.leaves.specs.Floats.{magnitude}
use Rattle.leaves.proofs.Literals.{nought_word}
use Rattle.decrackle.specs.declared.Start.{Start}
use Rattle.decrackle.specs.declared.Start.TheVariants.{Mean}
use Rattle.decrackle.specs.Decrackle.{from_middle, mean_over, summed, mean_floor, opening_floor, floor_after, flagged, flags_from, least_samples}
use Rattle.crackle.specs.declared.Detector.{Detector}
use Rattle.crackle.specs.Inner.{flag_against}
use Rattle.crackle.specs.Pieces.{held_back, Holding, holding, values_with, magnitudes_in, held_with, judged_with, floor_before, floor_along}
use Rattle.crackle.specs.Pieces.{flags_along, flags_with, floor_with, value_before, flag_byte}
use Rattle.crackle.proofs.Due.{held_few, length_held, judged_free, judged_still, judged_all}

-- ---- One place

module _ (d : Detector) where
  pub value_first : (next : Float) → d.taken ≡ 1 → of_bits binary32 0 ≡ value_before d next
  unfolding value_before
  value_first next h = rw (eq-eqb _ _ h) nought_word

  pub value_later : (next r : Float) → (d.taken ≡ 1 → ⊥) → r ≡ from_middle d.before d.last next → r ≡ value_before d next
  unfolding value_before
  value_later next r h e = rw (ne_eqb _ _ h) e

  -- the first of several, and none
  pub along_more : (floor a : Float) (ms : List Float)
      → flags_along d floor (a ∷ ms) ≡ flag_against d (floor_after floor a) a ∷ flags_along d (floor_after floor a) ms
  unfolding flags_along flag_against flags_from
  along_more floor a ms = go (ltb d.total least_samples)
    where
      next : Float
      next = floor_after floor a

      go : (b : Bool)
          → (if b then replicate (suc (length ms)) false else flagged d.factor next a ∷ flags_from d.factor next ms)
          ≡ (if b then false else flagged d.factor next a) ∷ (if b then replicate (length ms) false else flags_from d.factor next ms)
      go true = refl
      go false = refl

  pub along_none : (floor : Float) → flags_along d floor [] ≡ []
  unfolding flags_along flags_from
  along_none floor = go (ltb d.total least_samples)
    where
      none : List Bool
      none = []

      go : (b : Bool) → (if b then none else none) ≡ none
      go true = refl
      go false = refl

-- ---- The values that are held, one by one: those of the list l from place k on

module _ (held : List ℕ) (n : ℕ) (enough : n ≤ length held) where
  abbrev first : List ℕ
  first = take n held

  -- the magnitudes that are left from place k on
  abbrev pub left_held : ℕ → List Float
  left_held k = magnitudes_in (drop k (take n held))

  next_held : (k : ℕ) (x a : Float) → k < n → x ≡ of_bits binary32 (get_or held k 0) → a ≡ magnitude x → left_held k ≡ a ∷ left_held (k + 1)
  unfolding magnitudes_in float
  next_held k x a h ex ea =
      let inside : k < length first = omega (arith, h, length-take-le n held enough) in
      let more : k + 1 ≡ suc k = omega arith in
      ap magnitudes_in (drop-cons first k 0 inside) ∙ rw (get_or-take n held k 0 h, ea, ex, more) refl

  none_held : (k : ℕ) → n ≤ k → left_held k ≡ []
  unfolding magnitudes_in
  none_held k h = ap magnitudes_in (drop_of_length-le first {i = k} (omega (arith, h, length-take-le n held enough)))

  -- their sum: one is added, and what is left gives the whole
  pub sum_more : (sum x a whole : Float) (k : ℕ) → k < n → x ≡ of_bits binary32 (get_or held k 0) → a ≡ magnitude x
      → summed sum (left_held k) ≡ whole → summed (sum +₃₂ a) (left_held (k + 1)) ≡ whole
  unfolding summed
  sum_more sum x a whole k h ex ea rest = sym (ap (summed sum) (next_held k x a h ex ea)) ∙ rest

  pub sum_whole : (sum : Float) (k : ℕ) → n ≤ k → summed sum (left_held k) ≡ summed (of_bits binary32 0) (magnitudes_in (take n held))
      → sum ≡ summed nought (magnitudes_in (take n held))
  unfolding summed
  sum_whole sum k h rest =
      sym (ap (summed sum) (none_held k h)) ∙ rest ∙ ap (λ (f : Float). summed f (magnitudes_in (take n held))) nought_word

  -- the floor behind them
  pub floor_more : (floor x a next whole : Float) (k : ℕ) → k < n → x ≡ of_bits binary32 (get_or held k 0) → a ≡ magnitude x
      → next ≡ floor_after floor a → floor_along floor (left_held k) ≡ whole → floor_along next (left_held (k + 1)) ≡ whole
  unfolding floor_along
  floor_more floor x a next whole k h ex ea en rest = rw en (sym (ap (floor_along floor) (next_held k x a h ex ea)) ∙ rest)

  pub floor_all : (floor whole : Float) (k : ℕ) → n ≤ k → floor_along floor (left_held k) ≡ whole → floor ≡ whole
  unfolding floor_along
  floor_all floor whole k h rest = sym (ap (floor_along floor) (none_held k h)) ∙ rest

  -- and their flags
  module _ (d : Detector) where
    pub flags_more : (floor x a next : Float) (k at w : ℕ) (room whole : List ℕ) → k < n → x ≡ of_bits binary32 (get_or held k 0) → a ≡ magnitude x
        → next ≡ floor_after floor a → w ≡ flag_byte (flag_against d next a)
        → sets room (at + k) (map flag_byte (flags_along d floor (left_held k))) ≡ whole
        → sets (set room (at + k) w) (at + (k + 1)) (map flag_byte (flags_along d next (left_held (k + 1)))) ≡ whole
    flags_more floor x a next k at w room whole h ex ea en ew rest =
        let there : at + (k + 1) ≡ suc (at + k) = omega arith in
        let split : flags_along d floor (left_held k) ≡ flag_against d next a ∷ flags_along d next (left_held (k + 1)) =
        ap (flags_along d floor) (next_held k x a h ex ea)
        ∙ along_more d floor a (left_held (k + 1))
        ∙ ap (λ (f : Float). flag_against d f a ∷ flags_along d f (left_held (k + 1))) (sym en)
        in
        rw (there, ew) (sym (ap (λ (l : List Bool). sets room (at + k) (map flag_byte l)) split) ∙ rest)

    pub flags_all : (floor : Float) (k at : ℕ) (room whole : List ℕ) → n ≤ k
        → sets room (at + k) (map flag_byte (flags_along d floor (left_held k))) ≡ whole → room ≡ whole
    flags_all floor k at room whole h rest =
        sym (ap (λ (l : List Bool). sets room (at + k) (map flag_byte l)) (ap (flags_along d floor) (none_held k h) ∙ along_none d floor)) ∙ rest

-- the floor that starts from so few that it goes over all of them
opens_from : (start : Start) (ms : List Float) (n : ℕ) (sum opening : Float) → start ≡ Mean → length ms ≡ n → n ≤ mean_over
    → sum ≡ summed nought ms → opening ≡ mean_floor sum n → opening ≡ opening_floor start ms
unfolding opening_floor
opens_from start ms n sum opening m en few es eo =
    let all : take mean_over ms ≡ ms = take_all mean_over ms (omega (arith, en, few)) in
    eo ∙ rw (m, all, es, ← en) refl

-- ---- A place, with the floor, the room for values and the room for flags behind it

module _ (d : Detector) (held : List ℕ) (value : Float) (over : Bool) where
  abbrev h : Holding
  h = holding d held

  -- what the code leaves is what the rule says
  abbrev pub Judged : ℕ → List ℕ → Float → List ℕ → List ℕ → Type 0
  Judged at room floor values flags =
      (floor ≡ floor_with h value over) × (values ≡ values_with h value) × (flags ≡ sets room at (map flag_byte (flags_with h value over)))

  module _ (b : Bool) (eb : b ≡ held_back d.start d.taken) where
    -- nothing is held back
    module _ (free : b ≡ false) where
      pub free_room : (at size : ℕ) → at + length (judged_with h value over) ≤ size → at < size
      free_room at size fits = omega (arith, fits, ap length (judged_free h value over (sym eb ∙ free)))

      pub judged_one : (a floor : Float) (at flag : ℕ) (room : List ℕ) → a ≡ magnitude value → floor ≡ floor_after d.floor a
          → flag ≡ flag_byte (flag_against d floor a) → Judged at room floor held (set room at flag)
      unfolding floor_with floor_before floor_along values_with flags_with
      judged_one a floor at flag room ea ef e =
          let out : held_back d.start d.taken ≡ false = sym eb ∙ free in
          let single : flags_along d d.floor (magnitude value ∷ []) ≡ flag_against d floor a ∷ [] =
          along_more d d.floor (magnitude value) []
          ∙ ap (λ (l : List Bool). flag_against d (floor_after d.floor (magnitude value)) (magnitude value) ∷ l)
          (along_none d (floor_after d.floor (magnitude value)))
          ∙ rw (ef, ea) refl
          in
          rw (judged_free h value over out, out) (rw (ef, ea) refl, refl, rw e (sym (ap (λ (l : List Bool). sets room at (map flag_byte l)) single)))

    module _ (back : b ≡ true) (after : List ℕ) (word : ℕ) (stored : after ≡ set held (d.taken - 1) word) (ew : word ≡ to_bits binary32 value) where
      holds : held_back d.start d.taken ≡ true
      holds = sym eb ∙ back

      values_so : after ≡ values_with h value
      unfolding values_with
      values_so = rw holds (stored ∙ rw ew refl)

      -- it goes on
      none_judged : over ≡ false → flags_with h value over ≡ []
      unfolding flags_with
      none_judged o = ap (flags_along d (floor_before h value over)) (judged_still h value over holds o) ∙ along_none d (floor_before h value over)

      floor_stays : over ≡ false → d.floor ≡ floor_with h value over
      unfolding floor_with floor_before floor_along
      floor_stays o = sym (ap (floor_along (floor_before h value over)) (judged_still h value over holds o) ∙ rw (holds, o) refl)

      pub judged_none : (at : ℕ) (room : List ℕ) → over ≡ false → Judged at room d.floor after room
      judged_none at room o = (floor_stays o, values_so, sym (ap (λ (l : List Bool). sets room at (map flag_byte l)) (none_judged o)))

      -- it is over
      module _ (o : over ≡ true) where
        held_so : magnitudes_in (take d.taken after) ≡ held_with h value
        unfolding held_with magnitudes_in
        held_so = ap (λ (l : List ℕ). magnitudes_in (take d.taken l)) values_so

        few : d.taken ≤ mean_over
        few = (held_few d.start d.taken holds).1

        from_mean : d.start ≡ Mean
        from_mean = (held_few d.start d.taken holds).0

        pub all_room : (at size : ℕ) → mean_over ≤ length held → at + length (judged_with h value over) ≤ size → at + d.taken ≤ size
        all_room at size enough fits =
            omega (arith, fits, ap length (judged_all h value over holds o), length_held h value few enough)

        opening_so : (sum opening : Float) → mean_over ≤ length held → sum ≡ summed nought (magnitudes_in (take d.taken after))
            → opening ≡ mean_floor sum d.taken → opening ≡ opening_floor d.start (held_with h value)
        opening_so sum opening enough es eo =
            opens_from d.start (held_with h value) d.taken sum opening from_mean (length_held h value few enough) few (es ∙ ap (summed nought) held_so) eo

        before_is : floor_before h value over ≡ opening_floor d.start (held_with h value)
        unfolding floor_before
        before_is = rw (holds, o) refl

        floor_is : floor_with h value over ≡ floor_along (opening_floor d.start (held_with h value)) (held_with h value)
        unfolding floor_with
        floor_is =
            ap (floor_along (floor_before h value over)) (judged_all h value over holds o)
            ∙ ap (λ (f : Float). floor_along f (held_with h value)) before_is

        flags_is : flags_with h value over ≡ flags_along d (opening_floor d.start (held_with h value)) (held_with h value)
        unfolding flags_with
        flags_is =
            ap (flags_along d (floor_before h value over)) (judged_all h value over holds o)
            ∙ ap (λ (f : Float). flags_along d f (held_with h value)) before_is

        pub judged_held : (sum opening floor : Float) (at : ℕ) (room flags : List ℕ) → mean_over ≤ length held
            → sum ≡ summed nought (magnitudes_in (take d.taken after)) → opening ≡ mean_floor sum d.taken
            → (floor ≡ floor_along opening (magnitudes_in (take d.taken after)))
            × (flags ≡ sets room at (map flag_byte (flags_along d opening (magnitudes_in (take d.taken after)))))
            → Judged at room floor after flags
        judged_held sum opening floor at room flags enough es eo both =
            let start-so = opening_so sum opening enough es eo in (
              both.0 ∙ ap (floor_along opening) held_so ∙ ap (λ (f : Float). floor_along f (held_with h value)) start-so ∙ sym floor_is,
              values_so,
              both.1 ∙ ap (λ (ms : List Float). sets room at (map flag_byte (flags_along d opening ms))) held_so
                  ∙ ap (λ (f : Float). sets room at (map flag_byte (flags_along d f (held_with h value)))) start-so
                  ∙ sym (ap (λ (l : List Bool). sets room at (map flag_byte l)) flags_is),
            )
