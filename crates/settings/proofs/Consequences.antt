-- What follows from the rules of the readers and the writers. Assumes nothing.
use Prim.Native.Nat.{ℕ, ◌+◌, ◌*◌, ◌≤◌}
use native.Mathlib.Omega.{arith}
use mathlib.Core.Path.{◌≡◌, refl, sym, ap, ◌∙◌}
use mathlib.Core.Bool.{true, false}
use mathlib.Core.Logic.{◌⊎◌, inl, inr}
use mathlib.Core.List.{List}
use lib.ListN.{length}
use lib.Dec.{ltb, eqb}
use borrow.Author.Tests.{le-ltb, eq-eqb, ne_eqb, eqb-true}
use Rattle.leaves.proofs.Choice.{truth, EitherWay}
use Rattle.wire.specs.Wire.{word_at, Below, bytes_to}
use Rattle.wire.proofs.Laws.{length_decoded, decoded_below}
use Rattle.recording.specs.declared.Reason.{Reason}
use Rattle.inpaint.specs.Auto.{held_run}
use Rattle.settings.specs.declared.SettingsV1.{SettingsV1}
use Rattle.settings.specs.declared.Settings.{Settings}
use Rattle.std.specs.Prelude.{Result, Ok, Err, is_ok}
use Rattle.settings.specs.Settings.{parts_v1, parts, words_v1, words, settings_v1, settings, allowed_v1, allowed, version_bytes, block_of, formed, words_in}
use Rattle.settings.specs.Settings.{of_first, of_second, read_v1, with_held_run, read}
use Rattle.settings.specs.Counts.{six_words, seven_words}
use Rattle.settings.specs.Consequences.{BlocksAreAsLong, WrittenIsReadV1, WrittenIsRead, ReadIsWrittenV1, ReadIsWritten}
use Rattle.settings.specs.Consequences.{AcceptedAreAllowed, JustOneBlock, FirstWithHeldRun, FirstAlone}
use Rattle.settings.proofs.Patterns.{settings_back_v1, settings_back, words_below_v1, words_below, words_are_kept}
use Rattle.settings.proofs.Block.{length_block, Laid, laid, has_form}
use Rattle.settings.proofs.Keeping.{is_known, Kept, tells}

-- ---- What was accepted

-- it is not turned away
no_refusal : {A S : Type 0} {s : S} {why : Reason} → ◌≡◌ {A = Result S Reason} (Err why) (Ok s) → A
no_refusal both = let never = eqb-true 0 1 (ap is_ok both) in absurd (omega arith)

-- the settings of an acceptance, or else others
abbrev kept : Settings → Result Settings Reason → Settings
kept other (Ok s) = s
kept other (Err why) = other

-- of a block of version 1 the form, and what its words stand for; and of one of version 2
abbrev FirstKept : List ℕ → SettingsV1 → Type 0
FirstKept = Kept SettingsV1 parts_v1 settings_v1 allowed_v1

abbrev SecondKept : List ℕ → Settings → Type 0
SecondKept = Kept Settings parts settings allowed

first_known : (block : List ℕ) → formed parts_v1 block ≡ true → allowed_v1 (settings_v1 (words_in parts_v1 block)) ≡ true
    → of_first block ≡ Ok (settings_v1 (words_in parts_v1 block))
unfolding of_first
first_known block form good = is_known SettingsV1 parts_v1 settings_v1 allowed_v1 block form good

first_kept : (block : List ℕ) (s : SettingsV1) → of_first block ≡ Ok s → FirstKept block s
unfolding of_first
first_kept block s h = tells SettingsV1 parts_v1 settings_v1 allowed_v1 block s h

second_known : (block : List ℕ) → formed parts block ≡ true → allowed (settings (words_in parts block)) ≡ true
    → of_second block ≡ Ok (settings (words_in parts block))
unfolding of_second
second_known block form good = is_known Settings parts settings allowed block form good

second_kept : (block : List ℕ) (s : Settings) → of_second block ≡ Ok s → SecondKept block s
unfolding of_second
second_kept block s h = tells Settings parts settings allowed block s h

-- ---- The readers, version by version

reads_first_v1 : (block : List ℕ) → version_bytes ≤ length block → word_at block 0 ≡ 1 → read_v1 block ≡ of_first block
unfolding read_v1
reads_first_v1 block long v = rw (le-ltb (length block) version_bytes long, eq-eqb (word_at block 0) 1 v) refl

reads_second : (block : List ℕ) → version_bytes ≤ length block → word_at block 0 ≡ 2 → read block ≡ of_second block
unfolding read
reads_second block long v =
    let other : eqb (word_at block 0) 1 ≡ false = ne_eqb (word_at block 0) 1 (λ e. absurd (omega arith)) in
    rw (le-ltb (length block) version_bytes long, other, eq-eqb (word_at block 0) 2 v) refl

pub first_with_held_run : FirstWithHeldRun
unfolding read_v1 read
first_with_held_run block v =
    elim (truth (ltb (length block) version_bytes)) [
      | inl short ↦ rw short refl
      | inr long ↦ rw (long, eq-eqb (word_at block 0) 1 v) refl
    ]

pub first_alone : FirstAlone
unfolding read_v1
first_alone block long other = rw (le-ltb (length block) version_bytes long, ne_eqb (word_at block 0) 1 other) refl

-- an accepted block has a version that is known, and is one of it
accepted_v1 : (block : List ℕ) (s : SettingsV1) → read_v1 block ≡ Ok s → (word_at block 0 ≡ 1) × (of_first block ≡ Ok s)
unfolding read_v1
accepted_v1 block s h = go (truth (ltb (length block) version_bytes)) (truth (eqb (word_at block 0) 1))
  where
    go : EitherWay (ltb (length block) version_bytes) → EitherWay (eqb (word_at block 0) 1)
        → (word_at block 0 ≡ 1) × (of_first block ≡ Ok s)
    go (inl short) v = no_refusal (rw short at h)
    go (inr long) (inl v) = (eqb-true (word_at block 0) 1 v, rw (long, v) at h)
    go (inr long) (inr v) = no_refusal (rw (long, v) at h)

-- the settings of version 1 with a run length beside them come from settings of version 1
abbrev first_of : Result Settings Reason → Result SettingsV1 Reason
first_of (Ok s) = Ok s.first
first_of (Err why) = Err why

record Beside (k : Result SettingsV1 Reason) (s : Settings) : Type 0 where
  first : k ≡ Ok s.first
  sixteen : s.held ≡ held_run

beside : (k : Result SettingsV1 Reason) (s : Settings) → with_held_run k ≡ Ok s → Beside k s
beside (Ok t) s h =
    let same = ap (kept s) h in
    record { first = ap (λ (r : Settings). first_of (Ok r)) same; sixteen = ap (λ (r : Settings). r.held) (sym same) }
beside (Err why) s h = no_refusal h

record OfFirst (block : List ℕ) (s : Settings) : Type 0 where
  version : word_at block 0 ≡ 1
  from : Beside (of_first block) s

record OfSecond (block : List ℕ) (s : Settings) : Type 0 where
  version : word_at block 0 ≡ 2
  from : of_second block ≡ Ok s

accepted : (block : List ℕ) (s : Settings) → read block ≡ Ok s → OfFirst block s ⊎ OfSecond block s
unfolding read
accepted block s h =
    go (truth (ltb (length block) version_bytes)) (truth (eqb (word_at block 0) 1)) (truth (eqb (word_at block 0) 2))
  where
    go : EitherWay (ltb (length block) version_bytes) → EitherWay (eqb (word_at block 0) 1) → EitherWay (eqb (word_at block 0) 2)
        → OfFirst block s ⊎ OfSecond block s
    go (inl short) v w = no_refusal (rw short at h)
    go (inr long) (inl v) w =
        let is : with_held_run (of_first block) ≡ Ok s = rw (long, v) at h in
        inl (record { version = eqb-true (word_at block 0) 1 v; from = beside (of_first block) s is })
    go (inr long) (inr v) (inl w) = inr (record { version = eqb-true (word_at block 0) 2 w; from = rw (long, v, w) at h })
    go (inr long) (inr v) (inr w) = no_refusal (rw (long, v, w) at h)

-- ---- Both ways

pub blocks_are_as_long : BlocksAreAsLong
blocks_are_as_long = (
  λ version s. length_block version (words_v1 s) ∙ (let n = six_words s in omega (arith, n)),
  λ version s. length_block version (words s) ∙ (let n = seven_words s in omega (arith, n)),
)

pub written_is_read_v1 : WrittenIsReadV1
written_is_read_v1 s holds good =
    reads_first_v1 block (omega (arith, blocks_are_as_long.0 1 s)) there.version_is
    ∙ first_known block form (ap allowed_v1 same ∙ good)
    ∙ ap Ok same
  where
    block : List ℕ
    block = block_of 1 (words_v1 s)

    there : Laid 1 (words_v1 s)
    there = laid 1 (words_v1 s) (omega arith) (words_below_v1 s holds) (omega (arith, six_words s))

    form : formed parts_v1 block ≡ true
    form = ap (λ (n : ℕ). formed n block) (sym (six_words s)) ∙ there.form

    same : settings_v1 (words_in parts_v1 block) ≡ s
    same =
        ap settings_v1 (ap (λ (n : ℕ). words_in n block) (sym (six_words s)) ∙ there.words_are)
        ∙ settings_back_v1 s holds

pub written_is_read : WrittenIsRead
written_is_read s holds good =
    reads_second block (omega (arith, blocks_are_as_long.1 2 s)) there.version_is
    ∙ second_known block form (ap allowed same ∙ good)
    ∙ ap Ok same
  where
    block : List ℕ
    block = block_of 2 (words s)

    there : Laid 2 (words s)
    there = laid 2 (words s) (omega arith) (words_below s holds) (omega (arith, seven_words s))

    form : formed parts block ≡ true
    form = ap (λ (n : ℕ). formed n block) (sym (seven_words s)) ∙ there.form

    same : settings (words_in parts block) ≡ s
    same = ap settings (ap (λ (n : ℕ). words_in n block) (sym (seven_words s)) ∙ there.words_are) ∙ settings_back s holds

-- a block of either version, written again: its words stand for its settings, which are allowed, and its bytes are those of the block
pub record AgainV1 (block : List ℕ) (s : SettingsV1) : Type 0 where
  pub back : settings_v1 (words_v1 s) ≡ s
  pub good : allowed_v1 s ≡ true
  pub same : block_of 1 (words_v1 s) ≡ block

first_again : (block : List ℕ) (s : SettingsV1) → Below bytes_to block → word_at block 0 ≡ 1 → of_first block ≡ Ok s → AgainV1 block s
first_again block s below v h =
    let f = first_kept block s h in
    let from = version_bytes + 4 + 12 * parts_v1 in
    let ws = words_in parts_v1 block in
    let words_are : words_v1 s ≡ ws =
    ap words_v1 (sym f.those)
    ∙ words_are_kept.0 ws (length_decoded block from parts_v1) (decoded_below block from parts_v1 below) f.good in
    record {
      back = ap settings_v1 words_are ∙ f.those;
      good = ap allowed_v1 (sym f.those) ∙ f.good;
      same = ap (block_of 1) words_are ∙ ap (λ (k : ℕ). block_of k ws) (sym v) ∙ (has_form parts_v1 block f.form).again below;
    }

pub record Again (block : List ℕ) (s : Settings) : Type 0 where
  pub back : settings (words s) ≡ s
  pub good : allowed s ≡ true
  pub same : block_of 2 (words s) ≡ block

second_again : (block : List ℕ) (s : Settings) → Below bytes_to block → word_at block 0 ≡ 2 → of_second block ≡ Ok s → Again block s
second_again block s below v h =
    let f = second_kept block s h in
    let from = version_bytes + 4 + 12 * parts in
    let ws = words_in parts block in
    let words_are : words s ≡ ws =
    ap words (sym f.those)
    ∙ words_are_kept.1 ws (length_decoded block from parts) (decoded_below block from parts below) f.good in
    record {
      back = ap settings words_are ∙ f.those;
      good = ap allowed (sym f.those) ∙ f.good;
      same = ap (block_of 2) words_are ∙ ap (λ (k : ℕ). block_of k ws) (sym v) ∙ (has_form parts block f.form).again below;
    }

pub again_v1 : (block : List ℕ) (s : SettingsV1) → Below bytes_to block → read_v1 block ≡ Ok s → AgainV1 block s
again_v1 block s below h =
    let a = accepted_v1 block s h in
    first_again block s below a.0 a.1

pub again : (block : List ℕ) (s : Settings) → Below bytes_to block → word_at block 0 ≡ 2 → read block ≡ Ok s → Again block s
again block s below v h = go (accepted block s h)
  where
    go : OfFirst block s ⊎ OfSecond block s → Again block s
    go (inl o) = absurd (omega (arith, o.version, v))
    go (inr o) = second_again block s below v o.from

pub read_is_written_v1 : ReadIsWrittenV1
read_is_written_v1 block s below h = (again_v1 block s below h).same

pub read_is_written : ReadIsWritten
read_is_written block s below h = go (accepted block s h)
  where
    go : OfFirst block s ⊎ OfSecond block s
        → (word_at block 0 ≡ 1 → block_of 1 (words_v1 s.first) ≡ block) × (word_at block 0 ≡ 2 → block_of 2 (words s) ≡ block)
    go (inl o) = (λ v. (first_again block s.first below v o.from.first).same, λ v. absurd (omega (arith, o.version, v)))
    go (inr o) = (λ v. absurd (omega (arith, o.version, v)), λ v. (second_again block s below v o.from).same)

pub accepted_are_allowed : AcceptedAreAllowed
accepted_are_allowed block s h = go (accepted block s h)
  where
    go : OfFirst block s ⊎ OfSecond block s → ((word_at block 0 ≡ 1) ⊎ (word_at block 0 ≡ 2)) × (allowed s ≡ true)
    go (inl o) =
        let f = first_kept block s.first o.from.first in
        (inl o.version, unfold allowed in rw (← f.those, f.good, o.from.sixteen) refl)
    go (inr o) =
        let f = second_kept block s o.from in
        (inr o.version, ap allowed (sym f.those) ∙ f.good)

pub just_one_block : JustOneBlock
just_one_block block other s below below' h h' same = go (accepted_are_allowed block s h).0
  where
    a : (word_at block 0 ≡ 1 → block_of 1 (words_v1 s.first) ≡ block) × (word_at block 0 ≡ 2 → block_of 2 (words s) ≡ block)
    a = read_is_written block s below h

    b : (word_at other 0 ≡ 1 → block_of 1 (words_v1 s.first) ≡ other) × (word_at other 0 ≡ 2 → block_of 2 (words s) ≡ other)
    b = read_is_written other s below' h'

    go : (word_at block 0 ≡ 1) ⊎ (word_at block 0 ≡ 2) → block ≡ other
    go (inl v) = sym (a.0 v) ∙ b.0 (sym same ∙ v)
    go (inr v) = sym (a.1 v) ∙ b.1 (sym same ∙ v)
