-- `settings::read::read` meets its contract: each way out is a line of the rule. Assumes nothing.
use Prim.Native.Nat.{ℕ, ◌≤◌, ◌<◌}
use mathlib.Core.Path.{◌≡◌, refl, ap, ◌∙◌}
use mathlib.Core.List.{List}
use lib.ListN.{length}
use borrow.Author.Tests.{lt-ltb, le-ltb, eq-eqb, ne_eqb}
use Rattle.wire.specs.Wire.{word_at}
use Rattle.recording.specs.declared.Reason.TheVariants.{Version, Stored}
use Rattle.recording.specs.declared.Reason.{Reason}
use Rattle.std.specs.Prelude.{Result, Err}
use Rattle.std.proofs.lemmas.Result.{err_from_is_err_and}
use Rattle.settings.specs.declared.SettingsV1.{SettingsV1}
use Rattle.settings.specs.declared.Settings.{Settings}
use Rattle.settings.specs.Settings.{version_bytes, parts_v1, parts, settings_v1, settings, allowed_v1, allowed, kept_in, of_first, of_second, with_held_run, read}
use Rattle.settings.proofs.read.read.Goals as goal

no_version : (block : List ℕ) → length block < version_bytes → Err Stored ≡ read block
unfolding read
no_version block short = rw (lt-ltb (length block) version_bytes short) refl

module _ (block : List ℕ) (long : version_bytes ≤ length block) (version : ℕ) (is : version ≡ word_at block 0) where
  -- of a block of version 1, what it keeps with the run length beside it
  the_first : version ≡ 1 → (k : Result SettingsV1 Reason) → k ≡ kept_in parts_v1 settings_v1 allowed_v1 block → with_held_run k ≡ read block
  unfolding read of_first
  the_first same k e = ap with_held_run e ∙ rw (le-ltb (length block) version_bytes long, ← is, eq-eqb version 1 same) refl

  module _ (not_first : version ≡ 1 → ⊥) where
    another : (version ≡ 2 → ⊥) → Err Version ≡ read block
    unfolding read
    another other = rw (le-ltb (length block) version_bytes long, ← is, ne_eqb version 1 not_first, ne_eqb version 2 other) refl

    the_second : version ≡ 2 → (k : Result Settings Reason) → k ≡ kept_in parts settings allowed block → k ≡ read block
    unfolding read of_second
    the_second same k e =
        e ∙ rw (le-ltb (length block) version_bytes long, ← is, ne_eqb version 1 not_first, eq-eqb version 2 same) refl

pub returns-then-block-lt-VERSION_BYTES : goal.returns-then-block-lt-VERSION_BYTES
returns-then-block-lt-VERSION_BYTES c = no_version _ c.if-block-lt-VERSION_BYTES.true

pub returns-in_err-of_block : goal.returns-in_err-of_block
returns-in_err-of_block c =
    let p = err_from_is_err_and c.from_residual.result c.from_residual.ensures.1 in
    rw (p.1, p.2)
    (the_first _ c.if-block-lt-VERSION_BYTES.false _ c.word_at-version.ensures c.if-version-eq-FIRST_VERSION.true _ c.in_err-of_block.ensures)

pub returns-then-version-eq-FIRST_VERSION : goal.returns-then-version-eq-FIRST_VERSION
returns-then-version-eq-FIRST_VERSION c =
    the_first _ c.if-block-lt-VERSION_BYTES.false _ c.word_at-version.ensures c.if-version-eq-FIRST_VERSION.true _ c.in_ok-of_block.ensures

pub returns-then-version-eq-SECOND_VERSION : goal.returns-then-version-eq-SECOND_VERSION
returns-then-version-eq-SECOND_VERSION c =
    the_second _ c.if-block-lt-VERSION_BYTES.false _ c.word_at-version.ensures c.if-version-eq-FIRST_VERSION.false c.if-version-eq-SECOND_VERSION.true _
    c.of_block-then-version-eq-SECOND_VERSION.ensures

pub returns : goal.returns
returns c =
    another _ c.if-block-lt-VERSION_BYTES.false _ c.word_at-version.ensures c.if-version-eq-FIRST_VERSION.false c.if-version-eq-SECOND_VERSION.false
