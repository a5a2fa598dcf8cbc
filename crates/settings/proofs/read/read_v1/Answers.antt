-- `settings::read::read_v1` meets its contract: each way out is a line of the rule. Assumes nothing.
use Prim.Native.Nat.{ℕ, ◌≤◌, ◌<◌}
use mathlib.Core.Path.{◌≡◌, refl, ◌∙◌}
use mathlib.Core.List.{List}
use lib.ListN.{length}
use borrow.Author.Tests.{lt-ltb, le-ltb, eq-eqb, ne_eqb}
use Rattle.wire.specs.Wire.{word_at}
use Rattle.recording.specs.declared.Reason.TheVariants.{Version, Stored}
use Rattle.recording.specs.declared.Reason.{Reason}
use Rattle.std.specs.Prelude.{Result, Err}
use Rattle.settings.specs.declared.SettingsV1.{SettingsV1}
use Rattle.settings.specs.Settings.{parts_v1, settings_v1, allowed_v1, kept_in, version_bytes, of_first, read_v1}
use Rattle.settings.proofs.read.read_v1.Goals as goal

no_version : (block : List ℕ) → length block < version_bytes → Err Stored ≡ read_v1 block
unfolding read_v1
no_version block short = rw (lt-ltb (length block) version_bytes short) refl

module _ (block : List ℕ) (long : version_bytes ≤ length block) (version : ℕ) (is : version ≡ word_at block 0) where
  another : (version ≡ 1 → ⊥) → Err Version ≡ read_v1 block
  unfolding read_v1
  another other = rw (le-ltb (length block) version_bytes long, ← is, ne_eqb version 1 other) refl

  the_first : version ≡ 1 → (k : Result SettingsV1 Reason) → k ≡ kept_in parts_v1 settings_v1 allowed_v1 block → k ≡ read_v1 block
  unfolding read_v1 of_first
  the_first same k e = e ∙ rw (le-ltb (length block) version_bytes long, ← is, eq-eqb version 1 same) refl

pub returns-then-block-lt-VERSION_BYTES : goal.returns-then-block-lt-VERSION_BYTES
returns-then-block-lt-VERSION_BYTES c = no_version _ c.if-block-lt-VERSION_BYTES.true

pub returns-then-word_at-ne-FIRST_VERSION : goal.returns-then-word_at-ne-FIRST_VERSION
returns-then-word_at-ne-FIRST_VERSION c = another _ c.if-block-lt-VERSION_BYTES.false _ c.word_at.ensures c.if-word_at-ne-FIRST_VERSION.true

pub returns : goal.returns
returns c = the_first _ c.if-block-lt-VERSION_BYTES.false _ c.word_at.ensures c.if-word_at-ne-FIRST_VERSION.false _ c.of_block.ensures
