-- The calls that take and give words, both ways. Assumes nothing.
use Prim.Native.Nat.{ℕ, ◌+◌, ◌≤◌}
use native.Mathlib.Omega.{arith}
use mathlib.Core.Path.{◌≡◌, refl, sym, ap, ◌∙◌}
use mathlib.Core.Bool.{true}
use mathlib.Core.List.{List}
use lib.ListN.{length, get_or, take, drop}
use lib.Seq.{sets, sets-eq, take-append_seam}
use lib.Ieee.{binary32, fits, of_bits}
use lib.Ieee.Bits.{is_true, of_bits-fits}
use borrow.Author.Tests.{le-ltb}
use Rattle.leaves.specs.Arithmetic.{float}
use Rattle.leaves.proofs.Stores.{stored_over}
use Rattle.wire.specs.Wire.{word_at, Below, bytes_to, words_to}
use Rattle.std.specs.Prelude.{Result, Ok, Err}
use Rattle.settings.specs.declared.SettingsV1.{SettingsV1}
use Rattle.recording.specs.declared.Reason.{Reason}
use Rattle.settings.specs.declared.Settings.{Settings}
use Rattle.settings.specs.Settings.{parts_v1, parts, words_v1, words, settings_v1, settings, allowed_v1, allowed, block_of, block_bytes, Left, left}
use Rattle.settings.specs.Settings.{stored, read_v1, read, read_to_v1, read_to, write_v1, write, write_from_v1, write_from}
use Rattle.settings.specs.Consequences.{HoldsV1, Holds, CallsReadBack, CallsWriteBack}
use Rattle.settings.proofs.Patterns.{words_are_kept}
use Rattle.settings.proofs.Storing.{no_refusal, good_block, Accepted, accepted}
use Rattle.settings.specs.Counts.{six_words, seven_words}
use Rattle.settings.proofs.Consequences.{blocks_are_as_long, written_is_read_v1, written_is_read}
use Rattle.settings.proofs.Consequences.{again_v1, again}

-- ---- What words stand for is what a variable can hold

float_fits : (w : ℕ) → fits binary32 (float w) ≡ true
unfolding float
float_fits w = is_true (fits binary32 (of_bits binary32 w)) (of_bits-fits binary32 w)

holds_v1 : (ws : List ℕ) → Below words_to ws → HoldsV1 (settings_v1 ws)
unfolding settings_v1
holds_v1 ws below =
    record {
      threshold = float_fits (get_or ws 0 0);
      sensitivity = float_fits (get_or ws 1 0);
      strength = float_fits (get_or ws 2 0);
      bits = below 3;
      longest = float_fits (get_or ws 4 0);
      rate = below 5;
    }

holds : (ws : List ℕ) → Below words_to ws → Holds (settings ws)
unfolding settings
holds ws below = record { first = holds_v1 ws below; held = below 6 }

-- what was stored in front stands there
front_again : (room vs : List ℕ) (m : ℕ) → m ≡ length vs → length vs ≤ length room → take m (sets room 0 vs) ≡ vs
front_again room vs m count fits' =
    ap (λ (k : ℕ). take k (sets room 0 vs)) count
    ∙ ap (take (length vs)) (sets-eq vs room 0 (omega arith))
    ∙ take-append_seam vs (drop (0 + length vs) room)

-- ---- Written, and then read

writes_v1 : (ws room : List ℕ) → length ws ≡ parts_v1 → write_from_v1 ws room ≡ stored 1 (words_v1 (settings_v1 ws)) (allowed_v1 (settings_v1 ws)) room
unfolding write_from_v1 write_v1
writes_v1 ws room count = rw (le-ltb (length ws) parts_v1 (omega (arith, count))) refl

writes : (ws room : List ℕ) → length ws ≡ parts → write_from ws room ≡ stored 2 (words (settings ws)) (allowed (settings ws)) room
unfolding write_from write
writes ws room count = rw (le-ltb (length ws) parts (omega (arith, count))) refl

reads_v1 : (block area : List ℕ) (s : SettingsV1) → parts_v1 ≤ length area → read_v1 block ≡ Ok s
    → read_to_v1 block area ≡ left (Ok parts_v1) (sets area 0 (words_v1 s))
unfolding read_to_v1
reads_v1 block area s room h = rw (le-ltb (length area) parts_v1 room, h) refl

reads : (block area : List ℕ) (s : Settings) → parts ≤ length area → read block ≡ Ok s
    → read_to block area ≡ left (Ok parts) (sets area 0 (words s))
unfolding read_to
reads block area s room h = rw (le-ltb (length area) parts room, h) refl

read_back_v1 : (ws room area : List ℕ) (m : ℕ) → length ws ≡ parts_v1 → Below words_to ws → parts_v1 ≤ length area
    → (write_from_v1 ws room).answer ≡ Ok m
    → read_to_v1 (take m (write_from_v1 ws room).lent) area ≡ left (Ok parts_v1) (sets area 0 ws)
read_back_v1 ws room area m count below place h =
    ap (λ (block : List ℕ). read_to_v1 block area) block_is
    ∙ reads_v1 (block_of 1 (words_v1 s)) area s place (written_is_read_v1 s (holds_v1 ws below) a.good)
    ∙ ap (λ (l : List ℕ). left (Ok parts_v1) (sets area 0 l)) (words_are_kept.0 ws count below a.good)
  where
    s : SettingsV1
    s = settings_v1 ws

    so : write_from_v1 ws room ≡ stored 1 (words_v1 s) (allowed_v1 s) room
    so = writes_v1 ws room count

    a : Accepted 1 parts_v1 (words_v1 s) room (allowed_v1 s) m
    a = accepted 1 parts_v1 (words_v1 s) room (allowed_v1 s) m (six_words s) (sym (ap (λ (l : Left). l.answer) so) ∙ h)

    block_is : take m (write_from_v1 ws room).lent ≡ block_of 1 (words_v1 s)
    block_is =
        let long = blocks_are_as_long.0 1 s in
        ap (λ (l : Left). take m l.lent) so
        ∙ ap (take m) a.there
        ∙ front_again room (block_of 1 (words_v1 s)) m (omega (arith, a.count, long)) (omega (arith, a.enough, long))

read_back : (ws room area : List ℕ) (m : ℕ) → length ws ≡ parts → Below words_to ws → parts ≤ length area
    → (write_from ws room).answer ≡ Ok m
    → read_to (take m (write_from ws room).lent) area ≡ left (Ok parts) (sets area 0 ws)
read_back ws room area m count below place h =
    ap (λ (block : List ℕ). read_to block area) block_is
    ∙ reads (block_of 2 (words s)) area s place (written_is_read s (holds ws below) a.good)
    ∙ ap (λ (l : List ℕ). left (Ok parts) (sets area 0 l)) (words_are_kept.1 ws count below a.good)
  where
    s : Settings
    s = settings ws

    so : write_from ws room ≡ stored 2 (words s) (allowed s) room
    so = writes ws room count

    a : Accepted 2 parts (words s) room (allowed s) m
    a = accepted 2 parts (words s) room (allowed s) m (seven_words s) (sym (ap (λ (l : Left). l.answer) so) ∙ h)

    block_is : take m (write_from ws room).lent ≡ block_of 2 (words s)
    block_is =
        let long = blocks_are_as_long.1 2 s in
        ap (λ (l : Left). take m l.lent) so
        ∙ ap (take m) a.there
        ∙ front_again room (block_of 2 (words s)) m (omega (arith, a.count, long)) (omega (arith, a.enough, long))

pub calls_read_back : CallsReadBack
calls_read_back = (read_back_v1, read_back)

-- ---- Read, and then written

-- what a reader told
told_v1 : (block area : List ℕ) (m : ℕ) → parts_v1 ≤ length area → (read_to_v1 block area).answer ≡ Ok m
    → (s : SettingsV1) × (read_v1 block ≡ Ok s)
unfolding read_to_v1
told_v1 block area m room h = go (read_v1 block) refl
  where
    go : (k : Result SettingsV1 Reason) → read_v1 block ≡ k → (s : SettingsV1) × (read_v1 block ≡ Ok s)
    go (Ok s) e = (s, e)
    go (Err why) e = no_refusal (rw (le-ltb (length area) parts_v1 room, e) at h)

told : (block area : List ℕ) (m : ℕ) → parts ≤ length area → (read_to block area).answer ≡ Ok m → (s : Settings) × (read block ≡ Ok s)
unfolding read_to
told block area m room h = go (read block) refl
  where
    go : (k : Result Settings Reason) → read block ≡ k → (s : Settings) × (read block ≡ Ok s)
    go (Ok s) e = (s, e)
    go (Err why) e = no_refusal (rw (le-ltb (length area) parts room, e) at h)

write_back_v1 : (block area room : List ℕ) (m : ℕ) → Below bytes_to block → length area ≡ parts_v1 → block_bytes parts_v1 ≤ length room
    → (read_to_v1 block area).answer ≡ Ok m
    → write_from_v1 (read_to_v1 block area).lent room ≡ left (Ok (block_bytes parts_v1)) (sets room 0 block)
write_back_v1 block area room m below count enough h =
    let place : parts_v1 ≤ length area = omega (arith, count) in
    let found = told_v1 block area m place h in
    let s = found.0 in
    let ws = words_v1 s in
    let kept = again_v1 block s below found.1 in
    let lent_is : (read_to_v1 block area).lent ≡ ws =
    ap (λ (l : Left). l.lent) (reads_v1 block area s place found.1) ∙ stored_over area ws (six_words s ∙ sym count) in
    ap (λ (l : List ℕ). write_from_v1 l room) lent_is
    ∙ writes_v1 ws room (six_words s)
    ∙ ap (λ (t : SettingsV1). stored 1 (words_v1 t) (allowed_v1 t) room) kept.back
    ∙ sym (good_block 1 parts_v1 ws room (allowed_v1 s) (six_words s) enough kept.good)
    ∙ ap (λ (l : List ℕ). left (Ok (block_bytes parts_v1)) (sets room 0 l)) kept.same

write_back : (block area room : List ℕ) (m : ℕ) → Below bytes_to block → length area ≡ parts → block_bytes parts ≤ length room
    → word_at block 0 ≡ 2 → (read_to block area).answer ≡ Ok m
    → write_from (read_to block area).lent room ≡ left (Ok (block_bytes parts)) (sets room 0 block)
write_back block area room m below count enough version h =
    let place : parts ≤ length area = omega (arith, count) in
    let found = told block area m place h in
    let s = found.0 in
    let ws = words s in
    let kept = again block s below version found.1 in
    let lent_is : (read_to block area).lent ≡ ws =
    ap (λ (l : Left). l.lent) (reads block area s place found.1) ∙ stored_over area ws (seven_words s ∙ sym count) in
    ap (λ (l : List ℕ). write_from l room) lent_is
    ∙ writes ws room (seven_words s)
    ∙ ap (λ (t : Settings). stored 2 (words t) (allowed t) room) kept.back
    ∙ sym (good_block 2 parts ws room (allowed s) (seven_words s) enough kept.good)
    ∙ ap (λ (l : List ℕ). left (Ok (block_bytes parts)) (sets room 0 l)) kept.same

pub calls_write_back : CallsWriteBack
calls_write_back = (write_back_v1, write_back)
