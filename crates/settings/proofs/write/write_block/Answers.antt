-- `settings::write::write_block` meets its contract: each turn stores one word more. Assumes nothing.
use Prim.Native.Nat.{ℕ, suc, ◌+◌, ◌*◌, ◌≤◌, ◌<◌}
use native.Mathlib.Omega.{arith}
use native.Mathlib.Nat.{zero-add}
use mathlib.Core.Path.{◌≡◌, sym, ap, subst, ◌∙◌}
use mathlib.Core.List.{List, ◌∷◌, ◌++◌, map, flatten, append_assoc}
use lib.ListN.{length, get_or, drop, drop_of_length-le, replicate, length-append, length-replicate}
use lib.Seq.{sets, length-sets, drop-cons}
use Rattle.leaves.proofs.Stores.{stored_behind}
use Rattle.wire.specs.Wire.{bytes_of, encoded, Below, words_to}
use Rattle.wire.proofs.Laws.{length_bytes, length_encoded}
use Rattle.contents.specs.Contents.{table_bytes, table, filed}
use Rattle.contents.proofs.Rows.{length_table}
use Rattle.settings.specs.Settings.{parts, version_bytes, block_of, block_bytes}
use Rattle.settings.proofs.Block.{fours, bodies_encoded, small_table}
use Rattle.settings.proofs.write.write_block.Goals as goal

-- what is stored leaves as many bytes
as_long : (room after stored : List ℕ) (i : ℕ) → after ≡ sets room i stored → length after ≡ length room
as_long room after stored i e = ap length e ∙ length-sets room i stored

-- one behind the other, from the first place on
behind : (room xs ys : List ℕ) → sets (sets room 0 xs) (length xs) ys ≡ sets room 0 (xs ++ ys)
behind room xs ys = ap (λ (i : ℕ). sets (sets room 0 xs) i ys) (sym (zero-add (length xs))) ∙ stored_behind room xs ys 0

-- ---- The table

module _ (words lens : List ℕ) (few : length words ≤ parts) (each : lens ≡ replicate (length words) 4) where
  count : length lens ≡ length words
  count = ap length each ∙ length-replicate {A = ℕ} (length words) 4

  small : Below words_to (table version_bytes lens)
  small = subst (λ (l : List ℕ). Below words_to (table version_bytes l)) (sym each) (small_table (length words) few)

  table_fits : (room : List ℕ) → block_bytes (length words) ≤ length room
      → (version_bytes + table_bytes (length lens) ≤ length room) × (version_bytes + table_bytes (length lens) < words_to)
      × Below words_to (table version_bytes lens)
  table_fits room h = let n = count in (omega (arith, n), omega (arith, n), small)

  -- ---- The version, the table and the bodies, one behind the other

  whole : (room one two three : List ℕ) (version bodies : ℕ) → one ≡ sets room 0 (bytes_of version)
      → two ≡ sets one version_bytes (encoded (table version_bytes lens)) → bodies ≡ version_bytes + table_bytes (length words)
      → three ≡ sets two bodies (encoded words) → three ≡ sets room 0 (block_of version words)
  unfolding block_of filed
  whole room one two three version bodies e f at g =
      g
      ∙ ap (λ (l : List ℕ). sets l bodies (encoded words)) (f ∙ two_is)
      ∙ ap (λ (i : ℕ). sets (sets room 0 front) i (encoded words)) there
      ∙ behind room front (encoded words)
      ∙ ap (sets room 0) (append_assoc (bytes_of version) t (encoded words) ∙ ap (λ (rest : List ℕ). bytes_of version ++ rest) same)
    where
      t : List ℕ
      t = encoded (table version_bytes lens)

      front : List ℕ
      front = bytes_of version ++ t

      two_is : sets one version_bytes t ≡ sets room 0 front
      two_is =
          ap (λ (l : List ℕ). sets l version_bytes t) e
          ∙ ap (λ (i : ℕ). sets (sets room 0 (bytes_of version)) i t) (sym (length_bytes version))
          ∙ behind room (bytes_of version) t

      there : bodies ≡ length front
      there =
          omega (
            arith,
            at,
            count,
            length-append (bytes_of version) t,
            length_bytes version,
            length_encoded (table version_bytes lens),
            length_table version_bytes lens,
          )

      same : t ++ encoded words ≡ encoded (table version_bytes (map length (map bytes_of words))) ++ flatten (map bytes_of words)
      same =
          ap (λ (l : List ℕ). encoded (table version_bytes l) ++ encoded words) (each ∙ sym (fours words))
          ∙ ap (λ (l : List ℕ). encoded (table version_bytes (map length (map bytes_of words))) ++ l) (sym (bodies_encoded words))

-- ---- A body more

one_more : (room after whole words : List ℕ) (bodies k : ℕ) → k < length words
    → after ≡ sets room (bodies + 4 * k) (bytes_of (get_or words k 0))
    → sets room (bodies + 4 * k) (encoded (drop k words)) ≡ whole
    → sets after (bodies + 4 * (k + 1)) (encoded (drop (k + 1) words)) ≡ whole
unfolding encoded
one_more room after whole words bodies k more stored rest =
    let next : suc k ≡ k + 1 = omega arith in
    let w = get_or words k 0 in
    let there : bodies + 4 * (k + 1) ≡ bodies + 4 * k + length (bytes_of w) = omega (arith, length_bytes w) in
    rw (stored, there)
    (stored_behind room (bytes_of w) (encoded (drop (k + 1) words)) (bodies + 4 * k)
    ∙ ap (λ (l : List ℕ). sets room (bodies + 4 * k) (encoded l)) (sym (drop-cons words k 0 more ∙ ap (λ (j : ℕ). w ∷ drop j words) next))
    ∙ rest)

all_stored : (room whole words : List ℕ) (at k : ℕ) → length words ≤ k → sets room at (encoded (drop k words)) ≡ whole → room ≡ whole
unfolding encoded
all_stored room whole words at k end rest =
    ap (λ (l : List ℕ). sets room at (encoded l)) (sym (drop_of_length-le words end)) ∙ rest

pub write_table-requires : goal.write_table-requires
write_table-requires c =
    let long = as_long c.args.room.now _ (bytes_of c.args.version) 0 c.store_word.ensures in
    table_fits c.args.words.now c.args.lens.now c.requires.0 c.requires.2 c.store_word.new.bytes
    (subst (λ (n : ℕ). block_bytes (length c.args.words.now) ≤ n) (sym long) c.requires.1)

pub loop-k-preserved : goal.loop-k-preserved
loop-k-preserved c = one_more _ _ _ _ _ _ c.loop-k-test.true c.store_word-in-loop-k.ensures c.loop-k.invariant

pub returns : goal.returns
returns c =
    whole _ _ c.requires.0 c.requires.2 _ _ _ _ _ _ c.store_word.ensures c.write_table.ensures c.bodies_at-bodies.ensures
    (all_stored _ _ _ _ _ c.loop-k-test.false c.loop-k.invariant)
