-- The bytes of a block: one that is laid down has its version, its form and its words; and one that has the form is the one that would be
-- laid down. Assumes nothing.
use Prim.Native.Nat.{ℕ, zero, suc, ◌+◌, ◌*◌, ◌≤◌, ◌<◌}
use native.Mathlib.Omega.{arith}
use mathlib.Core.Path.{◌≡◌, refl, sym, ap, subst, ◌∙◌}
use mathlib.Core.Bool.{true}
use mathlib.Core.List.{List, [], ◌∷◌, ◌++◌, map, flatten, append_assoc, append-nil}
use lib.ListN.{length, take, drop, replicate, length-append, length-map, length-replicate}
use lib.Seq.{take_at, drop-drop}
use lib.Dec.{eqb}
use borrow.Author.Tests.{eqb-true}
use Rattle.leaves.proofs.Choice.{both_hold}
use Rattle.wire.specs.Wire.{word_at, decoded, bytes_of, encoded, Below, bytes_to, words_to}
use Rattle.wire.proofs.Laws.{length_bytes, length_encoded, word_back, words_back, decoded_behind, bytes_back}
use Rattle.contents.specs.Contents.{table_bytes, rows, table, filed, lengths_in, laid_out, cut, bodies_in}
use Rattle.contents.proofs.Rows.{length_table, length_lengths, total, laid_out_lem}
use Rattle.contents.proofs.Consequences.{filed_is_read, read_is_filed}
use Rattle.settings.specs.Settings.{parts, version_bytes, block_of, block_bytes, one_word_each, formed, words_in}

-- ---- Bodies of one word each

-- so long
pub fours : (ws : List ℕ) → map length (map bytes_of ws) ≡ replicate (length ws) 4
fours [] = refl
fours (w ∷ ws) = rw (length_bytes w, fours ws) refl

-- together they are the words' bytes
pub bodies_encoded : (ws : List ℕ) → flatten (map bytes_of ws) ≡ encoded ws
unfolding flatten encoded
bodies_encoded [] = refl
bodies_encoded (w ∷ ws) = ap (λ (rest : List ℕ). bytes_of w ++ rest) (bodies_encoded ws)

each_is_one : (n : ℕ) → one_word_each (replicate n 4) ≡ true
unfolding one_word_each
each_is_one zero = refl
each_is_one (suc n) = each_is_one n

each_tells : (lens : List ℕ) → one_word_each lens ≡ true → lens ≡ replicate (length lens) 4
unfolding one_word_each
each_tells [] h = refl
each_tells (len ∷ lens) h =
    let tests = both_hold (eqb len 4) (one_word_each lens) h in
    let rest = each_tells lens tests.1 in
    ap (λ (k : ℕ). k ∷ lens) (eqb-true len 4 tests.0) ∙ ap (λ (l : List ℕ). 4 ∷ l) rest

-- the figures of their table are small
small_rows : (n k at : ℕ) → k + n < words_to → at + 4 * n < words_to → Below words_to (rows k at (replicate n 4))
unfolding rows
small_rows zero k at few near i = omega arith
small_rows (suc n) k at few near zero = omega arith
small_rows (suc n) k at few near (suc zero) = omega arith
small_rows (suc n) k at few near (suc (suc zero)) = omega arith
small_rows (suc n) k at few near (suc (suc (suc i))) = small_rows n (k + 1) (at + 4) (omega arith) (omega arith) i

pub small_table : (n : ℕ) → n ≤ parts → Below words_to (table version_bytes (replicate n 4))
unfolding table
small_table n few zero =
    let count = length-replicate {A = ℕ} n 4 in
    omega (arith, count)
small_table n few (suc i) =
    let count = length-replicate {A = ℕ} n 4 in
    small_rows n 1 (version_bytes + table_bytes (length (replicate n 4))) (omega arith) (omega (arith, count)) i

-- ---- A block that is laid down

pub length_block : (version : ℕ) (ws : List ℕ) → length (block_of version ws) ≡ block_bytes (length ws)
unfolding block_of filed
length_block version ws =
    let t = table version_bytes (map length (map bytes_of ws)) in
    let bodies = flatten (map bytes_of ws) in
    let behind = length-append (bytes_of version) (encoded t ++ bodies) in
    let inner = length-append (encoded t) bodies in
    let sized = length_encoded t in
    let counted = length_table version_bytes (map length (map bytes_of ws)) in
    let each = ap length (fours ws) ∙ length-replicate {A = ℕ} (length ws) 4 in
    let words = ap length (bodies_encoded ws) ∙ length_encoded ws in
    omega (arith, behind, inner, sized, counted, each, words, length_bytes version)

pub record Laid (version : ℕ) (ws : List ℕ) : Type 0 where
  pub version_is : word_at (block_of version ws) 0 ≡ version
  pub form : formed (length ws) (block_of version ws) ≡ true
  pub words_are : words_in (length ws) (block_of version ws) ≡ ws

form_laid : (version : ℕ) (ws : List ℕ) → length ws ≤ parts → formed (length ws) (block_of version ws) ≡ true
unfolding formed block_of
form_laid version ws few =
    let bodies = map bytes_of ws in
    let small = subst (λ (lens : List ℕ). Below words_to (table version_bytes lens)) (sym (fours ws)) (small_table (length ws) few) in
    let r = filed_is_read version_bytes (bytes_of version) bodies (length_bytes version) small in
    let count : length ws ≡ length bodies = sym (length-map ws bytes_of) in
    let each : one_word_each (map length bodies) ≡ true = ap one_word_each (fours ws) ∙ each_is_one (length ws) in
    rw (count, r.0, r.1) each

words_laid : (version : ℕ) (ws : List ℕ) → Below words_to ws → words_in (length ws) (block_of version ws) ≡ ws
unfolding block_of filed
words_laid version ws below =
    let t = encoded (table version_bytes (map length (map bytes_of ws))) in
    let front = bytes_of version ++ t in
    let split : bytes_of version ++ (t ++ flatten (map bytes_of ws)) ≡ front ++ (encoded ws ++ []) =
    rw (bodies_encoded ws, append-nil (encoded ws)) (sym (append_assoc (bytes_of version) t (encoded ws))) in
    let sized : version_bytes + table_bytes (length ws) ≡ length front + 0 =
    let each = ap length (fours ws) ∙ length-replicate {A = ℕ} (length ws) 4 in
    omega (
      arith,
      each,
      length-append (bytes_of version) t,
      length_bytes version,
      length_encoded (table version_bytes (map length (map bytes_of ws))),
      length_table version_bytes (map length (map bytes_of ws)),
    )
    in
    rw (split, sized) (decoded_behind front (encoded ws ++ []) 0 (length ws) ∙ words_back ws [] below)

pub laid : (version : ℕ) (ws : List ℕ) → version < words_to → Below words_to ws → length ws ≤ parts → Laid version ws
laid version ws v below few =
    record {
      version_is = unfold block_of in word_back version (filed version_bytes (map bytes_of ws)) v;
      form = form_laid version ws few;
      words_are = words_laid version ws below;
    }

-- ---- A block that has the form

-- four bytes are those of their word
word_bytes : (block : List ℕ) (i : ℕ) → Below bytes_to block → i + 4 ≤ length block → take 4 (drop i block) ≡ bytes_of (word_at block i)
word_bytes block i below inside =
    ap (take 4) (sym (bytes_back block i below inside)) ∙ take_at (bytes_of (word_at block i)) (drop (i + 4) block) 4 (length_bytes (word_at block i))

-- so bodies of four bytes are those of words
cut_words : (n i : ℕ) (block : List ℕ) → Below bytes_to block → i + 4 * n ≤ length block
    → cut (replicate n 4) (drop i block) ≡ map bytes_of (decoded block i n)
unfolding cut decoded
cut_words zero i block below inside = refl
cut_words (suc n) i block below inside =
    rw (word_bytes block i below (omega arith), drop-drop 4 i block, cut_words n (i + 4) block below (omega arith)) refl

pub record Formed (n : ℕ) (block : List ℕ) : Type 0 where
  pub sized : length block ≡ block_bytes n
  pub again : Below bytes_to block → block_of (word_at block 0) (words_in n block) ≡ block

total_fours : (n : ℕ) → total (replicate n 4) ≡ 4 * n
total_fours zero = refl
total_fours (suc n) = let rest = total_fours n in omega (arith, rest)

-- what is read of it, laid down again
remade : (n : ℕ) (block : List ℕ) → take version_bytes block ≡ bytes_of (word_at block 0)
    → cut (lengths_in version_bytes n block) (drop (version_bytes + table_bytes n) block) ≡ map bytes_of (words_in n block)
    → take version_bytes block ++ filed version_bytes (bodies_in version_bytes n block) ≡ block_of (word_at block 0) (words_in n block)
unfolding block_of bodies_in
remade n block front bodies =
    ap (λ (xs : List ℕ). xs ++ filed version_bytes (bodies_in version_bytes n block)) front
    ∙ ap (λ (bs : List (List ℕ)). bytes_of (word_at block 0) ++ filed version_bytes bs) bodies

pub has_form : (n : ℕ) (block : List ℕ) → formed n block ≡ true → Formed n block
unfolding formed
has_form n block h = record { sized = length_is; again = λ below. sym (made below) }
  where
    tests : (laid_out version_bytes n block ≡ true) × (one_word_each (lengths_in version_bytes n block) ≡ true)
    tests = both_hold (laid_out version_bytes n block) (one_word_each (lengths_in version_bytes n block)) h

    lens_are : lengths_in version_bytes n block ≡ replicate n 4
    lens_are =
        each_tells (lengths_in version_bytes n block) tests.1
        ∙ ap (λ (k : ℕ). replicate k 4) (length_lengths block (version_bytes + 4) n)

    length_is : length block ≡ block_bytes n
    length_is =
        let ends = (laid_out_lem version_bytes n block tests.0).ends in
        let whole = ap total lens_are ∙ total_fours n in
        omega (arith, ends, whole)

    made : Below bytes_to block → block ≡ block_of (word_at block 0) (words_in n block)
    made below =
        (read_is_filed version_bytes n block below tests.0).0
        ∙ remade n block (word_bytes block 0 below (omega (arith, length_is)))
        (ap (λ (lens : List ℕ). cut lens (drop (version_bytes + table_bytes n) block)) lens_are
        ∙ cut_words n (version_bytes + table_bytes n) block below (omega (arith, length_is)))
