-- What is laid down is read back, and what is read is what would be laid down. Assumes nothing.
use Prim.Native.Nat.{ℕ, suc, ◌+◌, ◌*◌, ◌≤◌}
use native.Mathlib.Omega.{arith}
use mathlib.Core.Path.{◌≡◌, refl, sym, ap, ◌∙◌}
use mathlib.Core.Bool.{true}
use mathlib.Core.List.{List, [], ◌∷◌, ◌++◌, map, flatten}
use lib.ListN.{length, get_or, take, drop, take-append-drop, length-append, length-drop, length-map}
use lib.Seq.{take-append_seam, drop-append_seam, drop-append-add, length-take-le}
use borrow.Author.Tests.{eq-eqb}
use Rattle.wire.specs.Wire.{word_at, decoded, encoded, Below, bytes_to, words_to}
use Rattle.wire.proofs.Laws.{length_encoded, words_back, decoded_behind, encoded_back}
use Rattle.contents.specs.Contents.{table_bytes, rows, table, filed, lengths_from, lengths_in, in_turn, laid_out, cut, bodies_in}
use Rattle.contents.specs.Consequences.{FiledIsRead, ReadIsFiled}
use Rattle.contents.proofs.Rows.{total, length_table, length_lengths, told, Table, laid_out_lem}

-- ---- Bodies one behind the other, and cut again

length_flatten : (bodies : List (List ℕ)) → length (flatten bodies) ≡ total (map length bodies)
unfolding flatten
length_flatten [] = refl
length_flatten (b ∷ bodies) = length-append b (flatten bodies) ∙ ap (λ (m : ℕ). length b + m) (length_flatten bodies)

cut_again : (bodies : List (List ℕ)) → cut (map length bodies) (flatten bodies) ≡ bodies
unfolding cut flatten
cut_again [] = refl
cut_again (b ∷ bodies) = rw (take-append_seam b (flatten bodies), drop-append_seam b (flatten bodies), cut_again bodies) refl

-- pieces that are cut from all of the bytes make them again
together_again : (lens bytes : List ℕ) → total lens ≡ length bytes → flatten (cut lens bytes) ≡ bytes
unfolding cut flatten
together_again [] [] h = refl
together_again [] (b ∷ bytes) h = absurd (omega arith)
together_again (len ∷ lens) bytes h =
    let left = length-drop len bytes in
    ap (λ (rest : List ℕ). take len bytes ++ rest) (together_again lens (drop len bytes) (omega (arith, left)))
    ∙ take-append-drop len bytes

-- and each is as long as it should be
as_long : (lens bytes : List ℕ) → total lens ≤ length bytes → map length (cut lens bytes) ≡ lens
unfolding cut
as_long [] bytes h = refl
as_long (len ∷ lens) bytes h =
    let left = length-drop len bytes in
    rw (length-take-le len bytes (omega arith), as_long lens (drop len bytes) (omega (arith, left))) refl

-- ---- What is laid down is read back

module _ (before : ℕ) (front : List ℕ) (bodies : List (List ℕ)) (sized : length front ≡ before) where
  abbrev lens : List ℕ
  lens = map length bodies

  abbrev whole : List ℕ
  whole = front ++ filed before bodies

  -- behind the front and the table stand the bodies
  bodies_behind : drop (before + table_bytes (length bodies)) whole ≡ flatten bodies
  unfolding filed
  bodies_behind =
      let size : before + table_bytes (length bodies) ≡ length front + length (encoded (table before lens)) =
      omega (arith, sized, length_encoded (table before lens), length_table before lens, length-map bodies length) in
      rw size
      (drop-append-add front (encoded (table before lens) ++ flatten bodies) (length (encoded (table before lens)))
      ∙ drop-append_seam (encoded (table before lens)) (flatten bodies))

  length_whole : before + table_bytes (length bodies) + total lens ≡ length whole
  unfolding filed
  length_whole =
      let a = length-append front (encoded (table before lens) ++ flatten bodies) in
      let b = length-append (encoded (table before lens)) (flatten bodies) in
      omega (arith, a, b, sized, length_encoded (table before lens), length_table before lens, length-map bodies length, length_flatten bodies)

  -- the table's words
  words_there : Below words_to (table before lens) → decoded whole before (suc (3 * length lens)) ≡ table before lens
  unfolding filed
  words_there small =
      let at_once : before ≡ length front + 0 = omega (arith, sized) in
      ap (λ (i : ℕ). decoded whole i (suc (3 * length lens))) at_once
      ∙ decoded_behind front (encoded (table before lens) ++ flatten bodies) 0 (suc (3 * length lens))
      ∙ ap (decoded (encoded (table before lens) ++ flatten bodies) 0) (sym (length_table before lens))
      ∙ words_back (table before lens) (flatten bodies) small

pub filed_is_read : FiledIsRead
unfolding laid_out bodies_in decoded table
filed_is_read b front bodies sized small =
    let ls = map length bodies in
    let all = front ++ filed b bodies in
    let words = words_there b front bodies sized small in
    let count : word_at all b ≡ length ls = ap (λ (l : List ℕ). get_or l 0 0) words in
    let rest : decoded all (b + 4) (3 * length ls) ≡ rows 1 (b + table_bytes (length ls)) ls = ap (drop 1) words in
    let same = length-map bodies length in
    let ends : b + table_bytes (length ls) + total ls ≡ length all = rw same (length_whole b front bodies sized) in
    let t = told all (b + 4) 1 (b + table_bytes (length ls)) ls rest ends in
    let turn : in_turn all (b + 4) 1 (b + table_bytes (length bodies)) (length bodies) ≡ true =
    ap (λ (n : ℕ). in_turn all (b + 4) 1 (b + table_bytes n) n) (sym same) ∙ t.turn in
    let lengths : lengths_from all (b + 4) (length bodies) ≡ ls = ap (lengths_from all (b + 4)) (sym same) ∙ t.lengths in (
      rw (eq-eqb (word_at all b) (length bodies) (count ∙ same)) turn,
      lengths,
      rw (lengths, bodies_behind b front bodies sized) (cut_again bodies),
    )

-- ---- What is read is what would be laid down

-- the table's bytes stand there
table_there : (before n : ℕ) (bytes : List ℕ) → Below bytes_to bytes → Table before n bytes
    → encoded (table before (lengths_in before n bytes)) ++ drop (before + table_bytes n) bytes ≡ drop before bytes
table_there before n bytes small t =
    let size : before + table_bytes n ≡ before + 4 * suc (3 * n) = omega arith in
    ap (λ (ws : List ℕ). encoded ws ++ drop (before + table_bytes n) bytes) (sym t.words)
    ∙ ap (λ (k : ℕ). encoded (decoded bytes before (suc (3 * n))) ++ drop k bytes) size
    ∙ encoded_back bytes before (suc (3 * n)) small (omega (arith, t.ends))

pub read_is_filed : ReadIsFiled
unfolding bodies_in filed
read_is_filed before n bytes small h =
    let t = laid_out_lem before n bytes h in
    let ls = lengths_in before n bytes in
    let from = before + table_bytes n in
    let left = length-drop from bytes in
    let sizes : map length (cut ls (drop from bytes)) ≡ ls = as_long ls (drop from bytes) (omega (arith, left, t.ends)) in
    let again : flatten (cut ls (drop from bytes)) ≡ drop from bytes = together_again ls (drop from bytes) (omega (arith, left, t.ends)) in (
      sym
          (ap (λ (xs : List ℕ). take before bytes ++ (encoded (table before xs) ++ flatten (cut ls (drop from bytes)))) sizes
          ∙ ap (λ (ys : List ℕ). take before bytes ++ (encoded (table before ls) ++ ys)) again
          ∙ ap (λ (ys : List ℕ). take before bytes ++ ys) (table_there before n bytes small t)
          ∙ take-append-drop before bytes),
      sizes,
      sym (length-map (cut ls (drop from bytes)) length) ∙ ap length sizes ∙ length_lengths bytes (before + 4) n,
    )
