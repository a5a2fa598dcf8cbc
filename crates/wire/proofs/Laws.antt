-- Numbers as bytes: how many words are decoded and which stands where; of two runs of bytes, one behind the other, what lies
-- within the first is that of the first, and what lies behind it that of the second; and words and halves as bytes, there and back. Assumes nothing.
use Prim.Native.Nat.{ℕ, zero, suc, ◌+◌, ◌*◌, ◌/◌, ◌%◌, ◌≤◌, ◌<◌}
use native.Mathlib.Omega.{arith}
use native.Mathlib.Nat.{div-div-eq-div-mul}
use mathlib.Core.Path.{◌≡◌, refl, sym, ap, ◌∙◌}
use mathlib.Core.List.{List, [], ◌∷◌, ◌++◌, append_assoc}
use lib.ListN.{length, get_or, drop, get_or-append, length-append}
use lib.Seq.{get_or-append-add, drop-cons}
use Rattle.wire.specs.Wire.{half_at, halves, word_at, decoded, bytes_of, encoded, half_bytes, encoded_halves, Below, bytes_to, halves_to, words_to}

-- as many words as it says
pub length_decoded : (bytes : List ℕ) (i n : ℕ) → length (decoded bytes i n) ≡ n
unfolding decoded
length_decoded bytes i zero = refl
length_decoded bytes i (suc n) = ap suc (length_decoded bytes (i + 4) n)

-- the word at place k begins four bytes behind the one before
pub decoded_at : (bytes : List ℕ) (i n k : ℕ) → k < n → get_or (decoded bytes i n) k 0 ≡ word_at bytes (i + 4 * k)
unfolding decoded
decoded_at bytes i zero k h = absurd (omega arith)
decoded_at bytes i (suc n) zero h = let here : i + 4 * 0 ≡ i = omega arith in rw here refl
decoded_at bytes i (suc n) (suc k) h =
    let there : i + 4 * suc k ≡ i + 4 + 4 * k = omega arith in
    rw there (decoded_at bytes (i + 4) n k (omega arith))

-- ---- Within the first of two runs

-- a byte
byte_front : (xs ys : List ℕ) (i : ℕ) → i < length xs → get_or (xs ++ ys) i 0 ≡ get_or xs i 0
byte_front xs ys i h = get_or-append xs ys 0 i h

pub half_front : (xs ys : List ℕ) (i : ℕ) → i + 2 ≤ length xs → half_at (xs ++ ys) i ≡ half_at xs i
unfolding half_at
half_front xs ys i h = rw (byte_front xs ys i (omega arith), byte_front xs ys (i + 1) (omega arith))

pub word_front : (xs ys : List ℕ) (i : ℕ) → i + 4 ≤ length xs → word_at (xs ++ ys) i ≡ word_at xs i
unfolding word_at
word_front xs ys i h =
    rw (
      byte_front xs ys i (omega arith),
      byte_front xs ys (i + 1) (omega arith),
      byte_front xs ys (i + 2) (omega arith),
      byte_front xs ys (i + 3) (omega arith),
    )

pub decoded_front : (xs ys : List ℕ) (i n : ℕ) → i + 4 * n ≤ length xs → decoded (xs ++ ys) i n ≡ decoded xs i n
unfolding decoded
decoded_front xs ys i zero h = refl
decoded_front xs ys i (suc n) h = rw (word_front xs ys i (omega arith), decoded_front xs ys (i + 4) n (omega arith))

-- ---- Behind the first

-- a byte, k places behind place i
byte_behind : (xs ys : List ℕ) (i k : ℕ) → get_or (xs ++ ys) (length xs + i + k) 0 ≡ get_or ys (i + k) 0
byte_behind xs ys i k =
    let there : length xs + i + k ≡ length xs + (i + k) = omega arith in
    rw there (get_or-append-add xs ys (i + k) 0)

pub half_behind : (xs ys : List ℕ) (i : ℕ) → half_at (xs ++ ys) (length xs + i) ≡ half_at ys i
unfolding half_at
half_behind xs ys i = rw (get_or-append-add xs ys i 0, byte_behind xs ys i 1)

pub word_behind : (xs ys : List ℕ) (i : ℕ) → word_at (xs ++ ys) (length xs + i) ≡ word_at ys i
unfolding word_at
word_behind xs ys i =
    rw (get_or-append-add xs ys i 0, byte_behind xs ys i 1, byte_behind xs ys i 2, byte_behind xs ys i 3)

pub decoded_behind : (xs ys : List ℕ) (i n : ℕ) → decoded (xs ++ ys) (length xs + i) n ≡ decoded ys i n
unfolding decoded
decoded_behind xs ys i zero = refl
decoded_behind xs ys i (suc n) =
    let next : length xs + i + 4 ≡ length xs + (i + 4) = omega arith in
    rw (next, word_behind xs ys i, decoded_behind xs ys (i + 4) n)

-- ---- Words as bytes

pub length_bytes : (w : ℕ) → length (bytes_of w) ≡ 4
unfolding bytes_of
length_bytes w = refl

pub length_encoded : (ws : List ℕ) → length (encoded ws) ≡ 4 * length ws
unfolding encoded
length_encoded [] = refl
length_encoded (w ∷ ws) =
    let both = length-append (bytes_of w) (encoded ws) in
    omega (arith, both, length_bytes w, length_encoded ws)

-- the bytes of words that stand behind others stand behind theirs
pub encoded_append : (xs ys : List ℕ) → encoded (xs ++ ys) ≡ encoded xs ++ encoded ys
unfolding encoded
encoded_append [] ys = refl
encoded_append (x ∷ xs) ys = rw (encoded_append xs ys) (sym (append_assoc (bytes_of x) (encoded xs) (encoded ys)))

-- a number in bytes, digit by digit
digit : (w : ℕ) → w ≡ 256 * (w / 256) + w % 256
digit w = omega arith

two_down : (w : ℕ) → w / 65536 ≡ w / 256 / 256
two_down w = sym (div-div-eq-div-mul w 256 256)

three_down : (w : ℕ) → w / 16777216 ≡ w / 256 / 256 / 256
three_down w = sym (ap (λ (k : ℕ). k / 256) (div-div-eq-div-mul w 256 256) ∙ div-div-eq-div-mul w 65536 256)

-- a word of 32 bits comes back from its bytes
four_digits : (w : ℕ) → w < words_to → w % 256 + 256 * (w / 256 % 256) + 65536 * (w / 65536 % 256) + 16777216 * (w / 16777216 % 256) ≡ w
four_digits w h =
    let a = w / 256 in
    let b = w / 256 / 256 in
    let c = w / 256 / 256 / 256 in
    rw (two_down w, three_down w) (omega (arith, digit w, digit a, digit b, digit c))

pub word_back : (w : ℕ) (rest : List ℕ) → w < words_to → word_at (bytes_of w ++ rest) 0 ≡ w
unfolding word_at bytes_of
word_back w rest h = four_digits w h

-- and so do words one behind the other
pub words_back : (ws rest : List ℕ) → Below words_to ws → decoded (encoded ws ++ rest) 0 (length ws) ≡ ws
unfolding decoded encoded
words_back [] rest h = refl
words_back (w ∷ ws) rest h =
    let together : (bytes_of w ++ encoded ws) ++ rest ≡ bytes_of w ++ (encoded ws ++ rest) = append_assoc (bytes_of w) (encoded ws) rest in
    let first = word_back w (encoded ws ++ rest) (h 0) in
    let behind = decoded_behind (bytes_of w) (encoded ws ++ rest) 0 (length ws) ∙ words_back ws rest (λ i. h (suc i)) in
    let whole : decoded (bytes_of w ++ (encoded ws ++ rest)) 0 (suc (length ws)) ≡ w ∷ ws = cc in
    ap (λ l. decoded l 0 (suc (length ws))) together ∙ whole

-- the lowest byte, and what stands above it
lowest : (a x : ℕ) → a < bytes_to → ((a + 256 * x) % 256 ≡ a) × ((a + 256 * x) / 256 ≡ x)
lowest a x h = (omega arith, omega arith)

-- the bytes of the word that four bytes are are these
digits_of : (a b c d : ℕ) → a < bytes_to → b < bytes_to → c < bytes_to → d < bytes_to
    → bytes_of (a + 256 * b + 65536 * c + 16777216 * d) ≡ a ∷ b ∷ c ∷ d ∷ []
unfolding bytes_of
digits_of a b c d ha hb hc hd =
    let z = d + 256 * 0 in
    let y = c + 256 * z in
    let x = b + 256 * y in
    let whole : a + 256 * b + 65536 * c + 16777216 * d ≡ a + 256 * x = omega arith in
    let one = lowest a x ha in
    let two = lowest b y hb in
    let three = lowest c z hc in
    let four = lowest d 0 hd in
    rw (whole, two_down (a + 256 * x), three_down (a + 256 * x), one.0, one.1, two.0, two.1, three.0, three.1, four.0) refl

pub bytes_back : (bytes : List ℕ) (i : ℕ) → Below bytes_to bytes → i + 4 ≤ length bytes
    → bytes_of (word_at bytes i) ++ drop (i + 4) bytes ≡ drop i bytes
unfolding word_at
bytes_back bytes i h inside =
    let one : suc i ≡ i + 1 = omega arith in
    let two : suc (i + 1) ≡ i + 2 = omega arith in
    let three : suc (i + 2) ≡ i + 3 = omega arith in
    let four : suc (i + 3) ≡ i + 4 = omega arith in
    ap (λ (front : List ℕ). front ++ drop (i + 4) bytes) (digits_of _ _ _ _ (h i) (h (i + 1)) (h (i + 2)) (h (i + 3)))
    ∙ sym
    (drop-cons bytes i 0 (omega arith)
    ∙ rw (one, drop-cons bytes (i + 1) 0 (omega arith), two, drop-cons bytes (i + 2) 0 (omega arith), three, drop-cons bytes (i + 3) 0 (omega arith), four)
    refl)

-- and those of the words that bytes are, with what lies behind them
pub encoded_back : (bytes : List ℕ) (i n : ℕ) → Below bytes_to bytes → i + 4 * n ≤ length bytes
    → encoded (decoded bytes i n) ++ drop (i + 4 * n) bytes ≡ drop i bytes
unfolding decoded encoded
encoded_back bytes i zero h inside = let here : i + 4 * 0 ≡ i = omega arith in rw here refl
encoded_back bytes i (suc n) h inside =
    let there : i + 4 * suc n ≡ i + 4 + 4 * n = omega arith in
    rw there
    (append_assoc (bytes_of (word_at bytes i)) (encoded (decoded bytes (i + 4) n)) (drop (i + 4 + 4 * n) bytes)
    ∙ ap (λ (rest : List ℕ). bytes_of (word_at bytes i) ++ rest) (encoded_back bytes (i + 4) n h (omega arith))
    ∙ bytes_back bytes i h (omega arith))

-- the words that bytes are are of 32 bits
pub word_below : (bytes : List ℕ) (i : ℕ) → Below bytes_to bytes → word_at bytes i < words_to
unfolding word_at
word_below bytes i h = omega (arith, h i, h (i + 1), h (i + 2), h (i + 3))

pub decoded_below : (bytes : List ℕ) (i n : ℕ) → Below bytes_to bytes → Below words_to (decoded bytes i n)
unfolding decoded
decoded_below bytes i zero h k = omega arith
decoded_below bytes i (suc n) h zero = word_below bytes i h
decoded_below bytes i (suc n) h (suc k) = decoded_below bytes (i + 4) n h k

-- ---- Halves, as words

-- as many as it says
pub length_halves : (bytes : List ℕ) (i n : ℕ) → length (halves bytes i n) ≡ n
unfolding halves
length_halves bytes i zero = refl
length_halves bytes i (suc n) = ap suc (length_halves bytes (i + 2) n)

-- the one at place k begins two bytes behind the one before
pub halves_at : (bytes : List ℕ) (i n k : ℕ) → k < n → get_or (halves bytes i n) k 0 ≡ half_at bytes (i + 2 * k)
unfolding halves
halves_at bytes i zero k h = absurd (omega arith)
halves_at bytes i (suc n) zero h = let here : i + 2 * 0 ≡ i = omega arith in rw here refl
halves_at bytes i (suc n) (suc k) h =
    let there : i + 2 * suc k ≡ i + 2 + 2 * k = omega arith in
    rw there (halves_at bytes (i + 2) n k (omega arith))

-- within the first of two runs, and behind it
pub halves_front : (xs ys : List ℕ) (i n : ℕ) → i + 2 * n ≤ length xs → halves (xs ++ ys) i n ≡ halves xs i n
unfolding halves
halves_front xs ys i zero h = refl
halves_front xs ys i (suc n) h = rw (half_front xs ys i (omega arith), halves_front xs ys (i + 2) n (omega arith))

pub halves_behind : (xs ys : List ℕ) (i n : ℕ) → halves (xs ++ ys) (length xs + i) n ≡ halves ys i n
unfolding halves
halves_behind xs ys i zero = refl
halves_behind xs ys i (suc n) =
    let next : length xs + i + 2 ≡ length xs + (i + 2) = omega arith in
    rw (next, half_behind xs ys i, halves_behind xs ys (i + 2) n)

-- their bytes
pub length_half_bytes : (h : ℕ) → length (half_bytes h) ≡ 2
unfolding half_bytes
length_half_bytes h = refl

pub length_encoded_halves : (hs : List ℕ) → length (encoded_halves hs) ≡ 2 * length hs
unfolding encoded_halves
length_encoded_halves [] = refl
length_encoded_halves (h ∷ hs) =
    let both = length-append (half_bytes h) (encoded_halves hs) in
    omega (arith, both, length_half_bytes h, length_encoded_halves hs)

-- a number of 16 bits comes back from its bytes, and so do numbers one behind the other
pub half_back : (h : ℕ) (rest : List ℕ) → h < halves_to → half_at (half_bytes h ++ rest) 0 ≡ h
unfolding half_at half_bytes
half_back h rest small = omega arith

pub halves_back : (hs rest : List ℕ) → Below halves_to hs → halves (encoded_halves hs ++ rest) 0 (length hs) ≡ hs
unfolding halves encoded_halves
halves_back [] rest small = refl
halves_back (h ∷ hs) rest small =
    let together : (half_bytes h ++ encoded_halves hs) ++ rest ≡ half_bytes h ++ (encoded_halves hs ++ rest) =
    append_assoc (half_bytes h) (encoded_halves hs) rest in
    let first = half_back h (encoded_halves hs ++ rest) (small 0) in
    let behind = halves_behind (half_bytes h) (encoded_halves hs ++ rest) 0 (length hs) ∙ halves_back hs rest (λ i. small (suc i)) in
    let whole : halves (half_bytes h ++ (encoded_halves hs ++ rest)) 0 (suc (length hs)) ≡ h ∷ hs = cc in
    ap (λ l. halves l 0 (suc (length hs))) together ∙ whole

-- the numbers that two bytes are are of 16 bits
pub half_below : (bytes : List ℕ) (i : ℕ) → Below bytes_to bytes → half_at bytes i < halves_to
unfolding half_at
half_below bytes i h = omega (arith, h i, h (i + 1))

pub halves_below : (bytes : List ℕ) (i n : ℕ) → Below bytes_to bytes → Below halves_to (halves bytes i n)
unfolding halves
halves_below bytes i zero h k = omega arith
halves_below bytes i (suc n) h zero = half_below bytes i h
halves_below bytes i (suc n) h (suc k) = halves_below bytes (i + 2) n h k

-- ---- The words and halves of words that were stored

-- the word at place k
pub word_of_encoded : (ws rest : List ℕ) (k : ℕ) → Below words_to ws → k < length ws → word_at (encoded ws ++ rest) (4 * k) ≡ get_or ws k 0
word_of_encoded ws rest k h inside =
    let here : 0 + 4 * k ≡ 4 * k = omega arith in
    sym (ap (word_at (encoded ws ++ rest)) here)
    ∙ sym (decoded_at (encoded ws ++ rest) 0 (length ws) k inside)
    ∙ ap (λ (l : List ℕ). get_or l k 0) (words_back ws rest h)

-- a word is two halves
two_halves : (bytes : List ℕ) (i : ℕ) → word_at bytes i ≡ half_at bytes i + 65536 * half_at bytes (i + 2)
unfolding word_at half_at
two_halves bytes i = let last : i + 2 + 1 ≡ i + 3 = omega arith in rw last (omega arith)

-- so where a word is put together of two numbers of 16 bits, these are its halves
pub half_of_word : (bytes : List ℕ) (i a b : ℕ) → Below bytes_to bytes → a < halves_to → word_at bytes i ≡ a + 65536 * b
    → (half_at bytes i ≡ a) × (half_at bytes (i + 2) ≡ b)
half_of_word bytes i a b h small word =
    let low = half_below bytes i h in
    let sum = two_halves bytes i in
    (omega (arith, low, sum, word), omega (arith, low, sum, word))

-- what is stored are bytes
pub encoded_bytes : (ws : List ℕ) → Below bytes_to (encoded ws)
unfolding encoded bytes_of
encoded_bytes [] i = omega arith
encoded_bytes (w ∷ ws) zero = omega arith
encoded_bytes (w ∷ ws) (suc zero) = omega arith
encoded_bytes (w ∷ ws) (suc (suc zero)) = omega arith
encoded_bytes (w ∷ ws) (suc (suc (suc zero))) = omega arith
encoded_bytes (w ∷ ws) (suc (suc (suc (suc i)))) = encoded_bytes ws i

pub encoded_halves_bytes : (hs : List ℕ) → Below bytes_to (encoded_halves hs)
unfolding encoded_halves half_bytes
encoded_halves_bytes [] i = omega arith
encoded_halves_bytes (h ∷ hs) zero = omega arith
encoded_halves_bytes (h ∷ hs) (suc zero) = omega arith
encoded_halves_bytes (h ∷ hs) (suc (suc i)) = encoded_halves_bytes hs i
