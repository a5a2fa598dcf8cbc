-- Files by hand: the bytes of one that we write, what the reader gives for files that are whole, cut, made longer or changed, and what
-- samples are written as: one statement for each table, which the checker computes.
use Rattle.std.specs.Prelude.{◌≡◌, ℕ, ◌+◌, List, [], ◌∷◌, ◌++◌, map, take, refl}
use Rattle.std.specs.Float.Ieee.{lt}
use Rattle.recording.specs.Answers.{number}
use Rattle.std.specs.Prelude.{Ok}
use Rattle.riff.specs.Values.{sample_word, value_of}
use Rattle.riff.specs.Wav.{heard, wav_read, wav_of}

-- ---- A file

-- four letters, by their numbers in ASCII
abbrev pub riff : List ℕ
riff = 82 ∷ 73 ∷ 70 ∷ 70 ∷ []

abbrev pub wave : List ℕ
wave = 87 ∷ 65 ∷ 86 ∷ 69 ∷ []

abbrev pub fmt : List ℕ
fmt = 102 ∷ 109 ∷ 116 ∷ 32 ∷ []

abbrev pub data' : List ℕ
data' = 100 ∷ 97 ∷ 116 ∷ 97 ∷ []

abbrev pub list : List ℕ
list = 76 ∷ 73 ∷ 83 ∷ 84 ∷ []

-- a size below 256
abbrev pub size : ℕ → List ℕ
size n = n ∷ 0 ∷ 0 ∷ 0 ∷ []

-- the body of a fmt chunk: a format tag, channels, 48,000 a second, 96,000 bytes a second, blocks of two bytes, and bits
abbrev pub body : ℕ → ℕ → ℕ → List ℕ
body tag channels bits =
    tag ∷ 0 ∷ channels ∷ 0 ∷ 128 ∷ 187 ∷ 0 ∷ 0 ∷ 0 ∷ 119 ∷ 1 ∷ 0 ∷ 2 ∷ 0 ∷ bits ∷ 0 ∷ []

abbrev pub mono_fmt : List ℕ
mono_fmt = fmt ++ size 16 ++ body 1 1 16

-- two samples, 1 and -2
abbrev pub two_data : List ℕ
two_data = data' ++ size 4 ++ (1 ∷ 0 ∷ 254 ∷ 255 ∷ [])

-- a file of chunks that have so many bytes together, below 252
abbrev pub file : ℕ → List ℕ → List ℕ
file n chunks = (riff ++ ((4 + n) ∷ 0 ∷ 0 ∷ 0 ∷ [])) ++ wave ++ chunks

-- what we write: 44 bytes and two for each sample
pub written_by_hand : wav_of 48000 (1 ∷ 65534 ∷ []) ≡ file 36 (mono_fmt ++ two_data)
unfolding wav_of
written_by_hand = refl

-- ---- Reading

-- a file, and the number that the reader gives for it with room for two samples and marks: 0 where it is read
pub record Row : Type 0 where
  pub bytes : List ℕ
  pub number : ℕ

abbrev pub row : List ℕ → ℕ → Row
row bytes k = record { bytes = bytes; number = k }

-- room for two
abbrev pub two : List ℕ
two = 9 ∷ 9 ∷ []

abbrev pub rows : List Row
rows =
    row (file 36 (mono_fmt ++ two_data)) 0
    -- "skipping chunks it doesn't know", before, between and behind; one of odd size has its pad byte, also where it is the last
    ∷ row (file 46 ((list ++ size 1 ++ (5 ∷ 0 ∷ [])) ++ mono_fmt ++ two_data)) 0
    ∷ row (file 46 (mono_fmt ++ (list ++ size 1 ++ (5 ∷ 7 ∷ [])) ++ two_data)) 0
    ∷ row (file 46 (mono_fmt ++ two_data ++ (list ++ size 1 ++ (5 ∷ 0 ∷ [])))) 0
    ∷ row (file 45 (mono_fmt ++ two_data ++ (list ++ size 1 ++ (5 ∷ [])))) 19
    -- a second fmt or data among them; a fmt of 18 bytes
    ∷ row (file 72 (mono_fmt ++ two_data ++ (fmt ++ size 16 ++ body 3 2 8) ++ two_data)) 0
    ∷ row (file 38 ((fmt ++ size 18 ++ body 1 1 16 ++ (0 ∷ 0 ∷ [])) ++ two_data)) 0
    -- no sample
    ∷ row (file 32 (mono_fmt ++ data' ++ size 0)) 0
    -- nothing; the first twelve bytes; one byte less, and one more; another RIFF size
    ∷ row [] 19
    ∷ row (file 0 []) 19
    ∷ row (take 47 (file 36 (mono_fmt ++ two_data))) 19
    ∷ row (file 36 (mono_fmt ++ two_data) ++ (0 ∷ [])) 19
    ∷ row (file 35 (mono_fmt ++ two_data)) 19
    ∷ row (file 37 (mono_fmt ++ two_data)) 19
    -- "fmt before data": the other way round; none of either; a fmt of 14 bytes is none, and one that follows it counts
    ∷ row (file 36 (two_data ++ mono_fmt)) 19
    ∷ row (file 48 (two_data ++ mono_fmt ++ two_data)) 19
    ∷ row (file 24 mono_fmt) 19
    ∷ row (file 12 two_data) 19
    ∷ row (file 34 ((fmt ++ size 14 ++ take 14 (body 1 1 16)) ++ two_data)) 19
    ∷ row (file 58 ((fmt ++ size 14 ++ take 14 (body 2 1 16)) ++ mono_fmt ++ two_data)) 0
    -- "an even data length", before the coding is looked at
    ∷ row (file 36 (mono_fmt ++ data' ++ size 3 ++ (1 ∷ 0 ∷ 2 ∷ 0 ∷ []))) 19
    ∷ row (file 36 ((fmt ++ size 16 ++ body 1 2 16) ++ data' ++ size 3 ++ (1 ∷ 0 ∷ 2 ∷ 0 ∷ []))) 19
    -- "not mono 16-bit PCM": float, an extensible header's tag, stereo, no channel, 8 bits, 24 bits
    ∷ row (file 36 ((fmt ++ size 16 ++ body 3 1 16) ++ two_data)) 20
    ∷ row (file 36 ((fmt ++ size 16 ++ (254 ∷ 255 ∷ 1 ∷ 0 ∷ 128 ∷ 187 ∷ 0 ∷ 0 ∷ 0 ∷ 119 ∷ 1 ∷ 0 ∷ 2 ∷ 0 ∷ 16 ∷ 0 ∷ [])) ++ two_data)) 20
    ∷ row (file 36 ((fmt ++ size 16 ++ body 1 2 16) ++ two_data)) 20
    ∷ row (file 36 ((fmt ++ size 16 ++ body 1 0 16) ++ two_data)) 20
    ∷ row (file 36 ((fmt ++ size 16 ++ body 1 1 8) ++ two_data)) 20
    ∷ row (file 36 ((fmt ++ size 16 ++ body 1 1 24) ++ two_data)) 20
    -- "output room short": three samples
    ∷ row (file 38 (mono_fmt ++ data' ++ size 6 ++ (1 ∷ 0 ∷ 2 ∷ 0 ∷ 3 ∷ 0 ∷ []))) 21
    ∷ []

pub rows_hold : map (λ (r : Row). number (wav_read r.bytes two two).answer) rows ≡ map (λ (r : Row). r.number) rows
unfolding wav_read
rows_hold = refl

-- the two samples of the first, 1/32768 and -2/32768, in rooms that are longer, with the rate; what lies behind them stays
pub read_by_hand : wav_read (file 36 (mono_fmt ++ two_data)) (9 ∷ 9 ∷ 9 ∷ []) (9 ∷ 9 ∷ 9 ∷ [])
    ≡ heard (Ok 2) 48000 (0x38000000 ∷ 0xb8800000 ∷ 9 ∷ []) (0 ∷ 0 ∷ 9 ∷ [])
unfolding wav_read sample_word
read_by_hand = refl

-- ---- Values

-- some of 16 bits and their words: 0, 1, 16384, 32767, -32768, -1
pub words_by_hand : map sample_word (0 ∷ 1 ∷ 16384 ∷ 32767 ∷ 32768 ∷ 65535 ∷ [])
    ≡ 0 ∷ 0x38000000 ∷ 0x3f000000 ∷ 0x3f7ffe00 ∷ 0xbf800000 ∷ 0xb8000000 ∷ []
unfolding sample_word
words_by_hand = refl

-- "sample times 32768, rounded to whole with halves away from zero, held to −32768..32767": zeros of both signs; 1/2, 3/2 and 5/2 steps; a little
-- less than 1/2; 32767, 32767 and a half, which is held, 1, 2, and 65,536, the largest in range
abbrev pub samples : List ℕ
samples =
    0 ∷ 0x80000000 ∷ 0x37800000 ∷ 0x38400000 ∷ 0x38a00000 ∷ 0x377fffff ∷ 0x3f7ffe00 ∷ 0x3f7fff00 ∷ 0x3f800000 ∷ 0x40000000 ∷ 0x47800000 ∷ []

pub values_by_hand : map value_of samples ≡ 0 ∷ 0 ∷ 1 ∷ 2 ∷ 3 ∷ 0 ∷ 32767 ∷ 32767 ∷ 32767 ∷ 32767 ∷ 32767 ∷ []
unfolding value_of lt
values_by_hand = refl

-- the same below zero: -1/2, -3/2 and -5/2 steps; a little less; -32767 and a half, -1, -2 and -65,536
pub below_zero_by_hand : map value_of (0xb7800000 ∷ 0xb8400000 ∷ 0xb8a00000 ∷ 0xb77fffff ∷ 0xbf7fff00 ∷ 0xbf800000 ∷ 0xc0000000 ∷ 0xc7800000 ∷ [])
    ≡ 65535 ∷ 65534 ∷ 65533 ∷ 0 ∷ 32768 ∷ 32768 ∷ 32768 ∷ 32768 ∷ []
unfolding value_of lt
below_zero_by_hand = refl
