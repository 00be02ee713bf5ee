-- Little-endian numbers in lists of bytes.
use Rattle.std.specs.Prelude.{List, [], ◌∷◌, ℕ, zero, suc, ◌+◌, ◌*◌, ◌/◌, ◌%◌, ◌<◌, length, get_or}
use Rattle.base.specs.Buffers.{upto}

-- every element is a byte
abbrev pub Bytes : List ℕ → Type 0
Bytes s = (i : ℕ) → get_or s i 0 < 256

-- the number that the k bytes from place `at` on stand for, the lowest first; a byte past the end counts 0
unfoldable pub little_endian : ℕ → List ℕ → ℕ → ℕ
little_endian zero s at = 0
little_endian (suc k) s at = get_or s at 0 + 256 * little_endian k s (suc at)

-- the k low bytes of v, the lowest first
unfoldable pub bytes_of : ℕ → ℕ → List ℕ
bytes_of zero v = []
bytes_of (suc k) v = v % 256 ∷ bytes_of k (v / 256)

-- the elements of k bytes each that a list of bytes has, whole ones alone
unfoldable pub elements : ℕ → List ℕ → List ℕ
elements k s = upto (λ i. little_endian k s (k * i)) (length s / k)

-- the element at index i of a packed list of elements of 2, 4 and 8 bytes
abbrev pub u16_at : List ℕ → ℕ → ℕ
u16_at s i = little_endian 2 s (2 * i)

abbrev pub u32_at : List ℕ → ℕ → ℕ
u32_at s i = little_endian 4 s (4 * i)

abbrev pub u64_at : List ℕ → ℕ → ℕ
u64_at s i = little_endian 8 s (8 * i)
