-- A filter state in bytes, 168 of them: numbers of 4 bytes for the filter (0 fixed, 1 float), the order, the ring place and the bits of
-- coeff_min and coeff_range; of 8 for the period and the sample place; and of 4 for the 33 places of the filter's history, words of the
-- fixed filter or bits of the float filter.
use Rattle.std.specs.Prelude.{false, List, ◌++◌, ℕ, ◌+◌, ◌*◌, eqb, pos, get_or, replicate, Float}
use Rattle.std.specs.Float.{nan, fin, binary32}
use Rattle.std.specs.Float.Ieee.{of_bits, to_bits}
use Rattle.base.specs.Choice.{pick}
use Rattle.base.specs.Buffers.{flat, upto}
use Rattle.base.specs.Bytes.{little_endian, bytes_of}
use Rattle.lpc.specs.declared.ResynthType.{ResynthType}
use Rattle.lpc.specs.declared.ResynthType.TheVariants.{Fixed, Float as FloatType}
use Rattle.lpc.specs.declared.FilterState.{FilterState}

-- DIPHONE_STATE_BYTES
abbrev pub state_length : ℕ
state_length = 168

abbrev pub filter_number : ResynthType → ℕ
filter_number Fixed = 0
filter_number FloatType = 1

-- the filter of a number: 0 fixed, any other float
abbrev pub filter_numbered : ℕ → ResynthType
filter_numbered n = pick (eqb n 0) Fixed FloatType

-- what the history's place i holds, in bytes
abbrev pub history_at : List ℕ → ℕ → ℕ
history_at b i = little_endian 4 b (36 + 4 * i)

-- the history of the filter, and zeros for the other's
abbrev pub fixed_in : ResynthType → List ℕ → List ℕ
fixed_in Fixed b = upto (history_at b) 33
fixed_in FloatType b = replicate 33 0

abbrev pub float_in : ResynthType → List ℕ → List Float
float_in Fixed b = replicate 33 (fin false 0 (pos 0))
float_in FloatType b = upto (λ i. of_bits binary32 (history_at b i)) 33

-- the state that bytes say, with its filter and its histories given
abbrev pub state_with : ResynthType → List ℕ → List Float → List ℕ → FilterState
state_with filter fixed float b =
    record {
      filter = filter;
      order = little_endian 4 b 4;
      ring_place = little_endian 4 b 8;
      period = little_endian 8 b 20;
      sample_place = little_endian 8 b 28;
      coeff_min = of_bits binary32 (little_endian 4 b 12);
      coeff_range = of_bits binary32 (little_endian 4 b 16);
      fixed = fixed;
      float = float;
    }

-- with histories of 0
unfoldable pub head_of : ResynthType → List ℕ → FilterState
head_of filter b = state_with filter (replicate 33 0) (replicate 33 (fin false 0 (pos 0))) b

-- the state that bytes say
unfoldable pub state_of : List ℕ → FilterState
state_of b = let filter = filter_numbered (little_endian 4 b 0) in state_with filter (fixed_in filter b) (float_in filter b) b

-- the bytes of a state; a NaN has the bits 0x7FC00000
unfoldable pub head_bytes : FilterState → List ℕ
head_bytes s =
    bytes_of 4 (filter_number s.filter)
    ++ (bytes_of 4 s.order
    ++ (bytes_of 4 s.ring_place
    ++ (bytes_of 4 (to_bits binary32 s.coeff_min)
    ++ (bytes_of 4 (to_bits binary32 s.coeff_range)
    ++ (bytes_of 8 s.period
    ++ bytes_of 8 s.sample_place)))))

-- the history's place i, as a word
abbrev pub word_by : ResynthType → FilterState → ℕ → ℕ
word_by Fixed s i = get_or s.fixed i 0
word_by FloatType s i = to_bits binary32 (get_or s.float i nan)

abbrev pub word_of : FilterState → ℕ → ℕ
word_of s i = word_by s.filter s i

abbrev pub history_bytes : FilterState → List ℕ
history_bytes s = flat (bytes_of 4) (upto (word_of s) 33)

unfoldable pub bytes_of_state : FilterState → List ℕ
bytes_of_state s = head_bytes s ++ history_bytes s
