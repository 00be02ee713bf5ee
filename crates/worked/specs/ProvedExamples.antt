-- Document 01, 'Proved examples': its table of twelve rows, its printed example and its edges, and 'Errors a porter
-- would make', as statements over the definitions; `Examples` is all of them.
use Rattle.std.specs.Prelude.{◌≡◌, true, false, List, [], ◌∷◌, ◌++◌, map, ℕ, zero, suc, ◌*◌, ◌≤◌, ◌<◌, ℤ, pos, negsuc, length, replicate, take, Float, None, Ok, Option, Some}
use Rattle.std.specs.Float.{fin}
use Rattle.base.specs.Text.{ascii}
use Rattle.base.specs.Bytes.{bytes_of}
use Rattle.base.specs.Words.{low, signed16}
use Rattle.refusal.specs.declared.Refusal.{Refusal}
use Rattle.refusal.specs.declared.Refusal.TheVariants.{BadHeader, BadSheet, TooManyMarks}
use Rattle.ulaw.specs.Ulaw.{sample_of, ulaw_of}
use Rattle.adpcm_float.specs.Floating.{fmult}
use Rattle.adpcm_scale.specs.Scale.{mix}
use Rattle.adpcm_predict.specs.Predictor.{sezi, upb}
use Rattle.adpcm.specs.declared.Signals.{Signals}
use Rattle.adpcm.specs.Decoder.{fresh, signals_of, sample_in, codes_of, state_at}
use Rattle.voice.specs.Voice.{Voice, voice_of}
use Rattle.voice.specs.Opening.{opening_refusal}
use Rattle.sheet.specs.declared.Value.TheVariants.{Int, Float as FloatValue}
use Rattle.sheet.specs.declared.Target.{Target}
use Rattle.sheet.specs.Sheet.{sheet_of, sheet_refusal}
use Rattle.marks.specs.PitchMarks.{pitch_marks, most_marks}
use Rattle.marks.specs.NaturalMarks.{mark_refusal}
use Rattle.excitation.specs.Source.{centred}
use Rattle.excitation.specs.Nearest.{nearest_period}
use Rattle.lpc.specs.declared.ResynthType.TheVariants.{Fixed}
use Rattle.lpc.specs.Filter.{Filter, outputs, samples, periods_from}
use Rattle.lpc.specs.Fixed.{scaled_by, row_value, divided, fixed_filter}
use Rattle.call.specs.declared.JoinType.TheVariants.{Simple}
use Rattle.call.specs.declared.Settings.{Settings}
use Rattle.call.specs.Call.{periods_of}
use Rattle.call.specs.Buffers.{Buffers, filled, planned_of}
use Rattle.transcript.specs.CallText.{call_text}
use Rattle.transcript.specs.Program.{program_settings, program_buffers}
use Rattle.worked.specs.Files.{header_bytes, entry_bytes, voice_file, sheet_file}

-- ---- what the rows speak of

-- the sample and the mu-law byte of one code, fresh
abbrev pub fresh_sample : ℕ → ℤ
fresh_sample code = sample_in (signals_of fresh code)

abbrev pub fresh_byte : ℕ → ℕ
fresh_byte code = ulaw_of (fresh_sample code)

-- the fixed filter's row value for min -1 and range 2
abbrev pub example_value : ℕ → ℤ
example_value q = row_value (scaled_by 32768 (fin true 1 (pos 0))) (scaled_by 2048 (fin false 1 (pos 1))) q

abbrev pub zero_float : Float
zero_float = fin false 0 (pos 0)

-- a voice with two periods of 2 samples
abbrev pub two_periods : Voice
two_periods =
    record {
      header =
          record {
            frames = 2;
            order = 0;
            rate = 8000;
            coeff_min = zero_float;
            coeff_range = zero_float;
            codec = 0;
            stretch = zero_float;
            f0_mean = zero_float;
            f0_deviation = zero_float;
            fold = 0;
          };
      lpc = [];
      offsets = bytes_of 4 0 ++ (bytes_of 4 2 ++ bytes_of 4 4);
      sizes = None;
      residual = 1 ∷ 2 ∷ 3 ∷ 4 ∷ [];
      entries = [];
      index_at = 0;
    }

-- the targets (0, 64), (0.0625, 64)
abbrev pub two_targets : List Target
two_targets = record { pos = Int (pos 0); f0 = Int (pos 64) } ∷ record { pos = FloatValue (fin false 1 (negsuc 3)); f0 = Int (pos 64) } ∷ []

-- ---- the table

pub record Table : Type 0 where
  -- mu-law 255, 127: 0, 0
  pub mu_law_zero : (sample_of 255 ≡ pos 0) × (sample_of 127 ≡ pos 0)
  -- mu-law 0, 128: -32124, 32124
  pub mu_law_ends : (sample_of 0 ≡ negsuc 32123) × (sample_of 128 ≡ pos 32124)
  -- encode 3, 4: 255, 254
  pub encode_step : (ulaw_of (pos 3) ≡ 255) × (ulaw_of (pos 4) ≡ 254)
  -- encode 0, -1: 255, 127
  pub encode_sign : (ulaw_of (pos 0) ≡ 255) × (ulaw_of (negsuc 0) ≡ 127)
  -- encode 32767, -32768: 128, 0
  pub encode_ends : (ulaw_of (pos 32767) ≡ 128) × (ulaw_of (negsuc 32767) ≡ 0)
  -- fresh G.721, code 7: sample 88, byte 244
  pub code_seven : (fresh_sample 7 ≡ pos 88) × (fresh_byte 7 ≡ 244)
  -- fresh G.721, code 8: sample -88, byte 116
  pub code_eight : (fresh_sample 8 ≡ negsuc 87) × (fresh_byte 8 ≡ 116)
  -- fresh G.721, code 15: sample 0, byte 255
  pub code_fifteen : (fresh_sample 15 ≡ pos 0) × (fresh_byte 15 ≡ 255)
  -- min -1, range 2, q 65535, 0: 16383, -16384
  pub row_values : (example_value 65535 ≡ pos 16383) × (example_value 0 ≡ negsuc 16383)
  -- periods 2 and 2, position 1: the second
  pub tie_moves_on : nearest_period two_periods (record { first_period = 0; last_period = 2; target_end = 4; pair = 1; half = 1 }) (fin false 1 (pos 0)) ≡ 1
  -- 3 bytes into 6; 6 into 3: offset 1; from 1
  pub centred_bytes : (centred 6 (1 ∷ 2 ∷ 3 ∷ []) ≡ 255 ∷ 1 ∷ 2 ∷ 3 ∷ 255 ∷ 255 ∷ [])
      × (centred 3 (1 ∷ 2 ∷ 3 ∷ 4 ∷ 5 ∷ 6 ∷ []) ≡ 2 ∷ 3 ∷ 4 ∷ [])
  -- rate 8000, targets (0, 64), (0.0625, 64): marks 125, 250, 375, 500
  pub four_marks : pitch_marks 8000 two_targets ≡ record { refusal = None; marks = 125 ∷ 250 ∷ 375 ∷ 500 ∷ [] }

-- ---- the printed example

-- 'entry `pau-aa` start 0 and halves 1, 1'
abbrev pub example_entry : List ℕ
example_entry = entry_bytes (ascii "pau-aa") 0 1 1

-- 'in hexadecimal residual FE EF FF 7E 6F'
abbrev pub example_residual : List ℕ
example_residual = 0xFE ∷ 0xEF ∷ 0xFF ∷ 0x7E ∷ 0x6F ∷ []

-- 'offsets 0, 2, 5'; of any header, with rows of 0 for an order
abbrev pub voice_of_header : List ℕ → ℕ → List ℕ
voice_of_header header order = voice_file header (replicate (4 * order) 0) (0 ∷ 2 ∷ 5 ∷ []) example_residual (example_entry ∷ [])

-- 'a voice of 2 frames, rate 8000, order 0, scales 0, mu-law, no `sts.ressize`'
abbrev pub example_header : List ℕ
example_header = header_bytes 2 0 8000 0 0

abbrev pub example_voice : List ℕ
example_voice = voice_of_header example_header 0

-- 'sheet 02 03 70 61 75 02 00 02 61 61 02 00 00'
abbrev pub example_sheet : List ℕ
example_sheet = 0x02 ∷ 0x03 ∷ 0x70 ∷ 0x61 ∷ 0x75 ∷ 0x02 ∷ 0x00 ∷ 0x02 ∷ 0x61 ∷ 0x61 ∷ 0x02 ∷ 0x00 ∷ 0x00 ∷ []

-- 8000 2 5; period 1 of size 2: 8 132; period 2 of size 3: 0 -8 -132; and what the call filled: the offset of the entry's name-length byte,
-- marks, sizes, and the excitation
pub record Printed : Type 0 where
  -- 'it prints exactly'
  pub text : call_text example_voice example_sheet program_settings program_buffers ≡ ascii "8000 2 5\n1 2 8 132\n2 3 0 -8 -132\n"
  pub summary : (planned_of example_voice example_sheet program_settings program_buffers).answer
      ≡ Ok (record { rate = 8000; periods = 2; samples = 5; marks = 2; order = 0; entries = 1 })
  pub periods : map (map signed16) (periods_of (voice_of example_voice) (sheet_of example_sheet) program_settings)
      ≡ (pos 8 ∷ pos 132 ∷ []) ∷ (pos 0 ∷ negsuc 7 ∷ negsuc 131 ∷ []) ∷ []
  pub buffers : filled (voice_of example_voice) (sheet_of example_sheet) program_settings
      ≡ record {
        index = bytes_of 8 138;
        marks = bytes_of 4 2 ++ bytes_of 4 5;
        sizes = bytes_of 4 2 ++ bytes_of 4 3;
        rows = [];
        excitation = example_residual;
        decoded = [];
      }

-- ---- the edges

-- n segments with no name, an absent end and no follower, and no target
unfoldable pub segments_of : ℕ → List ℕ
segments_of zero = 0 ∷ []
segments_of (suc n) = 0 ∷ 2 ∷ 0 ∷ segments_of n

-- what opening says of a voice of one header
abbrev pub opens_by : ℕ → ℕ → ℕ → ℕ → Option Refusal
opens_by order rate least range = opening_refusal (voice_of_header (header_bytes 2 order rate least range) order)

-- what reading says of a sheet of one segment with this name
abbrev pub reads_name : List ℕ → Option Refusal
reads_name name = sheet_refusal (sheet_file (name ∷ []))

-- the bits of the f32 16, and of the next one
abbrev pub sixteen : ℕ
sixteen = 0x41800000

abbrev pub past_sixteen : ℕ
past_sixteen = 0x41800001

pub record Edges : Type 0 where
  -- order 32 opens, 33 gives 5
  pub orders : (opens_by 32 8000 0 0 ≡ None) × (opens_by 33 8000 0 0 ≡ Some BadHeader)
  -- rate 48,000 opens, 48,001 gives 5
  pub rates : (opens_by 0 48000 0 0 ≡ None) × (opens_by 0 48001 0 0 ≡ Some BadHeader)
  -- coeff_min 16 opens, the next float gives 5; so coeff_range
  pub leasts : (opens_by 0 8000 sixteen 0 ≡ None) × (opens_by 0 8000 past_sixteen 0 ≡ Some BadHeader)
  pub ranges : (opens_by 0 8000 0 sixteen ≡ None) × (opens_by 0 8000 0 past_sixteen ≡ Some BadHeader)
  -- a header of 40 bytes opens, of 39 gives 5; a trailing byte is ignored
  pub headers : (opening_refusal (voice_of_header (take 40 example_header) 0) ≡ None)
      × (opening_refusal (voice_of_header (take 39 example_header) 0) ≡ Some BadHeader)
  pub trailing : opening_refusal (voice_of_header (example_header ++ (255 ∷ [])) 0) ≡ None
  -- 4,096 segments read, 4,097 gives 8
  pub segments : (sheet_refusal (128 ∷ 32 ∷ segments_of 4096) ≡ None) × (sheet_refusal (129 ∷ 32 ∷ segments_of 4097) ≡ Some BadSheet)
  -- a name of 32 bytes reads, of 33 gives 8
  pub names : (reads_name (replicate 32 97) ≡ None) × (reads_name (replicate 33 97) ≡ Some BadSheet)
  -- name bytes 33 and 126 read, 32 and 127 give 8
  pub low_byte : (reads_name (33 ∷ []) ≡ None) × (reads_name (32 ∷ []) ≡ Some BadSheet)
  pub high_byte : (reads_name (126 ∷ []) ≡ None) × (reads_name (127 ∷ []) ≡ Some BadSheet)
  -- no segment and no target; 80 00 is not the shortest form of 0
  pub shortest : (sheet_refusal (0x00 ∷ 0x00 ∷ []) ≡ None) × (sheet_refusal (0x80 ∷ 0x00 ∷ 0x00 ∷ []) ≡ Some BadSheet)
  -- 65,536 marks pass, 65,537 give 12
  pub marks : (mark_refusal most_marks (replicate 65536 7) ≡ None) × (mark_refusal most_marks (replicate 65537 7) ≡ Some TooManyMarks)
  -- 12 comes only after 65,536 marks were made, and no more are ever made: by targets, and in the simple join
  pub pitch_full : (rate : ℕ) (ts : List Target) → (pitch_marks rate ts).refusal ≡ Some TooManyMarks
      → length (pitch_marks rate ts).marks ≡ 65536
  pub pitch_most : (rate : ℕ) (ts : List Target) → length (pitch_marks rate ts).marks ≤ 65536
  pub simple_full : (ms : List ℕ) → mark_refusal most_marks ms ≡ Some TooManyMarks → 65536 < length ms
  pub simple_most : (ms : List ℕ) → mark_refusal most_marks ms ≡ None → length ms ≤ 65536

-- ---- 'Errors a porter would make'

-- the fixed filter of min 1, range 0: every row value is 16384, so each output is the residual's sample plus the output before
abbrev pub sum_filter : Filter ℕ
sum_filter = fixed_filter (fin false 1 (pos 0)) zero_float

-- the codes of the bytes 77 77 77 77 77 76, and the signals of the last, with SR 8844
abbrev pub loud_codes : List ℕ
loud_codes = codes_of (0x77 ∷ 0x77 ∷ 0x77 ∷ 0x77 ∷ 0x77 ∷ 0x76 ∷ [])

abbrev pub loud : Signals
loud = signals_of (state_at loud_codes 11) 6

pub record PorterErrors : Type 0 where
  -- -1 / 16384 is 0
  pub towards_zero : divided (low 32 (negsuc 0)) ≡ 0
  -- history 40000 sends -25536 and keeps 40000
  pub keeps : outputs sum_filter (0 ∷ []) (40000 ∷ []) (255 ∷ []) ≡ 40000 ∷ 40000 ∷ []
  pub sends : map signed16 (samples sum_filter (0 ∷ []) (40000 ∷ []) (255 ∷ [])) ≡ negsuc 25535 ∷ []
  -- a zero coefficient steps from 32767 to -32768, modulo 65,536
  pub wraps : upb 1 0 32767 ≡ 32768
  -- decode then encode: 127 becomes 255
  pub not_identity : ulaw_of (sample_of 127) ≡ 255
  -- history crosses periods
  pub crosses : periods_from sum_filter [] (record { row = 0 ∷ []; bytes = 0xEF ∷ [] } ∷ record { row = 0 ∷ []; bytes = 0xFF ∷ [] } ∷ [])
      ≡ (132 ∷ []) ∷ (132 ∷ []) ∷ []
  -- row value's two divisions go towards zero
  pub row_towards_zero : (row_value (negsuc 0) (pos 0) 0 ≡ pos 0) × (row_value (pos 0) (negsuc 0) 2 ≡ pos 0)
  -- the predictor's sum is modulo 65,536: six products of 17152
  pub product : fmult 16384 928 ≡ 17152
  pub sum_wraps : sezi (replicate 6 16384) (replicate 6 928) ≡ 37376
  -- MIX takes PROD from the magnitude of DIF, -1 here: 0, not -1
  pub mixed : mix 1 544 34880 ≡ 545
  -- 4 × SR is kept to 16 bits, not limited
  pub loudest : (loud.sr ≡ 8844) × ((sample_in loud ≡ negsuc 30159) × (ulaw_of (sample_in loud) ≡ 2))

-- ---- all of them

pub record Examples : Type 0 where
  pub table : Table
  pub printed : Printed
  pub edges : Edges
  pub porter_errors : PorterErrors
