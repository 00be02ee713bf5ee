-- Document 01, 'Voice file': `sts.header`: frames u32, order u32, rate u32, coeff_min f32, coeff_range f32, codec u32 (0 mu-law, 1 G.721),
-- stretch, F0 mean, F0 deviation f32, fold flag u32. Trailing bytes are ignored.
use Rattle.std.specs.Prelude.{Bool, true, false, ◌&&◌, List, [], ◌∷◌, ℕ, eqb, leb, pos, length, Float}
use Rattle.std.specs.Float.{fin, binary32}
use Rattle.std.specs.Float.Ieee.{of_bits, le}
use Rattle.base.specs.Choice.{pick}
use Rattle.base.specs.Lists.{every}
use Rattle.base.specs.Bytes.{u32_at}
use Rattle.voice.specs.declared.Codec.{Codec}
use Rattle.voice.specs.declared.Codec.TheVariants.{Ulaw, G721}
use Rattle.voice.specs.declared.VoiceHeader.{VoiceHeader}

abbrev pub f32_at : List ℕ → ℕ → Float
f32_at bs i = of_bits binary32 (u32_at bs i)

unfoldable pub header_of : List ℕ → VoiceHeader
header_of bs =
    record {
      frames = u32_at bs 0;
      order = u32_at bs 1;
      rate = u32_at bs 2;
      coeff_min = f32_at bs 3;
      coeff_range = f32_at bs 4;
      codec = u32_at bs 5;
      stretch = f32_at bs 6;
      f0_mean = f32_at bs 7;
      f0_deviation = f32_at bs 8;
      fold = u32_at bs 9;
    }

-- 'codec u32 (0 mu-law, 1 G.721)', and the codec of a header that opens
abbrev pub codec_number : Codec → ℕ
codec_number Ulaw = 0
codec_number G721 = 1

abbrev pub codec_of : VoiceHeader → Codec
codec_of h = pick (eqb h.codec (codec_number Ulaw)) Ulaw G721

-- the limits of a scale, -16 and 16: a float `fin s m e` is m × 2 ^ e, negative where s is true
abbrev pub least_scale : Float
least_scale = fin true 1 (pos 4)

abbrev pub greatest_scale : Float
greatest_scale = fin false 1 (pos 4)

-- a scale is finite, from -16 to 16; a NaN is in no order
unfoldable pub in_scale : Float → Bool
in_scale x = le least_scale x && le x greatest_scale

-- 'Limits, added to the Rust': frames at least 1; order 0 to 32; rate 1 to 48,000; a known codec
unfoldable pub good_numbers : VoiceHeader → Bool
good_numbers h = every (leb 1 h.frames ∷ leb h.order 32 ∷ leb 1 h.rate ∷ leb h.rate 48000 ∷ leb h.codec 1 ∷ [])

-- coeff_min and coeff_range finite, from -16 to 16
unfoldable pub good_scales : VoiceHeader → Bool
good_scales h = in_scale h.coeff_min && in_scale h.coeff_range

-- 5: not cut short, and within the limits
unfoldable pub good_header : List ℕ → Bool
good_header bs = let h = header_of bs in every (leb 40 (length bs) ∷ good_numbers h ∷ good_scales h ∷ [])
