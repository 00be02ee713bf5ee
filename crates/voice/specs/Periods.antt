-- A voice's pitch periods.
use Rattle.std.specs.Prelude.{List, ℕ, zero, suc, ◌+◌, ◌-◌, ◌*◌, max, get_or, None, Option, Some}
use Rattle.base.specs.Lists.{part}
use Rattle.base.specs.Buffers.{upto}
use Rattle.base.specs.Bytes.{u16_at, u32_at}
use Rattle.voice.specs.declared.Codec.{Codec}
use Rattle.voice.specs.declared.Codec.TheVariants.{Ulaw, G721}
use Rattle.voice.specs.Header.{codec_of}
use Rattle.voice.specs.Voice.{Voice}

-- where period i begins in the residual: entry i of `sts.resoffs`
unfoldable pub offset : Voice → ℕ → ℕ
offset v i = u32_at v.offsets i

-- how many bytes period p has, and the bytes
abbrev pub gap : Voice → ℕ → ℕ
gap v p = offset v (suc p) - offset v p

unfoldable pub residual_of : Voice → ℕ → List ℕ
residual_of v p = part v.residual (offset v p) (gap v p)

-- 'A period's samples are its `sts.ressize` byte, else its offset gap'
abbrev pub sized_by : Option (List ℕ) → ℕ → ℕ → ℕ
sized_by None p n = n
sized_by (Some bs) p n = get_or bs p 0

unfoldable pub samples_of : Voice → ℕ → ℕ
samples_of v p = sized_by v.sizes p (gap v p)

-- the samples of n periods from p on
unfoldable pub samples_from : Voice → ℕ → ℕ → ℕ
samples_from v p zero = 0
samples_from v p (suc n) = samples_of v p + samples_from v (suc p) n

-- 'a row of order u16 values q per frame, rows in frame order'
unfoldable pub row_of : Voice → ℕ → List ℕ
row_of v p = upto (λ k. u16_at v.lpc (p * v.header.order + k)) v.header.order

-- the bytes of the longest of the first n periods
unfoldable pub longest : Voice → ℕ → ℕ
longest v zero = 0
longest v (suc n) = max (gap v n) (longest v n)

-- 'In every call the G.721 decode buffer needs twice the bytes of the voice's longest period (0 for mu-law)'
abbrev pub decode_room_by : Codec → ℕ → ℕ
decode_room_by Ulaw n = 0
decode_room_by G721 n = 2 * n

unfoldable pub decode_room : Voice → ℕ
decode_room v = decode_room_by (codec_of v.header) (longest v v.header.frames)
