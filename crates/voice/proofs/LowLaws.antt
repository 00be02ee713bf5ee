-- The tables of a voice whose file is made of bytes are bytes, so each value of a row has 16 bits.
use mathlib.Core.List.{List}
use Prim.Native.Nat.{ℕ, ◌+◌, ◌*◌}
use native.Mathlib.Omega.{arith}
use Rattle.base.specs.Bytes.{Bytes, u16_at}
use Rattle.base.proofs.BoundLaws.{Below, below-upto, below-part}
use Rattle.base.proofs.ByteLaws.{little_endian-lt}
use Rattle.voice.specs.Voice.{Voice, voice_at, voice_of, places_of}
use Rattle.voice.specs.Periods.{row_of}

pub lpc-bytes : (file : List ℕ) → Bytes file → Bytes (voice_of file).lpc
unfolding voice_of voice_at
lpc-bytes file h = below-part 256 (omega arith) file (places_of file).lpc.at (places_of file).lpc.len h

pub row_low : (v : Voice) → Bytes v.lpc → (p : ℕ) → Below 65536 (row_of v p)
unfolding row_of
row_low v h p =
    below-upto 65536 (omega arith) (λ k. u16_at v.lpc (p * v.header.order + k)) (λ k. little_endian-lt v.lpc h 2 (2 * (p * v.header.order + k))) v.header.order
