-- Laws of the definitions that the contracts cite, for callers. Assumes nothing.
use Rattle.std.proofs.Common.{◌≡◌, ℕ, ◌^◌, ◌<◌, ◌≤◌, false, not, T, pos, ap}
use lib.Ieee.{Float, binary32, fits, nan_bits, of_bits, to_bits, of_int}
use lib.Ieee.Back.{round_whole}
use lib.Ieee.Bits.{of_bits-to_bits, to_bits-of_bits, nan_bits_is}
use lib.Ieee.Exact.{HasValue}
use Rattle.float.proofs.Tests.{nan-bits}

-- up to 2 ^ 24 `u32_to_f32` is exact
pub small-value : (n : ℕ) → n ≤ 2 ^ 24 → HasValue (of_int binary32 (pos n)) false n 1
unfolding of_int
small-value n h = round_whole binary32 false n h

-- `f32_to_word` undoes `f32_from_word` at a word that is no NaN's
pub word_back : (w : ℕ) → w < 2 ^ 32 → T (not (nan_bits binary32 w)) → to_bits binary32 (of_bits binary32 w) ≡ w
word_back w h n = to_bits-of_bits binary32 w h (rw nan_bits_is at n)

-- `f32_to_word` gives 0x7FC00000 for what `f32_from_word` reads from a NaN's word
pub nan-word : (w : ℕ) → T (nan_bits binary32 w) → to_bits binary32 (of_bits binary32 w) ≡ 0x7fc0_0000
unfolding to_bits
nan-word w n = ap (to_bits binary32) (nan-bits w n)

-- `f32_from_word` undoes `f32_to_word` at every f32
pub float_back : (x : Float) → T (fits binary32 x) → of_bits binary32 (to_bits binary32 x) ≡ x
float_back x h = of_bits-to_bits binary32 x h
