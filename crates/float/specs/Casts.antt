-- The cast that `Rattle.std.specs.Float.Ieee` has no name for. The contracts also cite its own `to_signed 15`, `to_signed 31` and `to_unsigned 64`
-- (Rust's `as i16`, `as i32`, `as usize`) and `of_int binary32` (`as f32` of an integer), and std's `from_bits binary32` (`f32::from_bits`) and
-- `to_bits binary32` (`to_bits`, with 0x7FC00000 for the NaN). A finite float `fin s m e` is m × 2 ^ e, negative where s is true.
use Rattle.std.specs.Prelude.{◌*◌, Float}
use Rattle.std.specs.Float.{nan, inf, fin, binary32}
use Rattle.std.specs.Float.Ieee.{up, down, round}

-- `x as f32` of an f64: the nearest, a tie to the even one, an infinity where x is too large; -0 stays -0, and a NaN a NaN
unfoldable pub narrow : Float → Float
narrow nan = nan
narrow (inf s) = inf s
narrow (fin s m e) = round binary32 s (m * up e) (down e)
