-- The count of powers at its edges. `negsuc k` is -(k + 1).
use Rattle.std.specs.Prelude.{◌≡◌, pos, negsuc}
use Rattle.adpcm_float.specs.Powers.{powers_not_above}

pub record Examples : Type 0 where
  -- the lowest i32, -1 and 0
  pub none : (powers_not_above (negsuc 2147483647) ≡ 0) × (powers_not_above (negsuc 0) ≡ 0) × (powers_not_above (pos 0) ≡ 0)
  -- a power itself counts: 1 to 4
  pub first : (powers_not_above (pos 1) ≡ 1) × (powers_not_above (pos 2) ≡ 2) × (powers_not_above (pos 3) ≡ 2) × (powers_not_above (pos 4) ≡ 3)
  -- just below the highest power, and at it
  pub highest : (powers_not_above (pos 0x3FFF) ≡ 14) × (powers_not_above (pos 0x4000) ≡ 15)
  -- 0x8000 is no power of the fifteen; the highest i32
  pub beyond : (powers_not_above (pos 0x8000) ≡ 15) × (powers_not_above (pos 2147483647) ≡ 15)
