-- Texts at their edges. A float `fin s m e` is m × 2 ^ e, negative where s is true; `negsuc k` is the exponent -(k + 1).
use Rattle.std.specs.Prelude.{◌≡◌, true, false, pos, negsuc, Float}
use Prim.Native.String.{String}
use Rattle.std.specs.Float.{fin}
use Rattle.base.specs.Text.{ascii}
use Rattle.decimal.specs.Decimal.{numerator, denominator, text_value}

abbrev pub says : String → Float
says s = text_value (ascii s)

pub record Examples : Type 0 where
  -- -12.5, as a fraction too; the rest is ignored
  pub fraction : (numerator (ascii "-12.50x7") ≡ 1250) × (denominator (ascii "-12.50x7") ≡ 100)
  pub decimal : says "-12.50x7" ≡ fin true 25 (negsuc 0)
  -- a second point ends the number, and so does a sign that is not in front
  pub second_point : says "1.5.7" ≡ fin false 3 (negsuc 0)
  pub sign_inside : (says "3-1" ≡ fin false 3 (pos 0)) × (says "+.5+" ≡ fin false 1 (negsuc 0))
  -- digits on one side of the point
  pub one_side : (says "5." ≡ fin false 5 (pos 0)) × (says "+.5" ≡ fin false 1 (negsuc 0))
  -- no digit means 0, whatever the sign
  pub no_digit : (says "" ≡ fin false 0 (pos 0)) × (says "-" ≡ fin false 0 (pos 0)) × (says "-." ≡ fin false 0 (pos 0))
  pub none_in_front : (says "+-3" ≡ fin false 0 (pos 0)) × (says " 3" ≡ fin false 0 (pos 0))
  -- a minus before zero gives minus zero
  pub minus_zero : (says "-0" ≡ fin true 0 (pos 0)) × (says "-.0" ≡ fin true 0 (pos 0)) × (says "+0." ≡ fin false 0 (pos 0))
  -- in the middle of two f32: to the even one, down and up, without and with a fraction; just above the middle
  pub ties : (says "16777217" ≡ fin false 1 (pos 24)) × (says "16777219" ≡ fin false 4194305 (pos 2))
  pub ties_in_parts : (says "4194304.25" ≡ fin false 1 (pos 22)) × (says "4194304.75" ≡ fin false 4194305 (pos 0))
  pub above_tie : says "16777217.001" ≡ fin false 8388609 (pos 1)
  -- 0.1, and the largest and the smallest number of 12 characters
  pub tenth : says "0.1" ≡ fin false 13421773 (negsuc 26)
  pub extremes : (says "999999999999" ≡ fin false 15258789 (pos 16)) × (says ".00000000001" ≡ fin false 11529215 (negsuc 59))
