-- Document 02, A4, 'Times typed as text': what a text stands for, 'read as `parse_leading_f32` reads' it. In ASCII '+' is 43, '-' 45, '.' 46,
-- and '0' to '9' are 48 to 57.
use Rattle.std.specs.Prelude.{Bool, false, ◌&&◌, ◌||◌, List, [], ◌∷◌, ◌++◌, ℕ, ◌+◌, ◌-◌, ◌*◌, ◌^◌, eqb, ltb, length, drop, Float}
use Rattle.std.specs.Float.{binary32}
use Rattle.std.specs.Float.Ieee.{round}
use Rattle.base.specs.Choice.{pick, within}

-- ---- 'a sign only in front, digits, one point, and the rest is ignored'

-- the text begins with this byte
unfoldable pub begins : ℕ → List ℕ → Bool
begins byte [] = false
begins byte (c ∷ text) = eqb c byte

-- the digits that the text begins with, each as its number
unfoldable pub digits : List ℕ → List ℕ
digits [] = []
digits (c ∷ text) = pick (within 48 57 c) ((c - 48) ∷ digits text) []

-- what follows a sign in front; all of the text where there is none
unfoldable pub after_sign : List ℕ → List ℕ
after_sign text = pick (begins 43 text || begins 45 text) (drop 1 text) text

-- the digits behind a point in front; none where there is no point
unfoldable pub after_point : List ℕ → List ℕ
after_point text = pick (begins 46 text) (digits (drop 1 text)) []

-- the digits before the point, and those behind it
unfoldable pub whole : List ℕ → List ℕ
whole text = digits (after_sign text)

unfoldable pub part : List ℕ → List ℕ
part text = after_point (drop (length (whole text)) (after_sign text))

-- ---- 'that decimal defined as a fraction of two whole numbers'

-- digits read as a number, the highest first, on from a number n
unfoldable pub number : ℕ → List ℕ → ℕ
number n [] = n
number n (d ∷ ds) = number (n * 10 + d) ds

-- all digits as one number, over ten to the power of how many stand behind the point; 'no digit means 0', here 0 / 1
unfoldable pub numerator : List ℕ → ℕ
numerator text = number 0 (whole text ++ part text)

unfoldable pub denominator : List ℕ → ℕ
denominator text = 10 ^ length (part text)

-- 'a minus before zero gives minus zero', so the sign stands beside the fraction; where there is no digit, a minus does not count
unfoldable pub negative : List ℕ → Bool
negative text = begins 45 text && ltb 0 (length (whole text ++ part text))

-- ---- 'The result is the f32 nearest to the exact decimal, ties to the even one'

-- lib.Ieee's `round` gives it for a sign and a fraction; a zero keeps the sign
unfoldable pub text_value : List ℕ → Float
text_value text = round binary32 (negative text) (numerator text) (denominator text)
