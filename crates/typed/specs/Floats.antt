-- Document 02, A4: 'A sheet written with text and one with the float it stands for'. The second is written from the first, in reading
-- order: what is read is copied, but a text that is chosen gives way to its float. A choice for each value makes every mixture of the two.
use Rattle.std.specs.Prelude.{Bool, false, List, ◌∷◌, ◌++◌, ℕ, zero, suc, ◌-◌, eqb, length, take, drop, get_or}
use Rattle.std.specs.Float.{binary32}
use Rattle.std.specs.Float.Ieee.{to_bits}
use Rattle.base.specs.Bytes.{bytes_of}
use Rattle.base.specs.Choice.{pick}
use Rattle.decimal.specs.Decimal.{text_value}
use Rattle.sheet.specs.Sheet.{Got, fails, gets, number, count, name, value}

-- ---- one value

-- a value's bytes with a text, that is kind 3, its length and its bytes, as the float that it stands for: kind 1 and its bits
unfoldable pub in_float : List ℕ → List ℕ
in_float v = pick (eqb (get_or v 0 0) 3) (1 ∷ bytes_of 4 (to_bits binary32 (text_value (drop 2 v)))) v

-- ---- a sheet

-- what is written for the bytes from a place on; the choices are those of the values there, in reading order
abbrev pub Writer : Type 0
Writer = List Bool → List ℕ → List ℕ

-- the bytes that were read where r is left of bs
abbrev pub front : List ℕ → List ℕ → List ℕ
front bs r = take (length bs - length r) bs

-- after a reading of bs: what it read, changed, and what is written behind it; where it is refused, the bytes stay
abbrev pub behind : {A : Type 0} → (List ℕ → List ℕ) → (A → List ℕ → List ℕ) → List ℕ → Got A → List ℕ
behind change after bs (fails c) = bs
behind change after bs (gets x r) = change (front bs r) ++ after x r

-- what is no value is copied
unfoldable pub copied : {A : Type 0} → (List ℕ → Got A) → (A → Writer) → Writer
copied one after which bs = behind (λ v. v) (λ x. after x which) bs (one bs)

-- a value goes by the first choice; where none is left, it is copied
unfoldable pub valued : Writer → Writer
valued after which bs = behind (λ v. pick (get_or which 0 false) (in_float v) v) (λ x. after (drop 1 which)) bs (value bs)

-- 'name length, name, end value, follower'
unfoldable pub segment_written : Writer → Writer
segment_written after = copied name (λ x. valued (copied number (λ y. after)))

-- 'pos value, f0 value'
unfoldable pub target_written : Writer → Writer
target_written after = valued (valued after)

-- n in a row
unfoldable pub in_row : (Writer → Writer) → ℕ → Writer → Writer
in_row one zero after = after
in_row one (suc n) after = one (in_row one n after)

-- the sheet with the chosen texts as floats: 'Segment count; per segment ..; then target count; per target ..'
unfoldable pub in_floats : List Bool → List ℕ → List ℕ
in_floats = copied count (λ n. in_row segment_written n (copied count (λ k. in_row target_written k (λ which bs. bs))))
