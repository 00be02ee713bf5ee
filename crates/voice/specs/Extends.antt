-- Document 01, 'Voice W extends V'.
use Rattle.std.specs.Prelude.{◌≡◌, List, ◌∷◌, ℕ, ◌+◌, ◌*◌, ◌≤◌, take, None, Option, Some}
use Rattle.voice.specs.Voice.{Voice, Entry, Placed}
use Rattle.voice.specs.Periods.{offset}

-- an entry stands in an index
pub data Stands (e : Entry) : List Placed → Type 0 where
  here : {p : Placed} {ps : List Placed} → e ≡ p.entry → Stands e (p ∷ ps)
  there : {p : Placed} {ps : List Placed} → Stands e ps → Stands e (p ∷ ps)

-- `sts.ressize` is in neither, or in both with the same first n sizes
pub data SameSizes (n : ℕ) : Option (List ℕ) → Option (List ℕ) → Type 0 where
  neither : SameSizes n None None
  both : {a b : List ℕ} → take n a ≡ take n b → SameSizes n (Some a) (Some b)

-- 'rate, order, coeff_min and coeff_range bits, codec and the presence of `sts.ressize` agree; W has at least V's frames; V's rows, sizes,
-- first frames + 1 offsets and the residual up to V's last offset are W's too; each V entry stands in W'.
-- An open voice's scales are finite, and finite floats are equal exactly where their bits agree: the logic's floats keep the sign of a zero
-- (law `Word-back` of `float`).
pub record Extends (w v : Voice) : Type 0 where
  pub rate : w.header.rate ≡ v.header.rate
  pub order : w.header.order ≡ v.header.order
  pub coeff_min : w.header.coeff_min ≡ v.header.coeff_min
  pub coeff_range : w.header.coeff_range ≡ v.header.coeff_range
  pub codec : w.header.codec ≡ v.header.codec
  pub frames : v.header.frames ≤ w.header.frames
  pub rows : take (v.header.frames * v.header.order * 2) w.lpc ≡ take (v.header.frames * v.header.order * 2) v.lpc
  pub sizes : SameSizes v.header.frames w.sizes v.sizes
  pub offsets : take ((v.header.frames + 1) * 4) w.offsets ≡ take ((v.header.frames + 1) * 4) v.offsets
  pub residual : take (offset v v.header.frames) w.residual ≡ take (offset v v.header.frames) v.residual
  pub entries : (e : Entry) → Stands e v.entries → Stands e w.entries
