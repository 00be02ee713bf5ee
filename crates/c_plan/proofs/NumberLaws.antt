-- Numbers of eight bytes, stored one after the other and read back.
use mathlib.Core.Path.{◌≡◌, ◌∙◌}
use mathlib.Core.List.{List, [], ◌∷◌}
use Prim.Native.Nat.{ℕ, ◌*◌, ◌^◌, ◌<◌}
use native.Mathlib.Nat.{mod-eq_of_lt}
use lib.ListN.{length, get_or, drop}
use Rattle.base.specs.Buffers.{over}
use Rattle.base.specs.Bytes.{little_endian}
use Rattle.base.proofs.ByteLaws.{little_endian-flat}
use Rattle.call.specs.declared.Summary.{Summary}
use Rattle.c_plan.specs.Reports.{summary_bytes}

-- ---- a summary that was stored

abbrev pub numbers_of : Summary → List ℕ
numbers_of m = m.rate ∷ m.periods ∷ m.samples ∷ m.marks ∷ m.order ∷ m.entries ∷ []

-- its number i is read back
pub summary-stored : (m : Summary) (w : List ℕ) (i : ℕ) → i < 6 → get_or (numbers_of m) i 0 < 2 ^ 64 → little_endian 8 (over (summary_bytes m) w) (8 * i) ≡ get_or (numbers_of m) i 0
unfolding over summary_bytes
summary-stored m w i l h = little_endian-flat 8 (numbers_of m) (drop (length (summary_bytes m)) w) i l ∙ mod-eq_of_lt h
