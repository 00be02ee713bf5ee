-- Document 02, A3: how many of the fifteen powers of two are not above a number. In the Rust a search through their table, `quan`.
use Rattle.std.specs.Prelude.{List, [], ◌∷◌, ℕ, ◌+◌, ◌^◌, ℤ, pos}
use Rattle.std.specs.Int.Signed.{le_z}
use Rattle.base.specs.Buffers.{upto}
use Rattle.base.specs.Choice.{pick}

-- the first n powers: 1, 2, 4, ..
abbrev pub powers : ℕ → List ℕ
powers n = upto (λ (k : ℕ). 2 ^ k) n

-- how many of some numbers are not above x
unfoldable pub not_above : List ℕ → ℤ → ℕ
not_above [] x = 0
not_above (p ∷ ps) x = pick (le_z (pos p) x) 1 0 + not_above ps x

-- how many of the fifteen powers 1, 2, .. 0x4000 are not above x
unfoldable pub powers_not_above : ℤ → ℕ
powers_not_above x = not_above (powers 15) x
