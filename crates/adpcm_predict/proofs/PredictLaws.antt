-- LIMC by a coefficient's place among the negative and the other ones, 32768 more modulo 65536.
use mathlib.Core.Path.{◌≡◌}
use Prim.Native.Nat.{ℕ, ◌+◌, ◌%◌, ◌<◌, ◌≤◌}
use native.Mathlib.Omega.{arith}
use borrow.Author.Tests.{le-leb, le-ltb, lt-leb, lt-ltb}
use lib.Dec.{leb}
use Rattle.base.specs.Choice.{pick}
use Rattle.base.proofs.CaseLaws.{by_order}
use Rattle.adpcm_predict.specs.Predictor.{limc}

pub limc-below : (a : ℕ) → a < 65536 → (a + 32768) % 65536 < 20480 → 53248 ≡ limc a
unfolding limc
limc-below a h l = rw (le-ltb a 32768 (omega arith), le-leb a 53248 (omega arith))

pub limc-above : (a : ℕ) → a < 65536 → 45056 < (a + 32768) % 65536 → 12288 ≡ limc a
unfolding limc
limc-above a h l = rw (lt-ltb a 32768 (omega arith), le-leb 12288 a (omega arith))

pub limc-within : (a : ℕ) → a < 65536 → 20480 ≤ (a + 32768) % 65536 → (a + 32768) % 65536 ≤ 45056 → a ≡ limc a
unfolding limc
limc-within a h l u = by_order 32767 a negative other
  where
    negative : 32767 < a → a ≡ limc a
    negative g = rw (le-ltb a 32768 (omega arith)) (by_order 53248 a inside least)
      where
        inside : 53248 < a → a ≡ pick (leb a 53248) 53248 a
        inside i = rw (lt-leb a 53248 i)

        least : a ≤ 53248 → a ≡ pick (leb a 53248) 53248 a
        least i = rw (le-leb a 53248 i) (omega arith)

    other : a ≤ 32767 → a ≡ limc a
    other g = rw (lt-ltb a 32768 (omega arith)) (by_order 12287 a greatest inside)
      where
        greatest : 12287 < a → a ≡ pick (leb 12288 a) 12288 a
        greatest i = rw (le-leb 12288 a (omega arith)) (omega arith)

        inside : a ≤ 12287 → a ≡ pick (leb 12288 a) 12288 a
        inside i = rw (lt-leb 12288 a (omega arith))
