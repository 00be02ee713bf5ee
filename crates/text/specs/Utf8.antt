-- 'UTF-8 is checked in full': Unicode's table 3-7 of well-formed byte sequences, read byte by byte.
use Rattle.std.specs.Prelude.{Bool, false, List, [], ◌∷◌, ℕ, ◌-◌, eqb, ltb, None, Option, Some}
use Rattle.base.specs.Choice.{pick}
use Rattle.text.specs.declared.Wait.{Wait}

-- a character needs k bytes more, the next of them from lo to hi
abbrev pub needs : ℕ → ℕ → ℕ → Option Wait
needs k lo hi = Some (record { left = k; low = lo; high = hi })

-- After the first byte of a character: how many more it has, and the bounds of the second. 80 to C1 begin none, nor do F5 and above;
-- the second byte after E0 or F0 excludes overlong forms, after ED the surrogates, after F4 what is above 10FFFF.
unfoldable pub lead : ℕ → Option Wait
lead b =
    pick (ltb b 0x80) (needs 0 0 0)
    (pick (ltb b 0xC2) None
    (pick (ltb b 0xE0) (needs 1 0x80 0xBF)
    (pick (ltb b 0xF0) (needs 2 (pick (eqb b 0xE0) 0xA0 0x80) (pick (eqb b 0xED) 0x9F 0xBF))
    (pick (ltb b 0xF5) (needs 3 (pick (eqb b 0xF0) 0x90 0x80) (pick (eqb b 0xF4) 0x8F 0xBF))
    None))))

-- after one byte more
unfoldable pub step : Option Wait → ℕ → Option Wait
step None b = None
step (Some w) b = pick (eqb w.left 0) (lead b) (pick (ltb b w.low) None (pick (ltb w.high b) None (needs (w.left - 1) 0x80 0xBF)))

unfoldable pub waits : Option Wait → List ℕ → Option Wait
waits w [] = w
waits w (b ∷ bs) = waits (step w b) bs

-- no character is left open
unfoldable pub complete : Option Wait → Bool
complete None = false
complete (Some w) = eqb w.left 0

unfoldable pub utf8 : List ℕ → Bool
utf8 bs = complete (waits (needs 0 0 0) bs)
