-- Reading a text byte by byte.
use mathlib.Core.Path.{◌≡◌, sym, ap, ◌∙◌}
use mathlib.Core.List.{List}
use Prim.Native.Nat.{ℕ, ◌+◌, ◌≤◌, ◌<◌}
use lib.ListN.{length, drop, get_or, drop_of_length-le}
use native.Mathlib.Numerals.{add-one}
use borrow.Author.Tests.{lt-ltb}
use lib.Seq.{drop-cons}
use Rattle.std.specs.Prelude.{Option}
use Rattle.text.specs.Utf8.{needs, waits, step, lead, complete, utf8}
use Rattle.text.specs.declared.Wait.{Wait}

-- one byte more
pub waits-more : (w : Option Wait) (s : List ℕ) (i : ℕ) → i < length s → waits w (drop i s) ≡ waits (step w (get_or s i 0)) (drop (i + 1) s)
unfolding waits
waits-more w s i h = ap (waits w) (drop-cons s i 0 h) ∙ ap (λ (n : ℕ). waits (step w (get_or s i 0)) (drop n s)) (sym (add-one i))

-- no byte is left
pub waits-done : (w : Option Wait) (s : List ℕ) (i : ℕ) → length s ≤ i → waits w (drop i s) ≡ w
unfolding waits
waits-done w s i h = ap (waits w) (drop_of_length-le s h)

-- an ASCII byte between two characters is one itself
pub utf8-ascii : (s : List ℕ) (i : ℕ) → i < length s → get_or s i 0 < 0x80 → utf8 (drop (i + 1) s) ≡ utf8 (drop i s)
unfolding utf8 step lead
utf8-ascii s i h l =
    let t = lt-ltb (get_or s i 0) 0x80 l in
    sym (ap complete (waits-more (needs 0 0 0) s i h ∙ rw t))
