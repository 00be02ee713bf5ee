use mathlib.Core.Path.{◌≡◌, ◌∙◌}
use Prim.Native.Nat.{ℕ, ◌-◌, ◌*◌, ◌%◌, ◌^◌, ◌≤◌, ◌<◌}
use native.Mathlib.Nat.{mod-eq_of_lt, mod-lt}
use native.Mathlib.Omega.{arith}
use borrow.Author.Tests.{lt-ltb, le-ltb}
use mir.Syntax.{w16}
use mir.Facts.{to_z_pos}
use Rattle.ulaw.specs.Ulaw.{sample_of, quantised_value}
use Rattle.ulaw.proofs.Intervals.{biased, biased-range}
use Rattle.ulaw.proofs.Signs.{minus-fits, minus-value}
use Rattle.ulaw.proofs.ulaw_to_i16.Goals as goal

-- the interval of a byte, and its biased value
abbrev interval : ℕ → ℕ
interval b = (255 - b) % 128

range : (b : ℕ) → (33 ≤ biased (interval b)) × (biased (interval b) ≤ 8064)
range b = biased-range (interval b) (mod-lt (255 - b) (omega arith))

-- the shift drops no bit
word : (b : ℕ) → biased (interval b) % 2 ^ 32 ≡ biased (interval b)
word b = mod-eq_of_lt (omega (arith, (range b).1))

high : (b : ℕ) → 4 * (biased (interval b) % 2 ^ 32 - 33) < 2 ^ 15
high b = omega (arith, word b, (range b).1)

pub overflow_sub-magnitude : goal.overflow_sub-magnitude
overflow_sub-magnitude c = omega (arith, word c.args.byte, (range c.args.byte).0)

pub overflow_mul-magnitude : goal.overflow_mul-magnitude
overflow_mul-magnitude c = omega (arith, word c.args.byte, (range c.args.byte).1)

pub overflow_cast-magnitude : goal.overflow_cast-magnitude
overflow_cast-magnitude c = record { sfits = high c.args.byte }

pub overflow_sub-result : goal.overflow_sub-result
overflow_sub-result c = minus-fits w16 (high c.args.byte)

pub returns-then-code-lt128 : goal.returns-then-code-lt128
unfolding sample_of quantised_value
returns-then-code-lt128 c =
    let b = c.args.byte in
    to_z_pos w16 (high b) ∙ rw (lt-ltb (255 - b) 128 c.if-code-lt128.true, word b)

pub returns-else-code-lt128 : goal.returns-else-code-lt128
unfolding sample_of quantised_value
returns-else-code-lt128 c =
    let b = c.args.byte in
    minus-value w16 (high b) ∙ rw (le-ltb (255 - b) 128 c.if-code-lt128.false, word b)
