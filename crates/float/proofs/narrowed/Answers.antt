use Rattle.std.proofs.Common.{◌+◌, ◌-◌, ◌*◌, ◌/◌, ◌^◌, min, subst, le_of_lt}
use native.Mathlib.Nat.{min-eq_left, min-eq_right}
use Rattle.float.proofs.Narrow.{Gives, tiny, low, high}
use Rattle.float.proofs.narrowed.Goals as goal
use Rattle.float.proofs.narrowed.Goals.{After-rounded_shift-2}

pub returns-then-exponent-lt872 : goal.returns-then-exponent-lt872
returns-then-exponent-lt872 c = tiny c.args.bits c.requires c.if-exponent-lt872.true

pub returns-then-exponent-lt897 : goal.returns-then-exponent-lt897
returns-then-exponent-lt897 c =
    rw c.rounded_shift.ensures.0 (low c.args.bits c.requires c.if-exponent-lt872.false c.if-exponent-lt897.true)

-- the pattern, which is the infinity's at most
pattern : (c : After-rounded_shift-2) → Gives c.args.bits (min ((c.args.bits / 2 ^ 52 - 897) * 2 ^ 23 + c.rounded_shift-2.result) (255 * 2 ^ 23))
pattern c = rw c.rounded_shift-2.ensures.0 (high c.args.bits c.requires c.if-exponent-lt897.false)

pub returns-then-pattern-lt2139095040 : goal.returns-then-pattern-lt2139095040
returns-then-pattern-lt2139095040 c = subst (Gives c.args.bits) (min-eq_left (le_of_lt c.if-pattern-lt2139095040.true)) (pattern c.before)

pub returns : goal.returns
returns c = subst (Gives c.args.bits) (min-eq_right c.if-pattern-lt2139095040.false) (pattern c.before)
