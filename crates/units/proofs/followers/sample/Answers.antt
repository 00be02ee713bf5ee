use mathlib.Core.Path.{◌≡◌, subst}
use Prim.Native.Nat.{ℕ, ◌-◌}
use native.Mathlib.Omega.{arith}
use Rattle.units.specs.Walking.{Starts}
use Rattle.units.proofs.WalkLaws.{starts_first, walking-starts}
use Rattle.units.proofs.SampleLaws.{sampled-none, sampled-more}
use Rattle.units.proofs.followers.sample.Goals as goal

pub loop-number-init : goal.loop-number-init
loop-number-init c =
    let p = c.first_pair-walk.ensures.0 in
    (p.0, (sampled-more _ _ _ _ _ _ (starts_first c.args.sheet.now c.args.places c.requires.0) (sampled-none _ _ c.no_places-sampled.result c.no_places-sampled.ensures) c.keep.ensures, p.1))

pub next_pair-walk-requires : goal.next_pair-walk-requires
next_pair-walk-requires c = (c.loop-number.invariant.0, omega (arith, c.loop-number.invariant.1.1))

pub loop-number-preserved : goal.loop-number-preserved
loop-number-preserved c =
    let l = c.loop-number in
    let i = l.invariant in
    let n = c.next_pair-walk.ensures.0 in
    let count = c.args.places.segments.count in
    let e : count - l.walk.remaining ≡ l.number = omega (arith, i.1.1) in
    let s = subst (λ (k : ℕ). Starts c.args.sheet.now count k l.walk.next) e (walking-starts _ _ l.walk i.0) in
    (n.0, (sampled-more _ _ _ _ _ _ s i.1.0 c.keep-in-loop-number.ensures, omega (arith, n.1, i.1.1)))

pub returns : goal.returns
returns c = c.loop-number.invariant.1.0
