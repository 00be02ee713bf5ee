use Prim.Native.Nat.{ℕ, ◌+◌, ◌-◌}
use mathlib.Core.Path.{◌≡◌, sym, ap, ◌∙◌}
use Rattle.voice.specs.Voice.{Index, entries_from}
use Rattle.index.proofs.WalkLaws.{whole-fits, walk_none, walk-cut, walk_more}
use native.Mathlib.Omega.{arith}
use Rattle.index.proofs.has_whole_entries.Goals as goal

pub loop-init : goal.loop-init
loop-init c = let e : c.args.count - 0 ≡ c.args.count = omega arith in rw e

pub returns-then-not-is_whole : goal.returns-then-not-is_whole
returns-then-not-is_whole c =
    let m = walk-cut _ _ _ (omega arith) (sym c.is_whole.ensures ∙ c.if-not-is_whole.true) in
    sym (ap (λ (i : Index). i.whole) m) ∙ c.loop.invariant

pub next_entry-at-requires : goal.next_entry-at-requires
next_entry-at-requires c = whole-fits _ _ (sym c.is_whole.ensures ∙ c.if-not-is_whole.false)

pub loop-preserved : goal.loop-preserved
loop-preserved c =
    let e : c.args.count - (c.loop.counter + 1) ≡ c.args.count - c.loop.counter - 1 = omega arith in
    let m = walk_more _ _ _ (omega arith) (sym c.is_whole.ensures ∙ c.if-not-is_whole.false) in
    rw (e, c.next_entry-at.ensures.0) (sym (ap (λ (i : Index). i.whole) m) ∙ c.loop.invariant)

pub returns : goal.returns
returns c =
    let e : c.args.count - c.loop.counter ≡ 0 = omega arith in
    sym (ap (λ (n : ℕ). (entries_from n c.args.entries.now c.loop.at).whole) e ∙ ap (λ (i : Index). i.whole) (walk_none _ _)) ∙ c.loop.invariant
