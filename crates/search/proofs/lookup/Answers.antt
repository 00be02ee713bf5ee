use Rattle.std.specs.Prelude.{Some}
use mathlib.Core.Path.{◌≡◌, refl, sym, ap, ◌∙◌}
use Prim.Native.Nat.{ℕ, ◌-◌}
use mathlib.Core.List.{List}
use Rattle.text.specs.Names.{same}
use Rattle.index.specs.Index.{found_of}
use Rattle.index.proofs.WalkLaws.{turn, step, stop, end}
use Rattle.index.proofs.TestLaws.{lookup-none, lookup-here, lookup-next}
use native.Mathlib.Omega.{arith}
use Rattle.search.proofs.lookup.Goals as goal

pub loop-init : goal.loop-init
loop-init c =
    let e : c.args.count - 0 ≡ c.args.count = omega arith in
    rw e (record { whole = c.requires; same = refl })

pub name_at-requires : goal.name_at-requires
name_at-requires c = (turn _ _ _ (omega arith) c.loop.invariant.whole).fits

pub periods_at-requires : goal.periods_at-requires
periods_at-requires c = (turn _ _ _ (omega arith) c.loop.invariant.whole).fits

pub returns-then-same : goal.returns-then-same
returns-then-same c =
    let l = c.loop in
    let e = ap (λ (n : List ℕ). same n c.args.name.now) (sym c.name_at.ensures) ∙ sym c.same.ensures ∙ c.if-same.true in
    ap Some c.periods_at.ensures.0 ∙ ap found_of (stop _ _ _ _ _ l.invariant (turn _ _ _ (omega arith) l.invariant.whole) _ (lookup-here _ _ _ e))

pub next_entry-at-requires : goal.next_entry-at-requires
next_entry-at-requires c = (turn _ _ _ (omega arith) c.loop.invariant.whole).fits

pub loop-preserved : goal.loop-preserved
loop-preserved c =
    let l = c.loop in
    let e = ap (λ (n : List ℕ). same n c.args.name.now) (sym c.name_at.ensures) ∙ sym c.same.ensures ∙ c.if-same.false in
    step _ _ _ _ _ _ _ (omega arith) l.invariant (turn _ _ _ (omega arith) l.invariant.whole) c.next_entry-at.ensures.0 (lookup-next _ _ _ e)

pub returns : goal.returns
returns c = ap found_of (end _ _ _ _ _ c.loop.invariant (omega arith) _ (lookup-none _))
