use mathlib.Core.Path.{refl, sym, ◌∙◌}
use Rattle.index.proofs.ShuffleLaws.{ordered-more, ordered-stop, ordered_end}
use native.Mathlib.Omega.{arith}
use Rattle.index.proofs.is_ordered.Goals as goal

pub loop-i-init : goal.loop-i-init
loop-i-init c = (omega arith, λ s. refl)

pub places_ascend-requires : goal.places_ascend-requires
places_ascend-requires c = (c.requires, (omega arith, omega arith))

pub loop-i-preserved : goal.loop-i-preserved
loop-i-preserved c =
    let l = c.loop-i in
    (omega arith, λ s. ordered-more _ _ _ _ s _ l.invariant.0 (omega arith) (sym c.places_ascend.ensures ∙ c.if-not-places_ascend.false) ∙ l.invariant.1 s)

pub returns-then-not-places_ascend : goal.returns-then-not-places_ascend
returns-then-not-places_ascend c s =
    let l = c.loop-i in
    sym (ordered-stop _ _ _ _ s _ l.invariant.0 (omega arith) (sym c.places_ascend.ensures ∙ c.if-not-places_ascend.true)) ∙ l.invariant.1 s

pub returns : goal.returns
returns c s =
    let l = c.loop-i in
    sym (ordered_end _ _ _ _ s _ l.invariant.0 (omega arith)) ∙ l.invariant.1 s
