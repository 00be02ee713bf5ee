use mathlib.Core.Path.{◌≡◌, refl, ◌∙◌}
use mathlib.Core.Bool.{◌&&◌}
use Prim.Native.Nat.{◌/◌}
use borrow.Author.Tests.{le-leb, lt-leb, eq-eqb, ne_eqb}
use lib.Dec.{leb}
use lib.ListN.{length}
use Rattle.pulling.proofs.PullingLaws.{and-passed, and-failed, possible-by}
use Rattle.pulling.proofs.is_possible.Goals as goal
use Rattle.pulling.proofs.is_possible.Goals.{then-state-le32, else-state-le32, then-state, else-state, then-state-sizes, else-state-sizes, then-state-excitation, else-state-excitation, then-in_scale, else-in_scale}

pub returns-then-state-sizes-2 : goal.returns-then-state-sizes-2
returns-then-state-sizes-2 c =
    let s = c.args.state in
    let m = length c.args.sizes.now / 4 in
    let a : c.if-state-le32.t-10 ≡ (leb s.order 32 && leb s.ring_place s.order) = elim c.if-state-le32.branch [ then-state-le32 w ↦ and-passed (le-leb _ _ w.if-state-le32.true) w.t-10-is | else-state-le32 w ↦ and-failed _ (lt-leb _ _ w.if-state-le32.false) w.t-10-is ] in
    let e =
    possible-by s c.args.sizes.now c.args.rows.now c.args.excitation.now
    a
    (elim c.if-state.branch [ then-state w ↦ and-passed (a ∙ rw (le-leb _ _ w.if-state.true.0, le-leb _ _ w.if-state.true.1) refl) w.value-is | else-state w ↦ and-failed _ w.if-state.false-raw w.value-is ])
    (elim c.if-state-sizes.branch [ then-state-sizes w ↦ and-passed w.if-state-sizes.true w.value-is | else-state-sizes w ↦ and-failed _ w.if-state-sizes.false w.value-is ])
    (elim c.if-state-excitation.branch [ then-state-excitation w ↦ and-passed w.if-state-excitation.true (w.value-is ∙ w.in_scale.ensures) | else-state-excitation w ↦ and-failed _ w.if-state-excitation.false w.value-is ])
    (elim c.if-in_scale.branch [ then-in_scale w ↦ and-passed w.if-in_scale.true (w.value-is ∙ w.in_scale-then-in_scale.ensures) | else-in_scale w ↦ and-failed _ w.if-in_scale.false w.value-is ]) in
    let q = eq-eqb s.period m c.if-state-sizes-2.true in q ∙ rw (c.if-in_scale-2.true, q) at e

pub returns-else-state-sizes-2 : goal.returns-else-state-sizes-2
returns-else-state-sizes-2 c =
    let s = c.args.state in
    let m = length c.args.sizes.now / 4 in
    let a : c.if-state-le32.t-10 ≡ (leb s.order 32 && leb s.ring_place s.order) = elim c.if-state-le32.branch [ then-state-le32 w ↦ and-passed (le-leb _ _ w.if-state-le32.true) w.t-10-is | else-state-le32 w ↦ and-failed _ (lt-leb _ _ w.if-state-le32.false) w.t-10-is ] in
    let e =
    possible-by s c.args.sizes.now c.args.rows.now c.args.excitation.now
    a
    (elim c.if-state.branch [ then-state w ↦ and-passed (a ∙ rw (le-leb _ _ w.if-state.true.0, le-leb _ _ w.if-state.true.1) refl) w.value-is | else-state w ↦ and-failed _ w.if-state.false-raw w.value-is ])
    (elim c.if-state-sizes.branch [ then-state-sizes w ↦ and-passed w.if-state-sizes.true w.value-is | else-state-sizes w ↦ and-failed _ w.if-state-sizes.false w.value-is ])
    (elim c.if-state-excitation.branch [ then-state-excitation w ↦ and-passed w.if-state-excitation.true (w.value-is ∙ w.in_scale.ensures) | else-state-excitation w ↦ and-failed _ w.if-state-excitation.false w.value-is ])
    (elim c.if-in_scale.branch [ then-in_scale w ↦ and-passed w.if-in_scale.true (w.value-is ∙ w.in_scale-then-in_scale.ensures) | else-in_scale w ↦ and-failed _ w.if-in_scale.false w.value-is ]) in
    let q = ne_eqb s.period m c.if-state-sizes-2.false in c.has_rows.ensures ∙ rw (c.if-in_scale-2.true, q) at e

pub returns-else-in_scale-2 : goal.returns-else-in_scale-2
returns-else-in_scale-2 c =
    let s = c.args.state in
    let m = length c.args.sizes.now / 4 in
    let a : c.if-state-le32.t-10 ≡ (leb s.order 32 && leb s.ring_place s.order) = elim c.if-state-le32.branch [ then-state-le32 w ↦ and-passed (le-leb _ _ w.if-state-le32.true) w.t-10-is | else-state-le32 w ↦ and-failed _ (lt-leb _ _ w.if-state-le32.false) w.t-10-is ] in
    let e =
    possible-by s c.args.sizes.now c.args.rows.now c.args.excitation.now
    a
    (elim c.if-state.branch [ then-state w ↦ and-passed (a ∙ rw (le-leb _ _ w.if-state.true.0, le-leb _ _ w.if-state.true.1) refl) w.value-is | else-state w ↦ and-failed _ w.if-state.false-raw w.value-is ])
    (elim c.if-state-sizes.branch [ then-state-sizes w ↦ and-passed w.if-state-sizes.true w.value-is | else-state-sizes w ↦ and-failed _ w.if-state-sizes.false w.value-is ])
    (elim c.if-state-excitation.branch [ then-state-excitation w ↦ and-passed w.if-state-excitation.true (w.value-is ∙ w.in_scale.ensures) | else-state-excitation w ↦ and-failed _ w.if-state-excitation.false w.value-is ])
    (elim c.if-in_scale.branch [ then-in_scale w ↦ and-passed w.if-in_scale.true (w.value-is ∙ w.in_scale-then-in_scale.ensures) | else-in_scale w ↦ and-failed _ w.if-in_scale.false w.value-is ]) in
    c.if-in_scale-2.false ∙ rw c.if-in_scale-2.false at e
