use Rattle.std.specs.Prelude.{Some}
use mathlib.Core.Path.{refl, sym, ap, ◌∙◌}
use native.Mathlib.Omega.{arith}
use Prim.Native.Nat.{◌+◌}
use Rattle.base.specs.declared.Span.{Span}
use Rattle.container.specs.Sections.{find, sections}
use Rattle.container.proofs.SectionLaws.{rest, same_name, find-done, find-cut, find-here, find-next}
use Rattle.std.proofs.Common.{rules}
use Rattle.container.proofs.find.Goals as goal

pub loop-at-init : goal.loop-at-init
loop-at-init c = refl

pub data_of-data-requires : goal.data_of-data-requires
data_of-data-requires c = (search rules, sym c.is_whole.ensures ∙ c.if-not-is_whole.false)

pub returns-then-same : goal.returns-then-same
unfolding sections
returns-then-same c =
    let f = c.args.file.now in
    let name = c.args.name.now in
    let at = c.loop-at.at in
    let w = sym c.is_whole.ensures ∙ c.if-not-is_whole.false in
    let d = c.data_of-data.ensures.0 in
    let e = same_name f name at _ d ∙ sym c.same.ensures ∙ c.if-same.true in
    ap Some d ∙ sym (find-here f name at (omega arith) w e) ∙ c.loop-at.invariant

pub loop-at-preserved : goal.loop-at-preserved
loop-at-preserved c =
    let f = c.args.file.now in
    let name = c.args.name.now in
    let at = c.loop-at.at in
    let w = sym c.is_whole.ensures ∙ c.if-not-is_whole.false in
    let d = c.data_of-data.ensures.0 in
    let e = same_name f name at _ d ∙ sym c.same.ensures ∙ c.if-same.false in
    ap (λ (s : Span). find name (rest f (s.at + s.len)).list) d ∙ sym (find-next f name at (omega arith) w e) ∙ c.loop-at.invariant

pub returns-then-not-is_whole : goal.returns-then-not-is_whole
unfolding sections
returns-then-not-is_whole c =
    let f = c.args.file.now in
    let name = c.args.name.now in
    let at = c.loop-at.at in
    sym (find-cut f name at (omega arith) (sym c.is_whole.ensures ∙ c.if-not-is_whole.true)) ∙ c.loop-at.invariant

pub returns : goal.returns
unfolding sections
returns c =
    let f = c.args.file.now in
    let name = c.args.name.now in
    let at = c.loop-at.at in
    sym (find-done f name at (omega arith)) ∙ c.loop-at.invariant
