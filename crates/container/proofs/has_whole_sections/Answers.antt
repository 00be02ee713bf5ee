use mathlib.Core.Path.{refl, sym, ap, ◌∙◌}
use native.Mathlib.Omega.{arith}
use Prim.Native.Nat.{◌+◌}
use Rattle.base.specs.declared.Span.{Span}
use Rattle.container.specs.Sections.{Sections, sections}
use Rattle.container.proofs.SectionLaws.{rest, rest-done, rest-cut, rest_more}
use Rattle.std.proofs.Common.{rules}
use Rattle.container.proofs.has_whole_sections.Goals as goal

pub loop-at-init : goal.loop-at-init
loop-at-init c = refl

pub data_of-data-requires : goal.data_of-data-requires
data_of-data-requires c = (search rules, sym c.is_whole.ensures ∙ c.if-not-is_whole.false)

pub loop-at-preserved : goal.loop-at-preserved
loop-at-preserved c =
    let f = c.args.file.now in
    let w = sym c.is_whole.ensures ∙ c.if-not-is_whole.false in
    ap (λ (d : Span). (rest f (d.at + d.len)).whole) c.data_of-data.ensures.0 ∙ sym (ap (λ (r : Sections). r.whole) (rest_more f c.loop-at.at (omega arith) w)) ∙ c.loop-at.invariant

pub returns-then-not-is_whole : goal.returns-then-not-is_whole
unfolding sections
returns-then-not-is_whole c =
    let f = c.args.file.now in
    sym (ap (λ (r : Sections). r.whole) (rest-cut f c.loop-at.at (omega arith) (sym c.is_whole.ensures ∙ c.if-not-is_whole.true))) ∙ c.loop-at.invariant

pub returns : goal.returns
unfolding sections
returns c =
    let f = c.args.file.now in
    sym (ap (λ (r : Sections). r.whole) (rest-done f c.loop-at.at (omega arith))) ∙ c.loop-at.invariant
