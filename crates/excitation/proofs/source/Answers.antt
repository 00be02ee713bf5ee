use mathlib.Core.Path.{sym, ap, subst, ◌∙◌}
use Rattle.voice.specs.declared.Codec.{Codec}
use Rattle.excitation.specs.Source.{Holds, source_by}
use Rattle.excitation.proofs.WindowLaws.{source-ulaw, source-within, source-g721}
use Rattle.std.proofs.Common.{rules}
use Rattle.excitation.proofs.source.Goals as goal

pub slice_bounds-result-end : goal.slice_bounds-result-end
slice_bounds-result-end c =
    let q = c.in-G721.is in
    let h = subst (λ (k : Codec). Holds k c.args.decoded.now c.args.residual.now) q c.requires in
    let w = source-within c.args.decoded.now c.args.residual.now h in
    search rules

pub returns-in-Ulaw : goal.returns-in-Ulaw
returns-in-Ulaw c = source-ulaw c.args.residual.now ∙ ap (λ (k : Codec). source_by k c.args.residual.now) (sym c.in-Ulaw.is)

pub returns-in-G721 : goal.returns-in-G721
returns-in-G721 c =
    let q = c.in-G721.is in
    let h = subst (λ (k : Codec). Holds k c.args.decoded.now c.args.residual.now) q c.requires in
    source-g721 c.args.decoded.now c.args.residual.now h _ c.lead_in-from.ensures.1 ∙ ap (λ (k : Codec). source_by k c.args.residual.now) (sym q)
