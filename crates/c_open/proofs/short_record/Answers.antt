use Rattle.std.specs.Prelude.{Option, Some}
use mathlib.Core.Path.{sym, ap, ◌∙◌}
use Rattle.base.specs.Lists.{or_next}
use Rattle.refusal.specs.declared.Refusal.{Refusal}
use Rattle.refusal.specs.declared.Refusal.TheVariants.{ShortBuffer}
use Rattle.refusal.specs.Number.{answer_of}
use Rattle.opening.proofs.IndexLaws.{open-answer, refused-answer}
use Rattle.c_open.proofs.short_record.Goals as goal

pub returns-in-Ok : goal.returns-in-Ok
returns-in-Ok c =
    let o = open-answer c.args.voice.now _ (sym c.check.ensures ∙ c.in-Ok.is) in
    c.from.ensures ∙ sym (ap (λ (x : Option Refusal). answer_of (or_next x (Some ShortBuffer))) o.fit)

pub returns-in-Err : goal.returns-in-Err
returns-in-Err c =
    let e = refused-answer c.args.voice.now _ (sym c.check.ensures ∙ c.in-Err.is) in
    c.from-in-Err.ensures ∙ sym (ap (λ (x : Option Refusal). answer_of (or_next x (Some ShortBuffer))) e)
