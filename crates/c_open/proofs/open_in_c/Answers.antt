use Rattle.std.specs.Prelude.{Option}
use mathlib.Core.Path.{sym, ap, ◌∙◌}
use native.Mathlib.Omega.{arith}
use lib.ListN.{length}
use Rattle.base.specs.Buffers.{unless_refused}
use Rattle.refusal.specs.declared.Refusal.{Refusal}
use Rattle.refusal.specs.Number.{answer_of}
use Rattle.c_open.specs.Open.{record_of}
use Rattle.c_open.proofs.RecordLaws.{short-ends, long-ends, opened-by, refused-by}
use Rattle.c_open.proofs.open_in_c.Goals as goal

pub returns-then-report-lt56 : goal.returns-then-report-lt56
returns-then-report-lt56 c =
    let a = c.args in
    short-ends a.voice.now a.index.now a.report.now (omega (arith, c.if-report-lt56.true)) c.short_record.ensures

pub write_record-requires : goal.write_record-requires
write_record-requires c =
    let a = c.args in
    ((opened-by a.voice.now (length a.index.now) _ (sym c.open.ensures.0 ∙ c.in-Ok.is)).0, (omega (arith, c.if-report-lt56.false)))

pub returns-in-Ok : goal.returns-in-Ok
returns-in-Ok c =
    let a = c.args in
    let e = (opened-by a.voice.now (length a.index.now) _ (sym c.open.ensures.0 ∙ c.in-Ok.is)).1 in
    long-ends a.voice.now a.index.now a.report.now (omega (arith, c.if-report-lt56.false)) (sym (ap answer_of e)) c.open.ensures.1
    (c.write_record.ensures ∙ sym (ap (λ (x : Option Refusal). unless_refused x (record_of a.voice.now) a.report.now) e))

pub returns-in-Err : goal.returns-in-Err
returns-in-Err c =
    let a = c.args in
    let e = refused-by a.voice.now (length a.index.now) _ (sym c.open.ensures.0 ∙ c.in-Err.is) in
    long-ends a.voice.now a.index.now a.report.now (omega (arith, c.if-report-lt56.false))
    (c.from.ensures ∙ sym (ap answer_of e)) c.open.ensures.1
    (sym (ap (λ (x : Option Refusal). unless_refused x (record_of a.voice.now) a.report.now) e))
