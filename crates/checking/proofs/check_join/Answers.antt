use mathlib.Core.Path.{ap}
use Rattle.voice.specs.declared.VoiceHeader.{VoiceHeader}
use Rattle.voice.proofs.TableLaws.{header_is}
use Rattle.checking.proofs.PlanLaws.{by-none, by-simple, by-modified}
use Rattle.checking.proofs.check_join.Goals as goal

pub returns-in-None : goal.returns-in-None
returns-in-None c =
    let s = c.args in by-none s.join s.file.now s.by.fold s.sheet.now c.no_marks.result c.in-None.is
    c.no_marks.ensures

pub returns-in-Simple : goal.returns-in-Simple
returns-in-Simple c =
    let s = c.args in by-simple s.join s.file.now s.by.fold s.sheet.now c.check_natural.result c.in-Simple.is
    c.check_natural.ensures

pub returns-in-ModifiedLpc : goal.returns-in-ModifiedLpc
returns-in-ModifiedLpc c =
    let rate = ap (λ (h : VoiceHeader). h.rate) (header_is c.args.file.now c.args.by.voice c.requires.0.opened.places) in
    by-modified c.args.join c.args.file.now c.args.by.fold c.args.sheet.now c.check_modified.result c.in-ModifiedLpc.is (c.check_modified.ensures _ c.args.by.fold rate)
