use mathlib.Core.Path.{subst}
use mathlib.Core.Bool.{Bool}
use Rattle.voice.specs.Voice.{voice_of}
use Rattle.sheet.specs.Sheet.{sheet_of}
use Rattle.units.specs.Selecting.{folded}
use Rattle.call.specs.Call.{plan_by}
use Rattle.checking.specs.Joining.{Joins}
use Rattle.checking.proofs.PlanLaws.{few-segments, two-segments}
use Rattle.checking.proofs.check_plan.Goals as goal

pub returns-then-by-lt2 : goal.returns-then-by-lt2
returns-then-by-lt2 c =
    few-segments c.args.file.now c.args.sheet.now c.args.by.places c.requires.read c.args.settings
    c.no_marks.result c.if-by-lt2.true c.no_marks.ensures

pub returns : goal.returns
returns c =
    let k = c.check_join in
    let sheet = sheet_of c.args.sheet.now in
    two-segments c.args.file.now c.args.sheet.now c.args.by.places c.requires.read c.args.settings k.result c.if-by-lt2.false
    (subst (λ (fold : Bool). Joins (plan_by c.args.settings.join (voice_of c.args.file.now) (folded fold sheet.segments) sheet.targets) k.result) c.requires.fold k.ensures)
