-- A8: of every call that is not refused.
use Rattle.std.specs.Prelude.{None}
use mathlib.Core.Path.{◌≡◌}
use mathlib.Core.List.{List}
use Prim.Native.Nat.{ℕ}
use Rattle.voice.specs.Voice.{voice_of}
use Rattle.sheet.specs.Sheet.{sheet_of}
use Rattle.call.specs.declared.Settings.{Settings}
use Rattle.call.specs.Buffers.{check_refusal}
use Rattle.call.proofs.CheckLaws.{passed-all}
use Rattle.reporting.proofs.ReportLaws.{report-of}
use Rattle.joint.specs.Claims.{JointKept}
use Rattle.joint.proofs.ListLaws.{changed-means, changed-says}
use Rattle.joint.proofs.JointLaws.{others_same, periods-kept, samples-kept, report-kept, period-differs, line-differs}

pub joint-kept : (file sheet : List ℕ) (o : Settings) → check_refusal file sheet o ≡ None → JointKept (voice_of file) (sheet_of sheet) o
joint-kept file sheet o e =
    let v = voice_of file in
    let s = sheet_of sheet in
    let passed = passed-all file sheet o e in
    let p = passed.plan in
    record {
      periods = periods-kept v s o p;
      samples = samples-kept v s o p;
      lines = report-kept v s o p;
      listed = λ i. (changed-means v s o i, changed-says v s o i);
      period = period-differs v s o p;
      line = line-differs v s o p;
      others = others_same v s o;
      rising = (report-of file s o passed.opening).rising;
    }
