-- Which plan a call has.
use Rattle.std.specs.Prelude.{Ok, Result}
use Rattle.refusal.specs.declared.Refusal.{Refusal}
use Rattle.marks.specs.declared.Counts.{Counts}
use mathlib.Core.Path.{◌≡◌, sym, ap, subst}
use mathlib.Core.Bool.{Bool}
use mathlib.Core.List.{List}
use Prim.Native.Nat.{ℕ, ◌≤◌, ◌<◌}
use native.Mathlib.Omega.{arith}
use borrow.Author.Tests.{lt-ltb, le-ltb}
use lib.ListN.{length}
use Rattle.voice.specs.Voice.{voice_of}
use Rattle.sheet.specs.declared.Places.{Places}
use Rattle.sheet.specs.Sheet.{SegmentRead, sheet_of}
use Rattle.sheet.specs.Places.{answer_in, sheet_places}
use Rattle.sheet.proofs.WalkLaws.{ahead-length}
use Rattle.sheet.proofs.ReadLaws.{sheet-ahead}
use Rattle.units.specs.Selecting.{folded}
use Rattle.units.specs.Units.{units_of}
use Rattle.call.specs.declared.JoinType.{JoinType}
use Rattle.call.specs.declared.JoinType.TheVariants.{None, Simple, ModifiedLpc}
use Rattle.call.specs.declared.Settings.{Settings}
use Rattle.call.specs.Call.{Plan, empty_plan, simple_plan, modified_plan, plan_by, plan_of}
use Rattle.call.proofs.CallLaws.{two_segments}
use Rattle.checking.specs.Joining.{Joins}

same-joins : (p q : Plan) (r : Result Counts Refusal) → p ≡ q → Joins q r → Joins p r
same-joins p q r e j = subst (λ (x : Plan). Joins x r) (sym e) j

-- ---- by the join

module _ (j : JoinType) (file : List ℕ) (fold : Bool) (sheet : List ℕ) (r : Result Counts Refusal) where
  abbrev ss : List SegmentRead
  ss = folded fold (sheet_of sheet).segments

  abbrev by : JoinType → Plan
  by k = plan_by k (voice_of file) ss (sheet_of sheet).targets

  by_as : (k : JoinType) → j ≡ k → Joins (by k) r → Joins (by j) r
  by_as k e h = same-joins (by j) (by k) r (ap by e) h

  pub by-none : j ≡ None → Joins empty_plan r → Joins (by j) r
  unfolding plan_by
  by-none e h = by_as None e h

  pub by-simple : j ≡ Simple → Joins (simple_plan (voice_of file) (units_of (voice_of file) ss)) r → Joins (by j) r
  unfolding plan_by
  by-simple e h = by_as Simple e h

  pub by-modified : j ≡ ModifiedLpc → Joins (modified_plan (voice_of file) (units_of (voice_of file) ss) (sheet_of sheet).targets) r → Joins (by j) r
  unfolding plan_by
  by-modified e h = by_as ModifiedLpc e h

-- ---- by the number of segments

module _ (file sheet : List ℕ) (p : Places) (e : answer_in (sheet_places sheet) ≡ Ok p) (o : Settings) (r : Result Counts Refusal) where
  segments-count : length (sheet_of sheet).segments ≡ p.segments.count
  segments-count = ahead-length _ sheet _ _ (sheet_of sheet).segments (sheet-ahead sheet p e).segments

  abbrev joined : Plan
  joined = by o.join file o.fold sheet r o.join

  pub few-segments : p.segments.count < 2 → Joins empty_plan r → Joins (plan_of (voice_of file) (sheet_of sheet) o) r
  unfolding plan_of
  few-segments h j = let n = segments-count in same-joins _ empty_plan r (ap (λ t. two_segments t joined) (lt-ltb (length (sheet_of sheet).segments) 2 (omega arith))) j

  pub two-segments : 2 ≤ p.segments.count → Joins joined r → Joins (plan_of (voice_of file) (sheet_of sheet) o) r
  unfolding plan_of
  two-segments h j = let n = segments-count in same-joins _ joined r (ap (λ t. two_segments t joined) (le-ltb (length (sheet_of sheet).segments) 2 (omega arith))) j
