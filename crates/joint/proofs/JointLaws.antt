-- What a call takes and reports is as it was outside of the list; no size, no byte and no sample moves.
use Rattle.std.specs.Prelude.{None}
use mathlib.Core.Path.{◌≡◌, refl, sym, ap, ◌∙◌}
use mathlib.Core.Bool.{Bool, true, false}
use mathlib.Core.List.{List, [], ◌∷◌, ◌++◌, map}
use Prim.Native.Nat.{ℕ, zero, suc, ◌+◌, ◌*◌, ◌≤◌}
use native.Mathlib.Omega.{arith}
use lib.Dec.{ltb}
use lib.Ieee.{Float}
use lib.ListN.{length, get_or}
use Rattle.base.specs.Choice.{pick}
use Rattle.base.specs.Buffers.{flat}
use Rattle.base.proofs.BoundLaws.{Each, nil, cons}
use Rattle.base.proofs.CaseLaws.{by_order}
use Rattle.voice.specs.Voice.{Voice}
use Rattle.voice.specs.Periods.{samples_of, samples_from}
use Rattle.sheet.specs.declared.Target.{Target}
use Rattle.sheet.specs.Sheet.{SegmentRead, Sheet}
use Rattle.units.specs.declared.Unit.{Unit}
use Rattle.units.specs.Selecting.{folded}
use Rattle.units.specs.Units.{limit, units_of}
use Rattle.marks.specs.PitchMarks.{most_marks}
use Rattle.marks.specs.NaturalMarks.{period_count, marks_of_periods, place_after_unit, natural_marks, natural_units}
use Rattle.marks.proofs.LimitLaws.{Low, refusal-low}
use Rattle.excitation.specs.Shares.{shares}
use Rattle.excitation.specs.Taken.{Period, taken, sizes_of}
use Rattle.excitation.proofs.ShareLaws.{few-shares, two-shares}
use Rattle.excitation.proofs.OwnLaws.{own-shares}
use Rattle.excitation.proofs.SizedLaws.{Sized, period-sized, rows-length}
use Rattle.lpc.specs.declared.ResynthType.{ResynthType}
use Rattle.lpc.specs.State.{periods_by}
use Rattle.call.specs.declared.JoinType.{JoinType}
use Rattle.call.specs.declared.JoinType.TheVariants.{None, Simple, ModifiedLpc}
use Rattle.call.specs.declared.Settings.{Settings}
use Rattle.call.specs.Call.{Plan, simple_plan, plan_by, plan_of, is_simple, periods_taken, parts_of, filter_in, periods_of}
use Rattle.call.proofs.CallLaws.{cut-filled, sound_of, two_segments}
use Rattle.reporting.specs.Report.{Line, lines_of, report_of}
use Rattle.reporting.proofs.NumberLaws.{Numbered, units-numbered}
use Rattle.joint.specs.OldRule.{old_periods, old_samples, old_report}
use Rattle.joint.specs.EmptyHeads.{empty_heads, changed, AtJoint}
use Rattle.joint.specs.Claims.{SameOutside, Kept, KeptLines}
use Rattle.joint.proofs.StepLaws as step
use Rattle.joint.proofs.StepLaws.{Step, steps_of_share, period_in, line_in, periods-steps, lines_steps, no_size}
use Rattle.joint.proofs.StepLaws.{Moves, moves-many, moves-same, moves-map, moves-empty, moves-halves, moves-excitation, moves-decoded, moves-samples}
use Rattle.joint.proofs.HeadLaws.{Short, both-rules}
use Rattle.joint.proofs.ListLaws.{changed-means}

-- ---- of steps

module _ (v : Voice) where
  abbrev order : ℕ
  order = v.header.order

  steps-sized : (xs : List Step) → Sized order (map (period_in v) xs)
  steps-sized [] = nil
  steps-sized (x ∷ xs) = cons (period-sized v _ _) (steps-sized xs)

  module _ (listed : List Bool) (xs ys : List Step) (p : Moves listed xs ys) where
    abbrev old : List Period
    old = map (period_in v) xs

    abbrev new : List Period
    new = map (period_in v) ys

    same-sizes : sizes_of new ≡ sizes_of old
    unfolding sizes_of
    same-sizes = moves-map (period_in v) (λ (q : Period). q.size) (λ u w x y mark. no_size v w y mark ∙ sym (no_size v u x mark)) p

    same-samples : (t : ResynthType) (least range : Float) → periods_by t least range (parts_of v new) ≡ periods_by t least range (parts_of v old)
    unfolding sound_of
    same-samples t least range =
        ap (periods_by t least range) (cut-filled order new (steps-sized ys))
        ∙ moves-samples v t least range p
        ∙ sym (ap (periods_by t least range) (cut-filled order old (steps-sized xs)))

    steps-kept : Kept v listed old new
    unfolding sizes_of
    steps-kept =
        record {
          periods = record { many = moves-many (period_in v) p; same = moves-same (period_in v) p };
          empty = moves-empty (period_in v) (λ (q : Period). q.size) (no_size v) p;
          sizes = same-sizes;
          rows = rows-length order new (steps-sized ys) ∙ ap (λ (l : List ℕ). length l * order) same-sizes ∙ sym (rows-length order old (steps-sized xs));
          excitation = moves-excitation v p;
          decoded = moves-decoded v p;
          samples = same-samples;
        }

    steps-lines : KeptLines listed (map line_in xs) (map line_in ys)
    steps-lines =
        record {
          lines = record { many = moves-many line_in p; same = moves-same line_in p };
          firsts = moves-map line_in (λ (l : Line). l.first) (λ u w x y mark. refl) p;
          sizes = moves-map line_in (λ (l : Line). l.size) (λ u w x y mark. refl) p;
          moved = moves-halves p;
        }

-- ---- of a plan

-- no unit is too long where no mark is above the limit
periods-short : (v : Voice) (place p n : ℕ) (ms : List ℕ) → place ≤ limit → Each Low (marks_of_periods v place p n ++ ms) → (place + samples_from v p n ≤ limit) × Each Low ms
unfolding marks_of_periods samples_from
periods-short v place p zero ms h e = (omega arith, e)
periods-short v place p (suc n) ms h (cons l e) = let r = periods-short v (place + samples_of v p) (suc p) n ms l e in let a = r.0 in (omega arith, r.1)

units-short : (v : Voice) (place : ℕ) (us : List Unit) → place ≤ limit → Each Low (natural_marks v place us) → Each (Short v) us
unfolding natural_marks
units-short v place [] h e = nil
units-short v place (u ∷ us) h e =
    let r = periods-short v place u.first_period (period_count u) (natural_marks v (place_after_unit v place u) us) h e in
    let a = r.0 in
    let s : Short v u = omega arith in
    cons s (units-short v (place_after_unit v place u) us a r.1)

module _ (v : Voice) where
  abbrev steps_taken : Bool → Plan → List Step
  steps_taken natural p = flat (steps_of_share v) (shares natural p.units p.marks)

  abbrev listed_by : JoinType → Plan → List Bool
  listed_by j p = pick (is_simple j) (empty_heads v p.units) []

  abbrev MovesBy : JoinType → Plan → Type 0
  MovesBy j p = Moves (listed_by j p) (steps_taken false p) (steps_taken (is_simple j) p)

  simple-moves : (n : ℕ) (us : List Unit) → Numbered n 0 us → (simple_plan v us).refusal ≡ None → MovesBy Simple (simple_plan v us)
  unfolding simple_plan flat
  simple-moves n us k e =
      let ns = natural_units v 0 us in
      let ms = natural_marks v 0 us in
      by_order (length ms) 2
      (λ l. rw (few-shares false ns ms l, few-shares true ns ms l) step.none)
      (λ l. rw (two-shares false ns ms l, two-shares true ns ms l, own-shares v 0 us) (both-rules v n us k (units-short v 0 us (omega arith) (refusal-low most_marks ms e))))

  by-moves : (n : ℕ) (j : JoinType) (ss : List SegmentRead) (ts : List Target) → Numbered n 0 (units_of v ss) → (plan_by j v ss ts).refusal ≡ None → MovesBy j (plan_by j v ss ts)
  unfolding plan_by
  by-moves n None ss ts k e = step.rest
  by-moves n Simple ss ts k e = simple-moves n (units_of v ss) k e
  by-moves n ModifiedLpc ss ts k e = step.rest

  module _ (s : Sheet) (o : Settings) where
    plan-moves : (plan_of v s o).refusal ≡ None → MovesBy o.join (plan_of v s o)
    unfolding plan_of shares flat
    plan-moves e = by (ltb (length s.segments) 2) e
      where
        by : (t : Bool) → (two_segments t (plan_by o.join v (folded o.fold s.segments) s.targets)).refusal ≡ None
            → MovesBy o.join (two_segments t (plan_by o.join v (folded o.fold s.segments) s.targets))
        by true e = step.none
        by false e = by-moves (length s.segments) o.join (folded o.fold s.segments) s.targets (units-numbered v o.fold s.segments) e

    -- ---- of a call

    abbrev plan : Plan
    plan = plan_of v s o

    -- in the modified join, and in join none, nothing changes
    pub others_same : is_simple o.join ≡ false → (periods_taken v s o ≡ old_periods v s o) × (report_of v s o ≡ old_report v s o)
    unfolding periods_taken old_periods report_of old_report
    others_same e = (ap (λ (t : Bool). taken t v plan.units plan.marks) e, ap (λ (t : Bool). lines_of t plan.units plan.marks) e)

    module _ (spoken : (plan_of v s o).refusal ≡ None) where
      -- 'no sample and no size moves'
      pub periods-kept : Kept v (changed v s o) (old_periods v s o) (periods_taken v s o)
      unfolding changed old_periods periods_taken taken
      periods-kept =
          let a = periods-steps v (shares false plan.units plan.marks) in
          let b = periods-steps v (shares (is_simple o.join) plan.units plan.marks) in
          rw (a, b) (steps-kept v _ _ _ (plan-moves spoken))

      pub samples-kept : periods_of v s o ≡ old_samples v s o
      unfolding periods_of old_samples
      samples-kept = periods-kept.samples (filter_in o) v.header.coeff_min v.header.coeff_range

      pub report-kept : KeptLines (changed v s o) (old_report v s o) (report_of v s o)
      unfolding changed old_report report_of lines_of
      report-kept =
          let a = lines_steps v (shares false plan.units plan.marks) in
          let b = lines_steps v (shares (is_simple o.join) plan.units plan.marks) in
          rw (a, b) (steps-lines v _ _ _ (plan-moves spoken))

      -- 'report lines and coefficient rows of zero-size periods at the head of a later unit, and nothing else'
      differs : {A : Type 0} {old new : List A} → SameOutside (changed v s o) old new → (d : A) (i : ℕ) → (get_or new i d ≡ get_or old i d → ⊥) → AtJoint v s o i
      differs k d i h = by (get_or (changed v s o) i false) refl
        where
          by : (t : Bool) → get_or (changed v s o) i false ≡ t → AtJoint v s o i
          by true e = changed-means v s o i e
          by false e = absurd (h (k.same d i e))

      pub period-differs : (d : Period) (i : ℕ) → (get_or (periods_taken v s o) i d ≡ get_or (old_periods v s o) i d → ⊥) → AtJoint v s o i
      period-differs d i h = differs periods-kept.periods d i h

      pub line-differs : (d : Line) (i : ℕ) → (get_or (report_of v s o) i d ≡ get_or (old_report v s o) i d → ⊥) → AtJoint v s o i
      line-differs d i h = differs report-kept.lines d i h
