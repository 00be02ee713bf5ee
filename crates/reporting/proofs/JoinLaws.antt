-- The report of a join, and of a call that its check passed.
use Rattle.std.specs.Prelude.{None}
use mathlib.Core.Path.{◌≡◌, refl, sym, ap, subst, ◌∙◌}
use mathlib.Core.Bool.{Bool, true}
use mathlib.Core.List.{List, [], ◌∷◌, ◌++◌}
use Prim.Native.Nat.{ℕ, zero, suc, ◌+◌, ◌-◌, ◌*◌, ◌≤◌, ◌<◌}
use native.Mathlib.Omega.{arith}
use borrow.Author.Tests.{le-ltb}
use lib.ListN.{length, take, drop, length-append, length-drop, length-take, take-append-drop}
use lib.Seq.{sets, take-nil, take-take, drop_at, length-take-le}
use Rattle.base.specs.Buffers.{flat, over}
use Rattle.base.specs.Bytes.{bytes_of, elements}
use Rattle.base.proofs.CaseLaws.{by_order}
use Rattle.base.proofs.BoundLaws.{each_take}
use Rattle.base.proofs.BufferLaws.{length-flat, length_over, over-nil, over-all, sets_over}
use Rattle.base.proofs.ByteLaws.{length-bytes_of, elements-flat}
use Rattle.voice.specs.Voice.{Voice, voice_of}
use Rattle.sheet.specs.declared.Target.{Target}
use Rattle.sheet.specs.Sheet.{SegmentRead, sheet_of}
use Rattle.units.specs.declared.Held.TheVariants.{Nothing}
use Rattle.units.specs.declared.Selection.{Selection}
use Rattle.units.specs.declared.Unit.{Unit}
use Rattle.units.specs.Selecting.{folded}
use Rattle.units.specs.Units.{units_of}
use Rattle.marks.specs.NaturalMarks.{natural_marks, natural_units}
use Rattle.marks.specs.Checking.{last_of}
use Rattle.marks.specs.Rising.{Rising}
use Rattle.marks.proofs.LimitLaws.{Low}
use Rattle.excitation.specs.Shares.{share_count, share_of, shares_from, shares}
use Rattle.excitation.proofs.ShareLaws.{front-rises, share-most, Goes, stopped, ran_out, share-goes, two_marks, taken_none}
use Rattle.excitation.proofs.CountLaws.{taken-most, natural-count}
use Rattle.call.specs.declared.JoinType.{JoinType}
use Rattle.call.specs.declared.JoinType.TheVariants.{None, Simple, ModifiedLpc}
use Rattle.call.specs.declared.Settings.{Settings}
use Rattle.call.specs.declared.Need.{Need}
use Rattle.call.specs.Call.{Plan, simple_plan, plan_by, plan_of, is_simple}
use Rattle.call.specs.Buffers.{need_of}
use Rattle.call.proofs.CheckLaws.{passed-all}
use Rattle.call.proofs.FilledLaws.{by-low}
use Rattle.checking.specs.declared.Fit.{Fit}
use Rattle.checking.specs.Checks.{Passes}
use Rattle.filling.specs.Filling.{planned, CanSelect, CanStoreMarks}
use Rattle.filling.proofs.JoinLaws.{open-rate, join-rises, join-units, join-low, low_below}
use Rattle.filling.proofs.FillLaws.{segment-count, plan-few, plan-some}
use Rattle.reporting.specs.Report.{Line, lines_of_share, lines_of, report_of, line_bytes, report_bytes}
use Rattle.reporting.specs.Reporting.{marks_ahead, units_report, CanReportUnits, join_report, CanReportJoin}
use Rattle.reporting.proofs.MarkLaws.{drop-elements}
use Rattle.reporting.proofs.LineLaws.{length-lines}
use Rattle.reporting.proofs.ReportLaws.{lines-many, as-many-lines}
use Rattle.reporting.proofs.UnitLaws.{marks-many}

-- ---- the first marks alone, as many as are taken

share-front : (natural : Bool) (u : Unit) (n : ℕ) (ms : List ℕ) → share_count natural u ms ≤ n → share_count natural u (take n ms) ≡ share_count natural u ms
share-front natural u n ms h =
    by (share-goes natural u (take n ms) (drop n ms)) (share-most natural u (take n ms)) (share-most natural u ms) (ap (share_count natural u) (take-append-drop n ms))
  where
    by : {a b : ℕ} → Goes (length (take n ms)) a b → a ≤ length (take n ms) → share_count natural u ms ≤ length ms → b ≡ share_count natural u ms → a ≡ share_count natural u ms
    by (stopped l e) p q f = sym e ∙ f
    by (ran_out l m) p q f = let k = length-take n ms in omega arith

drop-front : (k n : ℕ) (ms : List ℕ) → drop k (take (k + n) ms) ≡ take n (drop k ms)
drop-front zero n ms = let z : 0 + n ≡ n = omega arith in rw z
drop-front (suc k) n [] = ap (drop (suc k)) (take-nil (suc k + n)) ∙ sym (take-nil n)
drop-front (suc k) n (m ∷ ms) = let e : suc k + n ≡ suc (k + n) = omega arith in rw e (drop-front k n ms)

shares-front : (natural : Bool) (end mark n : ℕ) (us : List Unit) (ms : List ℕ) → length (flat lines_of_share (shares_from natural end mark us ms)) ≤ n
    → shares_from natural end mark us (take n ms) ≡ shares_from natural end mark us ms
unfolding shares_from flat lines_of_share
shares-front natural end mark n [] ms h = refl
shares-front natural end mark n (u ∷ us) ms h =
    let k = share_count natural u ms in
    let own = take k ms in
    let others = flat lines_of_share (shares_from natural u.target_end (last_of mark own) us (drop k ms)) in
    let l = length-append (lines_of_share (share_of natural end mark u ms)) others in
    let a : length (lines_of_share (share_of natural end mark u ms)) ≡ k = marks-many u mark own ∙ length-take-le k ms (share-most natural u ms) in
    let i = shares-front natural u.target_end (last_of mark own) (n - k) us (drop k ms) (omega arith) in
    let e : share_count natural u (take n ms) ≡ k = share-front natural u n ms (omega arith) in
    let f : take k (take n ms) ≡ own = take-take k n ms (omega arith) in
    let m : n ≡ k + (n - k) = omega arith in
    let g : drop k (take n ms) ≡ take (n - k) (drop k ms) = ap (λ (j : ℕ). drop k (take j ms)) m ∙ drop-front k (n - k) ms in
    rw (e, f, g, i)

lines_from : (natural : Bool) (us : List Unit) (ms : List ℕ) → 2 ≤ length ms → lines_of natural us ms ≡ flat lines_of_share (shares_from natural 0 0 us ms)
unfolding lines_of shares
lines_from natural us ms h = ap (λ (t : Bool). flat lines_of_share (two_marks t (shares_from natural 0 0 us ms))) (le-ltb (length ms) 2 h)

-- where there are lines there are two marks or more
lines_two : (natural : Bool) (v : Voice) (us : List Unit) (ms : List ℕ) → 0 < length (lines_of natural us ms) → 2 ≤ length ms
lines_two natural v us ms h =
    by_order (length ms) 2
    (λ l. let e = lines-many natural v us ms in let z = ap length (taken_none natural us ms v l) in absurd (omega arith))
    (λ l. l)

-- in the simple join every mark is taken
simple-whole : (j : JoinType) (v : Voice) (ss : List SegmentRead) (ts : List Target) → is_simple j ≡ true
    → let p = plan_by j v ss ts in 2 ≤ length p.marks → length p.marks ≤ length (lines_of (is_simple j) p.units p.marks)
unfolding plan_by simple_plan
simple-whole None v ss ts e h = absurd (omega arith)
simple-whole Simple v ss ts e h =
    let us = units_of v ss in
    let a = natural-count v us h in
    let b = lines-many true v (natural_units v 0 us) (natural_marks v 0 us) in
    omega arith
simple-whole ModifiedLpc v ss ts e h = let z : ◌≡◌ {A = ℕ} 0 1 = cc in absurd (omega arith)

-- ---- the marks stored at the end of the lines, and the lines stored over them

module _ (join : JoinType) (file index sheet : List ℕ) (by : Selection) (count : ℕ) (lines : List ℕ)
    (h : CanSelect file index sheet by × CanReportJoin join file sheet by count (length lines)) where
  abbrev v : Voice
  v = voice_of file

  abbrev ss : List SegmentRead
  ss = folded by.fold (sheet_of sheet).segments

  abbrev simple : Bool
  simple = is_simple join

  abbrev us : List Unit
  us = (planned join file sheet by).units

  abbrev ms : List ℕ
  ms = (planned join file sheet by).marks

  some-lines : 0 < length (lines_of simple us ms)
  some-lines = subst (λ (n : ℕ). 0 < n) h.1.counted h.1.some

  two : 2 ≤ length ms
  two = lines_two simple v us ms some-lines

  pub can_store : (n : ℕ) → n ≡ length (drop (12 * count) lines) → CanStoreMarks join file index sheet by count n
  can_store n e =
      let l = length-drop (12 * count) lines in
      record {
        selects = h.0;
        two = h.1.two;
        spoken = h.1.spoken;
        whole = λ s. subst (λ (k : ℕ). length ms ≤ k) (sym h.1.counted) (simple-whole join v ss (sheet_of sheet).targets s two);
        room = omega (arith, h.1.long, e, l);
      }

  -- the first `count` marks
  abbrev front : List ℕ
  front = take count ms

  length_front : length front ≡ count
  length_front =
      let a = lines-many simple v us ms in
      let b = taken-most simple v us ms in
      length-take-le count ms (omega (arith, h.1.counted, a, b))

  abbrev stored : List ℕ
  stored = flat (bytes_of 4) front

  length-stored : length stored ≡ 4 * count
  length-stored = length-flat (bytes_of 4) 4 (length-bytes_of 4) front ∙ ap (λ (n : ℕ). 4 * n) length_front

  -- the lines with these stored at their end
  abbrev marked : List ℕ
  marked = take (12 * count) lines ++ over stored (drop (12 * count) lines)

  length_marked : length marked ≡ 16 * count
  length_marked =
      let a = length-append (take (12 * count) lines) (over stored (drop (12 * count) lines)) in
      let b = length-take (12 * count) lines in
      let c = length-drop (12 * count) lines in
      let d = length_over stored (drop (12 * count) lines) (omega (arith, length-stored, h.1.long, c)) in
      omega (arith, h.1.long, a, b, c, d)

  ahead-is : marks_ahead count marked 0 ≡ front
  ahead-is =
      let a : 4 * (3 * count + 0) ≡ 12 * count = omega arith in
      let b = length-take (12 * count) lines in
      let c = length-drop (12 * count) lines in
      let e : length (take (12 * count) lines) ≡ 12 * count = omega (arith, h.1.long, b) in
      drop-elements marked (3 * count + 0)
      ∙ ap (λ (n : ℕ). elements 4 (drop n marked)) a
      ∙ ap (elements 4) (drop_at (take (12 * count) lines) (over stored (drop (12 * count) lines)) (12 * count) e)
      ∙ ap (elements 4) (over-all stored (drop (12 * count) lines) (omega (arith, length-stored, h.1.long, c)))
      ∙ elements-flat 4 front (omega arith) (low_below front (each_take Low count ms (by-low join v ss (sheet_of sheet).targets h.1.spoken)))

  module _ (natural : Bool) (q : natural ≡ is_simple join) (m : List ℕ) (e : m ≡ marked) where
    pub can-report-units : CanReportUnits natural file index sheet by count m
    can-report-units =
        let r = open-rate file h.0.searchable.opened.fit in
        let t = h.1.two in
        subst (λ (b : Bool). CanReportUnits b file index sheet by count m) (sym q)
        (subst (λ (l : List ℕ). CanReportUnits (is_simple join) file index sheet by count l) (sym e)
        (record {
          selects = h.0;
          some = omega arith;
          low = join-low v ss (sheet_of sheet).targets join two h.1.spoken;
          long = length_marked;
          rising = subst (Rising 0) (sym ahead-is) (front-rises count 0 ms (join-rises v ss (sheet_of sheet).targets join r.0 r.1));
        }))

    report-is : units_report natural file sheet by (marks_ahead count m 0) ≡ join_report join file sheet by
    report-is =
        ap (λ (l : List ℕ). units_report natural file sheet by (marks_ahead count l 0)) e
        ∙ ap (units_report natural file sheet by) ahead-is
        ∙ ap (λ (b : Bool). units_report b file sheet by front) q
        ∙ ap (λ (l : List Unit). flat lines_of_share (shares_from simple 0 0 l front)) (sym (join-units v ss (sheet_of sheet).targets join two))
        ∙ ap (flat lines_of_share) (shares-front simple 0 0 count us ms enough)
        ∙ sym (lines_from simple us ms two)
      where
        enough : length (flat lines_of_share (shares_from simple 0 0 us ms)) ≤ count
        enough = let a = ap length (lines_from simple us ms two) in omega (arith, a, h.1.counted)

    pub lines-over : sets m 0 (flat line_bytes (units_report natural file sheet by (marks_ahead count m 0))) ≡ flat line_bytes (join_report join file sheet by)
    lines-over =
        let all = flat line_bytes (join_report join file sheet by) in
        let l = length-lines (join_report join file sheet by) in
        let n : length m ≡ 16 * count = ap length e ∙ length_marked in
        ap (λ (ls : List Line). sets m 0 (flat line_bytes ls)) report-is
        ∙ sets_over all m (omega (arith, l, n, h.1.counted))
        ∙ over-all all m (omega (arith, l, n, h.1.counted))

-- ---- a call that its check passed

no_lines : (ls : List Line) → length ls ≡ 0 → ls ≡ []
no_lines [] z = refl
no_lines (l ∷ ls) z = absurd (omega arith)

module _ (file sheet : List ℕ) (o : Settings) (f : Fit) (p : Passes file sheet o f) where
  abbrev count : ℕ
  count = f.need.periods

  abbrev by : Selection
  by = record { voice = f.voice; held = Nothing; places = f.places; fold = o.fold }

  pub counted : count ≡ length (report_of (voice_of file) (sheet_of sheet) o)
  unfolding need_of
  counted = ap (λ (n : Need). n.periods) p.need ∙ sym (as-many-lines (voice_of file) (sheet_of sheet) o)

  -- no period
  pub none-reported : count ≡ 0 → (d : List ℕ) → d ≡ over (report_bytes (voice_of file) (sheet_of sheet) o) d
  unfolding report_bytes flat
  none-reported z d =
      sym (ap (λ (ls : List Line). over (flat line_bytes ls) d) (no_lines (report_of (voice_of file) (sheet_of sheet) o) (sym counted ∙ z)) ∙ over-nil d)

  plan-passed : (plan_of (voice_of file) (sheet_of sheet) o).refusal ≡ None
  plan-passed = (passed-all file sheet o p.passed).plan

  module _ (some : 0 < count) where
    two-segments : 2 ≤ length (sheet_of sheet).segments
    unfolding report_of lines_of shares flat
    two-segments =
        by_order (length (sheet_of sheet).segments) 2
        (λ l. let e = counted ∙ ap (λ (q : Plan). length (lines_of (is_simple o.join) q.units q.marks)) (plan-few (voice_of file) (sheet_of sheet) o l) in absurd (omega arith))
        (λ l. l)

    pub join_is : report_of (voice_of file) (sheet_of sheet) o ≡ join_report o.join file sheet by
    unfolding report_of
    join_is = ap (λ (q : Plan). lines_of (is_simple o.join) q.units q.marks) (plan-some (voice_of file) (sheet_of sheet) o two-segments)

    pub can-join : (n : ℕ) → n ≡ 16 * count → CanReportJoin o.join file sheet by count n
    can-join n e =
        record {
          two = subst (λ (k : ℕ). 2 ≤ k) (segment-count sheet f.places p.places) two-segments;
          spoken = sym (ap (λ (q : Plan). q.refusal) (plan-some (voice_of file) (sheet_of sheet) o two-segments)) ∙ plan-passed;
          counted = counted ∙ ap length join_is;
          some = some;
          long = e;
        }

    -- a part `&mut lines[..16 * count]` was lent, and came back as q
    pub report-over : (q d : List ℕ) → q ≡ flat line_bytes (join_report o.join file sheet by) → q ++ drop (16 * count) d ≡ over (report_bytes (voice_of file) (sheet_of sheet) o) d
    unfolding over report_bytes
    report-over q d e =
        let all = report_of (voice_of file) (sheet_of sheet) o in
        let a : q ≡ flat line_bytes all = e ∙ ap (flat line_bytes) (sym join_is) in
        let n : 16 * count ≡ length (flat line_bytes all) = ap (λ (k : ℕ). 16 * k) counted ∙ sym (length-lines all) in
        ap (λ (l : List ℕ). l ++ drop (16 * count) d) a ∙ ap (λ (k : ℕ). flat line_bytes all ++ drop k d) n
