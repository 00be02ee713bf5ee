-- What holds of every report: a line a period, sizes that add up, firsts that are the sums of the sizes before, pairs that never fall.
use Rattle.std.specs.Prelude.{None, Option}
use mathlib.Core.Path.{◌≡◌, refl, sym, ap, subst, ◌∙◌}
use mathlib.Core.Bool.{Bool, true, false}
use mathlib.Core.List.{List, [], ◌∷◌, ◌++◌, map, map-append}
use Prim.Native.Nat.{ℕ, zero, suc, ◌+◌, ◌-◌, ◌*◌, ◌≤◌, ◌<◌}
use native.Mathlib.Omega.{arith}
use lib.Dec.{ltb}
use lib.IntN.{pos}
use lib.Ieee.{Float, fin}
use lib.ListN.{length, take, drop, get_or, length-map, length-append}
use Rattle.base.specs.Lists.{or_next}
use Rattle.base.specs.Buffers.{flat, unless_refused}
use Rattle.base.proofs.BoundLaws as bounds
use Rattle.base.proofs.BoundLaws.{Each}
use Rattle.refusal.specs.declared.Refusal.{Refusal}
use Rattle.voice.specs.Voice.{Voice, voice_of}
use Rattle.voice.specs.Opening.{opening_refusal}
use Rattle.sheet.specs.declared.Target.{Target}
use Rattle.sheet.specs.Sheet.{Sheet, sheet_of}
use Rattle.sheet.proofs.SheetLaws.{sheet-few}
use Rattle.units.specs.declared.Unit.{Unit}
use Rattle.units.specs.Selecting.{folded}
use Rattle.marks.specs.Checking.{last_of}
use Rattle.marks.specs.Rising.{Rising}
use Rattle.excitation.specs.Nearest.{pace_of}
use Rattle.excitation.specs.Shares.{share_count, Share, shares_from, shares, sizes_from}
use Rattle.excitation.specs.Taken.{Period, periods_of_share, taken, sizes_of, excitation_of, total}
use Rattle.excitation.proofs.ShareLaws.{front-rises, rest-rises, two_marks, periods-sizes}
use Rattle.excitation.proofs.SizedLaws.{Sized}
use Rattle.lpc.specs.declared.ResynthType.{ResynthType}
use Rattle.lpc.specs.declared.ResynthType.TheVariants.{Fixed, Float as FloatType}
use Rattle.lpc.specs.Filter.{Filter, Part, outputs, periods_from}
use Rattle.lpc.specs.Fixed.{fixed_filter}
use Rattle.lpc.specs.Floating.{float_filter}
use Rattle.lpc.specs.State.{periods_by}
use Rattle.lpc.proofs.FilterLaws.{length-samples}
use Rattle.call.specs.declared.JoinType.{JoinType}
use Rattle.call.specs.declared.JoinType.TheVariants.{None, Simple, ModifiedLpc}
use Rattle.call.specs.declared.Settings.{Settings}
use Rattle.call.specs.Call.{Plan, simple_plan, modified_plan, plan_by, plan_of, missing_refusal, read_refusal, is_simple, periods_taken, filter_in, periods_of, samples_of_call}
use Rattle.call.specs.Buffers.{check_refusal}
use Rattle.call.proofs.CallLaws.{two_segments, periods-sized, part_of, sound_of, sound-is, taken-total}
use Rattle.filling.proofs.JoinLaws.{open-rate, join-rises}
use Rattle.reporting.specs.Report.{Line, lines_of_marks, lines_of_share, lines_of, report_of, line_bytes, report_bytes, short_lines, refusal_of_report, lines_left}
use Rattle.reporting.specs.Claims.{pairs, line_sizes, FirstsFrom, halves, OfPair, HoldsOf, AnyFilter}
use Rattle.reporting.proofs.NumberLaws.{NumberOf, Numbered, nil, cons, units-numbered, natural-numbered}

-- ---- a line a period, with its size

marks-sizes : (u : Unit) (mark : ℕ) (ms : List ℕ) → line_sizes (lines_of_marks u mark ms) ≡ sizes_from mark ms
unfolding lines_of_marks sizes_from
marks-sizes u mark [] = refl
marks-sizes u mark (m ∷ ms) = ap (λ (l : List ℕ). (m - mark) ∷ l) (marks-sizes u m ms)

share-sizes : (v : Voice) (s : Share) → line_sizes (lines_of_share s) ≡ sizes_of (periods_of_share v s)
unfolding lines_of_share periods_of_share
share-sizes v s = marks-sizes s.unit s.mark s.marks ∙ sym (periods-sizes v s.unit (pace_of v s.unit s.end_before) (fin false 0 (pos 0)) s.mark s.marks)

shares-sizes : (v : Voice) (ss : List Share) → line_sizes (flat lines_of_share ss) ≡ sizes_of (flat (periods_of_share v) ss)
unfolding flat sizes_of
shares-sizes v [] = refl
shares-sizes v (s ∷ ss) =
    map-append (λ (l : Line). l.size) (lines_of_share s) (flat lines_of_share ss)
    ∙ pieces (share-sizes v s) (shares-sizes v ss)
    ∙ sym (map-append (λ (p : Period). p.size) (periods_of_share v s) (flat (periods_of_share v) ss))
  where
    pieces : {a b c d : List ℕ} → a ≡ b → c ≡ d → a ++ c ≡ b ++ d
    pieces p q = cc

lines-sizes : (natural : Bool) (v : Voice) (us : List Unit) (ms : List ℕ) → line_sizes (lines_of natural us ms) ≡ sizes_of (taken natural v us ms)
unfolding lines_of taken
lines-sizes natural v us ms = shares-sizes v (shares natural us ms)

pub lines-many : (natural : Bool) (v : Voice) (us : List Unit) (ms : List ℕ) → length (lines_of natural us ms) ≡ length (taken natural v us ms)
unfolding sizes_of
lines-many natural v us ms = sym (length-map (lines_of natural us ms) (λ (l : Line). l.size)) ∙ ap length (lines-sizes natural v us ms) ∙ length-map (taken natural v us ms) (λ (p : Period). p.size)

-- ---- each first sample is the sum of the sizes before

marks-firsts : (u : Unit) (mark : ℕ) (ms : List ℕ) (rest : List Line) → Rising mark ms → FirstsFrom (last_of mark ms) rest → FirstsFrom mark (lines_of_marks u mark ms ++ rest)
unfolding lines_of_marks last_of
marks-firsts u mark [] rest r f = f
marks-firsts u mark (m ∷ ms) rest r f =
    let l = r.0 in
    let e : mark + (m - mark) ≡ m = omega arith in
    (refl, subst (λ (n : ℕ). FirstsFrom n (lines_of_marks u m ms ++ rest)) (sym e) (marks-firsts u m ms rest r.1 f))

from-firsts : (natural : Bool) (end_before mark : ℕ) (us : List Unit) (ms : List ℕ) → Rising mark ms → FirstsFrom mark (flat lines_of_share (shares_from natural end_before mark us ms))
unfolding shares_from flat lines_of_share
from-firsts natural end_before mark [] ms r = tt
from-firsts natural end_before mark (u ∷ us) ms r =
    let n = share_count natural u ms in
    marks-firsts u mark (take n ms) _ (front-rises n mark ms r) (from-firsts natural u.target_end (last_of mark (take n ms)) us (drop n ms) (rest-rises n mark ms r))

lines-firsts : (natural : Bool) (us : List Unit) (ms : List ℕ) → Rising 0 ms → FirstsFrom 0 (lines_of natural us ms)
unfolding lines_of shares flat
lines-firsts natural us ms r = by (ltb (length ms) 2)
  where
    by : (t : Bool) → FirstsFrom 0 (flat lines_of_share (two_marks t (shares_from natural 0 0 us ms)))
    by true = tt
    by false = from-firsts natural 0 0 us ms r

-- ---- pairs and halves

pub record PairsFrom (n p : ℕ) (ls : List Line) : Type 0 where
  pub onward : Rising p (halves ls)
  pub each : Each (OfPair n) ls

rising-from : (p q : ℕ) (ns : List ℕ) → p ≤ q → Rising q ns → Rising p ns
rising-from p q [] h r = tt
rising-from p q (n ∷ ns) h r = (let a = r.0 in omega arith, r.1)

marks-pairs : (n : ℕ) (u : Unit) (mark : ℕ) (ms : List ℕ) (rest : List Line) → NumberOf n u → PairsFrom n (2 * u.pair + u.half) rest
    → PairsFrom n (2 * u.pair + u.half) (lines_of_marks u mark ms ++ rest)
unfolding lines_of_marks
marks-pairs n u mark [] rest a k = k
marks-pairs n u mark (m ∷ ms) rest a k =
    let i = marks-pairs n u m ms rest a k in
    record { onward = (omega arith, i.onward); each = bounds.cons (record { pair = a.pair; low = a.low; half = a.half; second = a.second }) i.each }

from-pairs : (natural : Bool) (n p end_before mark : ℕ) (us : List Unit) (ms : List ℕ) → Numbered n p us → PairsFrom n p (flat lines_of_share (shares_from natural end_before mark us ms))
unfolding shares_from flat lines_of_share
from-pairs natural n p end_before mark [] ms nil = record { onward = tt; each = bounds.nil }
from-pairs natural n p end_before mark (u ∷ us) ms (cons a b k) =
    let own = take (share_count natural u ms) ms in
    let others = flat lines_of_share (shares_from natural u.target_end (last_of mark own) us (drop (share_count natural u ms) ms)) in
    let i = marks-pairs n u mark own others a (from-pairs natural n (2 * u.pair + u.half) u.target_end (last_of mark own) us (drop (share_count natural u ms) ms) k) in
    record { onward = rising-from p (2 * u.pair + u.half) (halves (lines_of_marks u mark own ++ others)) (omega arith) i.onward; each = i.each }

lines-pairs : (natural : Bool) (n : ℕ) (us : List Unit) (ms : List ℕ) → Numbered n 0 us → PairsFrom n 0 (lines_of natural us ms)
unfolding lines_of shares flat
lines-pairs natural n us ms k = by (ltb (length ms) 2)
  where
    by : (t : Bool) → PairsFrom n 0 (flat lines_of_share (two_marks t (shares_from natural 0 0 us ms)))
    by true = record { onward = tt; each = bounds.nil }
    by false = from-pairs natural n 0 0 0 us ms k

-- pairs do not fall where the halves do not
pairs-rise : (n p q : ℕ) (ls : List Line) → 2 * q + 1 ≤ p → Each (OfPair n) ls → Rising p (halves ls) → Rising q (pairs ls)
pairs-rise n p q [] h bounds.nil r = tt
pairs-rise n p q (l ∷ ls) h (bounds.cons a k) r =
    let low = a.half in
    let high = a.second in
    (omega (arith, r.0), pairs-rise n (2 * l.pair + l.half) l.pair ls (omega arith) k r.1)

report-rises : (n : ℕ) (ls : List Line) → Each (OfPair n) ls → Rising 0 (halves ls) → Rising 1 (pairs ls)
report-rises n [] bounds.nil r = tt
report-rises n (l ∷ ls) (bounds.cons a k) r = let low = a.half in (a.pair, pairs-rise n (2 * l.pair + l.half) l.pair ls (omega arith) k r.1)

each_line : {P : Line → Type 0} (ls : List Line) → Each P ls → (i : ℕ) (d : Line) → i < length ls → P (get_or ls i d)
each_line [] bounds.nil i d h = absurd (omega arith)
each_line (l ∷ ls) (bounds.cons a k) zero d h = a
each_line (l ∷ ls) (bounds.cons a k) (suc i) d h = each_line ls k i d (omega arith)

-- ---- as long as the periods of samples are

filtered-lengths : {A : Type 0} (f : Filter A) (h : List A) (ps : List Part) → map length (periods_from f h ps) ≡ map (λ (p : Part). length p.bytes) ps
unfolding periods_from
filtered-lengths f h [] = refl
filtered-lengths f h (p ∷ ps) = rw (length-samples f p.row h p.bytes) (ap (λ (l : List ℕ). length p.bytes ∷ l) (filtered-lengths f (outputs f p.row h p.bytes) ps))

by_lengths : (t : ResynthType) (least range : Float) (ps : List Part) → map length (periods_by t least range ps) ≡ map (λ (p : Part). length p.bytes) ps
unfolding periods_by
by_lengths Fixed least range ps = filtered-lengths (fixed_filter least range) [] ps
by_lengths FloatType least range ps = filtered-lengths (float_filter least range) [] ps

sized-lengths : (order : ℕ) (ps : List Period) → Sized order ps → map (λ (p : Part). length p.bytes) (map part_of ps) ≡ sizes_of ps
unfolding sizes_of
sized-lengths order [] s = refl
sized-lengths order (p ∷ ps) (bounds.cons (l, m) s) = rw m (ap (λ (ns : List ℕ). p.size ∷ ns) (sized-lengths order ps s))

flat-length : (xs : List (List ℕ)) → length (flat (λ (p : List ℕ). p) xs) ≡ total (map length xs)
unfolding flat
flat-length [] = refl
flat-length (x ∷ xs) = length-append x _ ∙ ap (λ (n : ℕ). length x + n) (flat-length xs)

-- ---- of a call

module _ (v : Voice) (s : Sheet) (o : Settings) where
  periods-lengths : map length (periods_of v s o) ≡ sizes_of (periods_taken v s o)
  unfolding sound_of
  periods-lengths =
      ap (map length) (sound-is v s o)
      ∙ by_lengths (filter_in o) v.header.coeff_min v.header.coeff_range (map part_of (periods_taken v s o))
      ∙ sized-lengths v.header.order (periods_taken v s o) (periods-sized v s o)

  pub as-many-lines : length (report_of v s o) ≡ length (periods_taken v s o)
  unfolding report_of periods_taken
  as-many-lines = lines-many (is_simple o.join) v (plan_of v s o).units (plan_of v s o).marks

  pub report-sizes : line_sizes (report_of v s o) ≡ sizes_of (periods_taken v s o)
  unfolding report_of periods_taken
  report-sizes = lines-sizes (is_simple o.join) v (plan_of v s o).units (plan_of v s o).marks

  by-numbered : (j : JoinType) (ts : List Target) → Numbered (length s.segments) 0 (plan_by j v (folded o.fold s.segments) ts).units
  unfolding plan_by simple_plan modified_plan
  by-numbered None ts = nil
  by-numbered Simple ts = natural-numbered v (length s.segments) 0 0 _ (units-numbered v o.fold s.segments)
  by-numbered ModifiedLpc ts = units-numbered v o.fold s.segments

  plan-numbered : Numbered (length s.segments) 0 (plan_of v s o).units
  unfolding plan_of
  plan-numbered = by (ltb (length s.segments) 2)
    where
      by : (t : Bool) → Numbered (length s.segments) 0 (two_segments t (plan_by o.join v (folded o.fold s.segments) s.targets)).units
      by true = nil
      by false = by-numbered o.join s.targets

  pub report-pairs : PairsFrom (length s.segments) 0 (report_of v s o)
  unfolding report_of
  report-pairs = lines-pairs (is_simple o.join) (length s.segments) (plan_of v s o).units (plan_of v s o).marks plan-numbered

  module _ (some : 1 ≤ v.header.rate) (low : v.header.rate ≤ 48000) where
    plan-rises : Rising 0 (plan_of v s o).marks
    unfolding plan_of
    plan-rises = by (ltb (length s.segments) 2)
      where
        by : (t : Bool) → Rising 0 (two_segments t (plan_by o.join v (folded o.fold s.segments) s.targets)).marks
        by true = tt
        by false = join-rises v (folded o.fold s.segments) s.targets o.join some low

    report-firsts : FirstsFrom 0 (report_of v s o)
    unfolding report_of
    report-firsts = lines-firsts (is_simple o.join) (plan_of v s o).units (plan_of v s o).marks plan-rises

    report-holds : HoldsOf v s o
    unfolding samples_of_call
    report-holds =
        let e = report-sizes ∙ sym periods-lengths in
        record {
          lines = sym (length-map (report_of v s o) (λ (l : Line). l.size)) ∙ ap length e ∙ length-map (periods_of v s o) length;
          sizes = e;
          adds = ap total e ∙ sym (flat-length (periods_of v s o));
          firsts = report-firsts;
          each = λ i l h. each_line (report_of v s o) report-pairs.each i l h;
          rising = report-rises (length s.segments) (report_of v s o) report-pairs.each report-pairs.onward;
          onward = report-pairs.onward;
        }

-- every report of a voice that opens
pub report-of : (file : List ℕ) (s : Sheet) (o : Settings) → opening_refusal file ≡ None → HoldsOf (voice_of file) s o
report-of file s o e = let r = open-rate file e in report-holds (voice_of file) s o r.0 r.1

-- ---- bounds of its numbers

-- a line ends within n samples
abbrev pub EndsBy : ℕ → Line → Type 0
EndsBy n l = l.first + l.size ≤ n

ends_by : (k : ℕ) (ls : List Line) → FirstsFrom k ls → Each (EndsBy (k + total (line_sizes ls))) ls
ends_by k [] f = bounds.nil
ends_by k (l ∷ ls) f =
    let e = f.0 in
    let n : k + l.size + total (line_sizes ls) ≡ k + (l.size + total (line_sizes ls)) = omega arith in
    bounds.cons {x = l} (omega arith) (subst (λ (m : ℕ). Each (EndsBy m) ls) n (ends_by (k + l.size) ls f.1))

pub report-ends : (file : List ℕ) (s : Sheet) (o : Settings) → opening_refusal file ≡ None
    → Each (EndsBy (length (excitation_of (periods_taken (voice_of file) s o)))) (report_of (voice_of file) s o)
report-ends file s o e =
    let v = voice_of file in
    let z : 0 + total (line_sizes (report_of v s o)) ≡ total (line_sizes (report_of v s o)) = omega arith in
    let n : 0 + total (line_sizes (report_of v s o)) ≡ length (excitation_of (periods_taken v s o)) = z ∙ ap total (report-sizes v s o) ∙ taken-total v s o in
    subst (λ (m : ℕ). Each (EndsBy m) (report_of v s o)) n (ends_by 0 (report_of v s o) (report-of file s o e).firsts)

each-few : (n m : ℕ) (ls : List Line) → n ≤ m → Each (OfPair n) ls → Each (OfPair m) ls
each-few n m [] h bounds.nil = bounds.nil
each-few n m (l ∷ ls) h (bounds.cons a k) =
    bounds.cons {x = l} (record { pair = a.pair; low = omega (arith, a.low); half = a.half; second = a.second }) (each-few n m ls h k)

pub report-few : (v : Voice) (sheet : List ℕ) (o : Settings) → Each (OfPair 4096) (report_of v (sheet_of sheet) o)
report-few v sheet o = each-few _ 4096 _ (sheet-few sheet) (report-pairs v (sheet_of sheet) o).each

-- ---- the filter plays no part

module _ (file sheet : List ℕ) (o o₁ : Settings) (join : o.join ≡ o₁.join) (fold : o.fold ≡ o₁.fold) (strict : o.strict ≡ o₁.strict) where
  plan-any : (v : Voice) (s : Sheet) → plan_of v s o ≡ plan_of v s o₁
  unfolding plan_of
  plan-any v s = rw (join, fold)

  report-any : (v : Voice) (s : Sheet) → report_of v s o ≡ report_of v s o₁
  unfolding report_of
  report-any v s =
      ap (λ (p : Plan). lines_of (is_simple o.join) p.units p.marks) (plan-any v s)
      ∙ ap (λ (j : JoinType). lines_of (is_simple j) (plan_of v s o₁).units (plan_of v s o₁).marks) join

  check-any : check_refusal file sheet o ≡ check_refusal file sheet o₁
  unfolding check_refusal read_refusal missing_refusal
  check-any = let plan = plan-any (voice_of file) (sheet_of sheet) in rw (plan, fold, strict)

  refusal-any : (n : ℕ) → refusal_of_report file sheet o n ≡ refusal_of_report file sheet o₁ n
  unfolding refusal_of_report
  refusal-any n =
      ap (λ (r : Option Refusal). or_next r (short_lines (length (report_of (voice_of file) (sheet_of sheet) o)) n)) check-any
      ∙ ap (λ (ls : List Line). or_next (check_refusal file sheet o₁) (short_lines (length ls) n)) (report-any (voice_of file) (sheet_of sheet))

  left-any : (old : List ℕ) → lines_left file sheet o old ≡ lines_left file sheet o₁ old
  unfolding lines_left report_bytes
  left-any old =
      ap (λ (r : Option Refusal). unless_refused r (flat line_bytes (report_of (voice_of file) (sheet_of sheet) o)) old) (refusal-any (length old))
      ∙ ap (λ (ls : List Line). unless_refused (refusal_of_report file sheet o₁ (length old)) (flat line_bytes ls) old) (report-any (voice_of file) (sheet_of sheet))

  pub any-filter : AnyFilter file sheet o o₁
  any-filter = record { report = report-any (voice_of file) (sheet_of sheet); refusal = refusal-any; left = left-any }
