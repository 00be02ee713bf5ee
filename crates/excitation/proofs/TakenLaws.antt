-- The periods taken in a call head those in a longer one, and are those of a voice with the same periods.
use mathlib.Core.Path.{◌≡◌, refl, sym, ◌∙◌}
use mathlib.Core.Bool.{Bool, true, false}
use mathlib.Core.List.{List, [], ◌∷◌, ◌++◌, append-nil}
use Prim.Native.Nat.{ℕ, zero, suc, ◌+◌, ◌-◌, ◌≤◌, ◌<◌}
use native.Mathlib.Omega.{arith}
use lib.IntN.{pos}
use lib.Ieee.{Float, fin, binary32, add}
use lib.ListN.{length, take, drop, length-append}
use lib.Seq.{take_all, take-nil, drop-nil, take-append-le, drop-append-le}
use Rattle.base.specs.Choice.{pick}
use Rattle.base.specs.Lists.{Heads}
use Rattle.base.specs.Buffers.{flat}
use Rattle.base.proofs.ListLaws.{heads-nil, heads-after, heads-cons, heads-longer}
use Rattle.base.proofs.CaseLaws.{by_order}
use Rattle.float.specs.Distance.{nearer}
use Rattle.voice.specs.Voice.{Voice}
use Rattle.voice.specs.Periods.{samples_of}
use Rattle.voice.proofs.PeriodLaws.{Agree, samples_from-same}
use Rattle.units.specs.declared.Unit.{Unit}
use Rattle.units.proofs.UnitLaws.{Within, cons}
use Rattle.marks.specs.NaturalMarks.{period_count}
use Rattle.marks.specs.Checking.{last_of}
use Rattle.excitation.specs.Source.{source_of}
use Rattle.excitation.specs.Nearest.{f32_of, nearest_from, nearest_period, pace_of, place_after_size}
use Rattle.excitation.specs.Shares.{share_count, shares_from}
use Rattle.excitation.specs.Taken.{Period, period_of, periods_of_marks, periods_of_share, taken}
use Rattle.excitation.proofs.ShareLaws.{Goes, stopped, ran_out, share-goes, taken_none, taken-from}

-- ---- more marks and more units

drop_all : (n : ℕ) (xs : List ℕ) → length xs ≤ n → drop n xs ≡ []
drop_all n [] h = drop-nil n
drop_all zero (x ∷ xs) h = absurd (omega arith)
drop_all (suc n) (x ∷ xs) h = drop_all n xs (omega arith)

take-longer : (n : ℕ) (xs ys : List ℕ) → length xs ≤ n → Heads xs (take n (xs ++ ys))
take-longer n [] ys h = heads-nil _
take-longer zero (x ∷ xs) ys h = absurd (omega arith)
take-longer (suc n) (x ∷ xs) ys h = heads-cons x (take-longer n xs ys (omega arith))

module _ (v : Voice) where
  abbrev with : ℕ → ℕ → Unit → List ℕ → List Period
  with end_before mark u ms = periods_of_share v (record { unit = u; end_before = end_before; mark = mark; marks = ms })

  abbrev from : Bool → ℕ → ℕ → List Unit → List ℕ → List Period
  from natural end_before mark us ms = flat (periods_of_share v) (shares_from natural end_before mark us ms)

  periods-longer : (u : Unit) (pace place : Float) (mark : ℕ) (ms more : List ℕ) → Heads (periods_of_marks v u pace place mark ms) (periods_of_marks v u pace place mark (ms ++ more))
  unfolding periods_of_marks
  periods-longer u pace place mark [] more = heads-nil _
  periods-longer u pace place mark (m ∷ ms) more = heads-cons _ (periods-longer u pace (place_after_size place pace (m - mark)) m ms more)

  share-longer : (end_before mark : ℕ) (u : Unit) {ms ns : List ℕ} → Heads ms ns → Heads (with end_before mark u ms) (with end_before mark u ns)
  unfolding periods_of_share
  share-longer end_before mark u {ms} {ns} h = let e = h.whole in rw e (periods-longer u (pace_of v u end_before) (fin false 0 (pos 0)) mark ms h.more)

  module _ (natural : Bool) where
    none-taken : (end_before mark : ℕ) (us : List Unit) → from natural end_before mark us [] ≡ []
    unfolding flat shares_from last_of periods_of_share periods_of_marks
    none-taken end_before mark [] = refl
    none-taken end_before mark (u ∷ us) =
        let a = take-nil {A = ℕ} (share_count natural u []) in
        let b = drop-nil {A = ℕ} (share_count natural u []) in
        rw (a, b) (none-taken u.target_end mark us)

    from-append : (end_before mark : ℕ) (us vs : List Unit) (ms ns : List ℕ) → Heads (from natural end_before mark us ms) (from natural end_before mark (us ++ vs) (ms ++ ns))
    unfolding flat shares_from
    from-append end_before mark [] vs ms ns = heads-nil _
    from-append end_before mark (u ∷ us) vs ms ns =
        by (share_count natural u ms) (share_count natural u (ms ++ ns)) (share-goes natural u ms ns) (λ m ms. from-append u.target_end m us vs ms ns)
      where
        by : (a b : ℕ) → Goes (length ms) a b
            → ((m : ℕ) (ms : List ℕ) → Heads (from natural u.target_end m us ms) (from natural u.target_end m (us ++ vs) (ms ++ ns)))
            → Heads (with end_before mark u (take a ms) ++ from natural u.target_end (last_of mark (take a ms)) us (drop a ms))
            (with end_before mark u (take b (ms ++ ns)) ++ from natural u.target_end (last_of mark (take b (ms ++ ns))) (us ++ vs) (drop b (ms ++ ns)))
        by a b (stopped l e) ih =
            let p = take-append-le a ms ns l in
            let q = drop-append-le a ms ns l in
            rw (e, p, q) (heads-after (with end_before mark u (take a ms)) (ih (last_of mark (take a ms)) (drop a ms)))
        by a b (ran_out l m) ih =
            let p = take_all a ms l in
            let q = drop_all a ms l in
            rw (p, q, none-taken u.target_end (last_of mark ms) us, append-nil) (heads-longer _ (share-longer end_before mark u (take-longer b ms ns m)))

-- ---- another voice with the same periods

module _ (v w : Voice) (n : ℕ) (g : Agree v w n) (some : 1 ≤ n) where
  nearest-low : (place start : Float) (p k : ℕ) → p + k ≤ n → nearest_from v place start p k < n
  unfolding nearest_from
  nearest-low place start p zero h = omega arith
  nearest-low place start p (suc k) h =
      by (nearer place start (add binary32 start (f32_of (samples_of v p)))) (nearest-low place (add binary32 start (f32_of (samples_of v p))) (suc p) k (omega arith))
    where
      by : (t : Bool) → nearest_from v place (add binary32 start (f32_of (samples_of v p))) (suc p) k < n → pick t p (nearest_from v place (add binary32 start (f32_of (samples_of v p))) (suc p) k) < n
      by true ih = omega arith
      by false ih = ih

  nearest-same : (place start : Float) (p k : ℕ) → p + k ≤ n → nearest_from w place start p k ≡ nearest_from v place start p k
  unfolding nearest_from
  nearest-same place start p zero h = refl
  nearest-same place start p (suc k) h =
      let a = g.samples p (omega arith) in
      let b = nearest-same place (add binary32 start (f32_of (samples_of v p))) (suc p) k (omega arith) in
      rw (a, b)

  period-same : (size p : ℕ) → p < n → period_of w size p ≡ period_of v size p
  unfolding period_of source_of
  period-same size p h = let a = g.rows p h in let b = g.samples p h in let c = g.residuals p h in let d = g.codec in rw (a, b, c, d)

  module _ (u : Unit) (l : u.first_period ≤ u.last_period) (m : u.last_period ≤ n) where
    unit-nearest : (place : Float) → nearest_period w u place ≡ nearest_period v u place
    unfolding nearest_period
    unit-nearest place = nearest-same place (fin false 0 (pos 0)) u.first_period (period_count u) (omega arith)

    unit-low : (place : Float) → nearest_period v u place < n
    unfolding nearest_period
    unit-low place = nearest-low place (fin false 0 (pos 0)) u.first_period (period_count u) (omega arith)

    pace-same : (end_before : ℕ) → pace_of w u end_before ≡ pace_of v u end_before
    unfolding pace_of
    pace-same end_before = let a = samples_from-same v w n g u.first_period (period_count u) (omega arith) in rw a

    share-same : (pace place : Float) (mark : ℕ) (ms : List ℕ) → periods_of_marks w u pace place mark ms ≡ periods_of_marks v u pace place mark ms
    unfolding periods_of_marks
    share-same pace place mark [] = refl
    share-same pace place mark (x ∷ ms) =
        let a = unit-nearest place in
        let b = period-same (x - mark) (nearest_period v u place) (unit-low place) in
        rw (a, b, share-same pace (place_after_size place pace (x - mark)) x ms)

  from-same : (natural : Bool) (end_before mark : ℕ) (us : List Unit) (ms : List ℕ) → Within n us → from w natural end_before mark us ms ≡ from v natural end_before mark us ms
  unfolding flat shares_from periods_of_share
  from-same natural end_before mark [] ms i = refl
  from-same natural end_before mark (u ∷ us) ms (cons l m i) =
      let k = share_count natural u ms in
      let a = pace-same u l m end_before in
      let b = share-same u l m (pace_of v u end_before) (fin false 0 (pos 0)) mark (take k ms) in
      rw (a, b, from-same natural u.target_end (last_of mark (take k ms)) us (drop k ms) i)

-- ---- the same with the test for two marks

pub taken-append : (natural : Bool) (v : Voice) (us vs : List Unit) (ms ns : List ℕ) → Heads (taken natural v us ms) (taken natural v (us ++ vs) (ms ++ ns))
taken-append natural v us vs ms ns =
    by_order (length ms) 2
    (λ l. let a = taken_none natural us ms v l in rw a (heads-nil _))
    (λ l.
    let a = taken-from natural us ms v l in
    let b = taken-from natural (us ++ vs) (ms ++ ns) v (rw length-append (omega arith)) in
    rw (a, b) (from-append v natural 0 0 us vs ms ns))

pub taken-same : (v w : Voice) (n : ℕ) → Agree v w n → 1 ≤ n → (natural : Bool) (us : List Unit) (ms : List ℕ) → Within n us → taken natural w us ms ≡ taken natural v us ms
taken-same v w n g some natural us ms i =
    by_order (length ms) 2
    (λ l. taken_none natural us ms w l ∙ sym (taken_none natural us ms v l))
    (λ l. taken-from natural us ms w l ∙ from-same v w n g some natural 0 0 us ms i ∙ sym (taken-from natural us ms v l))
