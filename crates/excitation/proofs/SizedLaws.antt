-- What every taken period is: it has a row of the order, and as many bytes as its size says; the row's values have 16 bits, and the size 32.
use mathlib.Core.Path.{◌≡◌, refl, sym, ◌∙◌}
use mathlib.Core.Bool.{Bool, true, false}
use mathlib.Core.List.{List, [], ◌∷◌, ◌++◌, map}
use Prim.Native.Nat.{ℕ, zero, suc, ◌+◌, ◌-◌, ◌*◌, ◌/◌, ◌^◌, ◌≤◌, ◌<◌}
use native.Mathlib.Nat.{zero-mul, suc-mul}
use native.Mathlib.Omega.{arith}
use borrow.Author.Tests.{ltb-true, ltb-false}
use lib.Dec.{ltb}
use lib.IntN.{pos}
use lib.Ieee.{Float, fin}
use lib.ListN.{length, drop, replicate, length-append, length-take, length-drop, length-replicate}
use Rattle.base.specs.Choice.{pick}
use Rattle.base.specs.Lists.{part}
use Rattle.base.specs.Buffers.{flat}
use Rattle.base.specs.Bytes.{Bytes, u16_at}
use Rattle.base.proofs.BoundLaws.{Each, nil, cons, each_all, each_append, each_take, Below, below-map, below-flat}
use Rattle.base.proofs.BufferLaws.{length-upto}
use Rattle.voice.specs.Voice.{Voice}
use Rattle.voice.specs.Periods.{row_of}
use Rattle.voice.proofs.LowLaws.{row_low}
use Rattle.units.specs.declared.Unit.{Unit}
use Rattle.marks.specs.Checking.{last_of}
use Rattle.marks.proofs.LimitLaws.{Low}
use Rattle.excitation.specs.Source.{source_of, centred}
use Rattle.excitation.specs.Nearest.{nearest_period, pace_of, place_after_size}
use Rattle.excitation.specs.Shares.{share_count, Share, share_of, shares_from, shares}
use Rattle.excitation.specs.Taken.{Period, period_of, periods_of_marks, periods_of_share, taken, sizes_of, rows_of, excitation_of, total}
use Rattle.excitation.proofs.ShareLaws.{two_marks}

-- ---- in general, from what every mark is

each-drop : {A : Type 0} (P : A → Type 0) (n : ℕ) (xs : List A) → Each P xs → Each P (drop n xs)
each-drop P zero xs e = e
each-drop P (suc n) [] nil = nil
each-drop P (suc n) (x ∷ xs) (cons p e) = each-drop P n xs e

module _ (v : Voice) (Q : ℕ → Type 0) (P : Period → Type 0) (so : (m mark p : ℕ) → Q m → P (period_of v (m - mark) p)) where
  marks-each : (u : Unit) (pace place : Float) (mark : ℕ) (ms : List ℕ) → Each Q ms → Each P (periods_of_marks v u pace place mark ms)
  unfolding periods_of_marks
  marks-each u pace place mark [] nil = nil
  marks-each u pace place mark (m ∷ ms) (cons q e) = cons (so m mark (nearest_period v u place) q) (marks-each u pace (place_after_size place pace (m - mark)) m ms e)

  share-each : (s : Share) → Each Q s.marks → Each P (periods_of_share v s)
  unfolding periods_of_share
  share-each s e = marks-each s.unit (pace_of v s.unit s.end_before) (fin false 0 (pos 0)) s.mark s.marks e

  from_each : (natural : Bool) (end_before mark : ℕ) (us : List Unit) (ms : List ℕ) → Each Q ms → Each P (flat (periods_of_share v) (shares_from natural end_before mark us ms))
  unfolding flat shares_from
  from_each natural end_before mark [] ms e = nil
  from_each natural end_before mark (u ∷ us) ms e =
      let n = share_count natural u ms in
      let s = share_of natural end_before mark u ms in
      each_append P (periods_of_share v s) _ (share-each s (each_take Q n ms e)) (from_each natural u.target_end (last_of mark s.marks) us (drop n ms) (each-drop Q n ms e))

  taken-each : (natural : Bool) (us : List Unit) (ms : List ℕ) → Each Q ms → Each P (taken natural v us ms)
  unfolding taken shares flat
  taken-each natural us ms e = by (ltb (length ms) 2)
    where
      by : (t : Bool) → Each P (flat (periods_of_share v) (two_marks t (shares_from natural 0 0 us ms)))
      by true = nil
      by false = from_each natural 0 0 us ms e

-- whatever the marks are
module _ (v : Voice) (P : Period → Type 0) (so : (size p : ℕ) → P (period_of v size p)) where
  share-all : (s : Share) → Each P (periods_of_share v s)
  share-all s = share-each v (λ m. m ≡ m) P (λ m mark p q. so (m - mark) p) s (each_all (λ m. m ≡ m) (λ m. refl) s.marks)

  taken-all : (natural : Bool) (us : List Unit) (ms : List ℕ) → Each P (taken natural v us ms)
  taken-all natural us ms = taken-each v (λ m. m ≡ m) P (λ m mark p q. so (m - mark) p) natural us ms (each_all (λ m. m ≡ m) (λ m. refl) ms)

-- ---- lengths

pub length-centred : (n : ℕ) (s : List ℕ) → length (centred n s) ≡ n
unfolding centred
length-centred n s = by (ltb (length s) n) refl
  where
    by : (t : Bool) → ltb (length s) n ≡ t
        → length (pick t (replicate ((n - length s) / 2) 255 ++ (s ++ replicate (n - length s - (n - length s) / 2) 255)) (part s ((length s - n) / 2) n)) ≡ n
    by true e = let l : length s < n = ltb-true (length s) n e in simp (length-append, length-replicate) (omega arith)
    by false e = let l : n ≤ length s = ltb-false (length s) n e in simp (length-take, length-drop) (omega arith)

pub length-row : (v : Voice) (p : ℕ) → length (row_of v p) ≡ v.header.order
unfolding row_of
length-row v p = length-upto (λ k. u16_at v.lpc (p * v.header.order + k)) v.header.order

abbrev HasSize : ℕ → Period → Type 0
HasSize order p = (length p.row ≡ order) × (length p.bytes ≡ p.size)

abbrev pub Sized : ℕ → List Period → Type 0
Sized order ps = Each (HasSize order) ps

pub period-sized : (v : Voice) (size p : ℕ) → HasSize v.header.order (period_of v size p)
unfolding period_of
period-sized v size p = (length-row v p, length-centred size (source_of v p))

pub share-sized : (v : Voice) (s : Share) → Sized v.header.order (periods_of_share v s)
share-sized v s = share-all v (HasSize v.header.order) (period-sized v) s

pub taken-sized : (natural : Bool) (v : Voice) (us : List Unit) (ms : List ℕ) → Sized v.header.order (taken natural v us ms)
taken-sized natural v us ms = taken-all v (HasSize v.header.order) (period-sized v) natural us ms

-- all rows of the sizes are there
pub rows-length : (order : ℕ) (ps : List Period) → Sized order ps → length (rows_of ps) ≡ length (sizes_of ps) * order
unfolding sizes_of rows_of flat
rows-length order [] s = sym (zero-mul order)
rows-length order (p ∷ ps) (cons (l, m) s) =
    length-append p.row (rows_of ps) ∙ simp (l, rows-length order ps s, suc-mul) (omega arith)

-- 'Taken sizes sum to the excitation length'
pub sizes-total : (order : ℕ) (ps : List Period) → Sized order ps → total (sizes_of ps) ≡ length (excitation_of ps)
unfolding sizes_of excitation_of flat
sizes-total order [] s = refl
sizes-total order (p ∷ ps) (cons (l, m) s) = rw (sizes-total order ps s, length-append) (omega arith)

-- ---- bounds

module _ (natural : Bool) (v : Voice) (us : List Unit) (ms : List ℕ) where
  pub taken-sizes : Each Low ms → Below (2 ^ 32) (map (λ (p : Period). p.size) (taken natural v us ms))
  unfolding period_of
  taken-sizes e =
      below-map (2 ^ 32) (omega arith) (λ (p : Period). p.size) (taken natural v us ms)
      (taken-each v Low (λ (p : Period). p.size < 2 ^ 32) (λ m mark p l. omega arith) natural us ms e)

  pub taken-rows : Bytes v.lpc → Below 65536 (flat (λ (p : Period). p.row) (taken natural v us ms))
  unfolding period_of
  taken-rows h =
      below-flat 65536 (omega arith) (λ (p : Period). p.row) (taken natural v us ms)
      (taken-all v (λ (p : Period). Below 65536 p.row) (λ size p. row_low v h p) natural us ms)
