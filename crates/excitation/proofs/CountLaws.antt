-- How many periods a call takes, and how long their excitation is: known from the marks taken alone, which are those up to the greatest target end.
use mathlib.Core.Path.{◌≡◌, refl, sym, ap, subst, ◌∙◌}
use mathlib.Core.Bool.{Bool, true, false}
use mathlib.Core.List.{List, [], ◌∷◌}
use Prim.Native.Nat.{ℕ, suc, ◌+◌, ◌*◌, ◌≤◌, ◌<◌}
use native.Mathlib.Omega.{arith}
use lib.IntN.{pos}
use lib.Ieee.{fin}
use lib.ListN.{length, drop, length-append, length-drop, length-map}
use Rattle.base.specs.Buffers.{flat}
use Rattle.base.proofs.CaseLaws.{by_order}
use Rattle.voice.specs.Voice.{Voice}
use Rattle.units.specs.declared.Unit.{Unit}
use Rattle.units.specs.Units.{greatest_end}
use Rattle.marks.specs.NaturalMarks.{natural_marks, natural_units}
use Rattle.marks.specs.Checking.{last_of, up_to}
use Rattle.marks.specs.Rising.{Rising}
use Rattle.marks.proofs.UpToLaws.{natural-up_to}
use Rattle.excitation.specs.Nearest.{pace_of}
use Rattle.excitation.specs.Shares.{share_count, Share, share_of, shares_from, shares, marks_taken, sizes_from}
use Rattle.excitation.specs.Taken.{Period, periods_of_share, taken, sizes_of, rows_of, excitation_of, total}
use Rattle.excitation.proofs.ShareLaws.{take-up_to, front-rises, share-most, share-count, taken_none, taken-from, TakesFront, periods-sizes, sizes-by-marks}
use Rattle.excitation.proofs.OwnLaws.{own-taken}
use Rattle.excitation.proofs.SizedLaws.{sizes-total, rows-length, share-sized, taken-sized}

-- ---- of marks that do not fall

sizes-many : (mark : ℕ) (ms : List ℕ) → length (sizes_from mark ms) ≡ length ms
unfolding sizes_from
sizes-many mark [] = refl
sizes-many mark (m ∷ ms) = ap suc (sizes-many m ms)

sizes-sum : (mark : ℕ) (ms : List ℕ) → Rising mark ms → mark + total (sizes_from mark ms) ≡ last_of mark ms
unfolding sizes_from last_of
sizes-sum mark [] r = omega arith
sizes-sum mark (m ∷ ms) r = let l = r.0 in let e = sizes-sum m ms r.1 in omega arith

-- the excitation of a share ends at its last mark
pub share-last : (v : Voice) (s : Share) → Rising s.mark s.marks → s.mark + length (excitation_of (periods_of_share v s)) ≡ last_of s.mark s.marks
unfolding periods_of_share
share-last v s r =
    let a = sizes-total v.header.order (periods_of_share v s) (share-sized v s) in
    let b = ap total (periods-sizes v s.unit (pace_of v s.unit s.end_before) (fin false 0 (pos 0)) s.mark s.marks) in
    let c = sizes-sum s.mark s.marks r in
    omega arith

from-most : (natural : Bool) (v : Voice) (end_before mark : ℕ) (us : List Unit) (ms : List ℕ) → length (flat (periods_of_share v) (shares_from natural end_before mark us ms)) ≤ length ms
unfolding flat shares_from
from-most natural v end_before mark [] ms = omega arith
from-most natural v end_before mark (u ∷ us) ms =
    let s = share_of natural end_before mark u ms in
    let left = drop (share_count natural u ms) ms in
    let a = length-append (periods_of_share v s) (flat (periods_of_share v) (shares_from natural u.target_end (last_of mark s.marks) us left)) in
    let b = share-count natural v end_before mark u ms in
    let c = from-most natural v u.target_end (last_of mark s.marks) us left in
    let d = length-drop (share_count natural u ms) ms in
    let e = share-most natural u ms in
    omega arith

-- ---- by the marks taken

module _ (natural : Bool) (v : Voice) (us : List Unit) (ms : List ℕ) where
  taken-many : length (taken natural v us ms) ≡ length (marks_taken (shares natural us ms))
  unfolding sizes_of
  taken-many =
      sym (length-map (taken natural v us ms) (λ (p : Period). p.size))
      ∙ ap length (sizes-by-marks natural v us ms)
      ∙ sizes-many 0 (marks_taken (shares natural us ms))

  taken-long : Rising 0 (marks_taken (shares natural us ms)) → length (excitation_of (taken natural v us ms)) ≡ last_of 0 (marks_taken (shares natural us ms))
  taken-long r =
      let a = sizes-total v.header.order (taken natural v us ms) (taken-sized natural v us ms) in
      let b = ap total (sizes-by-marks natural v us ms) in
      let c = sizes-sum 0 (marks_taken (shares natural us ms)) r in
      omega arith

  pub taken-few : length ms < 2 → (length (taken natural v us ms) ≡ 0) × (length (excitation_of (taken natural v us ms)) ≡ 0)
  unfolding excitation_of flat
  taken-few h = let e = taken_none natural us ms v h in (ap length e, ap (λ (ps : List Period). length (excitation_of ps)) e)

  module _ (front : TakesFront natural us ms) where
    pub taken-count : length (taken natural v us ms) ≡ length (up_to (greatest_end us) ms)
    taken-count = taken-many ∙ ap length front

    pub taken-last : Rising 0 ms → length (excitation_of (taken natural v us ms)) ≡ last_of 0 (up_to (greatest_end us) ms)
    taken-last r =
        let f = up_to (greatest_end us) ms in
        taken-long (subst (Rising 0) (take-up_to (greatest_end us) ms ∙ sym front) (front-rises (length f) 0 ms r)) ∙ ap (last_of 0) front

  -- no more periods than there are marks
  pub taken-most : length (taken natural v us ms) ≤ length ms
  taken-most =
      by_order (length ms) 2
      (λ l. let e = (taken-few l).0 in omega arith)
      (λ l. let e = ap length (taken-from natural us ms v l) in let k = from-most natural v 0 0 us ms in omega arith)

  pub taken-row-values : length (rows_of (taken natural v us ms)) ≡ length (taken natural v us ms) * v.header.order
  unfolding sizes_of
  taken-row-values =
      rows-length v.header.order (taken natural v us ms) (taken-sized natural v us ms)
      ∙ ap (λ (n : ℕ). n * v.header.order) (length-map (taken natural v us ms) (λ (p : Period). p.size))

-- ---- the simple join: every mark is taken

module _ (v : Voice) (us : List Unit) (two : 2 ≤ length (natural_marks v 0 us)) where
  pub natural-count : length (taken true v (natural_units v 0 us) (natural_marks v 0 us)) ≡ length (natural_marks v 0 us)
  natural-count = taken-count true v (natural_units v 0 us) (natural_marks v 0 us) (own-taken v us two) ∙ ap length (natural-up_to v 0 us)
