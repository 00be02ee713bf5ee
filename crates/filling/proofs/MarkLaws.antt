-- The loop over units that stores the marks of the simple join.
use mathlib.Core.Path.{◌≡◌, refl, sym, ap, subst, ◌∙◌}
use mathlib.Core.Bool.{Bool, false}
use mathlib.Core.List.{List, [], ◌∷◌}
use Prim.Native.Nat.{ℕ, ◌+◌, ◌-◌, ◌*◌, ◌≤◌}
use native.Mathlib.Omega.{arith}
use borrow.Author.Tests.{ltb-false}
use lib.Dec.{ltb}
use lib.ListN.{length, take}
use lib.Seq.{sets, take_all, take-nil}
use Rattle.base.specs.Buffers.{over, flat}
use Rattle.base.specs.Bytes.{bytes_of}
use Rattle.base.proofs.ListLaws.{next-none}
use Rattle.base.proofs.BufferLaws.{over-nil}
use Rattle.voice.specs.declared.VoiceHeader.{VoiceHeader}
use Rattle.voice.specs.declared.DiphoneVoice.{DiphoneVoice}
use Rattle.voice.specs.Voice.{Voice, voice_of}
use Rattle.voice.specs.Opening.{IsOpen}
use Rattle.voice.proofs.TableLaws.{header_is}
use Rattle.sheet.specs.Sheet.{sheet_of}
use Rattle.units.specs.declared.Unit.{Unit}
use Rattle.units.specs.declared.Selection.{Selection}
use Rattle.units.specs.declared.UnitWalk.{UnitWalk}
use Rattle.units.specs.Units.{Inside, end_refusal}
use Rattle.units.specs.Walking.{many_left, units_left, StartsUnits}
use Rattle.units.proofs.StepLaws.{left-none}
use Rattle.marks.specs.PitchMarks.{most_marks, pitch_marks}
use Rattle.marks.specs.NaturalMarks.{period_count, place_after_unit}
use Rattle.marks.specs.Checking.{CanStore, CanStoreUnit}
use Rattle.marks.proofs.JoinLaws.{of_unit, UnitsStoring, units-first, units-storing, units-stored, units-low, units-room}
use Rattle.call.specs.declared.JoinType.TheVariants.{None, Simple, ModifiedLpc}
use Rattle.call.specs.Call.{simple_plan, modified_plan, plan_by}
use Rattle.filling.specs.Filling.{selected, planned, CanStoreMarks, CanMark}

-- no unit is left
pub units-done : (v : Voice) (fold : Bool) (sheet : List ℕ) (count : ℕ) (w : UnitWalk) (t : Bool) → t ≡ ltb 0 (many_left w) → t ≡ false → units_left v fold sheet count w ≡ []
units-done v fold sheet count w t e f = let z : many_left w ≤ 0 = ltb-false 0 (many_left w) (sym e ∙ f) in left-none v fold sheet count w (omega arith)

-- ---- the modified join

module _ (file index sheet : List ℕ) (by : Selection) (o : IsOpen file by.voice) where
  pub marks-are : (planned ModifiedLpc file sheet by).marks ≡ (pitch_marks by.voice.header.rate (sheet_of sheet).targets).marks
  unfolding plan_by modified_plan
  marks-are = let e = header_is file by.voice o.places in ap (λ (h : VoiceHeader). (pitch_marks h.rate (sheet_of sheet).targets).marks) e

  pub can_store : (count n : ℕ) → CanStoreMarks ModifiedLpc file index sheet by count n → CanStore sheet by.places by.voice.header.rate count n
  unfolding plan_by modified_plan
  can_store count n h =
      let e = header_is file by.voice o.places in
      record {
        places = h.selects.places;
        spoken = ap (λ (x : VoiceHeader). (pitch_marks x.rate (sheet_of sheet).targets).refusal) (sym e) ∙ (next-none (end_refusal (selected file sheet by)) _ h.spoken).1;
        room = h.room;
      }

-- ---- no join

pub none-marked : (file sheet : List ℕ) (by : Selection) (count : ℕ) (d : List ℕ) → d ≡ over (flat (bytes_of 4) (take count (planned None file sheet by).marks)) d
unfolding plan_by flat
none-marked file sheet by count d = sym (ap (λ (ms : List ℕ). over (flat (bytes_of 4) ms) d) (take-nil count) ∙ over-nil d)

-- ---- the simple join

-- all marks are stored
module _ (file index sheet : List ℕ) (by : Selection) (count : ℕ) where
  pub can-all : (n : ℕ) → CanStoreMarks Simple file index sheet by count n → CanMark Simple file index sheet by n
  can-all n h = record { selects = h.selects; two = h.two; spoken = h.spoken; room = omega (arith, h.whole refl, h.room) }

  pub all_are : (n : ℕ) → CanStoreMarks Simple file index sheet by count n → (planned Simple file sheet by).marks ≡ take count (planned Simple file sheet by).marks
  all_are n h = sym (take_all count (planned Simple file sheet by).marks (h.whole refl))

-- before the first unit
pub storing-first : (file index sheet : List ℕ) (by : Selection) (d : List ℕ) (w : UnitWalk) → CanMark Simple file index sheet by (length d) → StartsUnits sheet by.places.segments.count w
    → UnitsStoring (voice_of file) 0 most_marks (units_left (voice_of file) by.fold sheet by.places.segments.count w) d 0 (over (flat (bytes_of 4) (planned Simple file sheet by).marks) d)
unfolding plan_by simple_plan
storing-first file index sheet by d w h s =
    let v = voice_of file in
    let us = selected file sheet by in
    subst (λ (l : List Unit). UnitsStoring v 0 most_marks l d 0 (over (flat (bytes_of 4) (planned Simple file sheet by).marks) d)) (s.units v by.fold) (units-first v us d h.spoken h.room)

-- one unit, from element i on
module _ (file : List ℕ) (b : DiphoneVoice) (o : IsOpen file b) (place i : ℕ) (us : List Unit) (d all : List ℕ) (k : UnitsStoring (voice_of file) place (most_marks - i) us d i all)
    (u : Unit) (rest : List Unit) (e : us ≡ u ∷ rest) (f : Inside b.header.frames u) where
  abbrev v : Voice
  v = voice_of file

  units : UnitsStoring v place (most_marks - i) (u ∷ rest) d i all
  units = subst (λ (l : List Unit). UnitsStoring v place (most_marks - i) l d i all) e k

  pub storing-unit : CanStoreUnit file b place u.first_period u.last_period i (length d)
  storing-unit = record { opens = o; within = f.within; low = units-low v place (most_marks - i) u rest d i all units; room = units-room v place (most_marks - i) u rest d i all units }

  pub storing-next : (place₁ : ℕ) (d₁ : List ℕ) → place₁ ≡ place_after_unit v place u → d₁ ≡ sets d (4 * i) (flat (bytes_of 4) (of_unit v place u)) → UnitsStoring v place₁ (most_marks - (i + period_count u)) rest d₁ (i + period_count u) all
  storing-next place₁ d₁ p q =
      let l : most_marks - i - period_count u ≡ most_marks - (i + period_count u) = omega arith in
      subst (λ (n : ℕ). UnitsStoring v n (most_marks - (i + period_count u)) rest d₁ (i + period_count u) all) (sym p)
      (subst (λ (n : ℕ). UnitsStoring v (place_after_unit v place u) n rest d₁ (i + period_count u) all) l (units-storing v place (most_marks - i) u rest d i all units d₁ q))

-- after the last one
pub storing-done : (v : Voice) (place left : ℕ) (us : List Unit) (d : List ℕ) (i : ℕ) (all : List ℕ) → UnitsStoring v place left us d i all → us ≡ [] → d ≡ all
storing-done v place left us d i all k e = units-stored v place left d i all (subst (λ (l : List Unit). UnitsStoring v place left l d i all) e k)
