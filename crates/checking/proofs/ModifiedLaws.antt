-- The target ends of the modified join, then its pitch marks.
use Rattle.std.specs.Prelude.{Err, Ok, Option, Result}
use Rattle.marks.specs.declared.Counts.{Counts}
use mathlib.Core.Path.{◌≡◌, refl, sym, ap, ◌∙◌}
use mathlib.Core.List.{List}
use Prim.Native.Nat.{ℕ}
use lib.ListN.{length}
use Rattle.base.specs.Lists.{or_next}
use Rattle.refusal.specs.declared.Refusal.{Refusal}
use Rattle.voice.specs.Voice.{Voice}
use Rattle.sheet.specs.declared.Target.{Target}
use Rattle.units.specs.declared.Unit.{Unit}
use Rattle.units.specs.Units.{checked_ends}
use Rattle.units.proofs.EndLaws.{checked-refused, checked-fit}
use Rattle.marks.specs.PitchMarks.{pitch_marks}
use Rattle.marks.specs.Checking.{last_of, up_to, checked_marks, Bounded}
use Rattle.marks.proofs.CheckLaws.{checked_refused, checked-made}
use Rattle.call.specs.Call.{modified_plan}
use Rattle.checking.specs.Joining.{Joins}

module _ (v : Voice) (us : List Unit) (ts : List Target) where
  pub ends-refused : (r : Refusal) → checked_ends us ≡ Err r → Joins (modified_plan v us ts) (Err r)
  unfolding modified_plan
  ends-refused r e = let p = checked-refused us r e in rw p

  module _ (rate : ℕ) (r : v.header.rate ≡ rate) (end : ℕ) (e : checked_ends us ≡ Ok end) (a : Result Counts Refusal) (is : a ≡ checked_marks end (pitch_marks rate ts)) where
    made-is : checked_marks end (pitch_marks v.header.rate ts) ≡ a
    made-is = ap (λ (n : ℕ). checked_marks end (pitch_marks n ts)) r ∙ sym is

    pub marks-refused : (c : Refusal) → a ≡ Err c → Joins (modified_plan v us ts) (Err c)
    unfolding modified_plan
    marks-refused c q = let f = (checked-fit us end e).0 in rw f (checked_refused end _ c (made-is ∙ q))

    pub marks-made : (c : Counts) → a ≡ Ok c → Bounded a → Joins (modified_plan v us ts) (Ok c)
    unfolding modified_plan
    marks-made c q b =
        let f = checked-fit us end e in
        let m = checked-made end _ c (made-is ∙ q) in
        let g : Bounded (Ok c) = rw q at b in
        let ms = (pitch_marks v.header.rate ts).marks in (
          ap (λ (o : Option Refusal). or_next o (pitch_marks v.header.rate ts).refusal) f.0 ∙ m.0,
          record {
            marks = sym m.1;
            taken = sym m.2 ∙ ap (λ (n : ℕ). length (up_to n ms)) (sym f.1);
            last = sym m.3 ∙ ap (λ (n : ℕ). last_of 0 (up_to n ms)) (sym f.1);
            few = g.0;
            fewer = g.1;
            low = g.2;
          },
        )

    pub marks-joined : Bounded a → Joins (modified_plan v us ts) a
    marks-joined b = by a refl
      where
        by : (r : Result Counts Refusal) → a ≡ r → Joins (modified_plan v us ts) r
        by (Err c) q = marks-refused c q
        by (Ok c) q = marks-made c q b
