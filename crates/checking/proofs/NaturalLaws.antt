-- The marks of the simple join, unit by unit.
use Rattle.std.specs.Prelude.{Err, Ok}
use mathlib.Core.Path.{◌≡◌, refl, sym, ap, subst, ◌∙◌}
use mathlib.Core.List.{List, [], ◌∷◌}
use Prim.Native.Nat.{ℕ, ◌+◌, ◌-◌, ◌≤◌}
use native.Mathlib.Omega.{arith}
use lib.ListN.{length}
use Rattle.refusal.specs.declared.Refusal.{Refusal}
use Rattle.voice.specs.Voice.{Voice}
use Rattle.units.specs.declared.Unit.{Unit}
use Rattle.units.specs.Units.{limit}
use Rattle.marks.specs.PitchMarks.{most_marks}
use Rattle.marks.specs.NaturalMarks.{period_count, natural_marks, mark_refusal}
use Rattle.marks.specs.Checking.{last_of, unit_marks}
use Rattle.marks.proofs.JoinLaws.{natural-refused, natural-passed, natural-none, natural-length}
use Rattle.marks.proofs.RiseLaws.{natural-last}
use Rattle.marks.proofs.UpToLaws.{natural-up_to}
use Rattle.call.specs.Call.{simple_plan}
use Rattle.checking.specs.Joining.{Joins}

-- ---- one turn

-- the marks of all units are decided by those of `us`, the first of which begins at a place, with `left` marks allowed
pub record Going (v : Voice) (all us : List Unit) (place left : ℕ) : Type 0 where
  pub refusal : mark_refusal most_marks (natural_marks v 0 all) ≡ mark_refusal left (natural_marks v place us)
  pub counted : length (natural_marks v 0 all) + left ≡ most_marks + length (natural_marks v place us)
  pub last : last_of 0 (natural_marks v 0 all) ≡ last_of place (natural_marks v place us)
  pub low : place ≤ limit
  pub few : left ≤ most_marks

same-going : (v : Voice) (all us ws : List Unit) (place left : ℕ) → us ≡ ws → Going v all us place left → Going v all ws place left
same-going v all us ws place left e g = subst (λ (us : List Unit). Going v all us place left) e g

pub going-first : (v : Voice) (all us : List Unit) → all ≡ us → Going v all us 0 most_marks
going-first v all us e = same-going v all all us 0 most_marks e (record { refusal = refl; counted = omega arith; last = refl; low = omega arith; few = omega arith })

-- the first of the units is u
module _ (v : Voice) (all : List Unit) (place left : ℕ) (u : Unit) (us ws : List Unit) (e : us ≡ u ∷ ws) (here : Going v all us place left) where
  going : Going v all (u ∷ ws) place left
  going = same-going v all us (u ∷ ws) place left e here

  pub going-refused : (r : Refusal) → unit_marks v place u.first_period (period_count u) left ≡ Err r → Joins (simple_plan v all) (Err r)
  unfolding simple_plan
  going-refused r e = going.refusal ∙ natural-refused v place left u ws r e

  pub going_on : (place₁ left₁ : ℕ) → unit_marks v place u.first_period (period_count u) left ≡ Ok (place₁, left₁) → place₁ ≤ limit → Going v all ws place₁ left₁
  going_on place₁ left₁ e l =
      let p = natural-passed v place left u ws place₁ left₁ e in
      let g = going in
      let n = natural-length v place u ws in
      let m = ap (λ (k : ℕ). length (natural_marks v k ws)) p.next in
      record {
        refusal = g.refusal ∙ p.rest;
        counted = omega (arith, p.counted, g.counted);
        last = g.last ∙ natural-last v place u ws ∙ sym (ap (λ (k : ℕ). last_of k (natural_marks v k ws)) p.next);
        low = l;
        few = omega (arith, p.counted, g.few);
      }

-- no unit is left; every mark is taken
pub going_done : (v : Voice) (all us : List Unit) (place left : ℕ) → us ≡ [] → Going v all us place left
    → Joins (simple_plan v all) (Ok (record { marks = most_marks - left; taken = most_marks - left; last = place }))
unfolding simple_plan natural_marks last_of
going_done v all us place left e here =
    let g = same-going v all us [] place left e here in
    let n : most_marks - left ≡ length (natural_marks v 0 all) = omega (arith, g.counted) in
    let f = sym (natural-up_to v 0 all) in (
      g.refusal ∙ natural-none v place left,
      record { marks = n; taken = n ∙ ap length f; last = sym g.last ∙ ap (last_of 0) f; few = omega arith; fewer = omega arith; low = g.low },
    )
