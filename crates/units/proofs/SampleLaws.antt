-- The places of every 16th segment.
use mathlib.Core.Path.{◌≡◌, refl, sym, ap, subst, ◌∙◌}
use mathlib.Core.List.{List}
use mathlib.Core.Logic.{◌⊎◌, inl, inr, ⊎_elim}
use Prim.Native.Nat.{ℕ, ◌*◌, ◌/◌, ◌%◌, ◌<◌}
use native.Mathlib.Omega.{arith}
use lib.ListN.{length, get_or, set}
use lib.Seq.{set_out, get_or-set_same, get_or-set_other}
use Rattle.base.proofs.CaseLaws.{by_order}
use Rattle.units.specs.Walking.{Starts, Sampled, Kept}

-- nothing is stored, or a 16th is
pub kept-none : (number at : ℕ) (old : List ℕ) → Kept number at old old
kept-none number at old = record { each = λ j. inl refl }

pub kept-stored : (number at : ℕ) (old : List ℕ) → number % 16 ≡ 0 → Kept number at old (set old (number / 16) at)
kept-stored number at old e =
    by_order (number / 16) (length old)
    (λ h. record { each = each h })
    (λ h. subst (Kept number at old) (sym (set_out old (number / 16) at h)) (kept-none number at old))
  where
    each : number / 16 < length old → (j : ℕ) → (get_or (set old (number / 16) at) j 0 ≡ get_or old j 0) ⊎ ((16 * j ≡ number) × (get_or (set old (number / 16) at) j 0 ≡ at))
    each h j =
        by_order j (number / 16)
        (λ l. inl (get_or-set_other old (number / 16) j at 0 (λ q. omega arith)))
        (λ l. by_order (number / 16) j
        (λ m. inl (get_or-set_other old (number / 16) j at 0 (λ q. omega arith)))
        (λ m.
        let i : j ≡ number / 16 = omega arith in
        inr (omega arith, ap (λ (k : ℕ). get_or (set old (number / 16) at) k 0) i ∙ get_or-set_same old (number / 16) at 0 h)))

module _ (sheet : List ℕ) (count : ℕ) where
  -- none is kept
  pub sampled-none : (sampled : List ℕ) → ((j : ℕ) → get_or sampled j 0 ≡ 0) → Sampled sheet count sampled
  sampled-none sampled e = record { starts = λ j h. absurd (omega (arith, e j)) }

  -- one more
  pub sampled-more : (number at : ℕ) (old new : List ℕ) → Starts sheet count number at → Sampled sheet count old → Kept number at old new → Sampled sheet count new
  sampled-more number at old new s k e =
      record {
        starts = λ j h.
            ⊎_elim
            (λ q. subst (Starts sheet count (16 * j)) (sym q) (k.starts j (rw q at h)))
            (λ q. subst (Starts sheet count (16 * j)) (sym q.1) (subst (λ (n : ℕ). Starts sheet count n at) (sym q.0) s))
            (e.each j);
      }
