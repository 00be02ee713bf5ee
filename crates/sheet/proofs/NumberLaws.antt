-- Numbers in groups, one group at a time.
use Rattle.std.specs.Prelude.{Err, Ok, Result}
use Rattle.std.proofs.Common.{◌⊎◌, inl, inr, ◌≡◌, ℕ, zero, suc, ◌+◌, ◌-◌, ◌*◌, ◌^◌, ◌<◌, ◌≤◌, Bool, true, false, not, ◌&&◌, eqb, ltb, List, [], ◌∷◌, length, get_or, drop, refl, ap, ◌∙◌, pow-suc, arith, drop_of_length-le, le-ltb, lt-ltb, eq-eqb, ne_eqb}
use native.Mathlib.Nat.{pow-le-pow_right}
use mathlib.Core.Bool.{and-false}
use Rattle.refusal.specs.declared.Refusal.{Refusal}
use Rattle.refusal.specs.declared.Refusal.TheVariants.{BadSheet}
use Rattle.sheet.specs.Sheet.{Got, fails, gets, ◌and_then◌, malformed_if, groups}
use Rattle.sheet.specs.Answers.{Said, refuses, reads, Agrees, NumberIs}
use Rattle.sheet.specs.declared.Read.{Read}
use Rattle.sheet.proofs.AnswerLaws.{from_place, refused, read, same-reading, stops, goes_on}

-- a step of the definition, with its test given
abbrev pub turn : Bool → ℕ → Bool → ℕ → List ℕ → Got ℕ
turn t n first b bs =
    elim t [
      | true ↦ malformed_if (not first && eqb b 0) (gets b bs)
      | false ↦ groups n false bs and_then (λ m r. gets (b - 128 + 128 * m) r)
    ]

nothing : (k : ℕ) (first : Bool) → groups k first [] ≡ fails BadSheet
unfolding groups
nothing zero first = refl
nothing (suc k) first = refl

one_more : (k : ℕ) (first : Bool) (b : ℕ) (bs : List ℕ) → (k ≡ 0 → ⊥) → groups k first (b ∷ bs) ≡ turn (ltb b 128) (k - 1) first b bs
unfolding groups
one_more zero first b bs n = absurd (n refl)
one_more (suc k) first b bs n = let e : suc k - 1 ≡ k = omega arith in rw e

-- the value of five groups at most
pub power_small : (k : ℕ) → k ≤ 4 → 128 ^ k ≤ 268435456
power_small k h = pow-le-pow_right (omega arith) h

pub power-more : (k b m : ℕ) → (k ≡ 0 → ⊥) → b < 256 → m < 128 ^ (k - 1) → b - 128 + 128 * m < 128 ^ k
power-more zero b m n l h = absurd (n refl)
power-more (suc k) b m n l h =
    let e : suc k - 1 ≡ k = omega arith in
    let g : m < 128 ^ k = rw e at h in
    rw pow-suc (omega arith)

pub power-one : (k b : ℕ) → (k ≡ 0 → ⊥) → b < 128 → b < 128 ^ k
power-one zero b n l = absurd (n refl)
power-one (suc k) b n l = rw pow-suc (omega (arith, pow-le-pow_right {n = 128} (omega arith) {i = 0} {j = k} (omega arith)))

-- what is answered of k groups at most, at a place
module _ (sheet : List ℕ) (at k : ℕ) (first : Bool) where
  abbrev pub Is : Result (Read ℕ) Refusal → Type 0
  Is r = NumberIs sheet (128 ^ k) r (groups k first (drop at sheet))

  -- the byte there
  abbrev b : ℕ
  b = get_or sheet at 0

  abbrev high : ℕ → List ℕ → Got ℕ
  high m r = gets (b - 128 + 128 * m) r

  malformed : groups k first (drop at sheet) ≡ fails BadSheet → Is (Err BadSheet)
  malformed e = refused e

  pub groups_none : (k ≡ 0) ⊎ ((k ≡ 0 → ⊥) × (length sheet ≤ at)) → Is (Err BadSheet)
  unfolding groups
  groups_none (inl e) = malformed (ap (λ (n : ℕ). groups n first (drop at sheet)) e)
  groups_none (inr h) = malformed (ap (groups k first) (drop_of_length-le sheet h.1) ∙ nothing k first)

  module _ (n : k ≡ 0 → ⊥) (h : at < length sheet) where
    by-test : (t : Bool) → ltb b 128 ≡ t → groups k first (drop at sheet) ≡ turn t (k - 1) first b (drop (at + 1) sheet)
    by-test t e = ap (groups k first) (from_place sheet at h) ∙ one_more k first b (drop (at + 1) sheet) n ∙ ap (λ (u : Bool). turn u (k - 1) first b (drop (at + 1) sheet)) e

    last : b < 128 → (t : Bool) → (not first && eqb b 0) ≡ t → groups k first (drop at sheet) ≡ malformed_if t (gets b (drop (at + 1) sheet))
    last l t e = by-test true (lt-ltb b 128 l) ∙ ap (λ (u : Bool). malformed_if u (gets b (drop (at + 1) sheet))) e

    group : b < 128 → (not first && eqb b 0) ≡ false → Is (Ok (record { value = b; next = at + 1 }))
    group l e = read (last l false e) (omega arith) (power-one k b n l)

    pub groups-first : first ≡ true → b < 128 → Is (Ok (record { value = b; next = at + 1 }))
    groups-first e l = group l (ap (λ (t : Bool). not t && eqb b 0) e)

    pub groups-last : (b ≡ 0 → ⊥) → b < 128 → Is (Ok (record { value = b; next = at + 1 }))
    groups-last z l = group l (ap (λ (t : Bool). not first && t) (ne_eqb b 0 z) ∙ and-false (not first))

    -- not the shortest form
    pub groups-zero : first ≡ false → b ≡ 0 → Is (Err BadSheet)
    groups-zero e z = malformed (last (omega arith) true (ap (λ (t : Bool). not t && eqb b 0) e ∙ eq-eqb b 0 z))

    -- more groups follow
    module _ (l : 128 ≤ b) where
      follows : groups k first (drop at sheet) ≡ (groups (k - 1) false (drop (at + 1) sheet) and_then high)
      follows = by-test false (le-ltb b 128 l)

      abbrev Said-next : Said ℕ → Type 0
      Said-next said = Agrees sheet (λ m. m) (λ m. m < 128 ^ (k - 1)) said (groups (k - 1) false (drop (at + 1) sheet))

      pub groups-cut : (c : Refusal) → Said-next (refuses c) → Is (Err c)
      groups-cut c i = same-reading follows (stops high i)

      pub groups-more : (m next : ℕ) → b < 256 → Said-next (reads m next) → Is (Ok (record { value = b - 128 + 128 * m; next = next }))
      groups-more m next s i =
          let w = i.within in
          same-reading follows (goes_on high i (read refl w.0 (power-more k b m n s w.1)))
