-- The pairs and halves of a sheet's units: pairs from 1 on and below the number of segments, halves 1 and 2, each unit's after the one before.
use mathlib.Core.Path.{subst}
use mathlib.Core.Bool.{Bool}
use mathlib.Core.List.{List, [], ◌∷◌}
use Prim.Native.Nat.{ℕ, suc, ◌+◌, ◌*◌, ◌≤◌, ◌<◌}
use native.Mathlib.Omega.{arith}
use lib.ListN.{length}
use Rattle.base.proofs.BoundLaws as bounds
use Rattle.base.proofs.BoundLaws.{Each}
use Rattle.voice.specs.Voice.{Voice}
use Rattle.sheet.specs.Sheet.{SegmentRead}
use Rattle.units.specs.declared.Unit.{Unit}
use Rattle.units.specs.Selecting.{folded}
use Rattle.units.specs.Units.{units_of_pair, units_from, units_all, units_of}
use Rattle.units.proofs.UnitLaws.{length-folded}
use Rattle.marks.specs.NaturalMarks.{place_after_unit, natural_units}

pub record NumberOf (n : ℕ) (u : Unit) : Type 0 where
  pub pair : 1 ≤ u.pair
  pub low : u.pair < n
  pub half : 1 ≤ u.half
  pub second : u.half ≤ 2

-- pairs from 1 on and below n, halves 1 and 2; of all halves, each is after the one before, and the first after p
pub data Numbered (n : ℕ) : ℕ → List Unit → Type 0 where
  nil : {p : ℕ} → Numbered n p []
  cons : {p : ℕ} {u : Unit} {us : List Unit} → NumberOf n u → p < 2 * u.pair + u.half → Numbered n (2 * u.pair + u.half) us → Numbered n p (u ∷ us)

-- numbers of a unit that fit four bytes
abbrev pub LowNumbers : Unit → Type 0
LowNumbers u = (u.pair < 4096) × (u.half ≤ 2)

pub low-numbers : (n p : ℕ) (us : List Unit) → n ≤ 4096 → Numbered n p us → Each LowNumbers us
low-numbers n p [] h nil = bounds.nil
low-numbers n p (u ∷ us) h (cons a b k) = let l = a.low in bounds.cons {x = u} (omega arith, a.second) (low-numbers n (2 * u.pair + u.half) us h k)

from-numbered : (v : Voice) (ss : List SegmentRead) (n p pair : ℕ) (left : SegmentRead) (rs : List SegmentRead) → 1 ≤ pair → p < 2 * pair + 1 → pair + length rs ≤ n
    → Numbered n p (units_from v ss pair left rs)
unfolding units_from units_of_pair
from-numbered v ss n p pair left [] one h l = nil
from-numbered v ss n p pair left (right ∷ rs) one h l =
    let low : pair < n = omega arith in
    let first : 1 ≤ 1 = omega arith in
    let second : 1 ≤ 2 = omega arith in
    let both : 2 ≤ 2 = omega arith in
    let next : 2 * pair + 1 < 2 * pair + 2 = omega arith in
    cons (record { pair = one; low = low; half = first; second = second }) h
    (cons (record { pair = one; low = low; half = second; second = both }) next
    (from-numbered v ss n (2 * pair + 2) (suc pair) right rs (omega arith) (omega arith) (omega arith)))

all-numbered : (v : Voice) (ss rs : List SegmentRead) → Numbered (length rs) 0 (units_all v ss rs)
unfolding units_all
all-numbered v ss [] = nil
all-numbered v ss (s ∷ rs) = from-numbered v ss (suc (length rs)) 0 1 s rs (omega arith) (omega arith) (omega arith)

pub units-numbered : (v : Voice) (fold : Bool) (ss : List SegmentRead) → Numbered (length ss) 0 (units_of v (folded fold ss))
units-numbered v fold ss = subst (λ (n : ℕ). Numbered n 0 (units_of v (folded fold ss))) (length-folded fold ss) (all-numbered v (folded fold ss) (folded fold ss))

-- natural ends leave them
pub natural-numbered : (v : Voice) (n p place : ℕ) (us : List Unit) → Numbered n p us → Numbered n p (natural_units v place us)
unfolding natural_units
natural-numbered v n p place [] nil = nil
natural-numbered v n p place (u ∷ us) (cons a b k) =
    cons (record { pair = a.pair; low = a.low; half = a.half; second = a.second }) b (natural-numbered v n (2 * u.pair + u.half) (place_after_unit v place u) us k)
