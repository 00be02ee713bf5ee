-- The marks up to a place.
use Rattle.std.proofs.Common.{◌≡◌, ℕ, zero, suc, ◌+◌, ◌<◌, ◌≤◌, max, Bool, true, false, leb, List, [], ◌∷◌, sym, refl, ap, ◌∙◌, arith, le-leb}
use borrow.Author.Tests.{lt-leb}
use Rattle.base.proofs.BoundLaws.{Each, nil, cons, each_append}
use Rattle.base.proofs.CaseLaws.{by_order}
use Rattle.voice.specs.Voice.{Voice}
use Rattle.voice.specs.Periods.{samples_of, samples_from}
use Rattle.units.specs.declared.Unit.{Unit}
use Rattle.units.specs.Units.{greatest_end}
use Rattle.marks.specs.NaturalMarks.{period_count, marks_of_periods, place_after_unit, natural_marks, natural_units}
use Rattle.marks.specs.Checking.{up_to}

-- by whether the first is not above it
pub up_to-by : (end m : ℕ) (ms : List ℕ) (t : Bool) → leb m end ≡ t → up_to end (m ∷ ms) ≡ elim t [ false ↦ [] | true ↦ m ∷ up_to end ms ]
unfolding up_to
up_to-by end m ms t e = ap (λ (u : Bool). elim u [ false ↦ [] | true ↦ m ∷ up_to end ms ]) e

-- marks that are all not above it
pub up_to-all : (end : ℕ) (ms : List ℕ) → Each (λ m. m ≤ end) ms → up_to end ms ≡ ms
unfolding up_to
up_to-all end [] nil = refl
up_to-all end (m ∷ ms) (cons l e) = up_to-by end m ms true (le-leb m end l) ∙ ap (λ (xs : List ℕ). m ∷ xs) (up_to-all end ms e)

-- of two places the greater decides, where the first mark is above the other
pub up_to-max : (a b m : ℕ) (ms : List ℕ) → a < m → up_to (max a b) (m ∷ ms) ≡ up_to b (m ∷ ms)
up_to-max a b m ms h =
    by_order b m
    (λ l. up_to-by (max a b) m ms false (lt-leb m (max a b) (omega arith)) ∙ sym (up_to-by b m ms false (lt-leb m b l)))
    (λ l. let e : max a b ≡ b = omega arith in rw e)

-- ---- the simple join: every mark is taken

module _ (v : Voice) where
  periods-each : (place p n end : ℕ) → place + samples_from v p n ≤ end → Each (λ m. m ≤ end) (marks_of_periods v place p n)
  unfolding marks_of_periods samples_from
  periods-each place p zero end h = nil
  periods-each place p (suc n) end h =
      let l : place + samples_of v p ≤ end = omega arith in
      cons l (periods-each (place + samples_of v p) (suc p) n end (omega arith))

  natural-each : (place : ℕ) (us : List Unit) (end : ℕ) → greatest_end (natural_units v place us) ≤ end → Each (λ m. m ≤ end) (natural_marks v place us)
  unfolding natural_marks natural_units greatest_end
  natural-each place [] end h = nil
  natural-each place (u ∷ us) end h =
      each_append (λ m. m ≤ end) (marks_of_periods v place u.first_period (period_count u)) _
      (periods-each place u.first_period (period_count u) end (omega arith))
      (natural-each (place_after_unit v place u) us end (omega arith))

  pub natural-up_to : (place : ℕ) (us : List Unit) → up_to (greatest_end (natural_units v place us)) (natural_marks v place us) ≡ natural_marks v place us
  natural-up_to place us = up_to-all _ (natural_marks v place us) (natural-each place us _ (omega arith))
