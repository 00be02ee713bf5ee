-- The places of a sheet's parts.
use Rattle.std.specs.Prelude.{Err}
use Rattle.std.proofs.Common.{◌≡◌, ℕ, ◌-◌, ◌<◌, ◌≤◌, Bool, true, false, ltb, List, length, drop, sym, refl, ap, ◌∙◌, arith, length-drop, le-ltb, lt-ltb}
use Rattle.refusal.specs.declared.Refusal.{Refusal}
use Rattle.refusal.specs.declared.Refusal.TheVariants.{BadSheet}
use Rattle.sheet.specs.Sheet.{Got, fails, gets, ◌and_then◌, malformed_if, count, counted, segment, target, repeated, sheet_from}
use Rattle.sheet.specs.Answers.{Said, refuses, reads, Agrees, ItemsIs, standing}
use Rattle.sheet.specs.Places.{mapped, items_in, places_in, sheet_places}
use Rattle.sheet.specs.declared.Items.{Items}
use Rattle.sheet.proofs.SheetLaws.{refused-got}
use Rattle.sheet.proofs.AnswerLaws.{refused, same-reading, then-stops, then-on}

-- ---- a count, and so many items: one law for segments and targets, over what reads one of them

-- the items are ahead of the place where their bytes begin
stand-there : {A : Type 0} (sheet : List ℕ) (n from : ℕ) → from ≤ length sheet → (g : Got (List A))
    → mapped (items_in sheet) (g and_then λ xs r. gets (record { count = n; from = drop from sheet; items = xs }) r) ≡ standing n from g
unfolding ◌and_then◌
stand-there sheet n from h (fails c) = refl
stand-there sheet n from h (gets xs r) =
    let e : length sheet - length (drop from sheet) ≡ from = rw length-drop (omega arith) in
    ap (λ (k : ℕ). gets (record { count = n; at = k }) r) e

module _ {A : Type 0} (one : ℕ → List ℕ → Got A) (sheet : List ℕ) where
  module _ {P : ℕ → Type 0} (bs : List ℕ) where
    pub uncounted : {c : Refusal} → Agrees sheet (λ n. n) P (refuses c) (count bs) → ItemsIs sheet (Err c) (mapped (items_in sheet) (counted one bs))
    uncounted i = refused (ap (mapped (items_in sheet)) (then-stops _ i))

    pub by_count : {n from : ℕ} {said : Said Items} → Agrees sheet (λ n. n) P (reads n from) (count bs)
        → Agrees sheet (λ x. x) (λ x. Unit) said (standing n from (repeated (one n) n (drop from sheet)))
        → Agrees sheet (λ x. x) (λ x. Unit) said (mapped (items_in sheet) (counted one bs))
    by_count {n} {from} i j =
        same-reading (ap (mapped (items_in sheet)) (then-on _ i) ∙ stand-there sheet n from i.within.0 (repeated (one n) n (drop from sheet))) j

-- ---- what a reading was, by what it was mapped to

module _ {A B : Type 0} (f : A → B) where
  was-refused : (g : Got A) (c : Refusal) → mapped f g ≡ fails c → g ≡ fails c
  was-refused (fails d) c e = let z : d ≡ c = cc in ap fails z
  was-refused (gets x r) c e = absurd (refused-got c (f x) r (sym e))

  record Was (g : Got A) (y : B) (r : List ℕ) : Type 0 where
    value : A
    is : g ≡ gets value r
    means : f value ≡ y

  was_read : (g : Got A) (y : B) (r : List ℕ) → mapped f g ≡ gets y r → Was g y r
  was_read (fails c) y r e = absurd (refused-got c y r e)
  was_read (gets x q) y r e = let z : q ≡ r = cc in record { value = x; is = ap (gets x) z; means = cc }

on : {A B : Type 0} {g : Got A} {x : A} {r : List ℕ} (f : A → List ℕ → Got B) → g ≡ gets x r → (g and_then f) ≡ f x r
unfolding ◌and_then◌
on f e = ap (λ g. g and_then f) e

off : {A B : Type 0} {g : Got A} {c : Refusal} (f : A → List ℕ → Got B) → g ≡ fails c → (g and_then f) ≡ fails c
unfolding ◌and_then◌
off f e = ap (λ g. g and_then f) e

-- ---- the two parts of a sheet

module _ (sheet : List ℕ) where
  abbrev segments-there : Got Items
  segments-there = mapped (items_in sheet) (counted segment sheet)

  pub segments-refused : {c : Refusal} → Agrees sheet (λ x. x) (λ x. Unit) (refuses c) segments-there → sheet_places sheet ≡ fails c
  unfolding sheet_places sheet_from
  segments-refused {c} i =
      let g = was-refused (items_in sheet) (counted segment sheet) c (sym i.same) in
      ap (mapped (places_in sheet)) (off _ g)

  module _ {segments : Items} {next : ℕ} (i : Agrees sheet (λ x. x) (λ x. Unit) (reads segments next) segments-there) where
    first : Was (items_in sheet) (counted segment sheet) segments (drop next sheet)
    first = was_read (items_in sheet) (counted segment sheet) segments (drop next sheet) (sym i.same)

    abbrev targets-there : Got Items
    targets-there = mapped (items_in sheet) (counted (λ n. target) (drop next sheet))

    pub targets-refused : {c : Refusal} → Agrees sheet (λ x. x) (λ x. Unit) (refuses c) targets-there → sheet_places sheet ≡ fails c
    unfolding sheet_places sheet_from
    targets-refused {c} j =
        let g = was-refused (items_in sheet) (counted (λ n. target) (drop next sheet)) c (sym j.same) in
        ap (mapped (places_in sheet)) (on _ first.is ∙ off _ g)

    module _ {targets : Items} {end : ℕ} (j : Agrees sheet (λ x. x) (λ x. Unit) (reads targets end) targets-there) where
      second : Was (items_in sheet) (counted (λ n. target) (drop next sheet)) targets (drop end sheet)
      second = was_read (items_in sheet) (counted (λ n. target) (drop next sheet)) targets (drop end sheet) (sym j.same)

      by-rest : (t : Bool) → ltb 0 (length sheet - end) ≡ t
          → sheet_places sheet ≡ mapped (places_in sheet) (malformed_if t (gets (record { segments = first.value; targets = second.value }) (drop end sheet)))
      unfolding sheet_places sheet_from
      by-rest t l =
          let k : ltb 0 (length (drop end sheet)) ≡ t = rw length-drop l in
          ap (mapped (places_in sheet))
          (on _ first.is ∙ on _ second.is
          ∙ ap (λ (u : Bool). malformed_if u (gets (record { segments = first.value; targets = second.value }) (drop end sheet))) k)

      pub bytes-over : end < length sheet → sheet_places sheet ≡ fails BadSheet
      bytes-over l = by-rest true (lt-ltb 0 (length sheet - end) (omega arith))

      pub both_read : length sheet ≤ end → sheet_places sheet ≡ gets (record { segments = segments; targets = targets }) (drop end sheet)
      both_read l =
          by-rest false (le-ltb 0 (length sheet - end) (omega arith))
          ∙ ap (λ (s : Items). gets (record { segments = s; targets = items_in sheet second.value }) (drop end sheet)) first.means
          ∙ ap (λ (t : Items). gets (record { segments = segments; targets = t }) (drop end sheet)) second.means
