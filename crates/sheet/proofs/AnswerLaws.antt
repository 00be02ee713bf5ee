-- What is said, made to agree with a reading, and passed on from one reading to the next.
use Rattle.std.specs.Prelude.{Result, IsErrAnd}
use Rattle.std.proofs.Common.{◌∙◌, ◌≡◌, ℕ, ◌+◌, ◌<◌, ◌≤◌, Bool, true, false, List, ◌∷◌, length, get_or, drop, sym, ap, subst, add-one, drop-cons}
use Rattle.std.proofs.lemmas.Result.{err_from_is_err_and}
use Rattle.refusal.specs.declared.Refusal.{Refusal}
use Rattle.refusal.specs.declared.Refusal.TheVariants.{BadSheet}
use Rattle.sheet.specs.Sheet.{Got, fails, gets, ◌and_then◌, malformed_if}
use Rattle.sheet.specs.Answers.{Said, refuses, reads, Agrees, says}
use Rattle.sheet.specs.declared.Read.{Read}

-- the bytes from a place on
pub from_place : (s : List ℕ) (at : ℕ) → at < length s → drop at s ≡ get_or s at 0 ∷ drop (at + 1) s
from_place s at h = rw (add-one at) (drop-cons s at 0 h)

-- and with the byte there given
pub from_byte : (s : List ℕ) (at b : ℕ) → (at < length s) × ((d : ℕ) → b ≡ get_or s at d) → drop at s ≡ b ∷ drop (at + 1) s
from_byte s at b h = from_place s at h.0 ∙ ap (λ (k : ℕ). k ∷ drop (at + 1) s) (sym (h.1 0))

module _ {A B : Type 0} {sheet : List ℕ} {meaning : A → B} {P : A → Type 0} where
  pub refused : {r : Refusal} {g : Got B} → g ≡ fails r → Agrees sheet meaning P (refuses r) g
  refused e = record { same = sym e; within = tt }

  pub read : {a : A} {next : ℕ} {g : Got B} → g ≡ gets (meaning a) (drop next sheet) → next ≤ length sheet → P a → Agrees sheet meaning P (reads a next) g
  read e h p = record { same = sym e; within = (h, p) }

  -- another reading that is the same
  pub same-reading : {says : Said A} {g h : Got B} → g ≡ h → Agrees sheet meaning P says h → Agrees sheet meaning P says g
  same-reading {says} e i = subst (Agrees sheet meaning P says) (sym e) i

  -- what a `?` answers
  pub exit : {r : Refusal} {g : Got B} (answer : Result (Read A) Refusal) → IsErrAnd answer (λ e. e ≡ r) → Agrees sheet meaning P (refuses r) g
      → Agrees sheet meaning P (says answer) g
  exit answer h i = let p = err_from_is_err_and answer h in rw (p.1, p.2) i

  -- 8 where a test passes
  pub test-passes : {t : Bool} (g : Got B) → t ≡ true → Agrees sheet meaning P (refuses BadSheet) (malformed_if t g)
  test-passes g e = refused (ap (λ (u : Bool). malformed_if u g) e)

  pub test-fails : {t : Bool} {g : Got B} {says : Said A} → t ≡ false → Agrees sheet meaning P says g → Agrees sheet meaning P says (malformed_if t g)
  test-fails {g = g} e i = same-reading (ap (λ (u : Bool). malformed_if u g) e) i

-- after an answer the reading goes on, or stops where it is refused
module _ {A B D : Type 0} {sheet : List ℕ} {meaning : A → B} {P : A → Type 0} {g : Got B} (f : B → List ℕ → Got D) where
  pub then-stops : {r : Refusal} → Agrees sheet meaning P (refuses r) g → (g and_then f) ≡ fails r
  unfolding ◌and_then◌
  then-stops i = ap (λ (x : Got B). x and_then f) (sym i.same)

  pub then-on : {a : A} {next : ℕ} → Agrees sheet meaning P (reads a next) g → (g and_then f) ≡ f (meaning a) (drop next sheet)
  unfolding ◌and_then◌
  then-on i = ap (λ (x : Got B). x and_then f) (sym i.same)

  module _ {C : Type 0} {meaning' : C → D} {Q : C → Type 0} where
    pub stops : {r : Refusal} → Agrees sheet meaning P (refuses r) g → Agrees sheet meaning' Q (refuses r) (g and_then f)
    stops i = refused (then-stops i)

    pub exits : {r : Refusal} (answer : Result (Read C) Refusal) → IsErrAnd answer (λ e. e ≡ r) → Agrees sheet meaning P (refuses r) g
        → Agrees sheet meaning' Q (says answer) (g and_then f)
    exits answer h i = exit answer h (stops i)

    pub goes_on : {a : A} {next : ℕ} {said : Said C} → Agrees sheet meaning P (reads a next) g → Agrees sheet meaning' Q said (f (meaning a) (drop next sheet))
        → Agrees sheet meaning' Q said (g and_then f)
    goes_on i j = same-reading (then-on i) j
