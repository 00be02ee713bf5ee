-- A sheet, and the one with its chosen texts as floats, are read side by side.
use mathlib.Core.Path.{◌≡◌, refl, sym, ap, subst, ◌∙◌}
use mathlib.Core.Bool.{Bool, true, false}
use mathlib.Core.List.{List, [], ◌∷◌, ◌++◌}
use Prim.Native.Nat.{ℕ, zero, suc, ◌+◌, ◌-◌}
use native.Mathlib.Omega.{arith}
use lib.Dec.{ltb}
use lib.ListN.{length, drop, get_or, length-append}
use lib.Seq.{take_at}
use Rattle.base.specs.Choice.{pick}
use Rattle.refusal.specs.declared.Refusal.{Refusal}
use Rattle.sheet.specs.declared.Value.{Value}
use Rattle.sheet.specs.declared.Target.{Target}
use Rattle.sheet.specs.Sheet.{SegmentRead, Got, fails, gets, ◌and_then◌, malformed_if, number, count, name, value, segment, target, repeated, Counted, counted, Parts, sheet_from, refusal_in, sheet_in}
use Rattle.typed.specs.Floats.{in_float, Writer, front, behind, copied, valued, segment_written, target_written, in_row, in_floats}
use Rattle.typed.proofs.SteadyLaws.{Steady, number-steady, count-steady, name-steady, value-steady}
use Rattle.typed.proofs.FloatLaws.{in-float}

-- of what is written and of the bytes themselves the same is read, and behind it stands what is written for the rest
data Beside {A : Type 0} (after : A → Writer) : Got A → Got A → Type 0 where
  stops : {c : Refusal} → Beside after (fails c) (fails c)
  goes : (x : A) (which : List Bool) (r : List ℕ) → Beside after (gets x (after x which r)) (gets x r)

-- ---- one reading

pub front-is : (p r : List ℕ) → front (p ++ r) r ≡ p
front-is p r = take_at p r (length (p ++ r) - length r) (let l = length-append p r in omega arith)

module _ {A : Type 0} (one : List ℕ → Got A) (steady : Steady one) (change : List ℕ → List ℕ)
    (kept : (v : List ℕ) (x : A) → ((q : List ℕ) → one (v ++ q) ≡ gets x q) → (q : List ℕ) → one (change v ++ q) ≡ gets x q) where
  behind-beside : (after : A → Writer) (which : List Bool) (bs : List ℕ) → Beside after (one (behind change (λ x. after x which) bs (one bs))) (one bs)
  behind-beside after which bs = by (one bs) refl
    where
      by : (g : Got A) → one bs ≡ g → Beside after (one (behind change (λ x. after x which) bs g)) g
      by (fails c) e = subst (λ (z : Got A). Beside after z (fails c)) (sym e) stops
      by (gets x r) e =
          let p = steady bs x r e in
          let read = ap (λ (z : List ℕ). front z r) p.whole ∙ front-is p.bytes r in
          subst (λ (z : Got A). Beside after z (gets x r))
          (sym (ap (λ (z : List ℕ). one (change z ++ after x which r)) read ∙ kept p.bytes x p.alone (after x which r)))
          (goes x which r)

copied-beside : {A : Type 0} (one : List ℕ → Got A) → Steady one → (after : A → Writer) (which : List Bool) (bs : List ℕ) → Beside after (one (copied one after which bs)) (one bs)
unfolding copied
copied-beside one steady after which bs = behind-beside one steady (λ v. v) (λ v x a. a) after which bs

valued-beside : (after : Writer) (which : List Bool) (bs : List ℕ) → Beside (λ (x : Value). after) (value (valued after which bs)) (value bs)
unfolding valued
valued-beside after which bs = behind-beside value value-steady (λ v. pick (get_or which 0 false) (in_float v) v) (chosen (get_or which 0 false)) (λ x. after) (drop 1 which) bs
  where
    chosen : (t : Bool) (v : List ℕ) (x : Value) → ((q : List ℕ) → value (v ++ q) ≡ gets x q) → (q : List ℕ) → value (pick t (in_float v) v ++ q) ≡ gets x q
    chosen true v x a q = in-float v x a q
    chosen false v x a q = a q

-- ---- readings one after the other

then-beside : {A B : Type 0} {g h : Got A} {after : A → Writer} (f : A → List ℕ → Got B) (next : B → Writer) → Beside after g h
    → ((x : A) (which : List Bool) (r : List ℕ) → Beside next (f x (after x which r)) (f x r)) → Beside next (g and_then f) (h and_then f)
unfolding ◌and_then◌
then-beside f next stops m = stops
then-beside f next (goes x which r) m = m x which r

if-beside : {A : Type 0} (next : A → Writer) (t : Bool) (x : A) (which : List Bool) (r : List ℕ) → Beside next (malformed_if t (gets x (next x which r))) (malformed_if t (gets x r))
if-beside next true x which r = stops
if-beside next false x which r = goes x which r

segment-beside : (n : ℕ) (next : Writer) (which : List Bool) (bs : List ℕ) → Beside (λ (x : SegmentRead). next) (segment n (segment_written next which bs)) (segment n bs)
unfolding segment segment_written
segment-beside n next which bs =
    then-beside _ _ (copied-beside name name-steady (λ x. valued (copied number (λ y. next))) which bs) (λ nm w r.
    then-beside _ _ (valued-beside (copied number (λ y. next)) w r) (λ end w₁ r₁.
    then-beside _ _ (copied-beside number number-steady (λ y. next) w₁ r₁) (λ follower w₂ r₂.
    if-beside (λ (x : SegmentRead). next) (ltb n follower) _ w₂ r₂)))

target-beside : (next : Writer) (which : List Bool) (bs : List ℕ) → Beside (λ (x : Target). next) (target (target_written next which bs)) (target bs)
unfolding target target_written
target-beside next which bs =
    then-beside _ _ (valued-beside (valued next) which bs) (λ p w r. then-beside _ _ (valued-beside next w r) (λ f w₁ r₁. goes _ w₁ r₁))

module _ {A : Type 0} (one : List ℕ → Got A) (step : Writer → Writer)
    (each : (next : Writer) (which : List Bool) (bs : List ℕ) → Beside (λ (x : A). next) (one (step next which bs)) (one bs)) where
  row-beside : (n : ℕ) (after : Writer) (which : List Bool) (bs : List ℕ) → Beside (λ (xs : List A). after) (repeated one n (in_row step n after which bs)) (repeated one n bs)
  unfolding repeated in_row
  row-beside zero after which bs = goes [] which bs
  row-beside (suc n) after which bs =
      then-beside _ _ (each (in_row step n after) which bs) (λ x w r. then-beside _ _ (row-beside n after w r) (λ xs w₁ r₁. goes (x ∷ xs) w₁ r₁))

-- ---- the sheet

-- the same refusal, the same segments and targets
abbrev pub Same : Got Parts → Got Parts → Type 0
Same g h = (refusal_in g ≡ refusal_in h) × (sheet_in g ≡ sheet_in h)

then_same : {A : Type 0} {g h : Got A} {after : A → Writer} (f k : A → List ℕ → Got Parts) → Beside after g h
    → ((x : A) (which : List Bool) (r : List ℕ) → Same (f x (after x which r)) (k x r)) → Same (g and_then f) (h and_then k)
unfolding ◌and_then◌
then_same f k stops m = (refl, refl)
then_same f k (goes x which r) m = m x which r

then-then : {A B C : Type 0} (g : Got A) (f : A → List ℕ → Got B) (k : B → List ℕ → Got C) → ((g and_then f) and_then k) ≡ (g and_then (λ x r. f x r and_then k))
unfolding ◌and_then◌
then-then (fails c) f k = refl
then-then (gets x r) f k = refl

module _ {A : Type 0} (one : ℕ → List ℕ → Got A) (step : Writer → Writer)
    (each : (n : ℕ) (next : Writer) (which : List Bool) (bs : List ℕ) → Beside (λ (x : A). next) (one n (step next which bs)) (one n bs))
    (f k : Counted A → List ℕ → Got Parts) (after : Writer)
    (last : (n : ℕ) (from from₁ : List ℕ) (xs : List A) (which : List Bool) (r : List ℕ)
    → Same (f (record { count = n; from = from; items = xs }) (after which r)) (k (record { count = n; from = from₁; items = xs }) r)) where
  counted_same : (which : List Bool) (bs : List ℕ) → Same (counted one (copied count (λ n. in_row step n after) which bs) and_then f) (counted one bs and_then k)
  unfolding ◌and_then◌
  counted_same which bs =
      rw (then-then (count (copied count (λ n. in_row step n after) which bs)) _ f, then-then (count bs) _ k)
      (then_same _ _ (copied-beside count count-steady (λ n. in_row step n after) which bs) (λ n w r.
      rw (then-then (repeated (one n) n (in_row step n after w r)) _ f, then-then (repeated (one n) n r) _ k)
      (then_same _ _ (row-beside (one n) step (each n) n after w r) (λ xs w₁ r₁. last n _ _ xs w₁ r₁))))

pub sheet-same : (which : List Bool) (bs : List ℕ) → Same (sheet_from (in_floats which bs)) (sheet_from bs)
unfolding sheet_from in_floats
sheet-same which bs =
    counted_same segment segment_written segment-beside _ _ (copied count (λ n. in_row target_written n (λ w q. q)))
    (λ n from from₁ ss w r.
    counted_same (λ n. target) target_written (λ n. target-beside) _ _ (λ w q. q) (λ m at at₁ ts w₁ r₁. by (ltb 0 (length r₁)) _ _ refl r₁) w r)
    which bs
  where
    by : (t : Bool) (p q : Parts) → sheet_in (gets p []) ≡ sheet_in (gets q []) → (r : List ℕ) → Same (malformed_if t (gets p r)) (malformed_if t (gets q r))
    by true p q e r = (refl, refl)
    by false p q e r = (refl, e)
