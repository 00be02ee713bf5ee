-- The list says yes at zero-size periods at the head of a later unit, and nowhere else.
use mathlib.Core.Path.{◌≡◌, refl, sym, ap, ◌∙◌}
use mathlib.Core.Bool.{Bool, true, false, true≢false}
use mathlib.Core.List.{List, [], ◌∷◌, ◌++◌, map}
use Prim.Native.Nat.{ℕ, zero, suc, ◌+◌, ◌-◌, ◌≤◌, ◌<◌}
use native.Mathlib.Nat.{zero-add, add-zero}
use native.Mathlib.Omega.{arith}
use borrow.Author.Tests.{eqb-true, eq-eqb}
use lib.Dec.{eqb}
use lib.ListN.{length, get_or, replicate, length-replicate, get_or-append}
use lib.Seq.{get_or-append-add}
use Rattle.base.specs.Choice.{pick}
use Rattle.base.specs.Buffers.{flat}
use Rattle.base.proofs.CaseLaws.{by_order}
use Rattle.voice.specs.Voice.{Voice}
use Rattle.voice.specs.Periods.{samples_of}
use Rattle.sheet.specs.Sheet.{Sheet}
use Rattle.units.specs.declared.Unit.{Unit}
use Rattle.marks.specs.NaturalMarks.{period_count}
use Rattle.excitation.specs.Taken.{total}
use Rattle.call.specs.declared.Settings.{Settings}
use Rattle.call.specs.Call.{plan_of, is_simple}
use Rattle.joint.specs.EmptyHeads.{empty_head, later_heads, empty_heads, changed, AtHead, AtJoint}

-- ---- two lists joined, the first of length n

abbrev SaysYes : List Bool → ℕ → Type 0
SaysYes bs i = get_or bs i false ≡ true

module _ (xs ys : List Bool) (n : ℕ) (e : length xs ≡ n) where
  later-says : (i : ℕ) → get_or (xs ++ ys) (n + i) false ≡ get_or ys i false
  later-says i = rw e at (get_or-append-add xs ys i false)

  by_part : {X : Type 0} (i : ℕ) → SaysYes (xs ++ ys) i → (i < n → SaysYes xs i → X) → ((k : ℕ) → i ≡ n + k → SaysYes ys k → X) → X
  by_part i h f g =
      by_order i n
      (λ l. f l (sym (get_or-append xs ys false i (rw e l)) ∙ h))
      (λ l. let q : i ≡ n + (i - n) = omega arith in g (i - n) q (sym (later-says (i - n)) ∙ ap (λ (k : ℕ). get_or (xs ++ ys) k false) (sym q) ∙ h))

never : (n i : ℕ) → get_or (replicate n false) i false ≡ false
never zero i = refl
never (suc n) zero = refl
never (suc n) (suc i) = never n i

-- ---- one unit

module _ (v : Voice) where
  abbrev Empty : ℕ → ℕ → Type 0
  Empty p j = (k : ℕ) → k ≤ j → samples_of v (p + k) ≡ 0

  head-many : (p n : ℕ) → length (empty_head v p n) ≡ n
  unfolding empty_head
  head-many p zero = refl
  head-many p (suc n) = by (eqb (samples_of v p) 0) (head-many (suc p) n)
    where
      by : (t : Bool) → length (empty_head v (suc p) n) ≡ n → length {A = Bool} (elim t [ true ↦ true ∷ empty_head v (suc p) n | false ↦ replicate (suc n) false ]) ≡ suc n
      by true e = ap suc e
      by false e = length-replicate (suc n) false

  head-means : (p n j : ℕ) → SaysYes (empty_head v p n) j → Empty p j
  unfolding empty_head
  head-means p zero j h = absurd (true≢false (sym h))
  head-means p (suc n) j h = by (eqb (samples_of v p) 0) refl j h (head-means (suc p) n)
    where
      by : (t : Bool) → eqb (samples_of v p) 0 ≡ t → (j : ℕ) → SaysYes (elim t [ true ↦ true ∷ empty_head v (suc p) n | false ↦ replicate (suc n) false ]) j
          → ((j : ℕ) → SaysYes (empty_head v (suc p) n) j → Empty (suc p) j) → Empty p j
      by true c j h ih zero l = rw add-zero (eqb-true (samples_of v p) 0 c)
      by true c zero h ih (suc k) l = absurd (omega arith)
      by true c (suc j) h ih (suc k) l = let e : p + suc k ≡ suc p + k = omega arith in rw e (ih j h k (omega arith))
      by false c j h ih k l = absurd (true≢false (sym h ∙ never (suc n) j))

  first_says : (p j : ℕ) → Empty p j → eqb (samples_of v p) 0 ≡ true
  first_says p j e = eq-eqb (samples_of v p) 0 (ap (samples_of v) (sym (add-zero p)) ∙ e 0 (omega arith))

  head-says : (p n j : ℕ) → j < n → Empty p j → SaysYes (empty_head v p n) j
  unfolding empty_head
  head-says p zero j l e = absurd (omega arith)
  head-says p (suc n) zero l e = rw (first_says p 0 e, empty_head)
  head-says p (suc n) (suc j) l e =
      rw (first_says p (suc j) e, empty_head) (head-says (suc p) n j (omega arith) (λ k m. let x : p + suc k ≡ suc p + k = omega arith in ap (samples_of v) (sym x) ∙ e (suc k) (omega arith)))

  -- ---- unit after unit

  abbrev head_of : Unit → List Bool
  head_of u = empty_head v u.first_period (period_count u)

  abbrev many : (u : Unit) → length (head_of u) ≡ period_count u
  many u = head-many u.first_period (period_count u)

  later-means : (w : Unit) (us : List Unit) (i : ℕ) → SaysYes (later_heads v us) i → AtHead v (w ∷ us) (period_count w + i)
  unfolding later_heads flat
  later-means w [] i h = absurd (true≢false (sym h))
  later-means w (u ∷ us) i h =
      by_part (head_of u) (later_heads v us) (period_count u) (many u) i h
      (λ l e. record { before = w ∷ []; unit = u; after = us; whole = refl; later = omega arith; j = i; place = omega arith; inside = l; empty = head-means _ _ i e })
      (λ k q e.
      let a = later-means u us k e in
      let p = a.place in
      record {
        before = w ∷ a.before;
        unit = a.unit;
        after = a.after;
        whole = ap (λ (l : List Unit). w ∷ l) a.whole;
        later = omega arith;
        j = a.j;
        place = omega arith;
        inside = a.inside;
        empty = a.empty;
      })

  pub heads-mean : (us : List Unit) (i : ℕ) → SaysYes (empty_heads v us) i → AtHead v us i
  unfolding empty_heads
  heads-mean [] i h = absurd (true≢false (sym h))
  heads-mean (u ∷ us) i h =
      by_part (replicate (period_count u) false) (later_heads v us) (period_count u) (length-replicate (period_count u) false) i h
      (λ l e. absurd (true≢false (sym e ∙ never (period_count u) i)))
      (λ k q e. rw q (later-means u us k e))

  later-listed : (before : List Unit) (u : Unit) (after : List Unit) (j : ℕ) → j < period_count u → Empty u.first_period j
      → SaysYes (later_heads v (before ++ (u ∷ after))) (total (map period_count before) + j)
  unfolding later_heads flat
  later-listed [] u after j l e = rw zero-add (get_or-append (head_of u) (later_heads v after) false j (rw (many u) l) ∙ head-says _ _ j l e)
  later-listed (w ∷ before) u after j l e =
      let q : period_count w + total (map period_count before) + j ≡ period_count w + (total (map period_count before) + j) = omega arith in
      rw q (later-says (head_of w) (later_heads v (before ++ (u ∷ after))) (period_count w) (many w) (total (map period_count before) + j) ∙ later-listed before u after j l e)

  first-listed : (before : List Unit) (u : Unit) (after : List Unit) (j : ℕ) → 0 < length before → j < period_count u → Empty u.first_period j
      → SaysYes (empty_heads v (before ++ (u ∷ after))) (total (map period_count before) + j)
  unfolding empty_heads
  first-listed [] u after j h l e = absurd (omega arith)
  first-listed (w ∷ before) u after j h l e =
      let q : period_count w + total (map period_count before) + j ≡ period_count w + (total (map period_count before) + j) = omega arith in
      rw q
      (later-says (replicate (period_count w) false) (later_heads v (before ++ (u ∷ after))) (period_count w) (length-replicate (period_count w) false) (total (map period_count before) + j)
      ∙ later-listed before u after j l e)

  pub heads-listed : (us : List Unit) (i : ℕ) → AtHead v us i → SaysYes (empty_heads v us) i
  heads-listed us i a = let h = first-listed a.before a.unit a.after a.j a.later a.inside a.empty in cc

-- ---- of a call

module _ (v : Voice) (s : Sheet) (o : Settings) (i : ℕ) where
  abbrev heads : List Bool
  heads = empty_heads v (plan_of v s o).units

  pub changed-means : SaysYes (changed v s o) i → AtJoint v s o i
  unfolding changed
  changed-means h = by (is_simple o.join) h
    where
      by : (t : Bool) → SaysYes (pick t heads []) i → (t ≡ true) × AtHead v (plan_of v s o).units i
      by true h = (refl, heads-mean v (plan_of v s o).units i h)
      by false h = absurd (true≢false (sym h))

  pub changed-says : AtJoint v s o i → SaysYes (changed v s o) i
  unfolding changed
  changed-says a = ap (λ (t : Bool). get_or (pick t heads []) i false) a.0 ∙ heads-listed v (plan_of v s o).units i a.1
