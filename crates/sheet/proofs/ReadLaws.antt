-- What the places of a sheet say of `sheet_of` and `sheet_refusal`.
use Rattle.std.specs.Prelude.{Err, Ok, Result}
use Rattle.refusal.specs.declared.Refusal.{Refusal}
use Rattle.std.proofs.Common.{◌≡◌, ℕ, List, length, sym, refl, ap, ◌∙◌, subst, arith}
use Rattle.refusal.specs.Number.{answer_of}
use Rattle.sheet.specs.Sheet.{SegmentRead, Sheet, Got, fails, gets, Counted, Parts, segment, target, repeated, sheet_from, refusal_in, sheet_refusal, sheet_in, sheet_of}
use Rattle.sheet.specs.Places.{mapped, items_in, places_in, sheet_places, answer_in, refusal_of, sheet_number}
use Rattle.sheet.specs.declared.Places.{Places}
use Rattle.sheet.specs.declared.Target.{Target}
use Rattle.sheet.proofs.SheetLaws.{refused-got, Reads, read-parts}
use Rattle.sheet.proofs.SuffixLaws.{Suffix, all, suffix-place, Leaves, nothing, end, count-leaves, segment-leaves, repeated-leaves, trans}
use Rattle.sheet.proofs.WalkLaws.{Ahead, Walk, walk-yields}

-- ---- the same refusals

-- an answer with the places says the refusal
pub answer-refusal : (sheet : List ℕ) (r : Result Places Refusal) → r ≡ answer_in (sheet_places sheet) → refusal_of r ≡ sheet_refusal sheet
unfolding sheet_places sheet_refusal
answer-refusal sheet r e = ap refusal_of e ∙ by (sheet_from sheet)
  where
    by : (g : Got Parts) → refusal_of (answer_in (mapped (places_in sheet) g)) ≡ refusal_in g
    by (fails c) = refl
    by (gets p bs) = refl

-- and its number
pub answer-number : (sheet : List ℕ) (r : Result Places Refusal) → r ≡ answer_in (sheet_places sheet)
    → (r ≡ answer_in (sheet_places sheet)) × (sheet_number r ≡ answer_of (sheet_refusal sheet))
answer-number sheet r e = (e, by r ∙ ap answer_of (answer-refusal sheet r e))
  where
    by : (x : Result Places Refusal) → sheet_number x ≡ answer_of (refusal_of x)
    by (Err c) = refl
    by (Ok p) = refl

-- ---- the same segments and targets

-- the segments of the sheet are ahead of their first place, the targets of theirs
pub record SheetAhead (sheet : List ℕ) (p : Places) : Type 0 where
  pub segments : Ahead (segment p.segments.count) sheet p.segments.count p.segments.at (sheet_of sheet).segments
  pub targets : Ahead target sheet p.targets.count p.targets.at (sheet_of sheet).targets

rest_of : {A : Type 0} {bs : List ℕ} {g : Got A} → Leaves bs g → (x : A) (r : List ℕ) → g ≡ gets x r → Suffix r bs
rest_of (nothing {c}) x r e = absurd (refused-got c x r e)
rest_of {bs = bs} (end s) x r e = subst (λ (q : List ℕ). Suffix q bs) (cc) s

-- segments, or targets, that were read from what is left of a sheet
module _ {A : Type 0} (one : ℕ → List ℕ → Got A) (sheet bs : List ℕ) (s : Suffix bs sheet) (c : Counted A) (r : List ℕ) (k : Reads one bs c r) where
  from-suffix : Suffix c.from sheet
  from-suffix = trans (rest_of (count-leaves bs) c.count c.from k.many) s

  items-ahead : Ahead (one c.count) sheet c.count (items_in sheet c).at c.items
  items-ahead = record { rest = r; is = ap (repeated (one c.count) c.count) (suffix-place from-suffix) ∙ k.all }

parts-ahead : (sheet : List ℕ) (p : Parts) (q : List ℕ) → sheet_from sheet ≡ gets p q → SheetAhead sheet (places_in sheet p)
unfolding sheet_of
parts-ahead sheet p q e =
    let k = read-parts sheet p q e in
    let c = p.segments in
    let i = ap sheet_in (sym e) in
    let s = from-suffix segment sheet sheet (all sheet) c k.rest k.segments in
    let t = trans (rest_of (repeated-leaves (segment c.count) (segment-leaves c.count) c.count c.from) c.items k.rest k.segments.all) s in
    record {
      segments =
          subst
          (λ (x : Sheet). Ahead (segment c.count) sheet c.count (items_in sheet c).at x.segments)
          i
          (items-ahead segment sheet sheet (all sheet) c k.rest k.segments);
      targets =
          subst
          (λ (x : Sheet). Ahead target sheet p.targets.count (items_in sheet p.targets).at x.targets)
          i
          (items-ahead (λ n. target) sheet k.rest t p.targets k.end k.targets);
    }

-- a sheet that was read
pub sheet-ahead : (sheet : List ℕ) (p : Places) → answer_in (sheet_places sheet) ≡ Ok p → SheetAhead sheet p
unfolding sheet_places
sheet-ahead sheet p e = by (sheet_from sheet) (parts-ahead sheet) e
  where
    by : (g : Got Parts) → ((x : Parts) (q : List ℕ) → g ≡ gets x q → SheetAhead sheet (places_in sheet x)) → answer_in (mapped (places_in sheet) g) ≡ Ok p → SheetAhead sheet p
    by (fails c) f h = let z : ◌≡◌ {A = ℕ} 0 1 = cc in absurd (omega arith)
    by (gets x q) f h = let i : places_in sheet x ≡ p = cc in subst (SheetAhead sheet) i (f x q refl)

-- as many steps from the first place as there are segments yield the segments in order, and the same of targets
module _ (sheet : List ℕ) (p : Places) (e : answer_in (sheet_places sheet) ≡ Ok p) where
  pub segments-walk : {A : Type 0} {meaning : A → SegmentRead} {P : A → Type 0} (ss : List SegmentRead)
      → Walk (segment p.segments.count) sheet meaning P p.segments.at ss → length ss ≡ p.segments.count → ss ≡ (sheet_of sheet).segments
  segments-walk ss w n = walk-yields (segment p.segments.count) sheet p.segments.count p.segments.at (sheet_of sheet).segments ss (sheet-ahead sheet p e).segments w n

  pub targets-walk : {A : Type 0} {meaning : A → Target} {P : A → Type 0} (ts : List Target)
      → Walk target sheet meaning P p.targets.at ts → length ts ≡ p.targets.count → ts ≡ (sheet_of sheet).targets
  targets-walk ts w n = walk-yields target sheet p.targets.count p.targets.at (sheet_of sheet).targets ts (sheet-ahead sheet p e).targets w n
