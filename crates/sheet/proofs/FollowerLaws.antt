-- The walk from the first segment to the one with a number.
use Rattle.std.proofs.Common.{◌⊎◌, inl, inr, ◌≡◌, ℕ, zero, suc, ◌+◌, ◌-◌, ◌<◌, ◌≤◌, true, List, [], ◌∷◌, length, drop, sym, refl, ap, ◌∙◌, subst, arith}
use Rattle.sheet.specs.Sheet.{SegmentRead, segment, sheet_of}
use Rattle.sheet.specs.Answers.{reads, bytes_at, segment_read, SegmentSaid}
use Rattle.sheet.specs.Places.{is_read}
use Rattle.sheet.specs.Followers.{name_of}
use Rattle.sheet.specs.declared.Segment.{Segment}
use Rattle.sheet.specs.declared.Places.{Places}
use Rattle.sheet.proofs.WalkLaws.{Ahead, Step, ahead-some, ahead_step, ahead-length}
use Rattle.sheet.proofs.ReadLaws.{SheetAhead}

pub name-none : (ss : List SegmentRead) (n : ℕ) → n ≡ 0 → name_of ss n ≡ []
unfolding name_of
name-none ss zero e = refl
name-none ss (suc n) e = absurd (omega arith)

pub name-past : (ss : List SegmentRead) (n : ℕ) → length ss < n → name_of ss n ≡ []
unfolding name_of
name-past ss zero h = absurd (omega arith)
name-past [] (suc n) h = refl
name-past (s ∷ ss) (suc zero) h = absurd (omega arith)
name-past (s ∷ ss) (suc (suc n)) h = name-past ss (suc n) (omega arith)

name-first : (s : SegmentRead) (ss : List SegmentRead) (n : ℕ) → n ≡ 1 → name_of (s ∷ ss) n ≡ s.name
unfolding name_of
name-first s ss n e = ap (name_of (s ∷ ss)) e

name-next : (s : SegmentRead) (ss : List SegmentRead) (n : ℕ) → 1 < n → name_of (s ∷ ss) n ≡ name_of ss (n - 1)
unfolding name_of
name-next s ss zero h = absurd (omega arith)
name-next s ss (suc zero) h = absurd (omega arith)
name-next s ss (suc (suc n)) h = let e : suc (suc n) - 1 ≡ suc n = omega arith in rw e

module _ (sheet : List ℕ) (count number : ℕ) where
  -- the segment looked for is the one with the number `left` among those from the place on
  pub record Going (at left : ℕ) : Type 0 where
    pub items : List SegmentRead
    pub ahead : Ahead (segment count) sheet (count - number + left) at items
    pub name : name_of items left ≡ name_of (sheet_of sheet).segments number

  pub going-some : (at left : ℕ) → 0 < left → Going at left → is_read (segment count (drop at sheet)) ≡ true
  going-some at left h g = ahead-some (segment count) sheet (count - number + left) at g.items (λ e. omega arith) g.ahead

  module _ (at left : ℕ) (s : Segment) (next : ℕ) (i : SegmentSaid sheet count (reads s next) (segment count (drop at sheet))) (g : Going at left) where
    step : 0 < left → Step (segment count) sheet (count - number + left) next (segment_read sheet s) g.items
    step h = ahead_step (segment count) sheet (count - number + left) at g.items s next (λ e. omega arith) g.ahead i

    pub going_on : 1 < left → (left' : ℕ) → left' ≡ left - 1 → Going next left'
    going_on h left' l =
        let t = step (omega arith) in
        let e : count - number + left - 1 ≡ count - number + left' = omega arith in
        record {
          items = t.items;
          ahead = subst (λ (k : ℕ). Ahead (segment count) sheet k next t.items) e t.ahead;
          name =
              ap (name_of t.items) l
              ∙ sym (name-next (segment_read sheet s) t.items left h)
              ∙ ap (λ (xs : List SegmentRead). name_of xs left) (sym t.whole)
              ∙ g.name;
        }

    pub going-here : left ≡ 1 → bytes_at sheet s.name ≡ name_of (sheet_of sheet).segments number
    going-here e =
        let t = step (omega arith) in
        sym (name-first (segment_read sheet s) t.items left e) ∙ ap (λ (xs : List SegmentRead). name_of xs left) (sym t.whole) ∙ g.name

module _ (sheet : List ℕ) (p : Places) (r : SheetAhead sheet p) where
  pub going-first : (number : ℕ) → number ≤ p.segments.count → (left : ℕ) → left ≡ number → Going sheet p.segments.count number p.segments.at left
  going-first number h left l =
      let c = p.segments.count in
      let e : c ≡ c - number + left = omega arith in
      record {
        items = (sheet_of sheet).segments;
        ahead = subst (λ (k : ℕ). Ahead (segment c) sheet k p.segments.at (sheet_of sheet).segments) e r.segments;
        name = ap (name_of (sheet_of sheet).segments) l;
      }

  -- no segment has the number
  pub name-nowhere : (number : ℕ) → (number ≡ 0) ⊎ ((number ≡ 0 → ⊥) × (p.segments.count < number)) → name_of (sheet_of sheet).segments number ≡ []
  name-nowhere number (inl e) = name-none (sheet_of sheet).segments number e
  name-nowhere number (inr h) =
      let l = ahead-length (segment p.segments.count) sheet p.segments.count p.segments.at (sheet_of sheet).segments r.segments in
      name-past (sheet_of sheet).segments number (omega arith)
