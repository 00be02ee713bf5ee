-- White space characters, and a text without those at its ends.
use mathlib.Core.Path.{◌≡◌, refl, sym, ap, ◌∙◌}
use mathlib.Core.Bool.{Bool, true, false, ◌&&◌, ◌||◌}
use mathlib.Core.List.{List, [], ◌∷◌}
use Prim.Native.Nat.{ℕ, zero, suc, ◌+◌, ◌≤◌, ◌<◌}
use native.Mathlib.Omega.{arith}
use borrow.Author.Tests.{lt-leb, ne_eqb, eqb-true, leb-true}
use lib.Dec.{eqb, leb}
use lib.ListN.{length, get_or, take, drop, length-drop}
use lib.Seq.{drop-drop, get_or-drop}
use Rattle.base.specs.Choice.{pick, within}
use Rattle.base.proofs.ListLaws.{and_left, and_right}
use Rattle.text.specs.Names.{same}
use Rattle.text.specs.Trim.{one_byte, two_bytes, three_bytes, space_at, trim_start_by, trim_start, trim_end}

or-false : (t : Bool) → (t || false) ≡ t
or-false true = refl
or-false false = refl

and-false : (t : Bool) → (t && false) ≡ false
and-false true = refl
and-false false = refl

not-both : ◌≡◌ {A = Bool} false true → ⊥
not-both e = let z : ◌≡◌ {A = ℕ} 0 1 = cc in omega arith

-- ---- the character at a place

pub three-not : (a b c : ℕ) → eqb a 0xE1 ≡ false → eqb a 0xE2 ≡ false → eqb a 0xE3 ≡ false → three_bytes a b c ≡ false
three-not a b c e f g = rw (e, f, g)

-- a byte that is not 0 is there
within-length : (s : List ℕ) (i : ℕ) → 0 < get_or s i 0 → i < length s
within-length [] i h = absurd (omega arith)
within-length (x ∷ s) zero h = omega arith
within-length (x ∷ s) (suc i) h = let k = within-length s i h in omega arith

one-pos : (a : ℕ) → one_byte a ≡ true → 0 < a
one-pos zero e = absurd (not-both e)
one-pos (suc a) e = omega arith

two_pos : (a b : ℕ) → two_bytes a b ≡ true → 0 < b
two_pos a zero e = absurd (not-both (sym (and-false (eqb a 0xC2)) ∙ e))
two_pos a (suc b) e = omega arith

three-pos : (a b c : ℕ) → three_bytes a b c ≡ true → 0 < c
three-pos a b zero e = absurd (not-both (sym (go (eqb a 0xE1) (eqb b 0x9A) (eqb a 0xE2) (eqb b 0x80) (eqb b 0x81) (eqb a 0xE3)) ∙ e))
  where
    go : (p q r s t u : Bool) → ((p && (q && false)) || ((r && ((s && false) || (t && false))) || (u && (s && false)))) ≡ false
    go p q r s t u = rw (and-false q, and-false s, and-false t, and-false p, and-false u) (or-false (r && false) ∙ and-false r)
three-pos a b (suc c) e = omega arith

module _ (s : List ℕ) (at : ℕ) where
  abbrev first : ℕ
  first = get_or s at 0

  abbrev second : ℕ
  second = get_or s (at + 1) 0

  abbrev third : ℕ
  third = get_or s (at + 2) 0

  -- what `space_at` finds there
  abbrev pub Space : ℕ → Type 0
  Space n = (n ≡ space_at (drop at s)) × (at + n ≤ length s)

  space-is : space_at (drop at s) ≡ pick (one_byte first) 1 (pick (two_bytes first second) 2 (pick (three_bytes first second third) 3 0))
  unfolding space_at
  space-is =
      let z : at + 0 ≡ at = omega arith in
      rw (get_or-drop at s 0 0, get_or-drop at s 1 0, get_or-drop at s 2 0, z)

  pub space-one : one_byte first ≡ true → Space 1
  space-one e = (sym (space-is ∙ rw e), let k = within-length s at (one-pos first e) in omega arith)

  pub space-two : one_byte first ≡ false → two_bytes first second ≡ true → Space 2
  space-two e f = (sym (space-is ∙ rw (e, f)), let k = within-length s (at + 1) (two_pos first second f) in omega arith)

  pub space-three : one_byte first ≡ false → two_bytes first second ≡ false → three_bytes first second third ≡ true → Space 3
  space-three e f g = (sym (space-is ∙ rw (e, f, g)), let k = within-length s (at + 2) (three-pos first second third g) in omega arith)

  pub space-none : at ≤ length s → one_byte first ≡ false → two_bytes first second ≡ false → three_bytes first second third ≡ false → Space 0
  space-none h e f g = (sym (space-is ∙ rw (e, f, g)), omega arith)

-- ---- white space skipped

-- one step, with the character at the front given
abbrev skipped : ℕ → List ℕ → ℕ → List ℕ
skipped n s k = elim k [ zero ↦ s | suc j ↦ trim_start_by n (drop (suc j) s) ]

-- how many characters may be skipped does not matter, once that is enough
skip-enough : (n m : ℕ) (s : List ℕ) → length s ≤ n → length s ≤ m → trim_start_by n s ≡ trim_start_by m s
unfolding trim_start_by space_at
skip-enough zero zero s h k = refl
skip-enough zero (suc m) [] h k = refl
skip-enough zero (suc m) (x ∷ s) h k = absurd (omega arith)
skip-enough (suc n) zero [] h k = refl
skip-enough (suc n) zero (x ∷ s) h k = absurd (omega arith)
skip-enough (suc n) (suc m) s h k = by (space_at s) (λ j. skip-enough n m (drop (suc j) s) (rw length-drop (omega arith)) (rw length-drop (omega arith)))
  where
    by : (c : ℕ) → ((j : ℕ) → trim_start_by n (drop (suc j) s) ≡ trim_start_by m (drop (suc j) s)) → skipped n s c ≡ skipped m s c
    by zero f = refl
    by (suc j) f = f j

skip_step : (s : List ℕ) → trim_start s ≡ skipped (length s) s (space_at s)
unfolding trim_start trim_start_by
skip_step s = skip-enough (length s) (suc (length s)) s (omega arith) (omega arith)

pub skip-done : (s : List ℕ) → space_at s ≡ 0 → trim_start s ≡ s
skip-done s e = skip_step s ∙ ap (skipped (length s) s) e

pub skip-more : (s : List ℕ) (k : ℕ) → space_at s ≡ suc k → trim_start (drop (suc k) s) ≡ trim_start s
unfolding trim_start
skip-more s k e =
    let l : length (drop (suc k) s) ≤ length s = rw length-drop (omega arith) in
    skip-enough (length (drop (suc k) s)) (length s) (drop (suc k) s) (omega arith) l ∙ sym (skip_step s ∙ ap (skipped (length s) s) e)

-- the same from a place on
pub skip-next : (s : List ℕ) (at n : ℕ) → 0 < n → n ≡ space_at (drop at s) → trim_start (drop (at + n) s) ≡ trim_start (drop at s)
skip-next s at zero h e = absurd (omega arith)
skip-next s at (suc k) h e = ap trim_start (sym (drop-drop (suc k) at s)) ∙ skip-more (drop at s) k (sym e)

-- ---- a name with white space around it

-- white space alone
abbrev pub blank : List ℕ → Bool
blank s = same (trim_start s) []

-- no byte of the name can begin white space
abbrev pub solid : List ℕ → Bool
solid [] = true
solid (b ∷ bs) = within 0x21 0x7F b && solid bs

solid-space : (b : ℕ) (s : List ℕ) → 0x21 ≤ b → b ≤ 0x7F → space_at (b ∷ s) ≡ 0
unfolding space_at
solid-space b s h k =
    let p = lt-leb b 0x0D (omega arith) in
    let q = ne_eqb b 0x20 (λ e. omega arith) in
    let r = ne_eqb b 0xC2 (λ e. omega arith) in
    let t = three-not b (get_or s 0 0) (get_or s 1 0) (ne_eqb b 0xE1 (λ e. omega arith)) (ne_eqb b 0xE2 (λ e. omega arith)) (ne_eqb b 0xE3 (λ e. omega arith)) in
    rw (p, and-false (leb 0x09 b), q, r, t)

solid-blank : (b : ℕ) (s : List ℕ) → 0x21 ≤ b → b ≤ 0x7F → blank (b ∷ s) ≡ false
unfolding same
solid-blank b s h k = ap (λ (l : List ℕ). same l []) (skip-done (b ∷ s) (solid-space b s h k))

-- what is left of a text at its end is a name, exactly where it begins with the name and goes on with white space alone
pub same-trim_end : (n s : List ℕ) → solid n ≡ true → same (trim_end s) n ≡ (same (take (length n) s) n && blank (drop (length n) s))
unfolding same trim_end trim_start trim_start_by
same-trim_end [] [] h = refl
same-trim_end [] (b ∷ s) h = by (blank (b ∷ s))
  where
    by : (t : Bool) → same (pick t [] (b ∷ trim_end s)) [] ≡ t
    by true = refl
    by false = refl
same-trim_end (c ∷ n) [] h = refl
same-trim_end (c ∷ n) (b ∷ s) h = by (blank (b ∷ s)) refl (same-trim_end n s (and_right (within 0x21 0x7F c) (solid n) h))
  where
    low : within 0x21 0x7F c ≡ true
    low = and_left (within 0x21 0x7F c) (solid n) h

    by : (t : Bool) → blank (b ∷ s) ≡ t → same (trim_end s) n ≡ (same (take (length n) s) n && blank (drop (length n) s))
        → same (pick t [] (b ∷ trim_end s)) (c ∷ n) ≡ ((eqb b c && same (take (length n) s) n) && blank (drop (length n) s))
    by true e i = other (eqb b c) refl
      where
        other : (u : Bool) → eqb b c ≡ u → false ≡ ((u && same (take (length n) s) n) && blank (drop (length n) s))
        other false f = refl
        other true f =
            let g = eqb-true b c f in
            let l = leb-true 0x21 c (and_left (leb 0x21 c) (leb c 0x7F) low) in
            let m = leb-true c 0x7F (and_right (leb 0x21 c) (leb c 0x7F) low) in
            absurd (not-both (sym (solid-blank b s (omega (arith, g)) (omega (arith, g))) ∙ e))
    by false e i = rw i (assoc (eqb b c) (same (take (length n) s) n) (blank (drop (length n) s)))
      where
        assoc : (u v w : Bool) → (u && (v && w)) ≡ ((u && v) && w)
        assoc true v w = refl
        assoc false v w = refl
