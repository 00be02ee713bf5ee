-- Laws of `every`, `first_failing`, `Heads`, parts of lists and lists of one element repeated.
use Rattle.std.specs.Prelude.{None, Option, Some}
use mathlib.Core.Path.{◌≡◌, refl, sym, ap, ◌∙◌}
use mathlib.Core.Bool.{Bool, true, false, ◌&&◌}
use mathlib.Core.List.{List, [], ◌∷◌, ◌++◌, append_assoc, append-nil}
use Prim.Native.Nat.{ℕ, zero, suc, ◌+◌, ◌≤◌, ◌<◌}
use lib.ListN.{length, take, drop, get_or, replicate, length-drop}
use lib.Seq.{get_or-take, get_or-drop, length-take-le, take-take, drop-drop}
use native.Mathlib.Omega.{arith}
use Rattle.base.specs.Lists.{every, first_failing, or_next, part, Heads}

-- ---- tests

pub and_left : (a b : Bool) → (a && b) ≡ true → a ≡ true
and_left true b e = refl
and_left false b e = e

pub and_right : (a b : Bool) → (a && b) ≡ true → b ≡ true
and_right true b e = e
and_right false true e = refl
and_right false false e = e

pub every-nil : every [] ≡ true
unfolding every
every-nil = refl

pub every-cons : (t : Bool) (ts : List Bool) → t ≡ true → every ts ≡ true → every (t ∷ ts) ≡ true
unfolding every
every-cons t ts e f = rw (e, f)

-- one test after the other
pub every-pass : (t : Bool) (ts : List Bool) → t ≡ true → every (t ∷ ts) ≡ every ts
unfolding every
every-pass t ts e = rw e

pub every-fail : (t : Bool) (ts : List Bool) → t ≡ false → every (t ∷ ts) ≡ false
unfolding every
every-fail t ts e = rw e

pub every_one : (t : Bool) → every (t ∷ []) ≡ t
unfolding every
every_one true = refl
every_one false = refl

-- each test passes, by its place
pub every-at : (ts : List Bool) → every ts ≡ true → (k : ℕ) → get_or ts k true ≡ true
unfolding every
every-at [] e k = refl
every-at (t ∷ ts) e zero = and_left t (every ts) e
every-at (t ∷ ts) e (suc k) = every-at ts (and_right t (every ts) e) k

-- ---- the first failing test

module _ {C : Type 0} (c : C) (cs : List (Bool × C)) where
  pub failing-passed : (t : Bool) → t ≡ true → first_failing ((t, c) ∷ cs) ≡ first_failing cs
  unfolding first_failing
  failing-passed t e = rw e

  pub failing-here : (t : Bool) → t ≡ false → first_failing ((t, c) ∷ cs) ≡ Some c
  unfolding first_failing
  failing-here t e = rw e

  -- where no test fails, the first one passes, and none of the others fails
  pub failing-none : (t : Bool) → first_failing ((t, c) ∷ cs) ≡ None → (t ≡ true) × (first_failing cs ≡ None)
  unfolding first_failing
  failing-none true e = (refl, e)
  failing-none false e = let z : ◌≡◌ {A = ℕ} 0 1 = cc in absurd (omega arith)

-- ---- two causes

module _ {C : Type 0} where
  -- where there is none, each is none
  pub next-none : (c d : Option C) → or_next c d ≡ None → (c ≡ None) × (d ≡ None)
  next-none None d e = (refl, e)
  next-none (Some c) d e = let z : ◌≡◌ {A = ℕ} 0 1 = cc in absurd (omega arith)

-- ---- parts

module _ {A : Type 0} where
  pub get_or-part : (s : List A) (at n i : ℕ) (d : A) → i < n → get_or (part s at n) i d ≡ get_or s (at + i) d
  get_or-part s at n i d h = get_or-take n (drop at s) i d h ∙ get_or-drop at s i d

  pub length_part : (s : List A) (at n : ℕ) → at + n ≤ length s → length (part s at n) ≡ n
  length_part s at n h = length-take-le n (drop at s) (rw length-drop (omega arith))

  -- a part of a part
  part-take : (l : List A) (n i m : ℕ) → i + m ≤ n → part (take n l) i m ≡ part l i m
  part-take l n zero m h = take-take m n l (omega arith)
  part-take l zero (suc i) m h = absurd (omega arith)
  part-take [] (suc n) (suc i) m h = refl
  part-take (x ∷ l) (suc n) (suc i) m h = part-take l n i m (omega arith)

  pub part-part : (s : List A) (at n i m : ℕ) → i + m ≤ n → part (part s at n) i m ≡ part s (at + i) m
  part-part s at n i m h = part-take (drop at s) n i m h ∙ ap (take m) (drop-drop i at s)

-- ---- a list that begins with another

module _ {A : Type 0} where
  pub heads-by : {s t : List A} (r : List A) → t ≡ s ++ r → Heads s t
  heads-by r e = record { more = r; whole = e }

  pub heads-eq : {s t : List A} → t ≡ s → Heads s t
  heads-eq {s} e = heads-by [] (e ∙ sym (append-nil s))

  pub heads-refl : (s : List A) → Heads s s
  heads-refl s = heads-eq refl

  pub heads-nil : (t : List A) → Heads [] t
  heads-nil t = heads-by t refl

  pub heads-after : (p : List A) {s t : List A} → Heads s t → Heads (p ++ s) (p ++ t)
  heads-after p {s} h = heads-by h.more (ap (λ (l : List A). p ++ l) h.whole ∙ sym (append_assoc p s h.more))

  pub heads-cons : (a : A) {s t : List A} → Heads s t → Heads (a ∷ s) (a ∷ t)
  heads-cons a h = heads-by h.more (ap (λ (l : List A). a ∷ l) h.whole)

  pub heads-longer : {s t : List A} (x : List A) → Heads s t → Heads s (t ++ x)
  heads-longer {s} x h = heads-by (h.more ++ x) (ap (λ (l : List A). l ++ x) h.whole ∙ append_assoc s h.more x)

-- ---- one element, repeated

pub replicated : {A : Type 0} (n i : ℕ) (a : A) → get_or (replicate n a) i a ≡ a
replicated zero i a = refl
replicated (suc n) zero a = refl
replicated (suc n) (suc i) a = replicated n i a
