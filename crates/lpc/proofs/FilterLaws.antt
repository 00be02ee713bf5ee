-- Laws of a filter in general: it reads no more of the history than its row is long, more periods only add to its samples, and a sample has 16 bits.
use mathlib.Core.Path.{◌≡◌, refl, ap}
use mathlib.Core.List.{List, [], ◌∷◌, ◌++◌, map}
use Prim.Native.Nat.{ℕ, zero, suc, ◌+◌, ◌*◌, ◌%◌, ◌^◌, ◌<◌}
use native.Mathlib.Nat.{mod-lt}
use native.Mathlib.Omega.{arith}
use lib.IntN.{ℤ, pos, ◌*ℤ◌}
use lib.ListN.{length, length-map}
use lib.Ieee.{Float, add, mul, of_int, to_signed, binary32}
use Rattle.base.specs.Words.{low}
use Rattle.base.specs.Lists.{Heads}
use Rattle.base.proofs.ListLaws.{heads-nil, heads-cons}
use Rattle.base.proofs.BoundLaws.{Each, nil, cons, Below}
use Rattle.base.proofs.WordLaws.{low-lt}
use Rattle.ulaw.specs.Ulaw.{sample_of}
use Rattle.lpc.specs.declared.ResynthType.{ResynthType}
use Rattle.lpc.specs.declared.ResynthType.TheVariants.{Fixed, Float as FloatType}
use Rattle.lpc.specs.Filter.{Filter, Part, cut, back, outputs, samples, periods_from}
use Rattle.lpc.specs.Fixed.{scaled_by, row_value, fixed_sum, divided, fixed_next, fixed_filter}
use Rattle.lpc.specs.Floating.{float_value, float_sum, float_next, float_filter}
use Rattle.lpc.specs.State.{periods_by}

-- ---- what a filter reads of the history

abbrev pub Causal : {A : Type 0} → Filter A → Type 0
Causal {A = A} f = (row : List ℕ) (y z : ℕ → A) (x : ℕ) → ((k : ℕ) → k < length row → y k ≡ z k) → f.next row y x ≡ f.next row z x

fixed-sum : (acc : ℕ) (cs : List ℤ) (y z : ℕ → ℕ) (k : ℕ) → ((j : ℕ) → j < k + length cs → y j ≡ z j) → fixed_sum acc cs y k ≡ fixed_sum acc cs z k
unfolding fixed_sum
fixed-sum acc [] y z k e = refl
fixed-sum acc (c ∷ cs) y z k e = rw (e k (omega arith)) (fixed-sum ((acc + (low 32 c * z k) % 2 ^ 32) % 2 ^ 32) cs y z (suc k) (λ j l. e j (omega arith)))

float-sum : (acc : Float) (cs : List Float) (y z : ℕ → Float) (k : ℕ) → ((j : ℕ) → j < k + length cs → y j ≡ z j) → float_sum acc cs y k ≡ float_sum acc cs z k
unfolding float_sum
float-sum acc [] y z k e = refl
float-sum acc (c ∷ cs) y z k e = rw (e k (omega arith)) (float-sum (add binary32 acc (mul binary32 c (z k))) cs y z (suc k) (λ j l. e j (omega arith)))

pub fixed-causal : (least range : Float) → Causal (fixed_filter least range)
unfolding fixed_filter fixed_next
fixed-causal least range row y z x e =
    let value = row_value (scaled_by 32768 least) (scaled_by 2048 range) in
    ap divided (fixed-sum (low 32 (sample_of x *ℤ pos 16384)) (map value row) y z 0 (λ j l. e j (omega (arith, length-map row value))))

pub float-causal : (least range : Float) → Causal (float_filter least range)
unfolding float_filter float_next
float-causal least range row y z x e =
    float-sum (of_int binary32 (sample_of x)) (map (float_value least range) row) y z 0 (λ j l. e j (omega (arith, length-map row (float_value least range))))

-- ---- lengths

module _ {A : Type 0} (f : Filter A) where
  pub length-samples : (row : List ℕ) (h : List A) (xs : List ℕ) → length (samples f row h xs) ≡ length xs
  unfolding samples
  length-samples row h [] = refl
  length-samples row h (x ∷ xs) = ap suc (length-samples row (f.next row (back f h) x ∷ h) xs)

  length-periods : (h : List A) (ps : List Part) → length (periods_from f h ps) ≡ length ps
  unfolding periods_from
  length-periods h [] = refl
  length-periods h (p ∷ ps) = ap suc (length-periods (outputs f p.row h p.bytes) ps)

pub length_cut : (order : ℕ) (zs rows e : List ℕ) → length (cut order zs rows e) ≡ length zs
unfolding cut
length_cut order [] rows e = refl
length_cut order (z ∷ zs) rows e = ap suc (length_cut order zs _ _)

pub length-by : (t : ResynthType) (least range : Float) (ps : List Part) → length (periods_by t least range ps) ≡ length ps
unfolding periods_by
length-by Fixed least range ps = length-periods (fixed_filter least range) [] ps
length-by FloatType least range ps = length-periods (float_filter least range) [] ps

-- ---- more periods

periods-append : {A : Type 0} (f : Filter A) (h : List A) (ps qs : List Part) → Heads (periods_from f h ps) (periods_from f h (ps ++ qs))
unfolding periods_from
periods-append f h [] qs = heads-nil _
periods-append f h (p ∷ ps) qs = heads-cons _ (periods-append f (outputs f p.row h p.bytes) ps qs)

pub by_append : (t : ResynthType) (least range : Float) (ps qs : List Part) → Heads (periods_by t least range ps) (periods_by t least range (ps ++ qs))
unfolding periods_by
by_append Fixed least range ps qs = periods-append (fixed_filter least range) [] ps qs
by_append FloatType least range ps qs = periods-append (float_filter least range) [] ps qs

-- ---- each sample has 16 bits

module _ {A : Type 0} (f : Filter A) (bounded : (a : A) → f.out a < 65536) where
  samples-low : (row : List ℕ) (h : List A) (xs : List ℕ) → Below 65536 (samples f row h xs)
  unfolding samples
  samples-low row h [] i = omega arith
  samples-low row h (x ∷ xs) zero = bounded _
  samples-low row h (x ∷ xs) (suc i) = samples-low row (f.next row (back f h) x ∷ h) xs i

  periods-low : (h : List A) (ps : List Part) → Each (Below 65536) (periods_from f h ps)
  unfolding periods_from
  periods-low h [] = nil
  periods-low h (p ∷ ps) = cons (samples-low p.row h p.bytes) (periods-low (outputs f p.row h p.bytes) ps)

pub by-low : (t : ResynthType) (least range : Float) (ps : List Part) → Each (Below 65536) (periods_by t least range ps)
unfolding periods_by fixed_filter float_filter
by-low Fixed least range ps = periods-low (fixed_filter least range) (λ w. mod-lt w (omega arith)) [] ps
by-low FloatType least range ps = periods-low (float_filter least range) (λ a. low-lt 16 (to_signed 15 a)) [] ps
