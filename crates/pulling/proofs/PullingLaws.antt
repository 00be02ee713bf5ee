-- What a pull has tested, and the next period by the bytes lent.
use mathlib.Core.Path.{◌≡◌, refl, sym, ap, ◌∙◌}
use mathlib.Core.Bool.{Bool, true, false, ◌||◌, ◌&&◌}
use mathlib.Core.List.{List, [], ◌∷◌}
use Prim.Native.Nat.{ℕ, zero, suc, ◌+◌, ◌-◌, ◌*◌, ◌/◌, ◌^◌, ◌≤◌, ◌<◌, min}
use native.Mathlib.Nat.{add-sub_cancel_left, suc-mul}
use native.Mathlib.Numerals.{add-one}
use native.Mathlib.Omega.{arith}
use borrow.Author.Tests.{leb-true, ne_eqb}
use lib.Dec.{eqb, leb}
use lib.ListN.{length, get_or, take, drop, length-take, length-drop}
use Rattle.base.specs.Lists.{every, part}
use Rattle.base.specs.Bytes.{elements, u32_at}
use Rattle.base.proofs.ListLaws.{every-at}
use Rattle.base.proofs.ByteLaws.{length-elements, get_or-elements, elements-part}
use Rattle.voice.specs.Header.{in_scale}
use Rattle.lpc.specs.declared.FilterState.{FilterState}
use Rattle.lpc.specs.Ready.{part_of}
use Rattle.call.specs.Pull.{lent_of, all_given, possible, next_part}
use Rattle.pulling.specs.Pulling.{Takes, next_of}

or_left : (a b : Bool) → a ≡ false → (a || b) ≡ true → b ≡ true
or_left true b e f = let z : true ≡ false = e in cc
or_left false b e f = f

take-taken : (n : ℕ) (l : List ℕ) → take (length (take n l)) l ≡ take n l
take-taken zero l = refl
take-taken (suc n) [] = refl
take-taken (suc n) (x ∷ l) = ap (λ (t : List ℕ). x ∷ t) (take-taken n l)

-- ---- the tests

-- one after the other: the value that was made, where the one before passed and where it did not
pub and-passed : {t v a : Bool} → t ≡ true → v ≡ a → v ≡ (t && a)
and-passed e q = rw e q

pub and-failed : {t v : Bool} (a : Bool) → t ≡ false → v ≡ t → v ≡ (t && a)
and-failed a e q = rw e (q ∙ e)

and_assoc : (a b c : Bool) → ((a && b) && c) ≡ (a && (b && c))
and_assoc true b c = refl
and_assoc false b c = refl

and_true : (a : Bool) → (a && true) ≡ a
and_true true = refl
and_true false = refl

-- by the elements lent: m sizes, n row values, k bytes of excitation
module _ (s : FilterState) (sizes rows excitation : List ℕ) where
  abbrev m : ℕ
  m = length sizes / 4

  abbrev n : ℕ
  n = length rows / 2

  pub possible-are : possible s (lent_of sizes rows excitation)
      ≡ (leb s.order 32 && (leb s.ring_place s.order && (leb s.period m && (leb s.sample_place (length excitation) && (in_scale s.coeff_min && (in_scale s.coeff_range
      && (eqb s.period m || leb ((s.period + 1) * s.order) n)))))))
  unfolding possible lent_of every
  possible-are = rw (length-elements 4 sizes, length-elements 2 rows, and_true) refl

  pub possible-by : {a b c d e : Bool} → a ≡ (leb s.order 32 && leb s.ring_place s.order) → b ≡ (a && leb s.period m) → c ≡ (b && leb s.sample_place (length excitation))
      → d ≡ (c && in_scale s.coeff_min) → e ≡ (d && in_scale s.coeff_range)
      → (e && (eqb s.period m || leb ((s.period + 1) * s.order) n)) ≡ possible s (lent_of sizes rows excitation)
  possible-by p q r t u = rw (u, t, r, q, p, and_assoc, and_assoc, and_assoc, and_assoc, and_assoc) (sym possible-are)

-- ---- the next period

-- the two parts as they are lent, from a start to an end
pub next-lent : (s : FilterState) (n : ℕ) (rows excitation : List ℕ)
    → part_of (part rows (2 * (s.period * s.order)) (2 * (s.period * s.order) + 2 * s.order - 2 * (s.period * s.order))) (part excitation s.sample_place (s.sample_place + n - s.sample_place))
    ≡ next_of s n rows excitation
unfolding next_of
next-lent s n rows excitation = rw (add-sub_cancel_left, add-sub_cancel_left)

pub next-count : (sizes excitation : List ℕ) (period place size : ℕ) → 4 * period + 4 ≤ length sizes → size ≡ u32_at sizes period
    → length (take (get_or (elements 4 sizes) period 0) (drop place excitation)) ≡ min size (length excitation - place)
next-count sizes excitation period place size h e =
    let g : get_or (elements 4 sizes) period 0 ≡ size = get_or-elements 4 sizes period (omega arith) ∙ sym e in
    rw (length-take, length-drop, g)

module _ (s : FilterState) (sizes rows excitation : List ℕ) (p : possible s (lent_of sizes rows excitation) ≡ true) (more : s.period ≡ length sizes / 4 → ⊥) where
  order-low : s.order ≤ 32
  unfolding possible
  order-low = leb-true _ _ (every-at _ p 0)

  place-low : s.ring_place ≤ s.order
  unfolding possible
  place-low = leb-true _ _ (every-at _ p 1)

  pub period-low : s.period < length sizes / 4
  unfolding possible lent_of
  period-low = let h = leb-true s.period (length (elements 4 sizes)) (every-at _ p 2) in omega (arith, length-elements 4 sizes)

  pub sample-low : s.sample_place ≤ length excitation
  unfolding possible lent_of
  sample-low = leb-true _ _ (every-at _ p 3)

  row-there : (s.period + 1) * s.order ≤ length rows / 2
  unfolding possible lent_of
  row-there =
      let e : all_given s (lent_of sizes rows excitation) ≡ false = ne_eqb s.period (length (elements 4 sizes)) (λ q. more (q ∙ length-elements 4 sizes)) in
      let h = leb-true ((s.period + 1) * s.order) (length (elements 2 rows)) (or_left (all_given s (lent_of sizes rows excitation)) _ e (every-at _ p 6)) in omega (arith, length-elements 2 rows)

  row-bytes : 2 * (s.period * s.order) + 2 * s.order ≤ length rows
  row-bytes =
      let h = row-there in
      let e : (s.period + 1) * s.order ≡ s.period * s.order + s.order = rw (add-one, suc-mul) in
      omega arith

  pub can-take : (n room : ℕ) → s.sample_place + n ≤ length excitation → n ≤ room / 2 → length sizes < 2 ^ 64 → Takes s n (length rows) (length excitation) room
  can-take n room h k b =
      let l = period-low in
      record {
        order_low = order-low;
        place_low = place-low;
        period_low = omega arith;
        row_there = row-bytes;
        bytes_there = h;
        room_there = omega arith;
      }

  -- the next period is what the bytes say
  pub next-is : (n : ℕ) → n ≡ length (next_part s (lent_of sizes rows excitation)).bytes → next_of s n rows excitation ≡ next_part s (lent_of sizes rows excitation)
  unfolding next_of next_part lent_of
  next-is n e =
      let r : elements 2 (part rows (2 * (s.period * s.order)) (2 * s.order)) ≡ part (elements 2 rows) (s.period * s.order) s.order =
      elements-part 2 rows (s.period * s.order) s.order (omega arith) (let h = row-bytes in omega arith) in
      let b : part excitation s.sample_place n ≡ take (get_or (elements 4 sizes) s.period 0) (drop s.sample_place excitation) =
      ap (λ (m : ℕ). take m (drop s.sample_place excitation)) e ∙ take-taken (get_or (elements 4 sizes) s.period 0) (drop s.sample_place excitation) in
      rw (r, b)
