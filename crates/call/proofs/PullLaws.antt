-- Every list of pulls from a fresh state is the plain machine's.
use Rattle.std.specs.Prelude.{Err, None, Ok, Some}
use mathlib.Core.Path.{◌≡◌, refl, sym, ap, subst, ◌∙◌}
use mathlib.Core.Bool.{Bool, true, false, ◌||◌}
use mathlib.Core.List.{List, [], ◌∷◌}
use mathlib.Core.Logic.{⊎_elim}
use Prim.Native.Nat.{ℕ, zero, suc, ◌+◌, ◌*◌, ◌/◌, ◌≤◌, ◌<◌}
use native.Mathlib.Nat.{eq-or-lt_of_le, add-zero, suc-mul, zero-mul, mul-le-mul_right}
use native.Mathlib.Numerals.{add-one}
use native.Mathlib.Omega.{arith}
use borrow.Author.Tests.{eq-eqb, ne_eqb, lt-ltb, le-ltb, le-leb}
use lib.Dec.{leb}
use lib.Ieee.{Float}
use lib.ListN.{length, get_or, take, drop, length-take, length-drop}
use lib.Seq.{drop-cons, drop-drop}
use Rattle.base.specs.Buffers.{over, flat}
use Rattle.base.specs.Bytes.{bytes_of}
use Rattle.base.proofs.CaseLaws.{by_order}
use Rattle.base.proofs.ListLaws.{every-nil, every-cons}
use Rattle.refusal.specs.declared.Refusal.TheVariants.{ShortSlice, BadState}
use Rattle.voice.specs.Header.{in_scale}
use Rattle.lpc.specs.declared.ResynthType.{ResynthType}
use Rattle.lpc.specs.declared.FilterState.{FilterState}
use Rattle.lpc.specs.Filter.{Part, cut}
use Rattle.lpc.specs.State.{fresh_state, advanced, spoken, periods_by}
use Rattle.lpc.proofs.FilterLaws.{length_cut, length-by}
use Rattle.lpc.proofs.StateLaws.{kept, Continues, continues-low, fresh-continues, Steps, steps}
use Rattle.call.specs.Pull.{Lent, all_given, possible, next_part, leaves, pull_of}
use Rattle.call.specs.Machine.{Shown, pulls, shows, machine}

-- ---- the cases of a pull, and of the machine

pub pull-impossible : (s : FilterState) (l : Lent) (d : List ℕ) → possible s l ≡ false → pull_of s l d ≡ leaves (Err BadState) s d
unfolding pull_of
pull-impossible s l d p = rw p

module _ (s : FilterState) (l : Lent) (d : List ℕ) (p : possible s l ≡ true) where
  pub pull-done : s.period ≡ length l.sizes → pull_of s l d ≡ leaves (Ok None) s d
  unfolding pull_of
  pull-done q = rw (p, eq-eqb _ _ q)

  module _ (q : s.period ≡ length l.sizes → ⊥) where
    pub pull-short : length d / 2 < length (next_part s l).bytes → pull_of s l d ≡ leaves (Err ShortSlice) s d
    unfolding pull_of
    pull-short h = rw (p, ne_eqb _ _ q, lt-ltb _ _ h)

    pub pull-gives : length (next_part s l).bytes ≤ length d / 2
        → pull_of s l d ≡ leaves (Ok (Some (length (next_part s l).bytes))) (advanced s (next_part s l)) (over (flat (bytes_of 2) (spoken s (next_part s l))) d)
    unfolding pull_of
    pull-gives h = rw (p, ne_eqb _ _ q, le-ltb _ _ h)

-- what the machine shows of one pull
module _ (ps : List (List ℕ)) (k : ℕ) (d : List ℕ) where
  pub shows-done : k ≡ length ps → shows ps k d ≡ record { answer = Ok None; slice = d }
  unfolding shows
  shows-done q = rw (eq-eqb k (length ps) q)

  module _ (q : k ≡ length ps → ⊥) where
    pub shows-short : length d / 2 < length (get_or ps k []) → shows ps k d ≡ record { answer = Err ShortSlice; slice = d }
    unfolding shows
    shows-short h = rw (ne_eqb k (length ps) q, lt-ltb (length d / 2) (length (get_or ps k [])) h)

    pub shows-gives : length (get_or ps k []) ≤ length d / 2 → shows ps k d ≡ record { answer = Ok (Some (length (get_or ps k []))); slice = over (flat (bytes_of 2) (get_or ps k [])) d }
    unfolding shows
    shows-gives h = rw (ne_eqb k (length ps) q, le-ltb (length d / 2) (length (get_or ps k [])) h)

  -- and of the pulls after it
  module _ (ds : List (List ℕ)) where
    pub machine-done : k ≡ length ps → machine ps k (d ∷ ds) ≡ record { answer = Ok None; slice = d } ∷ machine ps k ds
    unfolding machine
    machine-done q = rw (shows-done q, add-zero)

    pub machine-short : (k ≡ length ps → ⊥) → length d / 2 < length (get_or ps k []) → machine ps k (d ∷ ds) ≡ record { answer = Err ShortSlice; slice = d } ∷ machine ps k ds
    unfolding machine
    machine-short q h = rw (shows-short q h, add-zero)

    pub machine-gives : (k ≡ length ps → ⊥) → length (get_or ps k []) ≤ length d / 2
        → machine ps k (d ∷ ds) ≡ record { answer = Ok (Some (length (get_or ps k []))); slice = over (flat (bytes_of 2) (get_or ps k [])) d } ∷ machine ps (k + 1) ds
    unfolding machine
    machine-gives q h = rw (shows-gives q h)

-- ---- a state between two pulls of a call with the periods ps

drop-taken : (n : ℕ) (l : List ℕ) → drop (length (take n l)) l ≡ drop n l
drop-taken zero l = refl
drop-taken (suc n) [] = refl
drop-taken (suc n) (x ∷ l) = drop-taken n l

-- the periods still to come
abbrev left : FilterState → Lent → List Part
left s l = cut s.order (drop s.period l.sizes) (drop (s.period * s.order) l.rows) (drop s.sample_place l.excitation)

record Between (l : Lent) (ps : List (List ℕ)) (s : FilterState) : Type 0 where
  order_low : s.order ≤ 32
  period_low : s.period ≤ length l.sizes
  place_low : s.sample_place ≤ length l.excitation
  least_in : in_scale s.coeff_min ≡ true
  range_in : in_scale s.coeff_range ≡ true
  rows_there : length l.sizes * s.order ≤ length l.rows
  goes_on : Continues s (left s l) (drop s.period ps)

module _ (l : Lent) (ps : List (List ℕ)) (whole : length ps ≡ length l.sizes) where
  row-there : (s : FilterState) → Between l ps s → (all_given s l || leb ((s.period + 1) * s.order) (length l.rows)) ≡ true
  row-there s b = ⊎_elim at-end not_end (eq-or-lt_of_le b.period_low)
    where
      at-end : s.period ≡ length l.sizes → (all_given s l || leb ((s.period + 1) * s.order) (length l.rows)) ≡ true
      at-end q = rw (eq-eqb _ _ q)

      or-true : (a b : Bool) → b ≡ true → (a || b) ≡ true
      or-true true b e = refl
      or-true false b e = e

      not_end : s.period < length l.sizes → (all_given s l || leb ((s.period + 1) * s.order) (length l.rows)) ≡ true
      not_end m =
          let a : suc s.period * s.order ≤ length l.sizes * s.order = mul-le-mul_right s.order m in
          let c : (s.period + 1) * s.order ≤ length l.rows = rw add-one (omega (arith, b.rows_there)) in
          or-true (all_given s l) _ (le-leb _ _ c)

  between-possible : (s : FilterState) → Between l ps s → possible s l ≡ true
  unfolding possible
  between-possible s b =
      every-cons _ _ (le-leb _ _ b.order_low)
      (every-cons _ _ (le-leb _ _ (continues-low b.goes_on))
      (every-cons _ _ (le-leb _ _ b.period_low)
      (every-cons _ _ (le-leb _ _ b.place_low)
      (every-cons _ _ b.least_in
      (every-cons _ _ b.range_in
      (every-cons _ _ (row-there s b) every-nil))))))

  -- before the last period is given
  module _ (s : FilterState) (b : Between l ps s) (more : s.period < length l.sizes) where
    abbrev p : Part
    p = next_part s l

    -- the periods after the next
    abbrev after : List Part
    after = cut s.order (drop (suc s.period) l.sizes) (drop s.order (drop (s.period * s.order) l.rows)) (drop (get_or l.sizes s.period 0) (drop s.sample_place l.excitation))

    left_is : left s l ≡ p ∷ after
    unfolding cut next_part
    left_is = ap (λ (zs : List ℕ). cut s.order zs (drop (s.period * s.order) l.rows) (drop s.sample_place l.excitation)) (drop-cons l.sizes s.period 0 more)

    row_low : length p.row ≤ s.order
    unfolding next_part
    row_low = rw length-take (omega arith)

    step : Steps s p after (drop s.period ps)
    step = let c = b.goes_on in let e = left_is in steps s p after (drop s.period ps) row_low (rw e at c)

    next-is : get_or ps s.period [] ∷ drop (suc s.period) ps ≡ step.first ∷ step.rest
    next-is = sym (drop-cons ps s.period [] (rw whole more)) ∙ step.whole

    same-samples : spoken s p ≡ get_or ps s.period []
    same-samples = let e = next-is in let n = step.now in cc

    same_count : length p.bytes ≡ length (get_or ps s.period [])
    same_count = let e = next-is in let f : get_or ps s.period [] ≡ step.first = cc in sym (ap length f ∙ step.count)

    bytes_low : s.sample_place + length p.bytes ≤ length l.excitation
    unfolding next_part
    bytes_low = rw (length-take, length-drop) (omega (arith, b.place_low))

    after_is : after ≡ left (advanced s p) l
    unfolding next_part
    after_is =
        let k = kept s p in
        let r : drop s.order (drop (s.period * s.order) l.rows) ≡ drop (suc s.period * s.order) l.rows = drop-drop s.order (s.period * s.order) l.rows ∙ rw suc-mul in
        let e : drop (get_or l.sizes s.period 0) (drop s.sample_place l.excitation) ≡ drop (s.sample_place + length p.bytes) l.excitation =
        sym (drop-taken (get_or l.sizes s.period 0) (drop s.sample_place l.excitation)) ∙ drop-drop (length p.bytes) s.sample_place l.excitation in
        let a = k.order in
        let b = k.period in
        let c = k.place in
        rw (a, b, c, add-one, r, e)

    next : Between l ps (advanced s p)
    next =
        let k = kept s p in
        let a = k.order in
        let c = k.period in
        let d = k.place in
        let f = k.least in
        let g = k.range in
        let e = next-is in
        let t : drop (suc s.period) ps ≡ step.rest = cc in
        let u : step.rest ≡ drop (advanced s p).period ps = sym t ∙ ap (λ (k : ℕ). drop k ps) (sym (c ∙ add-one s.period)) in
        let h = step.then in
        let i = after_is in
        record {
          order_low = rw a b.order_low;
          period_low = rw (c, add-one) more;
          place_low = rw d bytes_low;
          least_in = rw f b.least_in;
          range_in = rw g b.range_in;
          rows_there = rw a b.rows_there;
          goes_on = subst (λ (o : List (List ℕ)). Continues (advanced s p) (left (advanced s p) l) o) u (rw i at h);
        }

  -- one pull more, where what holds of the pulls after it is known
  one_more : (d : List ℕ) (ds : List (List ℕ)) → ((s : FilterState) → Between l ps s → pulls s l ds ≡ machine ps s.period ds)
      → (s : FilterState) → Between l ps s → pulls s l (d ∷ ds) ≡ machine ps s.period (d ∷ ds)
  unfolding pulls
  one_more d ds ih s b = ⊎_elim at-end not_end (eq-or-lt_of_le b.period_low)
    where
      possibly : possible s l ≡ true
      possibly = between-possible s b

      at-end : s.period ≡ length l.sizes → pulls s l (d ∷ ds) ≡ machine ps s.period (d ∷ ds)
      at-end q =
          let o = pull-done s l d possibly q in
          rw o (ap (λ (t : List Shown). record { answer = Ok None; slice = d } ∷ t) (ih s b) ∙ sym (machine-done ps s.period d ds (q ∙ sym whole)))

      not_end : s.period < length l.sizes → pulls s l (d ∷ ds) ≡ machine ps s.period (d ∷ ds)
      not_end m = by_order (length d / 2) (length (next_part s l).bytes) short enough
        where
          n : s.period ≡ length l.sizes → ⊥
          n q = omega arith

          n' : s.period ≡ length ps → ⊥
          n' q = omega arith

          c : length (next_part s l).bytes ≡ length (get_or ps s.period [])
          c = same_count s b m

          short : length d / 2 < length (next_part s l).bytes → pulls s l (d ∷ ds) ≡ machine ps s.period (d ∷ ds)
          short h =
              let o = pull-short s l d possibly n h in
              rw o (ap (λ (t : List Shown). record { answer = Err ShortSlice; slice = d } ∷ t) (ih s b) ∙ sym (machine-short ps s.period d ds n' (rw c at h)))

          enough : length (next_part s l).bytes ≤ length d / 2 → pulls s l (d ∷ ds) ≡ machine ps s.period (d ∷ ds)
          enough h =
              let o = pull-gives s l d possibly n h in
              let e = same-samples s b m in
              let k = (kept s (next_part s l)).period in
              let g : pulls (advanced s (next_part s l)) l ds ≡ machine ps (s.period + 1) ds = ih (advanced s (next_part s l)) (next s b m) ∙ ap (λ (j : ℕ). machine ps j ds) k in
              rw (o, g, c, e) (sym (machine-gives ps s.period d ds n' (rw c at h)))

  between-machine : (ds : List (List ℕ)) (s : FilterState) → Between l ps s → pulls s l ds ≡ machine ps s.period ds
  unfolding pulls machine
  between-machine [] s b = refl
  between-machine (d ∷ ds) s b = one_more d ds (λ s b. between-machine ds s b) s b

-- ---- from a fresh state, lent all rows of the sizes

pub fresh-machine : (t : ResynthType) (order : ℕ) (least range : Float) (l : Lent) (ds : List (List ℕ)) → order ≤ 32 → in_scale least ≡ true → in_scale range ≡ true
    → length l.sizes * order ≤ length l.rows
    → pulls (fresh_state t order least range) l ds ≡ machine (periods_by t least range (cut order l.sizes l.rows l.excitation)) 0 ds
unfolding fresh_state
fresh-machine t order least range l ds h a b r =
    let parts = cut order l.sizes l.rows l.excitation in
    between-machine l (periods_by t least range parts) (length-by t least range parts ∙ length_cut order l.sizes l.rows l.excitation) ds (fresh_state t order least range)
    (record { order_low = h; period_low = omega arith; place_low = omega arith; least_in = a; range_in = b; rows_there = r; goes_on = rw zero-mul (fresh-continues t order least range parts h) })
