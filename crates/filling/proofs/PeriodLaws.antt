-- What taken periods leave in the buffers, in parts and as a whole.
use mathlib.Core.Path.{◌≡◌, refl, sym, ap, ◌∙◌}
use mathlib.Core.List.{List, [], ◌∷◌, ◌++◌, map-append}
use Prim.Native.Nat.{ℕ, ◌+◌, ◌*◌, ◌≤◌}
use native.Mathlib.Nat.{mul-add, mul_comm, zero-mul}
use native.Mathlib.Omega.{arith}
use lib.ListN.{length, length-append, length-map}
use lib.Dec.{ltb}
use lib.Seq.{sets}
use Rattle.base.specs.Choice.{pick}
use Rattle.base.specs.Buffers.{over, flat}
use Rattle.base.specs.Bytes.{bytes_of}
use Rattle.base.proofs.BufferLaws.{over-nil, sets-append, sets_over, flat_append, length-flat}
use Rattle.base.proofs.ByteLaws.{length-bytes_of}
use Rattle.voice.specs.Header.{codec_of}
use Rattle.voice.specs.Voice.{Voice}
use Rattle.voice.specs.Periods.{residual_of}
use Rattle.excitation.specs.Source.{decoded_by}
use Rattle.excitation.specs.Taken.{Period, sizes_of, rows_of, excitation_of, decoded_over}
use Rattle.excitation.proofs.SizedLaws.{Sized, rows-length}
use Rattle.taking.proofs.PeriodLaws.{decoded-over}
use Rattle.filling.specs.Filling.{PeriodBuffers, lent_periods, fill_periods, HasRoom}

-- ---- in two parts

-- bytes that are stored in two parts, the second from j on
sets-parts : (d : List ℕ) (i j : ℕ) (x y z : List ℕ) → z ≡ x ++ y → i + length x ≡ j → sets d i z ≡ sets (sets d i x) j y
sets-parts d i j x y z e f = ap (sets d i) e ∙ sets-append d i x y ∙ ap (λ (k : ℕ). sets (sets d i x) k y) f

pub same-buffers : {s s₁ r r₁ e e₁ d d₁ : List ℕ} → s ≡ s₁ → r ≡ r₁ → e ≡ e₁ → d ≡ d₁ → lent_periods s r e d ≡ lent_periods s₁ r₁ e₁ d₁
same-buffers p q r s = cc

decoded-append : (v : Voice) (d : List ℕ) (ps qs : List Period) → decoded_over v d (ps ++ qs) ≡ decoded_over v (decoded_over v d ps) qs
unfolding decoded_over
decoded-append v d [] qs = refl
decoded-append v d (p ∷ ps) qs =
    decoded-append v (pick (ltb 0 p.size) (over (decoded_by (codec_of v.header) (residual_of v p.number)) d) d) ps qs

sizes-bytes : (ps : List Period) → length (flat (bytes_of 4) (sizes_of ps)) ≡ 4 * length ps
unfolding sizes_of
sizes-bytes ps = length-flat (bytes_of 4) 4 (length-bytes_of 4) (sizes_of ps) ∙ ap (λ (n : ℕ). 4 * n) (length-map ps (λ (p : Period). p.size))

pub rows-count : (order : ℕ) (ps : List Period) → Sized order ps → length (rows_of ps) ≡ order * length ps
unfolding sizes_of
rows-count order ps s = rows-length order ps s ∙ ap (λ (n : ℕ). n * order) (length-map ps (λ (p : Period). p.size)) ∙ mul_comm (length ps) order

rows-bytes : (order : ℕ) (ps : List Period) → Sized order ps → length (flat (bytes_of 2) (rows_of ps)) ≡ 2 * (order * length ps)
rows-bytes order ps s = length-flat (bytes_of 2) 2 (length-bytes_of 2) (rows_of ps) ∙ ap (λ (n : ℕ). 2 * n) (rows-count order ps s)

module _ (v : Voice) (taken mark : ℕ) (ps qs : List Period) (s : Sized v.header.order ps) (mark₁ : ℕ) (m : mark + length (excitation_of ps) ≡ mark₁) (b : PeriodBuffers) where
  abbrev n : ℕ
  n = length ps

  pub fill-append : fill_periods v taken mark (ps ++ qs) b ≡ fill_periods v (taken + length ps) mark₁ qs (fill_periods v taken mark ps b)
  unfolding fill_periods sizes_of rows_of excitation_of
  fill-append =
      let order = v.header.order in
      let a : 4 * taken + length (flat (bytes_of 4) (sizes_of ps)) ≡ 4 * (taken + n) = rw (sizes-bytes ps) (omega arith) in
      let c : 2 * (order * taken) + length (flat (bytes_of 2) (rows_of ps)) ≡ 2 * (order * (taken + n)) = rw (rows-bytes order ps s, mul-add) (omega arith) in
      same-buffers
      (sets-parts b.sizes (4 * taken) (4 * (taken + n)) (flat (bytes_of 4) (sizes_of ps)) (flat (bytes_of 4) (sizes_of qs)) _ (ap (flat (bytes_of 4)) (map-append (λ (p : Period). p.size) ps qs) ∙ flat_append (bytes_of 4) (sizes_of ps) (sizes_of qs)) a)
      (sets-parts b.rows (2 * (order * taken)) (2 * (order * (taken + n))) (flat (bytes_of 2) (rows_of ps)) (flat (bytes_of 2) (rows_of qs)) _ (ap (flat (bytes_of 2)) (flat_append (λ (p : Period). p.row) ps qs) ∙ flat_append (bytes_of 2) (rows_of ps) (rows_of qs)) c)
      (sets-parts b.excitation mark mark₁ (excitation_of ps) (excitation_of qs) _ (flat_append (λ (p : Period). p.bytes) ps qs) m)
      (decoded-append v b.decoded ps qs)

  module _ (r : HasRoom v taken mark (ps ++ qs) b) where
    both : length (ps ++ qs) ≡ n + length qs
    both = length-append ps qs

    both_bytes : length (excitation_of (ps ++ qs)) ≡ length (excitation_of ps) + length (excitation_of qs)
    unfolding excitation_of
    both_bytes = ap length (flat_append (λ (p : Period). p.bytes) ps qs) ∙ length-append (excitation_of ps) (excitation_of qs)

    both-rows : v.header.order * (taken + length (ps ++ qs)) ≡ v.header.order * (taken + n) + v.header.order * length qs
    both-rows = let e : taken + length (ps ++ qs) ≡ taken + n + length qs = let l = both in omega arith in ap (λ (k : ℕ). v.header.order * k) e ∙ mul-add v.header.order (taken + n) (length qs)

    pub room-first : HasRoom v taken mark ps b
    room-first =
        let l = both in
        let e = both_bytes in
        let w = both-rows in
        record { sizes = omega (arith, r.sizes); rows = omega (arith, r.rows); excitation = omega (arith, r.excitation); decoded = r.decoded }

    pub room-rest : (b₁ : PeriodBuffers) → length b₁.sizes ≡ length b.sizes → length b₁.rows ≡ length b.rows → length b₁.excitation ≡ length b.excitation
        → length b₁.decoded ≡ length b.decoded → HasRoom v (taken + n) mark₁ qs b₁
    room-rest b₁ h i j k =
        let l = both in
        let e = both_bytes in
        let w = both-rows in
        let x : v.header.order * (taken + n + length qs) ≡ v.header.order * (taken + n) + v.header.order * length qs = mul-add v.header.order (taken + n) (length qs) in
        record { sizes = omega (arith, r.sizes); rows = omega (arith, r.rows); excitation = omega (arith, r.excitation); decoded = omega (arith, r.decoded) }

-- ---- no period

pub fill_none : (v : Voice) (taken mark : ℕ) (b : PeriodBuffers) → fill_periods v taken mark [] b ≡ b
unfolding fill_periods sizes_of rows_of excitation_of decoded_over flat
fill_none v taken mark b = refl

-- ---- from the front

pub record OverEach (v : Voice) (ps : List Period) (b b₁ : PeriodBuffers) : Type 0 where
  pub sizes : b₁.sizes ≡ over (flat (bytes_of 4) (sizes_of ps)) b.sizes
  pub rows : b₁.rows ≡ over (flat (bytes_of 2) (rows_of ps)) b.rows
  pub excitation : b₁.excitation ≡ over (excitation_of ps) b.excitation
  pub decoded : b₁.decoded ≡ over (decoded_over v [] ps) b.decoded

pub fill-over : (v : Voice) (ps : List Period) (b : PeriodBuffers) → Sized v.header.order ps → HasRoom v 0 0 ps b → OverEach v ps b (fill_periods v 0 0 ps b)
unfolding fill_periods
fill-over v ps b s r =
    let order = v.header.order in
    let z : order * 0 ≡ 0 = mul_comm order 0 ∙ zero-mul order in
    let n : 0 + length ps ≡ length ps = omega arith in
    let w = r.rows in
    let w₁ : 2 * (order * length ps) ≤ length b.rows = rw n at w in
    let x = sizes-bytes ps in
    let y = rows-bytes order ps s in
    record {
      sizes = sets_over (flat (bytes_of 4) (sizes_of ps)) b.sizes (omega (arith, r.sizes));
      rows = ap (λ (k : ℕ). sets b.rows (2 * k) (flat (bytes_of 2) (rows_of ps))) z ∙ sets_over (flat (bytes_of 2) (rows_of ps)) b.rows (omega arith);
      excitation = sets_over (excitation_of ps) b.excitation (omega (arith, r.excitation));
      decoded = sym (decoded-over v ps [] b.decoded ∙ ap (λ (l : List ℕ). decoded_over v l ps) (over-nil b.decoded));
    }
