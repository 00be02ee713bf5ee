-- Lines that were packed, 16 bytes each, read back.
use mathlib.Core.Path.{◌≡◌, refl, sym, ap, subst, ◌∙◌}
use mathlib.Core.List.{List, [], ◌∷◌, ◌++◌, append-nil}
use Prim.Native.Nat.{ℕ, zero, suc, ◌+◌, ◌*◌, ◌/◌, ◌^◌, ◌≤◌, ◌<◌}
use native.Mathlib.Nat.{zero-add, mod-eq_of_lt}
use native.Mathlib.Omega.{arith}
use lib.ListN.{length, get_or, get_or-append}
use Rattle.base.specs.Buffers.{flat}
use Rattle.base.specs.Bytes.{bytes_of, u32_at}
use Rattle.base.proofs.BoundLaws.{Each, nil, cons}
use Rattle.base.proofs.BufferLaws.{flat_append, length-flat, upto_is}
use Rattle.base.proofs.ByteLaws.{little_endian-flat}
use Rattle.reporting.specs.Report.{Line, line_bytes}
use Rattle.reporting.proofs.LineLaws.{length-lines}
use Rattle.report.specs.Packed.{line_at, lines_in, Short, Printable}

abbrev fields : Line → List ℕ
fields l = l.pair ∷ l.half ∷ l.first ∷ l.size ∷ []

abbrev no_line : Line
no_line = record { pair = 0; half = 0; first = 0; size = 0 }

length_fields : (ls : List Line) → length (flat fields ls) ≡ 4 * length ls
length_fields ls = length-flat fields 4 (λ l. refl) ls

flat-fields : (ls : List Line) → flat line_bytes ls ≡ flat (bytes_of 4) (flat fields ls)
unfolding flat line_bytes
flat-fields [] = refl
flat-fields (l ∷ ls) = ap (λ (t : List ℕ). line_bytes l ++ t) (flat-fields ls) ∙ sym (flat_append (bytes_of 4) (fields l) (flat fields ls))

each_at : (ls : List Line) → Each Short ls → (i : ℕ) → i < length ls → Short (get_or ls i no_line)
each_at [] nil i h = absurd (omega arith)
each_at (l ∷ ls) (cons s e) zero h = s
each_at (l ∷ ls) (cons s e) (suc i) h = each_at ls e i (omega arith)

field_at : (ls : List Line) (i j : ℕ) → i < length ls → j < 4 → get_or (flat fields ls) (4 * i + j) 0 ≡ get_or (fields (get_or ls i no_line)) j 0
unfolding flat
field_at [] i j h k = absurd (omega arith)
field_at (l ∷ ls) zero j h k = rw (zero-add j) (get_or-append (fields l) (flat fields ls) 0 j k)
field_at (l ∷ ls) (suc i) j h k =
    let e : 4 * suc i + j ≡ suc (suc (suc (suc (4 * i + j)))) = omega arith in
    rw e (field_at ls i j (omega arith) k)

same_line : {a b c d : ℕ} {l : Line} → a ≡ l.pair → b ≡ l.half → c ≡ l.first → d ≡ l.size → record { pair = a; half = b; first = c; size = d } ≡ l
same_line {a} {b} {c} {d} {l} p q r s = rw (p, q, r, s)

module _ (ls : List Line) (short : Each Short ls) where
  read : (i j : ℕ) → i < length ls → j < 4 → get_or (fields (get_or ls i no_line)) j 0 < 256 ^ 4 → u32_at (flat line_bytes ls) (4 * i + j) ≡ get_or (fields (get_or ls i no_line)) j 0
  read i j h k low =
      let n = length_fields ls in
      ap (λ (s : List ℕ). u32_at s (4 * i + j)) (flat-fields ls ∙ sym (append-nil (flat (bytes_of 4) (flat fields ls))))
      ∙ little_endian-flat 4 (flat fields ls) [] (4 * i + j) (omega arith)
      ∙ rw (field_at ls i j h k) (mod-eq_of_lt low)

  line-at : (i : ℕ) → i < length ls → line_at (flat line_bytes ls) i ≡ get_or ls i no_line
  line-at i h =
      let s = each_at ls short i h in
      let z : 4 * i ≡ 4 * i + 0 = omega arith in
      same_line (ap (u32_at (flat line_bytes ls)) z ∙ read i 0 h (omega arith) (omega (arith, s.pair)))
      (read i 1 h (omega arith) (omega (arith, s.half)))
      (read i 2 h (omega arith) (omega (arith, s.first)))
      (read i 3 h (omega arith) (omega (arith, s.size)))

  count : length (flat line_bytes ls) / 16 ≡ length ls
  count = let n = length-lines ls in omega arith

  pub lines-back : lines_in (flat line_bytes ls) ≡ ls
  unfolding lines_in
  lines-back = rw count (upto_is (line_at (flat line_bytes ls)) ls no_line line-at)

  pub printable : length ls ≤ 1024 → Printable (flat line_bytes ls)
  printable few =
      let n = length-lines ls in
      let c = count in
      record {
        few = omega arith;
        short = λ i h. let k : i < length ls = omega arith in subst Short (sym (line-at i k)) (each_at ls short i k);
      }
