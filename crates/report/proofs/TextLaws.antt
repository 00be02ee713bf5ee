-- The lines of a report, put one after the other.
use mathlib.Core.Path.{◌≡◌, refl, sym, ap, ◌∙◌}
use mathlib.Core.List.{List, [], ◌∷◌, ◌++◌, append_assoc, append-nil}
use Prim.Native.Nat.{ℕ, zero, suc, ◌+◌, ◌*◌}
use native.Mathlib.Omega.{arith}
use lib.ListN.{length}
use Rattle.base.specs.Buffers.{flat, upto}
use Rattle.base.proofs.BufferLaws.{length-upto, flat-snoc}
use Rattle.base.specs.Bytes.{u32_at}
use Rattle.lines.specs.Lines.{report_line}
use Rattle.reporting.specs.Report.{Line}
use Rattle.report.specs.ReportText.{line_text, lines_text}
use Rattle.report.specs.Packed.{line_at}

text-snoc : (n : ℕ) (ls : List Line) (l : Line) → lines_text n (ls ++ (l ∷ [])) ≡ lines_text n ls ++ line_text (n + length ls) l
unfolding lines_text
text-snoc n [] l = let z : n + 0 ≡ n = omega arith in rw (append-nil, z)
text-snoc n (x ∷ ls) l =
    let e : suc n + length ls ≡ n + suc (length ls) = omega arith in
    ap (λ (t : List ℕ). line_text n x ++ t) (text-snoc (suc n) ls l ∙ ap (λ (m : ℕ). lines_text (suc n) ls ++ line_text m l) e)
    ∙ sym (append_assoc (line_text n x) (lines_text (suc n) ls) (line_text (n + suc (length ls)) l))

-- lines by their places
pub text-upto : (f : ℕ → Line) (n : ℕ) → lines_text 1 (upto f n) ≡ flat (λ (t : List ℕ). t) (upto (λ (k : ℕ). line_text (k + 1) (f k)) n)
unfolding lines_text flat upto
text-upto f zero = refl
text-upto f (suc n) =
    let e : 1 + length (upto f n) ≡ n + 1 = rw (length-upto f n) (omega arith) in
    text-snoc 1 (upto f n) (f n)
    ∙ rw (e, text-upto f n) (sym (flat-snoc (λ (t : List ℕ). t) (upto (λ (k : ℕ). line_text (k + 1) (f k)) n) (line_text (n + 1) (f n))))

-- the line of numbers that were read
pub line_read : {pair half first size : ℕ} (bytes : List ℕ) (k : ℕ) → pair ≡ u32_at bytes (4 * k) → half ≡ u32_at bytes (4 * k + 1) → first ≡ u32_at bytes (4 * k + 2) → size ≡ u32_at bytes (4 * k + 3)
    → report_line (k + 1) pair half first size ≡ line_text (k + 1) (line_at bytes k)
line_read bytes k p q r s = rw (p, q, r, s)
