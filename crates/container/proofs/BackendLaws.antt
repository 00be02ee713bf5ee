-- The backend's name, with white space around it.
use mathlib.Core.Path.{◌≡◌, refl, sym, ap, ◌∙◌}
use mathlib.Core.Bool.{Bool, true, false}
use mathlib.Core.List.{List, []}
use mathlib.Core.Logic.{⊎_elim}
use Prim.Native.Nat.{ℕ, ◌+◌, ◌-◌, ◌≤◌, ◌<◌}
use native.Mathlib.Omega.{arith}
use borrow.Author.Tests.{eqb-true, eqb-false}
use lib.Dec.{eqb}
use lib.ListN.{length, take, drop, length-take, length-drop, drop_of_length-le}
use lib.Seq.{drop-drop, drop-cons}
use native.Mathlib.Nat.{eq-or-lt_of_le}
use Rattle.base.specs.Text.{ascii}
use Rattle.text.specs.Names.{same}
use Rattle.text.specs.Trim.{trim_start, trim_end}
use Rattle.text.proofs.NameLaws.{same-short}
use Rattle.text.proofs.TrimLaws.{same-trim_end}

abbrev diphone : List ℕ
diphone = ascii "diphone"

-- nothing is left exactly at the end
same_rest : (s : List ℕ) (r : ℕ) → r ≤ length s → same (drop r s) [] ≡ eqb r (length s)
unfolding same
same_rest s r h = by (eqb r (length s)) refl
  where
    by : (t : Bool) → eqb r (length s) ≡ t → same (drop r s) [] ≡ t
    by true e = let l = eqb-true r (length s) e in let m : length s ≤ r = omega (arith, l) in ap (λ (d : List ℕ). same d []) (drop_of_length-le s m)
    by false e = let l = eqb-false r (length s) e in ap (λ (d : List ℕ). same d []) (drop-cons s r 0 (below l))
      where
        below : (r ≡ length s → ⊥) → r < length s
        below n = ⊎_elim (λ q. absurd (n q)) (λ l. l) (eq-or-lt_of_le h)

module _ (s : List ℕ) (from : ℕ) where
  abbrev said : Bool
  said = same (trim_end (drop from s)) diphone

  pub said-short : length s - from < 7 → said ≡ false
  said-short h =
      let e = same-short (take 7 (drop from s)) diphone (rw (length-take, length-drop) (omega arith)) in
      same-trim_end diphone (drop from s) refl ∙ rw e

  pub said-other : same (take 7 (drop from s)) diphone ≡ false → said ≡ false
  said-other e = same-trim_end diphone (drop from s) refl ∙ rw e

  -- the part that is compared
  pub same-part : (k : ℕ) → k ≡ 7 → same (take 7 (drop from s)) diphone ≡ same (take k (drop from s)) diphone
  same-part k e = ap (λ (n : ℕ). same (take n (drop from s)) diphone) (sym e)

  pub said-then : (r : ℕ) → same (take 7 (drop from s)) diphone ≡ true → drop r s ≡ trim_start (drop (from + 7) s) → r ≤ length s → said ≡ eqb r (length s)
  said-then r e f h =
      same-trim_end diphone (drop from s) refl
      ∙ rw e (ap (λ (l : List ℕ). same (trim_start l) []) (drop-drop 7 from s) ∙ ap (λ (l : List ℕ). same l []) (sym f) ∙ same_rest s r h)
