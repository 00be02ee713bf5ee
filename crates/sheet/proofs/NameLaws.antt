-- Names: the part of the sheet that is one.
use Rattle.std.specs.Prelude.{Err, Ok, Result}
use Rattle.base.specs.declared.Span.{Span}
use Rattle.refusal.specs.declared.Refusal.{Refusal}
use Rattle.std.proofs.Common.{◌≡◌, ℕ, ◌+◌, ◌<◌, ◌≤◌, Bool, true, false, not, ◌||◌, ltb, List, length, take, drop, sym, refl, ap, ◌∙◌, arith, length-drop, drop-drop, le-ltb, lt-ltb}
use Rattle.std.specs.List.{slice_range}
use native.Mathlib.Nat.{add-sub_cancel_left}
use Rattle.refusal.specs.declared.Refusal.TheVariants.{BadSheet}
use Rattle.sheet.specs.Sheet.{Got, gets, malformed_if, ◌and_then◌, number, printable, name}
use Rattle.sheet.specs.Answers.{NameIs}
use Rattle.sheet.specs.declared.Read.{Read}
use Rattle.sheet.proofs.AnswerLaws.{read, test-passes, test-fails}

-- ---- after the length n

abbrev badly : ℕ → List ℕ → Bool
badly n r = ltb 32 n || (ltb (length r) n || not (printable (take n r)))

abbrev pub named : ℕ → List ℕ → Got (List ℕ)
named n r = malformed_if (badly n r) (gets (take n r) (drop n r))

pub name-named : (bs : List ℕ) → name bs ≡ (number bs and_then named)
unfolding name
name-named bs = refl

module _ (sheet : List ℕ) (from n : ℕ) where
  abbrev r : List ℕ
  r = drop from sheet

  abbrev pub Is : Result (Read Span) Refusal → Type 0
  Is x = NameIs sheet x (named n r)

  looked-is : slice_range sheet from (from + n) ≡ take n r
  looked-is = ap (λ (k : ℕ). take k r) (add-sub_cancel_left from n)

  malformed : badly n r ≡ true → Is (Err BadSheet)
  malformed e = test-passes (gets (take n r) (drop n r)) e

  pub name-long : 32 < n → Is (Err BadSheet)
  name-long h = malformed (let t = lt-ltb 32 n h in rw t)

  pub name-cut : n ≤ 32 → from ≤ length sheet → length sheet < from + n → Is (Err BadSheet)
  name-cut l h k =
      let t = le-ltb 32 n l in
      let c : length r < n = rw length-drop (omega arith) in
      let u = lt-ltb (length r) n c in
      malformed (rw (t, u))

  module _ (l : n ≤ 32) (h : from + n ≤ length sheet) (bytes : List ℕ) (e : bytes ≡ slice_range sheet from (from + n)) where
    by_bytes : (t : Bool) → printable bytes ≡ t → badly n r ≡ not t
    by_bytes t p =
        let q = ap printable (sym (e ∙ looked-is)) ∙ p in
        let u = le-ltb 32 n l in
        let c : n ≤ length r = rw length-drop (omega arith) in
        let v = le-ltb (length r) n c in
        rw (u, v, q)

    pub name-bad : printable bytes ≡ false → Is (Err BadSheet)
    name-bad p = malformed (by_bytes false p)

    pub name-good : printable bytes ≡ true → Is (Ok (record { value = record { at = from; len = n }; next = from + n }))
    name-good p = test-fails (by_bytes true p) (read (ap (gets (take n r)) (drop-drop n from sheet)) h h)
