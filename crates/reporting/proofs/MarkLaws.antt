-- The marks at the end of the lines: a line stored before them leaves them.
use mathlib.Core.Path.{◌≡◌, refl, sym, ap, ◌∙◌}
use mathlib.Core.List.{List, [], ◌∷◌, ◌++◌, append-nil}
use Prim.Native.Nat.{ℕ, suc, ◌+◌, ◌-◌, ◌*◌, ◌≤◌, ◌<◌}
use native.Mathlib.Omega.{arith}
use lib.ListN.{length, take, drop, get_or, set, length-drop, drop_of_length-le}
use lib.Seq.{sets, take_all, drop-set-lt, ext_get_or, get_or-drop}
use Rattle.base.specs.Buffers.{over}
use Rattle.base.specs.Bytes.{little_endian, elements, u32_at}
use Rattle.base.proofs.ByteLaws.{length-elements, get_or-elements, little_endian-drop}
use Rattle.taking.proofs.UnitLaws.{mark-next}
use Rattle.reporting.specs.Reporting.{marks_ahead}

-- what is stored before a place leaves all from there on
drop-sets : {A : Type 0} (n : ℕ) (l : List A) (i : ℕ) (xs : List A) → i + length xs ≤ n → drop n (sets l i xs) ≡ drop n l
drop-sets n l i [] h = refl
drop-sets n l i (x ∷ xs) h = drop-sets n (set l i x) (suc i) xs (omega arith) ∙ drop-set-lt n l i x (omega arith)

-- the elements from number i on are those of the bytes from there on
pub drop-elements : (s : List ℕ) (i : ℕ) → drop i (elements 4 s) ≡ elements 4 (drop (4 * i) s)
drop-elements s i = ext_get_or 0 (drop i (elements 4 s)) (elements 4 (drop (4 * i) s)) long each
  where
    long : length (drop i (elements 4 s)) ≡ length (elements 4 (drop (4 * i) s))
    long =
        let a = length-drop i (elements 4 s) in
        let b = length-elements 4 s in
        let c = length-elements 4 (drop (4 * i) s) in
        let d = length-drop (4 * i) s in
        omega arith

    each : (j : ℕ) → j < length (drop i (elements 4 s)) → get_or (drop i (elements 4 s)) j 0 ≡ get_or (elements 4 (drop (4 * i) s)) j 0
    each j h =
        let a = length-drop i (elements 4 s) in
        let b = length-elements 4 s in
        let d = length-drop (4 * i) s in
        let e : 4 * (i + j) ≡ 4 * i + 4 * j = omega arith in
        get_or-drop i (elements 4 s) j 0
        ∙ get_or-elements 4 s (i + j) (omega arith)
        ∙ ap (little_endian 4 s) e
        ∙ sym (get_or-elements 4 (drop (4 * i) s) j (omega arith) ∙ little_endian-drop 4 s (4 * i) (4 * j))

module _ (count : ℕ) (lines : List ℕ) (long : length lines ≡ 16 * count) (taken : ℕ) where
  module _ (h : taken < count) where
    pub ahead-next : marks_ahead count lines taken ≡ u32_at lines (3 * count + taken) ∷ marks_ahead count lines (taken + 1)
    ahead-next =
        let e : 3 * count + taken + 1 ≡ 3 * count + (taken + 1) = omega arith in
        mark-next lines (3 * count + taken) (omega arith)
        ∙ ap (λ (n : ℕ). u32_at lines (3 * count + taken) ∷ drop n (elements 4 lines)) e

    -- a line of 16 bytes is stored over no mark after its own
    pub ahead-kept : (line : List ℕ) → length line ≡ 16 → marks_ahead count (sets lines (16 * taken) line) (taken + 1) ≡ marks_ahead count lines (taken + 1)
    ahead-kept line n =
        let i = 3 * count + (taken + 1) in
        drop-elements (sets lines (16 * taken) line) i
        ∙ ap (elements 4) (drop-sets (4 * i) lines (16 * taken) line (omega arith))
        ∙ sym (drop-elements lines i)

-- ---- a part `lines[a..]`

module _ (lines : List ℕ) (a : ℕ) where
  pub rest-whole : take (length lines - a) (drop a lines) ≡ drop a lines
  rest-whole = let l = length-drop a lines in take_all (length lines - a) (drop a lines) (omega arith)

  pub rest-long : length (take (length lines - a) (drop a lines)) ≡ length (drop a lines)
  rest-long = ap length rest-whole

  -- it was lent, and came back as p
  pub rest_back : (x p : List ℕ) → p ≡ over x (take (length lines - a) (drop a lines))
      → take a lines ++ (p ++ drop (length lines - a) (drop a lines)) ≡ take a lines ++ over x (drop a lines)
  rest_back x p e =
      let l = length-drop a lines in
      ap (λ (q : List ℕ). take a lines ++ (p ++ q)) (drop_of_length-le (drop a lines) {i = length lines - a} (omega arith))
      ∙ ap (λ (q : List ℕ). take a lines ++ q) (append-nil p ∙ e)
      ∙ ap (λ (q : List ℕ). take a lines ++ over x q) rest-whole
