-- The lengths of a head, the fronts of buffers, and the kind of a text.
use mathlib.Core.Path.{◌≡◌, refl, sym, ap, subst, ◌∙◌}
use mathlib.Core.Bool.{Bool, cond, true, false}
use mathlib.Core.List.{List}
use Prim.Native.Nat.{ℕ, zero, suc, ◌+◌, ◌-◌, ◌≤◌, ◌<◌}
use native.Mathlib.Omega.{arith}
use native.Mathlib.Numerals.{add-one}
use borrow.Author.Tests.{leb-true, le-leb}
use lib.Dec.{eqb, leb}
use lib.ListN.{length, get_or, take, replicate}
use Rattle.std.specs.List.{count_by}
use Rattle.std.proofs.lemmas.List.Recursion.{is_count_by}
use Rattle.base.specs.Choice.{pick}
use Rattle.base.proofs.CaseLaws.{by_order}
use Rattle.base.proofs.ListLaws.{and_left, and_right}
use Rattle.text.specs.Names.{same}
use Rattle.call.specs.declared.Settings.{Settings}
use Rattle.call.specs.Buffers.{lent}
use Rattle.lines.specs.Lines.{Puts, refused}
use Rattle.lines.proofs.PutLaws.{put-taken}
use Rattle.transcript.specs.CallText.{call_text}
use Rattle.call.specs.Numbers.{settings_of}
use Rattle.replay.specs.Stored.{length_at, limits, fitting, fits, buffers_of, text_of, kind_up_to, lines_in}

-- ---- lengths and limits

module _ (head : List ℕ) where
  pub fitting-none : fitting head 0 ≡ true
  unfolding fitting
  fitting-none = refl

  pub fitting-more : (n : ℕ) → fitting head n ≡ true → length_at head n ≤ get_or limits n 0 → fitting head (n + 1) ≡ true
  unfolding fitting
  fitting-more n e h = rw (add-one, e, le-leb _ _ h)

  pub fitting-at : (n i : ℕ) → i < n → fitting head n ≡ true → length_at head i ≤ get_or limits i 0
  unfolding fitting
  fitting-at zero i h e = absurd (omega arith)
  fitting-at (suc n) i h e =
      let low : fitting head n ≡ true = and_left (fitting head n) (leb (length_at head n) (get_or limits n 0)) e in
      let last : leb (length_at head n) (get_or limits n 0) ≡ true = and_right (fitting head n) (leb (length_at head n) (get_or limits n 0)) e in
      by_order i n (λ l. fitting-at n i l low) (λ l. let q : n ≡ i = omega arith in subst (λ (j : ℕ). length_at head j ≤ get_or limits j 0) q (leb-true _ _ last))

  pub fitting-not : (n i : ℕ) → i < n → get_or limits i 0 < length_at head i → false ≡ fitting head n
  fitting-not n i h l = by (fitting head n) refl
    where
      by : (b : Bool) → fitting head n ≡ b → false ≡ b
      by false e = refl
      by true e = let m = fitting-at n i h e in absurd (omega (arith, m, l))

  pub fitting-all : (n : ℕ) → n ≤ 9 → 9 ≤ n → fitting head n ≡ true → true ≡ fits head
  fitting-all n h l e = let q : n ≡ 9 = omega arith in sym (subst (λ (m : ℕ). fitting head m ≡ true) q e)

-- ---- buffers

pub text-by : (head voice sheet : List ℕ) {s : Settings} {a b c d e f : ℕ} → s ≡ settings_of (get_or head 1 0)
    → a ≡ length_at head 2 → b ≡ length_at head 3 → c ≡ length_at head 4 → d ≡ length_at head 5 → e ≡ length_at head 6 → f ≡ length_at head 7
    → call_text voice sheet s (lent (take a (replicate 8192 0)) (take b (replicate 4096 0)) (take c (replicate 4096 0)) (take d (replicate 2048 0)) (take e (replicate 4096 255)) (take f (replicate 1024 0)))
    ≡ text_of head voice sheet
unfolding text_of buffers_of
text-by head voice sheet qs qa qb qc qd qe qf = rw (qs, qa, qb, qc, qd, qe, qf)

-- ---- a text that was put, compared with another

module _ {d e s : List ℕ} {n : ℕ} (p : Puts d 0 s e n) (h : n ≤ length d) where
  pub put_same : {r : Bool} (want : List ℕ) → r ≡ same (take n e) want → r ≡ same s want
  put_same want q = q ∙ ap (λ (t : List ℕ). same t want) (put-taken p h)

-- ---- kinds

module _ (text : List ℕ) where
  pub kind-none : (n : ℕ) → n ≤ 1 → 0 ≡ kind_up_to text (n - 1)
  unfolding kind_up_to
  kind-none n h = let q : n - 1 ≡ 0 = omega arith in rw q

  pub kind-here : (n : ℕ) → 0 < n → same (refused n) text ≡ true → kind_up_to text n ≡ n
  unfolding kind_up_to
  kind-here zero h e = absurd (omega arith)
  kind-here (suc n) h e = rw e

  pub kind-below : (n : ℕ) → 0 < n → same (refused n) text ≡ false → kind_up_to text n ≡ kind_up_to text (n - 1)
  unfolding kind_up_to
  kind-below zero h e = absurd (omega arith)
  kind-below (suc n) h e = let q : suc n - 1 ≡ n = omega arith in rw (e, q)

-- ---- lines

abbrev pub ends : ℕ → Bool
ends byte = eqb byte 10

pub lines-count : (text : List ℕ) → lines_in text ≡ count_by ends text
unfolding lines_in
lines-count = is_count_by lines_in ends refl (λ byte text. one (ends byte) (lines_in text))
  where
    one : (b : Bool) (n : ℕ) → pick b 1 0 + n ≡ cond b (1 + n) n
    one true n = refl
    one false n = omega arith
