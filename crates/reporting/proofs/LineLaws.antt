-- The loop that stores a unit's lines, one turn at a time.
use mathlib.Core.Path.{◌≡◌, refl, sym, ap, subst, ◌∙◌}
use mathlib.Core.Bool.{Bool}
use mathlib.Core.List.{List, [], ◌∷◌, append-nil}
use Prim.Native.Nat.{ℕ, suc, ◌+◌, ◌-◌, ◌*◌, ◌/◌, ◌^◌, ◌≤◌, ◌<◌, max}
use native.Mathlib.Omega.{arith}
use lib.ListN.{length, take, drop, length-drop}
use lib.Seq.{sets, length-sets, drop-drop}
use Rattle.base.specs.Buffers.{flat}
use Rattle.base.specs.Bytes.{bytes_of, elements, u32_at}
use Rattle.base.proofs.BufferLaws.{sets-append, length-flat}
use Rattle.base.proofs.ByteLaws.{length-bytes_of}
use Rattle.units.specs.declared.Unit.{Unit}
use Rattle.marks.specs.Checking.{last_of}
use Rattle.marks.specs.Rising.{Rising}
use Rattle.excitation.specs.Shares.{share_count}
use Rattle.reporting.specs.declared.Reached.{Reached}
use Rattle.reporting.specs.Report.{Line, lines_of_marks, line_bytes}
use Rattle.reporting.specs.Reporting.{marks_ahead, CanReport, Reports}
use Rattle.reporting.proofs.MarkLaws.{drop-elements, ahead-next, ahead-kept}

-- ---- one line

pub length-line : (l : Line) → length (line_bytes l) ≡ 16
unfolding line_bytes
length-line l = length-flat (bytes_of 4) 4 (length-bytes_of 4) (l.pair ∷ l.half ∷ l.first ∷ l.size ∷ [])

pub length-lines : (ls : List Line) → length (flat line_bytes ls) ≡ 16 * length ls
length-lines ls = length-flat line_bytes 16 length-line ls

pub line-put : (a b c d e : List ℕ) (i pair half first size : ℕ) → b ≡ sets a (4 * (4 * i)) (bytes_of 4 pair) → c ≡ sets b (4 * (4 * i + 1)) (bytes_of 4 half)
    → d ≡ sets c (4 * (4 * i + 2)) (bytes_of 4 first) → e ≡ sets d (4 * (4 * i + 3)) (bytes_of 4 size) → e ≡ sets a (16 * i) (line_bytes (record { pair = pair; half = half; first = first; size = size }))
unfolding line_bytes flat
line-put a b c d e i pair half first size p q r s =
    let x : 4 * (4 * i) ≡ 16 * i = omega arith in
    let y : 4 * (4 * i + 1) ≡ 16 * i + 4 = omega arith in
    let z : 4 * (4 * i + 2) ≡ 16 * i + 4 + 4 = omega arith in
    let w : 4 * (4 * i + 3) ≡ 16 * i + 4 + 4 + 4 = omega arith in
    s ∙ rw (r, q, p, x, y, z, w, append-nil, sets-append, sets-append, sets-append, length-bytes_of, length-bytes_of, length-bytes_of)

-- ---- what is still to store: with the lines so far it is all that is to be left behind

pub record Whole : Type 0 where
  pub taken : ℕ
  pub mark : ℕ
  pub ahead : List ℕ
  pub lines : List ℕ

-- once n of the marks ms are reported
abbrev pub whole : Unit → ℕ → ℕ → ℕ → List ℕ → List ℕ → Whole
whole u n taken mark ms lines =
    record {
      taken = taken + n;
      mark = last_of mark (take n ms);
      ahead = drop n ms;
      lines = sets lines (16 * taken) (flat line_bytes (lines_of_marks u mark (take n ms)));
    }

-- the marks before number `end` are still to report
pub record Writing (u : Unit) (count end : ℕ) (w : Whole) (to : Reached) (lines : List ℕ) : Type 0 where
  pub all : whole u (end - to.taken) to.taken to.mark (marks_ahead count lines to.taken) lines ≡ w
  pub long : length lines ≡ 16 * count
  pub reach : to.taken ≤ end
  pub within : end ≤ count
  pub mark_low : to.mark < 2 ^ 32
  pub rising : Rising to.mark (marks_ahead count lines to.taken)

same_whole : {t t₁ m m₁ : ℕ} {a a₁ l l₁ : List ℕ} → t ≡ t₁ → m ≡ m₁ → a ≡ a₁ → l ≡ l₁
    → ◌≡◌ {A = Whole} (record { taken = t; mark = m; ahead = a; lines = l }) (record { taken = t₁; mark = m₁; ahead = a₁; lines = l₁ })
same_whole p q r s = cc

module _ (u : Unit) (taken mark : ℕ) (lines : List ℕ) where
  whole-none : (ms : List ℕ) → whole u 0 taken mark ms lines ≡ record { taken = taken; mark = mark; ahead = ms; lines = lines }
  unfolding last_of lines_of_marks flat
  whole-none ms = let z : taken + 0 ≡ taken = omega arith in rw z

  -- one mark more
  whole-next : (n m : ℕ) (ms : List ℕ)
      → whole u (suc n) taken mark (m ∷ ms) lines ≡ whole u n (taken + 1) m ms (sets lines (16 * taken) (line_bytes (record { pair = u.pair; half = u.half; first = mark; size = m - mark })))
  unfolding last_of lines_of_marks flat
  whole-next n m ms =
      let line : Line = record { pair = u.pair; half = u.half; first = mark; size = m - mark } in
      let a : taken + suc n ≡ taken + 1 + n = omega arith in
      let l = length-line line in
      let b : 16 * taken + length (line_bytes line) ≡ 16 * (taken + 1) = omega arith in
      same_whole a refl refl
      (sets-append lines (16 * taken) (line_bytes line) (flat line_bytes (lines_of_marks u m (take n ms)))
      ∙ ap (λ (k : ℕ). sets (sets lines (16 * taken) (line_bytes line)) k (flat line_bytes (lines_of_marks u m (take n ms)))) b)

-- what is left behind in the end
abbrev pub whole_of : Bool → Unit → ℕ → Reached → List ℕ → Whole
whole_of natural u count at lines =
    let ms = marks_ahead count lines at.taken in
    whole u (share_count natural u ms) at.taken at.mark ms lines

-- the marks at the end of the lines, lent by themselves
pub lent-ahead : (count : ℕ) (lines : List ℕ) (taken : ℕ) → drop taken (elements 4 (drop (12 * count) lines)) ≡ marks_ahead count lines taken
lent-ahead count lines taken =
    let e : 12 * count ≡ 4 * (3 * count) = omega arith in
    ap (λ (n : ℕ). drop taken (elements 4 (drop n lines))) e
    ∙ ap (drop taken) (sym (drop-elements lines (3 * count)))
    ∙ drop-drop taken (3 * count) (elements 4 lines)

module _ (natural : Bool) (u : Unit) (count : ℕ) (at : Reached) (lines : List ℕ) (h : CanReport u count at lines) (marks : List ℕ) (is : marks ≡ drop (12 * count) lines)
    (end : ℕ) (e : (end ≡ at.taken + share_count natural u (drop at.taken (elements 4 marks))) × (end ≤ max at.taken (length marks / 4))) where
  abbrev ms : List ℕ
  ms = marks_ahead count lines at.taken

  ends_at : end ≡ at.taken + share_count natural u ms
  ends_at =
      e.0
      ∙ ap (λ (l : List ℕ). at.taken + share_count natural u (drop at.taken (elements 4 l))) is
      ∙ ap (λ (l : List ℕ). at.taken + share_count natural u l) (lent-ahead count lines at.taken)

  pub writing-first : Writing u count end (whole_of natural u count at lines) at lines
  writing-first =
      let n : share_count natural u ms ≡ end - at.taken = let a = ends_at in omega arith in
      let l = ap length is ∙ length-drop (12 * count) lines in
      let a = ends_at in
      record {
        all = ap (λ (k : ℕ). whole u k at.taken at.mark ms lines) (sym n);
        long = h.long;
        reach = omega (arith, a);
        within = omega (arith, e.1, h.within, h.long, l);
        mark_low = h.mark_low;
        rising = h.rising;
      }

module _ (natural : Bool) (u : Unit) (count end : ℕ) (at : Reached) (lines₀ : List ℕ) (to : Reached) (lines : List ℕ) (k : Writing u count end (whole_of natural u count at lines₀) to lines) where
  -- all are reported
  pub written : end ≤ to.taken → Reports natural u count at to lines₀ lines
  written h =
      let z : end - to.taken ≡ 0 = omega arith in
      let e = sym (ap (λ (n : ℕ). whole u n to.taken to.mark (marks_ahead count lines to.taken) lines) z ∙ whole-none u to.taken to.mark lines (marks_ahead count lines to.taken))
      ∙ k.all in
      record {
        within = omega (arith, k.reach, k.within);
        mark_low = k.mark_low;
        taken = ap (λ (w : Whole). w.taken) e;
        mark = ap (λ (w : Whole). w.mark) e;
        ahead = ap (λ (w : Whole). w.ahead) e;
        lines = ap (λ (w : Whole). w.lines) e;
      }

  module _ (there : to.taken < end) where
    pub mark-there : to.taken < count
    mark-there = omega (arith, k.within)

    abbrev left : List ℕ
    left = marks_ahead count lines (to.taken + 1)

    module _ (m : ℕ) (is : m ≡ u32_at lines (3 * count + to.taken)) where
      left_is : marks_ahead count lines to.taken ≡ m ∷ left
      left_is = ahead-next count lines k.long to.taken mark-there ∙ ap (λ (i : ℕ). i ∷ left) (sym is)

      one_less : end - to.taken ≡ suc (end - (to.taken + 1))
      one_less = omega arith

      pub not-below : to.mark ≤ m
      not-below = (subst (Rising to.mark) left_is k.rising).0

      pub goes_on : m < 2 ^ 32 → (lines₁ : List ℕ)
          → lines₁ ≡ sets lines (16 * to.taken) (line_bytes (record { pair = u.pair; half = u.half; first = to.mark; size = m - to.mark }))
          → Writing u count end (whole_of natural u count at lines₀) (record { taken = to.taken + 1; mark = m }) lines₁
      goes_on h lines₁ e =
          let line : Line = record { pair = u.pair; half = u.half; first = to.mark; size = m - to.mark } in
          let n = end - (to.taken + 1) in
          let kept : marks_ahead count lines₁ (to.taken + 1) ≡ left =
          ap (λ (l : List ℕ). marks_ahead count l (to.taken + 1)) e ∙ ahead-kept count lines k.long to.taken mark-there (line_bytes line) (length-line line) in
          record {
            all =
                ap (λ (ms : List ℕ). whole u n (to.taken + 1) m ms lines₁) kept
                ∙ ap (λ (l : List ℕ). whole u n (to.taken + 1) m left l) e
                ∙ sym (whole-next u to.taken to.mark lines n m left)
                ∙ sym (ap (λ (ms : List ℕ). whole u (suc n) to.taken to.mark ms lines) left_is)
                ∙ sym (ap (λ (j : ℕ). whole u j to.taken to.mark (marks_ahead count lines to.taken) lines) one_less)
                ∙ k.all;
            long = ap length e ∙ simp length-sets k.long;
            reach = omega arith;
            within = k.within;
            mark_low = h;
            rising = subst (Rising m) (sym kept) (subst (Rising to.mark) left_is k.rising).1;
          }
