-- A tally's numbers stay within its calls.
use mathlib.Core.Path.{◌≡◌, refl, sym, ap, subst, ◌∙◌}
use mathlib.Core.Bool.{Bool, true, false}
use mathlib.Core.List.{List}
use Prim.Native.Nat.{ℕ, ◌+◌, ◌≤◌, ◌<◌}
use native.Mathlib.Omega.{arith}
use lib.Dec.{eqb}
use lib.ListN.{length, get_or, set, length-set}
use lib.Seq.{get_or-set_same, get_or-set_other}
use borrow.Author.Tests.{eqb-true, eqb-false}
use Rattle.replay.specs.declared.Tally.{Tally}
use Rattle.replay.specs.Stored.{last_kind}
use Rattle.replay.specs.Tallies.{wrong_with, first_with, counted, Sound}

one_more : (xs : List ℕ) (i k n : ℕ) → i < length xs → ((j : ℕ) → get_or xs j 0 ≤ n) → get_or (set xs i (get_or xs i 0 + 1)) k 0 ≤ n + 1
one_more xs i k n h low = by (eqb k i) refl
  where
    by : (b : Bool) → eqb k i ≡ b → get_or (set xs i (get_or xs i 0 + 1)) k 0 ≤ n + 1
    by true e =
        let l = low i in
        let at : get_or (set xs i (get_or xs i 0 + 1)) i 0 ≤ n + 1 = rw (get_or-set_same xs i (get_or xs i 0 + 1) 0 h) (omega arith) in
        subst (λ (j : ℕ). get_or (set xs i (get_or xs i 0 + 1)) j 0 ≤ n + 1) (sym (eqb-true k i e)) at
    by false e = let l = low k in rw (get_or-set_other xs i k (get_or xs i 0 + 1) 0 (eqb-false _ _ e)) (omega arith)

wrong-more : (t : Tally) (agrees : Bool) → t.wrong ≤ t.calls → wrong_with t agrees ≤ t.calls + 1
wrong-more t true h = omega arith
wrong-more t false h = omega arith

pub counted-sound : (t : Tally) (kind periods : ℕ) (agrees : Bool) → Sound t → kind ≤ last_kind → periods ≤ 65536 → Sound (counted t kind periods agrees)
unfolding counted
counted-sound t kind periods agrees s h l =
    let w = s.whole in
    let p = s.periods in
    record {
      wrong = wrong-more t agrees s.wrong;
      kinds = λ k. one_more t.kinds kind k t.calls (omega arith) s.kinds;
      whole = length-set t.kinds kind (get_or t.kinds kind 0 + 1) ∙ w;
      periods = omega arith;
    }

pub counted-by : (t : Tally) (kind periods : ℕ) (agrees : Bool) {w f : ℕ} → w ≡ wrong_with t agrees → f ≡ first_with t agrees
    → record { calls = t.calls + 1; wrong = w; first = f; kinds = set t.kinds kind (get_or t.kinds kind 0 + 1); periods = t.periods + periods } ≡ counted t kind periods agrees
unfolding counted
counted-by t kind periods agrees ew ef = rw (ew, ef)

pub counted-calls : {r : Tally} (t : Tally) (kind periods : ℕ) (agrees : Bool) → r ≡ counted t kind periods agrees → r.calls ≡ t.calls + 1
unfolding counted
counted-calls t kind periods agrees e = ap (λ (u : Tally). u.calls) e
