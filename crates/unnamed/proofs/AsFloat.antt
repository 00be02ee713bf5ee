-- A filter left unnamed is float.
use Rattle.std.specs.Prelude.{None, Option, Some}
use Rattle.lpc.specs.declared.ResynthType.{ResynthType}
use mathlib.Core.Path.{◌≡◌, refl, sym, ap, ◌∙◌}
use Prim.Native.Nat.{ℕ, zero, suc, ◌/◌, ◌%◌, ◌≤◌}
use native.Mathlib.Omega.{arith}
use borrow.Author.Tests.{ne_eqb}
use Rattle.lpc.specs.declared.ResynthType.TheVariants.{Fixed, Float}
use Rattle.call.specs.declared.Settings.{Settings}
use Rattle.call.specs.Call.{filter_by}
use Rattle.call.specs.Numbers.{join_of, filter_of, is_set, settings_of}
use Rattle.law.specs.Longer.{SameSettings}
use Rattle.unnamed.specs.Claims.{chosen, old_filter_of, old_settings_of, AsFloat}
use Rattle.unnamed.proofs.AlikeLaws.{alike}
use Rattle.unnamed.proofs.Makes.{can-be-made}

-- settings that end up with one filter, and are else the same
same_by : (o : Settings) (f g : Option ResynthType) → filter_by f ≡ filter_by g → SameSettings (chosen o f) (chosen o g)
same_by o f g e = record { join = refl; filter = e; fold = refl; strict = refl }

fixed-other : (o : Settings) → SameSettings (chosen o None) (chosen o (Some Fixed)) → ⊥
fixed-other o s =
    let f = s.filter in
    let z : ◌≡◌ {A = ℕ} 0 1 = cc in
    absurd (omega arith)

-- the filter that a number of bits 2 and 3 ends up with
old-filter : (n : ℕ) → filter_by (filter_of n) ≡ old_filter_of n
unfolding filter_of
old-filter zero = refl
old-filter (suc zero) = refl
old-filter (suc (suc n)) = rw (ne_eqb (suc (suc n)) 0 (omega arith), ne_eqb (suc (suc n)) 1 (omega arith))

old-float : (n : ℕ) → 2 ≤ n → old_filter_of n ≡ Float
old-float n h = rw (ne_eqb n 1 (omega arith))

float-words : (n m : ℕ) → n ≡ 0 → 2 ≤ m → filter_by (filter_of n) ≡ filter_by (filter_of m)
float-words n m none float = old-filter n ∙ ap old_filter_of none ∙ sym (old-filter m ∙ old-float m float)

words_same : (word word₁ : ℕ) → word % 4 ≡ word₁ % 4 → word / 16 % 2 ≡ word₁ / 16 % 2 → word / 32 % 2 ≡ word₁ / 32 % 2
    → filter_by (filter_of (word / 4 % 4)) ≡ filter_by (filter_of (word₁ / 4 % 4)) → SameSettings (settings_of word) (settings_of word₁)
unfolding settings_of
words_same word word₁ join fold strict filter = record { join = ap join_of join; filter = filter; fold = ap is_set fold; strict = ap is_set strict }

word_same : (word : ℕ) → SameSettings (settings_of word) (old_settings_of word)
unfolding settings_of
word_same word = record { join = refl; filter = old-filter (word / 4 % 4); fold = refl; strict = refl }

pub as-float : AsFloat
as-float =
    record {
      unnamed = λ o. alike _ _ (same_by o _ _ refl);
      words = λ word word₁ join fold strict none float. alike _ _ (words_same word word₁ join fold strict (float-words _ _ none (omega arith)));
      kept = λ word. alike _ _ (word_same word);
      same = λ o. same_by o _ _ refl;
      other = fixed-other;
      made = can-be-made;
    }
