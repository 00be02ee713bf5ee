-- Whether buffers hold what a call needs, one after the other.
use mathlib.Core.Path.{◌≡◌, refl, sym, ◌∙◌}
use mathlib.Core.Bool.{Bool, true, false}
use mathlib.Core.List.{List, [], ◌∷◌}
use Prim.Native.Nat.{ℕ, zero, suc, ◌/◌, ◌≤◌}
use borrow.Author.Tests.{le-leb}
use lib.Dec.{leb}
use lib.ListN.{get_or}
use Rattle.base.specs.Lists.{every}
use Rattle.base.proofs.ListLaws.{every-fail, every-pass, every_one}
use Rattle.call.specs.declared.Need.{Need}
use Rattle.call.specs.declared.Lengths.{Lengths}
use Rattle.call.specs.Buffers.{holds}

fails-at : (ts : List Bool) (k : ℕ) → get_or ts k true ≡ false → every ts ≡ false
unfolding every
fails-at [] k e = let z : ◌≡◌ {A = Bool} true false = e in cc
fails-at (t ∷ ts) zero e = every-fail t ts e
fails-at (t ∷ ts) (suc k) e = by t (fails-at ts k e)
  where
    by : (b : Bool) → every ts ≡ false → every (b ∷ ts) ≡ false
    by true i = every-pass true ts refl ∙ i
    by false i = every-fail false ts refl

module _ (n : Need) (l : Lengths) where
  abbrev tests : List Bool
  tests =
      leb n.entries (l.index / 8)
      ∷ leb n.marks (l.marks / 4)
      ∷ leb n.periods (l.sizes / 4)
      ∷ leb n.rows (l.rows / 2)
      ∷ leb n.excitation l.excitation
      ∷ leb n.decoded l.decoded
      ∷ []

  -- one buffer is short
  pub holds_not : (k : ℕ) → get_or tests k true ≡ false → false ≡ holds n l
  unfolding holds
  holds_not k e = sym (fails-at tests k e)

  -- it is left to the decode buffer
  pub holds-last : n.entries ≤ l.index / 8 → n.marks ≤ l.marks / 4 → n.periods ≤ l.sizes / 4 → n.rows ≤ l.rows / 2 → n.excitation ≤ l.excitation
      → leb n.decoded l.decoded ≡ holds n l
  unfolding holds
  holds-last a b c d e =
      sym (every-pass _ _ (le-leb _ _ a) ∙ every-pass _ _ (le-leb _ _ b) ∙ every-pass _ _ (le-leb _ _ c) ∙ every-pass _ _ (le-leb _ _ d) ∙ every-pass _ _ (le-leb _ _ e) ∙ every_one _)
