-- The sections that are needed, tested one after the other.
use Rattle.std.specs.Prelude.{None, Option, Some, is_some}
use mathlib.Core.Path.{◌≡◌, refl, sym, ap, ◌∙◌}
use mathlib.Core.Bool.{Bool, true, false, ◌&&◌}
use mathlib.Core.List.{List, [], ◌∷◌}
use Prim.Native.Nat.{ℕ}
use Rattle.base.specs.Lists.{every}
use Rattle.base.specs.declared.Span.{Span}
use Rattle.container.specs.Sections.{find, is_found, sections}

-- the section of a name is there
abbrev pub has : List ℕ → List ℕ → Bool
has file name = is_found (find name (sections file).list)

-- a section was looked for
pub found : {b : Bool} {f o : Option Span} → b ≡ is_some f → f ≡ o → b ≡ is_found o
found {b} {f} {o} e g = e ∙ ap is_some g ∙ go o
  where
    go : (o : Option Span) → is_some o ≡ is_found o
    go None = refl
    go (Some s) = refl

-- one test more
pub passed_on : {v p r a b : Bool} → v ≡ r → p ≡ true → p ≡ a → r ≡ b → v ≡ (a && b)
passed_on {v} {p} {r} {a} {b} e t g h = let x : a ≡ true = sym g ∙ t in rw x (e ∙ h)

pub failed_on : {v p a : Bool} (b : Bool) → v ≡ p → p ≡ false → p ≡ a → v ≡ (a && b)
failed_on {v} {p} {a} b e t g = let x : a ≡ false = sym g ∙ t in rw x (e ∙ t)

pub every-five : (a b c d e : Bool) → ((((a && b) && c) && d) && e) ≡ every (a ∷ b ∷ c ∷ d ∷ e ∷ [])
unfolding every
every-five false b c d e = refl
every-five true false c d e = refl
every-five true true false d e = refl
every-five true true true false e = refl
every-five true true true true false = refl
every-five true true true true true = refl
