-- src/phoneset.rs: 50 phones and their feature `vc`; unknown gives `0`.
use Rattle.std.specs.Prelude.{Bool, true, false, List, [], ◌∷◌, map, ℕ}
use Prim.Native.String.{String}
use Rattle.base.specs.Choice.{pick}
use Rattle.base.specs.Text.{ascii}
use Rattle.text.specs.Names.{among}
use Rattle.phoneset.specs.declared.Vc.{Vc}
use Rattle.phoneset.specs.declared.Vc.TheVariants.{Plus, Minus, Zero}

abbrev pub names : List String → List (List ℕ)
names ns = map ascii ns

-- the 20 phones whose `vc` is `+`
unfoldable pub vowels : List (List ℕ)
vowels =
    names
    ("aa" ∷ "ae" ∷ "ah" ∷ "ao" ∷ "aw" ∷ "ax" ∷ "axr" ∷ "ay" ∷ "eh" ∷ "el" ∷ "em" ∷ "en" ∷ "er" ∷ "ey" ∷ "ih" ∷ "iy" ∷ "ow" ∷ "oy" ∷ "uh" ∷ "uw"
    ∷ [])

-- the 30 whose `vc` is `-`
unfoldable pub consonants : List (List ℕ)
consonants =
    names
    ("b" ∷ "ch" ∷ "d" ∷ "dh" ∷ "dx" ∷ "f" ∷ "g" ∷ "hh" ∷ "hv" ∷ "jh" ∷ "k" ∷ "l" ∷ "m" ∷ "n" ∷ "nx" ∷ "ng" ∷ "p" ∷ "r" ∷ "s" ∷ "sh" ∷ "t" ∷ "th"
    ∷ "v" ∷ "w" ∷ "y" ∷ "z" ∷ "zh" ∷ "pau" ∷ "h#" ∷ "brth"
    ∷ [])

-- `+` for a vowel, `-` for another phone, `0` for a name that is no phone
unfoldable pub vc : List ℕ → Vc
vc name = pick (among name vowels) Plus (pick (among name consonants) Minus Zero)

abbrev pub is_plus : Vc → Bool
is_plus Plus = true
is_plus Minus = false
is_plus Zero = false

abbrev pub is_minus : Vc → Bool
is_minus Plus = false
is_minus Minus = true
is_minus Zero = false

unfoldable pub is_vowel : List ℕ → Bool
is_vowel name = is_plus (vc name)
