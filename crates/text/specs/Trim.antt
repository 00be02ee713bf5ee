-- A name trimmed as Rust's `str::trim`: without the white space of Unicode (the property White_Space) at either end.
use Rattle.std.specs.Prelude.{Bool, ◌&&◌, ◌||◌, List, [], ◌∷◌, ℕ, zero, suc, eqb, length, get_or, drop}
use Rattle.base.specs.Choice.{pick, within}
use Rattle.text.specs.Names.{same}

-- the white space characters: U+0009 to U+000D and U+0020 of one byte
abbrev pub one_byte : ℕ → Bool
one_byte a = within 0x09 0x0D a || eqb a 0x20

-- U+0085 and U+00A0 of two
abbrev pub two_bytes : ℕ → ℕ → Bool
two_bytes a b = eqb a 0xC2 && (eqb b 0x85 || eqb b 0xA0)

-- U+2000 to U+200A, U+2028, U+2029, U+202F and U+205F, all of which begin with E2, by their second and third byte
abbrev pub ends2000 : ℕ → Bool
ends2000 c = within 0x80 0x8A c || (eqb c 0xA8 || (eqb c 0xA9 || eqb c 0xAF))

abbrev pub after_e2 : ℕ → ℕ → Bool
after_e2 b c = (eqb b 0x80 && ends2000 c) || (eqb b 0x81 && eqb c 0x9F)

-- these, U+1680 and U+3000 of three
abbrev pub three_bytes : ℕ → ℕ → ℕ → Bool
three_bytes a b c =
    (eqb a 0xE1 && (eqb b 0x9A && eqb c 0x80))
    || ((eqb a 0xE2 && after_e2 b c) || (eqb a 0xE3 && (eqb b 0x80 && eqb c 0x80)))

-- how many bytes the white space character at the front of a text has, 0 where there is none
unfoldable pub space_at : List ℕ → ℕ
space_at bs =
    let a = get_or bs 0 0 in
    let b = get_or bs 1 0 in
    let c = get_or bs 2 0 in
    pick (one_byte a) 1 (pick (two_bytes a b) 2 (pick (three_bytes a b c) 3 0))

-- Without the white space at the front. The number counts turns, so that the definition ends: at most n characters are cut.
unfoldable pub trim_start_by : ℕ → List ℕ → List ℕ
trim_start_by zero bs = bs
trim_start_by (suc n) bs = elim (space_at bs) [ zero ↦ bs | suc k ↦ trim_start_by n (drop (suc k) bs) ]

-- each cut takes a byte or more, so as many turns as the text has bytes never run out
unfoldable pub trim_start : List ℕ → List ℕ
trim_start bs = trim_start_by (length bs) bs

-- Up to where nothing but white space follows. In UTF-8 that place begins a character: white space begins with 09 to 0D, 20, C2, E1, E2
-- or E3, and none of these stands inside a character. So none is cut in two.
unfoldable pub trim_end : List ℕ → List ℕ
trim_end [] = []
trim_end (b ∷ bs) = pick (same (trim_start (b ∷ bs)) []) [] (b ∷ trim_end bs)

unfoldable pub trim : List ℕ → List ℕ
trim bs = trim_end (trim_start bs)
