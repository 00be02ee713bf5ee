-- Document 01: 'A pull checks 15, then done, then 14.'
use Rattle.std.specs.Prelude.{Bool, ◌||◌, List, [], ◌∷◌, ℕ, ◌+◌, ◌*◌, ◌/◌, eqb, ltb, leb, ℤ, pos, negsuc, neg_ℤ, length, get_or, take, drop, Err, None, Ok, Option, Result, Some}
use Rattle.refusal.specs.declared.Refusal.{Refusal}
use Rattle.base.specs.Choice.{pick}
use Rattle.base.specs.Lists.{every, part}
use Rattle.base.specs.Buffers.{over, flat}
use Rattle.base.specs.Bytes.{bytes_of, elements}
use Rattle.refusal.specs.declared.Refusal.TheVariants.{ShortSlice, BadState}
use Rattle.refusal.specs.Number.{number_of}
use Rattle.voice.specs.Header.{in_scale}
use Rattle.lpc.specs.declared.FilterState.{FilterState}
use Rattle.lpc.specs.Filter.{Part}
use Rattle.lpc.specs.State.{advanced, spoken}
use Rattle.call.specs.declared.Pulled.{Pulled}

-- what a pull is lent beside its slice: sizes, rows of values q and excitation, as numbers
pub record Lent : Type 0 where
  pub sizes : List ℕ
  pub rows : List ℕ
  pub excitation : List ℕ

-- what the bytes of the three lent slices say; an element of sizes has 4, of rows 2, of excitation 1
unfoldable pub lent_of : List ℕ → List ℕ → List ℕ → Lent
lent_of sizes rows excitation = record { sizes = elements 4 sizes; rows = elements 2 rows; excitation = excitation }

-- all periods were given
abbrev pub all_given : FilterState → Lent → Bool
all_given s l = eqb s.period (length l.sizes)

-- 'A state is impossible if its order is above 32, its ring place above the order, its period or sample place past the sizes or the
-- residual, or a scale outside the header's limits' (the residual is the excitation lent); and where there is a next period, the
-- coefficients do not end before its row does
unfoldable pub possible : FilterState → Lent → Bool
possible s l =
    every
    (leb s.order 32
    ∷ leb s.ring_place s.order
    ∷ leb s.period (length l.sizes)
    ∷ leb s.sample_place (length l.excitation)
    ∷ in_scale s.coeff_min
    ∷ in_scale s.coeff_range
    ∷ (all_given s l || leb ((s.period + 1) * s.order) (length l.rows))
    ∷ [])

-- the next period: its row, and its part of the excitation, cut to what is left of that
unfoldable pub next_part : FilterState → Lent → Part
next_part s l =
    record {
      row = part l.rows (s.period * s.order) s.order;
      bytes = take (get_or l.sizes s.period 0) (drop s.sample_place l.excitation);
    }

-- what a pull shows: its answer with the state, and every byte of its slice afterwards; a sample is two bytes
pub record Outcome : Type 0 where
  pub pulled : Pulled
  pub slice : List ℕ

abbrev pub leaves : Result (Option ℕ) Refusal → FilterState → List ℕ → Outcome
leaves a s d = record { pulled = record { answer = a; state = s }; slice = d }

unfoldable pub pull_of : FilterState → Lent → List ℕ → Outcome
pull_of s l d =
    let p = next_part s l in
    let n = length p.bytes in
    pick (possible s l)
    (pick (all_given s l) (leaves (Ok None) s d)
    (pick (ltb (length d / 2) n) (leaves (Err ShortSlice) s d)
    (leaves (Ok (Some n)) (advanced s p) (over (flat (bytes_of 2) (spoken s p)) d))))
    (leaves (Err BadState) s d)

-- the number for a pull's answer: the samples given, -1 for done, minus document 01's number for a refusal
abbrev pub pull_number : Result (Option ℕ) Refusal → ℤ
pull_number (Ok (Some n)) = pos n
pull_number (Ok None) = negsuc 0
pull_number (Err r) = neg_ℤ (pos (number_of r))
