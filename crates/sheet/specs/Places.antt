-- Where the reading of a sheet (`sheet_from`) met its segments and its targets, and the answer that says so.
use Rattle.std.specs.Prelude.{ℕ, ◌-◌, Bool, true, false, List, length, Err, None, Ok, Option, Result, Some}
use Rattle.refusal.specs.declared.Refusal.{Refusal}
use Rattle.refusal.specs.Number.{number_of}
use Rattle.sheet.specs.Sheet.{Got, fails, gets, Counted, Parts, sheet_from}
use Rattle.sheet.specs.declared.Items.{Items}
use Rattle.sheet.specs.declared.Places.{Places}

-- the reading with another form of what was read
abbrev pub mapped : {A B : Type 0} → (A → B) → Got A → Got B
mapped f (fails r) = fails r
mapped f (gets x bs) = gets (f x) bs

-- how many, and the place in the sheet of the first
abbrev pub items_in : {A : Type 0} → List ℕ → Counted A → Items
items_in sheet xs = record { count = xs.count; at = length sheet - length xs.from }

abbrev pub places_in : List ℕ → Parts → Places
places_in sheet p = record { segments = items_in sheet p.segments; targets = items_in sheet p.targets }

unfoldable pub sheet_places : List ℕ → Got Places
sheet_places sheet = mapped (places_in sheet) (sheet_from sheet)

abbrev pub answer_in : Got Places → Result Places Refusal
answer_in (fails r) = Err r
answer_in (gets p bs) = Ok p

abbrev pub refusal_of : Result Places Refusal → Option Refusal
refusal_of (Err r) = Some r
refusal_of (Ok p) = None

-- the number of an answer: 0 where the sheet was read
abbrev pub sheet_number : Result Places Refusal → ℕ
sheet_number (Err r) = number_of r
sheet_number (Ok p) = 0

-- something was read
abbrev pub is_read : {A : Type 0} → Got A → Bool
is_read (fails r) = false
is_read (gets x bs) = true
