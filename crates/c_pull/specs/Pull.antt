-- `diphone_pull`: what it answers and what it leaves, by the bytes of the state, of the sizes, rows and excitation, and of the slice.
use Rattle.std.specs.Prelude.{Bool, List, [], ◌∷◌, ℕ, leb, ℤ, length, Err, None, Ok, Option, Result, Some}
use Rattle.base.specs.Choice.{pick}
use Rattle.base.specs.Lists.{every}
use Rattle.base.specs.Buffers.{over}
use Rattle.base.specs.Bytes.{little_endian}
use Rattle.refusal.specs.declared.Refusal.{Refusal}
use Rattle.refusal.specs.declared.Refusal.TheVariants.{BadState}
use Rattle.call.specs.declared.Pulled.{Pulled}
use Rattle.call.specs.Pull.{Lent, Outcome, leaves, pull_of, pull_number}
use Rattle.c_state.specs.State.{state_length, state_of, bytes_of_state}

-- bytes that are a state: not cut short, and of one of the two filters
unfoldable pub is_state : List ℕ → Bool
is_state b = every (leb state_length (length b) ∷ leb (little_endian 4 b 0) 1 ∷ [])

-- the pull of the state that the bytes b say; bytes that are no state are 15
unfoldable pub outcome_of : List ℕ → Lent → List ℕ → Outcome
outcome_of b l d = pick (is_state b) (pull_of (state_of b) l d) (leaves (Err BadState) (state_of b) d)

-- minus document 01's number
abbrev pub refused_number : Refusal → ℤ
refused_number r = pull_number (Err r)

abbrev pub number_for : List ℕ → Lent → List ℕ → ℤ
number_for b l d = pull_number (outcome_of b l d).pulled.answer

-- the state's bytes afterwards: on a refusal and on done as they were
abbrev pub kept_by : Result (Option ℕ) Refusal → Pulled → List ℕ → List ℕ
kept_by (Ok (Some n)) p b = over (bytes_of_state p.state) b
kept_by (Ok None) p b = b
kept_by (Err r) p b = b

abbrev pub state_left : List ℕ → Lent → List ℕ → List ℕ
state_left b l d = kept_by (outcome_of b l d).pulled.answer (outcome_of b l d).pulled b

abbrev pub slice_left : List ℕ → Lent → List ℕ → List ℕ
slice_left b l d = (outcome_of b l d).slice
