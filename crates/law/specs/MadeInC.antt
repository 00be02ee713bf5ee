-- Calls and pulls that a program in C made: each is known by the contract of `diphone_plan` or `diphone_pull` alone.
use Rattle.std.specs.Prelude.{◌≡◌, List, [], ◌∷◌, ℕ, ◌*◌, eqb, ℤ, pos, negsuc, take, Err, None, Ok, Option, Result, Some}
use Rattle.refusal.specs.declared.Refusal.{Refusal}
use contract.Lifetimes.{Lfts}
use denote.Ref.{Bor, MutBor, at_last}
use Rattle.base.specs.Choice.{pick}
use Rattle.base.specs.Bytes.{little_endian}
use Rattle.refusal.specs.declared.Refusal.TheVariants.{ShortSlice, BadState}
use Rattle.call.specs.declared.Settings.{Settings}
use Rattle.call.specs.Buffers.{Buffers}
use Rattle.call.specs.Machine.{Shown}
use Rattle.call.specs.Numbers.{settings_of}
use Rattle.c_plan.specs.Plan.{Handed}
use Rattle.diphone_c.proofs.diphone_plan.Reads as plan
use Rattle.diphone_c.proofs.diphone_pull.Reads as pull
use Rattle.call.specs.SpokenCall.{SpokenCall, LentBytes}
use Rattle.law.specs.Made.{Lends, bytes_in, left_with, listed}

-- A call of `diphone_plan` on a voice file, a sheet, a word that says the settings, and all that it was lent: what it answered, r, and what
-- it left, after, is known by what `diphone_plan` ensures.
pub data PlanMadeInC : List ℕ → List ℕ → Settings → Handed → ℕ → Handed → Type 0 where
  made : (κs : Lfts 10) (voice sheet : Bor (List ℕ)) (settings : ℕ) (l : Lends) (state summary : MutBor (List ℕ))
      (r : ℕ) (after : Handed)
      → plan.Post κs (voice, (sheet, (settings, listed l (state, (summary, tt))))) r
      (voice, (sheet, (settings, listed (left_with l after.buffers) (at_last state after.state, (at_last summary after.summary, tt)))))
      → PlanMadeInC voice.now sheet.now (settings_of settings)
      (record { buffers = bytes_in l; state = state.now; summary = summary.now }) r after

-- The answer that a pull's number says: the samples given, -1 for done, -14, or else 15.
abbrev pub answer_read : ℤ → Result (Option ℕ) Refusal
answer_read (pos n) = Ok (Some n)
answer_read (negsuc k) = pick (eqb k 0) (Ok None) (pick (eqb k 13) (Err ShortSlice) (Err BadState))

-- Calls of `diphone_pull` one after the other, all lent the bytes b, and each a slice: the first gets a state's bytes, each other these
-- bytes as the last one left them. What a call answered, r, and what it left of the state, kept, and in its slice, left, is known by what
-- `diphone_pull` ensures.
pub data PullsMadeInC (b : LentBytes) : List ℕ → List (List ℕ) → List Shown → Type 0 where
  none : {w : List ℕ} → PullsMadeInC b w [] []
  more : {ds : List (List ℕ)} {os : List Shown} (κs : Lfts 5) (state : MutBor (List ℕ)) (sizes rows excitation : Bor (List ℕ))
      (samples : MutBor (List ℕ)) (r : ℤ) (kept left : List ℕ)
      → sizes.now ≡ b.sizes
      → rows.now ≡ b.rows
      → excitation.now ≡ b.excitation
      → pull.Post κs (state, (sizes, (rows, (excitation, (samples, tt))))) r
      (at_last state kept, (sizes, (rows, (excitation, (at_last samples left, tt)))))
      → PullsMadeInC b kept ds os
      → PullsMadeInC b state.now (samples.now ∷ ds) (record { answer = answer_read r; slice = left } ∷ os)

-- 'just as far as the call filled them', by the numbers in a summary's bytes: periods at 8, samples at 16, order at 32
abbrev pub lent_in : List ℕ → Buffers → LentBytes
lent_in m b =
    let periods = little_endian 8 m 8 in
    record {
      sizes = take (4 * periods) b.sizes;
      rows = take (2 * (periods * little_endian 8 m 32)) b.rows;
      excitation = take (little_endian 8 m 16) b.excitation;
    }

-- The call c was made, with a state and a summary lent beside its buffers, and answered 0, and pulls were made after it: the first gets the
-- state's bytes that the call left, all are lent what it left, by the summary's bytes.
pub record MadeInC (c : SpokenCall) (ds : List (List ℕ)) (os : List Shown) : Type 0 where
  pub state : List ℕ
  pub summary : List ℕ
  pub left : Handed
  pub call : PlanMadeInC c.voice_file c.sheet_file c.settings (record { buffers = c.lent; state = state; summary = summary }) 0 left
  pub pulls : PullsMadeInC (lent_in left.summary left.buffers) left.state ds os
