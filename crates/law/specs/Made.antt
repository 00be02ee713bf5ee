-- Calls and pulls that were made: each is known by the contract of `diphone::plan` or `diphone::pull` alone.
use Rattle.std.specs.Prelude.{◌≡◌, List, [], ◌∷◌, ℕ, Ok}
use contract.Lifetimes.{Lfts}
use denote.Ref.{Bor, MutBor, at_last}
use Rattle.lpc.specs.declared.FilterState.{FilterState}
use Rattle.call.specs.declared.Settings.{Settings}
use Rattle.call.specs.declared.Summary.{Summary}
use Rattle.call.specs.declared.Planned.{Planned}
use Rattle.call.specs.declared.Pulled.{Pulled}
use Rattle.call.specs.Buffers.{Buffers, lent}
use Rattle.call.specs.Machine.{Shown}
use Rattle.diphone.proofs.plan.Reads as plan
use Rattle.diphone.proofs.pull.Reads as pull
use Rattle.call.specs.SpokenCall.{SpokenCall, LentBytes, lent_by}

-- the six buffers lent to a call, as parameters of `plan`
pub record Lends : Type 0 where
  pub index : MutBor (List ℕ)
  pub marks : MutBor (List ℕ)
  pub sizes : MutBor (List ℕ)
  pub rows : MutBor (List ℕ)
  pub excitation : MutBor (List ℕ)
  pub decoded : MutBor (List ℕ)

-- what they hold, and that they were left holding this
abbrev pub bytes_in : Lends → Buffers
bytes_in l = lent l.index.now l.marks.now l.sizes.now l.rows.now l.excitation.now l.decoded.now

abbrev pub left_with : Lends → Buffers → Lends
left_with l b =
    record {
      index = at_last l.index b.index;
      marks = at_last l.marks b.marks;
      sizes = at_last l.sizes b.sizes;
      rows = at_last l.rows b.rows;
      excitation = at_last l.excitation b.excitation;
      decoded = at_last l.decoded b.decoded;
    }

-- in a list of parameters, before the rest
abbrev pub Three : Type 0 → Type 0
Three A = MutBor (List ℕ) × (MutBor (List ℕ) × (MutBor (List ℕ) × A))

abbrev pub listed : {A : Type 0} → Lends → A → Three (Three A)
listed l rest = (l.index, (l.marks, (l.sizes, (l.rows, (l.excitation, (l.decoded, rest))))))

-- A call of `plan` on a voice file, a sheet, settings and buffers: what it returned, r, and what it left in its buffers, after, is known by
-- what `plan` ensures.
pub data PlanMade : List ℕ → List ℕ → Settings → Buffers → Planned → Buffers → Type 0 where
  made : (κs : Lfts 8) (voice sheet : Bor (List ℕ)) (l : Lends) (o : Settings) (r : Planned) (after : Buffers)
      → plan.Post κs (voice, (sheet, (o, listed l tt))) r (voice, (sheet, (o, listed (left_with l after) tt)))
      → PlanMade voice.now sheet.now o (bytes_in l) r after

-- Calls of `pull` one after the other from a state, all lent the bytes b, and each a slice: 'each other the state the last one returned or
-- left'. What a call returned, r, and what it left in its slice, left, is known by what `pull` ensures. Beside the slices stands what each
-- call showed.
pub data PullsMade (b : LentBytes) : FilterState → List (List ℕ) → List Shown → Type 0 where
  none : {s : FilterState} → PullsMade b s [] []
  more : {ds : List (List ℕ)} {os : List Shown} (κs : Lfts 4) (s : FilterState) (sizes rows excitation : Bor (List ℕ)) (samples : MutBor (List ℕ))
      (r : Pulled) (left : List ℕ)
      → sizes.now ≡ b.sizes
      → rows.now ≡ b.rows
      → excitation.now ≡ b.excitation
      → pull.Post κs (s, (sizes, (rows, (excitation, (samples, tt))))) r (s, (sizes, (rows, (excitation, (at_last samples left, tt)))))
      → PullsMade b r.state ds os
      → PullsMade b s (samples.now ∷ ds) (record { answer = r.answer; slice = left } ∷ os)

-- The call c was made and answered that it is spoken, and pulls were made after it: the first gets the state that the call returned, all
-- are lent what it left 'just as far as the call filled them', by the summary that it returned.
pub record MadeAfter (c : SpokenCall) (ds : List (List ℕ)) (os : List Shown) : Type 0 where
  pub returned : Planned
  pub left : Buffers
  pub summary : Summary
  pub call : PlanMade c.voice_file c.sheet_file c.settings c.lent returned left
  pub spoken : returned.answer ≡ Ok summary
  pub pulls : PullsMade (lent_by summary left) returned.state ds os
