-- What a call leaves, and its text.
use Rattle.std.specs.Prelude.{Err, None, Ok, Option, Result, Some}
use mathlib.Core.Path.{◌≡◌, refl, sym, ap, subst, ◌∙◌}
use mathlib.Core.Bool.{Bool, true, false}
use mathlib.Core.List.{List}
use Prim.Native.Nat.{ℕ, ◌*◌, ◌/◌, ◌≤◌, ◌<◌}
use native.Mathlib.Nat.{le_of_eq, mul-le-mul_right}
use native.Mathlib.Omega.{arith}
use borrow.Author.Tests.{leb-true}
use lib.ListN.{length, take, length-map, length-take}
use Rattle.base.specs.Choice.{pick}
use Rattle.base.specs.Bytes.{Bytes, bytes_of}
use Rattle.base.proofs.BufferLaws.{length_over, length-flat}
use Rattle.base.proofs.ByteLaws.{length-bytes_of}
use Rattle.base.proofs.ListLaws.{next-none, every-at}
use Rattle.refusal.specs.declared.Refusal.{Refusal}
use Rattle.refusal.specs.declared.Refusal.TheVariants.{ShortBuffer}
use Rattle.refusal.specs.Number.{number_of}
use Rattle.refusal.proofs.NumberLaws.{number-low}
use Rattle.voice.specs.Header.{good_numbers, good_header}
use Rattle.voice.specs.Voice.{Voice, voice_of, voice_at, places_of}
use Rattle.voice.specs.Opening.{opening_refusal}
use Rattle.voice.proofs.OpeningLaws.{opens, passed}
use Rattle.sheet.specs.Sheet.{Sheet, sheet_of}
use Rattle.excitation.specs.Taken.{Period, sizes_of, rows_of, excitation_of}
use Rattle.excitation.proofs.SizedLaws.{rows-length}
use Rattle.lpc.specs.declared.FilterState.{FilterState}
use Rattle.lpc.specs.State.{fresh_state}
use Rattle.call.specs.declared.Settings.{Settings}
use Rattle.call.specs.declared.Summary.{Summary}
use Rattle.call.specs.declared.Planned.{Planned}
use Rattle.call.specs.Call.{periods_taken, periods_of}
use Rattle.call.specs.Buffers.{Buffers, filled, need_of, holds, fits, check_refusal, call_refusal, summary_of, fresh_of, answer_by, planned_of, buffers_after}
use Rattle.planning.proofs.PlanLaws.{spoken-buffers}
use Rattle.call.specs.SpokenCall.{SpokenCall, bytes_after}
use Rattle.call.proofs.CheckLaws.{passed-all}
use Rattle.call.proofs.CallLaws.{periods-sized}
use Rattle.call.proofs.LentLaws.{lent_taken, lent-filled}
use Rattle.lines.specs.Lines.{refused}
use Rattle.transcript.specs.CallText.{spoken_text, call_text, periods_for, Fresh, front, Spoke, spoken_by}

-- ---- a call that is not refused

module _ (file sheet : List ℕ) (settings : Settings) (b : Buffers) (bytes : Bytes file) (n : call_refusal file sheet settings b ≡ None) where
  abbrev v : Voice
  v = voice_of file

  abbrev s : Sheet
  s = sheet_of sheet

  abbrev ps : List Period
  ps = periods_taken v s settings

  abbrev call : SpokenCall
  call = record { voice_file = file; sheet_file = sheet; settings = settings; lent = b; bytes = bytes; not_refused = n }

  pub opening : opening_refusal file ≡ None
  unfolding call_refusal
  opening = (passed-all file sheet settings (next-none _ _ n).0).opening

  rate-low : v.header.rate ≤ 48000
  unfolding good_header good_numbers voice_of voice_at places_of
  rate-low = leb-true _ _ (every-at _ (every-at _ (passed file opening).header 1) 3)

  fitting : fits v s settings b ≡ true
  unfolding call_refusal
  fitting = by (fits v s settings b) (next-none (check_refusal file sheet settings) (pick (fits v s settings b) None (Some ShortBuffer)) n).1
    where
      by : (t : Bool) → pick t None (Some ShortBuffer) ≡ None → t ≡ true
      by true e = refl
      by false e = let z : ◌≡◌ {A = ℕ} 0 1 = cc in absurd (omega arith)

  pub periods-fit : length ps ≤ length b.sizes / 4
  unfolding fits holds need_of
  periods-fit = leb-true _ _ (every-at _ fitting 2)

  rows_fit : length (rows_of ps) ≤ length b.rows / 2
  unfolding fits holds need_of
  rows_fit = leb-true _ _ (every-at _ fitting 3)

  pub excitation-fit : length (excitation_of ps) ≤ length b.excitation
  unfolding fits holds need_of
  excitation-fit = leb-true _ _ (every-at _ fitting 4)

  sizes-count : length (sizes_of ps) ≡ length ps
  unfolding sizes_of
  sizes-count = length-map ps (λ (p : Period). p.size)

  rows-count : length (rows_of ps) ≡ length (sizes_of ps) * v.header.order
  rows-count = rows-length v.header.order ps (periods-sized v s settings)

  abbrev after : Buffers
  after = buffers_after file sheet settings b

  sizes-length : length after.sizes ≡ length b.sizes
  unfolding filled
  sizes-length =
      let e = spoken-buffers file sheet settings b n in
      let f = length-flat (bytes_of 4) 4 (length-bytes_of 4) (sizes_of ps) in
      let c = sizes-count in
      let h = periods-fit in
      rw e (length_over _ b.sizes (omega arith))

  rows-length-after : length after.rows ≡ length b.rows
  unfolding filled
  rows-length-after =
      let e = spoken-buffers file sheet settings b n in
      let f = length-flat (bytes_of 2) 2 (length-bytes_of 2) (rows_of ps) in
      let h = rows_fit in
      rw e (length_over _ b.rows (omega arith))

  excitation-length : length after.excitation ≡ length b.excitation
  unfolding filled
  excitation-length =
      let e = spoken-buffers file sheet settings b n in
      rw e (length_over _ b.excitation excitation-fit)

  lent_is : front (summary_of v s settings) after.sizes after.rows after.excitation ≡ lent_taken call
  unfolding bytes_after
  lent_is = lent-filled call

  fresh-lent : Fresh (fresh_of v settings) (lent_taken call)
  unfolding fresh_of fresh_state
  fresh-lent =
      let o = opens file opening in
      record { fresh = refl; order_low = o.order_low; least_in = o.least_in; range_in = o.range_in; rows_there = le_of_eq (sym rows-count) }

  spoke : length b.sizes ≤ 4096 → length b.excitation ≤ 4096 → Spoke (summary_of v s settings) (fresh_of v settings) after.sizes after.rows after.excitation
  unfolding summary_of
  spoke h k =
      let p = periods-fit in
      let r = rows_fit in
      let x = excitation-fit in
      let c = rows-count in
      let d = sizes-count in
      let q : length (rows_of ps) ≡ length ps * v.header.order = c ∙ ap (λ (m : ℕ). m * v.header.order) d in
      let sl = sizes-length in
      let rl = rows-length-after in
      let xl = excitation-length in
      let u = (opens file opening).order_low in
      let w = rate-low in
      let pl : length ps ≤ 1024 = omega arith in
      let pr = mul-le-mul_right v.header.order pl in
      record {
        rate_low = w;
        periods_low = omega arith;
        samples_low = omega arith;
        order_low = u;
        values_low = omega (arith, pr, u);
        sizes_there = omega arith;
        rows_there = omega (arith, q, r, rl);
        excitation_there = omega arith;
        fresh = subst (Fresh (fresh_of v settings)) (sym lent_is) fresh-lent;
      }

  text-is : spoken_by (summary_of v s settings) (fresh_of v settings) after.sizes after.rows after.excitation ≡ call_text file sheet settings b
  unfolding spoken_by call_text spoken_text periods_for fresh_of fresh_state periods_of
  text-is = rw (n, lent_is)

-- ---- by what the call answered

pub answer-none : (v : Voice) (s : Sheet) (settings : Settings) (m : Summary) (u : Option Refusal) → (answer_by v s settings u).answer ≡ Ok m → u ≡ None
answer-none v s settings m None e = refl
answer-none v s settings m (Some c) e = let z : ◌≡◌ {A = ℕ} 0 1 = cc in absurd (omega arith)

pub answer-some : (v : Voice) (s : Sheet) (settings : Settings) (c : Refusal) (u : Option Refusal) → (answer_by v s settings u).answer ≡ Err c → u ≡ Some c
answer-some v s settings c None e = let z : ◌≡◌ {A = ℕ} 0 1 = cc in absurd (omega arith)
answer-some v s settings c (Some d) e = cc

same-summary : {m n : Summary} → ◌≡◌ {A = Result Summary Refusal} (Ok m) (Ok n) → m ≡ n
same-summary e = cc

-- a spoken call hands on what its lines need, and these are its text
pub record Hands (file sheet : List ℕ) (settings : Settings) (b : Buffers) (m : Summary) (t : FilterState) (sizes rows excitation : List ℕ) : Type 0 where
  pub spoke : Spoke m t sizes rows excitation
  pub text : spoken_by m t sizes rows excitation ≡ call_text file sheet settings b

module _ (file sheet : List ℕ) (settings : Settings) (b : Buffers) (r : Planned) (e : r ≡ planned_of file sheet settings b) where
  pub refused-text : (c : Refusal) → r.answer ≡ Err c → call_text file sheet settings b ≡ refused (number_of c)
  unfolding planned_of call_text
  refused-text c q =
      let n : call_refusal file sheet settings b ≡ Some c = answer-some (voice_of file) (sheet_of sheet) settings c _ (ap (λ (p : Planned). p.answer) (sym e) ∙ q) in
      rw n

  pub hands : Bytes file → (after : Buffers) → after ≡ buffers_after file sheet settings b → (m : Summary) → r.answer ≡ Ok m → length b.sizes ≤ 4096 → length b.excitation ≤ 4096
      → Hands file sheet settings b m r.state after.sizes after.rows after.excitation
  unfolding planned_of
  hands bytes after a m q h k =
      let n : call_refusal file sheet settings b ≡ None = answer-none (voice_of file) (sheet_of sheet) settings m _ (ap (λ (p : Planned). p.answer) (sym e) ∙ q) in
      let p : r ≡ answer_by (voice_of file) (sheet_of sheet) settings None = e ∙ rw n in
      let i : m ≡ summary_of (voice_of file) (sheet_of sheet) settings = same-summary (sym q ∙ ap (λ (p : Planned). p.answer) p) in
      let t : r.state ≡ fresh_of (voice_of file) settings = ap (λ (p : Planned). p.state) p in
      rw (i, t, a) (record { spoke = spoke file sheet settings b bytes n h k; text = text-is file sheet settings b bytes n })

pub taken-length : (n : ℕ) (s : List ℕ) → n ≤ length s → length (take n s) ≡ n
taken-length n s h = rw length-take (omega arith)

pub refused-low : {a : Result Summary Refusal} {c : Refusal} {n : ℕ} → a ≡ Err c → n ≡ number_of c → n < 100000
refused-low {a} {c} e q = let l = number-low c in omega arith
