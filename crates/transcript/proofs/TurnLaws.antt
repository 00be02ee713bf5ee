-- The pulls of a spoken call, each lent a slice that is long enough: each gives its period.
use Rattle.std.specs.Prelude.{Err, None, Ok, Some}
use mathlib.Core.Path.{◌≡◌, refl, sym, ap, ◌∙◌}
use mathlib.Core.Bool.{Bool, true, false}
use mathlib.Core.List.{List, [], ◌∷◌}
use Prim.Native.Nat.{ℕ, zero, suc, ◌+◌, ◌*◌, ◌/◌, ◌≤◌, ◌<◌}
use native.Mathlib.Omega.{arith}
use borrow.Author.Tests.{eqb-true, eqb-false, leb-true}
use lib.Dec.{eqb}
use lib.ListN.{length, get_or, take, length-take, length-drop}
use Rattle.base.specs.Buffers.{over, flat, upto}
use Rattle.base.specs.Bytes.{bytes_of, elements}
use Rattle.base.proofs.BoundLaws.{Each, nil, cons, Below}
use Rattle.base.proofs.BufferLaws.{take-over, length-flat, length_over, upto-more, flat-snoc}
use Rattle.base.proofs.ByteLaws.{elements-flat, length-bytes_of, length-elements}
use Rattle.base.proofs.CaseLaws.{by_order}
use Rattle.base.proofs.ListLaws.{every-at}
use Rattle.refusal.specs.declared.Refusal.{Refusal}
use Rattle.refusal.specs.declared.Refusal.TheVariants.{ShortSlice, BadState}
use Rattle.lpc.specs.declared.FilterState.{FilterState}
use Rattle.lpc.specs.Filter.{cut}
use Rattle.lpc.specs.State.{fresh_state, advanced, spoken, periods_by}
use Rattle.lpc.proofs.FilterLaws.{length_cut, length-by, by-low}
use Rattle.lpc.proofs.StateLaws.{kept}
use Rattle.call.specs.declared.Pulled.{Pulled}
use Rattle.call.specs.Pull.{Lent, lent_of, possible, next_part, leaves, pull_of}
use Rattle.call.specs.Machine.{Shown, pulls, shows, machine}
use Rattle.call.proofs.PullLaws.{pull-impossible, pull-done, pull-gives, shows-short, shows-gives, machine-gives, fresh-machine}
use Rattle.call.proofs.MachineLaws.{shows-done-all, shows-refused}
use Rattle.lines.specs.Lines.{Puts, period, periods}
use Rattle.lines.proofs.PutLaws.{put-none, put-more, put-length}
use Rattle.transcript.specs.CallText.{periods_for, given_by, Fresh}

-- ---- one pull

tail_of : {A : Type 0} {a b : A} {xs ys : List A} → ◌≡◌ {A = List A} (a ∷ xs) (b ∷ ys) → xs ≡ ys
tail_of e = cc

head_of : {A : Type 0} {a b : A} {xs ys : List A} → ◌≡◌ {A = List A} (a ∷ xs) (b ∷ ys) → a ≡ b
head_of e = cc

module _ (s : FilterState) (l : Lent) where
  next_low : length (next_part s l).bytes ≤ length l.excitation
  unfolding next_part
  next_low = rw (length-take, length-drop) (omega arith)

  place-low : possible s l ≡ true → s.sample_place ≤ length l.excitation
  unfolding possible
  place-low p = leb-true _ _ (every-at _ p 3)

  next_fits : possible s l ≡ true → s.sample_place + length (next_part s l).bytes ≤ length l.excitation
  unfolding next_part
  next_fits p = let h = place-low p in rw (length-take, length-drop) (omega arith)

  pull-cases : {X : Type 0} (d : List ℕ) → length l.excitation ≤ length d / 2
      → (pull_of s l d ≡ leaves (Err BadState) s d → X)
      → (pull_of s l d ≡ leaves (Ok None) s d → X)
      → (possible s l ≡ true → pull_of s l d ≡ leaves (Ok (Some (length (next_part s l).bytes))) (advanced s (next_part s l)) (over (flat (bytes_of 2) (spoken s (next_part s l))) d) → X)
      → X
  pull-cases {X} d h bad done gives = by (possible s l) refl
    where
      by : (b : Bool) → possible s l ≡ b → X
      by false e = bad (pull-impossible s l d e)
      by true e = by_end (eqb s.period (length l.sizes)) refl
        where
          by_end : (b : Bool) → eqb s.period (length l.sizes) ≡ b → X
          by_end true q = done (pull-done s l d e (eqb-true _ _ q))
          by_end false q = let m = next_low in gives e (pull-gives s l d e (eqb-false _ _ q) (omega arith))

-- what a pull did where the machine has given k periods
pub record Gave (l : Lent) (ps : List (List ℕ)) (s : FilterState) (k : ℕ) (d : List ℕ) : Type 0 where
  pub answer : (pull_of s l d).pulled.answer ≡ Ok (Some (length (get_or ps k [])))
  pub slice : (pull_of s l d).slice ≡ over (flat (bytes_of 2) (get_or ps k [])) d
  pub goes : (ds : List (List ℕ)) → pulls (pull_of s l d).pulled.state l ds ≡ machine ps (k + 1) ds
  pub place : (pull_of s l d).pulled.state.sample_place ≡ s.sample_place + length (get_or ps k [])
  pub low : s.sample_place + length (get_or ps k []) ≤ length l.excitation

module _ (l : Lent) (ps : List (List ℕ)) (s : FilterState) (k : ℕ) (d : List ℕ) (goes : (ds : List (List ℕ)) → pulls s l ds ≡ machine ps k ds) (more : k < length ps) (room : length l.excitation ≤ length d / 2) where
  not_end : k ≡ length ps → ⊥
  not_end q = omega arith

  shown : record { answer = (pull_of s l d).pulled.answer; slice = (pull_of s l d).slice } ≡ shows ps k d
  unfolding pulls machine
  shown = head_of (goes (d ∷ []))

  answered : (pull_of s l d).pulled.answer ≡ (shows ps k d).answer
  answered = ap (λ (o : Shown). o.answer) shown

  by-machine : length (get_or ps k []) ≤ length d / 2 → possible s l ≡ true
      → pull_of s l d ≡ leaves (Ok (Some (length (next_part s l).bytes))) (advanced s (next_part s l)) (over (flat (bytes_of 2) (spoken s (next_part s l))) d)
      → Gave l ps s k d
  unfolding pulls
  by-machine h p q =
      let g = shown ∙ shows-gives ps k d not_end h in
      let a : (pull_of s l d).pulled.answer ≡ Ok (Some (length (get_or ps k []))) = ap (λ (o : Shown). o.answer) g in
      let b : (pull_of s l d).pulled.answer ≡ Ok (Some (length (next_part s l).bytes)) = ap (λ o. o.pulled.answer) q in
      let n : length (next_part s l).bytes ≡ length (get_or ps k []) = cc in
      let t : (pull_of s l d).pulled.state ≡ advanced s (next_part s l) = ap (λ o. o.pulled.state) q in
      let f = next_fits s l p in
      record {
        answer = a;
        slice = ap (λ (o : Shown). o.slice) g;
        goes = λ ds. tail_of (goes (d ∷ ds) ∙ machine-gives ps k d ds not_end h);
        place = ap (λ (u : FilterState). u.sample_place) t ∙ (kept s (next_part s l)).place ∙ ap (λ (m : ℕ). s.sample_place + m) n;
        low = rw n at f;
      }

  pub gave : Gave l ps s k d
  gave = pull-cases s l d room bad done gives
    where
      bad : pull_of s l d ≡ leaves (Err BadState) s d → Gave l ps s k d
      bad q =
          let a : (pull_of s l d).pulled.answer ≡ Err BadState = ap (λ o. o.pulled.answer) q in
          let r : ◌≡◌ {A = Refusal} BadState ShortSlice = (shows-refused ps k d BadState (omega arith) (sym answered ∙ a)).0 in
          let z : ◌≡◌ {A = ℕ} 0 1 = cc in
          absurd (omega arith)

      done : pull_of s l d ≡ leaves (Ok None) s d → Gave l ps s k d
      done q =
          let a : (pull_of s l d).pulled.answer ≡ (Ok None) = ap (λ o. o.pulled.answer) q in
          absurd (not_end (shows-done-all ps k d (omega arith) (sym answered ∙ a)))

      gives : possible s l ≡ true
          → pull_of s l d ≡ leaves (Ok (Some (length (next_part s l).bytes))) (advanced s (next_part s l)) (over (flat (bytes_of 2) (spoken s (next_part s l))) d)
          → Gave l ps s k d
      gives p q = by_order (length d / 2) (length (get_or ps k [])) short (λ h. by-machine h p q)
        where
          short : length d / 2 < length (get_or ps k []) → Gave l ps s k d
          short h =
              let a : (pull_of s l d).pulled.answer ≡ Err ShortSlice = ap (λ (o : Shown). o.answer) (shown ∙ shows-short ps k d not_end h) in
              let b : (pull_of s l d).pulled.answer ≡ Ok (Some (length (next_part s l).bytes)) = ap (λ o. o.pulled.answer) q in
              let z : ◌≡◌ {A = ℕ} 0 1 = cc in
              absurd (omega arith)

-- ---- the samples that a pull left, read back

below_at : (ps : List (List ℕ)) → Each (Below 65536) ps → (k : ℕ) → Below 65536 (get_or ps k [])
below_at [] nil k i = omega arith
below_at (p ∷ ps) (cons h e) zero i = h i
below_at (p ∷ ps) (cons h e) (suc k) i = below_at ps e k i

pub read_back : (s : FilterState) (l : Lent) (k : ℕ) (d : List ℕ)
    → elements 2 (take (2 * length (get_or (periods_for s l) k [])) (over (flat (bytes_of 2) (get_or (periods_for s l) k [])) d)) ≡ get_or (periods_for s l) k []
unfolding periods_for
read_back s l k d =
    let ps = periods_by s.filter s.coeff_min s.coeff_range (cut s.order l.sizes l.rows l.excitation) in
    let p = get_or ps k [] in
    ap (elements 2) (take-over (flat (bytes_of 2) p) d (2 * length p) (length-flat (bytes_of 2) 2 (length-bytes_of 2) p))
    ∙ elements-flat 2 p (omega arith) (below_at ps (by-low s.filter s.coeff_min s.coeff_range _) k)

-- ---- the loop that pulls and puts: after k turns

abbrev pub line : List (List ℕ) → ℕ → List ℕ
line ps k = period (k + 1) (get_or ps k [])

abbrev pub joined : List (List ℕ) → List ℕ
joined ts = flat (λ (t : List ℕ). t) ts

pub record At (l : Lent) (ps : List (List ℕ)) (d : List ℕ) (at : ℕ) (e samples : List ℕ) (s : FilterState) (end k : ℕ) : Type 0 where
  pub puts : Puts d at (joined (upto (line ps) k)) e end
  pub most : k ≤ length ps
  pub goes : (ds : List (List ℕ)) → pulls s l ds ≡ machine ps k ds
  pub near : end ≤ at + (12 * k + 7 * s.sample_place)
  pub place : s.sample_place ≤ length l.excitation
  pub same : length e ≡ length d
  pub room : length samples ≡ 8192

pub count-for : (s : FilterState) (l : Lent) → length (periods_for s l) ≡ length l.sizes
unfolding periods_for
count-for s l = length-by s.filter s.coeff_min s.coeff_range _ ∙ length_cut s.order l.sizes l.rows l.excitation

pub start : (s : FilterState) (l : Lent) (d : List ℕ) (at : ℕ) (samples : List ℕ) → Fresh s l → length samples ≡ 8192 → At l (periods_for s l) d at d samples s at 0
unfolding periods_for flat upto fresh_state
start s l d at samples f r =
    let z : s.sample_place ≡ 0 = ap (λ (t : FilterState). t.sample_place) f.fresh in
    record {
      puts = put-none d at;
      most = omega arith;
      goes = λ ds. ap (λ (t : FilterState). pulls t l ds) f.fresh
          ∙ fresh-machine s.filter s.order s.coeff_min s.coeff_range l ds f.order_low f.least_in f.range_in f.rows_there;
      near = omega arith;
      place = omega arith;
      same = refl;
      room = r;
    }

module _ (l : Lent) (ps : List (List ℕ)) (d : List ℕ) (at : ℕ) where
  pub gives : {e samples : List ℕ} {s : FilterState} {end k : ℕ} → At l ps d at e samples s end k → k < length ps → length l.excitation ≤ 4096 → Gave l ps s k samples
  gives {e} {samples} {s} {end} {k} a m x =
      let r = a.room in
      let h : length l.excitation ≤ length samples / 2 = omega arith in
      gave l ps s k samples a.goes m h

  pub finish : {e samples : List ℕ} {s : FilterState} {end k : ℕ} → At l ps d at e samples s end k → length ps ≤ k → Puts d at (periods ps) e end
  unfolding periods
  finish {e} {samples} {s} {end} {k} a h =
      let q : k ≡ length ps = omega (arith, a.most) in
      rw q at a.puts

  pub turn : {e f samples after : List ℕ} {s t : FilterState} {end j k : ℕ} → At l ps d at e samples s end k → k < length ps
      → Puts e end (line ps k) f j → j ≤ end + (7 * length (get_or ps k []) + 12)
      → ((ds : List (List ℕ)) → pulls t l ds ≡ machine ps (k + 1) ds)
      → t.sample_place ≡ s.sample_place + length (get_or ps k []) → s.sample_place + length (get_or ps k []) ≤ length l.excitation
      → length after ≡ 8192
      → At l ps d at f after t j (k + 1)
  turn {e} {f} {samples} {after} {s} {t} {end} {j} {k} a m p b g q low r =
      record {
        puts = rw (upto-more (line ps) k, flat-snoc (λ (x : List ℕ). x) (upto (line ps) k) (line ps k)) (put-more a.puts p);
        most = omega arith;
        goes = g;
        near = omega (arith, a.near, b, q);
        place = omega arith;
        same = put-length p ∙ a.same;
        room = r;
      }

-- ---- a turn of the loop, from what its pull ensures

count-lent : (st : FilterState) (sizes rows exc : List ℕ) → length (periods_for st (lent_of sizes rows exc)) ≡ length sizes / 4
unfolding lent_of
count-lent st sizes rows exc = count-for st (lent_of sizes rows exc) ∙ length-elements 4 sizes

lent-excitation : (sizes rows exc : List ℕ) → (lent_of sizes rows exc).excitation ≡ exc
unfolding lent_of
lent-excitation sizes rows exc = refl

module _ (st : FilterState) (sizes rows exc d : List ℕ) (at : ℕ) where
  abbrev l : Lent
  l = lent_of sizes rows exc

  abbrev ps : List (List ℕ)
  ps = periods_for st l

  pub record Turn (e after : List ℕ) (r : Pulled) (end k n : ℕ) : Type 0 where
    pub low : n ≤ 4096
    pub whole : length after ≡ 8192
    pub cut : length (take (2 * n) after) ≡ 2 * n
    pub room : (k + 1 < 100000) × ((length (take (2 * n) after) ≤ 8192) × (end + (7 * (length (take (2 * n) after) / 2) + 12) ≤ length e))
    pub then : {f : List ℕ} {j : ℕ} → Puts e end (period (k + 1) (elements 2 (take (2 * n) after))) f j → j ≤ end + (7 * (length (take (2 * n) after) / 2) + 12)
        → At l ps d at f after r.state j (k + 1)

  pub turn_by : {e samples after : List ℕ} {s : FilterState} {r : Pulled} {end k n : ℕ} → At l ps d at e samples s end k → k < length sizes / 4
      → length sizes ≤ 4096 → length exc ≤ 4096 → at + 40960 ≤ length d
      → r ≡ (pull_of s l samples).pulled → after ≡ (pull_of s l samples).slice → n ≡ given_by r.answer
      → Turn e after r end k n
  turn_by {e} {samples} {after} {s} {r} {end} {k} {n} a m hs hx hd er ea en =
      let c = count-lent st sizes rows exc in
      let x = lent-excitation sizes rows exc in
      let more : k < length ps = omega arith in
      let xl : length l.excitation ≤ 4096 = rw x hx in
      let g = gives l ps d at a more xl in
      let p = get_or ps k [] in
      let q : n ≡ length p = en ∙ ap (λ (u : Pulled). given_by u.answer) er ∙ ap given_by g.answer in
      let lo = g.low in
      let w = a.room in
      let bytes : length (flat (bytes_of 2) p) ≡ 2 * length p = length-flat (bytes_of 2) 2 (length-bytes_of 2) p in
      let slice : after ≡ over (flat (bytes_of 2) p) samples = ea ∙ g.slice in
      let whole : length after ≡ 8192 = ap length slice ∙ length_over (flat (bytes_of 2) p) samples (omega arith) ∙ w in
      let back : elements 2 (take (2 * n) after) ≡ p = ap (λ (t : ℕ). elements 2 (take (2 * t) after)) q ∙ ap (λ (t : List ℕ). elements 2 (take (2 * length p) t)) slice ∙ read_back st l k samples in
      let cut : length (take (2 * n) after) ≡ 2 * n = rw length-take (omega arith) in
      let near = a.near in
      let same = a.same in
      let state : r.state ≡ (pull_of s l samples).pulled.state = ap (λ (u : Pulled). u.state) er in
      record {
        low = omega arith;
        whole = whole;
        cut = cut;
        room = (omega arith, (omega arith, omega arith));
        then = λ {f} {j} pu b.
            let b' : j ≤ end + (7 * length p + 12) = omega arith in
            let pu' : Puts e end (line ps k) f j = rw back at pu in
            turn l ps d at {after = after} {t = r.state} a more pu' b'
            (λ ds. ap (λ (t : FilterState). pulls t l ds) state ∙ g.goes ds)
            (ap (λ (t : FilterState). t.sample_place) state ∙ g.place) g.low whole;
      }

  pub end_by : {e samples : List ℕ} {s : FilterState} {end k : ℕ} → At l ps d at e samples s end k → length sizes / 4 ≤ k → length sizes ≤ 4096 → length exc ≤ 4096
      → Puts d at (periods ps) e end × (end ≤ at + 40960)
  end_by {e} {samples} {s} {end} {k} a m hs hx =
      let c = count-lent st sizes rows exc in
      let x = lent-excitation sizes rows exc in
      let near = a.near in
      let most = a.most in
      let place : s.sample_place ≤ length exc = rw x at a.place in
      (finish l ps d at a (omega arith), omega arith)
