-- The loops that find the end of a unit's share and take its marks: what is still to take, one turn at a time.
use mathlib.Core.Path.{◌≡◌, refl, sym, ap, subst, ◌∙◌}
use mathlib.Core.Bool.{Bool, true, false}
use mathlib.Core.List.{List, [], ◌∷◌, ◌++◌}
use Prim.Native.Nat.{ℕ, suc, ◌+◌, ◌-◌, ◌*◌, ◌/◌, ◌^◌, ◌≤◌, ◌<◌, min, max}
use native.Mathlib.Nat.{mul-le-mul_left, mul-suc, le_refl}
use native.Mathlib.Numerals.{add-one}
use native.Mathlib.Omega.{arith}
use lib.Dec.{ltb}
use lib.IntN.{pos}
use lib.Ieee.{Float, fin}
use lib.ListN.{length, take, drop, drop_of_length-le, length-drop}
use lib.Seq.{sets, length-sets, drop-cons, drop-drop}
use Rattle.base.specs.Choice.{pick}
use Rattle.base.specs.Buffers.{over, flat, upto}
use Rattle.base.specs.Bytes.{little_endian, bytes_of, elements, u32_at}
use Rattle.base.proofs.BoundLaws.{Each, cons}
use Rattle.base.proofs.BufferLaws.{length_over, sets-append, flat_append, length-upto, get_or-upto}
use Rattle.base.proofs.ByteLaws.{length-bytes_of}
use Rattle.voice.specs.declared.DiphoneVoice.{DiphoneVoice}
use Rattle.voice.specs.Voice.{Voice, voice_of}
use Rattle.voice.specs.Periods.{row_of, decode_room}
use Rattle.voice.specs.Opening.{IsOpen}
use Rattle.units.specs.declared.Unit.{Unit}
use Rattle.marks.specs.NaturalMarks.{period_count}
use Rattle.marks.specs.Checking.{last_of}
use Rattle.marks.specs.Rising.{Rising}
use Rattle.excitation.specs.Source.{source_of, centred}
use Rattle.excitation.specs.Nearest.{nearest_period, pace_of, place_after_size}
use Rattle.excitation.specs.Shares.{up_to_end, own_periods, share_count}
use Rattle.excitation.specs.Taken.{Period, period_of, periods_of_marks, periods_of_share, sizes_of, rows_of, excitation_of, decoded_over}
use Rattle.excitation.proofs.ShareLaws.{front-rises, end_none, end-above, end-takes, share-count}
use Rattle.excitation.proofs.SizedLaws.{length-centred}
use Rattle.taking.specs.declared.Progress.{Progress}
use Rattle.taking.specs.Taking.{decoded_of, Held, unit_share, unit_taken, CanTake, Takes, CanTakePeriod, TakesPeriod}
use Rattle.taking.proofs.PeriodLaws.{decoded-fits, frames-is, row-bytes}

-- ---- the marks that are left

module _ (marks : List ℕ) (i : ℕ) where
  pub mark-next : i < length marks / 4 → drop i (elements 4 marks) ≡ u32_at marks i ∷ drop (i + 1) (elements 4 marks)
  unfolding elements
  mark-next h =
      let f : ℕ → ℕ = λ i. little_endian 4 marks (4 * i) in
      let l : i < length (upto f (length marks / 4)) = rw length-upto h in
      drop-cons (upto f (length marks / 4)) i 0 l ∙ rw (get_or-upto f (length marks / 4) i 0 h, add-one i)

  pub mark-none : length marks / 4 ≤ i → drop i (elements 4 marks) ≡ []
  unfolding elements
  mark-none h = drop_of_length-le (upto (λ i. little_endian 4 marks (4 * i)) (length marks / 4)) {i = i} (rw length-upto h)

-- ---- the end of a unit's share

-- by whether the join is the simple one
pub share-own : (natural : Bool) (u : Unit) (marks : List ℕ) (taken end : ℕ) → natural ≡ true → end ≡ taken + min (period_count u) (length marks / 4 - taken)
    → end ≡ taken + share_count natural u (drop taken (elements 4 marks))
unfolding share_count own_periods elements
share-own natural u marks taken end t e = e ∙ rw (t, length-drop, length-upto) refl

pub share-up-to : (natural : Bool) (u : Unit) (marks : List ℕ) (taken end : ℕ) → natural ≡ false → end ≡ taken + up_to_end u (drop taken (elements 4 marks))
    → end ≡ taken + share_count natural u (drop taken (elements 4 marks))
unfolding share_count
share-up-to natural u marks taken end t e = rw t e

-- the marks up to its target end
module _ (u : Unit) (marks : List ℕ) (taken end : ℕ) (e : taken + up_to_end u (drop taken (elements 4 marks)) ≡ end + up_to_end u (drop end (elements 4 marks))) where
  -- no mark is left
  pub share-whole : length marks / 4 ≤ end → end ≡ taken + up_to_end u (drop taken (elements 4 marks))
  share-whole h =
      let a = ap (up_to_end u) (mark-none marks end h) ∙ end_none u in
      omega arith

  module _ (m : ℕ) (h : end < length marks / 4) (is : m ≡ u32_at marks end) where
    coming-mark : drop end (elements 4 marks) ≡ m ∷ drop (end + 1) (elements 4 marks)
    coming-mark = mark-next marks end h ∙ ap (λ (i : ℕ). i ∷ drop (end + 1) (elements 4 marks)) (sym is)

    pub share-ends : u.target_end < m → end ≡ taken + up_to_end u (drop taken (elements 4 marks))
    share-ends x =
        let a = ap (up_to_end u) coming-mark ∙ end-above u m _ x in
        omega arith

    pub share-goes-on : m ≤ u.target_end → taken + up_to_end u (drop taken (elements 4 marks)) ≡ end + 1 + up_to_end u (drop (end + 1) (elements 4 marks))
    share-goes-on x =
        let a = ap (up_to_end u) coming-mark ∙ end-takes u m _ x in
        omega arith

-- ---- the marks of a share that are still to take: those before `end`, from i on

abbrev pub lent : List ℕ → ℕ → ℕ → List ℕ
lent marks end i = take (end - i) (drop i (elements 4 marks))

lent_none : (marks : List ℕ) (end i : ℕ) → end ≤ i → lent marks end i ≡ []
lent_none marks end i h = let e : end - i ≡ 0 = omega arith in rw e

lent-next : (marks : List ℕ) (end i : ℕ) → i < end → i < length marks / 4 → lent marks end i ≡ u32_at marks i ∷ lent marks end (i + 1)
lent-next marks end i h l =
    let e : end - i ≡ suc (end - (i + 1)) = omega arith in
    ap (λ (n : ℕ). take n (drop i (elements 4 marks))) e ∙ ap (take (suc (end - (i + 1)))) (mark-next marks i l)

-- the last of some marks that do not fall is not below the one before them
last-above : (mark : ℕ) (ms : List ℕ) → Rising mark ms → mark ≤ last_of mark ms
unfolding last_of
last-above mark [] r = le_refl mark
last-above mark (m ∷ ms) r = let a = r.0 in let b = last-above m ms r.1 in omega arith

-- ---- all that is left behind once some periods are taken: how many are taken, the last mark, and the buffers

pub record Whole : Type 0 where
  pub count : ℕ
  pub mark : ℕ
  pub sizes : List ℕ
  pub rows : List ℕ
  pub excitation : List ℕ
  pub decoded : List ℕ

abbrev pub whole : Voice → ℕ → ℕ → ℕ → List Period → ℕ → List ℕ → List ℕ → List ℕ → List ℕ → Whole
whole v order taken mark ps last s r e b =
    record {
      count = taken + length ps;
      mark = last;
      sizes = sets s (4 * taken) (flat (bytes_of 4) (sizes_of ps));
      rows = sets r (2 * (order * taken)) (flat (bytes_of 2) (rows_of ps));
      excitation = sets e mark (excitation_of ps);
      decoded = decoded_over v b ps;
    }

equal : (n n' m : ℕ) (s s' r r' e e' b : List ℕ) → n ≡ n' → s ≡ s' → r ≡ r' → e ≡ e'
    → ◌≡◌ {A = Whole} (record { count = n; mark = m; sizes = s; rows = r; excitation = e; decoded = b }) (record { count = n'; mark = m; sizes = s'; rows = r'; excitation = e'; decoded = b })
equal n n' m s s' r r' e e' b p q x y = cc

whole_by : (v : Voice) (order taken : ℕ) (ps : List Period) (last : ℕ) {m m' : ℕ} {s s' r r' e e' b b' : List ℕ} → m ≡ m' → s ≡ s' → r ≡ r' → e ≡ e' → b ≡ b'
    → whole v order taken m ps last s r e b ≡ whole v order taken m' ps last s' r' e' b'
whole_by v order taken ps last p q x y z = rw (p, q, x, y, z)

sets-next : (l : List ℕ) (i j : ℕ) (p q : List ℕ) → i + length p ≡ j → sets l i (p ++ q) ≡ sets (sets l i p) j q
sets-next l i j p q e = sets-append l i p q ∙ ap (λ (n : ℕ). sets (sets l i p) n q) e

-- one period more
module _ (v : Voice) (order taken mark size p : ℕ) (ps : List Period) (last : ℕ) (s r e b : List ℕ) (wide : length (flat (bytes_of 2) (row_of v p)) ≡ 2 * order) where
  whole-next : whole v order taken mark (period_of v size p ∷ ps) last s r e b
      ≡ whole v order (taken + 1) (mark + size) ps last (sets s (4 * taken) (bytes_of 4 size)) (sets r (2 * (order * taken)) (flat (bytes_of 2) (row_of v p)))
      (sets e mark (centred size (source_of v p))) (pick (ltb 0 size) (over (decoded_of v p) b) b)
  unfolding flat sizes_of rows_of excitation_of decoded_over period_of
  whole-next =
      let a : 4 * taken + length (bytes_of 4 size) ≡ 4 * (taken + 1) = rw length-bytes_of (omega arith) in
      let m : order * (taken + 1) ≡ order * taken + order = rw add-one (mul-suc order taken) in
      let c : 2 * (order * taken) + length (flat (bytes_of 2) (row_of v p)) ≡ 2 * (order * (taken + 1)) = rw (wide, m) (omega arith) in
      let g : mark + length (centred size (source_of v p)) ≡ mark + size = ap (λ (n : ℕ). mark + n) (length-centred size (source_of v p)) in
      equal _ _ _ _ _ _ _ _ _ _
      (omega arith)
      (sets-next s (4 * taken) (4 * (taken + 1)) (bytes_of 4 size) (flat (bytes_of 4) (sizes_of ps)) a)
      (ap (sets r (2 * (order * taken))) (flat_append (bytes_of 2) (row_of v p) (rows_of ps)) ∙ sets-next r (2 * (order * taken)) (2 * (order * (taken + 1))) (flat (bytes_of 2) (row_of v p)) (flat (bytes_of 2) (rows_of ps)) c)
      (sets-next e mark (mark + size) (centred size (source_of v p)) (excitation_of ps) g)

length-decoding : (v : Voice) (p size : ℕ) (b : List ℕ) → length (decoded_of v p) ≤ length b → length (pick (ltb 0 size) (over (decoded_of v p) b) b) ≡ length b
length-decoding v p size b h = by (ltb 0 size)
  where
    by : (t : Bool) → length (pick t (over (decoded_of v p) b) b) ≡ length b
    by true = length_over (decoded_of v p) b h
    by false = refl

-- ---- the loop: what is left behind in the end is always the same

-- what it is, from a mark and a place on, for some marks
abbrev whole_from : List ℕ → DiphoneVoice → Unit → Float → Progress → Float → List ℕ → List ℕ → List ℕ → List ℕ → List ℕ → Whole
whole_from file d u pace to place ms s r e b = whole (voice_of file) d.header.order to.taken to.mark (periods_of_marks (voice_of file) u pace place to.mark ms) (last_of to.mark ms) s r e b

pub record Going (file : List ℕ) (d : DiphoneVoice) (u : Unit) (marks : List ℕ) (pace : Float) (end : ℕ) (w : Whole) (n k l o : ℕ) (s r e b : List ℕ) (to : Progress) (place : Float) : Type 0 where
  pub all : whole_from file d u pace to place (lent marks end to.taken) s r e b ≡ w
  pub within : end ≤ max to.taken (length marks / 4)
  pub rising : Rising to.mark (lent marks end to.taken)
  pub held : Held (voice_of file) b to.front
  pub sizes_long : length s ≡ n
  pub rows_long : length r ≡ k
  pub excitation_long : length e ≡ l
  pub decoded_long : length b ≡ o

-- what a call leaves behind
abbrev pub whole_of : Bool → List ℕ → DiphoneVoice → Unit → ℕ → List ℕ → Progress → List ℕ → List ℕ → List ℕ → List ℕ → Whole
whole_of natural file d u end_before marks at s r e b =
    whole (voice_of file) d.header.order at.taken at.mark (unit_taken natural (voice_of file) u end_before marks at) (last_of at.mark (unit_share natural u end_before marks at).marks) s r e b

-- the room for it
pub record Room (order : ℕ) (w : Whole) (n k l : ℕ) : Type 0 where
  pub sizes : 4 * w.count ≤ n
  pub rows : 2 * (order * w.count) ≤ k
  pub excitation : w.mark ≤ l

pub each_first : {A : Type 0} {P : A → Type 0} {x : A} {xs : List A} → Each P (x ∷ xs) → P x × Each P xs
each_first (cons l e) = (l, e)

module _ (file : List ℕ) (d : DiphoneVoice) (u : Unit) (marks : List ℕ) (pace : Float) (end : ℕ) (w : Whole) (n k l o : ℕ) (s r e b : List ℕ) (to : Progress) (place : Float)
    (g : Going file d u marks pace end w n k l o s r e b to place) where
  abbrev v : Voice
  v = voice_of file

  abbrev order : ℕ
  order = d.header.order

  -- no mark is left
  pub ran_out : end ≤ to.taken → whole v order to.taken to.mark [] to.mark s r e b ≡ w
  unfolding periods_of_marks last_of
  ran_out h = ap (λ (ms : List ℕ). whole_from file d u pace to place ms s r e b) (sym (lent_none marks end to.taken h)) ∙ g.all

  mark-there : to.taken < end → to.taken < length marks / 4
  mark-there h = let a = g.within in omega arith

  module _ (m : ℕ) (h : to.taken < end) (is : m ≡ u32_at marks to.taken) where
    abbrev after : List ℕ
    after = lent marks end (to.taken + 1)

    coming : lent marks end to.taken ≡ m ∷ after
    coming = lent-next marks end to.taken h (mark-there h) ∙ ap (λ (i : ℕ). i ∷ after) (sym is)

    risen : (to.mark ≤ m) × Rising m after
    risen = subst (Rising to.mark) coming g.rising

    pub mark-above : to.mark ≤ m
    mark-above = risen.0

    abbrev rest : List Period
    rest = periods_of_marks v u pace (place_after_size place pace (m - to.mark)) m after

    more : whole v order to.taken to.mark (period_of v (m - to.mark) (nearest_period v u place) ∷ rest) (last_of m after) s r e b ≡ w
    unfolding periods_of_marks last_of
    more = ap (λ (ms : List ℕ). whole_from file d u pace to place ms s r e b) (sym coming) ∙ g.all

    -- the next period fits the buffers
    pub can-take : (p : ℕ) → IsOpen file d → p < d.header.frames → m < 2 ^ 32 → decode_room v ≤ o → Room order w n k l
        → CanTakePeriod file d p (m - to.mark) to (length s) (length r) (length e) b
    can-take p opened inside low room q =
        let count : to.taken + suc (length rest) ≡ w.count = ap (λ (w : Whole). w.count) more in
        let last : last_of m after ≡ w.mark = ap (λ (w : Whole). w.mark) more in
        let top = last-above m after risen.1 in
        let above = risen.0 in
        let a = g.sizes_long in
        let c = g.rows_long in
        let f = g.excitation_long in
        let i = g.decoded_long in
        let y : suc to.taken ≤ w.count = omega arith in
        let z : order * suc to.taken ≤ order * w.count = mul-le-mul_left order y in
        let z' : order * to.taken + order ≤ order * w.count = rw mul-suc at z in
        record {
          low = omega arith;
          sizes_room = omega (arith, q.sizes);
          rows_room = omega (arith, q.rows);
          samples = record { opened = opened; inside = inside; excitation_room = omega (arith, q.excitation, top, last); decoded_room = omega arith; held = g.held };
        }

    fits : {p : ℕ} → IsOpen file d → p < d.header.frames → decode_room v ≤ o → length (decoded_of v p) ≤ length b
    fits {p} opened inside room =
        let a = decoded-fits v p (rw (frames-is file d opened) inside) in
        let c = g.decoded_long in
        omega (arith, a, c, room)

    -- and once it is taken, the rest is to take
    pub going_on : (p front : ℕ) (s₁ r₁ e₁ b₁ : List ℕ) (place₁ : Float) → IsOpen file d → p < d.header.frames → decode_room v ≤ o → p ≡ nearest_period v u place
        → place₁ ≡ place_after_size place pace (m - to.mark)
        → TakesPeriod file d p (m - to.mark) to front s s₁ r r₁ e e₁ b b₁
        → Going file d u marks pace end w n k l o s₁ r₁ e₁ b₁ (record { taken = to.taken + 1; mark = m; front = front }) place₁
    going_on p front s₁ r₁ e₁ b₁ place₁ opened inside room near placed t =
        let size : to.mark + (m - to.mark) ≡ m = let above = risen.0 in omega arith in
        let w₁ : whole v order (to.taken + 1) m rest (last_of m after) s₁ r₁ e₁ b₁ ≡ w =
        whole_by v order (to.taken + 1) rest (last_of m after) (sym size) t.sizes t.rows t.samples.excitation t.samples.decoded
        ∙ sym (whole-next v order to.taken to.mark (m - to.mark) p rest (last_of m after) s r e b (row-bytes file d opened p))
        ∙ ap (λ (p : ℕ). whole v order to.taken to.mark (period_of v (m - to.mark) p ∷ rest) (last_of m after) s r e b) near
        ∙ more in
        let reach = g.within in
        record {
          all = ap (λ (x : Float). whole v order (to.taken + 1) m (periods_of_marks v u pace x m after) (last_of m after) s₁ r₁ e₁ b₁) placed ∙ w₁;
          within = omega arith;
          rising = risen.1;
          held = t.samples.held;
          sizes_long = ap length t.sizes ∙ simp length-sets g.sizes_long;
          rows_long = ap length t.rows ∙ simp length-sets g.rows_long;
          excitation_long = ap length t.samples.excitation ∙ simp length-sets g.excitation_long;
          decoded_long = ap length t.samples.decoded ∙ length-decoding v p (m - to.mark) b (fits opened inside room) ∙ g.decoded_long;
        }

-- ---- the first turn, and the last

pub going-first : (natural : Bool) (file : List ℕ) (d : DiphoneVoice) (u : Unit) (end_before : ℕ) (marks : List ℕ) (at : Progress) (s r e b : List ℕ) (pace : Float) (end : ℕ)
    → CanTake natural file d u end_before marks at (length s) (length r) (length e) b → pace ≡ pace_of (voice_of file) u end_before
    → end ≡ at.taken + share_count natural u (drop at.taken (elements 4 marks)) → end ≤ max at.taken (length marks / 4)
    → Going file d u marks pace end (whole_of natural file d u end_before marks at s r e b) (length s) (length r) (length e) (length b) s r e b at (fin false 0 (pos 0))
unfolding periods_of_share
going-first natural file d u end_before marks at s r e b pace end h q x y =
    let ms = drop at.taken (elements 4 marks) in
    let own : lent marks end at.taken ≡ take (share_count natural u ms) ms = let z : end - at.taken ≡ share_count natural u ms = omega arith in rw z in
    record {
      all =
          ap (λ (l : List ℕ). whole_from file d u pace at (fin false 0 (pos 0)) l s r e b) own
          ∙ ap (λ (x : Float). whole_from file d u x at (fin false 0 (pos 0)) (take (share_count natural u ms) ms) s r e b) q;
      within = y;
      rising = subst (Rising at.mark) (sym own) (front-rises (share_count natural u ms) at.mark ms h.rising);
      held = h.held;
      sizes_long = refl;
      rows_long = refl;
      excitation_long = refl;
      decoded_long = refl;
    }

pub room_for : (natural : Bool) (file : List ℕ) (d : DiphoneVoice) (u : Unit) (end_before : ℕ) (marks : List ℕ) (at : Progress) (s r e b : List ℕ)
    → CanTake natural file d u end_before marks at (length s) (length r) (length e) b → Room d.header.order (whole_of natural file d u end_before marks at s r e b) (length s) (length r) (length e)
room_for natural file d u end_before marks at s r e b h = record { sizes = h.sizes_room; rows = h.rows_room; excitation = h.excitation_room }

pub took : (natural : Bool) (file : List ℕ) (d : DiphoneVoice) (u : Unit) (end_before : ℕ) (marks : List ℕ) (at to : Progress) (s₀ s r₀ r e₀ e b₀ b : List ℕ)
    → whole (voice_of file) d.header.order to.taken to.mark [] to.mark s r e b ≡ whole_of natural file d u end_before marks at s₀ r₀ e₀ b₀
    → Held (voice_of file) b to.front → Takes natural file d u end_before marks at to s₀ s r₀ r e₀ e b₀ b
unfolding flat sizes_of rows_of excitation_of decoded_over
took natural file d u end_before marks at to s₀ s r₀ r e₀ e b₀ b q held =
    let n : to.taken ≡ to.taken + 0 = omega arith in
    let ms = drop at.taken (elements 4 marks) in
    let taken : to.taken ≡ at.taken + length (unit_taken natural (voice_of file) u end_before marks at) = n ∙ ap (λ (w : Whole). w.count) q in
    record {
      taken = taken;
      mark = ap (λ (w : Whole). w.mark) q;
      left =
          ap (λ (i : ℕ). drop i (elements 4 marks)) (taken ∙ ap (λ (n : ℕ). at.taken + n) (share-count natural (voice_of file) end_before at.mark u ms))
          ∙ sym (drop-drop (share_count natural u ms) at.taken (elements 4 marks));
      sizes = ap (λ (w : Whole). w.sizes) q;
      rows = ap (λ (w : Whole). w.rows) q;
      excitation = ap (λ (w : Whole). w.excitation) q;
      decoded = ap (λ (w : Whole). w.decoded) q;
      held = held;
    }
