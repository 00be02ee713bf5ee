-- The loops that store marks.
use Rattle.std.specs.Prelude.{None, Some}
use Rattle.std.proofs.Common.{◌≡◌, ℕ, suc, ◌+◌, ◌-◌, ◌*◌, ◌<◌, ◌≤◌, List, [], ◌∷◌, length, take, sym, refl, ap, ◌∙◌, subst, arith, length-take}
use lib.Seq.{sets, length-sets, take-nil}
use Rattle.base.specs.Buffers.{flat, over}
use Rattle.base.specs.Bytes.{bytes_of}
use Rattle.base.proofs.BufferLaws.{sets-append, sets_over, length-flat}
use Rattle.base.proofs.ByteLaws.{length-bytes_of}
use Rattle.voice.specs.declared.DiphoneVoice.{DiphoneVoice}
use Rattle.voice.specs.Voice.{Voice, voice_of}
use Rattle.voice.specs.Periods.{samples_of, samples_from}
use Rattle.refusal.specs.declared.Refusal.{Refusal}
use Rattle.sheet.specs.declared.Places.{Places}
use Rattle.sheet.specs.Sheet.{sheet_of}
use Rattle.marks.specs.declared.Walk.{Walk}
use Rattle.marks.specs.PitchMarks.{Made, pitch_marks}
use Rattle.marks.specs.Walking.{coming, stops, Reads, fresh_walk, Steps}
use Rattle.marks.specs.Checking.{CanStore, CanStoreUnit}
use Rattle.marks.specs.NaturalMarks.{marks_of_periods}
use Rattle.marks.proofs.WalkLaws.{fresh-coming}
use Rattle.marks.proofs.UnitLaws.{periods-none, samples-none, periods-more, samples-more, length-periods}

-- ---- marks still to store, from element i on

pub record Stores (d : List ℕ) (i : ℕ) (ms all : List ℕ) : Type 0 where
  pub room : 4 * i + 4 * length ms ≤ length d
  pub whole : sets d (4 * i) (flat (bytes_of 4) ms) ≡ all

pub store-one : (d : List ℕ) (i m : ℕ) (ms all : List ℕ) → Stores d i (m ∷ ms) all → Stores (sets d (4 * i) (bytes_of 4 m)) (i + 1) ms all
unfolding flat
store-one d i m ms all s =
    let r = s.room in
    let e : 4 * i + length (bytes_of 4 m) ≡ 4 * (i + 1) = rw length-bytes_of (omega arith) in
    let n = sets-append d (4 * i) (bytes_of 4 m) (flat (bytes_of 4) ms) in
    record {
      room = rw length-sets (omega arith);
      whole = ap (λ (k : ℕ). sets (sets d (4 * i) (bytes_of 4 m)) k (flat (bytes_of 4) ms)) (sym e) ∙ sym n ∙ s.whole;
    }

pub store-none : (d : List ℕ) (i : ℕ) (all : List ℕ) → Stores d i [] all → d ≡ all
unfolding flat
store-none d i all s = s.whole

-- all of them, from the front
pub store-all : (d ms : List ℕ) → 4 * length ms ≤ length d → Stores d 0 ms (over (flat (bytes_of 4) ms) d)
store-all d ms h =
    let l = length-flat (bytes_of 4) 4 (length-bytes_of 4) ms in
    record { room = omega arith; whole = sets_over (flat (bytes_of 4) ms) d (omega arith) }

-- ---- one turn of the walk

-- those before number `count` are still to store
pub record Storing (sheet : List ℕ) (count : ℕ) (w : Walk) (d : List ℕ) (i : ℕ) (all : List ℕ) : Type 0 where
  pub spoken : (coming sheet w).refusal ≡ None
  pub stores : Stores d i (take (count - i) (coming sheet w).marks) all
  pub ahead : Reads sheet w

pub storing-all : (sheet : List ℕ) (count : ℕ) (w : Walk) (d : List ℕ) (i : ℕ) (all : List ℕ) → Storing sheet count w d i all → count ≤ i → d ≡ all
storing-all sheet count w d i all k h =
    let z : count - i ≡ 0 = omega arith in
    store-none d i all (subst (λ (n : ℕ). Stores d i (take n (coming sheet w).marks) all) z k.stores)

module _ (sheet : List ℕ) (count : ℕ) (w : Walk) (d : List ℕ) (i : ℕ) (all : List ℕ) (k : Storing sheet count w d i all) where
  pub storing-refused : (r : Refusal) → coming sheet w ≡ stops (Some r) → ⊥
  storing-refused r q =
      let e : Some r ≡ None = ap (λ (m : Made). m.refusal) (sym q) ∙ k.spoken in
      let z : ◌≡◌ {A = ℕ} 0 1 = cc in
      omega arith

  pub storing-done : coming sheet w ≡ stops None → d ≡ all
  storing-done q =
      store-none d i all
      (subst (λ (ms : List ℕ). Stores d i ms all) (ap (λ (m : Made). take (count - i) m.marks) q ∙ take-nil (count - i)) k.stores)

  module _ (l : i < count) (m : ℕ) (x : Walk) (t : Steps sheet w m x) where
    to-store : Stores d i (m ∷ take (count - (i + 1)) (coming sheet x).marks) all
    to-store =
        let n : count - i ≡ suc (count - (i + 1)) = omega arith in
        subst (λ (ms : List ℕ). Stores d i ms all) (ap (λ (k : ℕ). take k (coming sheet w).marks) n ∙ ap (λ (m : Made). take (suc (count - (i + 1))) m.marks) t.is) k.stores

    pub storing-room : 4 * i + 4 ≤ length d
    storing-room = let r = to-store.room in omega arith

    pub storing-mark : (d₁ : List ℕ) → d₁ ≡ sets d (4 * i) (bytes_of 4 m) → Storing sheet count x d₁ (i + 1) all × (length d₁ ≡ length d)
    storing-mark d₁ e = (
      record {
        spoken = ap (λ (m : Made). m.refusal) (sym t.is) ∙ k.spoken;
        stores = subst (λ (l : List ℕ). Stores l (i + 1) (take (count - (i + 1)) (coming sheet x).marks) all) (sym e) (store-one d i m _ all to-store);
        ahead = t.ahead;
      },
      ap length e ∙ simp length-sets,
    )

-- ---- all turns

pub storing-first : (sheet : List ℕ) (p : Places) (rate count : ℕ) (w : Walk) (d : List ℕ) → CanStore sheet p rate count (length d) → w ≡ fresh_walk p rate
    → Storing sheet count w d 0 (over (flat (bytes_of 4) (take count (pitch_marks rate (sheet_of sheet).targets).marks)) d)
storing-first sheet p rate count w d h f =
    let made = pitch_marks rate (sheet_of sheet).targets in
    let ms = take count made.marks in
    let l = length-take count made.marks in
    let z : count ≡ count - 0 = omega arith in
    let c = fresh-coming sheet p rate w h.places f in
    let e : made ≡ coming sheet w = sym c.0 in
    record {
      spoken = ap (λ (m : Made). m.refusal) c.0 ∙ h.spoken;
      stores =
          subst (λ (ms₁ : List ℕ). Stores d 0 ms₁ (over (flat (bytes_of 4) ms) d)) (ap (λ (m : Made). take count m.marks) e ∙ ap (λ (n : ℕ). take n (coming sheet w).marks) z)
          (store-all d ms (omega (arith, h.room)));
      ahead = c.1;
    }

-- ---- one turn of a unit

-- the periods from p to `last` are still to store, the first of which begins at `end`; after them comes the place `next`
pub record UnitStoring (v : Voice) (last : ℕ) (d : List ℕ) (end i p : ℕ) (all : List ℕ) (next : ℕ) : Type 0 where
  pub stores : Stores d i (marks_of_periods v end p (last - p)) all
  pub ends : end + samples_from v p (last - p) ≡ next

module _ (v : Voice) (last : ℕ) (d : List ℕ) (end i p : ℕ) (all : List ℕ) (next : ℕ) (k : UnitStoring v last d end i p all next) where
  pub unit-stored : last ≤ p → (end ≡ next) × (d ≡ all)
  unit-stored h =
      let z : last - p ≡ 0 = omega arith in
      (sym (samples-none v end p (last - p) z) ∙ k.ends, store-none d i all (subst (λ (ms : List ℕ). Stores d i ms all) (periods-none v end p (last - p) z) k.stores))

  module _ (h : p < last) where
    abbrev end₁ : ℕ
    end₁ = end + samples_of v p

    less : last - p - 1 ≡ last - (p + 1)
    less = omega arith

    to-store-unit : Stores d i (end₁ ∷ marks_of_periods v end₁ (p + 1) (last - (p + 1))) all
    to-store-unit = subst (λ (ms : List ℕ). Stores d i ms all) (periods-more v end p (last - p) (omega arith) ∙ ap (λ (n : ℕ). end₁ ∷ marks_of_periods v end₁ (p + 1) n) less) k.stores

    ends-after : end₁ + samples_from v (p + 1) (last - (p + 1)) ≡ next
    ends-after = ap (λ (n : ℕ). end₁ + samples_from v (p + 1) n) (sym less) ∙ sym (samples-more v end p (last - p) (omega arith)) ∙ k.ends

    pub unit-room : 4 * i + 4 ≤ length d
    unit-room = let r = to-store-unit.room in omega arith

    pub unit-low : (size : ℕ) → size ≡ samples_of v p → end + size ≤ next
    unit-low size e = let a = ends-after in omega arith

    pub unit-storing : (size : ℕ) (d₁ : List ℕ) → size ≡ samples_of v p → d₁ ≡ sets d (4 * i) (bytes_of 4 (end + size))
        → UnitStoring v last d₁ (end + size) (i + 1) (p + 1) all next × (length d₁ ≡ length d)
    unit-storing size d₁ e f = rw (f, e) (record { stores = store-one d i end₁ _ all to-store-unit; ends = ends-after }, simp length-sets)

pub unit-first : (file : List ℕ) (v : DiphoneVoice) (place first last index : ℕ) (d : List ℕ) → CanStoreUnit file v place first last index (length d)
    → UnitStoring (voice_of file) last d place index first (sets d (4 * index) (flat (bytes_of 4) (marks_of_periods (voice_of file) place first (last - first)))) (place + samples_from (voice_of file) first (last - first))
unit-first file v place first last index d h =
    let n = length-periods (voice_of file) place first (last - first) in
    let r = h.room in
    record { stores = record { room = omega arith; whole = refl }; ends = refl }
