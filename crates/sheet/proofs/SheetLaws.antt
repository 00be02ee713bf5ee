-- What came of readings, one after the other; a sheet that is read has its followers among its own segments.
use Rattle.std.proofs.Common.{◌≡◌, ℕ, zero, suc, ◌≤◌, Bool, true, false, ltb, List, [], ◌∷◌, length, refl, ap, ◌∙◌, subst, arith, ltb-false}
use Rattle.refusal.specs.declared.Refusal.{Refusal}
use Rattle.refusal.specs.declared.Refusal.TheVariants.{BadSheet}
use Rattle.sheet.specs.Sheet.{SegmentRead, Got, fails, gets, ◌and_then◌, malformed_if, count, Counted, Parts, counted, segment, target, repeated, sheet_from, sheet_in, sheet_of}

-- the followers are at most n
pub data Refers (n : ℕ) : List SegmentRead → Type 0 where
  nil : Refers n []
  cons : {s : SegmentRead} {ss : List SegmentRead} → s.follower ≤ n → Refers n ss → Refers n (s ∷ ss)

-- what came of the first of two readings
pub record Came {A B : Type 0} (g : Got A) (f : A → List ℕ → Got B) (b : B) (r : List ℕ) : Type 0 where
  pub value : A
  pub rest : List ℕ
  pub is : g ≡ gets value rest
  pub after : f value rest ≡ gets b r

pub refused-got : {A : Type 0} (c : Refusal) (a : A) (r : List ℕ) → fails c ≡ gets a r → ⊥
refused-got c a r e = let z : ◌≡◌ {A = ℕ} 0 1 = cc in omega arith

pub came : {A B : Type 0} (g : Got A) (f : A → List ℕ → Got B) (b : B) (r : List ℕ) → (g and_then f) ≡ gets b r → Came g f b r
unfolding ◌and_then◌
came (fails c) f b r e = absurd (refused-got c b r e)
came (gets a s) f b r e = record { value = a; rest = s; is = refl; after = e }

-- what came of a reading that a test lets pass
pub formed : {A : Type 0} (t : Bool) (a b : A) (r s : List ℕ) → malformed_if t (gets a r) ≡ gets b s → (t ≡ false) × (a ≡ b)
formed true a b r s e = absurd (refused-got BadSheet b s e)
formed false a b r s e = (refl, cc)

-- the readings of a count and of so many items
pub record Reads {A : Type 0} (one : ℕ → List ℕ → Got A) (bs : List ℕ) (c : Counted A) (r : List ℕ) : Type 0 where
  pub many : count bs ≡ gets c.count c.from
  pub all : repeated (one c.count) c.count c.from ≡ gets c.items r

reads : {A : Type 0} (one : ℕ → List ℕ → Got A) (bs : List ℕ) (c : Counted A) (r : List ℕ) → counted one bs ≡ gets c r → Reads one bs c r
reads one bs c r e =
    let a = came _ _ c r e in
    let b = came _ _ c r a.after in
    let w = b.after in
    let q : b.rest ≡ r = cc in
    subst (λ z. Reads one bs z r) (cc) (record { many = a.is; all = b.is ∙ ap (gets b.value) q })

-- the readings of a sheet's parts, one after the other
pub record ReadParts (bs : List ℕ) (p : Parts) : Type 0 where
  pub rest : List ℕ
  pub segments : Reads segment bs p.segments rest
  pub end : List ℕ
  pub targets : Reads (λ n. target) rest p.targets end

pub read-parts : (bs : List ℕ) (p : Parts) (r : List ℕ) → sheet_from bs ≡ gets p r → ReadParts bs p
unfolding sheet_from
read-parts bs p r e =
    let a = came _ _ p r e in
    let b = came _ _ p r a.after in
    let q = formed (ltb 0 (length b.rest)) _ p _ r b.after in
    subst (ReadParts bs) q.1
    (record {
      rest = a.rest;
      segments = reads segment bs a.value a.rest a.is;
      end = b.rest;
      targets = reads (λ n. target) a.rest b.value b.rest b.is;
    })

segment-refers : (n : ℕ) (bs : List ℕ) (s : SegmentRead) (r : List ℕ) → segment n bs ≡ gets s r → s.follower ≤ n
unfolding segment
segment-refers n bs s r e =
    let a = came _ _ s r e in
    let b = came _ _ s r a.after in
    let c = came _ _ s r b.after in
    let q = formed (ltb n c.value) _ s _ r c.after in
    let l : c.value ≤ n = ltb-false n c.value q.0 in
    subst (λ (z : SegmentRead). z.follower ≤ n) q.1 l

record Right (n k : ℕ) (ss : List SegmentRead) : Type 0 where
  refers : Refers n ss
  many : length ss ≡ k

repeated-refers : (n k : ℕ) (bs : List ℕ) (ss : List SegmentRead) (r : List ℕ) → repeated (segment n) k bs ≡ gets ss r → Right n k ss
unfolding repeated
repeated-refers n zero bs ss r e =
    let q : [] ≡ ss = cc in
    subst (Right n zero) q (record { refers = nil; many = refl })
repeated-refers n (suc k) bs ss r e =
    let a = came _ _ ss r e in
    let b = came _ _ ss r a.after in
    let i = repeated-refers n k a.rest b.value b.rest b.is in
    let p = b.after in
    let q : a.value ∷ b.value ≡ ss = cc in
    subst (Right n (suc k)) q (record { refers = cons (segment-refers n bs a.value a.rest a.is) i.refers; many = ap suc i.many })

abbrev Own : List SegmentRead → Type 0
Own ss = Refers (length ss) ss

pub sheet-refers : (bs : List ℕ) → Own (sheet_of bs).segments
unfolding sheet_of
sheet-refers bs = by (sheet_from bs) (read-parts bs)
  where
    by : (g : Got Parts) → ((p : Parts) (r : List ℕ) → g ≡ gets p r → ReadParts bs p) → Own (sheet_in g).segments
    by (fails c) f = nil
    by (gets p r) f =
        let k = f p r refl in
        let c = p.segments in
        let i = repeated-refers c.count c.count c.from c.items k.rest k.segments.all in
        let m = i.many in
        rw m i.refers

-- 'At most 4,096 of each'
count-few : (bs : List ℕ) (n : ℕ) (r : List ℕ) → count bs ≡ gets n r → n ≤ 4096
unfolding count
count-few bs n r e =
    let a = came _ _ n r e in
    let q = formed (ltb 4096 a.value) _ n _ r a.after in
    subst (λ (k : ℕ). k ≤ 4096) q.1 (ltb-false 4096 a.value q.0)

pub sheet-few : (bs : List ℕ) → length (sheet_of bs).segments ≤ 4096
unfolding sheet_of
sheet-few bs = by (sheet_from bs) (read-parts bs)
  where
    by : (g : Got Parts) → ((p : Parts) (r : List ℕ) → g ≡ gets p r → ReadParts bs p) → length (sheet_in g).segments ≤ 4096
    by (fails c) f = omega arith
    by (gets p r) f =
        let k = f p r refl in
        let c = p.segments in
        let i = repeated-refers c.count c.count c.from c.items k.rest k.segments.all in
        let m = i.many in
        let l = count-few bs c.count c.from k.segments.many in
        omega arith
