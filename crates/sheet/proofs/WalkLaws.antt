-- Walking segments, or targets, that were read.
use Rattle.std.proofs.Common.{◌≡◌, ℕ, zero, suc, ◌-◌, true, List, [], ◌∷◌, length, drop, sym, refl, ap, ◌∙◌, arith}
use Rattle.sheet.specs.Sheet.{Got, gets, repeated}
use Rattle.sheet.specs.Answers.{reads, Agrees}
use Rattle.sheet.specs.Places.{is_read}
use Rattle.sheet.proofs.SheetLaws.{came}

module _ {B : Type 0} (one : List ℕ → Got B) (sheet : List ℕ) where
  -- from a place of the sheet on, k items are read, and they are xs
  pub record Ahead (k at : ℕ) (xs : List B) : Type 0 where
    pub rest : List ℕ
    pub is : repeated one k (drop at sheet) ≡ gets xs rest

  -- the item there, and those after it
  pub record Parted (k at : ℕ) (xs : List B) : Type 0 where
    pub item : B
    pub after : List ℕ
    pub is : one (drop at sheet) ≡ gets item after
    pub items : List B
    pub rest : List ℕ
    pub more : repeated one (k - 1) after ≡ gets items rest
    pub whole : xs ≡ item ∷ items

  parted : (k at : ℕ) (xs : List B) → (k ≡ 0 → ⊥) → Ahead k at xs → Parted k at xs
  unfolding repeated
  parted zero at xs n a = absurd (n refl)
  parted (suc k) at xs n a =
      let p = came _ _ xs a.rest a.is in
      let q = came _ _ xs a.rest p.after in
      let e : suc k - 1 ≡ k = omega arith in
      let w = q.after in
      record { item = p.value; after = p.rest; is = p.is; items = q.value; rest = q.rest; more = rw e q.is; whole = cc }

  pub ahead_none : (k at : ℕ) (xs : List B) → k ≡ 0 → Ahead k at xs → xs ≡ []
  unfolding repeated
  ahead_none zero at xs e a = let i = a.is in cc
  ahead_none (suc k) at xs e a = absurd (omega arith)

  -- there is one more: it is read
  pub ahead-some : (k at : ℕ) (xs : List B) → (k ≡ 0 → ⊥) → Ahead k at xs → is_read (one (drop at sheet)) ≡ true
  ahead-some k at xs n a = let p = parted k at xs n a in ap is_read p.is

  pub record Step (k next : ℕ) (x : B) (xs : List B) : Type 0 where
    pub items : List B
    pub whole : xs ≡ x ∷ items
    pub ahead : Ahead (k - 1) next items

  -- what is answered there is the first of them, and the others are ahead of the next place
  pub ahead_step : {A : Type 0} {meaning : A → B} {P : A → Type 0} (k at : ℕ) (xs : List B) (a : A) (next : ℕ) → (k ≡ 0 → ⊥) → Ahead k at xs
      → Agrees sheet meaning P (reads a next) (one (drop at sheet)) → Step k next (meaning a) xs
  ahead_step {A} {meaning} k at xs a next n h i =
      let p = parted k at xs n h in
      let g = i.same in
      let q = p.is in
      let x : meaning a ≡ p.item = cc in
      let d : drop next sheet ≡ p.after = cc in
      record {
        items = p.items;
        whole = p.whole ∙ ap (λ (y : B). y ∷ p.items) (sym x);
        ahead = record { rest = p.rest; is = ap (repeated one (k - 1)) d ∙ p.more };
      }

  many : (k : ℕ) (bs : List ℕ) (xs : List B) (r : List ℕ) → repeated one k bs ≡ gets xs r → length xs ≡ k
  unfolding repeated
  many zero bs xs r e = let q : [] ≡ xs = cc in ap length (sym q)
  many (suc k) bs xs r e =
      let p = came _ _ xs r e in
      let q = came _ _ xs r p.after in
      let w = q.after in
      let c : p.value ∷ q.value ≡ xs = cc in
      ap length (sym c) ∙ ap suc (many k p.rest q.value q.rest q.is)

  pub ahead-length : (k at : ℕ) (xs : List B) → Ahead k at xs → length xs ≡ k
  ahead-length k at xs a = many k (drop at sheet) xs a.rest a.is

  -- items answered one after the other, from a place on
  pub data Walk {A : Type 0} (meaning : A → B) (P : A → Type 0) : ℕ → List B → Type 0 where
    stop : {at : ℕ} → Walk meaning P at []
    step : {at next : ℕ} {a : A} {xs : List B} → Agrees sheet meaning P (reads a next) (one (drop at sheet)) → Walk meaning P next xs → Walk meaning P at (meaning a ∷ xs)

  -- as many of them as were read are those that were read
  pub walk-yields : {A : Type 0} {meaning : A → B} {P : A → Type 0} (k at : ℕ) (xs ys : List B) → Ahead k at xs → Walk meaning P at ys → length ys ≡ k → ys ≡ xs
  walk-yields k at xs ys h stop e = sym (ahead_none k at xs (sym e) h)
  walk-yields {meaning = meaning} k at xs ys h (step {next = next} {a = a} {xs = zs} i w) e =
      let n : length zs ≡ k - 1 = omega arith in
      let t = ahead_step k at xs a next (λ z. omega arith) h i in
      ap (λ (us : List B). meaning a ∷ us) (walk-yields (k - 1) next t.items zs t.ahead w n) ∙ sym t.whole
