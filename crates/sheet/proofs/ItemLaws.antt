-- Segments, or targets, one after the other: where they stand and where they end. One law for both, over what reads one of them.
use Rattle.std.specs.Prelude.{Err, Ok}
use Rattle.std.proofs.Common.{◌≡◌, ℕ, zero, suc, ◌+◌, ◌-◌, ◌<◌, ◌≤◌, List, ◌∷◌, length, drop, sym, refl, ap, ◌∙◌, arith}
use Rattle.refusal.specs.declared.Refusal.{Refusal}
use Rattle.sheet.specs.Sheet.{Got, fails, gets, ◌and_then◌, repeated}
use Rattle.sheet.specs.Answers.{Said, refuses, reads, meant, Agrees, ItemsIs, standing}
use Rattle.sheet.proofs.AnswerLaws.{refused, read}

stands-cons : {B : Type 0} (n at : ℕ) (x : B) (g : Got (List B)) → standing n at (g and_then λ xs r₁. gets (x ∷ xs) r₁) ≡ standing n at g
unfolding ◌and_then◌
stands-cons n at x (fails r) = refl
stands-cons n at x (gets xs bs) = refl

module _ {B : Type 0} (one : List ℕ → Got B) where
  -- a step of the definition, with its first reading given
  abbrev turn : ℕ → Got B → Got (List B)
  turn n g = g and_then λ x r. repeated one n r and_then λ xs r₁. gets (x ∷ xs) r₁

  one_more : (k : ℕ) (bs : List ℕ) → (k ≡ 0 → ⊥) → repeated one k bs ≡ turn (k - 1) (one bs)
  unfolding repeated
  one_more zero bs n = absurd (n refl)
  one_more (suc k) bs n = let e : suc k - 1 ≡ k = omega arith in rw e

  -- n segments or targets from a place on
  module _ (sheet : List ℕ) (n at : ℕ) where
    stands-none : (bs : List ℕ) → standing n at (repeated one 0 bs) ≡ gets (record { count = n; at = at }) bs
    unfolding repeated
    stands-none bs = refl

    abbrev all : Got (List B)
    all = repeated one n (drop at sheet)

    -- so many are skipped already, and the others stand from a place on
    pub record Skipping (place done : ℕ) : Type 0 where
      pub inside : place ≤ length sheet
      pub ends : standing n at (repeated one (n - done) (drop place sheet)) ≡ standing n at all

    pub skip_first : at ≤ length sheet → Skipping at 0
    skip_first h = let e : n - 0 ≡ n = omega arith in record { inside = h; ends = rw e refl }

    module _ (place done : ℕ) (s : Skipping place done) where
      pub skip-done : n ≤ done → ItemsIs sheet (Ok (record { value = record { count = n; at = at }; next = place })) (standing n at all)
      skip-done l =
          let z : n - done ≡ 0 = omega arith in
          read (sym s.ends ∙ ap (λ (k : ℕ). standing n at (repeated one k (drop place sheet))) z ∙ stands-none (drop place sheet)) s.inside tt

      -- after what was said of the first
      module _ {A : Type 0} {meaning : A → B} {P : A → Type 0} (some : done < n) where
        by_said : {said : Said A} → Agrees sheet meaning P said (one (drop place sheet))
            → repeated one (n - done) (drop place sheet) ≡ turn (n - (done + 1)) (meant sheet meaning said)
        by_said i =
            let e : n - done - 1 ≡ n - (done + 1) = omega arith in
            one_more (n - done) (drop place sheet) (λ z. omega arith) ∙ rw e (ap (turn (n - (done + 1))) (sym i.same))

        pub skip-refused : {c : Refusal} → Agrees sheet meaning P (refuses c) (one (drop place sheet)) → ItemsIs sheet (Err c) (standing n at all)
        unfolding ◌and_then◌
        skip-refused i = refused (sym s.ends ∙ ap (standing n at) (by_said i))

        pub skip-on : {a : A} {next : ℕ} → Agrees sheet meaning P (reads a next) (one (drop place sheet)) → Skipping next (done + 1)
        unfolding ◌and_then◌
        skip-on {a} {next} i =
            record {
              inside = i.within.0;
              ends = sym (ap (standing n at) (by_said i) ∙ stands-cons n at (meaning a) (repeated one (n - (done + 1)) (drop next sheet))) ∙ s.ends;
            }
