-- A pull on the bytes of a state is a pull on the state.
use Rattle.std.specs.Prelude.{Err}
use mathlib.Core.Path.{◌≡◌, refl, sym, ap, subst, ◌∙◌}
use mathlib.Core.Bool.{Bool, true, false}
use mathlib.Core.List.{List, ◌++◌, append_assoc}
use Prim.Native.Nat.{ℕ, ◌/◌, ◌%◌, ◌^◌, ◌≤◌, ◌<◌}
use native.Mathlib.Nat.{mod-eq_of_lt}
use native.Mathlib.Omega.{arith}
use borrow.Author.Tests.{leb-true, eqb-false}
use lib.Dec.{ltb}
use lib.ListN.{length, length-append, length-take, length-drop}
use Rattle.base.specs.Choice.{pick}
use Rattle.base.specs.Buffers.{over}
use Rattle.base.specs.Bytes.{little_endian, bytes_of}
use Rattle.base.proofs.ListLaws.{every-at}
use Rattle.base.proofs.ByteLaws.{little_endian-front}
use Rattle.refusal.specs.declared.Refusal.TheVariants.{BadState}
use Rattle.lpc.specs.declared.ResynthType.{ResynthType}
use Rattle.lpc.specs.declared.ResynthType.TheVariants.{Fixed, Float as FloatType}
use Rattle.lpc.specs.declared.FilterState.{FilterState}
use Rattle.lpc.specs.State.{advanced}
use Rattle.call.specs.Pull.{Lent, all_given, possible, next_part, Outcome, leaves, pull_of}
use Rattle.c_state.specs.State.{filter_number, state_of, head_bytes, bytes_of_state}
use Rattle.c_pull.specs.Pull.{outcome_of, kept_by, state_left}
use Rattle.c_state.proofs.StateLaws.{length-head, length-history}
use Rattle.c_state.proofs.RoundLaws.{Storable, loads-back}
use Rattle.c_pull.proofs.PullLaws.{is_state_lem, chosen}
use Rattle.c_state.proofs.StorableLaws.{advanced-storable}

-- the bytes w say the state s, which can be stored
pub record HoldsState (w : List ℕ) (s : FilterState) : Type 0 where
  pub long : 168 ≤ length w
  pub filter_low : little_endian 4 w 0 ≤ 1
  pub says : state_of w ≡ s
  pub storable : Storable s

-- ---- a state that was stored

number-low : (t : ResynthType) → filter_number t ≤ 1
number-low Fixed = omega arith
number-low FloatType = omega arith

front_of : (k v : ℕ) (a b r : List ℕ) → little_endian k (((bytes_of k v ++ a) ++ b) ++ r) 0 ≡ v % 256 ^ k
front_of k v a b r = simp append_assoc (little_endian-front k v (a ++ (b ++ r)))

module _ (s : FilterState) (w : List ℕ) where
  filter-stored : little_endian 4 (over (bytes_of_state s) w) 0 ≡ filter_number s.filter
  unfolding over bytes_of_state head_bytes
  filter-stored = let l = number-low s.filter in front_of 4 (filter_number s.filter) _ _ _ ∙ mod-eq_of_lt (omega arith)

  length-stored : 168 ≤ length (over (bytes_of_state s) w)
  unfolding over bytes_of_state
  length-stored = let a = length-head s in let b = length-history s in simp (length-append, a, b) (omega arith)

  pub stored-holds : Storable s → HoldsState (over (bytes_of_state s) w) s
  stored-holds p =
      record {
        long = length-stored;
        filter_low = let l = number-low s.filter in let e = filter-stored in rw e l;
        says = loads-back s w p;
        storable = p;
      }

-- ---- a pull

module _ (w : List ℕ) (s : FilterState) (held : HoldsState w s) (l : Lent) (d : List ℕ) where
  pub outcome-held : outcome_of w l d ≡ pull_of s l d
  unfolding outcome_of
  outcome-held =
      ap (λ (t : Bool). pick t (pull_of (state_of w) l d) (leaves (Err BadState) (state_of w) d)) (is_state_lem w held.long held.filter_low)
      ∙ ap (λ (x : FilterState). pull_of x l d) held.says

  module _ (sizes_low : length l.sizes < 2 ^ 64) (excitation_low : length l.excitation < 2 ^ 64) where
    next-storable : possible s l ≡ true → all_given s l ≡ false → Storable (advanced s (next_part s l))
    unfolding possible next_part
    next-storable p g =
        let place : s.ring_place ≤ s.order = leb-true _ _ (every-at _ p 1) in
        let period : s.period ≤ length l.sizes = leb-true _ _ (every-at _ p 2) in
        let sample : s.sample_place ≤ length l.excitation = leb-true _ _ (every-at _ p 3) in
        let differs : s.period ≡ length l.sizes → ⊥ = eqb-false _ _ g in
        advanced-storable s (next_part s l) held.storable place (omega arith) (rw (length-take, length-drop) (omega arith))

    next-by : (t u v : Bool) → possible s l ≡ t → all_given s l ≡ u → HoldsState (kept_by (chosen s l d t u v).pulled.answer (chosen s l d t u v).pulled w) (chosen s l d t u v).pulled.state
    next-by true true v p g = held
    next-by true false true p g = held
    next-by true false false p g = stored-holds (advanced s (next_part s l)) w (next-storable p g)
    next-by false u v p g = held

    -- the bytes that the pull leaves say the state that it returns
    pub next-held : HoldsState (state_left w l d) (pull_of s l d).pulled.state
    unfolding pull_of
    next-held =
        subst (λ (o : Outcome). HoldsState (kept_by o.pulled.answer o.pulled w) (pull_of s l d).pulled.state) (sym outcome-held)
        (next-by (possible s l) (all_given s l) (ltb (length d / 2) (length (next_part s l).bytes)) refl refl)
