-- The names that a pair tries, as they are stored in a buffer.
use mathlib.Core.Path.{◌≡◌, refl, sym, ap, ◌∙◌}
use mathlib.Core.Bool.{Bool, true, false}
use mathlib.Core.List.{List, [], ◌++◌, append_assoc, append-nil}
use Prim.Native.Nat.{ℕ, ◌+◌, ◌-◌, ◌≤◌}
use native.Mathlib.Omega.{arith}
use lib.ListN.{length, take, drop, set, length-append, length-drop, drop_of_length-le}
use lib.Seq.{take-length, drop-drop}
use Rattle.base.specs.Buffers.{over}
use Rattle.base.specs.Text.{ascii}
use Rattle.base.proofs.BufferLaws.{take-over, drop-over}
use Rattle.text.specs.Names.{same}
use Rattle.text.proofs.NameLaws.{same-eq}
use Rattle.units.specs.Selecting.{fold_name, folded_name, joint, pair_name}

-- ---- folding

pub fold-off : (fold : Bool) (n : List ℕ) → fold ≡ false → n ≡ folded_name fold n
fold-off fold n e = rw e

pub fold-other : (fold : Bool) (n : List ℕ) → same n (ascii "ah") ≡ false → n ≡ folded_name fold n
unfolding fold_name
fold-other true n e = rw e
fold-other false n e = refl

fold-ah : (fold : Bool) (n : List ℕ) → fold ≡ true → same n (ascii "ah") ≡ true → folded_name fold n ≡ ascii "aa"
unfolding fold_name
fold-ah fold n e s = rw (e, s)

pub length-folded-name : (fold : Bool) (n : List ℕ) → length (folded_name fold n) ≡ length n
length-folded-name fold n = by (same n (ascii "ah")) refl fold
  where
    by : (t : Bool) → same n (ascii "ah") ≡ t → (fold : Bool) → length (folded_name fold n) ≡ length n
    by false s fold = sym (ap length (fold-other fold n s))
    by true s false = refl
    by true s true = ap length (fold-ah true n refl s) ∙ sym (ap length (same-eq n (ascii "ah") s))

-- `ah` stored, and its second letter changed
pub stored-folded : (fold : Bool) (n b d : List ℕ) → fold ≡ true → same n (ascii "ah") ≡ true → b ≡ over n d → set b 1 97 ≡ over (folded_name fold n) d
unfolding over
stored-folded fold n b d e s q =
    ap (λ (l : List ℕ). set l 1 97) (q ∙ ap (λ (m : List ℕ). over m d) (same-eq n (ascii "ah") s))
    ∙ ap (λ (m : List ℕ). over m d) (sym (fold-ah fold n e s))

-- ---- one part after the other

-- q is stored; the rest of the buffer was lent, and came back with p at its front
pub stored-after : (q p d b t : List ℕ) (a k : ℕ) → b ≡ over q d → length q ≡ a → k ≡ length b - a → t ≡ over p (take k (drop a b))
    → take a b ++ (t ++ drop k (drop a b)) ≡ over (q ++ p) d
unfolding over
stored-after q p d b t a k eb ea ek et =
    let n : k ≡ length (drop a b) = ek ∙ sym (length-drop a b) in
    let f : take a b ≡ q = ap (take a) eb ∙ take-over q d a ea in
    let g : drop a b ≡ drop a d = ap (drop a) eb ∙ drop-over q d a ea in
    let all : take k (drop a b) ≡ drop a d = ap (λ (m : ℕ). take m (drop a b)) n ∙ take-length (drop a b) ∙ g in
    let most : length (drop a b) ≤ k = omega arith in
    let none : drop k (drop a b) ≡ [] = drop_of_length-le (drop a b) most in
    let o : t ≡ p ++ drop (a + length p) d = et ∙ ap (λ (l : List ℕ). p ++ drop (length p) l) all ∙ ap (λ (l : List ℕ). p ++ l) (drop-drop (length p) a d) in
    let m : a + length p ≡ length (q ++ p) = rw (length-append, ea) in
    rw (f, none, append-nil, o) (sym (append_assoc q p (drop (a + length p) d)) ∙ ap (λ (i : ℕ). (q ++ p) ++ drop i d) m)

pub length-pair : (cluster : Bool) (left right : List ℕ) → length (pair_name cluster left right) ≡ length left + length (joint cluster) + length right
length-pair cluster left right = simp length-append (omega arith)

-- the front of the buffer is the name
pub front-is : (p d b : List ℕ) (n : ℕ) → n ≡ length p → b ≡ over p d → take n b ≡ p
front-is p d b n e f = ap (take n) f ∙ take-over p d n (sym e)
