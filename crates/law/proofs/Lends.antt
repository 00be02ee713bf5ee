-- What a caller hands over: lent bytes, and lifetimes.
use mathlib.Core.List.{List, []}
use Prim.Native.Nat.{ℕ, zero, suc}
use contract.Lifetimes.{Lfts}
use denote.Ref.{Bor, MutBor}
use Rattle.call.specs.Buffers.{Buffers}
use Rattle.law.specs.Made.{Lends}

abbrev pub share : List ℕ → Bor (List ℕ)
share x = record { ref_ptr = (0, 0); now = x }

abbrev pub lend : List ℕ → MutBor (List ℕ)
lend x = record { ref_ptr = (0, 0); ghost_name = 0; now = x }

abbrev pub lend_all : Buffers → Lends
lend_all b =
    record {
      index = lend b.index;
      marks = lend b.marks;
      sizes = lend b.sizes;
      rows = lend b.rows;
      excitation = lend b.excitation;
      decoded = lend b.decoded;
    }

-- any would do: no contract speaks of them
abbrev pub lifetimes : (n : ℕ) → Lfts n
lifetimes zero = tt
lifetimes (suc n) = ([], lifetimes n)
