-- What an index buffer holds of an open voice.
use mathlib.Core.Path.{◌≡◌, refl, sym, ap, subst, ◌∙◌}
use mathlib.Core.Bool.{true}
use mathlib.Core.List.{List}
use Prim.Native.Nat.{ℕ, ◌+◌, ◌-◌, ◌*◌, ◌/◌, ◌%◌, ◌^◌, ◌≤◌, ◌<◌}
use native.Mathlib.Nat.{div-add-mod, div-le_self, mod-lt, mul_comm, mul-suc}
use native.Mathlib.Numerals.{add-one}
use native.Mathlib.Omega.{arith}
use lib.ListN.{length}
use Rattle.base.specs.Buffers.{over}
use Rattle.container.specs.Sections.{bytes_at}
use Rattle.voice.specs.declared.DiphoneVoice.{DiphoneVoice}
use Rattle.voice.specs.Voice.{voice_of}
use Rattle.voice.specs.Opening.{IsOpen, index_fits, index_bytes}
use Rattle.index.specs.Index.{Filled}
use Rattle.index.proofs.FilledLaws.{filled-by}
use Rattle.sparse.specs.declared.Spacing.{Spacing}
use Rattle.sparse.specs.Sparse.{SparseIndex}
use Rattle.opening.proofs.IndexLaws.{able, filled-bytes}
use Rattle.units.specs.declared.Held.{Held}
use Rattle.units.specs.declared.Held.TheVariants.{Nothing, Sorted, Sparse}
use Rattle.units.specs.Asked.{Holds}

module _ (file index : List ℕ) (d : DiphoneVoice) where
  pub holds-nothing : (held : Held) → held ≡ Nothing → Holds file index d held
  holds-nothing held e =
      record {
        sorted = λ f. absurd (let z : ◌≡◌ {A = ℕ} 0 1 = cc in omega arith);
        sparse = λ by f. absurd (let z : ◌≡◌ {A = ℕ} 0 1 = cc in omega arith);
      }

  pub holds-sparse : (bs : List ℕ) → bs ≡ bytes_at file d.entries → (by : Spacing) → SparseIndex bs d.count by index → Holds file index d (Sparse by)
  holds-sparse bs b by h =
      record {
        sorted = λ f. absurd (let z : ◌≡◌ {A = ℕ} 0 1 = cc in omega arith);
        sparse = λ s f.
            let e : by ≡ s = cc in
            subst (λ (s : Spacing). SparseIndex (bytes_at file d.entries) d.count s index) e (subst (λ (l : List ℕ). SparseIndex l d.count by index) b h);
      }

-- how far apart n places are that reach to the last entry
module _ (count n : ℕ) (h : 0 < n) where
  pub stride-reaches : count ≤ ((count - 1) / n + 1) * n
  stride-reaches =
      let d : n * ((count - 1) / n) + (count - 1) % n ≡ count - 1 = div-add-mod (count - 1) n in
      let m : (count - 1) % n < n = mod-lt (count - 1) h in
      let e : ((count - 1) / n + 1) * n ≡ n * ((count - 1) / n) + n = mul_comm ((count - 1) / n + 1) n ∙ rw (add-one, mul-suc) in
      omega arith

  pub stride-small : (count - 1) / n ≤ count - 1
  stride-small = div-le_self (count - 1) n

-- a buffer that was filled holds the sorted index
module _ (file : List ℕ) (d : DiphoneVoice) (o : IsOpen file d) (old index : List ℕ) (f : index_fits (voice_of file) (length old) ≡ true) (e : index ≡ over (index_bytes (voice_of file)) old) where
  index-filled : length file < 2 ^ 63 → Filled (bytes_at file d.entries) d.count d.entries.at index
  index-filled h =
      filled-by (bytes_at file d.entries) d.count d.entries.at old index (able file d o (bytes_at file d.entries) (length old) refl f h)
      (e ∙ ap (λ (l : List ℕ). over l old) (sym (filled-bytes file d o (bytes_at file d.entries) refl)))

  pub holds-sorted : length file < 2 ^ 63 → Holds file index d Sorted
  holds-sorted h = record { sorted = λ e. index-filled h; sparse = λ by e. absurd (let z : ◌≡◌ {A = ℕ} 0 1 = cc in omega arith) }
