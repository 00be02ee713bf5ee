-- Inner: An index that has every place once, in any order.
use Rattle.std.specs.Prelude.{◌≡◌, List, ℕ, ◌-◌, length}
use Rattle.base.specs.Buffers.{over}
use Rattle.base.specs.Bytes.{u64_at}
use Rattle.base.specs.Perm.{Perm}
use Rattle.voice.specs.Voice.{Placed, entry_at, entries_from}
use Rattle.index.specs.Index.{Indexable, index_of}

-- the index buffer d with the places of all entries, in some order, at its front
pub record Shuffled (bs : List ℕ) (count base : ℕ) (d index : List ℕ) : Type 0 where
  pub able : Indexable bs count base (length d)
  pub places : List Placed
  pub order : Perm (entries_from count bs 0).list places
  pub held : index ≡ over (index_of base places) d

-- the name of the entry whose place stands at i of an index
abbrev pub name_in : List ℕ → ℕ → List ℕ → ℕ → List ℕ
name_in bs base index i = (entry_at bs (u64_at index i - base)).name
