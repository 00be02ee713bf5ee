-- Inner: A sparse index, of entries whose names are in order.
use Rattle.std.specs.Prelude.{◌≡◌, true, List, ℕ, ◌-◌, ◌*◌, ◌≤◌, ◌<◌, length, drop}
use Rattle.base.specs.Bytes.{u64_at}
use Rattle.voice.specs.Voice.{entries_from}
use Rattle.index.specs.Index.{ascending}
use Rattle.sparse.specs.declared.Spacing.{Spacing}

-- the entry with a number, counted from 0, begins at a place, and the later ones follow it there
pub record Begins (bs : List ℕ) (count number at : ℕ) : Type 0 where
  pub inside : number < count
  pub whole : (entries_from (count - number) bs at).whole ≡ true
  pub list : (entries_from (count - number) bs at).list ≡ drop number (entries_from count bs 0).list

-- names in order, and a buffer that has the places of every so manieth entry
pub record SparseIndex (bs : List ℕ) (count : ℕ) (by : Spacing) (index : List ℕ) : Type 0 where
  pub order : ascending (entries_from count bs 0).list ≡ true
  pub some : 0 < by.count
  pub room : 8 * by.count ≤ length index
  pub places : (j : ℕ) → j < by.count → Begins bs count (by.stride * j) (u64_at index j)
