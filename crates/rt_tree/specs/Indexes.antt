-- What a table keeps beside its entries. Nothing that it promises speaks of this.
use Rattle.std.specs.Prelude.{◌≡◌, ◌||◌, ℤ, Bool, List}
use Rattle.std.specs.BTreeSet.{BTreeSet, contains}
use Rattle.std.specs.List.{list_any}
use Rattle.std.specs.Ordering.{int_cmp, int_eq}
use Rattle.rt_geo.specs.declared.entry.Entry.{Entry}
use Rattle.rt_tree.specs.Entries.{IsTable, has_id}

-- an id is kept: in the list of those that were loaded, or in the set of those that were pushed
abbrev pub keeps : (loaded : List ℤ) → (pushed : BTreeSet ℤ) → (id : ℤ) → Bool
keeps loaded pushed id = list_any (int_eq id) loaded || contains int_cmp pushed id

-- the ids that are kept are those of the entries
abbrev pub AreIdsOf : (loaded : List ℤ) → (pushed : BTreeSet ℤ) → List Entry → Type 0
AreIdsOf loaded pushed entries = (id : ℤ) → keeps loaded pushed id ≡ has_id entries id

-- a table whose ids are kept
pub record IsIndexed (loaded : List ℤ) (pushed : BTreeSet ℤ) (entries : List Entry) : Type 0 where
  pub table : IsTable entries
  pub ids_are : AreIdsOf loaded pushed entries
