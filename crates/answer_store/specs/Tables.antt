-- What a table of one kind holds.
use Rattle.std.specs.Prelude.{◌≡◌, ℕ, Option, List}
use Rattle.indexmap.specs.IndexMap.{get}
use Rattle.alias_chain.specs.declared.held.Held.{Held}
use Rattle.answer_store.specs.declared.table.Table.{Table}
use Rattle.dns_names.specs.Names.{name_eq}

module _ {B : Type 0} where
  -- the greatest moment that it was given
  abbrev pub newest_of : Table B → ℕ
  newest_of table = table.newest

  -- what is held for a name
  abbrev pub at : Table B → List (List ℕ) → Option (Held B)
  at table name = get name_eq table.held name

  abbrev pub entries_of : Table B → List (List (List ℕ) × Held B)
  entries_of table = table.held.entries

module _ {B : Type 0} where
  pub record IsSame (old new : Table B) : Type 0 where
    pub at : (name : List (List ℕ)) → at new name ≡ at old name
    pub moment : newest_of new ≡ newest_of old
