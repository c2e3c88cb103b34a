-- Lists by keys.
use Rattle.std.specs.Prelude.{Bool, Option, None, Some, List, []}
use Rattle.indexmap.specs.IndexMap.{IndexMap, get}

-- the list that is found, or none of anything
abbrev pub items_of : {X : Type 0} → Option (List X) → List X
items_of None = []
items_of (Some items) = items

-- the items that stand at a key
abbrev pub list_at : {K X S : Type 0} → (K → K → Bool) → IndexMap K (List X) S → K → List X
list_at eq index key = items_of (get eq index key)
