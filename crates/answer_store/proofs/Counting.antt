-- How many answers are in force, over the tables of the kinds.
use Rattle.std.proofs.Common.{◌≡◌, ℕ, ◌+◌, ◌∙◌, List, length, filter, min, sym, ap, arith}
use Rattle.std.specs.Prelude.{is_some}
use Rattle.std.specs.List.{list_any, IsDistinct}
use Rattle.std.specs.Map.{keys_of}
use Rattle.std.proofs.lemmas.Map.Entries.{length-keys_of}
use Rattle.std.proofs.lemmas.Map.Made.{IsDistinct-keys_filter}
use Rattle.indexmap.specs.IndexMap.{IsUnique}
use Rattle.alias_chain.specs.Held.{in_force}
use Rattle.answer_store.specs.declared.store.AnswerStore.{AnswerStore}
use Rattle.answer_store.specs.declared.table.Table.{Table}
use Rattle.dns_names.specs.Names.{name_eq}
use Rattle.answer_store.specs.Tables.{at, entries_of}
use Rattle.answer_store.specs.Bodies.{Kind, A, Aaaa, Https, Addresses4, Addresses6, Records}
use Rattle.answer_store.specs.Contents.{kept, IsCount, Counts}
use Rattle.answer_store.proofs.Names.{same_names}
use Rattle.answer_store.proofs.Counts.{passes, members_in_force}
use Rattle.answer_store.proofs.OfKinds.{some_of}

module _ {B : Type 0} where
  -- the names of a table whose answers are in force
  abbrev pub names_in_force : ℕ → Table B → List (List (List ℕ))
  names_in_force now table = keys_of (filter (passes now) (entries_of table))

  abbrev pub count_in_force : ℕ → Table B → ℕ
  count_in_force now table = length (filter (passes now) (entries_of table))

abbrev names_of : AnswerStore → ℕ → Kind → List (List (List ℕ))
names_of store now A = names_in_force now store.v4
names_of store now Aaaa = names_in_force now store.v6
names_of store now Https = names_in_force now store.https

names_differ : (store : AnswerStore) (now : ℕ) → IsUnique name_eq store.v4.held → IsUnique name_eq store.v6.held → IsUnique name_eq store.https.held → (kind : Kind) → IsDistinct name_eq (names_of store now kind)
names_differ store now a b c A = IsDistinct-keys_filter name_eq (passes now) (entries_of store.v4) a
names_differ store now a b c Aaaa = IsDistinct-keys_filter name_eq (passes now) (entries_of store.v6) b
names_differ store now a b c Https = IsDistinct-keys_filter name_eq (passes now) (entries_of store.https) c

names_are : (store : AnswerStore) (now : ℕ) → IsUnique name_eq store.v4.held → IsUnique name_eq store.v6.held → IsUnique name_eq store.https.held
    → (name : List (List ℕ)) (kind : Kind) → list_any (name_eq name) (names_of store now kind) ≡ is_some (in_force now (kept store name kind))
names_are store now a b c name A = members_in_force name_eq same_names now name (entries_of store.v4) a ∙ some_of Addresses4 now (at store.v4 name)
names_are store now a b c name Aaaa = members_in_force name_eq same_names now name (entries_of store.v6) b ∙ some_of Addresses6 now (at store.v6 name)
names_are store now a b c name Https = members_in_force name_eq same_names now name (entries_of store.https) c ∙ some_of Records now (at store.https name)

is_count : (store : AnswerStore) (now : ℕ) → IsUnique name_eq store.v4.held → IsUnique name_eq store.v6.held → IsUnique name_eq store.https.held
    → IsCount store now (count_in_force now store.v4 + count_in_force now store.v6 + count_in_force now store.https)
is_count store now a b c = record {
  names = names_of store now;
  distinct = names_differ store now a b c;
  members = names_are store now a b c;
  sum = sym (ap (λ x. x + length (names_in_force now store.v6) + length (names_in_force now store.https)) (length-keys_of (filter (passes now) (entries_of store.v4)))
      ∙ ap (λ x. count_in_force now store.v4 + x + length (names_in_force now store.https)) (length-keys_of (filter (passes now) (entries_of store.v6)))
      ∙ ap (λ x. count_in_force now store.v4 + count_in_force now store.v6 + x) (length-keys_of (filter (passes now) (entries_of store.https))));
}

capped_twice : (a b c top : ℕ) → min (min (a + b) top + c) top ≡ min (a + b + c) top
capped_twice a b c top = omega arith

pub counted : (store : AnswerStore) (now a b c r : ℕ) → IsUnique name_eq store.v4.held → IsUnique name_eq store.v6.held → IsUnique name_eq store.https.held
    → a ≡ count_in_force now store.v4 → b ≡ count_in_force now store.v6 → c ≡ count_in_force now store.https
    → r ≡ min (min (a + b) 18446744073709551615 + c) 18446744073709551615 → Counts store now r
counted store now a b c r u v w ea eb ec e = (
  count_in_force now store.v4 + count_in_force now store.v6 + count_in_force now store.https,
  (
    is_count store now u v w,
    e ∙ capped_twice a b c 18446744073709551615
        ∙ ap (λ x. min (x + b + c) 18446744073709551615) ea
        ∙ ap (λ x. min (count_in_force now store.v4 + x + c) 18446744073709551615) eb
        ∙ ap (λ x. min (count_in_force now store.v4 + count_in_force now store.v6 + x) 18446744073709551615) ec,
  ),
)
