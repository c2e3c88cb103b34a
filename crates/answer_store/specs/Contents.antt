-- What a store holds: for each name and kind at most one answer, with its moment and its TTL, and the store's newest moment.
-- These are all that the contracts say of it.
use Rattle.std.specs.Prelude.{◌≡◌, ℕ, ◌+◌, Option, List, length, min, is_some}
use Rattle.std.specs.List.{IsDistinct, list_any}
use Rattle.svcb_wire.specs.declared.svcb.Svcb.{Svcb}
use Rattle.alias_chain.specs.declared.held.Held.{Held}
use Rattle.alias_chain.specs.Held.{in_force}
use Rattle.answer_store.specs.declared.store.AnswerStore.{AnswerStore}
use Rattle.answer_store.specs.declared.table.Table.{Table}
use Rattle.dns_names.specs.Names.{name_eq}
use Rattle.answer_store.specs.Tables.{at}
use Rattle.answer_store.specs.Bodies.{Kind, A, Aaaa, Https, Body, Addresses4, Addresses6, Records, of_kind}

-- the newest answer of a name and a kind, by the tables of the kinds
abbrev pub kept_in : Table (List (List ℕ)) → Table (List (List ℕ)) → Table (List Svcb) → List (List ℕ) → Kind → Option (Held Body)
kept_in v4 v6 https name A = of_kind Addresses4 (at v4 name)
kept_in v4 v6 https name Aaaa = of_kind Addresses6 (at v6 name)
kept_in v4 v6 https name Https = of_kind Records (at https name)

abbrev pub kept : AnswerStore → List (List ℕ) → Kind → Option (Held Body)
kept store name kind = kept_in store.v4 store.v6 store.https name kind

-- the same kind by kind: its addresses of IPv4, those of IPv6, and its HTTPS records
abbrev pub v4_held : AnswerStore → List (List ℕ) → Option (Held (List (List ℕ)))
v4_held store name = at store.v4 name

abbrev pub v6_held : AnswerStore → List (List ℕ) → Option (Held (List (List ℕ)))
v6_held store name = at store.v6 name

abbrev pub https_held : AnswerStore → List (List ℕ) → Option (Held (List Svcb))
https_held store name = at store.https name

-- the greatest moment that a change was given, 0 before any
abbrev pub newest_moment : AnswerStore → ℕ
newest_moment store = store.newest

-- the second holds what the first does
pub record IsAsBefore (old new : AnswerStore) : Type 0 where
  pub kept : (name : List (List ℕ)) (kind : Kind) → kept new name kind ≡ kept old name kind
  pub moment : newest_moment new ≡ newest_moment old

-- so many answers are in force at a moment: those of the names of each kind, no two of them one
pub record IsCount (store : AnswerStore) (now n : ℕ) : Type 0 where
  pub names : Kind → List (List (List ℕ))
  pub distinct : (kind : Kind) → IsDistinct name_eq (names kind)
  pub members : (name : List (List ℕ)) (kind : Kind) → list_any (name_eq name) (names kind) ≡ is_some (in_force now (kept store name kind))
  pub sum : n ≡ length (names A) + length (names Aaaa) + length (names Https)

-- an answer is the count, or the greatest number of 64 bits where the count is above it
abbrev pub Counts : AnswerStore → ℕ → ℕ → Type 0
Counts store now answer = (n : ℕ) × (IsCount store now n × (answer ≡ min n 18446744073709551615))

-- what of the first is in force at a moment is all that the second holds
abbrev pub HoldsInForce : AnswerStore → AnswerStore → ℕ → Type 0
HoldsInForce old new now = (name : List (List ℕ)) (kind : Kind) → kept new name kind ≡ in_force now (kept old name kind)
