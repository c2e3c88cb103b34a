-- What the store of answers says of an address, as what the answers in force list, and as what a history says whose answers
-- it holds.
use Rattle.std.proofs.Common.{◌≡◌, ℕ, Bool, true, false, cond, ◌||◌, nat_eq, List, [], Option, None, Some, refl, ap}
use Rattle.std.specs.Prelude.{unwrap_or}
use Rattle.std.specs.Option.{option_map_or}
use Rattle.std.specs.List.{list_any}
use Rattle.std.specs.Cmp.Lexicographic.{pointwise}
use Rattle.origin_values.specs.Equality.{host_eq}
use Rattle.origin_values.specs.declared.address.Addr.{Addr}
use Rattle.origin_values.specs.declared.address.Addr.TheVariants.{V4, V6}
use Rattle.origin_values.specs.declared.origin.Origin.{Origin}
use Rattle.alias_chain.specs.declared.held.Held.{Held}
use Rattle.alias_chain.specs.Following.{endpoints_by}
use Rattle.alias_chain.specs.Held.{is_in_force, body_at}
use Rattle.alias_chain.specs.Walk.{NameOf, AnswerMap}
use Rattle.answer_store.specs.declared.store.AnswerStore.{AnswerStore}
use Rattle.answer_store.specs.Bodies.{Addresses4, Addresses6, of_kind, kind_of, lists_address}
use Rattle.answer_store.specs.Contents.{kept, v4_held, v6_held, https_held}
use Rattle.route_events.specs.Addresses.{is_listed_by, name_of, resolves_to, is_address_of}
use Rattle.route_events.specs.Answers.{addresses4, addresses6, records, answer_at}
use Rattle.route_events.specs.Journal.{Journal}
use Rattle.route_events.specs.OriginSets.{addr_host}
use Rattle.route_events.specs.Routes.{supported}
use Rattle.request_dispatch.specs.Looks.{lists_in_force, address_at, endpoints_at}

v4_listed : (now : ℕ) (address : List ℕ) (held : Option (Held (List (List ℕ)))) → lists_address (V4 address) (body_at now (of_kind Addresses4 held)) ≡ list_any (pointwise nat_eq address) (unwrap_or (body_at now held) [])
v4_listed now address None = refl
v4_listed now address (Some h) = by_test (is_in_force now h)
  where
    by_test : (t : Bool) → lists_address (V4 address) (cond t (Some (Addresses4 h.body)) None) ≡ list_any (pointwise nat_eq address) (unwrap_or (cond t (Some h.body) None) [])
    by_test true = refl
    by_test false = refl

v6_listed : (now : ℕ) (address : List ℕ) (held : Option (Held (List (List ℕ)))) → lists_address (V6 address) (body_at now (of_kind Addresses6 held)) ≡ list_any (pointwise nat_eq address) (unwrap_or (body_at now held) [])
v6_listed now address None = refl
v6_listed now address (Some h) = by_test (is_in_force now h)
  where
    by_test : (t : Bool) → lists_address (V6 address) (cond t (Some (Addresses6 h.body)) None) ≡ list_any (pointwise nat_eq address) (unwrap_or (cond t (Some h.body) None) [])
    by_test true = refl
    by_test false = refl

pub listed_so : (answers : AnswerStore) (now : ℕ) (name : List (List ℕ)) (addr : Addr) → lists_address addr (body_at now (kept answers name (kind_of addr))) ≡ lists_in_force answers now addr name
listed_so answers now name (V4 address) = v4_listed now address (v4_held answers name)
listed_so answers now name (V6 address) = v6_listed now address (v6_held answers name)

-- the addresses of an origin, where the store holds a history's answers

pub address_known : (answers : AnswerStore) (journal : Journal) (now : ℕ)
    → ((name : NameOf) → body_at now (v4_held answers name) ≡ answer_at addresses4 journal now name)
    → ((name : NameOf) → body_at now (v6_held answers name) ≡ answer_at addresses6 journal now name)
    → (o : Origin) (addr : Addr) → address_at answers now o addr ≡ is_address_of journal o now addr
address_known answers journal now v4 v6 o addr = ap (λ b. host_eq (addr_host addr) o.host || b) (by_name (name_of o.host))
  where
    by_name : (name : Option NameOf) → option_map_or (lists_in_force answers now addr) name false ≡ option_map_or (resolves_to journal now addr) name false
    by_name None = refl
    by_name (Some name) = λ i. is_listed_by addr (v4 name i) (v6 name i)

-- and its endpoints

pub endpoints_known : (answers : AnswerStore) (journal : Journal) (now : ℕ)
    → ((name : NameOf) → body_at now (https_held answers name) ≡ answer_at records journal now name)
    → (o : Origin) → endpoints_at answers now o ≡ endpoints_by (answer_at records journal now) supported o
endpoints_known answers journal now https o =
    let same : (λ (name : NameOf). body_at now (https_held answers name)) ≡ answer_at records journal now = λ i name. https name i in
    ap (λ (all : AnswerMap). endpoints_by all supported o) same
