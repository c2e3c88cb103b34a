-- What the tables of alternatives, failures and answers say at the moment of a step.
use Rattle.std.specs.Prelude.{ℕ, Bool, false, ◌||◌, List}
use Rattle.std.specs.Option.{option_map_or}
use Rattle.origin_values.specs.Equality.{host_eq}
use Rattle.origin_values.specs.declared.address.Addr.{Addr}
use Rattle.origin_values.specs.declared.origin.Origin.{Origin}
use Rattle.altsvc_grammar.specs.declared.alt.Alt.{Alt}
use Rattle.alias_chain.specs.declared.endpoint.Endpoint.{Endpoint}
use Rattle.alias_chain.specs.Following.{endpoints_by}
use Rattle.alias_chain.specs.Held.{body_at}
use Rattle.alias_chain.specs.Walk.{NameOf}
use Rattle.answer_store.specs.declared.store.AnswerStore.{AnswerStore}
use Rattle.answer_store.specs.Contents.{v4_held, v6_held, https_held}
use Rattle.network_cache.specs.declared.cache.Cache.{Cache}
use Rattle.network_cache.specs.Contents.{live}
use Rattle.route_choice.specs.declared.broken.Broken.{Broken}
use Rattle.route_choice.specs.Contents.{kept_failures}
use Rattle.route_events.specs.declared.connection.Connection.{Connection}
use Rattle.route_events.specs.declared.reach.Reach.{Reach}
use Rattle.route_events.specs.declared.route.Route.{Route}
use Rattle.route_events.specs.Addresses.{is_listed_by, name_of}
use Rattle.route_events.specs.Backoff.{is_barred_by}
use Rattle.route_events.specs.OriginSets.{addr_host}
use Rattle.route_events.specs.Routes.{supported}

-- the live alternatives of each origin, which routes are broken, which addresses are an origin's, and its endpoints
pub record Look : Type 0 where
  pub live : Origin → List Alt
  pub is_broken : Origin → Route → Bool
  pub is_address : Origin → Addr → Bool
  pub endpoints : Origin → List Endpoint

abbrev pub live_at : Cache → ℕ → Origin → List Alt
live_at cache now o = live cache o now

-- an answer in force for a name lists an address
abbrev pub lists_in_force : AnswerStore → ℕ → Addr → NameOf → Bool
lists_in_force answers now addr name = is_listed_by addr (body_at now (v4_held answers name)) (body_at now (v6_held answers name))

-- an address is one of an origin's: it is the origin's host, or the host resolves to it (RFC 9113 9.1.1)
abbrev pub address_at : AnswerStore → ℕ → Origin → Addr → Bool
address_at answers now o addr = host_eq (addr_host addr) o.host || option_map_or (lists_in_force answers now addr) (name_of o.host) false

-- the endpoints of an origin by the HTTPS records in force (RFC 9460 3)
abbrev pub endpoints_at : AnswerStore → ℕ → Origin → List Endpoint
endpoints_at answers now o = endpoints_by (λ name. body_at now (https_held answers name)) supported o

-- where these are the addresses of the origins
abbrev pub look_by : Cache → Broken → AnswerStore → ℕ → (Origin → Addr → Bool) → Look
look_by cache broken answers now is_address = record {
  live = live_at cache now;
  is_broken = λ o r. is_barred_by (kept_failures broken o r) r now;
  is_address = is_address;
  endpoints = endpoints_at answers now;
}

abbrev pub look_of : Cache → Broken → AnswerStore → ℕ → Look
look_of cache broken answers now = look_by cache broken answers now (address_at answers now)

-- whether a connection stands at one of the origin's addresses
abbrev pub reach_at : (Origin → Addr → Bool) → Connection → Origin → Reach
reach_at is_address c o = record { address = is_address o c.addr }
