-- The addresses of an origin (RFC 9113 9.1.1).
use Rattle.std.specs.Prelude.{ℕ, Bool, false, ◌||◌, nat_eq, List, [], Option, None, unwrap_or}
use Rattle.std.specs.Option.{option_map_or}
use Rattle.std.specs.Result.{result_ok}
use Rattle.std.specs.List.{list_any}
use Rattle.std.specs.Cmp.Lexicographic.{pointwise}
use Rattle.dns_names.specs.TextReading.{read_text}
use Rattle.origin_values.specs.Equality.{host_eq}
use Rattle.origin_values.specs.declared.address.Addr.{Addr}
use Rattle.origin_values.specs.declared.address.Addr.TheVariants as address
use Rattle.origin_values.specs.declared.host.Host.{Host}
use Rattle.origin_values.specs.declared.host.Host.TheVariants as host
use Rattle.origin_values.specs.declared.origin.Origin.{Origin}
use Rattle.alias_chain.specs.Walk.{NameOf}
use Rattle.route_events.specs.Journal.{Journal}
use Rattle.route_events.specs.Answers.{addresses4, addresses6, answer_at}
use Rattle.route_events.specs.OriginSets.{addr_host}

-- an address is among those of IPv4 and those of IPv6
abbrev pub is_listed_by : Addr → Option (List (List ℕ)) → Option (List (List ℕ)) → Bool
is_listed_by (address.V4 own) v4 v6 = list_any (pointwise nat_eq own) (unwrap_or v4 [])
is_listed_by (address.V6 own) v4 v6 = list_any (pointwise nat_eq own) (unwrap_or v6 [])

-- the name whose addresses are a host's: a host that is an address has none
abbrev pub name_of : Host → Option NameOf
name_of (host.Name text) = result_ok (read_text text)
name_of (host.V4 bytes) = None
name_of (host.V6 bytes) = None

-- an answer in force for a name lists an address
abbrev pub resolves_to : Journal → ℕ → Addr → NameOf → Bool
resolves_to journal now addr name = is_listed_by addr (answer_at addresses4 journal now name) (answer_at addresses6 journal now name)

-- an address is one of the origin's at a moment: it is the origin's host, or the host resolves to it
abbrev pub is_address_of : Journal → Origin → ℕ → Addr → Bool
is_address_of journal o now addr = host_eq (addr_host addr) o.host || option_map_or (resolves_to journal now addr) (name_of o.host) false
