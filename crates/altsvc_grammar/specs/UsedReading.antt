-- Reading the value of an Alt-Used field (RFC 7838 5): a host, and maybe a colon and a port.
use Rattle.std.specs.Prelude.{ℕ, ◌+◌, nat_eq, List, [], ◌∷◌, take, drop, Option, None, Some, option_map, Result, Ok, Err, if◌then◌else◌}
use Rattle.alt_base.specs.declared.refusal.At.{At}
use Rattle.origin_values.specs.HostReading.{read_host}
use Rattle.origin_values.specs.OriginReading.{bracket_end, count_before, digits_before}
use Rattle.origin_values.specs.declared.host.Host.{Host}
use Rattle.altsvc_grammar.specs.AuthorityReading.{read_port}
use Rattle.altsvc_grammar.specs.declared.refusal.UsedRefusal.{UsedRefusal}
use Rattle.altsvc_grammar.specs.declared.refusal.UsedRefusal.TheVariants.{BadHost, BadPort, Trailing}

abbrev pub used_refused : ℕ → UsedRefusal → Result (Host × ℕ) (At UsedRefusal)
used_refused place reason = Err (record { place = place; reason = reason })

-- how many bytes of the host stand in front, where its brackets are closed
abbrev pub used_host_end : List ℕ → Option ℕ
used_host_end [] = Some 0
used_host_end (b ∷ bs) = if nat_eq b 91 then option_map (λ n. n + 1) (bracket_end bs) else Some (count_before (λ c. nat_eq c 58) (b ∷ bs))

abbrev pub used_at_end : Host → ℕ → ℕ → List ℕ → Result (Host × ℕ) (At UsedRefusal)
used_at_end host port place [] = Ok (host, port)
used_at_end host port place (b ∷ bs) = used_refused place Trailing

abbrev pub used_port : Host → ℕ → ℕ → List ℕ → Option ℕ → Result (Host × ℕ) (At UsedRefusal)
used_port host place count bs None = used_refused place BadPort
used_port host place count bs (Some port) = used_at_end host port (place + count) (drop count bs)

-- what follows a colon, where this many digits stand in front
abbrev pub used_digits : Host → ℕ → ℕ → List ℕ → Result (Host × ℕ) (At UsedRefusal)
used_digits host place count bs = used_port host place count bs (read_port (take count bs))

-- what follows the host
abbrev pub after_used_host : Host → ℕ → List ℕ → Result (Host × ℕ) (At UsedRefusal)
after_used_host host place [] = Ok (host, 443)
after_used_host host place (b ∷ bs) =
    if nat_eq b 58 then used_digits host (place + 1) (digits_before bs) bs
    else used_refused place Trailing

abbrev pub with_used_host : ℕ → List ℕ → Option Host → Result (Host × ℕ) (At UsedRefusal)
with_used_host end x None = used_refused 0 BadHost
with_used_host end x (Some host) = after_used_host host end (drop end x)

abbrev pub used_by_end : List ℕ → Option ℕ → Result (Host × ℕ) (At UsedRefusal)
used_by_end x None = used_refused 0 BadHost
used_by_end x (Some end) = with_used_host end x (read_host (take end x))

abbrev pub read_used : List ℕ → Result (Host × ℕ) (At UsedRefusal)
read_used x = used_by_end x (used_host_end x)
