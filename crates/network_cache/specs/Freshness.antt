-- A kept alternative, and for how long it is fresh (RFC 7838 3.1).
use Rattle.std.specs.Prelude.{ℕ, ◌+◌, ◌-◌, Bool, not, nat_lt}
use Rattle.altsvc_grammar.specs.Keys.{key_eq}
use Rattle.altsvc_grammar.specs.declared.alt.Alt.{Alt}
use Rattle.altsvc_grammar.specs.declared.alt_key.AltKey.{AltKey}
use Rattle.network_cache.specs.declared.kept.Kept.{Kept}

-- an alternative of a value that is taken at a moment, and has an age by then (RFC 7838 3.1, RFC 9111 4.2.3)
abbrev pub taken_at : ℕ → ℕ → Alt → Kept
taken_at now age alt = record { alt = alt; moment = now; age = age }

-- it is fresh while the age that it had, and the seconds since then, are below its `ma` (RFC 7838 3.1)
abbrev pub is_fresh : ℕ → Kept → Bool
is_fresh now k = nat_lt (k.age + (now - k.moment)) k.alt.ma

-- it stays when the network changes (RFC 7838 3.1)
abbrev pub persists : Kept → Bool
persists k = k.alt.persist

-- its key is another (RFC 7838 2)
abbrev pub has_other_key : AltKey → Kept → Bool
has_other_key key k = not (key_eq k.alt.key key)
