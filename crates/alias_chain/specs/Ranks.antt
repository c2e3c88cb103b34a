-- Endpoints beside the priority of their records, before they are put in order.
use Rattle.std.specs.Prelude.{ℕ}
use Rattle.origin_values.specs.declared.protos.Protos.{Protos}
use Rattle.svcb_wire.specs.declared.svcb.Svcb.{Svcb}
use Rattle.alias_chain.specs.declared.ranked.Ranked.{Ranked}
use Rattle.alias_chain.specs.Walk.{NameOf}
use Rattle.alias_chain.specs.Endpoints.{endpoint_of}

abbrev pub ranked_of : Protos → ℕ → NameOf → Svcb → Ranked
ranked_of supported port name r = record { priority = r.priority; endpoint = endpoint_of supported port name r }
