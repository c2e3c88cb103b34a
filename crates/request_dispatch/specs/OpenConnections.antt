-- What an open connection is to every contract, in whichever state.
use Rattle.conn_states.specs.Record.{Record}
use Rattle.request_dispatch.specs.declared.connection_state.ConnectionState.{ConnectionState}
use Rattle.request_dispatch.specs.declared.connection_state.ConnectionState.TheVariants.{Plain, Gated}
use Rattle.request_dispatch.specs.declared.lent.Lent.{Lent}
use Rattle.request_dispatch.specs.declared.lent.Lent.TheVariants as lent

abbrev pub record_in : ConnectionState → Record
record_in (Plain c) = c
record_in (Gated c) = c

-- and one that is lent
abbrev pub record_lent : Lent → Record
record_lent (lent.Plain c) = c.now
record_lent (lent.Gated c) = c.now
