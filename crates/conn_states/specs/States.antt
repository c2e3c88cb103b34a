-- What a state lists.
use Rattle.std.specs.Prelude.{List}
use Rattle.origin_values.specs.declared.origin.Origin.{Origin}
use Rattle.conn_states.specs.declared.view.Gated.{Gated}

abbrev pub listed_of : Gated → List Origin
listed_of gated = gated.listed.keys
