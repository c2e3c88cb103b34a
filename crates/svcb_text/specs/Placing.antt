-- How the reading keeps parameters in the order of their keys.
use Rattle.std.specs.Prelude.{List}
use Rattle.svcb_wire.specs.declared.param.Param.{Param}
use Rattle.svcb_wire.specs.Octets.{key_of}
use Rattle.svcb_values.specs.Placing.{placed_by}

abbrev pub placed : Param → List Param → List Param
placed param params = placed_by key_of param params
