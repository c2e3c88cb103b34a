-- Records and their wire form, the RDATA (RFC 9460 2.2).
use Rattle.std.specs.Prelude.{◌<◌, List, ◌++◌, ℕ}
use Rattle.byteorder.specs.Endian.{big_bytes}
use Rattle.dns_names.specs.Names.{IsName, wire_form}
use Rattle.svcb_wire.specs.declared.svcb.Svcb.{Svcb}
use Rattle.svcb_wire.specs.Octets.{params_octets}
use Rattle.svcb_wire.specs.Forms.{AreParams}

-- a record whose parameters stand in strictly increasing keys, each with a value of its key's form
pub record IsRecord (value : Svcb) : Type 0 where
  pub priority : value.priority < 65536
  pub target : IsName value.target
  pub params : AreParams 0 value.params

-- the priority in 16 bits, the target's wire form, the parameters
abbrev pub record_octets : Svcb → List ℕ
record_octets value = big_bytes 2 value.priority ++ (wire_form value.target ++ params_octets value.params)
