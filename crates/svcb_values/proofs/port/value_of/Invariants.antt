use Rattle.std.proofs.Common.{◌≡◌, true, drop}
use Rattle.std.specs.List.{list_all}
use Rattle.std.specs.Char.{is_ascii_digit}
use Rattle.std.specs.Str.Parse.{digits_value_after, digits_value}
use Rattle.svcb_values.proofs.port.value_of.Given as goal

abbrev pub invariant-loop-b : goal.invariant-loop-b
invariant-loop-b l = record {
  digits : list_all is_ascii_digit (drop l.b-index l.digits) ≡ true;
  same : digits_value_after 10 l.value (drop l.b-index l.digits) ≡ digits_value 10 l.digits;
}
