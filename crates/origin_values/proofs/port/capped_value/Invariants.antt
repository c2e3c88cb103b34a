use Rattle.std.proofs.Common.{◌≡◌, ◌≤◌, true, drop, min}
use Rattle.std.specs.List.{list_all}
use Rattle.std.specs.Char.{is_ascii_digit}
use Rattle.std.specs.Str.Parse.{digits_value_after, digits_value}
use Rattle.origin_values.proofs.port.capped_value.Given as goal

abbrev pub invariant-loop-b : goal.invariant-loop-b
invariant-loop-b l = record {
  within : l.value ≤ 65536;
  digits : list_all is_ascii_digit (drop l.b-index l.digits) ≡ true;
  capped : min 65536 (digits_value_after 10 l.value (drop l.b-index l.digits)) ≡ min 65536 (digits_value 10 l.digits);
}
