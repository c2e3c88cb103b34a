use Rattle.std.proofs.Common.{◌≡◌, Some, None, refl}
use Rattle.origin_values.specs.HostReading.{read_host}
use Rattle.origin_values.proofs.Hosts.{read_host_sound, no_host}
use Rattle.origin_values.proofs.HostTexts.{host_valid}
use Rattle.origin_values.proofs.host.Host.parse.Goals as goal

pub returns-in-Some-clause-ok : goal.returns-in-Some-clause-ok
returns-in-Some-clause-ok c = let e : read_host c.args.text.now ≡ Some c.in-Some.host = cc c.in_ok-host.ensures in read_host_sound c.args.text.now c.in-Some.host e

pub returns-in-None-clause-refused : goal.returns-in-None-clause-refused
returns-in-None-clause-refused c = let e : read_host c.args.text.now ≡ None = cc c.in_ok-host.ensures in (refl, no_host c.args.text.now e)

pub returns-in-Some-clause-valid : goal.returns-in-Some-clause-valid
returns-in-Some-clause-valid c = let e : read_host c.args.text.now ≡ Some c.in-Some.host = cc c.in_ok-host.ensures in host_valid c.args.text.now c.in-Some.host (read_host_sound c.args.text.now c.in-Some.host e)
