use Rattle.std.proofs.Common.{rules, ◌≡◌, Some}
use Rattle.origin_values.specs.HostReading.{read_addr}
use Rattle.origin_values.specs.declared.address.Addr.TheVariants.{V4}
use Rattle.origin_values.proofs.Addresses.{read_addr_says}
use Rattle.origin_values.proofs.AddressTexts.{addr_says}
use Rattle.origin_values.proofs.address.Addr.parse.Goals as goal

pub returns-in-Some-clause-some : goal.returns-in-Some-clause-some
unfolding read_addr
returns-in-Some-clause-some c = let e : Some (V4 c.in-Some.bytes) ≡ read_addr c.args.text.now = search rules in (read_addr_says c.args.text.now (Some (V4 c.in-Some.bytes)) e).0

pub returns-in-None-clause-some : goal.returns-in-None-clause-some
unfolding read_addr
returns-in-None-clause-some c = let e : c.map.result ≡ read_addr c.args.text.now = search rules in (read_addr_says c.args.text.now c.map.result e).0

pub returns-in-None-clause-none : goal.returns-in-None-clause-none
unfolding read_addr
returns-in-None-clause-none c = let e : c.map.result ≡ read_addr c.args.text.now = search rules in (read_addr_says c.args.text.now c.map.result e).1

pub returns-in-None-clause-valid : goal.returns-in-None-clause-valid
unfolding read_addr
returns-in-None-clause-valid c = let e : c.map.result ≡ read_addr c.args.text.now = search rules in addr_says c.args.text.now c.map.result e
