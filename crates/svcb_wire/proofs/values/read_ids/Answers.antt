use Rattle.std.proofs.Common.{◌∙◌, sym}
use Rattle.std.proofs.lemmas.List.{take_rest}
use Rattle.svcb_wire.specs.ValueReading.{first_id}
use Rattle.svcb_wire.proofs.Items.{item_on}
use Rattle.svcb_wire.proofs.Readers.{id_reader, id_some}
use Rattle.svcb_wire.proofs.values.read_ids.Goals as goal

pub loop-rest-preserved : goal.loop-rest-preserved
loop-rest-preserved c =
    let found = sym c.in_ok-first_id.ensures.found ∙ c.in-Some.is in
    item_on first_id c.loop-rest.ids c.push.new.self c.loop-rest.rest.now _ c.args.value.now c.in-Some.id c.in-Some.size id_reader.takes (id_some c.loop-rest.rest.now c.in-Some.id c.in-Some.size found) found c.in_ok-push-in-Some.ensures.ok (take_rest c.loop-rest.rest.now c.in-Some.size) c.loop-rest.invariant
