use Rattle.svcb_wire.proofs.Bytes.{bytes_of}
use Rattle.svcb_text.proofs.ReaderSteps.{no_key, no_end, key_found, key_new, found_new}
use Rattle.svcb_text.proofs.params.first_param.Goals as goal

pub returns-in_default-clause-reading : goal.returns-in_default-clause-reading
returns-in_default-clause-reading c = no_key _ c.args.place c.key_len-count.result c.args.rest.now c.key_len-count.ensures.run c.in_default.ensures

pub returns-then-not-ends_key-clause-reading : goal.returns-then-not-ends_key-clause-reading
returns-then-not-ends_key-clause-reading c = no_end _ c.args.place c.key_len-count.result c.in-Some.key c.ends_key.result c.args.rest.now c.key_len-count.ensures.run c.in-Some.ensures c.ends_key.ensures c.if-not-ends_key.true

pub returns-then-contains_key-clause-reading : goal.returns-then-contains_key-clause-reading
returns-then-contains_key-clause-reading c =
    key_found c.args.found.now.entries c.args.place c.key_len-count.result c.in-Some.key c.ends_key.result c.contains_key.result c.args.rest.now c.requires.keyed c.key_len-count.ensures.run c.in-Some.ensures c.ends_key.ensures c.if-not-ends_key.false c.contains_key.ensures c.if-contains_key.true

pub returns-clause-reading : goal.returns-clause-reading
returns-clause-reading c =
    key_new c.behind_key.result c.args.found.now.entries c.args.place c.key_len-count.result c.in-Some.key c.ends_key.result c.contains_key.result c.args.rest.now c.requires.keyed c.key_len-count.ensures.run c.in-Some.ensures c.ends_key.ensures c.if-not-ends_key.false c.contains_key.ensures
    c.if-contains_key.false c.behind_key.ensures.reading

pub returns-clause-is_new : goal.returns-clause-is_new
returns-clause-is_new c = found_new c.behind_key.result _ c.args.place c.args.rest.now (bytes_of c.args.rest.now c.type_inv.rest) (returns-clause-reading c)
