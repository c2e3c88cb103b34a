use Rattle.svcb_wire.proofs.Writing.{param_at}
use Rattle.altroute_show.proofs.record_json.params_json.Goals as goal

pub param_json-requires : goal.param_json-requires
param_json-requires c = (param_at c.args.params.now c.loop-param.param-index c.param-item.result c.loop-param-test.true c.param-item.is c.requires).form
