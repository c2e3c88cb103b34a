use Rattle.std.proofs.Common.{◌≡◌, map, take}
use Rattle.serde_json.specs.View.{view}
use Rattle.altroute_show.specs.RecordJson.{param_data}
use Rattle.altroute_show.proofs.record_json.params_json.Given as goal

abbrev pub invariant-loop-param : goal.invariant-loop-param
invariant-loop-param l = map view l.items.items ≡ map param_data (take l.param-index l.params)
