use Rattle.std.proofs.Common.{arith}
use Rattle.std.proofs.lemmas.List.{take_rest}
use Rattle.svcb_wire.proofs.ParamLists.{param_on, place_on}
use Rattle.svcb_wire.proofs.reader.read_params.Goals as goal

pub loop-rest-preserved : goal.loop-rest-preserved
loop-rest-preserved c = record {
  place = place_on c.loop-rest.at c.in_ok-param.size c.args.place _ c.loop-rest.rest.now _ (take_rest c.loop-rest.rest.now c.in_ok-param.size) c.in_ok-param.ensures.within c.loop-rest.invariant.place;
  read =
      param_on c.args.place c.loop-rest.at c.loop-rest.least c.in_ok-param.size _ _ c.loop-rest.params c.push.new.self c.in_ok-param.param c.args.octets.now c.loop-rest.rest.now _ (omega (arith, c.in_ok-param.ensures.within, c.in_ok-param.ensures.some)) c.in_ok-param.ensures.reading
      (omega arith) (omega (arith, c.param_key.ensures)) c.in_ok-push.ensures.ok (take_rest c.loop-rest.rest.now c.in_ok-param.size) c.loop-rest.invariant.read;
}
