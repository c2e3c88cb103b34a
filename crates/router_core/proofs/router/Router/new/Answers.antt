use Rattle.std.proofs.Common.{refl, ap, [], sym, ◌∙◌, subst, map, filter}
use Rattle.alias_chain.specs.Held.{in_force}
use Rattle.network_cache.specs.Freshness.{is_fresh}
use Rattle.route_events.specs.Step.{Begun}
use Rattle.request_dispatch.specs.AttemptTable.{AttemptTable}
use Rattle.conn_states.specs.Said.{said}
use Rattle.request_dispatch.specs.RequestTable.{RequestTable, requests_of}
use Rattle.router_core.specs.Holds.{AreTried, AreOut, AreRead}
use Rattle.router_core.proofs.ReadersAfter.{none_read}
use Rattle.router_core.proofs.Noting.{fresh_alts}
use Rattle.router_core.proofs.SettlingSo.{none_out}
use Rattle.router_core.proofs.router.Router.new.Goals as goal

pub returns : goal.returns
returns c = record {
  run = Begun;
  facts = refl;
  last = refl;
  newest = refl;
  tables = record { opened = ap (λ (t : AttemptTable). t.opened) c.new.ensures; pending = ap (λ (t : AttemptTable). t.pending) c.new.ensures; connections = ap (map said) c.new-3.ensures };
  waiting = ap (λ (t : RequestTable). requests_of t.waiting) c.new-2.ensures;
  tried = subst (λ (t : RequestTable). AreTried [] t.waiting) (sym c.new-2.ensures) tt;
  outstanding = subst (λ (t : RequestTable). AreOut [] t.outstanding) (sym c.new-2.ensures) none_out;
  readers = subst (AreRead []) (sym c.new-7.ensures) none_read;
  alternatives = λ o at h. ap (fresh_alts at) (c.new-4.ensures.nothing o);
  none_ended = λ o. ap (filter (is_fresh 0)) (c.new-4.ensures.nothing o) ∙ sym (c.new-4.ensures.nothing o);
  failures = λ o r other. c.new-6.ensures.nothing o r;
  answers = λ name kind at h. ap (in_force at) (c.new-5.ensures.nothing name kind);
  no_ended_answer = λ name kind. ap (in_force 0) (c.new-5.ensures.nothing name kind) ∙ sym (c.new-5.ensures.nothing name kind);
}
