use Rattle.std.proofs.Common.{◌≡◌, ◌∙◌, Option, Some, None, is_some, IfSome, refl, ap, sym, subst}
use Rattle.std.specs.Option.{option_map}
use Rattle.conn_states.specs.Record.{Record}
use Rattle.request_dispatch.specs.declared.lent.Lent.{Lent}
use Rattle.request_dispatch.specs.OpenConnections.{record_lent}
use Rattle.router_core.specs.Lent.{IsLent}
use Rattle.router_core.proofs.Steps.{open_is}
use Rattle.router_core.proofs.Lending.{lent_is}
use Rattle.router_core.proofs.router.Router.conn.Goals as goal

some_lent : (v : Option Lent) → is_some v ≡ is_some (option_map record_lent v)
some_lent None = refl
some_lent (Some lent) = refl

each_lent : (P : Record → Type 0) (v : Option Lent) → IfSome (option_map record_lent v) P → IfSome v (λ lent. P (record_lent lent))
each_lent P None h = h
each_lent P (Some lent) h = h

pub returns-clause-open : goal.returns-clause-open
returns-clause-open c = λ journal stands.
    some_lent c.lent.result ∙ ap is_some (c.lent.ensures ∙ c.of_number.ensures) ∙ open_is c.args.self.now.tables journal c.args.conn stands.tables

pub returns-clause-lent : goal.returns-clause-lent
returns-clause-lent c = λ journal stands.
    each_lent (IsLent journal c.args.conn) c.lent.result
    (subst (λ v. IfSome v (IsLent journal c.args.conn)) (sym (c.lent.ensures ∙ c.of_number.ensures)) (lent_is c.args.self.now.tables journal c.args.conn stands.tables))
