use Rattle.std.proofs.Common.{◌≡◌, ◌∙◌, ◌+◌, not, count_by, ap}
use Rattle.route_events.specs.Authority.{is_initial}
use Rattle.conn_states.specs.Said.{as_made, set_size}
use Rattle.conn_states.proofs.SetSizes.{size_is}
use Rattle.conn_states.proofs.conn.Conn+Gated.held.Goals as goal

pub returns-clause-size : goal.returns-clause-size
returns-clause-size c =
    let made = as_made c.self.inside.number c.self.inside.made in
    let keys = c.self.inside.state.listed.keys in
    let counted : c.count_others.result ≡ count_by (λ o. not (is_initial made o)) keys =
    c.count_others.ensures ∙ ap (λ listed. count_by (λ o. not (is_initial made o)) listed) c.items.ensures.items in
    ap (λ n. n + 1) counted ∙ size_is made keys c.items.ensures.apart ∙ ap set_size c.self.view_is
