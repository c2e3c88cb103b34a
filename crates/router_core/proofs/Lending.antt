-- What a router lends is what the journal says.
use Rattle.std.proofs.Common.{◌≡◌, ℕ, cond, List, Option, Some, None, is_some, IfSome, ap, sym, ◌∙◌, refl, true≢false}
use Rattle.std.specs.Option.{option_map}
use Rattle.conn_states.specs.Record.{Record}
use Rattle.conn_states.specs.Said.{said}
use Rattle.origin_values.specs.declared.origin.Origin.{Origin}
use Rattle.route_events.specs.declared.connection.Connection.{Connection}
use Rattle.route_events.specs.declared.request.Request.{Request}
use Rattle.route_events.specs.Authority.{record_of}
use Rattle.route_events.specs.Journal.{Journal}
use Rattle.route_events.specs.Records.{ConnectionRecord}
use Rattle.route_events.specs.Requests.{request_of, standing, is_out}
use Rattle.request_dispatch.specs.declared.outstanding.Outstanding.{Outstanding}
use Rattle.request_dispatch.specs.RequestTable.{request_among}
use Rattle.request_dispatch.specs.declared.tables.Tables.{Tables}
use Rattle.request_dispatch.specs.ConnectionTable.{connection_among}
use Rattle.router_core.specs.Holds.{Hold, AreOut}
use Rattle.router_core.specs.Lent.{outstanding_origin, open_connection, IsLent}
use Rattle.router_core.proofs.Choosing.{among_is}

abbrev pub origin_asked : Option Outstanding → Option Origin
origin_asked found = option_map (λ (x : Outstanding). x.request.origin) found

pub origin_lent : (j : Journal) (outs : List Outstanding) (n : ℕ) → AreOut j outs → origin_asked (request_among outs n) ≡ outstanding_origin j n
origin_lent j outs n are = by_found (request_among outs n) refl (are.out n)
  where
    origin_of : Option Request → Option Origin
    origin_of v = option_map (λ (q : Request). q.origin) v

    by_found : (v : Option Outstanding) → request_among outs n ≡ v → is_some v ≡ is_out (standing j n) → origin_asked v ≡ cond (is_out (standing j n)) (origin_of (request_of j n)) None
    by_found None e out = ap (λ b. cond b (origin_of (request_of j n)) None) out
    by_found (Some x) e out = ap origin_of (sym (are.known n x e).request) ∙ ap (λ b. cond b (origin_of (request_of j n)) None) out

-- the open connection of a number

pub lent_is : (t : Tables) (j : Journal) (n : ℕ) → Hold t j → IfSome (connection_among t.connections n) (λ lent. IsLent j n lent)
lent_is t j n hold = by_found (connection_among t.connections n) (open_connection j n) refl (among_is t j n hold)
  where
    by_found : (v : Option Record) (w : Option Connection) → open_connection j n ≡ w → option_map said v ≡ option_map (record_of j) w → IfSome v (λ lent. IsLent j n lent)
    by_found None w is e = tt
    by_found (Some lent) None is e = absurd (true≢false (ap is_some e))
    by_found (Some lent) (Some c) is e =
        let says : said lent ≡ record_of j c = some_same (said lent) (record_of j c) e in
        record {
          connection = c;
          is_open = is;
          made = ap (λ (r : ConnectionRecord). r.made) says;
          bound = ap (λ (r : ConnectionRecord). r.bound) says;
          gated = ap (λ (r : ConnectionRecord). r.gated) says;
          set = λ o. ap (λ (r : ConnectionRecord). r.holds o) says;
          misdirected = λ o. ap (λ (r : ConnectionRecord). r.misdirected o) says;
          outstanding = ap (λ (r : ConnectionRecord). r.outstanding) says;
          sends = ap (λ (r : ConnectionRecord). r.sends) says;
        }
      where
        some_same : (x y : ConnectionRecord) → Some x ≡ Some y → x ≡ y
        some_same x y e = cc
