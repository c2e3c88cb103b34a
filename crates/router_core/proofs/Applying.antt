-- What an action changes of the tables is what it changes in the journal.
use Rattle.std.proofs.Common.{◌≡◌, ℕ, ◌+◌, ◌<◌, Bool, true, false, cond, not, nat_eq, List, [], ◌∷◌, ◌++◌, map, length, Option, refl, ap, sym, ◌∙◌, arith, append_assoc, append-nil}
use Rattle.std.proofs.lemmas.List.{length-append}
use Rattle.origin_values.specs.declared.address.Addr.{Addr}
use Rattle.origin_values.specs.declared.host.Host.{Host}
use Rattle.origin_values.specs.declared.origin.Origin.{Origin}
use Rattle.route_events.specs.declared.action.Action.{Action}
use Rattle.route_events.specs.declared.action.Action.TheVariants.{OpenTo, SendOn, Refuse}
use Rattle.route_events.specs.declared.route.Route.{Route}
use Rattle.route_events.specs.declared.attempt.Attempt.{Attempt}
use Rattle.route_events.specs.declared.connection.Connection.{Connection}
use Rattle.route_events.specs.Journal.{Taken, Journal}
use Rattle.route_events.specs.Attempts.{attempts, pending, has_ended}
use Rattle.route_events.specs.Connections.{open_connections}
use Rattle.route_events.specs.Routes.{was_tried}
use Rattle.route_events.specs.Step.{with_actions, newest_actions}
use Rattle.route_events.proofs.Lists.{IsIn, nat_eq-flip}
use Rattle.route_events.proofs.Quiet.{pending_more}
use Rattle.route_events.specs.Records.{ConnectionRecord}
use Rattle.route_events.specs.Authority.{record_of}
use Rattle.route_choice.specs.Usable.{is_listed}
use Rattle.conn_states.specs.Changes.{with_sent}
use Rattle.conn_states.specs.Record.{Record}
use Rattle.conn_states.specs.Said.{said}
use Rattle.request_dispatch.specs.declared.tables.Tables.{Tables}
use Rattle.request_dispatch.specs.declared.waiting.Waiting.{Waiting}
use Rattle.request_dispatch.specs.AttemptTable.{started}
use Rattle.request_dispatch.specs.RequestTable.{RequestTable}
use Rattle.request_dispatch.specs.ConnectionTable.{may_carry, sent_on}
use Rattle.request_dispatch.proofs.Listing.{map_same_in, map_twice}
use Rattle.router_core.specs.Holds.{Hold, AreTried}
use Rattle.router_core.proofs.Permitted.{MayCarry}

-- an attempt that starts
abbrev pub with_started : Origin → Route → Tables → Tables
with_started o r t = record { attempts = started o r t.attempts; requests = t.requests; connections = t.connections }

pub hold_open : (t : Tables) (j : Journal) (n : ℕ) (o : Origin) (r : Route) → ((m : ℕ) → length (attempts j) < m → has_ended j m ≡ false) → n ≡ t.attempts.opened + 1 → Hold t j → Hold (with_started o r t) (Taken (OpenTo n o r) ∷ j)
hold_open t j n o r not_ended next hold =
    let a : Attempt = record { number = n; origin = o; route = r } in
    let count : n ≡ length (attempts j) + 1 = next ∙ ap (λ k. k + 1) hold.opened in
    let fresh : has_ended j n ≡ false = not_ended n (omega (arith, count)) in
    record {
      opened = sym next ∙ count ∙ sym (length-append (attempts j) (a ∷ []));
      pending = (λ i. hold.pending i ++ record { number = sym next i; origin = o; route = r } ∷ []) ∙ sym (pending_more j n o r ∙ ap (λ b. pending j ++ cond (not b) (a ∷ []) []) fresh);
      connections = hold.connections;
    }

-- a change of each connection of a table that says of itself what the longer journal says
pub changed : (f : Record → Record) (g : ConnectionRecord → ConnectionRecord) (cs : List Record) (j k : Journal) (xs : List Connection) →
    ((c : Record) → IsIn c cs → said (f c) ≡ g (said c)) → ((x : Connection) → IsIn x xs → g (record_of j x) ≡ record_of k x) → map said cs ≡ map (record_of j) xs → map said (map f cs) ≡ map (record_of k) xs
changed f g cs j k xs says is hold =
    map_twice said f cs
    ∙ map_same_in (λ c. said (f c)) (λ c. g (said c)) cs says
    ∙ sym (map_twice g said cs)
    ∙ ap (map g) hold
    ∙ map_twice g (record_of j) xs
    ∙ map_same_in (λ x. g (record_of j x)) (record_of k) xs is

-- a send, as a change of a record
abbrev sent_record : ℕ → ℕ → ConnectionRecord → ConnectionRecord
sent_record conn q r =
    cond (nat_eq r.made.number conn) (record { made = r.made; bound = r.bound; gated = r.gated; holds = r.holds; misdirected = r.misdirected; outstanding = r.outstanding ++ q ∷ []; sends = r.sends + 1 }) r

sent_says : (at : Origin → Addr → Bool) (o : Origin) (conn q : ℕ) (c : Record) → (nat_eq c.number conn ≡ true → may_carry at o q c ≡ true) → said (sent_on at o conn q c) ≡ sent_record conn q (said c)
sent_says at o conn q c may = by_test (nat_eq c.number conn) refl may
  where
    by_test : (b : Bool) → nat_eq c.number conn ≡ b → (b ≡ true → may_carry at o q c ≡ true) → said (cond b (cond (may_carry at o q c) (with_sent q c) c) c) ≡ cond b (record { made = (said c).made; bound = c.bound; gated = (said c).gated; holds = (said c).holds; misdirected = (said c).misdirected; outstanding = c.outstanding ++ q ∷ []; sends = c.sends + 1 }) (said c)
    by_test true e may = ap (λ b. said (cond b (with_sent q c) c)) (may refl)
    by_test false e may = refl

sent_is : (j : Journal) (q conn : ℕ) (s : Option ℕ) (u : Option (Host × ℕ)) (c : Connection) → sent_record conn q (record_of j c) ≡ record_of (Taken (SendOn q conn s u) ∷ j) c
sent_is j q conn s u c = by_test (nat_eq c.number conn) refl (nat_eq-flip conn c.number)
  where
    by_test : (b : Bool) → nat_eq c.number conn ≡ b → nat_eq conn c.number ≡ nat_eq c.number conn → sent_record conn q (record_of j c) ≡ record_of (Taken (SendOn q conn s u) ∷ j) c
    by_test true e flip = rw (flip, e) refl
    by_test false e flip = rw (flip, e) refl

pub hold_send : (at : Origin → Addr → Bool) (o : Origin) (t : Tables) (j : Journal) (q conn : ℕ) (s : Option ℕ) (u : Option (Host × ℕ)) (requests : RequestTable) → MayCarry at o conn q t.connections → Hold t j →
    Hold (record { attempts = t.attempts; requests = requests; connections = map (sent_on at o conn q) t.connections }) (Taken (SendOn q conn s u) ∷ j)
hold_send at o t j q conn s u requests may hold = record {
  opened = hold.opened;
  pending = hold.pending;
  connections = changed (sent_on at o conn q) (sent_record conn q) t.connections j (Taken (SendOn q conn s u) ∷ j) (open_connections j) (λ c found. sent_says at o conn q c (may c found)) (λ c found. sent_is j q conn s u c) hold.connections;
}

pub hold_refuse : (t : Tables) (j : Journal) (q : ℕ) → Hold t j → Hold t (Taken (Refuse q) ∷ j)
hold_refuse t j q hold = record { opened = hold.opened; pending = hold.pending; connections = hold.connections }

-- the table of requests doesn't matter to the others
pub hold_requests : (t : Tables) (j : Journal) (requests : RequestTable) → Hold t j → Hold (record { attempts = t.attempts; requests = requests; connections = t.connections }) j
hold_requests t j requests hold = record { opened = hold.opened; pending = hold.pending; connections = hold.connections }

-- no action ends an attempt
pub tried_taken : (j : Journal) (a : Action) (ws : List Waiting) → AreTried j ws → AreTried (Taken a ∷ j) ws
tried_taken j a [] h = tt
tried_taken j a (w ∷ ws) h = (h.0, tried_taken j a ws h.1)

pub tried_append : (j : Journal) (ws : List Waiting) (w : Waiting) → AreTried j ws → ((r : Route) → is_listed w.tried r ≡ was_tried j w.request r) → AreTried j (ws ++ w ∷ [])
tried_append j [] w h own = (own, tt)
tried_append j (x ∷ ws) w h own = (h.0, tried_append j ws w h.1 own)

pub tried_with : (j : Journal) (as' : List Action) (ws : List Waiting) → AreTried j ws → AreTried (with_actions j as') ws
tried_with j [] ws h = h
tried_with j (a ∷ as') ws h = tried_with (Taken a ∷ j) as' ws (tried_taken j a ws h)

pub newest_with : (j : Journal) (as' : List Action) → newest_actions (with_actions j as') ≡ newest_actions j ++ as'
newest_with j [] = sym (append-nil (newest_actions j))
newest_with j (a ∷ as') = newest_with (Taken a ∷ j) as' ∙ append_assoc (newest_actions j) (a ∷ []) as'
