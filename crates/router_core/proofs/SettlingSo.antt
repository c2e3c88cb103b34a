-- Settling what a router keeps is settling the journal.
use Rattle.std.proofs.Common.{◌≡◌, inl, ℕ, ◌+◌, ◌<◌, Bool, true, false, cond, nat_eq, List, [], ◌∷◌, ◌++◌, length, filter, Option, Some, None, is_some, refl, ap, sym, ◌∙◌, subst, append_assoc, append-nil, true≢false}
use Rattle.std.proofs.lemmas.List.{map-append}
use Rattle.alt_base.proofs.Numbers.{eq_self, true_eq}
use Rattle.alt_base.proofs.Booleans.{contradicts}
use Rattle.std.specs.Option.{option_map_or}
use Rattle.origin_values.specs.declared.address.Addr.{Addr}
use Rattle.origin_values.specs.declared.host.Host.{Host}
use Rattle.origin_values.specs.declared.origin.Origin.{Origin}
use Rattle.route_choice.specs.Usable.{is_listed}
use Rattle.route_events.specs.declared.action.Action.{Action}
use Rattle.route_events.specs.declared.action.Action.TheVariants.{OpenTo, SendOn, Refuse as RefuseAction}
use Rattle.route_events.specs.declared.route.Route.{Route}
use Rattle.route_events.specs.declared.request.Request.{Request}
use Rattle.route_events.specs.Journal.{Taken, Journal, newest_moment}
use Rattle.route_events.specs.Attempts.{attempts, has_ended}
use Rattle.route_events.specs.Requests.{Standing, OutOn, Over, SentTo, requests, request_of, standing, waits, is_out, waiting, sent_to}
use Rattle.route_events.specs.Routes.{was_tried}
use Rattle.route_events.specs.Dispatch.{or_else, dispatch}
use Rattle.route_events.specs.Step.{with_actions, settle, newest_actions}
use Rattle.route_events.proofs.Lists.{IsIn, AreApart, nat_eq-flip, find_apart}
use Rattle.route_events.proofs.Sound.{Sound}
use Rattle.route_events.proofs.Settles.{Settles, settles, settles_one, waits_later}
use Rattle.request_dispatch.specs.declared.choice.Choice.{Choice}
use Rattle.request_dispatch.specs.declared.choice.Choice.TheVariants.{Wait, Open, Send, Refuse}
use Rattle.request_dispatch.specs.declared.outstanding.Outstanding.{Outstanding}
use Rattle.request_dispatch.specs.declared.step_state.StepState.{StepState}
use Rattle.request_dispatch.specs.declared.tables.Tables.{Tables}
use Rattle.request_dispatch.specs.declared.waiting.Waiting.{Waiting}
use Rattle.request_dispatch.specs.RequestTable.{request_among, requests_of}
use Rattle.request_dispatch.specs.Looks.{Look}
use Rattle.request_dispatch.specs.Choices.{choice, actions_of}
use Rattle.request_dispatch.specs.StepStates.{with_start, with_waiting, with_send, with_refusal, by_choice, settled_by, settle_over}
use Rattle.request_dispatch.proofs.Listing.{find_append}
use Rattle.router_core.specs.Holds.{Hold, AreTried, IsOut, AreOut}
use Rattle.router_core.proofs.Knowing.{Sees, sees_still, said_dispatched}
use Rattle.router_core.proofs.Choosing.{choice_is}
use Rattle.router_core.proofs.Permitted.{MayCarry, MayDo, permitted}
use Rattle.router_core.proofs.Applying.{hold_open, hold_send, hold_refuse, hold_requests, tried_taken, tried_with, tried_append}

-- the tables, the requests that wait, those that are outstanding and the actions are those of a journal
pub record Keeps (s : StepState) (j : Journal) (asked : List Request) : Type 0 where
  pub tables : Hold s.tables j
  pub waiting : requests_of s.tables.requests.waiting ≡ asked
  pub tried : AreTried j s.tables.requests.waiting
  pub outstanding : AreOut j s.tables.requests.outstanding
  pub written : s.actions ≡ newest_actions j

abbrev pub number_of : Request → ℕ
number_of q = q.number

abbrev pub HasTried : Journal → Waiting → Type 0
HasTried j w = (r : Route) → is_listed w.tried r ≡ was_tried j w.request r

-- a request waits on where it isn't sent or refused
abbrev pub waits_on : Choice → Bool
waits_on Wait = true
waits_on (Open r) = true
waits_on (Send conn stream used beside) = false
waits_on Refuse = false

waits_after : (t : Tables) (j : Journal) (w : Waiting) (ch : Choice) → waits (standing j w.request.number) ≡ true → waits (standing (with_actions j (actions_of t w ch)) w.request.number) ≡ waits_on ch
waits_after t j w Wait waiting = waiting
waits_after t j w (Open r) waiting = waiting
waits_after t j w (Send conn stream used None) waiting = rw (eq_self w.request.number) refl
waits_after t j w (Send conn stream used (Some r)) waiting = rw (eq_self w.request.number) refl
waits_after t j w Refuse waiting = rw (eq_self w.request.number) refl

-- the requests that are outstanding after it

waits_in : (v : Option Standing) → waits v ≡ true → is_out v ≡ false
waits_in None h = refl
waits_in (Some (OutOn conn)) h = absurd (true≢false (sym h))
waits_in (Some Over) h = refl
waits_in (Some _) h = refl

-- a request that is over, and waited before, is among none of them
over_out : (q n : ℕ) (v : Option Standing) → (nat_eq q n ≡ true → is_out v ≡ false) → is_out (option_map_or Some (cond (nat_eq q n) (Some Over) None) v) ≡ is_out v
over_out q n v h = by_test (nat_eq q n) h
  where
    by_test : (b : Bool) → (b ≡ true → is_out v ≡ false) → is_out (option_map_or Some (cond b (Some Over) None) v) ≡ is_out v
    by_test true h = sym (h refl)
    by_test false h = refl

pub none_out : AreOut [] []
none_out = record { out = λ n. refl; known = λ n x e. absurd (true≢false (sym (ap is_some e))) }

-- a request that waits is none of the outstanding ones
record IsKnown (j : Journal) (q : Request) : Type 0 where
  pub waits_yet : waits (standing j q.number) ≡ true
  pub is : request_of j q.number ≡ Some q

not_out : (j : Journal) (q : Request) (n : ℕ) → IsKnown j q → nat_eq q.number n ≡ true → is_out (standing j n) ≡ false
not_out j q n known e = subst (λ m. is_out (standing j m) ≡ false) (true_eq q.number n e) (waits_in (standing j q.number) known.waits_yet)

-- an action that moves no request
pub out_started : (j : Journal) (n : ℕ) (o : Origin) (r : Route) (outs : List Outstanding) → AreOut j outs → AreOut (Taken (OpenTo n o r) ∷ j) outs
out_started j n o r outs are = record { out = are.out; known = λ m x found. let was = are.known m x found in record { request = was.request; sent = was.sent; tried = was.tried } }

out_refused : (j : Journal) (q : Request) (outs : List Outstanding) → IsKnown j q → AreOut j outs → AreOut (Taken (RefuseAction q.number) ∷ j) outs
out_refused j q outs known are = record {
  out = λ n. are.out n ∙ sym (over_out q.number n (standing j n) (not_out j q n known));
  known = λ n x found. let was = are.known n x found in record { request = was.request; sent = was.sent; tried = was.tried };
}

-- one that is sent is one more
abbrev pub sent_as : Waiting → ℕ → Option ℕ → Outstanding
sent_as w conn stream = record { request = w.request; conn = conn; stream = stream; tried = w.tried }

out_more : (j : Journal) (w : Waiting) (conn : ℕ) (stream : Option ℕ) (used : Option (Host × ℕ)) (outs : List Outstanding) → IsKnown j w.request → HasTried j w → AreOut j outs →
    AreOut (Taken (SendOn w.request.number conn stream used) ∷ j) (outs ++ sent_as w conn stream ∷ [])
out_more j w conn stream used outs known own are = record {
  out = λ n. ap is_some (find_append (λ (x : Outstanding). nat_eq x.request.number n) outs (new ∷ [])) ∙ out_by n (request_among outs n) (nat_eq w.request.number n) refl (are.out n);
  known = λ n x found. known_by n x (request_among outs n) (nat_eq w.request.number n) refl refl (sym (find_append (λ (x : Outstanding). nat_eq x.request.number n) outs (new ∷ [])) ∙ found);
}
  where
    new : Outstanding
    new = sent_as w conn stream

    k : Journal
    k = Taken (SendOn w.request.number conn stream used) ∷ j

    out_by : (n : ℕ) (v : Option Outstanding) (b : Bool) → nat_eq w.request.number n ≡ b → is_some v ≡ is_out (standing j n) → is_some (or_else v (cond b (Some new) None)) ≡ is_out (option_map_or Some (cond b (Some (OutOn conn)) None) (standing j n))
    out_by n None true e h = refl
    out_by n (Some x) true e h = refl
    out_by n None false e h = h
    out_by n (Some x) false e h = h

    here : SentTo
    here = record { conn = conn; stream = stream }

    new_is : (n : ℕ) → nat_eq w.request.number n ≡ true → IsOut k n new
    new_is n e = record {
      request = subst (λ m. request_of j m ≡ Some w.request) (true_eq w.request.number n e) known.is;
      sent = ap (λ b. option_map_or Some (cond b (Some here) None) (sent_to j n)) e;
      tried = own;
    }

    old_is : (n : ℕ) (x : Outstanding) → nat_eq w.request.number n ≡ false → IsOut j n x → IsOut k n x
    old_is n x e was = record { request = was.request; sent = ap (λ b. option_map_or Some (cond b (Some here) None) (sent_to j n)) e ∙ was.sent; tried = was.tried }

    some_is : (x y : Outstanding) → Some x ≡ Some y → x ≡ y
    some_is x y e = cc

    known_by : (n : ℕ) (x : Outstanding) (v : Option Outstanding) (b : Bool) → request_among outs n ≡ v → nat_eq w.request.number n ≡ b → or_else v (cond b (Some new) None) ≡ Some x → IsOut k n x
    known_by n x (Some y) true is e found = contradicts (is_out (standing j n)) (sym (are.out n) ∙ ap is_some is) (not_out j w.request n known e)
    known_by n x (Some y) false is e found = old_is n x e (are.known n x (is ∙ found))
    known_by n x None true is e found = subst (IsOut k n) (some_is new x found) (new_is n e)
    known_by n x None false is e found = absurd (true≢false (sym (ap is_some found)))

-- what each choice leaves

keeps_start : (s : StepState) (j : Journal) (asked : List Request) (o : Origin) (r : Route) → ((m : ℕ) → length (attempts j) < m → has_ended j m ≡ false) → Keeps s j asked →
    Keeps (with_start o r s) (Taken (OpenTo (s.tables.attempts.opened + 1) o r) ∷ j) asked
keeps_start s j asked o r fresh keeps = record {
  tables = hold_open s.tables j (s.tables.attempts.opened + 1) o r fresh refl keeps.tables;
  waiting = keeps.waiting;
  tried = tried_taken j (OpenTo (s.tables.attempts.opened + 1) o r) s.tables.requests.waiting keeps.tried;
  outstanding = out_started j (s.tables.attempts.opened + 1) o r s.tables.requests.outstanding keeps.outstanding;
  written = ap (λ (as' : List Action). as' ++ OpenTo (s.tables.attempts.opened + 1) o r ∷ []) keeps.written;
}

keeps_waiting : (s : StepState) (j : Journal) (asked : List Request) (w : Waiting) → HasTried j w → Keeps s j asked → Keeps (with_waiting w s) j (asked ++ w.request ∷ [])
keeps_waiting s j asked w own keeps = record {
  tables = hold_requests s.tables j _ keeps.tables;
  waiting = map-append (λ (w : Waiting). w.request) s.tables.requests.waiting (w ∷ []) ∙ ap (λ (qs : List Request). qs ++ w.request ∷ []) keeps.waiting;
  tried = tried_append j s.tables.requests.waiting w keeps.tried own;
  outstanding = keeps.outstanding;
  written = keeps.written;
}

keeps_send : (at : Origin → Addr → Bool) (s : StepState) (j : Journal) (asked : List Request) (w : Waiting) (conn : ℕ) (stream : Option ℕ) (used : Option (Host × ℕ)) → IsKnown j w.request → HasTried j w → MayCarry at w.request.origin conn w.request.number s.tables.connections → Keeps s j asked →
    Keeps (with_send at w conn stream used s) (Taken (SendOn w.request.number conn stream used) ∷ j) asked
keeps_send at s j asked w conn stream used known own may keeps = record {
  tables = hold_send at w.request.origin s.tables j w.request.number conn stream used _ may keeps.tables;
  waiting = keeps.waiting;
  tried = tried_taken j (SendOn w.request.number conn stream used) s.tables.requests.waiting keeps.tried;
  outstanding = out_more j w conn stream used s.tables.requests.outstanding known own keeps.outstanding;
  written = ap (λ (as' : List Action). as' ++ SendOn w.request.number conn stream used ∷ []) keeps.written;
}

keeps_refuse : (s : StepState) (j : Journal) (asked : List Request) (w : Waiting) → IsKnown j w.request → Keeps s j asked → Keeps (with_refusal w s) (Taken (RefuseAction w.request.number) ∷ j) asked
keeps_refuse s j asked w known keeps = record {
  tables = hold_refuse s.tables j w.request.number keeps.tables;
  waiting = keeps.waiting;
  tried = tried_taken j (RefuseAction w.request.number) s.tables.requests.waiting keeps.tried;
  outstanding = out_refused j w.request s.tables.requests.outstanding known keeps.outstanding;
  written = ap (λ (as' : List Action). as' ++ RefuseAction w.request.number ∷ []) keeps.written;
}

keeps_choice : (at : Origin → Addr → Bool) (s : StepState) (j : Journal) (asked : List Request) (w : Waiting) (ch : Choice) → ((m : ℕ) → length (attempts j) < m → has_ended j m ≡ false) → IsKnown j w.request → HasTried j w → MayDo at s.tables.connections w ch → Keeps s j asked →
    Keeps (by_choice at s w ch) (with_actions j (actions_of s.tables w ch)) (asked ++ cond (waits_on ch) (w.request ∷ []) [])
keeps_choice at s j asked w Wait fresh known own may keeps = keeps_waiting s j asked w own keeps
keeps_choice at s j asked w (Open r) fresh known own may keeps =
    keeps_waiting (with_start w.request.origin r s) (Taken (OpenTo (s.tables.attempts.opened + 1) w.request.origin r) ∷ j) asked w own (keeps_start s j asked w.request.origin r fresh keeps)
keeps_choice at s j asked w (Send conn stream used None) fresh known own may keeps =
    subst (Keeps (with_send at w conn stream used s) (Taken (SendOn w.request.number conn stream used) ∷ j)) (sym (append-nil asked)) (keeps_send at s j asked w conn stream used known own may keeps)
keeps_choice at s j asked w (Send conn stream used (Some r)) fresh known own may keeps =
    let sent : StepState = with_send at w conn stream used s in
    let k : Journal = Taken (SendOn w.request.number conn stream used) ∷ j in
    subst (Keeps (with_start w.request.origin r sent) (Taken (OpenTo (s.tables.attempts.opened + 1) w.request.origin r) ∷ k)) (sym (append-nil asked))
    (keeps_start sent k asked w.request.origin r fresh (keeps_send at s j asked w conn stream used known own may keeps))
keeps_choice at s j asked w Refuse fresh known own may keeps =
    subst (Keeps (with_refusal w s) (Taken (RefuseAction w.request.number) ∷ j)) (sym (append-nil asked)) (keeps_refuse s j asked w known keeps)

-- all that the requests that are settled owe
pub record Asked (look : Look) (j : Journal) (now : ℕ) (ws : List Waiting) : Type 0 where
  pub sound : Sound j
  pub moment : newest_moment j ≡ now
  pub apart : AreApart number_of (requests_of ws)
  pub waits_now : (q : Request) → IsIn q (requests_of ws) → IsIn q (requests j) × (waits (standing j q.number) ≡ true)
  pub tried : AreTried j ws
  pub sees : Sees look j now

-- those of some requests that wait in a journal
abbrev pub still_waiting : Journal → List Request → List Request
still_waiting j qs = filter (λ (q : Request). waits (standing j q.number)) qs

one_settles : (look : Look) (j : Journal) (now : ℕ) (w : Waiting) (ws : List Waiting) → Asked look j now (w ∷ ws) → Settles j (with_actions j (dispatch j w.request now)) now (w.request ∷ [])
one_settles look j now w ws asked =
    let here = asked.waits_now w.request (inl refl) in
    settles_one j now w.request asked.sound asked.moment here.0 here.1

-- one request
pub one_keeps : (look : Look) (s : StepState) (j : Journal) (now : ℕ) (w : Waiting) (ws : List Waiting) (asked : List Request) → Asked look j now (w ∷ ws) → Keeps s j asked →
    Keeps (settled_by look s w) (with_actions j (dispatch j w.request now)) (asked ++ still_waiting (with_actions j (dispatch j w.request now)) (w.request ∷ []))
one_keeps look s j now w ws asked owed keeps = subst (λ as'. Keeps (settled_by look s w) (with_actions j as') (asked ++ still_waiting (with_actions j as') (w.request ∷ []))) chosen listed
  where
    ch : Choice
    ch = choice look s.tables w

    as' : List Action
    as' = actions_of s.tables w ch

    chosen : as' ≡ dispatch j w.request now
    chosen = choice_is look s.tables w j now owed.sound owed.sees keeps.tables owed.tried.0

    here : IsIn w.request (requests j) × (waits (standing j w.request.number) ≡ true)
    here = owed.waits_now w.request (inl refl)

    known : IsKnown j w.request
    known = record { waits_yet = here.1; is = find_apart number_of (requests j) w.request owed.sound.requests_apart here.0 }

    listed : Keeps (by_choice look.is_address s w ch) (with_actions j as') (asked ++ still_waiting (with_actions j as') (w.request ∷ []))
    listed = subst (λ b. Keeps (by_choice look.is_address s w ch) (with_actions j as') (asked ++ cond b (w.request ∷ []) [])) (sym (waits_after s.tables j w ch here.1))
        (keeps_choice look.is_address s j asked w ch owed.sound.not_ended known owed.tried.0 (permitted look s.tables w j now owed.sound owed.sees keeps.tables here.1) keeps)

-- what is owed for the requests after the first
then_asked : (look : Look) (j : Journal) (now : ℕ) (w : Waiting) (ws : List Waiting) → Asked look j now (w ∷ ws) → Asked look (with_actions j (dispatch j w.request now)) now ws
then_asked look j now w ws owed =
    let one = one_settles look j now w ws owed in
    record {
      sound = one.sound;
      moment = one.quiet.moment_same ∙ owed.moment;
      apart = owed.apart.1;
      waits_now = waits_later j (with_actions j (dispatch j w.request now)) now w.request (requests_of ws) one owed.apart owed.waits_now;
      tried = tried_with j (dispatch j w.request now) ws owed.tried.1;
      sees = sees_still look j (with_actions j (dispatch j w.request now)) now (said_dispatched j w.request now) owed.sees;
    }

-- the first request waits at the end where it waits on
first_still : (look : Look) (j : Journal) (now : ℕ) (w : Waiting) (ws : List Waiting) → Asked look j now (w ∷ ws) →
    still_waiting (settle (with_actions j (dispatch j w.request now)) now (requests_of ws)) (w.request ∷ []) ≡ still_waiting (with_actions j (dispatch j w.request now)) (w.request ∷ [])
first_still look j now w ws owed = ap (λ st. cond (waits st) (w.request ∷ []) []) same
  where
    k : Journal
    k = with_actions j (dispatch j w.request now)

    rest : Asked look k now ws
    rest = then_asked look j now w ws owed

    same : standing (settle k now (requests_of ws)) w.request.number ≡ standing k w.request.number
    same = (settles k now (requests_of ws) rest.sound rest.moment rest.apart rest.waits_now).others w.request.number (λ q found. nat_eq-flip q.number w.request.number ∙ owed.apart.0 q found)

cons_still : (k : Journal) (q : Request) (qs : List Request) → still_waiting k (q ∷ qs) ≡ still_waiting k (q ∷ []) ++ still_waiting k qs
cons_still k q qs = by_test (waits (standing k q.number))
  where
    by_test : (b : Bool) → cond b (q ∷ still_waiting k qs) (still_waiting k qs) ≡ cond b (q ∷ []) [] ++ still_waiting k qs
    by_test true = refl
    by_test false = refl

-- all of them
pub over_keeps : (look : Look) (s : StepState) (j : Journal) (now : ℕ) (ws : List Waiting) (asked : List Request) → Asked look j now ws → Keeps s j asked →
    Keeps (settle_over look s ws) (settle j now (requests_of ws)) (asked ++ still_waiting (settle j now (requests_of ws)) (requests_of ws))
over_keeps look s j now [] asked owed keeps = subst (λ qs. Keeps s j qs) (sym (append-nil asked)) keeps
over_keeps look s j now (w ∷ ws) asked owed keeps =
    let k : Journal = with_actions j (dispatch j w.request now) in
    let end : Journal = settle k now (requests_of ws) in
    let one = one_keeps look s j now w ws asked owed keeps in
    let rest = over_keeps look (settled_by look s w) k now ws (asked ++ still_waiting k (w.request ∷ [])) (then_asked look j now w ws owed) one in
    subst (Keeps (settle_over look (settled_by look s w) ws) end)
    (append_assoc asked (still_waiting k (w.request ∷ [])) (still_waiting end (requests_of ws))
    ∙ ap (λ qs. asked ++ (qs ++ still_waiting end (requests_of ws))) (sym (first_still look j now w ws owed))
    ∙ ap (λ qs. asked ++ qs) (sym (cons_still end w.request (requests_of ws))))
    rest
