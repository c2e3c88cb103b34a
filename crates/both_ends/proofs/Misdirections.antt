-- How long a misdirection lasts.
use Rattle.std.proofs.Common.{◌≡◌, ℕ, Bool, true, false, cond, not, ◌&&◌, ◌||◌, nat_eq, List, [], ◌∷◌, ◌++◌, Option, Some, None, refl, ap, sym, ◌∙◌, subst, true≢false}
use Rattle.std.specs.List.{list_any}
use Rattle.std.specs.Option.{option_map, option_map_or}
use Rattle.std.proofs.lemmas.Bool.{or_right}
use Rattle.alt_base.proofs.Booleans.{contradicts}
use Rattle.alt_base.proofs.Numbers.{true_eq}
use Rattle.event_lines.specs.declared.event.Event.{Event}
use Rattle.origin_values.specs.Equality.{origin_eq}
use Rattle.origin_values.specs.declared.host.Host.{Host}
use Rattle.origin_values.specs.declared.origin.Origin.{Origin}
use Rattle.origin_values.proofs.Equal.{origin_self, true_origin}
use Rattle.route_events.specs.declared.action.Action.{Action}
use Rattle.route_events.specs.declared.action.Action.TheVariants.{SendOn}
use Rattle.route_events.specs.declared.connection.Connection.{Connection}
use Rattle.route_events.specs.declared.fact.Fact.{Fact}
use Rattle.route_events.specs.declared.fact.Fact.TheVariants.{Request as RequestFact, Opened, Failed, Closed, Response, Input, Delivered, Answer, Network, Tick, Who, Stats}
use Rattle.route_events.specs.declared.request.Request.{Request}
use Rattle.route_events.specs.Attempts.{has_ended}
use Rattle.route_events.specs.Authority.{is_authoritative, authorises, record_of, reach_of}
use Rattle.route_events.specs.Connections.{connections, connection_of, is_open, is_one_of, outstanding}
use Rattle.route_events.specs.Dispatch.{dispatch}
use Rattle.route_events.specs.Frames.{octets_on, deliveries}
use Rattle.route_events.specs.Journal.{Entry, Happened, Cut, Taken, Journal, of_fact, newest_moment}
use Rattle.route_events.specs.Headline.{MaySend}
use Rattle.route_events.specs.Misdirection.{asks_for, turns_away, is_misdirected}
use Rattle.route_events.specs.OriginSets.{lists}
use Rattle.route_events.specs.Requests.{request_of, standing, is_out, waiting}
use Rattle.route_events.specs.Step.{IsRun, Begun as RunBegun, Stepped, refusal, with_actions, part_effects, with_part, with_fact, settle, settled, follow, answer_to, step}
use Rattle.route_events.proofs.Lists.{find_in}
use Rattle.route_events.proofs.Parts.{IsBehind, AreBehind, all_behind}
use Rattle.route_events.proofs.Runs.{each, allowed_at}
use Rattle.route_events.proofs.Sound.{Sound, opened_pending, started_of}
use Rattle.router_core.specs.Lent.{outstanding_origin}
use Rattle.both_ends.specs.Misdirections.{IsMisdirected, answered, is_for, lists_on}
use Rattle.both_ends.specs.Histories.{History, IsHistory, Later, acts_of, journal_of}
use Rattle.both_ends.proofs.Accepted.{runs}
use Rattle.both_ends.proofs.Takings.{neither}

-- the attempt that a fact ends with a connection
abbrev pub opened_in : Fact → Option ℕ
opened_in (Opened attempt proto addr port names) = Some attempt
opened_in _ = None

abbrev pub opens : ℕ → Entry → Bool
opens number entry = option_map_or (λ n. nat_eq n number) (of_fact opened_in entry) false

-- an attempt that ends with a connection hadn't ended
abbrev pub IsFresh : Option ℕ → Journal → Type 0
IsFresh None older = Unit {0}
IsFresh (Some n) older = has_ended older n ≡ false

abbrev pub AreFresh : Journal → Type 0
AreFresh [] = Unit {0}
AreFresh (entry ∷ older) = IsFresh (of_fact opened_in entry) older × AreFresh older

fresh_with : (j : Journal) (as' : List Action) → AreFresh j → AreFresh (with_actions j as')
fresh_with j [] h = h
fresh_with j (a ∷ as') h = fresh_with (Taken a ∷ j) as' (tt, h)

fresh_settle : (j : Journal) (now : ℕ) (qs : List Request) → AreFresh j → AreFresh (settle j now qs)
fresh_settle j now [] h = h
fresh_settle j now (q ∷ qs) h = fresh_settle (with_actions j (dispatch j q now)) now qs (fresh_with j (dispatch j q now) h)

fresh_settled : (j : Journal) (now : ℕ) (part : Entry) → AreFresh (part ∷ j) → AreFresh (settled (with_part j now part) now)
fresh_settled j now part h = fresh_settle (with_part j now part) now (waiting (with_part j now part)) (fresh_with (part ∷ j) (part_effects j now part) h)

fresh_behind : (j : Journal) (now conn : ℕ) (part : Entry) → IsBehind now conn part → AreFresh j → AreFresh (part ∷ j)
fresh_behind j now conn (Happened moment (Delivered to head payload) false) behind h = (tt, h)
fresh_behind j now conn (Cut moment to count) behind h = (tt, h)
fresh_behind j now conn _ behind h = absurd behind

fresh_follow : (j : Journal) (now conn : ℕ) (parts : List Entry) → AreBehind now conn parts → AreFresh j → AreFresh (follow j now parts)
fresh_follow j now conn [] behind h = h
fresh_follow j now conn (part ∷ parts) behind h =
    fresh_follow (settled (with_part j now part) now) now conn parts behind.1 (fresh_settled j now part (fresh_behind j now conn part behind.0 h))

fresh_fact : (j : Journal) (now : ℕ) (fact : Fact) → refusal j now fact ≡ None → IsFresh (opened_in fact) j
fresh_fact j now (RequestFact number origin) free = tt
fresh_fact j now (Opened attempt proto addr port names) free = (started_of j attempt (opened_pending j now attempt proto addr port names free)).going
fresh_fact j now (Failed attempt) free = tt
fresh_fact j now (Closed conn) free = tt
fresh_fact j now (Response request status age altsvc) free = tt
fresh_fact j now (Input conn bytes) free = tt
fresh_fact j now (Delivered conn head payload) free = tt
fresh_fact j now (Answer name ttl body) free = tt
fresh_fact j now Network free = tt
fresh_fact j now Tick free = tt
fresh_fact j now (Who origin) free = tt
fresh_fact j now Stats free = tt

fresh_step : (j : Journal) (now : ℕ) (fact : Fact) → refusal j now fact ≡ None → AreFresh j → AreFresh (step j now fact)
fresh_step j now (Input conn bytes) free h =
    fresh_follow (settled (with_fact j now (Input conn bytes)) now) now conn (deliveries now conn (octets_on j conn) bytes) (all_behind now conn (octets_on j conn) bytes)
    (fresh_settled j now (Happened now (Input conn bytes) true) (tt, h))
fresh_step j now fact free h =
    fresh_with (settled (with_fact j now fact) now) (answer_to (settled (with_fact j now fact) now) now fact)
    (fresh_settled j now (Happened now fact true) (fresh_fact j now fact free, h))

all_fresh : {j : Journal} → IsRun j → AreFresh j
all_fresh RunBegun = tt
all_fresh (Stepped j now fact is free) = fresh_step j now fact free (all_fresh is)

fresh_below : (later older : Journal) → AreFresh (later ++ older) → AreFresh older
fresh_below [] older h = h
fresh_below (entry ∷ later) older h = fresh_below later older h.1

-- an attempt that has ended has ended in a longer journal
ended_above : (between base : Journal) (n : ℕ) → has_ended base n ≡ true → has_ended (between ++ base) n ≡ true
ended_above [] base n h = h
ended_above (entry ∷ between) base n h = or_right _ _ (ended_above between base n h)

-- no connection is opened twice
never_again : (between base : Journal) (n : ℕ) → AreFresh (between ++ base) → has_ended base n ≡ true → list_any (opens n) between ≡ false
never_again [] base n fresh ended = refl
never_again (entry ∷ between) base n fresh ended = rw (by_opened (of_fact opened_in entry) fresh.0) (never_again between base n fresh.1 ended)
  where
    by_test : (a : ℕ) (b : Bool) → nat_eq a n ≡ b → has_ended (between ++ base) a ≡ false → b ≡ false
    by_test a true same going = contradicts (has_ended (between ++ base) n) (ended_above between base n ended) (subst (λ m. has_ended (between ++ base) m ≡ false) (true_eq a n same) going)
    by_test a false same going = refl

    by_opened : (w : Option ℕ) → IsFresh w (between ++ base) → option_map_or (λ m. nat_eq m n) w false ≡ false
    by_opened None h = refl
    by_opened (Some a) h = by_test a (nat_eq a n) refl h

-- a misdirected connection stays so, where nothing lists the origin

one_more : (e : Entry) (older : Journal) (c : Connection) (o : Origin) → is_misdirected older c o ≡ true → opens c.number e ≡ false → lists_on c o e ≡ false → is_misdirected (e ∷ older) c o ≡ true
one_more (Happened m (RequestFact number origin) b) older c o k no_open no_list = or_right (turns_away older c.number o (RequestFact number origin)) (is_misdirected older c o) k
one_more (Happened m (Opened attempt proto addr port names) b) older c o k no_open no_list = rw (no_open, k) refl
one_more (Happened m (Failed attempt) b) older c o k no_open no_list = or_right (turns_away older c.number o (Failed attempt)) (is_misdirected older c o) k
one_more (Happened m (Closed conn) b) older c o k no_open no_list = or_right (turns_away older c.number o (Closed conn)) (is_misdirected older c o) k
one_more (Happened m (Response request status age altsvc) b) older c o k no_open no_list = or_right (turns_away older c.number o (Response request status age altsvc)) (is_misdirected older c o) k
one_more (Happened m (Input conn bytes) b) older c o k no_open no_list = or_right (turns_away older c.number o (Input conn bytes)) (is_misdirected older c o) k
one_more (Happened m (Delivered conn head payload) b) older c o k no_open no_list = rw (no_list, k) refl
one_more (Happened m (Answer name ttl body) b) older c o k no_open no_list = or_right (turns_away older c.number o (Answer name ttl body)) (is_misdirected older c o) k
one_more (Happened m Network b) older c o k no_open no_list = or_right (turns_away older c.number o Network) (is_misdirected older c o) k
one_more (Happened m Tick b) older c o k no_open no_list = or_right (turns_away older c.number o Tick) (is_misdirected older c o) k
one_more (Happened m (Who origin) b) older c o k no_open no_list = or_right (turns_away older c.number o (Who origin)) (is_misdirected older c o) k
one_more (Happened m Stats b) older c o k no_open no_list = or_right (turns_away older c.number o Stats) (is_misdirected older c o) k
one_more (Cut m conn count) older c o k no_open no_list = k
one_more (Taken act) older c o k no_open no_list = k

stays : (between base : Journal) (c : Connection) (o : Origin) → is_misdirected base c o ≡ true → list_any (opens c.number) between ≡ false → list_any (lists_on c o) between ≡ false → is_misdirected (between ++ base) c o ≡ true
stays [] base c o h opened listed = h
stays (entry ∷ between) base c o h opened listed =
    let no_open = neither (opens c.number entry) (list_any (opens c.number) between) opened in
    let no_list = neither (lists_on c o entry) (list_any (lists_on c o) between) listed in
    one_more entry (between ++ base) c o (stays between base c o h no_open.1 no_list.1) no_open.0 no_list.0

-- the answer misdirects

asked_for : (j : Journal) (q : ℕ) (o : Origin) → outstanding_origin j q ≡ Some o → asks_for j o q ≡ true
asked_for j q o e = by_out (is_out (standing j q)) e
  where
    by_found : (w : Option Request) → option_map (λ (r : Request). r.origin) w ≡ Some o → option_map_or (λ (r : Request). origin_eq r.origin o) w false ≡ true
    by_found None e = cc
    by_found (Some r) e = let same : r.origin ≡ o = ap (λ (w : Option Origin). option_map_or (λ x. x) w r.origin) e in subst (λ x. origin_eq x o ≡ true) (sym same) (origin_self o)

    by_out : (b : Bool) → cond b (option_map (λ (r : Request). r.origin) (request_of j q)) None ≡ Some o → asks_for j o q ≡ true
    by_out true e = by_found (request_of j q) e
    by_out false e = cc

or_left_true : (b c : Bool) → b ≡ true → (b || c) ≡ true
or_left_true true c e = refl
or_left_true false c e = absurd (true≢false (sym e))

and_true : (b c : Bool) → b ≡ true → c ≡ true → (b && c) ≡ true
and_true true c p q = q
and_true false c p q = p

misdirects : (older : History) (now asked : ℕ) (c : Connection) (o : Origin) → IsMisdirected older asked c.number o → is_misdirected (answered older now asked) c o ≡ true
misdirects older now asked c o was =
    or_left_true (is_one_of asked (outstanding (journal_of older) c.number) && asks_for (journal_of older) o asked) _
    (and_true (is_one_of asked (outstanding (journal_of older) c.number)) (asks_for (journal_of older) o asked) was.carried (asked_for (journal_of older) asked o was.asked))

used : (j : Journal) (asked n : ℕ) → Sound j → is_one_of asked (outstanding j n) ≡ true → has_ended j n ≡ true
used j asked n sound out = by_test (has_ended j n) refl
  where
    by_test : (b : Bool) → has_ended j n ≡ b → b ≡ true
    by_test true e = refl
    by_test false e = absurd (true≢false (sym out ∙ ap (is_one_of asked) (sound.unused n e).0))

-- what authority says
not_misdirected : (j : Journal) (c : Connection) (o : Origin) (now : ℕ) → is_authoritative j c o now ≡ true → is_misdirected j c o ≡ false
not_misdirected j c o now h = by_tests (is_open j c) (is_misdirected j c o) _ h
  where
    by_tests : (b m d : Bool) → (b && (not m && d)) ≡ true → m ≡ false
    by_tests true false d e = refl
    by_tests true true d e = absurd (true≢false (sym e))
    by_tests false m d e = absurd (true≢false (sym e))

for_origin : (w : Option Request) (r : Request) (o : Origin) → w ≡ Some r → option_map_or (λ (q : Request). origin_eq q.origin o) w false ≡ true → r.origin ≡ o
for_origin w r o is e = true_origin r.origin o (subst (λ x. option_map_or (λ (q : Request). origin_eq q.origin o) x false ≡ true) is e)

pub until_listed : {h : History} (older : History) (now asked conn request : ℕ) (o : Origin) (stream : Option ℕ) (alt_used : Option (Host × ℕ)) (later between : Journal) (c : Connection)
    → IsHistory h → IsHistory older → IsMisdirected older asked conn o
    → journal_of h ≡ later ++ Taken (SendOn request conn stream alt_used) ∷ (between ++ answered older now asked)
    → is_for (between ++ answered older now asked) o request ≡ true → connection_of (between ++ answered older now asked) conn ≡ Some c
    → list_any (lists_on c o) between ≡ true
until_listed {h} older now asked conn request o stream alt_used later between c is was_history was split for_it made = by_test (list_any (lists_on c o) between) refl
  where
    before : Journal
    before = between ++ answered older now asked

    may : MaySend before request conn
    may = allowed_at (journal_of h) later before (SendOn request conn stream alt_used) (runs is) split

    number : c.number ≡ conn
    number = true_eq c.number conn (find_in (λ (x : Connection). nat_eq x.number conn) (connections before) c made).1

    same_connection : may.connection ≡ c
    same_connection = ap (λ (w : Option Connection). option_map_or (λ x. x) w may.connection) (sym may.made ∙ made)

    same_origin : may.request.origin ≡ o
    same_origin = for_origin (request_of before request) may.request o may.asked for_it

    authority : is_misdirected before c o ≡ false
    authority = not_misdirected before c o (newest_moment before)
        (subst (λ x. is_authoritative before x o (newest_moment before) ≡ true) same_connection
        (subst (λ p. is_authoritative before may.connection p (newest_moment before) ≡ true) same_origin may.authoritative))

    misdirected : IsMisdirected older asked c.number o
    misdirected = subst (λ n. IsMisdirected older asked n o) (sym number) was

    fresh : AreFresh before
    fresh = (fresh_below later (Taken (SendOn request conn stream alt_used) ∷ before) (subst AreFresh split (all_fresh (runs is)))).1

    ended : has_ended (answered older now asked) c.number ≡ true
    ended = used (journal_of older) asked c.number (each (runs was_history)).sound misdirected.carried

    by_test : (b : Bool) → list_any (lists_on c o) between ≡ b → b ≡ true
    by_test true e = refl
    by_test false e = contradicts (is_misdirected before c o) (stays between (answered older now asked) c o (misdirects older now asked c o misdirected) (never_again between (answered older now asked) c.number fresh ended) e) authority

-- the history below an event
pub below_it : (newer older : History) (entry : ℕ × Event) → IsHistory (newer ++ entry ∷ older) → IsHistory older
below_it [] older entry is = tail is
  where
    tail : {e : ℕ × Event} {g : History} → IsHistory (e ∷ g) → IsHistory g
    tail (Later g now event is form free) = is
below_it (e ∷ newer) older entry is = below_it newer older entry (tail is)
  where
    tail : {e : ℕ × Event} {g : History} → IsHistory (e ∷ g) → IsHistory g
    tail (Later g now event is form free) = is
