-- What a delivery can bring.
use Rattle.std.proofs.Common.{◌≡◌, ℕ, ◌+◌, Bool, true, false, cond, not, ◌||◌, nat_eq, List, [], ◌∷◌, ◌++◌, length, Option, Some, None, Result, Ok, Err, Any, filter, refl, ap, sym, ◌∙◌, subst, true≢false}
use Rattle.std.specs.List.{list_any}
use Rattle.std.specs.Option.{option_map, option_map_or}
use Rattle.alt_base.specs.declared.refusal.At.{At}
use Rattle.origin_values.specs.Equality.{origin_eq}
use Rattle.origin_values.specs.declared.origin.Origin.{Origin}
use Rattle.origin_values.proofs.Equal.{true_origin}
use Rattle.altsvc_grammar.specs.declared.alt.Alt.{Alt}
use Rattle.altsvc_grammar.specs.declared.alt_svc.AltSvc.{AltSvc}
use Rattle.altsvc_grammar.specs.declared.alt_svc.AltSvc.TheVariants as value
use Rattle.altsvc_frame.specs.FrameReading.{read_frame}
use Rattle.origin_frame.specs.PayloadReading.{read_listed, Answer as Listing}
use Rattle.altsvc_frame.specs.declared.frame.AltFrame.{AltFrame}
use Rattle.advertiser_core.specs.Acts.{Act, Advertise as AdvertiseAct, offer_of}
use Rattle.advertiser_core.specs.Messages.{messages, numbered, origins_message, value_message, value_payload}
use Rattle.advertiser_core.specs.Refusals.{AreAccepted}
use Rattle.advertiser_core.specs.ServedList.{is_served, served_list}
use Rattle.advertiser_core.specs.declared.message.Message.{Message}
use Rattle.event_lines.specs.declared.event.Event.{Event}
use Rattle.event_lines.specs.declared.event.Event.TheVariants.{Server}
use Rattle.event_lines.specs.declared.server_act.ServerAct.{ServerAct}
use Rattle.event_lines.specs.declared.server_act.ServerAct.TheVariants.{Serve, Unserve, Offer, Withdraw, Announce, Deliver, Ask}
use Rattle.route_events.specs.declared.action.Action.{Action}
use Rattle.route_events.specs.declared.action.Action.TheVariants.{Alternatives, Ignored, Origins}
use Rattle.route_events.specs.declared.connection.Connection.{Connection}
use Rattle.route_events.specs.declared.fact.Fact.TheVariants.{Delivered}
use Rattle.route_events.specs.Alternatives.{alternatives_of, is_fresh, newest_age, live}
use Rattle.route_events.specs.Authority.{is_authoritative}
use Rattle.route_events.specs.Connections.{is_https, is_tls, open_connection}
use Rattle.route_events.specs.FrameAdvertisements.{value_action, reading_action, altsvc_action, listing_action, origin_action, frame_action, frame_effects, spoken_for}
use Rattle.route_events.specs.Journal.{Happened, Taken, Journal, newest_moment}
use Rattle.route_events.specs.Requests.{waiting}
use Rattle.route_events.specs.Step.{with_actions, settled, step, newest_actions}
use Rattle.route_events.proofs.Lists.{IsIn, in_filter, in_from_any, any_from_in}
use Rattle.both_ends.specs.ServerActs.{delivered, message_by, with_act}
use Rattle.both_ends.specs.Deliveries.{takes_for, Taking, last_taking, WasOffered}
use Rattle.both_ends.specs.Histories.{History, IsHistory, Begun, Later, acts_of, journal_of, told_by, after_told, actions_by, client_actions}
use Rattle.both_ends.proofs.MadeMessages.{WasMade, made_of, offered_where_served}
use Rattle.both_ends.proofs.Takings.{live_before, leaves_settled}

-- a payload that was advertised is read back
abbrev pub ReadsBack : Type 0
ReadsBack = (acts : List Act) (o : Origin) (v : AltSvc) → AreAccepted (AdvertiseAct o v ∷ acts) → read_frame 0 (value_payload o v) ≡ Ok (record { origin = Some o; value = v })

-- a value, and an alternative of it
pub record Brings (o : Origin) (a : Alt) (p : Origin) (v : AltSvc) : Type 0 where
  pub origin : p ≡ o
  pub listed : IsIn a (alternatives_of v)

-- the journal with a frame and its one action

abbrev framed_in : Journal → ℕ → ℕ → Message → Action → Journal
framed_in j now conn m act = Taken act ∷ Happened now (delivered conn m) true ∷ j

-- what is live after it, where it takes a value for the origin
taken_in : (j : Journal) (now conn : ℕ) (m : Message) (act : Action) (o p : Origin) (v : AltSvc) (at : ℕ) (a : Alt) → act ≡ Alternatives p v → origin_eq p o ≡ true → IsIn a (live (framed_in j now conn m act) o at) → Brings o a p v
taken_in j now conn m act o p v at a is same i =
    let k = Happened now (delivered conn m) true ∷ j in
    let there : IsIn a (cond (origin_eq p o) (filter (is_fresh (newest_moment k) (newest_age k) at) (alternatives_of v)) (live k o at)) = subst (λ x. IsIn a (live (framed_in j now conn m x) o at)) is i in
    let fresh : IsIn a (filter (is_fresh (newest_moment k) (newest_age k) at) (alternatives_of v)) = subst (λ b. IsIn a (cond b (filter (is_fresh (newest_moment k) (newest_age k) at) (alternatives_of v)) (live k o at))) same there in
    record { origin = true_origin p o same; listed = (in_filter (is_fresh (newest_moment k) (newest_age k) at) a (alternatives_of v) fresh).0 }

-- the action of an ALTSVC frame that was advertised: where it takes a value for the origin, that is the frame's
record Takes (act : Action) (o p : Origin) (v : AltSvc) : Type 0 where
  pub is : act ≡ Alternatives p v
  pub same : origin_eq p o ≡ true

read_taken : (j : Journal) (now : ℕ) (c : Connection) (o p : Origin) (v : AltSvc) → read_frame 0 (value_payload p v) ≡ Ok (record { origin = Some p; value = v }) → takes_for o (altsvc_action j now c (value_message p v).head (value_payload p v)) ≡ true → Takes (altsvc_action j now c (value_message p v).head (value_payload p v)) o p v
read_taken j now c o p v read e = by_tls (is_tls c) e
  where
    by_tls : (tls : Bool) → takes_for o (cond (not tls) (Ignored c.number 10 10 0) (reading_action j now c 0 (read_frame 0 (value_payload p v)))) ≡ true → Takes (cond (not tls) (Ignored c.number 10 10 0) (reading_action j now c 0 (read_frame 0 (value_payload p v)))) o p v
    by_tls false e = absurd (true≢false (sym e))
    by_tls true e = subst (λ r. Takes (reading_action j now c 0 r) o p v) (sym read)
        (by_value (is_https p.scheme) (is_authoritative j c p now) (subst (λ r. takes_for o (reading_action j now c 0 r) ≡ true) read e))
      where
        by_value : (https authority : Bool) → takes_for o (cond (not https) (Ignored c.number 10 9 0) (cond (not authority) (Ignored c.number 10 7 0) (Alternatives p v))) ≡ true → Takes (cond (not https) (Ignored c.number 10 9 0) (cond (not authority) (Ignored c.number 10 7 0) (Alternatives p v))) o p v
        by_value false authority e = absurd (true≢false (sym e))
        by_value true false e = absurd (true≢false (sym e))
        by_value true true e = record { is = refl; same = e }

-- the effect of a delivered frame, by the open connection
abbrev effects_by : Journal → ℕ → Message → Option Connection → List Action
effects_by j now m w = option_map_or (frame_action j now m.head m.payload) w []

settled_takes : (j : Journal) (now conn : ℕ) (m : Message) (o : Origin) (w : Option Connection) → open_connection j conn ≡ w → list_any (takes_for o) (newest_actions (step j now (delivered conn m))) ≡ true
    → list_any (takes_for o) (newest_actions (with_actions (Happened now (delivered conn m) true ∷ j) (effects_by j now m w))) ≡ true
settled_takes j now conn m o w is takes =
    let k = with_actions (Happened now (delivered conn m) true ∷ j) (frame_effects j now conn m.head m.payload) in
    subst (λ x. list_any (takes_for o) (newest_actions (with_actions (Happened now (delivered conn m) true ∷ j) (effects_by j now m x))) ≡ true) is
    (sym (leaves_settled k o 0 now (waiting k)).taken ∙ takes)

settled_live : (j : Journal) (now conn : ℕ) (m : Message) (o : Origin) (at : ℕ) (a : Alt) (w : Option Connection) → open_connection j conn ≡ w → IsIn a (live (step j now (delivered conn m)) o at)
    → IsIn a (live (with_actions (Happened now (delivered conn m) true ∷ j) (effects_by j now m w)) o at)
settled_live j now conn m o at a w is i =
    let k = with_actions (Happened now (delivered conn m) true ∷ j) (frame_effects j now conn m.head m.payload) in
    subst (λ x. IsIn a (live (with_actions (Happened now (delivered conn m) true ∷ j) (effects_by j now m x)) o at)) is
    (subst (IsIn a) (leaves_settled k o at now (waiting k)).live_still i)

-- a test of one
only : (b : Bool) → (b || false) ≡ true → b ≡ true
only true e = refl
only false e = absurd (true≢false (sym e))

-- an ALTSVC frame that was advertised brings its own value
pub value_brings : (j : Journal) (now conn : ℕ) (o p : Origin) (v : AltSvc) (at : ℕ) (a : Alt) → read_frame 0 (value_payload p v) ≡ Ok (record { origin = Some p; value = v })
    → list_any (takes_for o) (newest_actions (step j now (delivered conn (value_message p v)))) ≡ true → IsIn a (live (step j now (delivered conn (value_message p v))) o at) → Brings o a p v
value_brings j now conn o p v at a read takes i = by_open (open_connection j conn) refl
  where
    by_open : (w : Option Connection) → open_connection j conn ≡ w → Brings o a p v
    by_open None is = absurd (true≢false (sym (settled_takes j now conn (value_message p v) o None is takes)))
    by_open (Some c) is =
        let act = altsvc_action j now c (value_message p v).head (value_payload p v) in
        let one = read_taken j now c o p v read (only (takes_for o act) (settled_takes j now conn (value_message p v) o (Some c) is takes)) in
        taken_in j now conn (value_message p v) act o p v at a one.is one.same (settled_live j now conn (value_message p v) o at a (Some c) is i)

-- an ORIGIN frame brings none
pub origins_bring_none : (j : Journal) (now conn : ℕ) (o : Origin) (listed : List Origin) (A : Type 0) → list_any (takes_for o) (newest_actions (step j now (delivered conn (origins_message listed)))) ≡ true → A
origins_bring_none j now conn o listed A takes = by_open (open_connection j conn) refl
  where
    m : Message
    m = origins_message listed

    by_answer : (c : Connection) (r : Listing) → takes_for o (listing_action c r) ≡ true → A
    by_answer c (Ok found) e = absurd (true≢false (sym e))
    by_answer c (Err at) e = absurd (true≢false (sym e))

    by_tls : (c : Connection) (tls : Bool) → takes_for o (cond (not tls) (Ignored c.number 12 10 0) (listing_action c (read_listed m.head.stream m.head.flags m.payload))) ≡ true → A
    by_tls c false e = absurd (true≢false (sym e))
    by_tls c true e = by_answer c _ e

    by_open : (w : Option Connection) → open_connection j conn ≡ w → A
    by_open None is = absurd (true≢false (sym (settled_takes j now conn m o None is takes)))
    by_open (Some c) is = by_tls c (is_tls c) (only (takes_for o (origin_action c m.head m.payload)) (settled_takes j now conn m o (Some c) is takes))

-- the message that was delivered, by the act that made it

not_made : {A : Type 0} (by : ServerAct → Option Message) (made act : ServerAct) (m : Message) → made ≡ act → by made ≡ Some m → by act ≡ None → A
not_made {A = A} by made act m is e none = no_some (sym none ∙ ap by (sym is) ∙ e)
  where
    no_some : None ≡ Some m → A
    no_some e = cc

some_is : {X : Type 0} (x y : X) → Some x ≡ Some y → x ≡ y
some_is x y e = ap (λ w. option_map_or (λ z. z) w x) e

by_act : (h : History) (n : ℕ) (m : Message) (was : WasMade h n m) (j : Journal) (now conn : ℕ) (o : Origin) (at : ℕ) (a : Alt) → ReadsBack
    → list_any (takes_for o) (newest_actions (step j now (delivered conn m))) ≡ true → IsIn a (live (step j now (delivered conn m)) o at)
    → (act : ServerAct) → was.act ≡ act → WasOffered h n o a
by_act h n m was j now conn o at a reads takes i (Offer p alts) is =
    let accepts = subst (λ x. AreAccepted (with_act x (acts_of was.before))) is was.accepts in
    let same : value_message p (value.List alts) ≡ m = some_is _ _ (ap (message_by (acts_of was.before)) (sym is) ∙ was.made) in
    let brings = value_brings j now conn o p (value.List alts) at a (reads (acts_of was.before) p (value.List alts) accepts)
    (subst (λ x. list_any (takes_for o) (newest_actions (step j now (delivered conn x))) ≡ true) (sym same) takes)
    (subst (λ x. IsIn a (live (step j now (delivered conn x)) o at)) (sym same) i) in
    record {
      newer = was.newer;
      before = was.before;
      now = was.now;
      alts = alts;
      split = was.split ∙ ap (λ x. was.newer ++ (was.now, Server x) ∷ was.before) (is ∙ ap (λ q. Offer q alts) brings.origin);
      counted = was.counted;
      served = subst (λ q. is_served (acts_of was.before) q ≡ true) brings.origin (offered_where_served (acts_of was.before) p alts accepts);
      listed = any_from_in (λ b. b ≡ a) a alts brings.listed refl;
    }
by_act h n m was j now conn o at a reads takes i (Withdraw p) is =
    let accepts = subst (λ x. AreAccepted (with_act x (acts_of was.before))) is was.accepts in
    let same : value_message p value.Clear ≡ m = some_is _ _ (ap (message_by (acts_of was.before)) (sym is) ∙ was.made) in
    let brings = value_brings j now conn o p value.Clear at a (reads (acts_of was.before) p value.Clear accepts)
    (subst (λ x. list_any (takes_for o) (newest_actions (step j now (delivered conn x))) ≡ true) (sym same) takes)
    (subst (λ x. IsIn a (live (step j now (delivered conn x)) o at)) (sym same) i) in
    absurd brings.listed
by_act h n m was j now conn o at a reads takes i Announce is =
    let same : origins_message (served_list (acts_of was.before)) ≡ m = some_is _ _ (ap (message_by (acts_of was.before)) (sym is) ∙ was.made) in
    origins_bring_none j now conn o (served_list (acts_of was.before)) _ (subst (λ x. list_any (takes_for o) (newest_actions (step j now (delivered conn x))) ≡ true) (sym same) takes)
by_act h n m was j now conn o at a reads takes i (Serve p) is = not_made (message_by (acts_of was.before)) was.act (Serve p) m is was.made refl
by_act h n m was j now conn o at a reads takes i (Unserve p) is = not_made (message_by (acts_of was.before)) was.act (Unserve p) m is was.made refl
by_act h n m was j now conn o at a reads takes i (Deliver k c) is = not_made (message_by (acts_of was.before)) was.act (Deliver k c) m is was.made refl
by_act h n m was j now conn o at a reads takes i (Ask q) is = not_made (message_by (acts_of was.before)) was.act (Ask q) m is was.made refl

-- a delivery that brings a live alternative
at_delivery : {h : History} (now message conn : ℕ) (o : Origin) (at : ℕ) (a : Alt) → IsHistory h → ReadsBack
    → list_any (takes_for o) (client_actions h now (Server (Deliver message conn))) ≡ true → IsIn a (live (journal_of ((now, Server (Deliver message conn)) ∷ h)) o at) → WasOffered h message o a
at_delivery {h} now message conn o at a is reads takes i = by_message (numbered (messages (acts_of h)) message) refl takes i
  where
    by_message : (w : Option Message) → numbered (messages (acts_of h)) message ≡ w → list_any (takes_for o) (actions_by (journal_of h) now (option_map (delivered conn) w)) ≡ true
        → IsIn a (live (after_told (journal_of h) now (option_map (delivered conn) w)) o at) → WasOffered h message o a
    by_message None e takes i = absurd (true≢false (sym takes))
    by_message (Some m) e takes i = let was = made_of is message m e in by_act h message m was (journal_of h) now conn o at a reads takes i was.act refl

abbrev taking : ℕ → ℕ → ℕ → History → Taking
taking now message conn older = record { now = now; event = Server (Deliver message conn); older = older }

-- at the newest event, or at one before it
newest_or_older : {h : History} (older : History) (o : Origin) (a : Alt) (now at message conn t : ℕ) (event : Event) → ReadsBack → IsHistory h → IsIn a (live (journal_of ((t, event) ∷ h)) o at)
    → (last_taking h o ≡ Some (taking now message conn older) → IsIn a (live (journal_of h) o at) → WasOffered older message o a)
    → (b : Bool) → list_any (takes_for o) (client_actions h t event) ≡ b
    → cond b (Some (record { now = t; event = event; older = h })) (last_taking h o) ≡ Some (taking now message conn older) → WasOffered older message o a
newest_or_older {h} older o a now at message conn t event reads is i before true takes e =
    let same_event : event ≡ Server (Deliver message conn) = ap (λ (w : Option Taking). option_map_or (λ (x : Taking). x.event) w event) e in
    let same_older : h ≡ older = ap (λ (w : Option Taking). option_map_or (λ (x : Taking). x.older) w h) e in
    subst (λ g. WasOffered g message o a) same_older
    (at_delivery t message conn o at a is reads
    (subst (λ ev. list_any (takes_for o) (client_actions h t ev) ≡ true) same_event takes)
    (subst (λ ev. IsIn a (live (journal_of ((t, ev) ∷ h)) o at)) same_event i))
newest_or_older {h} older o a now at message conn t event reads is i before false takes e =
    before e (live_before (journal_of h) t (told_by (acts_of h) (journal_of h) event) o at a takes i)

pub live_by_delivery : {h : History} (older : History) (o : Origin) (a : Alt) (now at message conn : ℕ) → ReadsBack → IsHistory h
    → last_taking h o ≡ Some (taking now message conn older) → IsIn a (live (journal_of h) o at) → WasOffered older message o a
live_by_delivery older o a now at message conn reads Begun taken i = cc
live_by_delivery older o a now at message conn reads (Later h t event is form free) taken i =
    newest_or_older older o a now at message conn t event reads is i (live_by_delivery older o a now at message conn reads is)
    (list_any (takes_for o) (client_actions h t event)) refl taken
