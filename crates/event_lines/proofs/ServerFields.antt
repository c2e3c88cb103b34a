-- The fields of each kind of the server's against the grammar.
use Rattle.std.proofs.Common.{◌≡◌, ℕ, ◌+◌, Bool, true, false, cond, List, [], ◌∷◌, ◌++◌, length, codes, Option, Some, None, append-nil, refl, ap, sym, ◌∙◌, subst}
use Rattle.origin_values.specs.declared.origin.Origin.{Origin}
use Rattle.altsvc_grammar.specs.declared.alt.Alt.{Alt}
use Rattle.event_lines.specs.Fields.{number_of, origin_of}
use Rattle.event_lines.specs.Limits.{most_short, most_long}
use Rattle.event_lines.specs.Parts.{Part, Reading, ◌>>=◌, value_or, field, refused, is_kind}
use Rattle.event_lines.specs.LineGrammar.{SpellsKind}
use Rattle.event_lines.specs.LineRefusals.{EndsWord}
use Rattle.event_lines.specs.ServerLines.{SpellsAlts, SpellsOriginAct, SpellsOffer, SpellsDeliver, SpellsAsk}
use Rattle.event_lines.specs.ServerReading.{alts_of, alts_reading, origin_fields, offer_fields, deliver_fields, ask_fields, server_reading}
use Rattle.event_lines.specs.WordGrammar.{NoSpace, AreApart, spaced}
use Rattle.event_lines.specs.declared.event.Event.{Event}
use Rattle.event_lines.specs.declared.event.Event.TheVariants.{Server}
use Rattle.event_lines.specs.declared.refusal.LineRefusal.TheVariants.{UnknownKind, BadField}
use Rattle.event_lines.specs.declared.server_act.ServerAct.{ServerAct}
use Rattle.event_lines.specs.declared.server_act.ServerAct.TheVariants.{Serve, Unserve, Offer, Withdraw, Announce, Deliver, Ask}
use Rattle.event_lines.proofs.FieldReads.{part, got, text_of, field_reads, field_found, joined_last, joined, behind_kind, kind_named, kind_alone}
use Rattle.event_lines.proofs.FieldTexts.{origin_field_sound}
use Rattle.event_lines.proofs.NumberTexts.{number_sound}
use Rattle.event_lines.proofs.Refusals.{got_parts}
use Rattle.event_lines.proofs.ServerValues.{alts_sound}

abbrev act_origin : (Origin → ServerAct) → Origin × Part → Reading Event
act_origin act o = got (Server (act o.0)) o.1

abbrev offer_alts : Origin → List Alt × Part → Reading Event
offer_alts origin a = got (Server (Offer origin a.0)) a.1

abbrev offer_origin : Origin × Part → Reading Event
offer_origin o = alts_reading o.1 >>= offer_alts o.0

abbrev deliver_conn : ℕ → ℕ × Part → Reading Event
deliver_conn message c = got (Server (Deliver message c.0)) c.1

abbrev deliver_message : ℕ × Part → Reading Event
deliver_message m = field (number_of most_long) m.1 >>= deliver_conn m.0

abbrev ask_request : ℕ × Part → Reading Event
ask_request q = got (Server (Ask q.0)) q.1

-- the fields that are spelled are read
pub origin_act_complete : (act : Origin → ServerAct) (o : List ℕ) (origin : Origin) (place : ℕ) → NoSpace o → origin_of o ≡ Some origin
    → origin_fields act (part (spaced (o ∷ [])) place) ≡ got (Server (act origin)) (part [] (place + 1 + length o))
origin_act_complete act o origin place apart is_origin = field_reads origin_of (act_origin act) o [] place origin apart is_origin

alts_reads : (origin : Origin) (v : List ℕ) (alts : List Alt) (place : ℕ) → alts_of v ≡ Some alts
    → (alts_reading (part (spaced (v ∷ [])) place) >>= offer_alts origin) ≡ got (Server (Offer origin alts)) (part [] (place + 1 + length (v ++ [])))
alts_reads origin v alts place is_alts =
    ap (λ (o : Option (List Alt)). (value_or BadField (place + 1) o >>= λ (a : List Alt). got a (part [] (place + 1 + length (v ++ [])))) >>= offer_alts origin) (ap alts_of (append-nil v) ∙ is_alts)

pub offer_complete : (o v : List ℕ) (origin : Origin) (alts : List Alt) (place : ℕ) → NoSpace o → origin_of o ≡ Some origin → alts_of v ≡ Some alts
    → offer_fields (part (spaced (o ∷ v ∷ [])) place) ≡ got (Server (Offer origin alts)) (part [] (place + 1 + length o + 1 + length (v ++ [])))
offer_complete o v origin alts place apart is_origin is_alts =
    field_reads origin_of offer_origin o (v ∷ []) place origin apart is_origin ∙ alts_reads origin v alts (place + 1 + length o) is_alts

pub deliver_complete : (m c : List ℕ) (message conn : ℕ) (place : ℕ) → AreApart (m ∷ c ∷ []) → number_of most_short m ≡ Some message → number_of most_long c ≡ Some conn
    → deliver_fields (part (spaced (m ∷ c ∷ [])) place) ≡ got (Server (Deliver message conn)) (part [] (place + 1 + length m + 1 + length c))
deliver_complete m c message conn place apart is_message is_conn =
    field_reads (number_of most_short) deliver_message m (c ∷ []) place message apart.0 is_message
    ∙ field_reads (number_of most_long) (deliver_conn message) c [] (place + 1 + length m) conn apart.1.0 is_conn

pub ask_complete : (q : List ℕ) (request : ℕ) (place : ℕ) → NoSpace q → number_of most_short q ≡ Some request → ask_fields (part (spaced (q ∷ [])) place) ≡ got (Server (Ask request)) (part [] (place + 1 + length q))
ask_complete q request place apart is_request = field_reads (number_of most_short) ask_request q [] place request apart is_request

-- what is read of a kind's fields is spelled so
origin_act_sound : (act : Origin → ServerAct) (kind text whole : List ℕ) (place : ℕ) (event : Event) (left : Part) → ((o : Origin) → SpellsOriginAct kind whole o → SpellsKind whole (Server (act o)))
    → whole ≡ 32 ∷ (kind ++ text) → EndsWord text → origin_fields act (part text place) ≡ got event left → left.text ≡ [] → SpellsKind whole event
origin_act_sound act kind text whole place event left as_kind is ends h none =
    let f = field_found origin_of (act_origin act) text place (event, left) ends h in
    let last = got_parts (Server (act f.value)) event (part f.behind (place + 1 + length f.word)) left f.then_is in
    let spells : SpellsOriginAct kind whole f.value = record {
      origin_text = f.word;
      spelled = behind_kind kind text whole (f.word ∷ []) is (joined_last text f.word f.behind f.is_next (ap text_of last.1 ∙ none));
      apart = f.is_next.apart;
      of_origin = origin_field_sound f.word f.value f.is_read;
    } in
    subst (SpellsKind whole) last.0 (as_kind f.value spells)

record AltsFound (origin : Origin) (text : List ℕ) (event : Event) : Type 0 where
  value : List ℕ
  alts : List Alt
  spelled : text ≡ spaced (value ∷ [])
  of_value : SpellsAlts value alts
  same : Server (Offer origin alts) ≡ event

alts_found : (origin : Origin) (text : List ℕ) (place : ℕ) (event : Event) (left : Part) → EndsWord text → (alts_reading (part text place) >>= offer_alts origin) ≡ got event left → AltsFound origin text event
alts_found origin [] place event left ends h = cc
alts_found origin (b ∷ bs) place event left ends h = go (alts_of bs) refl h
  where
    go : (o : Option (List Alt)) → alts_of bs ≡ o → ((value_or BadField (place + 1) o >>= λ (a : List Alt). got a (part [] (place + 1 + length bs))) >>= offer_alts origin) ≡ got event left → AltsFound origin (b ∷ bs) event
    go None is e = cc
    go (Some alts) is e = record {
      value = bs;
      alts = alts;
      spelled = ap (λ c. c ∷ bs) ends ∙ ap (λ t. 32 ∷ t) (sym (append-nil bs));
      of_value = alts_sound bs alts is;
      same = (got_parts (Server (Offer origin alts)) event (part [] (place + 1 + length bs)) left e).0;
    }

offer_sound : (text whole : List ℕ) (place : ℕ) (event : Event) (left : Part) → whole ≡ 32 ∷ (codes "offer" ++ text) → EndsWord text → offer_fields (part text place) ≡ got event left → SpellsKind whole event
offer_sound text whole place event left is ends h =
    let f = field_found origin_of offer_origin text place (event, left) ends h in
    let a = alts_found f.value f.behind (place + 1 + length f.word) event left f.is_next.end f.then_is in
    let spells : SpellsOffer whole f.value a.alts = record {
      origin_text = f.word;
      value_text = a.value;
      spelled = behind_kind (codes "offer") text whole (f.word ∷ a.value ∷ []) is (joined text f.word f.behind (a.value ∷ []) f.is_next a.spelled);
      apart = f.is_next.apart;
      of_origin = origin_field_sound f.word f.value f.is_read;
      of_value = a.of_value;
    } in
    subst (SpellsKind whole) a.same spells

deliver_sound : (text whole : List ℕ) (place : ℕ) (event : Event) (left : Part) → whole ≡ 32 ∷ (codes "deliver" ++ text) → EndsWord text → deliver_fields (part text place) ≡ got event left → left.text ≡ [] → SpellsKind whole event
deliver_sound text whole place event left is ends h none =
    let f = field_found (number_of most_short) deliver_message text place (event, left) ends h in
    let g = field_found (number_of most_long) (deliver_conn f.value) f.behind (place + 1 + length f.word) (event, left) f.is_next.end f.then_is in
    let last = got_parts (Server (Deliver f.value g.value)) event (part g.behind (place + 1 + length f.word + 1 + length g.word)) left g.then_is in
    let spells : SpellsDeliver whole f.value g.value = record {
      message_text = f.word;
      conn_text = g.word;
      spelled = behind_kind (codes "deliver") text whole (f.word ∷ g.word ∷ []) is
          (joined text f.word f.behind (g.word ∷ []) f.is_next (joined_last f.behind g.word g.behind g.is_next (ap text_of last.1 ∙ none)));
      apart = (f.is_next.apart, (g.is_next.apart, tt));
      of_message = number_sound most_short f.word f.value f.is_read;
      of_conn = number_sound most_long g.word g.value g.is_read;
    } in
    subst (SpellsKind whole) last.0 spells

ask_sound : (text whole : List ℕ) (place : ℕ) (event : Event) (left : Part) → whole ≡ 32 ∷ (codes "ask" ++ text) → EndsWord text → ask_fields (part text place) ≡ got event left → left.text ≡ [] → SpellsKind whole event
ask_sound text whole place event left is ends h none =
    let f = field_found (number_of most_short) ask_request text place (event, left) ends h in
    let last = got_parts (Server (Ask f.value)) event (part f.behind (place + 1 + length f.word)) left f.then_is in
    let spells : SpellsAsk whole f.value = record {
      number_text = f.word;
      spelled = behind_kind (codes "ask") text whole (f.word ∷ []) is (joined_last text f.word f.behind f.is_next (ap text_of last.1 ∙ none));
      apart = f.is_next.apart;
      of_number = number_sound most_short f.word f.value f.is_read;
    } in
    subst (SpellsKind whole) last.0 spells

-- what is read of a kind of the server's, up to the end of the line
pub server_sound : (name text whole : List ℕ) (p q : ℕ) (event : Event) (left : Part) → whole ≡ 32 ∷ (name ++ text) → EndsWord text → server_reading (part name p) (part text q) ≡ got event left → left.text ≡ []
    → SpellsKind whole event
server_sound name text whole p q event left is ends h none =
    go (is_kind name (codes "serve")) (is_kind name (codes "unserve")) (is_kind name (codes "offer")) (is_kind name (codes "withdraw")) (is_kind name (codes "announce")) (is_kind name (codes "deliver")) (is_kind name (codes "ask"))
    refl refl refl refl refl refl refl h
  where
    clash : refused {A = Event × Part} p UnknownKind ≡ got event left → ⊥
    clash e = cc

    named : (kind : List ℕ) → is_kind name kind ≡ true → whole ≡ 32 ∷ (kind ++ text)
    named kind t = kind_named name kind text whole is t

    go : (s u o w a d k : Bool) → is_kind name (codes "serve") ≡ s → is_kind name (codes "unserve") ≡ u → is_kind name (codes "offer") ≡ o → is_kind name (codes "withdraw") ≡ w → is_kind name (codes "announce") ≡ a
        → is_kind name (codes "deliver") ≡ d → is_kind name (codes "ask") ≡ k
        → cond s (origin_fields (λ origin. Serve origin) (part text q)) (cond u (origin_fields (λ origin. Unserve origin) (part text q)) (cond o (offer_fields (part text q)) (cond w (origin_fields (λ origin. Withdraw origin) (part text q))
        (cond a (got (Server Announce) (part text q)) (cond d (deliver_fields (part text q)) (cond k (ask_fields (part text q)) (refused p UnknownKind)))))))
        ≡ got event left → SpellsKind whole event
    go true u o w a d k is_s is_u is_o is_w is_a is_d is_k e = origin_act_sound (λ origin. Serve origin) (codes "serve") text whole q event left (λ o s. s) (named (codes "serve") is_s) ends e none
    go false true o w a d k is_s is_u is_o is_w is_a is_d is_k e = origin_act_sound (λ origin. Unserve origin) (codes "unserve") text whole q event left (λ o s. s) (named (codes "unserve") is_u) ends e none
    go false false true w a d k is_s is_u is_o is_w is_a is_d is_k e = offer_sound text whole q event left (named (codes "offer") is_o) ends e
    go false false false true a d k is_s is_u is_o is_w is_a is_d is_k e = origin_act_sound (λ origin. Withdraw origin) (codes "withdraw") text whole q event left (λ o s. s) (named (codes "withdraw") is_w) ends e none
    go false false false false true d k is_s is_u is_o is_w is_a is_d is_k e = kind_alone (codes "announce") text whole (Server Announce) event q left (λ s. s) (named (codes "announce") is_a) e none
    go false false false false false true k is_s is_u is_o is_w is_a is_d is_k e = deliver_sound text whole q event left (named (codes "deliver") is_d) ends e none
    go false false false false false false true is_s is_u is_o is_w is_a is_d is_k e = ask_sound text whole q event left (named (codes "ask") is_k) ends e none
    go false false false false false false false is_s is_u is_o is_w is_a is_d is_k e = absurd (clash e)
