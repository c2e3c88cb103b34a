-- Each kind of the server's is refused where its fields' forms are.
use Rattle.std.proofs.Common.{◌≡◌, ℕ, nat_eq, List, codes, Ok, Err, refl}
use Rattle.std.specs.Cmp.Lexicographic.{pointwise}
use Rattle.origin_values.specs.declared.origin.Origin.{Origin}
use Rattle.altsvc_grammar.specs.declared.alt.Alt.{Alt}
use Rattle.event_lines.specs.Fields.{number_of, origin_of}
use Rattle.event_lines.specs.Limits.{most_short, most_long}
use Rattle.event_lines.specs.Parts.{Part, Reading, ◌>>=◌, field, refused}
use Rattle.event_lines.specs.LineReading.{end_reading}
use Rattle.event_lines.specs.LineRefusals.{OfNumber, OfOrigin, NoMore, Then, ValueToEnd, server_kinds}
use Rattle.event_lines.specs.ServerReading.{alts_reading, origin_fields, offer_fields, deliver_fields, ask_fields, server_reading}
use Rattle.event_lines.specs.declared.event.Event.TheVariants.{Server}
use Rattle.event_lines.specs.declared.refusal.LineRefusal.TheVariants.{UnknownKind}
use Rattle.event_lines.specs.declared.server_act.ServerAct.{ServerAct}
use Rattle.event_lines.specs.declared.server_act.ServerAct.TheVariants.{Serve, Unserve, Offer, Withdraw, Announce, Deliver, Ask}
use Rattle.event_lines.proofs.ServerValues.{pass_value}
use Rattle.event_lines.proofs.Skeleton.{pass_fields, ended, ended_field, says, choice, pass_kind}

origin_passes : (act : Origin → ServerAct) (rest : Part) → ended (origin_fields act rest) ≡ pass_fields (Then OfOrigin NoMore) rest
origin_passes act rest = ended_field OfOrigin origin_of (λ (o : Origin × Part). says (Server (act o.0)) o.1) NoMore rest (λ word. refl) λ origin end. refl

value_passes : (origin : Origin) (rest : Part) → ended (alts_reading rest >>= λ (a : List Alt × Part). says (Server (Offer origin a.0)) a.1) ≡ pass_value rest
value_passes origin rest = go (alts_reading rest)
  where
    go : (r : Reading (List Alt)) → ended (r >>= λ (a : List Alt × Part). says (Server (Offer origin a.0)) a.1) ≡ (r >>= λ (a : List Alt × Part). end_reading a.1)
    go (Ok alts) = refl
    go (Err at) = refl

offer_passes : (rest : Part) → ended (offer_fields rest) ≡ pass_fields (Then OfOrigin ValueToEnd) rest
offer_passes rest =
    ended_field OfOrigin origin_of (λ (o : Origin × Part). alts_reading o.1 >>= λ (a : List Alt × Part). says (Server (Offer o.0 a.0)) a.1) ValueToEnd rest (λ word. refl) λ origin left. value_passes origin left

deliver_passes : (rest : Part) → ended (deliver_fields rest) ≡ pass_fields (Then (OfNumber most_short) (Then (OfNumber most_long) NoMore)) rest
deliver_passes rest =
    ended_field (OfNumber most_short) (number_of most_short) (λ (m : ℕ × Part). field (number_of most_long) m.1 >>= λ (c : ℕ × Part). says (Server (Deliver m.0 c.0)) c.1) (Then (OfNumber most_long) NoMore) rest (λ word. refl)
    λ message left. ended_field (OfNumber most_long) (number_of most_long) (λ (c : ℕ × Part). says (Server (Deliver message c.0)) c.1) NoMore left (λ word. refl) λ conn end. refl

ask_passes : (rest : Part) → ended (ask_fields rest) ≡ pass_fields (Then (OfNumber most_short) NoMore) rest
ask_passes rest = ended_field (OfNumber most_short) (number_of most_short) (λ (q : ℕ × Part). says (Server (Ask q.0)) q.1) NoMore rest (λ word. refl) λ request end. refl

pub server_passes : (name rest : Part) → ended (server_reading name rest) ≡ pass_kind server_kinds name rest
server_passes name rest =
    choice (pointwise nat_eq name.text (codes "serve")) _ _ _ _ (origin_passes (λ origin. Serve origin) rest)
    (choice (pointwise nat_eq name.text (codes "unserve")) _ _ _ _ (origin_passes (λ origin. Unserve origin) rest)
    (choice (pointwise nat_eq name.text (codes "offer")) _ _ _ _ (offer_passes rest)
    (choice (pointwise nat_eq name.text (codes "withdraw")) _ _ _ _ (origin_passes (λ origin. Withdraw origin) rest)
    (choice (pointwise nat_eq name.text (codes "announce")) (says (Server Announce) rest) _ _ _ refl
    (choice (pointwise nat_eq name.text (codes "deliver")) _ _ _ _ (deliver_passes rest)
    (choice (pointwise nat_eq name.text (codes "ask")) (ask_fields rest) (refused name.place UnknownKind) _ _ (ask_passes rest) refl))))))
