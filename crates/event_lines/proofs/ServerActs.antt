-- The lines of the server's acts: what is spelled is read, and what is spelled is valid.
use Rattle.std.proofs.Common.{◌≡◌, ℕ, ◌+◌, List, [], ◌∷◌, codes, refl, ap, ◌∙◌}
use Rattle.origin_values.proofs.OriginTexts.{origin_valid}
use Rattle.altsvc_grammar.specs.declared.alt_svc.AltSvc.TheVariants as value
use Rattle.altsvc_grammar.proofs.ValidValues.{value_valid}
use Rattle.event_lines.specs.Limits.{most_short, most_long}
use Rattle.event_lines.specs.LineRefusals.{EndsWord}
use Rattle.event_lines.specs.ServerLines.{SpellsAct}
use Rattle.event_lines.specs.Valid.{IsServerAct}
use Rattle.event_lines.specs.declared.event.Event.TheVariants.{Server}
use Rattle.event_lines.specs.declared.server_act.ServerAct.{ServerAct}
use Rattle.event_lines.specs.declared.server_act.ServerAct.TheVariants.{Serve, Unserve, Offer, Withdraw, Announce, Deliver, Ask}
use Rattle.event_lines.proofs.FieldTexts.{origin_field_complete}
use Rattle.event_lines.proofs.LineCases.{part, said, whole, behind_moment, named, begins_spaced}
use Rattle.event_lines.proofs.NumberTexts.{number_complete}
use Rattle.event_lines.proofs.ServerFields.{origin_act_complete, offer_complete, deliver_complete, ask_complete}
use Rattle.event_lines.proofs.ServerValues.{alts_complete}

pub act_complete : (now place : ℕ) (text : List ℕ) (act : ServerAct) → SpellsAct text act → behind_moment now (part text place) ≡ said now (Server act)
act_complete now place text (Serve origin) s =
    named now place text (codes "serve") (s.origin_text ∷ []) s.spelled refl
    ∙ ap (whole now) (origin_act_complete (λ o. Serve o) s.origin_text origin (place + 1 + 5) s.apart (origin_field_complete s.origin_text origin s.of_origin))
act_complete now place text (Unserve origin) s =
    named now place text (codes "unserve") (s.origin_text ∷ []) s.spelled refl
    ∙ ap (whole now) (origin_act_complete (λ o. Unserve o) s.origin_text origin (place + 1 + 7) s.apart (origin_field_complete s.origin_text origin s.of_origin))
act_complete now place text (Offer origin alts) s =
    named now place text (codes "offer") (s.origin_text ∷ s.value_text ∷ []) s.spelled refl
    ∙ ap (whole now) (offer_complete s.origin_text s.value_text origin alts (place + 1 + 5) s.apart (origin_field_complete s.origin_text origin s.of_origin) (alts_complete s.value_text alts s.of_value))
act_complete now place text (Withdraw origin) s =
    named now place text (codes "withdraw") (s.origin_text ∷ []) s.spelled refl
    ∙ ap (whole now) (origin_act_complete (λ o. Withdraw o) s.origin_text origin (place + 1 + 8) s.apart (origin_field_complete s.origin_text origin s.of_origin))
act_complete now place text Announce s = named now place text (codes "announce") [] s refl
act_complete now place text (Deliver message conn) s =
    named now place text (codes "deliver") (s.message_text ∷ s.conn_text ∷ []) s.spelled refl
    ∙ ap (whole now) (deliver_complete s.message_text s.conn_text message conn (place + 1 + 7) s.apart (number_complete most_short s.message_text message s.of_message) (number_complete most_long s.conn_text conn s.of_conn))
act_complete now place text (Ask request) s =
    named now place text (codes "ask") (s.number_text ∷ []) s.spelled refl
    ∙ ap (whole now) (ask_complete s.number_text request (place + 1 + 3) s.apart (number_complete most_short s.number_text request s.of_number))

pub act_ends : (text : List ℕ) (act : ServerAct) → SpellsAct text act → EndsWord text
act_ends text (Serve origin) s = begins_spaced text _ s.spelled
act_ends text (Unserve origin) s = begins_spaced text _ s.spelled
act_ends text (Offer origin alts) s = begins_spaced text _ s.spelled
act_ends text (Withdraw origin) s = begins_spaced text _ s.spelled
act_ends text Announce s = begins_spaced text _ s
act_ends text (Deliver message conn) s = begins_spaced text _ s.spelled
act_ends text (Ask request) s = begins_spaced text _ s.spelled

pub act_valid : (text : List ℕ) (act : ServerAct) → SpellsAct text act → IsServerAct act
act_valid text (Serve origin) s = origin_valid s.origin_text origin s.of_origin
act_valid text (Unserve origin) s = origin_valid s.origin_text origin s.of_origin
act_valid text (Offer origin alts) s = (origin_valid s.origin_text origin s.of_origin, value_valid s.value_text (value.List alts) s.of_value)
act_valid text (Withdraw origin) s = origin_valid s.origin_text origin s.of_origin
act_valid text Announce s = tt
act_valid text (Deliver message conn) s = (s.of_message.within, s.of_conn.within)
act_valid text (Ask request) s = s.of_number.within
