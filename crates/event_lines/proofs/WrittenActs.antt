-- The line of a server's act says it.
use Rattle.std.proofs.Common.{◌≡◌, ℕ, List, [], ◌∷◌, ◌++◌, decimal, codes, append_assoc, append-nil, refl, arith}
use Rattle.origin_values.specs.Valid.{IsOrigin}
use Rattle.origin_values.specs.Written.{origin_text}
use Rattle.origin_values.specs.declared.origin.Origin.{Origin}
use Rattle.origin_values.proofs.OriginTexts.{origin_written}
use Rattle.altsvc_grammar.specs.declared.alt_svc.AltSvc.TheVariants as value
use Rattle.altsvc_grammar.proofs.WrittenValues.{written_spelled}
use Rattle.event_lines.specs.HaveLines.{HasShortValue}
use Rattle.event_lines.specs.Limits.{most_short, most_long}
use Rattle.event_lines.specs.ServerLines.{SpellsOriginAct, SpellsAct}
use Rattle.event_lines.specs.ServerTexts.{alts_text, act_text}
use Rattle.event_lines.specs.Valid.{IsServerAct}
use Rattle.event_lines.specs.WordGrammar.{spaced}
use Rattle.event_lines.specs.declared.event.Event.TheVariants.{Server}
use Rattle.event_lines.specs.declared.server_act.ServerAct.{ServerAct}
use Rattle.event_lines.specs.declared.server_act.ServerAct.TheVariants.{Serve, Unserve, Offer, Withdraw, Announce, Deliver, Ask}
use Rattle.event_lines.proofs.InnerBytes.{origin_inner}
use Rattle.event_lines.proofs.Spaces.{no_space_from}
use Rattle.event_lines.proofs.WrittenNumbers.{number_written, number_apart}

-- a kind and one word, and a kind and two
one_joined : (kind o : List ℕ) → 32 ∷ ((kind ++ 32 ∷ []) ++ o) ≡ spaced (kind ∷ o ∷ [])
one_joined kind o = simp (append_assoc, append-nil)

two_joined : (kind a b : List ℕ) → 32 ∷ (((kind ++ 32 ∷ []) ++ a ++ codes " ") ++ b) ≡ spaced (kind ∷ a ∷ b ∷ [])
two_joined kind a b = simp (append_assoc, append-nil)

origin_act_written : (kind : List ℕ) (origin : Origin) → IsOrigin origin → SpellsOriginAct kind (32 ∷ ((kind ++ 32 ∷ []) ++ origin_text origin)) origin
origin_act_written kind origin h = record {
  origin_text = origin_text origin;
  spelled = one_joined kind (origin_text origin);
  apart = no_space_from (origin_text origin) (origin_inner origin h);
  of_origin = origin_written origin h;
}

pub act_written : (act : ServerAct) → IsServerAct act → HasShortValue (Server act) → SpellsAct (32 ∷ act_text act) act
act_written (Serve origin) h short = origin_act_written (codes "serve") origin h
act_written (Unserve origin) h short = origin_act_written (codes "unserve") origin h
act_written (Offer origin alts) h short = record {
  origin_text = origin_text origin;
  value_text = alts_text alts;
  spelled = two_joined (codes "offer") (origin_text origin) (alts_text alts);
  apart = no_space_from (origin_text origin) (origin_inner origin h.0);
  of_origin = origin_written origin h.0;
  of_value = written_spelled (value.List alts) h.1 short;
}
act_written (Withdraw origin) h short = origin_act_written (codes "withdraw") origin h
act_written Announce h short = refl
act_written (Deliver message conn) h short = record {
  message_text = decimal message;
  conn_text = decimal conn;
  spelled = two_joined (codes "deliver") (decimal message) (decimal conn);
  apart = (number_apart most_short message (omega arith) h.0, (number_apart most_long conn (omega arith) h.1, tt));
  of_message = number_written most_short message (omega arith) h.0;
  of_conn = number_written most_long conn (omega arith) h.1;
}
act_written (Ask request) h short = record {
  number_text = decimal request;
  spelled = one_joined (codes "ask") (decimal request);
  apart = number_apart most_short request (omega arith) h;
  of_number = number_written most_short request (omega arith) h;
}
