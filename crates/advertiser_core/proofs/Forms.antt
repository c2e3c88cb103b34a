-- The values of what accepted acts announce and advertise are in their forms.
use Rattle.std.proofs.Common.{ℕ, ◌≤◌, suc, Bool, true, false, cond, List, [], ◌∷◌, ◌++◌, length, sym, subst, arith}
use Rattle.std.proofs.lemmas.List.{append-nil, length-append}
use Rattle.origin_values.specs.Valid.{IsOrigin}
use Rattle.origin_values.specs.Written.{origin_text}
use Rattle.origin_values.specs.declared.origin.Origin.{Origin}
use Rattle.altsvc_grammar.specs.Written.{value_text}
use Rattle.altsvc_grammar.specs.ValueGrammar.{most_value_bytes}
use Rattle.altsvc_grammar.specs.declared.alt_svc.AltSvc.{AltSvc}
use Rattle.origin_frame.specs.PayloadWritten.{AreOrigins, frame_limit}
use Rattle.advertiser_core.specs.Acts.{Act, Serve, Unserve, Announce, Advertise}
use Rattle.advertiser_core.specs.ServedList.{is_served, served_since, served_since_first, served_list}
use Rattle.advertiser_core.specs.Messages.{value_payload}
use Rattle.advertiser_core.specs.Refusals.{AreAccepted}
use Rattle.advertiser_core.proofs.ServedLists.{since_is}
use Rattle.advertiser_core.proofs.MadeMessages.{short_where_made, made_where_served}

one_more : (origins : List Origin) (o : Origin) → AreOrigins origins → IsOrigin o → AreOrigins (origins ++ o ∷ [])
one_more [] o are is = (is, tt)
one_more (p ∷ origins) o are is = (are.0, one_more origins o are.1 is)

first_are_origins : (all first : List Act) → AreAccepted first → AreOrigins (served_since_first all first)
first_are_origins all [] accepted = tt
first_are_origins all (Serve o ∷ first) accepted = by_test (since_is (served_since all o) (length first)) (first_are_origins all first accepted.2)
  where
    by_test : (s : Bool) → AreOrigins (served_since_first all first) → AreOrigins (served_since_first all first ++ cond s (o ∷ []) [])
    by_test true are = one_more (served_since_first all first) o are accepted.0
    by_test false are = subst AreOrigins (sym (append-nil (served_since_first all first))) are
first_are_origins all (Unserve o ∷ first) accepted = first_are_origins all first accepted.2
first_are_origins all (Announce ∷ first) accepted = first_are_origins all first accepted.2
first_are_origins all (Advertise o value ∷ first) accepted = first_are_origins all first accepted.2

pub served_are_origins : (acts : List Act) → AreAccepted acts → AreOrigins (served_list acts)
unfolding served_list
served_are_origins acts accepted = first_are_origins acts acts accepted

-- the text of a value is part of its payload
pub short_value : (acts : List Act) (o : Origin) (value : AltSvc) → AreAccepted (Advertise o value ∷ acts) → length (value_text value) ≤ most_value_bytes
short_value acts o value accepted = part (origin_text o) (value_text value)
    (short_where_made acts (value_payload o value) (made_where_served acts (value_payload o value) (is_served acts o) accepted.1))
  where
    part : (text field : List ℕ) → suc (suc (length (text ++ field))) ≤ frame_limit → length field ≤ most_value_bytes
    part text field h = let more = length-append text field in omega arith
