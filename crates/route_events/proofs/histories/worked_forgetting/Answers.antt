use Rattle.std.proofs.Common.{inl, inr, [], ◌∷◌, refl}
use Rattle.std.specs.Prelude.{codes}
use Rattle.percent_encoding.specs.Percent.{percent_decode}
use Rattle.std.specs.Net.Reader.{read_ipv4, read_octet, read_number}
use Rattle.origin_values.specs.AsciiReading.{ascii_origin}
use Rattle.origin_values.specs.OriginReading.{read_origin}
use Rattle.origin_values.specs.HostReading.{read_host, read_v4}
use Rattle.h2_framing.specs.Streams.{split_of}
use Rattle.dns_names.specs.Names.{name_eq}
use Rattle.alias_chain.specs.Held.{held_at}
use Rattle.alias_chain.specs.Following.{follow, endpoints_by}
use Rattle.route_events.specs.declared.connection.Connection.{Connection}
use Rattle.route_events.specs.Advertisements.{value_taken}
use Rattle.route_events.specs.Alike.{SameRecord, SameUnfinished}
use Rattle.route_events.specs.Authority.{record_of}
use Rattle.route_events.specs.Step.{run}
use Rattle.route_events.specs.WorkedAnswers.{a_example}
use Rattle.route_events.specs.WorkedAlike.{ended_value, without_value, replaced_by, only_by, given_up_of, behind_both, behind_none}
use Rattle.route_events.proofs.WorkedAlike.{same_record, of_none, of_one, of_two, ended_either, absent_either, site_alone, none_taken, same_live, none_live, same_brought}
use Rattle.route_events.proofs.histories.worked_forgetting.Goals as goal

pub returns-clause-expired : goal.returns-clause-expired
unfolding endpoints_by follow value_taken percent_decode
returns-clause-expired c = record {
  steps = refl;
  moment = refl;
  newest = refl;
  opened = refl;
  alternatives = same_live (run [] ended_value) (run [] without_value) (site_alone (run [] ended_value) refl) (none_taken (run [] without_value) refl) refl;
  brought = none_live (run [] ended_value) (run [] without_value) (site_alone (run [] ended_value) refl) refl;
  v4_answers = λ name. refl;
  v6_answers = λ name. refl;
  https_answers = λ name. refl;
  failed = λ o r direct. refl;
  last = λ o r direct. inr refl;
  pending = refl;
  connections = refl;
  records = of_one (λ (c : Connection). SameRecord (record_of (run [] ended_value) c) (record_of (run [] without_value) c)) _ (same_record _);
  unfinished = of_one (λ (c : Connection). SameUnfinished (run [] ended_value) (run [] without_value) c.number) _ (record { held = refl; count = refl });
  tried = of_none _;
  waiting = refl;
  outstanding = λ n out. record { out = out; request = refl; sent = refl; tried = λ q is r. refl };
  no_more = λ n out. out;
}

pub returns-clause-purged : goal.returns-clause-purged
unfolding endpoints_by follow
returns-clause-purged c = record {
  steps = refl;
  moment = refl;
  newest = refl;
  opened = refl;
  alternatives = λ o. refl;
  brought = λ o. inl refl;
  v4_answers = λ name. ended_either 60 (name_eq a_example name) (held_at 0 60 ((192 ∷ 0 ∷ 2 ∷ 1 ∷ []) ∷ [])) refl;
  v6_answers = λ name. absent_either 60 (name_eq a_example name);
  https_answers = λ name. absent_either 60 (name_eq a_example name);
  failed = λ o r direct. refl;
  last = λ o r direct. inr refl;
  pending = refl;
  connections = refl;
  records = of_none _;
  unfinished = of_none _;
  tried = of_none _;
  waiting = refl;
  outstanding = λ n out. record { out = out; request = refl; sent = refl; tried = λ q is r. refl };
  no_more = λ n out. out;
}

pub returns-clause-cleared : goal.returns-clause-cleared
unfolding endpoints_by follow value_taken percent_decode
returns-clause-cleared c = record {
  steps = refl;
  moment = refl;
  newest = refl;
  opened = refl;
  alternatives = same_live (run [] (replaced_by (codes "clear"))) (run [] (only_by (codes "clear"))) (site_alone (run [] (replaced_by (codes "clear"))) refl) (site_alone (run [] (only_by (codes "clear"))) refl) refl;
  brought = none_live (run [] (replaced_by (codes "clear"))) (run [] (only_by (codes "clear"))) (site_alone (run [] (replaced_by (codes "clear"))) refl) refl;
  v4_answers = λ name. refl;
  v6_answers = λ name. refl;
  https_answers = λ name. refl;
  failed = λ o r direct. refl;
  last = λ o r direct. inr refl;
  pending = refl;
  connections = refl;
  records = of_one (λ (c : Connection). SameRecord (record_of (run [] (replaced_by (codes "clear"))) c) (record_of (run [] (only_by (codes "clear"))) c)) _ (same_record _);
  unfinished = of_one (λ (c : Connection). SameUnfinished (run [] (replaced_by (codes "clear"))) (run [] (only_by (codes "clear"))) c.number) _ (record { held = refl; count = refl });
  tried = of_none _;
  waiting = refl;
  outstanding = λ n out. record { out = out; request = refl; sent = refl; tried = λ q is r. refl };
  no_more = λ n out. out;
}

pub returns-clause-replaced : goal.returns-clause-replaced
unfolding endpoints_by follow value_taken percent_decode
returns-clause-replaced c = record {
  steps = refl;
  moment = refl;
  newest = refl;
  opened = refl;
  alternatives = same_live (run [] (replaced_by (codes "h2=\":9443\""))) (run [] (only_by (codes "h2=\":9443\""))) (site_alone (run [] (replaced_by (codes "h2=\":9443\""))) refl) (site_alone (run [] (only_by (codes "h2=\":9443\""))) refl) refl;
  brought = same_brought (run [] (replaced_by (codes "h2=\":9443\""))) (run [] (only_by (codes "h2=\":9443\""))) (site_alone (run [] (replaced_by (codes "h2=\":9443\""))) refl) refl;
  v4_answers = λ name. refl;
  v6_answers = λ name. refl;
  https_answers = λ name. refl;
  failed = λ o r direct. refl;
  last = λ o r direct. inr refl;
  pending = refl;
  connections = refl;
  records = of_one (λ (c : Connection). SameRecord (record_of (run [] (replaced_by (codes "h2=\":9443\""))) c) (record_of (run [] (only_by (codes "h2=\":9443\""))) c)) _ (same_record _);
  unfinished = of_one (λ (c : Connection). SameUnfinished (run [] (replaced_by (codes "h2=\":9443\""))) (run [] (only_by (codes "h2=\":9443\""))) c.number) _ (record { held = refl; count = refl });
  tried = of_none _;
  waiting = refl;
  outstanding = λ n out. record { out = out; request = refl; sent = refl; tried = λ q is r. refl };
  no_more = λ n out. out;
}

pub returns-clause-given_up : goal.returns-clause-given_up
unfolding endpoints_by follow value_taken percent_decode
returns-clause-given_up c = record {
  steps = refl;
  moment = refl;
  newest = refl;
  opened = refl;
  alternatives = same_live (run [] (given_up_of (codes "h2=\":8443\"; ma=60"))) (run [] (given_up_of (codes "h2=\":8443\"; ma=90"))) (site_alone (run [] (given_up_of (codes "h2=\":8443\"; ma=60"))) refl) (site_alone (run [] (given_up_of (codes "h2=\":8443\"; ma=90"))) refl) refl;
  brought = none_live (run [] (given_up_of (codes "h2=\":8443\"; ma=60"))) (run [] (given_up_of (codes "h2=\":8443\"; ma=90"))) (site_alone (run [] (given_up_of (codes "h2=\":8443\"; ma=60"))) refl) refl;
  v4_answers = λ name. refl;
  v6_answers = λ name. refl;
  https_answers = λ name. refl;
  failed = λ o r direct. refl;
  last = λ o r direct. inr refl;
  pending = refl;
  connections = refl;
  records = of_two (λ (c : Connection). SameRecord (record_of (run [] (given_up_of (codes "h2=\":8443\"; ma=60"))) c) (record_of (run [] (given_up_of (codes "h2=\":8443\"; ma=90"))) c)) _ _ (same_record _) (same_record _);
  unfinished = of_two (λ (c : Connection). SameUnfinished (run [] (given_up_of (codes "h2=\":8443\"; ma=60"))) (run [] (given_up_of (codes "h2=\":8443\"; ma=90"))) c.number) _ _ (record { held = refl; count = refl }) (record { held = refl; count = refl });
  tried = of_none _;
  waiting = refl;
  outstanding = λ n out. record { out = out; request = refl; sent = refl; tried = λ q is r. refl };
  no_more = λ n out. out;
}

pub returns-clause-network : goal.returns-clause-network
unfolding endpoints_by follow value_taken percent_decode
returns-clause-network c = record {
  steps = refl;
  moment = refl;
  newest = refl;
  opened = refl;
  alternatives = same_live (run [] behind_both) (run [] behind_none) (site_alone (run [] behind_both) refl) (none_taken (run [] behind_none) refl) refl;
  brought = none_live (run [] behind_both) (run [] behind_none) (site_alone (run [] behind_both) refl) refl;
  v4_answers = λ name. refl;
  v6_answers = λ name. refl;
  https_answers = λ name. refl;
  failed = λ o r direct. refl;
  last = λ o r direct. inr refl;
  pending = refl;
  connections = refl;
  records = of_one (λ (c : Connection). SameRecord (record_of (run [] behind_both) c) (record_of (run [] behind_none) c)) _ (same_record _);
  unfinished = of_one (λ (c : Connection). SameUnfinished (run [] behind_both) (run [] behind_none) c.number) _ (record { held = refl; count = refl });
  tried = of_none _;
  waiting = refl;
  outstanding = λ n out. record { out = out; request = refl; sent = refl; tried = λ q is r. refl };
  no_more = λ n out. out;
}

pub returns-clause-closed : goal.returns-clause-closed
unfolding endpoints_by follow split_of ascii_origin read_origin read_host read_v4 read_ipv4 read_octet read_number
returns-clause-closed c = record {
  steps = refl;
  moment = refl;
  newest = refl;
  opened = refl;
  alternatives = λ o. refl;
  brought = λ o. inl refl;
  v4_answers = λ name. refl;
  v6_answers = λ name. refl;
  https_answers = λ name. refl;
  failed = λ o r direct. refl;
  last = λ o r direct. inr refl;
  pending = refl;
  connections = refl;
  records = of_none _;
  unfinished = of_none _;
  tried = of_none _;
  waiting = refl;
  outstanding = λ n out. record { out = out; request = refl; sent = refl; tried = λ q is r. refl };
  no_more = λ n out. out;
}
