-- What the journal says of alternatives, failures and answers, and what a router sees of it at the moment of a step.
use Rattle.std.proofs.Common.{◌≡◌, ℕ, Bool, true, false, cond, List, [], ◌∷◌, Option, Some, None, refl, ap, sym, ◌∙◌}
use Rattle.alias_chain.specs.Following.{endpoints_by}
use Rattle.alias_chain.specs.Walk.{NameOf}
use Rattle.answer_store.specs.Bodies.{Kind}
use Rattle.origin_values.specs.declared.address.Addr.{Addr}
use Rattle.origin_values.specs.declared.origin.Origin.{Origin}
use Rattle.route_events.specs.declared.route.Route.{Route}
use Rattle.route_events.specs.declared.request.Request.{Request}
use Rattle.route_events.specs.declared.connection.Connection.{Connection}
use Rattle.route_events.specs.Journal.{Taken, Journal}
use Rattle.route_events.specs.Alternatives.{live}
use Rattle.route_events.specs.Answers.{records, answer_at}
use Rattle.route_events.specs.Authority.{is_address_of}
use Rattle.route_events.specs.Backoff.{failures, is_broken, is_barred_by}
use Rattle.route_events.specs.Routes.{supported}
use Rattle.route_events.specs.Dispatch.{send, opening, opened_beside, is_in_use, decide, dispatch}
use Rattle.route_events.specs.Step.{with_actions, settle}
use Rattle.request_dispatch.specs.Looks.{Look}
use Rattle.router_core.specs.StoredAnswers.{answer_of}

-- the addresses of origins that a journal knows at a moment
abbrev pub known_at : Journal → ℕ → Origin → Addr → Bool
known_at j now o addr = is_address_of j o now addr

-- a longer journal says the same of all
pub record SaysSame (j k : Journal) : Type 0 where
  pub live_same : (o : Origin) (now : ℕ) → live k o now ≡ live j o now
  pub failures_same : (o : Origin) (r : Route) → failures k o r ≡ failures j o r
  pub address_same : (now : ℕ) → known_at k now ≡ known_at j now
  pub records_same : (now : ℕ) → answer_at records k now ≡ answer_at records j now
  pub answers_same : (name : NameOf) (kind : Kind) → answer_of k name kind ≡ answer_of j name kind

says_itself : (j : Journal) → SaysSame j j
says_itself j = record { live_same = λ o now. refl; failures_same = λ o r. refl; address_same = λ now. refl; records_same = λ now. refl; answers_same = λ name kind. refl }

says_twice : (i j k : Journal) → SaysSame i j → SaysSame j k → SaysSame i k
says_twice i j k a b = record {
  live_same = λ o now. b.live_same o now ∙ a.live_same o now;
  failures_same = λ o r. b.failures_same o r ∙ a.failures_same o r;
  address_same = λ now. b.address_same now ∙ a.address_same now;
  records_same = λ now. b.records_same now ∙ a.records_same now;
  answers_same = λ name kind. b.answers_same name kind ∙ a.answers_same name kind;
}

-- settling doesn't change it

said_beside : (j : Journal) (q : Request) (now : ℕ) (c : Connection) (beside : Option Route) → SaysSame j (with_actions (Taken (send j q now c) ∷ j) (opened_beside j q.origin beside))
said_beside j q now c None = record { live_same = λ o t. refl; failures_same = λ o r. refl; address_same = λ now. refl; records_same = λ now. refl; answers_same = λ name kind. refl }
said_beside j q now c (Some r) = by_use (is_in_use j q.origin r)
  where
    by_use : (b : Bool) → SaysSame j (with_actions (Taken (send j q now c) ∷ j) (cond b [] (opening j q.origin r ∷ [])))
    by_use true = record { live_same = λ o t. refl; failures_same = λ o r. refl; address_same = λ now. refl; records_same = λ now. refl; answers_same = λ name kind. refl }
    by_use false = record { live_same = λ o t. refl; failures_same = λ o r. refl; address_same = λ now. refl; records_same = λ now. refl; answers_same = λ name kind. refl }

said_decided : (j : Journal) (q : Request) (now : ℕ) (beside : Option Route) (free : Option Connection) (pending : Bool) (usable : List Route) (cs : List Connection) → SaysSame j (with_actions j (decide j q now beside free pending usable cs))
said_decided j q now beside (Some c) pending usable cs = said_beside j q now c beside
said_decided j q now beside None true usable cs = says_itself j
said_decided j q now beside None false (r ∷ usable) cs = record { live_same = λ o t. refl; failures_same = λ o s. refl; address_same = λ now. refl; records_same = λ now. refl; answers_same = λ name kind. refl }
said_decided j q now beside None false [] (c ∷ cs) = says_itself j
said_decided j q now beside None false [] [] = record { live_same = λ o t. refl; failures_same = λ o s. refl; address_same = λ now. refl; records_same = λ now. refl; answers_same = λ name kind. refl }

pub said_dispatched : (j : Journal) (q : Request) (now : ℕ) → SaysSame j (with_actions j (dispatch j q now))
said_dispatched j q now = said_decided j q now _ _ _ _ _

pub said_settled : (j : Journal) (now : ℕ) (qs : List Request) → SaysSame j (settle j now qs)
said_settled j now [] = says_itself j
said_settled j now (q ∷ qs) = says_twice j (with_actions j (dispatch j q now)) _ (said_dispatched j q now) (said_settled (with_actions j (dispatch j q now)) now qs)

-- a router sees what a journal says at a moment
pub record Sees (look : Look) (j : Journal) (now : ℕ) : Type 0 where
  pub live_seen : (o : Origin) → look.live o ≡ live j o now
  pub broken_seen : (o : Origin) (r : Route) → look.is_broken o r ≡ is_broken j o r now
  pub address_seen : look.is_address ≡ known_at j now
  pub endpoints_seen : (o : Origin) → look.endpoints o ≡ endpoints_by (answer_at records j now) supported o

pub sees_still : (look : Look) (j k : Journal) (now : ℕ) → SaysSame j k → Sees look j now → Sees look k now
sees_still look j k now same sees = record {
  live_seen = λ o. sees.live_seen o ∙ sym (same.live_same o now);
  broken_seen = λ o r. sees.broken_seen o r ∙ sym (ap (λ f. is_barred_by f r now) (same.failures_same o r));
  address_seen = sees.address_seen ∙ sym (same.address_same now);
  endpoints_seen = λ o. sees.endpoints_seen o ∙ sym (ap (λ answers. endpoints_by answers supported o) (same.records_same now));
}
