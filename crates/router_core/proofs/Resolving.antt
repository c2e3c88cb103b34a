-- The answers that a store holds are those of a journal.
use Rattle.std.proofs.Common.{◌≡◌, ℕ, ◌≤◌, Bool, true, false, cond, List, [], ◌∷◌, Option, Some, None, refl, ap, sym, ◌∙◌, arith}
use Rattle.std.specs.Option.{option_map, option_map_or}
use Rattle.alias_chain.specs.declared.held.Held.{Held}
use Rattle.alias_chain.specs.Following.{endpoints_by}
use Rattle.alias_chain.specs.Held.{held_at, is_in_force, in_force, body_at}
use Rattle.alias_chain.specs.Walk.{NameOf}
use Rattle.dns_names.specs.Names.{name_eq}
use Rattle.answer_store.specs.declared.store.AnswerStore.{AnswerStore}
use Rattle.answer_store.specs.Bodies.{Kind, A, Aaaa, Https, Body, Addresses4, Addresses6, Records, of_kind, kind_of, lists_address}
use Rattle.answer_store.specs.Contents.{kept, v4_held, v6_held, https_held}
use Rattle.answer_store.proofs.OfKinds.{in_force_of, of_same, in_force_later, body_is, records_back}
use Rattle.origin_values.specs.declared.address.Addr.{Addr}
use Rattle.origin_values.specs.declared.origin.Origin.{Origin}
use Rattle.svcb_wire.specs.declared.svcb.Svcb.{Svcb}
use Rattle.route_events.specs.declared.action.Action.{Action}
use Rattle.route_events.specs.declared.answer.AnswerBody.{AnswerBody}
use Rattle.route_events.specs.declared.fact.Fact.{Fact}
use Rattle.route_events.specs.declared.fact.Fact.TheVariants as fact
use Rattle.route_events.specs.Addresses.{is_listed_by, resolves_to}
use Rattle.route_events.specs.Answers.{addresses4, addresses6, records, answer_after, newest_answer, answer_at}
use Rattle.route_events.specs.Journal.{Happened, Cut, Taken, Journal, newest_moment}
use Rattle.route_events.specs.Routes.{supported}
use Rattle.route_events.specs.Step.{with_actions}
use Rattle.request_dispatch.specs.Looks.{address_at, endpoints_at}
use Rattle.request_dispatch.proofs.Addressing.{listed_so, address_known, endpoints_known}
use Rattle.router_core.specs.StoredAnswers.{as_kind, brought, answer_of, HoldsAnswers, IsTold}
use Rattle.router_core.proofs.Knowing.{known_at}

-- one kind of answers, and answers of any kind

module _ {B : Type 0} (body : B → Body) (brings : AnswerBody → Option B) where
  some_answer : (now ttl : ℕ) (w : Option B) (before : Option (Held B)) → option_map_or (λ x. Some (held_at now ttl x)) (option_map body w) (of_kind body before) ≡ of_kind body (option_map_or (λ x. Some (held_at now ttl x)) w before)
  some_answer now ttl None before = refl
  some_answer now ttl (Some b) before = refl

  after_as : (name : NameOf) (now : ℕ) (f : Fact) (before : Option (Held B)) → answer_after (as_kind body brings) name now f (of_kind body before) ≡ of_kind body (answer_after brings name now f before)
  after_as name now (fact.Answer own ttl answer) before = by_name (name_eq own name)
    where
      by_name : (b : Bool) →
          cond b (option_map_or (λ x. Some (held_at now ttl x)) (option_map body (brings answer)) (of_kind body before)) (of_kind body before)
          ≡ of_kind body (cond b (option_map_or (λ x. Some (held_at now ttl x)) (brings answer) before) before)
      by_name true = some_answer now ttl (brings answer) before
      by_name false = refl
  after_as name now fact.Network before = refl
  after_as name now _ before = refl

  pub newest_as : (j : Journal) (name : NameOf) → newest_answer (as_kind body brings) j name ≡ of_kind body (newest_answer brings j name)
  newest_as [] name = refl
  newest_as (Happened moment f handed_in ∷ older) name =
      ap (answer_after (as_kind body brings) name moment f) (newest_as older name) ∙ after_as name moment f (newest_answer brings older name)
  newest_as (Cut moment conn length ∷ older) name = newest_as older name
  newest_as (Taken action ∷ older) name = newest_as older name

  -- where the answers of any kind are those of a journal, those of the one kind are
  pub answer_is : ((a b : B) → body a ≡ body b → a ≡ b) → (held : Option (Held B)) (j : Journal) (name : NameOf) (now : ℕ) → in_force now (of_kind body held) ≡ in_force now (newest_answer (as_kind body brings) j name) → body_at now held ≡ answer_at brings j now name
  answer_is back held j name now same =
      sym (body_is now held)
      ∙ ap (body_at now)
      (of_same body back (in_force now held) (in_force now (newest_answer brings j name))
      (in_force_of body now held ∙ same ∙ ap (in_force now) (newest_as j name) ∙ sym (in_force_of body now (newest_answer brings j name))))
      ∙ body_is now (newest_answer brings j name)

v4_back : (a b : List (List ℕ)) → Addresses4 a ≡ Addresses4 b → a ≡ b
v4_back a b e = cc

v6_back : (a b : List (List ℕ)) → Addresses6 a ≡ Addresses6 b → a ≡ b
v6_back a b e = cc

-- what the store says of each kind

pub v4_is : (store : AnswerStore) (j : Journal) (name : NameOf) (now : ℕ) → HoldsAnswers store j → newest_moment j ≤ now → body_at now (v4_held store name) ≡ answer_at addresses4 j now name
v4_is store j name now holds later = answer_is Addresses4 addresses4 v4_back (v4_held store name) j name now (holds name A now later)

pub v6_is : (store : AnswerStore) (j : Journal) (name : NameOf) (now : ℕ) → HoldsAnswers store j → newest_moment j ≤ now → body_at now (v6_held store name) ≡ answer_at addresses6 j now name
v6_is store j name now holds later = answer_is Addresses6 addresses6 v6_back (v6_held store name) j name now (holds name Aaaa now later)

pub records_are : (store : AnswerStore) (j : Journal) (name : NameOf) (now : ℕ) → HoldsAnswers store j → newest_moment j ≤ now → body_at now (https_held store name) ≡ answer_at records j now name
records_are store j name now holds later = answer_is Records records records_back (https_held store name) j name now (holds name Https now later)

-- the addresses of origins, and their endpoints

pub addresses_are : (store : AnswerStore) (j : Journal) (now : ℕ) → HoldsAnswers store j → newest_moment j ≤ now → address_at store now ≡ known_at j now
addresses_are store j now holds later = λ i. λ o addr. address_known store j now (λ name. v4_is store j name now holds later) (λ name. v6_is store j name now holds later) o addr i

pub endpoints_are : (store : AnswerStore) (j : Journal) (now : ℕ) (o : Origin) → HoldsAnswers store j → newest_moment j ≤ now → endpoints_at store now o ≡ endpoints_by (answer_at records j now) supported o
endpoints_are store j now o holds later = endpoints_known store j now (λ name. records_are store j name now holds later) o

-- an address of a name, as the store says it
pub has_is : (store : AnswerStore) (j : Journal) (name : NameOf) (addr : Addr) (now : ℕ) → HoldsAnswers store j → newest_moment j ≤ now → lists_address addr (body_at now (kept store name (kind_of addr))) ≡ resolves_to j now addr name
has_is store j name addr now holds later = listed_so store now name addr ∙ (λ i. is_listed_by addr (v4_is store j name now holds later i) (v6_is store j name now holds later i))

-- what a fact makes of the answers

-- what is in force behind a fact follows from what was in force before it
after_in_force : (brings : AnswerBody → Option Body) (name : NameOf) (now at : ℕ) (f : Fact) (a b : Option (Held Body)) → in_force at a ≡ in_force at b → in_force at (answer_after brings name now f a) ≡ in_force at (answer_after brings name now f b)
after_in_force brings name now at (fact.Answer own ttl answer) a b same = by_tests (name_eq own name) (brings answer)
  where
    by_tests : (t : Bool) (w : Option Body) →
        in_force at (cond t (option_map_or (λ x. Some (held_at now ttl x)) w a) a) ≡ in_force at (cond t (option_map_or (λ x. Some (held_at now ttl x)) w b) b)
    by_tests true None = same
    by_tests true (Some x) = refl
    by_tests false w = same
after_in_force brings name now at fact.Network a b same = refl
after_in_force brings name now at _ a b same = same

pub answers_with : (j : Journal) (as' : List Action) (name : NameOf) (kind : Kind) → answer_of (with_actions j as') name kind ≡ answer_of j name kind
answers_with j [] name kind = refl
answers_with j (a ∷ as') name kind = answers_with (Taken a ∷ j) as' name kind

pub told_is : (old new : AnswerStore) (j : Journal) (now : ℕ) (f : Fact) (h : Bool) (as' : List Action) → HoldsAnswers old j → newest_moment j ≤ now → IsTold old new now f →
    (name : NameOf) (kind : Kind) (at : ℕ) → now ≤ at → in_force at (kept new name kind) ≡ in_force at (answer_of (with_actions (Happened now f h ∷ j) as') name kind)
told_is old new j now f h as' holds later told name kind at after =
    ap (in_force at) (told name kind)
    ∙ after_in_force (brought kind) name now at f (kept old name kind) (answer_of j name kind) (holds name kind at (omega (arith, later, after)))
    ∙ sym (ap (in_force at) (answers_with (Happened now f h ∷ j) as' name kind))

-- what is purged holds the same
pub purged_holds : (old new : AnswerStore) (j : Journal) (now : ℕ) → newest_moment j ≡ now → HoldsAnswers old j → ((name : NameOf) (kind : Kind) → kept new name kind ≡ in_force now (kept old name kind)) → HoldsAnswers new j
purged_holds old new j now moment holds purged name kind at later =
    ap (in_force at) (purged name kind) ∙ in_force_later now at (kept old name kind) (omega (arith, moment, later)) ∙ holds name kind at later

-- and none that has ended
pub purged_ended : (old new : AnswerStore) (now : ℕ) → ((name : NameOf) (kind : Kind) → kept new name kind ≡ in_force now (kept old name kind)) → (name : NameOf) (kind : Kind) → in_force now (kept new name kind) ≡ kept new name kind
purged_ended old new now purged name kind = ap (in_force now) (purged name kind) ∙ in_force_later now now (kept old name kind) (omega arith) ∙ sym (purged name kind)
