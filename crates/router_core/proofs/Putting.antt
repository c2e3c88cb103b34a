-- What is put into a store is what the answer makes of it.
use Rattle.std.proofs.Common.{◌≡◌, ℕ, Bool, true, false, cond, ◌&&◌, List, Option, Some, None, refl, ap}
use Rattle.alias_chain.specs.declared.held.Held.{Held}
use Rattle.alias_chain.specs.Held.{held_at}
use Rattle.dns_names.specs.Names.{name_eq}
use Rattle.answer_store.specs.Bodies.{Kind, A, Aaaa, Https, Body, Addresses4, Addresses6, Records, kind_eq}
use Rattle.svcb_wire.specs.declared.svcb.Svcb.{Svcb}
use Rattle.route_events.specs.declared.answer.AnswerBody.TheVariants as body
use Rattle.route_events.specs.declared.fact.Fact.TheVariants.{Answer}
use Rattle.route_events.specs.Answers.{records, answer_after}
use Rattle.router_core.specs.StoredAnswers.{brought}

-- another kind stays
untouched : (b : Bool) (before : Option (Held Body)) → before ≡ cond b before before
untouched true before = refl
untouched false before = refl

pub v4_put : (now ttl : ℕ) (name q : List (List ℕ)) (addresses : List (List ℕ)) (k : Kind) (before : Option (Held Body)) →
    cond (kind_eq A k && name_eq name q) (Some (held_at now ttl (Addresses4 addresses))) before ≡ answer_after (brought k) q now (Answer name ttl (body.V4 addresses)) before
v4_put now ttl name q addresses A before = refl
v4_put now ttl name q addresses Aaaa before = untouched (name_eq name q) before
v4_put now ttl name q addresses Https before = untouched (name_eq name q) before

pub v6_put : (now ttl : ℕ) (name q : List (List ℕ)) (addresses : List (List ℕ)) (k : Kind) (before : Option (Held Body)) →
    cond (kind_eq Aaaa k && name_eq name q) (Some (held_at now ttl (Addresses6 addresses))) before ≡ answer_after (brought k) q now (Answer name ttl (body.V6 addresses)) before
v6_put now ttl name q addresses A before = untouched (name_eq name q) before
v6_put now ttl name q addresses Aaaa before = refl
v6_put now ttl name q addresses Https before = untouched (name_eq name q) before

pub https_put : (now ttl : ℕ) (name q : List (List ℕ)) (rdatas : List (List ℕ)) (set : List Svcb) (k : Kind) (before : Option (Held Body)) → Some set ≡ records (body.Https rdatas) →
    cond (kind_eq Https k && name_eq name q) (Some (held_at now ttl (Records set))) before ≡ answer_after (brought k) q now (Answer name ttl (body.Https rdatas)) before
https_put now ttl name q rdatas set A before read = untouched (name_eq name q) before
https_put now ttl name q rdatas set Aaaa before read = untouched (name_eq name q) before
https_put now ttl name q rdatas set Https before read = ap (λ xs. cond (name_eq name q) (Some (held_at now ttl (Records xs))) before) (one_set set _ read)
  where
    one_set : (a b : List Svcb) → Some a ≡ Some b → a ≡ b
    one_set a b e = cc
