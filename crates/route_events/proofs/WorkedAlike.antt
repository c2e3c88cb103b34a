-- What pairs of small histories share.
use Rattle.std.proofs.Common.{◌≡◌, ◌⊎◌, inl, inr, ℕ, Bool, true, false, cond, ◌||◌, [], ◌∷◌, Some, None, refl, subst, ap, sym, ◌∙◌}
use Rattle.std.specs.Prelude.{All}
use Rattle.std.specs.List.{list_any}
use Rattle.std.proofs.lemmas.List.Elements.{All-nil, All-cons}
use Rattle.alias_chain.specs.declared.held.Held.{Held}
use Rattle.alias_chain.specs.Held.{in_force}
use Rattle.origin_values.specs.declared.origin.Origin.{Origin}
use Rattle.origin_values.specs.Equality.{origin_eq}
use Rattle.origin_values.proofs.Equal.{true_origin}
use Rattle.route_events.specs.Records.{ConnectionRecord}
use Rattle.route_events.specs.Journal.{Journal, newest_moment}
use Rattle.route_events.specs.Alternatives.{live, took}
use Rattle.route_events.specs.Alike.{SameRecord, brought}
use Rattle.route_events.specs.Distinct.{advertised_origins}
use Rattle.route_events.specs.WorkedHistories.{site}
use Rattle.route_events.proofs.Elsewhere.{not_advertised}

pub same_record : (r : ConnectionRecord) → SameRecord r r
same_record r = record {
  made = refl;
  bound = refl;
  gated = refl;
  holds = λ o. refl;
  misdirected = λ o. refl;
  outstanding = refl;
  sends = refl;
}

module _ {X : Type 0} where
  -- of each one in a list of at most two
  pub of_none : (P : X → Type 0) → All P []
  of_none P = All-nil P

  pub of_one : (P : X → Type 0) (x : X) → P x → All P (x ∷ [])
  of_one P x h = All-cons P x [] h (All-nil P)

  pub of_two : (P : X → Type 0) (x y : X) → P x → P y → All P (x ∷ y ∷ [])
  of_two P x y h k = All-cons P x (y ∷ []) h (of_one P y k)

-- what isn't in force either way
pub ended_either : {B : Type 0} (now : ℕ) (b : Bool) (h : Held B) → in_force now (Some h) ≡ None → in_force now (cond b (Some h) None) ≡ None
ended_either now true h ended = ended
ended_either now false h ended = refl

pub absent_either : {B : Type 0} (now : ℕ) (b : Bool) → in_force {B = B} now (cond b None None) ≡ None
absent_either now true = refl
absent_either now false = refl

-- what holds of the site and of each other origin holds of each
each_origin : (P : Origin → Type 0) → P site → ((o : Origin) → origin_eq site o ≡ false → P o) → (o : Origin) → P o
each_origin P here others o = by_test (origin_eq site o) refl
  where
    by_test : (b : Bool) → origin_eq site o ≡ b → P o
    by_test true e = subst P (true_origin site o e) here
    by_test false e = others o e

-- nothing is live for an origin but the site
abbrev pub SiteAlone : Journal → Type 0
SiteAlone j = (o : Origin) → origin_eq site o ≡ false → live j o (newest_moment j) ≡ []

-- since values were taken for the site alone, or none was
pub site_alone : (j : Journal) → advertised_origins j ≡ site ∷ [] → SiteAlone j
site_alone j taken o other = not_advertised j o (newest_moment j) (ap (list_any (λ p. origin_eq p o)) taken ∙ ap (λ b. b || false) other)

pub none_taken : (j : Journal) → advertised_origins j ≡ [] → SiteAlone j
none_taken j taken o other = not_advertised j o (newest_moment j) (ap (list_any (λ p. origin_eq p o)) taken)

pub same_live : (j k : Journal) → SiteAlone j → SiteAlone k → live j site (newest_moment j) ≡ live k site (newest_moment k) → (o : Origin) → live j o (newest_moment j) ≡ live k o (newest_moment k)
same_live j k ours theirs here = each_origin (λ o. live j o (newest_moment j) ≡ live k o (newest_moment k)) here (λ o other. ours o other ∙ sym (theirs o other))

pub none_live : (j k : Journal) → SiteAlone j → live j site (newest_moment j) ≡ [] → (o : Origin) → (live j o (newest_moment j) ≡ []) ⊎ (brought (took j o) ≡ brought (took k o))
none_live j k ours here o = inl (each_origin (λ o. live j o (newest_moment j) ≡ []) here ours o)

pub same_brought : (j k : Journal) → SiteAlone j → brought (took j site) ≡ brought (took k site) → (o : Origin) → (live j o (newest_moment j) ≡ []) ⊎ (brought (took j o) ≡ brought (took k o))
same_brought j k ours here = each_origin (λ o. (live j o (newest_moment j) ≡ []) ⊎ (brought (took j o) ≡ brought (took k o))) (inr here) (λ o other. inl (ours o other))
