-- Which alternatives are live, in the words of RFC 7838.
use Rattle.std.proofs.Common.{◌≡◌, ◌↔◌, ◌⊎◌, inl, inr, ℕ, Bool, true, false, cond, not, ◌||◌, ◌&&◌, List, [], ◌∷◌, ◌++◌, filter, Any, None, refl, ap, sym, ◌∙◌, subst, true≢false}
use Rattle.std.specs.List.{list_any}
use Rattle.origin_values.specs.Equality.{origin_eq}
use Rattle.origin_values.specs.declared.origin.Origin.{Origin}
use Rattle.altsvc_grammar.specs.declared.alt.Alt.{Alt}
use Rattle.altsvc_grammar.specs.declared.alt_svc.AltSvc.{AltSvc}
use Rattle.route_events.specs.declared.fact.Fact.{Fact}
use Rattle.route_events.specs.declared.fact.Fact.TheVariants.{Network, Response}
use Rattle.route_events.specs.declared.action.Action.TheVariants.{Alternatives}
use Rattle.route_events.specs.Journal.{Entry, Happened, Cut, Taken, Journal, newest_moment}
use Rattle.route_events.specs.Alternatives.{alternatives_of, newest_age, is_fresh, left_by, live}
use Rattle.route_events.specs.declared.connection.Connection.{Connection}
use Rattle.route_events.specs.Connections.{open_connections}
use Rattle.route_events.specs.Misdirection.{turned_away_in, turns_away, was_opened_by, gives_up}
use Rattle.route_events.specs.InWords.{takes_for, changes_network, of_happened, none_gives_up, IsLive}
use Rattle.route_events.proofs.Lists.{IsIn, in_filter, filter_in, any_from_in, in_from_any}
use Rattle.std.proofs.lemmas.Bool.{and_from, and_right, or_from, not_from_false, not-true}
use Rattle.alt_base.proofs.Booleans.{first_of_both, second_of_both}

-- a fact that turns no request away gives no alternative up
nothing_given_up : (older : Journal) (o : Origin) (a : Alt) (f : Fact) → turned_away_in f ≡ None → gives_up older o f a.key ≡ false
nothing_given_up older o a f none = over (open_connections older)
  where
    over : (cs : List Connection) → list_any (λ (c : Connection). was_opened_by o a.key c && turns_away older c.number o f) cs ≡ false
    over [] = refl
    over (c ∷ cs) = or_from _ _ (and_right (was_opened_by o a.key c) (turns_away older c.number o f) (rw none refl)) (over cs)

-- whether an entry, in the journal below it, gives the alternative up
abbrev given_up_by : Journal → Origin → Alt → Entry → Bool
given_up_by older o a entry = of_happened (λ fact. gives_up older o fact a.key) entry

-- an alternative is live behind one more entry, which takes no value for the origin, doesn't give it up, and which it outlives
longer : (entry : Entry) (older : Journal) (o : Origin) (now : ℕ) (a : Alt) → takes_for o entry ≡ false → given_up_by older o a entry ≡ false → (a.persist ≡ true) ⊎ (changes_network entry ≡ false) → IsLive older o now a → IsLive (entry ∷ older) o now a
longer entry older o now a takes_none spares outlives is = record {
  since = entry ∷ is.since;
  before = is.before;
  origin = is.origin;
  value = is.value;
  taken = ap (λ (j : Journal). entry ∷ j) is.taken;
  for_it = is.for_it;
  newest = or_from (takes_for o entry) (list_any (takes_for o) is.since) takes_none is.newest;
  listed = is.listed;
  fresh = is.fresh;
  not_given_up = and_from (not (given_up_by (is.since ++ Taken (Alternatives is.origin is.value) ∷ is.before) o a entry)) _ (not_from_false _ (ap (λ (j : Journal). given_up_by j o a entry) (sym is.taken) ∙ spares)) is.not_given_up;
  stays = both_ways outlives is.stays;
}
  where
    both_ways : (a.persist ≡ true) ⊎ (changes_network entry ≡ false) → (a.persist ≡ true) ⊎ (list_any changes_network is.since ≡ false) → (a.persist ≡ true) ⊎ ((changes_network entry || list_any changes_network is.since) ≡ false)
    both_ways (inl persists) stays = inl persists
    both_ways (inr none) (inl persists) = inl persists
    both_ways (inr none) (inr nothing) = inr (or_from (changes_network entry) (list_any changes_network is.since) none nothing)

live_is : (j : Journal) (o : Origin) (now : ℕ) (a : Alt) → IsIn a (live j o now) → IsLive j o now a
live_is [] o now a none = absurd none
live_is (Happened moment fact handed_in ∷ older) o now a found = by_fact fact (live_is older o now a) found
  where
    by_fact : (f : Fact) → (IsIn a (live older o now) → IsLive older o now a) → IsIn a (left_by older o f (live older o now)) → IsLive (Happened moment f handed_in ∷ older) o now a
    by_fact Network rest found =
        let kept = in_filter (λ (b : Alt). b.persist) a (live older o now) found in
        longer (Happened moment Network handed_in) older o now a refl (nothing_given_up older o a Network refl) (inl kept.1) (rest kept.0)
    by_fact (Response q status age altsvc) rest found =
        let kept = in_filter (λ (b : Alt). not (gives_up older o (Response q status age altsvc) b.key)) a (live older o now) found in
        longer (Happened moment (Response q status age altsvc) handed_in) older o now a refl (not-true _ kept.1) (inr refl) (rest kept.0)
    by_fact f rest found = longer (Happened moment f handed_in) older o now a refl (nothing_given_up older o a f refl) (inr refl) (rest found)
live_is (Cut moment conn length ∷ older) o now a found = longer (Cut moment conn length) older o now a refl refl (inr refl) (live_is older o now a found)
live_is (Taken (Alternatives p value) ∷ older) o now a found = by_origin (origin_eq p o) refl (live_is older o now a) found
  where
    by_origin :
        (b : Bool) → origin_eq p o ≡ b → (IsIn a (live older o now) → IsLive older o now a) →
        IsIn a (cond b (filter (is_fresh (newest_moment older) (newest_age older) now) (alternatives_of value)) (live older o now)) →
        IsLive (Taken (Alternatives p value) ∷ older) o now a
    by_origin true e rest found =
        let kept = in_filter (is_fresh (newest_moment older) (newest_age older) now) a (alternatives_of value) found in
        record {
          since = [];
          before = older;
          origin = p;
          value = value;
          taken = refl;
          for_it = e;
          newest = refl;
          listed = any_from_in (λ (b : Alt). b ≡ a) a (alternatives_of value) kept.0 refl;
          fresh = kept.1;
          not_given_up = refl;
          stays = inr refl;
        }
    by_origin false e rest found = longer (Taken (Alternatives p value)) older o now a e refl (inr refl) (rest found)
live_is (Taken action ∷ older) o now a found = longer (Taken action) older o now a refl refl (inr refl) (live_is older o now a found)

-- a fresh alternative of a value stays live through all entries since, none of which takes one
stays_live :
    (since before : Journal) (p : Origin) (value : AltSvc) (o : Origin) (now : ℕ) (a : Alt) → origin_eq p o ≡ true → list_any (takes_for o) since ≡ false →
    IsIn a (alternatives_of value) → is_fresh (newest_moment before) (newest_age before) now a ≡ true →
    none_gives_up (Taken (Alternatives p value) ∷ before) since o a.key ≡ true → (a.persist ≡ true) ⊎ (list_any changes_network since ≡ false) → IsIn a (live (since ++ Taken (Alternatives p value) ∷ before) o now)
stays_live [] before p value o now a for_it newest listed fresh spared stays =
    rw for_it (filter_in (is_fresh (newest_moment before) (newest_age before) now) a (alternatives_of value) listed fresh)
stays_live (Happened moment fact handed_in ∷ since) before p value o now a for_it newest listed fresh spared stays =
    by_fact fact (first_of_both _ _ spared) (stays_live since before p value o now a for_it newest listed fresh (second_of_both _ _ spared)) stays
  where
    below : Journal
    below = since ++ Taken (Alternatives p value) ∷ before

    by_fact :
        (f : Fact) → not (gives_up below o f a.key) ≡ true → ((a.persist ≡ true) ⊎ (list_any changes_network since ≡ false) → IsIn a (live (since ++ Taken (Alternatives p value) ∷ before) o now)) →
        (a.persist ≡ true) ⊎ ((changes_network (Happened moment f handed_in) || list_any changes_network since) ≡ false) →
        IsIn a (left_by below o f (live (since ++ Taken (Alternatives p value) ∷ before) o now))
    by_fact Network spares rest (inl persists) = filter_in (λ (b : Alt). b.persist) a (live (since ++ Taken (Alternatives p value) ∷ before) o now) (rest (inl persists)) persists
    by_fact Network spares rest (inr none) = absurd (true≢false none)
    by_fact (Response q status age altsvc) spares rest stays =
        filter_in (λ (b : Alt). not (gives_up below o (Response q status age altsvc) b.key)) a (live below o now) (rest stays) spares
    by_fact f spares rest stays = rest stays
stays_live (Cut moment conn length ∷ since) before p value o now a for_it newest listed fresh spared stays = stays_live since before p value o now a for_it newest listed fresh spared stays
stays_live (Taken (Alternatives q other) ∷ since) before p value o now a for_it newest listed fresh spared stays =
    by_origin (origin_eq q o) newest (λ none. stays_live since before p value o now a for_it none listed fresh spared stays)
  where
    by_origin :
        (b : Bool) → (b || list_any (takes_for o) since) ≡ false → (list_any (takes_for o) since ≡ false → IsIn a (live (since ++ Taken (Alternatives p value) ∷ before) o now)) →
        IsIn a
        (cond b (filter (is_fresh (newest_moment (since ++ Taken (Alternatives p value) ∷ before)) (newest_age (since ++ Taken (Alternatives p value) ∷ before)) now) (alternatives_of other))
        (live (since ++ Taken (Alternatives p value) ∷ before) o now))
    by_origin true taken rest = absurd (true≢false taken)
    by_origin false none rest = rest none
stays_live (Taken action ∷ since) before p value o now a for_it newest listed fresh spared stays = stays_live since before p value o now a for_it newest listed fresh spared stays

pub live_where : (j : Journal) (o : Origin) (now : ℕ) (a : Alt) → Any (λ b. b ≡ a) (live j o now) ↔ IsLive j o now a
live_where j o now a = (λ found. live_is j o now a (in_from_any a (live j o now) found), λ is. any_from_in (λ (b : Alt). b ≡ a) a (live j o now) (there is) refl)
  where
    there : IsLive j o now a → IsIn a (live j o now)
    there is = subst (λ (k : Journal). IsIn a (live k o now)) (sym is.taken)
        (stays_live is.since is.before is.origin is.value o now a is.for_it is.newest (in_from_any a (alternatives_of is.value) is.listed) is.fresh is.not_given_up is.stays)
