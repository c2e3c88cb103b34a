-- How often a route failed in a row, in the words of the history.
use Rattle.std.proofs.Common.{◌≡◌, ℕ, ◌+◌, Bool, true, false, cond, not, ◌&&◌, [], ◌∷◌, ◌++◌, refl, ap, sym, subst, arith, true≢false}
use Rattle.origin_values.specs.declared.origin.Origin.{Origin}
use Rattle.route_events.specs.declared.fact.Fact.{Fact}
use Rattle.route_events.specs.declared.fact.Fact.TheVariants.{Opened, Failed, Network}
use Rattle.route_events.specs.declared.route.Route.{Route}
use Rattle.route_events.specs.Journal.{Happened, Cut, Taken, Journal}
use Rattle.route_events.specs.Backoff.{Failures, no_failures, failed_at, opens_well, is_attempt_on, failures_after, failures}
use Rattle.route_events.specs.InWords.{AreFailures, clears, fails_by, begins_anew, none_clears, failures_above, last_failure_above}

-- what a fact makes of the failures, by whether it ends them and whether it is one
by_questions : (older : Journal) (o : Origin) (r : Route) (moment : ℕ) (fact : Fact) (f : Failures) → failures_after older o r moment fact f ≡ cond (clears older o r fact) no_failures (cond (fails_by older o r fact) (failed_at moment f) f)
by_questions older o r moment (Opened attempt proto addr port names) f = by_tests (is_attempt_on older o r attempt) (opens_well older (Opened attempt proto addr port names))
  where
    by_tests : (b c : Bool) → cond b (cond c no_failures (failed_at moment f)) f ≡ cond (b && c) no_failures (cond (b && not c) (failed_at moment f) f)
    by_tests true true = refl
    by_tests true false = refl
    by_tests false c = refl
by_questions older o r moment (Failed attempt) f = refl
by_questions older o r moment Network f = refl
by_questions older o r moment _ f = refl

-- a fact more, which ends none of the failures since an older journal
one_more :
    (since before : Journal) (o : Origin) (r : Route) (moment : ℕ) (fact : Fact) (handed_in : Bool) (f : Failures) → begins_anew before o r ≡ true → none_clears before since o r ≡ true →
    f.count ≡ failures_above before since o r → f.last ≡ last_failure_above before since o r → clears (since ++ before) o r fact ≡ false →
    AreFailures (Happened moment fact handed_in ∷ (since ++ before)) o r (cond (fails_by (since ++ before) o r fact) (failed_at moment f) f).count (cond (fails_by (since ++ before) o r fact) (failed_at moment f) f).last
one_more since before o r moment fact handed_in f anew none counted newest e = record {
  since = Happened moment fact handed_in ∷ since;
  before = before;
  split = refl;
  anew = anew;
  none_cleared = kept (clears (since ++ before) o r fact) (none_clears before since o r) e none;
  counted = count_by (fails_by (since ++ before) o r fact);
  newest = last_by (fails_by (since ++ before) o r fact);
}
  where
    kept : (b c : Bool) → b ≡ false → c ≡ true → (not b && c) ≡ true
    kept true c e h = absurd (true≢false e)
    kept false c e h = h

    count_by : (b : Bool) → (cond b (failed_at moment f) f).count ≡ cond b 1 0 + failures_above before since o r
    count_by true = omega (arith, counted)
    count_by false = omega (arith, counted)

    last_by : (b : Bool) → (cond b (failed_at moment f) f).last ≡ cond b moment (last_failure_above before since o r)
    last_by true = refl
    last_by false = newest

pub are_failures : (j : Journal) (o : Origin) (r : Route) → AreFailures j o r (failures j o r).count (failures j o r).last
are_failures [] o r = record { since = []; before = []; split = refl; anew = refl; none_cleared = refl; counted = refl; newest = refl }
are_failures (Happened moment fact handed_in ∷ older) o r =
    subst (λ (f : Failures). AreFailures (Happened moment fact handed_in ∷ older) o r f.count f.last) (sym (by_questions older o r moment fact (failures older o r)))
    (by_clearing (clears older o r fact) refl (are_failures older o r))
  where
    by_clearing :
        (b : Bool) → clears older o r fact ≡ b → AreFailures older o r (failures older o r).count (failures older o r).last →
        AreFailures (Happened moment fact handed_in ∷ older) o r
        (cond b no_failures (cond (fails_by older o r fact) (failed_at moment (failures older o r)) (failures older o r))).count
        (cond b no_failures (cond (fails_by older o r fact) (failed_at moment (failures older o r)) (failures older o r))).last
    by_clearing true e were = record { since = []; before = Happened moment fact handed_in ∷ older; split = refl; anew = e; none_cleared = refl; counted = refl; newest = refl }
    by_clearing false e were =
        subst
        (λ (j : Journal).
        clears j o r fact ≡ false →
        AreFailures (Happened moment fact handed_in ∷ j) o r
        (cond (fails_by j o r fact) (failed_at moment (failures older o r)) (failures older o r)).count
        (cond (fails_by j o r fact) (failed_at moment (failures older o r)) (failures older o r)).last)
        (sym were.split)
        (one_more were.since were.before o r moment fact handed_in (failures older o r) were.anew were.none_cleared were.counted were.newest) e
are_failures (Cut moment conn length ∷ older) o r =
    let were : AreFailures older o r (failures older o r).count (failures older o r).last = are_failures older o r in
    record {
      since = Cut moment conn length ∷ were.since;
      before = were.before;
      split = ap (λ (j : Journal). Cut moment conn length ∷ j) were.split;
      anew = were.anew;
      none_cleared = were.none_cleared;
      counted = omega (arith, were.counted);
      newest = were.newest;
    }
are_failures (Taken action ∷ older) o r =
    let were : AreFailures older o r (failures older o r).count (failures older o r).last = are_failures older o r in
    record {
      since = Taken action ∷ were.since;
      before = were.before;
      split = ap (λ (j : Journal). Taken action ∷ j) were.split;
      anew = were.anew;
      none_cleared = were.none_cleared;
      counted = omega (arith, were.counted);
      newest = were.newest;
    }
