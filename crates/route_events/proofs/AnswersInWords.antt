-- The newest answer, by the history's own words; and that there is none of a name for which none ever came.
use Rattle.std.proofs.Common.{◌≡◌, ◌↔◌, ℕ, Bool, true, false, cond, ◌&&◌, ◌||◌, List, [], ◌∷◌, ◌++◌, Option, Some, None, is_some, refl, ap, sym, ◌∙◌, true≢false}
use Rattle.std.specs.Option.{option_map_or}
use Rattle.std.specs.List.{list_any}
use Rattle.std.proofs.lemmas.Bool.{or_from}
use Rattle.std.proofs.lemmas.List.Folds.{list_any-append}
use Rattle.alt_base.proofs.Booleans.{first_of_neither, second_of_neither}
use Rattle.alias_chain.specs.declared.held.Held.{Held}
use Rattle.alias_chain.specs.Held.{held_at}
use Rattle.alias_chain.specs.Walk.{NameOf}
use Rattle.route_events.specs.declared.answer.AnswerBody.{AnswerBody}
use Rattle.route_events.specs.declared.fact.Fact.{Fact}
use Rattle.route_events.specs.declared.fact.Fact.TheVariants as fact
use Rattle.route_events.specs.Journal.{Entry, Happened, Cut, Taken, Journal, of_fact, readings}
use Rattle.dns_names.specs.Names.{name_eq}
use Rattle.route_events.specs.Answers.{answer_after, newest_answer}
use Rattle.route_events.specs.Counts.{named_in, answered_names}
use Rattle.route_events.specs.Distinct.{are_apart}
use Rattle.route_events.specs.InWords.{of_happened}
use Rattle.route_events.specs.AnswersInWords.{decides, IsNewestAnswer}
use Rattle.route_events.proofs.Apart.{distinct_apart, none_distinct}
use Rattle.dns_names.proofs.SameNames.{one_name}

longer : {B : Type 0} (brings : AnswerBody → Option B) (entry : Entry) (older : Journal) (name : NameOf) (held : Held B) →
    of_happened (decides brings name) entry ≡ false → IsNewestAnswer brings older name held → IsNewestAnswer brings (entry ∷ older) name held
longer brings entry older name held other was = record {
  since = entry ∷ was.since;
  before = was.before;
  moment = was.moment;
  own = was.own;
  ttl = was.ttl;
  body = was.body;
  handed_in = was.handed_in;
  brought = was.brought;
  came = ap (λ j. entry ∷ j) was.came;
  for_it = was.for_it;
  of_kind = was.of_kind;
  newest = or_from (of_happened (decides brings name) entry) (list_any (of_happened (decides brings name)) was.since) other was.newest;
  is = was.is;
}

none_some : {X A : Type 0} (x : X) → None ≡ Some x → A
none_some x e = absurd (true≢false (sym (ap is_some e)))

held_of : {X : Type 0} (x y : X) → Some x ≡ Some y → x ≡ y
held_of x y e = ap (λ w. option_map_or (λ z. z) w x) e

is_newest : {B : Type 0} (brings : AnswerBody → Option B) (j : Journal) (name : NameOf) (held : Held B) → newest_answer brings j name ≡ Some held → IsNewestAnswer brings j name held
is_newest brings [] name held e = none_some held e
is_newest {B} brings (Happened moment happened handed_in ∷ older) name held e = by_fact happened (is_newest brings older name held) e
  where
    by_fact : (f : Fact) → (newest_answer brings older name ≡ Some held → IsNewestAnswer brings older name held) → answer_after brings name moment f (newest_answer brings older name) ≡ Some held → IsNewestAnswer brings (Happened moment f handed_in ∷ older) name held
    by_fact (fact.Answer own ttl body) rest e = by_tests (name_eq own name) (brings body) refl refl e
      where
        by_tests : (b : Bool) (w : Option B) → name_eq own name ≡ b → brings body ≡ w →
            cond b (option_map_or (λ x. Some (held_at moment ttl x)) w (newest_answer brings older name)) (newest_answer brings older name) ≡ Some held →
            IsNewestAnswer brings (Happened moment (fact.Answer own ttl body) handed_in ∷ older) name held
        by_tests true (Some brought) same kind e = record {
          since = [];
          before = older;
          moment = moment;
          own = own;
          ttl = ttl;
          body = body;
          handed_in = handed_in;
          brought = brought;
          came = refl;
          for_it = same;
          of_kind = kind;
          newest = refl;
          is = sym (held_of (held_at moment ttl brought) held e);
        }
        by_tests true None same kind e =
            longer brings (Happened moment (fact.Answer own ttl body) handed_in) older name held (rw (same, kind) refl) (rest e)
        by_tests false w same kind e =
            longer brings (Happened moment (fact.Answer own ttl body) handed_in) older name held (rw same refl) (rest e)
    by_fact fact.Network rest e = none_some held e
    by_fact f rest e = longer brings (Happened moment f handed_in) older name held refl (rest e)
is_newest brings (Cut moment conn length ∷ older) name held e = longer brings (Cut moment conn length) older name held refl (is_newest brings older name held e)
is_newest brings (Taken action ∷ older) name held e = longer brings (Taken action) older name held refl (is_newest brings older name held e)

-- behind an answer, entries that don't decide leave it the newest
stays : {B : Type 0} (brings : AnswerBody → Option B) (since before : Journal) (name : NameOf) (held : Held B) →
    newest_answer brings before name ≡ Some held → list_any (of_happened (decides brings name)) since ≡ false → newest_answer brings (since ++ before) name ≡ Some held
stays brings [] before name held was none = was
stays {B} brings (entry ∷ since) before name held was none =
    by_entry entry (first_of_neither (of_happened (decides brings name) entry) (list_any (of_happened (decides brings name)) since) none)
    (stays brings since before name held was (second_of_neither (of_happened (decides brings name) entry) (list_any (of_happened (decides brings name)) since) none))
  where
    by_fact : (moment : ℕ) (f : Fact) (w : Option (Held B)) → decides brings name f ≡ false → w ≡ Some held → answer_after brings name moment f w ≡ Some held
    by_fact moment (fact.Answer own ttl body) w other e = by_tests (name_eq own name) (brings body) other
      where
        by_tests : (b : Bool) (x : Option B) → (b && is_some x) ≡ false → cond b (option_map_or (λ y. Some (held_at moment ttl y)) x w) w ≡ Some held
        by_tests true (Some y) other = absurd (true≢false other)
        by_tests true None other = e
        by_tests false x other = e
    by_fact moment fact.Network w other e = absurd (true≢false other)
    by_fact moment _ w other e = e

    by_entry : (entry : Entry) → of_happened (decides brings name) entry ≡ false → newest_answer brings (since ++ before) name ≡ Some held → newest_answer brings (entry ∷ since ++ before) name ≡ Some held
    by_entry (Happened moment f handed_in) other e = by_fact moment f (newest_answer brings (since ++ before) name) other e
    by_entry (Cut moment conn length) other e = e
    by_entry (Taken action) other e = e

at_answer : {B : Type 0} (brings : AnswerBody → Option B) (before : Journal) (name own : NameOf) (moment ttl : ℕ) (body : AnswerBody) (handed_in : Bool) (brought : B) →
    name_eq own name ≡ true → brings body ≡ Some brought → newest_answer brings (Happened moment (fact.Answer own ttl body) handed_in ∷ before) name ≡ Some (held_at moment ttl brought)
at_answer brings before name own moment ttl body handed_in brought same kind = rw (same, kind) refl

newest_is : {B : Type 0} (brings : AnswerBody → Option B) (j : Journal) (name : NameOf) (held : Held B) → IsNewestAnswer brings j name held → newest_answer brings j name ≡ Some held
newest_is brings j name held is =
    ap (λ k. newest_answer brings k name) is.came
    ∙ stays brings is.since (Happened is.moment (fact.Answer is.own is.ttl is.body) is.handed_in ∷ is.before) name (held_at is.moment is.ttl is.brought)
    (at_answer brings is.before name is.own is.moment is.ttl is.body is.handed_in is.brought is.for_it is.of_kind) is.newest
    ∙ ap Some (sym is.is)

pub newest_where : {B : Type 0} (brings : AnswerBody → Option B) (j : Journal) (name : NameOf) (held : Held B) → (newest_answer brings j name ≡ Some held) ↔ IsNewestAnswer brings j name held
newest_where brings j name held = (is_newest brings j name held, newest_is brings j name held)

-- where none came for a name, there is none
none_came : {B : Type 0} (brings : AnswerBody → Option B) (j : Journal) (name : NameOf) → list_any (λ n. name_eq n name) (readings (λ older. of_fact named_in) j) ≡ false → newest_answer brings j name ≡ None
none_came brings [] name none = refl
none_came {B} brings (Happened moment happened handed_in ∷ older) name none = by_fact happened (none_came brings older name) none
  where
    came : List NameOf
    came = readings (λ older. of_fact named_in) older

    by_fact : (f : Fact) → (list_any (λ n. name_eq n name) came ≡ false → newest_answer brings older name ≡ None) →
        list_any (λ n. name_eq n name) (readings (λ older. of_fact named_in) (Happened moment f handed_in ∷ older)) ≡ false → answer_after brings name moment f (newest_answer brings older name) ≡ None
    by_fact (fact.Answer own ttl body) rest none =
        by_name (name_eq own name) (first_of_neither (name_eq own name) false (second_of_neither (list_any (λ n. name_eq n name) came) (list_any (λ n. name_eq n name) (own ∷ [])) parts))
        (rest (first_of_neither (list_any (λ n. name_eq n name) came) (list_any (λ n. name_eq n name) (own ∷ [])) parts))
      where
        parts : (list_any (λ n. name_eq n name) came || list_any (λ n. name_eq n name) (own ∷ [])) ≡ false
        parts = sym (list_any-append (λ n. name_eq n name) came (own ∷ [])) ∙ none

        by_name : (b : Bool) → b ≡ false → newest_answer brings older name ≡ None → cond b (option_map_or (λ x. Some (held_at moment ttl x)) (brings body) (newest_answer brings older name)) (newest_answer brings older name) ≡ None
        by_name true e rest = absurd (true≢false e)
        by_name false e rest = rest
    by_fact fact.Network rest none = refl
    by_fact f rest none = rest none
none_came brings (Cut moment conn length ∷ older) name none = none_came brings older name none
none_came brings (Taken action ∷ older) name none = none_came brings older name none

pub not_answered : {B : Type 0} (brings : AnswerBody → Option B) (j : Journal) (name : NameOf) → list_any (λ n. name_eq n name) (answered_names j) ≡ false → newest_answer brings j name ≡ None
not_answered brings j name none = none_came brings j name (none_distinct name_eq (λ n. name_eq n name) one (readings (λ older. of_fact named_in) j) none)
  where
    one : (m n : NameOf) → name_eq m n ≡ true → name_eq n name ≡ true → name_eq m name ≡ true
    one m n same e = ap (λ x. name_eq x name) (one_name m n same) ∙ e

pub names_apart : (j : Journal) → are_apart name_eq (answered_names j) ≡ true
names_apart j = distinct_apart name_eq (readings (λ older. of_fact named_in) j)
