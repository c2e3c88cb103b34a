-- The alternatives of an origin (RFC 7838): which values were taken, and which alternatives are live.
use Rattle.std.specs.Prelude.{ℕ, ◌+◌, ◌-◌, Bool, not, nat_lt, List, [], ◌∷◌, Option, Some, None, if◌then◌else◌, unwrap_or, filter}
use Rattle.std.specs.List.{list_any}
use Rattle.origin_values.specs.Equality.{origin_eq}
use Rattle.origin_values.specs.declared.origin.Origin.{Origin}
use Rattle.altsvc_grammar.specs.Keys.{key_eq}
use Rattle.altsvc_grammar.specs.declared.alt_key.AltKey.{AltKey}
use Rattle.altsvc_grammar.specs.declared.alt.Alt.{Alt}
use Rattle.altsvc_grammar.specs.declared.alt_svc.AltSvc.{AltSvc}
use Rattle.altsvc_grammar.specs.declared.alt_svc.AltSvc.TheVariants as value
use Rattle.route_events.specs.declared.fact.Fact.{Fact}
use Rattle.route_events.specs.declared.fact.Fact.TheVariants as fact
use Rattle.route_events.specs.declared.action.Action.TheVariants as action
use Rattle.route_events.specs.Journal.{Happened, Cut, Taken, Journal, of_fact, newest, newest_moment}
use Rattle.route_events.specs.Misdirection.{gives_up}

-- the alternatives of a value: none, where it is `clear`
abbrev pub alternatives_of : AltSvc → List Alt
alternatives_of value.Clear = []
alternatives_of (value.List alts) = alts

-- one of the alternatives has this key
abbrev pub is_listed : List Alt → AltKey → Bool
is_listed alts key = list_any (λ (a : Alt). key_eq a.key key) alts

-- the age of a value that a fact brings: that of its response (RFC 9111 4.2.3), else 0
abbrev pub age_in : Fact → ℕ
age_in (fact.Response request status age altsvc) = age
age_in _ = 0

abbrev pub newest_age : Journal → ℕ
newest_age journal = unwrap_or (newest (of_fact (λ fact. Some (age_in fact))) journal) 0

-- an alternative that was taken at a moment, with an age, is fresh: the age and the seconds since are below its `ma`
-- (RFC 7838 3.1)
abbrev pub is_fresh : ℕ → ℕ → ℕ → Alt → Bool
is_fresh moment age now a = nat_lt (age + (now - moment)) a.ma

-- those of an origin that a fact leaves: when the network changes, only those with `persist` stay (RFC 7838 2.2), and a
-- response of status 421 ends the one by which its connection was opened
abbrev pub left_by : Journal → Origin → Fact → List Alt → List Alt
left_by older o fact.Network alts = filter (λ (a : Alt). a.persist) alts
left_by older o (fact.Response request status age altsvc) alts =
    filter (λ (a : Alt). not (gives_up older o (fact.Response request status age altsvc) a.key)) alts
left_by older o _ alts = alts

-- the live alternatives of an origin, in list order: those of the value that was taken last, which replaced all before it
-- (RFC 7838 3), as far as they are fresh and stayed
abbrev pub live : Journal → Origin → ℕ → List Alt
live [] o now = []
live (Happened moment fact handed_in ∷ older) o now = left_by older o fact (live older o now)
live (Cut moment conn length ∷ older) o now = live older o now
live (Taken (action.Alternatives p value) ∷ older) o now =
    if origin_eq p o then filter (is_fresh (newest_moment older) (newest_age older) now) (alternatives_of value) else live older o now
live (Taken _ ∷ older) o now = live older o now

-- a value that was taken, with the moment and the age of the fact that brought it
pub record Took : Type 0 where
  pub value : AltSvc
  pub moment : ℕ
  pub age : ℕ

-- the value that was taken last for an origin
abbrev pub took : Journal → Origin → Option Took
took [] o = None
took (Happened moment fact handed_in ∷ older) o = took older o
took (Cut moment conn length ∷ older) o = took older o
took (Taken (action.Alternatives p value) ∷ older) o =
    if origin_eq p o then Some (record { value = value; moment = newest_moment older; age = newest_age older }) else took older o
took (Taken _ ∷ older) o = took older o
