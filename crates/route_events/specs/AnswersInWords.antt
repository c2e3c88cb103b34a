-- Which answer is the newest, by the history's own words: as a split of the journal at the answer that decides.
use Rattle.std.specs.Prelude.{◌≡◌, ℕ, Bool, true, false, ◌&&◌, ◌∷◌, ◌++◌, Option, Some, is_some}
use Rattle.std.specs.List.{list_any}
use Rattle.alias_chain.specs.declared.held.Held.{Held}
use Rattle.alias_chain.specs.Held.{held_at}
use Rattle.alias_chain.specs.Walk.{NameOf}
use Rattle.route_events.specs.declared.answer.AnswerBody.{AnswerBody}
use Rattle.route_events.specs.declared.fact.Fact.{Fact}
use Rattle.route_events.specs.declared.fact.Fact.TheVariants as fact
use Rattle.route_events.specs.Journal.{Happened, Journal}
use Rattle.dns_names.specs.Names.{name_eq}
use Rattle.route_events.specs.InWords.{of_happened}

module _ {B : Type 0} where
  -- a fact decides on a name's answer of a kind: it is an answer for the name that brings something of the kind, or a change
  -- of the network
  abbrev pub decides : (AnswerBody → Option B) → NameOf → Fact → Bool
  decides brings name (fact.Answer own ttl body) = name_eq own name && is_some (brings body)
  decides brings name fact.Network = true
  decides brings name _ = false

module _ {B : Type 0} where
  -- an answer is the newest one of a name and a kind (RFC 1035 3.2.1): it came for the name, and brought something of the kind;
  -- since then no other did, and the network hasn't changed
  pub record IsNewestAnswer (brings : AnswerBody → Option B) (journal : Journal) (name : NameOf) (held : Held B) : Type 0 where
    pub since : Journal
    pub before : Journal
    pub moment : ℕ
    pub own : NameOf
    pub ttl : ℕ
    pub body : AnswerBody
    pub handed_in : Bool
    pub brought : B
    pub came : journal ≡ since ++ Happened moment (fact.Answer own ttl body) handed_in ∷ before
    pub for_it : name_eq own name ≡ true
    pub of_kind : brings body ≡ Some brought
    pub newest : list_any (of_happened (decides brings name)) since ≡ false
    pub is : held ≡ held_at moment ttl brought
