-- DNS answers in a store: which of them a journal has, and what a fact makes of them.
use Rattle.std.specs.Prelude.{◌≡◌, ◌≤◌, ℕ, Option}
use Rattle.std.specs.Option.{option_map}
use Rattle.alias_chain.specs.declared.held.Held.{Held}
use Rattle.alias_chain.specs.Held.{in_force}
use Rattle.alias_chain.specs.Walk.{NameOf}
use Rattle.answer_store.specs.declared.store.AnswerStore.{AnswerStore}
use Rattle.answer_store.specs.Bodies.{Kind, A, Aaaa, Https, Body, Addresses4, Addresses6, Records}
use Rattle.answer_store.specs.Contents.{kept}
use Rattle.route_events.specs.declared.answer.AnswerBody.{AnswerBody}
use Rattle.route_events.specs.declared.fact.Fact.{Fact}
use Rattle.route_events.specs.Answers.{addresses4, addresses6, records, answer_after, newest_answer}
use Rattle.route_events.specs.Journal.{Journal, newest_moment}

-- what an answer brings of a kind
abbrev pub as_kind : {B : Type 0} → (B → Body) → (AnswerBody → Option B) → AnswerBody → Option Body
as_kind body brings answer = option_map body (brings answer)

abbrev pub brought : Kind → AnswerBody → Option Body
brought A = as_kind Addresses4 addresses4
brought Aaaa = as_kind Addresses6 addresses6
brought Https = as_kind Records records

-- the newest answer of a name and a kind, by a journal
abbrev pub answer_of : Journal → NameOf → Kind → Option (Held Body)
answer_of journal name kind = newest_answer (brought kind) journal name

-- a store has, at each moment from the newest one on, the answers of a journal that are in force, of each name and kind
abbrev pub HoldsAnswers : AnswerStore → Journal → Type 0
HoldsAnswers store journal = (name : NameOf) (kind : Kind) (now : ℕ) → newest_moment journal ≤ now → in_force now (kept store name kind) ≡ in_force now (answer_of journal name kind)

-- a store keeps no answer that has ended by a moment
abbrev pub KeepsNoneEnded : AnswerStore → ℕ → Type 0
KeepsNoneEnded store now = (name : NameOf) (kind : Kind) → in_force now (kept store name kind) ≡ kept store name kind

-- what a fact makes of a store
abbrev pub IsTold : AnswerStore → AnswerStore → ℕ → Fact → Type 0
IsTold old new now fact = (name : NameOf) (kind : Kind) → kept new name kind ≡ answer_after (brought kind) name now fact (kept old name kind)
