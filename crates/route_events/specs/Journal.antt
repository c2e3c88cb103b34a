-- The journal: all that happened, with its moments, and all actions, the newest entry first. A step is a fact that was
-- handed in, and the entries above it up to the next one. What an entry means is read in the journal below it, so that
-- no later entry can change it. Facts and actions are read by small readers, so that a further kind of either touches
-- only the readers that read it.
use Rattle.std.specs.Prelude.{ℕ, ◌+◌, Bool, List, [], ◌∷◌, ◌++◌, Option, Some, None, if◌then◌else◌, unwrap_or}
use Rattle.std.specs.Option.{option_map_or}
use Rattle.route_events.specs.declared.fact.Fact.{Fact}
use Rattle.route_events.specs.declared.action.Action.{Action}

-- a fact that happened at a moment, handed in or made of an earlier one; a cut: a connection whose octets can't be
-- followed any further, because a head gives a length that is too large (RFC 9113 4.2), which the rules alone make; or an
-- action that was taken
pub data Entry : Type 0 where
  Happened : (moment : ℕ) (fact : Fact) (handed_in : Bool) → Entry
  Cut : (moment : ℕ) (conn : ℕ) (length : ℕ) → Entry
  Taken : (action : Action) → Entry

abbrev pub Journal : Type 0
Journal = List Entry

-- a reading of facts, one of cuts, and one of actions, as a reading of entries
abbrev pub of_fact : {X : Type 0} → (Fact → Option X) → Entry → Option X
of_fact read (Happened moment fact handed_in) = read fact
of_fact read (Cut moment conn length) = None
of_fact read (Taken action) = None

abbrev pub cut_in : Entry → Option ℕ
cut_in (Happened moment fact handed_in) = None
cut_in (Cut moment conn length) = Some conn
cut_in (Taken action) = None

abbrev pub of_action : {X : Type 0} → (Action → Option X) → Entry → Option X
of_action read (Happened moment fact handed_in) = None
of_action read (Cut moment conn length) = None
of_action read (Taken action) = read action

-- the newest reading
abbrev pub newest : {X : Type 0} → (Entry → Option X) → Journal → Option X
newest read [] = None
newest read (entry ∷ older) = option_map_or Some (read entry) (newest read older)

-- one more at the end, where there is one
abbrev pub with_end : {X : Type 0} → List X → Option X → List X
with_end xs None = xs
with_end xs (Some x) = xs ++ x ∷ []

-- all readings, the oldest first, each in the journal below its entry
abbrev pub readings : {X : Type 0} → (Journal → Entry → Option X) → Journal → List X
readings read [] = []
readings read (entry ∷ older) = with_end (readings read older) (read older entry)

-- the number of the steps
abbrev pub step_count : Journal → ℕ
step_count [] = 0
step_count (Happened moment fact handed_in ∷ older) = (if handed_in then 1 else 0) + step_count older
step_count (Cut moment conn length ∷ older) = step_count older
step_count (Taken action ∷ older) = step_count older

-- the moment of what happened last, 0 at first
abbrev pub moment_in : Entry → Option ℕ
moment_in (Happened moment fact handed_in) = Some moment
moment_in (Cut moment conn length) = Some moment
moment_in (Taken action) = None

abbrev pub newest_moment : Journal → ℕ
newest_moment journal = unwrap_or (newest moment_in journal) 0
