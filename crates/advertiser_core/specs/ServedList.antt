-- Which origins are served, and in which order they are listed.
use Rattle.std.specs.Prelude.{◌≡◌, ℕ, ◌<◌, Bool, true, false, nat_eq, List, [], ◌∷◌, ◌++◌, length, Option, None, Some, if◌then◌else◌}
use Rattle.std.specs.List.{list_any, AllPairs}
use Rattle.std.specs.Option.{unwrap_or, option_eq}
use Rattle.origin_values.specs.Equality.{origin_eq}
use Rattle.origin_values.specs.declared.origin.Origin.{Origin}
use Rattle.advertiser_core.specs.Acts.{Act, Serve, Unserve, Announce, Advertise}

-- the newest act that serves or unserves an origin serves it
abbrev pub is_served : List Act → Origin → Bool
is_served [] o = false
is_served (Serve p ∷ acts) o = if origin_eq o p then true else is_served acts o
is_served (Unserve p ∷ acts) o = if origin_eq o p then false else is_served acts o
is_served (Announce ∷ acts) o = is_served acts o
is_served (Advertise p value ∷ acts) o = is_served acts o

-- how many acts stood before the oldest one that serves an origin since it was last unserved; none if there is no such act
abbrev pub served_since : List Act → Origin → Option ℕ
served_since [] o = None
served_since (Serve p ∷ acts) o = if origin_eq o p then Some (unwrap_or (served_since acts o) (length acts)) else served_since acts o
served_since (Unserve p ∷ acts) o = if origin_eq o p then None else served_since acts o
served_since (Announce ∷ acts) o = served_since acts o
served_since (Advertise p value ∷ acts) o = served_since acts o

-- the origins that are served since one of the first acts, in the order of these acts
abbrev pub served_since_first : List Act → List Act → List Origin
served_since_first all [] = []
served_since_first all (Serve o ∷ first) =
    served_since_first all first ++ (if option_eq nat_eq (served_since all o) (Some (length first)) then o ∷ [] else [])
served_since_first all (Unserve o ∷ first) = served_since_first all first
served_since_first all (Announce ∷ first) = served_since_first all first
served_since_first all (Advertise o value ∷ first) = served_since_first all first

-- the origins that are served, by the act since which each is
unfoldable pub served_list : List Act → List Origin
served_list acts = served_since_first acts acts

-- the first place stands before the second
abbrev pub IsEarlier : Option ℕ → Option ℕ → Type 0
IsEarlier None k = ⊥
IsEarlier (Some j) None = ⊥
IsEarlier (Some j) (Some k) = j < k

-- exactly the origins that are served, each once, in the order of the acts since which they are
pub record IsServedList (acts : List Act) (origins : List Origin) : Type 0 where
  pub members : (o : Origin) → list_any (origin_eq o) origins ≡ is_served acts o
  pub ordered : AllPairs (λ o p. IsEarlier (served_since acts o) (served_since acts p)) origins
