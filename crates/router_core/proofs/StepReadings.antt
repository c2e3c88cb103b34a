-- What a step adds to a reading of the journal that actions and delivered frames leave as it is.
use Rattle.std.proofs.Common.{◌≡◌, ℕ, true, false, List, [], ◌∷◌, ◌++◌, Option, Some, None, refl, ap, ◌∙◌}
use Rattle.std.specs.List.{flat_map}
use Rattle.h2_framing.specs.declared.head.Head.{Head}
use Rattle.h2_framing.specs.declared.frame.Frame.{Frame}
use Rattle.h2_framing.specs.declared.frame.Frame.TheVariants.{Kept, Passed}
use Rattle.route_events.specs.declared.action.Action.{Action}
use Rattle.route_events.specs.declared.request.Request.{Request}
use Rattle.route_events.specs.declared.fact.Fact.{Fact}
use Rattle.route_events.specs.declared.fact.Fact.TheVariants as fact
use Rattle.route_events.specs.Journal.{Entry, Happened, Cut, Taken, Journal}
use Rattle.route_events.specs.Requests.{waiting}
use Rattle.route_events.specs.Dispatch.{dispatch}
use Rattle.route_events.specs.Frames.{delivery, cut_by}
use Rattle.route_events.specs.Step.{with_actions, part_effects, with_part, with_fact, settle, settled, follow, parts_of, parts_behind, answer_to, step}
use Rattle.route_events.proofs.PartsKeep.{follow_append}

-- a cut changes it so
pub record IsReading {X : Type 0} (read : Journal → X) (cutting : ℕ → X → X) : Type 0 where
  pub taken : (a : Action) (j : Journal) → read (Taken a ∷ j) ≡ read j
  pub delivered : (now conn : ℕ) (head : Head) (payload : List ℕ) (j : Journal) → read (Happened now (fact.Delivered conn head payload) false ∷ j) ≡ read j
  pub cut : (now conn count : ℕ) (j : Journal) → read (Cut now conn count ∷ j) ≡ cutting conn (read j)

abbrev pub cut_from : {X : Type 0} → (ℕ → X → X) → ℕ → Option ℕ → X → X
cut_from cutting conn None x = x
cut_from cutting conn (Some count) x = cutting conn x

pub read_with : {X : Type 0} (read : Journal → X) (cutting : ℕ → X → X) → IsReading read cutting → (j : Journal) (as' : List Action) → read (with_actions j as') ≡ read j
read_with read cutting is j [] = refl
read_with read cutting is j (a ∷ as') = read_with read cutting is (Taken a ∷ j) as' ∙ is.taken a j

read_settle : {X : Type 0} (read : Journal → X) (cutting : ℕ → X → X) → IsReading read cutting → (j : Journal) (now : ℕ) (qs : List Request) → read (settle j now qs) ≡ read j
read_settle read cutting is j now [] = refl
read_settle read cutting is j now (q ∷ qs) = read_settle read cutting is (with_actions j (dispatch j q now)) now qs ∙ read_with read cutting is j (dispatch j q now)

pub read_settled : {X : Type 0} (read : Journal → X) (cutting : ℕ → X → X) → IsReading read cutting → (j : Journal) (now : ℕ) (part : Entry) → read (settled (with_part j now part) now) ≡ read (part ∷ j)
read_settled read cutting is j now part = read_settle read cutting is (with_part j now part) now (waiting (with_part j now part)) ∙ read_with read cutting is (part ∷ j) (part_effects j now part)

-- frames one after the other, and the cut

pub read_frames : {X : Type 0} (read : Journal → X) (cutting : ℕ → X → X) → IsReading read cutting → (now conn : ℕ) (frames : List Frame) (j : Journal) → read (follow j now (flat_map (delivery now conn) frames)) ≡ read j
read_frames read cutting is now conn [] j = refl
read_frames read cutting is now conn (Passed head ∷ frames) j = read_frames read cutting is now conn frames j
read_frames read cutting is now conn (Kept head payload ∷ frames) j =
    read_frames read cutting is now conn frames (settled (with_part j now (Happened now (fact.Delivered conn head payload) false)) now)
    ∙ read_settled read cutting is j now (Happened now (fact.Delivered conn head payload) false)
    ∙ is.delivered now conn head payload j

pub read_cut : {X : Type 0} (read : Journal → X) (cutting : ℕ → X → X) → IsReading read cutting → (now conn : ℕ) (w : Option ℕ) (j : Journal) → read (follow j now (cut_by now conn w)) ≡ cut_from cutting conn w (read j)
read_cut read cutting is now conn None j = refl
read_cut read cutting is now conn (Some count) j = read_settled read cutting is j now (Cut now conn count) ∙ is.cut now conn count j

-- a step, by the parts behind its fact
pub read_step : {X : Type 0} (read : Journal → X) (cutting : ℕ → X → X) → IsReading read cutting → (j : Journal) (now : ℕ) (f : Fact) (conn : ℕ) (frames : List Frame) (w : Option ℕ) → parts_behind j now f ≡ flat_map (delivery now conn) frames ++ cut_by now conn w →
    read (step j now f) ≡ cut_from cutting conn w (read (Happened now f true ∷ j))
read_step read cutting is j now f conn frames w parts =
    let begun : Journal = settled (with_fact j now f) now in
    read_with read cutting is (follow j now (parts_of j now f)) (answer_to (follow j now (parts_of j now f)) now f)
    ∙ ap (λ ps. read (follow begun now ps)) parts
    ∙ ap read (follow_append begun now (flat_map (delivery now conn) frames) (cut_by now conn w))
    ∙ read_cut read cutting is now conn w (follow begun now (flat_map (delivery now conn) frames))
    ∙ ap (cut_from cutting conn w) (read_frames read cutting is now conn frames begun ∙ read_settled read cutting is j now (Happened now f true))
