-- The parts of octets: each frame is delivered, and then comes the cut.
use Rattle.std.proofs.Common.{◌≡◌, ℕ, true, false, List, [], ◌∷◌, ◌++◌, Option, Some, None, refl}
use Rattle.std.specs.List.{flat_map}
use Rattle.std.proofs.lemmas.Bool.{or_right}
use Rattle.h2_framing.specs.declared.frame.Frame.{Frame}
use Rattle.h2_framing.specs.declared.frame.Frame.TheVariants.{Kept, Passed}
use Rattle.h2_framing.specs.Streams.{too_large_of}
use Rattle.route_events.specs.declared.fact.Fact.TheVariants.{Delivered}
use Rattle.route_events.specs.declared.action.Action.{Action}
use Rattle.route_events.specs.declared.request.Request.{Request}
use Rattle.route_events.specs.Journal.{Entry, Happened, Cut, Taken, Journal}
use Rattle.route_events.specs.Attempts.{ends, has_ended}
use Rattle.route_events.specs.Requests.{waiting}
use Rattle.route_events.specs.Dispatch.{dispatch}
use Rattle.route_events.specs.Frames.{frames_behind, delivery, cut_by, deliveries}
use Rattle.route_events.specs.Step.{with_actions, part_effects, with_part, settle, settled}

-- what stands behind octets on a connection
abbrev pub IsBehind : ℕ → ℕ → Entry → Type 0
IsBehind now conn (Happened moment (Delivered to head payload) false) = (moment ≡ now) × (to ≡ conn)
IsBehind now conn (Cut moment to count) = (moment ≡ now) × (to ≡ conn)
IsBehind now conn _ = ⊥

abbrev pub AreBehind : ℕ → ℕ → List Entry → Type 0
AreBehind now conn [] = Unit {0}
AreBehind now conn (part ∷ parts) = IsBehind now conn part × AreBehind now conn parts

both_behind : (now conn : ℕ) (parts more : List Entry) → AreBehind now conn parts → AreBehind now conn more → AreBehind now conn (parts ++ more)
both_behind now conn [] more h k = k
both_behind now conn (part ∷ parts) more h k = (h.0, both_behind now conn parts more h.1 k)

delivery_behind : (now conn : ℕ) (frame : Frame) → AreBehind now conn (delivery now conn frame)
delivery_behind now conn (Kept head payload) = ((refl, refl), tt)
delivery_behind now conn (Passed head) = tt

frames_behind_it : (now conn : ℕ) (frames : List Frame) → AreBehind now conn (flat_map (delivery now conn) frames)
frames_behind_it now conn [] = tt
frames_behind_it now conn (frame ∷ frames) = both_behind now conn (delivery now conn frame) (flat_map (delivery now conn) frames) (delivery_behind now conn frame) (frames_behind_it now conn frames)

cut_behind : (now conn : ℕ) (w : Option ℕ) → AreBehind now conn (cut_by now conn w)
cut_behind now conn None = tt
cut_behind now conn (Some count) = ((refl, refl), tt)

pub all_behind : (now conn : ℕ) (before octets : List ℕ) → AreBehind now conn (deliveries now conn before octets)
all_behind now conn before octets =
    both_behind now conn (flat_map (delivery now conn) (frames_behind before octets)) (cut_by now conn (too_large_of (before ++ octets)))
    (frames_behind_it now conn (frames_behind before octets)) (cut_behind now conn (too_large_of (before ++ octets)))

-- an attempt that has ended has ended for good
ended_with : (j : Journal) (as' : List Action) (n : ℕ) → has_ended j n ≡ true → has_ended (with_actions j as') n ≡ true
ended_with j [] n h = h
ended_with j (a ∷ as') n h = ended_with (Taken a ∷ j) as' n h

ended_settle : (j : Journal) (now : ℕ) (qs : List Request) (n : ℕ) → has_ended j n ≡ true → has_ended (settle j now qs) n ≡ true
ended_settle j now [] n h = h
ended_settle j now (q ∷ qs) n h = ended_settle (with_actions j (dispatch j q now)) now qs n (ended_with j (dispatch j q now) n h)

pub ended_part : (j : Journal) (now : ℕ) (part : Entry) (n : ℕ) → has_ended j n ≡ true → has_ended (settled (with_part j now part) now) n ≡ true
ended_part j now part n h =
    ended_settle (with_part j now part) now (waiting (with_part j now part)) n
    (ended_with (part ∷ j) (part_effects j now part) n (or_right (ends n part) (has_ended j n) h))
