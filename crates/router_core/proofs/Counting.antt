-- What a step adds to the counts of a journal.
use Rattle.std.proofs.Common.{◌≡◌, ℕ, ◌+◌, true, List, ◌∷◌, ◌++◌, Option, Some, None, refl, ◌∙◌, arith}
use Rattle.std.specs.List.{flat_map}
use Rattle.h2_framing.specs.declared.frame.Frame.{Frame}
use Rattle.route_events.specs.declared.fact.Fact.{Fact}
use Rattle.route_events.specs.declared.fact.Fact.TheVariants as fact
use Rattle.route_events.specs.Journal.{Happened, Journal, step_count}
use Rattle.route_events.specs.Requests.{newest_number}
use Rattle.route_events.specs.Frames.{delivery, cut_by}
use Rattle.route_events.specs.Step.{parts_behind, step}
use Rattle.router_core.specs.Reasons.{newest_after}
use Rattle.router_core.proofs.StepReadings.{IsReading, cut_from, read_step}

none_more : (n : ℕ) → 0 + n ≡ n
none_more n = omega arith

count_read : IsReading step_count (λ conn n. n)
count_read = record { taken = λ a j. refl; delivered = λ now conn head payload j. none_more (step_count j); cut = λ now conn count j. refl }

number_read : IsReading newest_number (λ conn n. n)
number_read = record { taken = λ a j. refl; delivered = λ now conn head payload j. refl; cut = λ now conn count j. refl }

none_cut : (conn : ℕ) (w : Option ℕ) (n : ℕ) → cut_from (λ conn n. n) conn w n ≡ n
none_cut conn None n = refl
none_cut conn (Some count) n = refl

-- one step more
pub count_step : (j : Journal) (now : ℕ) (f : Fact) (conn : ℕ) (frames : List Frame) (w : Option ℕ) → parts_behind j now f ≡ flat_map (delivery now conn) frames ++ cut_by now conn w → step_count (step j now f) ≡ 1 + step_count j
count_step j now f conn frames w parts = read_step step_count (λ conn n. n) count_read j now f conn frames w parts ∙ none_cut conn w (1 + step_count j)

number_fact : (j : Journal) (now : ℕ) (f : Fact) → newest_number (Happened now f true ∷ j) ≡ newest_after (newest_number j) f
number_fact j now (fact.Request n o) = refl
number_fact j now (fact.Opened m p d port names) = refl
number_fact j now (fact.Failed m) = refl
number_fact j now (fact.Closed c) = refl
number_fact j now (fact.Response q status age altsvc) = refl
number_fact j now (fact.Input c bytes) = refl
number_fact j now (fact.Delivered c head payload) = refl
number_fact j now (fact.Answer name ttl body) = refl
number_fact j now fact.Network = refl
number_fact j now fact.Tick = refl
number_fact j now (fact.Who o) = refl
number_fact j now fact.Stats = refl

pub number_step : (j : Journal) (now : ℕ) (f : Fact) (conn : ℕ) (frames : List Frame) (w : Option ℕ) → parts_behind j now f ≡ flat_map (delivery now conn) frames ++ cut_by now conn w → newest_number (step j now f) ≡ newest_after (newest_number j) f
number_step j now f conn frames w parts = read_step newest_number (λ conn n. n) number_read j now f conn frames w parts ∙ none_cut conn w (newest_number (Happened now f true ∷ j)) ∙ number_fact j now f
