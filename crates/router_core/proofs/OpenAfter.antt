-- Which connections are open after a step.
use Rattle.std.proofs.Common.{◌≡◌, ℕ, Bool, true, false, cond, not, ◌&&◌, ◌||◌, nat_eq, List, [], ◌∷◌, ◌++◌, filter, find, Option, Some, None, is_some, refl, ap, sym, ◌∙◌}
use Rattle.std.specs.List.{list_any, flat_map}
use Rattle.alt_base.proofs.Numbers.{true_eq}
use Rattle.h2_framing.specs.declared.frame.Frame.{Frame}
use Rattle.route_events.specs.declared.action.Action.{Action}
use Rattle.route_events.specs.declared.connection.Connection.{Connection}
use Rattle.route_events.specs.declared.fact.Fact.{Fact}
use Rattle.route_events.specs.Journal.{Entry, Happened, Taken, Journal}
use Rattle.route_events.specs.Attempts.{has_ended}
use Rattle.route_events.specs.Connections.{connections, closes, is_open_number}
use Rattle.route_events.specs.Frames.{delivery, cut_by}
use Rattle.route_events.specs.Step.{with_actions, with_part, settled, follow, parts_of, parts_behind, answer_to, step}
use Rattle.route_events.proofs.Parts.{ended_part}
use Rattle.router_core.proofs.StepReadings.{IsReading, cut_from, read_frames, read_step}

-- which connections were made, and which were closed

pub made_read : IsReading connections (λ conn cs. cs)
made_read = record { taken = λ a j. refl; delivered = λ now conn head payload j. refl; cut = λ now conn count j. refl }

pub closed_read : (n : ℕ) → IsReading (λ (j : Journal). list_any (closes n) j) (λ conn b. nat_eq conn n || b)
closed_read n = record { taken = λ a j. refl; delivered = λ now conn head payload j. refl; cut = λ now conn count j. refl }

-- which number is open: one whose connection was made and isn't closed

abbrev pub was_made : Journal → ℕ → Bool
was_made j n = is_some (find (λ (c : Connection). nat_eq c.number n) (connections j))

found_among : (g : ℕ → Bool) (n : ℕ) (cs : List Connection) → is_some (find (λ (c : Connection). nat_eq c.number n) (filter (λ (c : Connection). g c.number) cs)) ≡ (is_some (find (λ (c : Connection). nat_eq c.number n) cs) && g n)
found_among g n [] = refl
found_among g n (c ∷ cs) = by_tests (nat_eq c.number n) (g c.number) refl refl (found_among g n cs)
  where
    nothing : (b : Bool) → (b && false) ≡ false
    nothing true = refl
    nothing false = refl

    by_tests : (b d : Bool) → nat_eq c.number n ≡ b → g c.number ≡ d → is_some (find (λ (x : Connection). nat_eq x.number n) (filter (λ (x : Connection). g x.number) cs)) ≡ (is_some (find (λ (x : Connection). nat_eq x.number n) cs) && g n)
        → is_some (find (λ (x : Connection). nat_eq x.number n) (cond {A = List Connection} d (c ∷ filter (λ (x : Connection). g x.number) cs) (filter (λ (x : Connection). g x.number) cs))) ≡ (is_some (cond {A = Option Connection} b (Some c) (find (λ (x : Connection). nat_eq x.number n) cs)) && g n)
    by_tests true true same passes rest = ap (λ b. is_some (cond {A = Option Connection} b (Some c) (find (λ (x : Connection). nat_eq x.number n) (filter (λ (x : Connection). g x.number) cs)))) same ∙ sym passes ∙ ap g (true_eq c.number n same)
    by_tests true false same passes rest =
        let fails : g n ≡ false = ap g (sym (true_eq c.number n same)) ∙ passes in
        rest ∙ ap (λ b. is_some (find (λ (x : Connection). nat_eq x.number n) cs) && b) fails ∙ nothing (is_some (find (λ (x : Connection). nat_eq x.number n) cs)) ∙ sym fails
    by_tests false true same passes rest = ap (λ b. is_some (cond {A = Option Connection} b (Some c) (find (λ (x : Connection). nat_eq x.number n) (filter (λ (x : Connection). g x.number) cs)))) same ∙ rest
    by_tests false false same passes rest = rest

pub open_where : (j : Journal) (n : ℕ) → is_open_number j n ≡ (was_made j n && not (list_any (closes n) j))
open_where j n = found_among (λ m. not (list_any (closes m) j)) n (connections j)

-- the same connections were made and closed
pub open_same : (j k : Journal) (n : ℕ) → connections k ≡ connections j → list_any (closes n) k ≡ list_any (closes n) j → is_open_number k n ≡ is_open_number j n
open_same j k n made closed =
    open_where k n ∙ (λ i. is_some (find (λ (c : Connection). nat_eq c.number n) (made i)) && not (closed i)) ∙ sym (open_where j n)

-- frames leave open what is open
pub frames_open : (now conn : ℕ) (frames : List Frame) (j : Journal) (n : ℕ) → is_open_number (follow j now (flat_map (delivery now conn) frames)) n ≡ is_open_number j n
frames_open now conn frames j n =
    open_same j (follow j now (flat_map (delivery now conn) frames)) n (read_frames connections (λ conn cs. cs) made_read now conn frames j) (read_frames (λ (j : Journal). list_any (closes n) j) (λ conn b. nat_eq conn n || b) (closed_read n) now conn frames j)

-- a step, by the parts behind its fact

pub connections_step : (j : Journal) (now : ℕ) (f : Fact) (conn : ℕ) (frames : List Frame) (w : Option ℕ) → parts_behind j now f ≡ flat_map (delivery now conn) frames ++ cut_by now conn w → connections (step j now f) ≡ connections (Happened now f true ∷ j)
connections_step j now f conn frames w parts = read_step connections (λ conn cs. cs) made_read j now f conn frames w parts ∙ none_cut w
  where
    none_cut : (w : Option ℕ) → cut_from (λ conn cs. cs) conn w (connections (Happened now f true ∷ j)) ≡ connections (Happened now f true ∷ j)
    none_cut None = refl
    none_cut (Some count) = refl

pub closes_step : (j : Journal) (now : ℕ) (f : Fact) (conn : ℕ) (frames : List Frame) (w : Option ℕ) (n : ℕ) → parts_behind j now f ≡ flat_map (delivery now conn) frames ++ cut_by now conn w →
    list_any (closes n) (step j now f) ≡ ((is_some w && nat_eq conn n) || list_any (closes n) (Happened now f true ∷ j))
closes_step j now f conn frames w n parts = read_step (λ (j : Journal). list_any (closes n) j) (λ conn b. nat_eq conn n || b) (closed_read n) j now f conn frames w parts ∙ by_cut w
  where
    by_cut : (w : Option ℕ) → cut_from (λ conn b. nat_eq conn n || b) conn w (list_any (closes n) (Happened now f true ∷ j)) ≡ ((is_some w && nat_eq conn n) || list_any (closes n) (Happened now f true ∷ j))
    by_cut None = refl
    by_cut (Some count) = refl

-- an attempt that has ended has ended for good

ended_with : (j : Journal) (as' : List Action) (n : ℕ) → has_ended j n ≡ true → has_ended (with_actions j as') n ≡ true
ended_with j [] n h = h
ended_with j (a ∷ as') n h = ended_with (Taken a ∷ j) as' n h

ended_follow : (j : Journal) (now : ℕ) (parts : List Entry) (n : ℕ) → has_ended j n ≡ true → has_ended (follow j now parts) n ≡ true
ended_follow j now [] n h = h
ended_follow j now (part ∷ parts) n h = ended_follow (settled (with_part j now part) now) now parts n (ended_part j now part n h)

pub ended_step : (j : Journal) (now : ℕ) (f : Fact) (n : ℕ) → has_ended j n ≡ true → has_ended (step j now f) n ≡ true
ended_step j now f n h = ended_with (follow j now (parts_of j now f)) (answer_to (follow j now (parts_of j now f)) now f) n (ended_follow j now (parts_of j now f) n h)
