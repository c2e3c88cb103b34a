-- What one more fact makes of what was told and printed.
use Rattle.std.proofs.Common.{◌≡◌, ◌∷◌, ◌++◌, ℕ, List, Option, codes, ◌∙◌, ap, subst}
use Rattle.alt_base.specs.Devices.{Grew, Grew-more}
use Rattle.route_events.specs.declared.action.Action.{Action}
use Rattle.route_events.specs.declared.fact.Fact.{Fact}
use Rattle.route_events.specs.Journal.{Journal}
use Rattle.router_core.specs.declared.router.Router.{Router}
use Rattle.router_core.specs.StandsFor.{StandsFor, Takes}
use Rattle.example_client.specs.Transcript.{actions_text, fact_line, journal_of, transcript, HasTold}

same_lines : (a b : List ℕ) (xs ys : List Action) → a ≡ b → xs ≡ ys → (a ++ codes "\n") ++ actions_text xs ≡ (b ++ codes "\n") ++ actions_text ys
same_lines a b xs ys line actions = ap (λ t. (t ++ codes "\n") ++ actions_text xs) line ∙ ap (λ acts. (b ++ codes "\n") ++ actions_text acts) actions

-- the fact was handed in, and its lines were printed
pub told_more : (old new : Router) (first before after : Option (List ℕ)) (now : ℕ) (fact : Fact) (actions shown : List Action) (line text : List ℕ) → ((journal : Journal) → StandsFor old journal → Takes new actions journal now fact) → line ≡ fact_line now fact → shown ≡ actions → text ≡ (line ++ codes "\n") ++ actions_text shown → Grew before after text → HasTold old first before → HasTold new first after
told_more old new first before after now fact actions shown line text takes is_line is_shown is_text grew told =
    let taken = takes (journal_of told.0) told.1 in
    let printed = is_text ∙ same_lines _ _ _ _ is_line (is_shown ∙ taken.written) in
    ((now, fact) ∷ told.0, taken.stands, Grew-more first before after (transcript told.0) _ told.2 (subst (Grew before after) printed grew))
