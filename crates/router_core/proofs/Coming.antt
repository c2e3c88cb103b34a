-- How a part of a step comes: a fact that is handed in and isn't refused, or a frame.
use Rattle.std.proofs.Common.{◌≡◌, ◌⊎◌, inl, inr, ℕ, Bool, true, ◌∷◌, None, sym, subst}
use Rattle.route_events.specs.declared.fact.Fact.{Fact}
use Rattle.route_events.specs.declared.fact.Fact.TheVariants as fact
use Rattle.route_events.specs.Journal.{Happened, Journal}
use Rattle.route_events.specs.Step.{refusal}
use Rattle.route_events.proofs.Sound.{Sound, sound_fact, sound_delivered}

-- an ALTSVC or ORIGIN frame comes at any time, another fact where it is handed in and isn't refused
abbrev pub IsFrame : Fact → Type 0
IsFrame (fact.Delivered conn head payload) = Unit {0}
IsFrame _ = ⊥

abbrev pub Comes : Journal → ℕ → Fact → Bool → Type 0
Comes j now f h = IsFrame f ⊎ ((h ≡ true) × (refusal j now f ≡ None))

pub sound_part : (j : Journal) (now : ℕ) (f : Fact) (h : Bool) → Sound j → Comes j now f h → Sound (Happened now f h ∷ j)
sound_part j now f h sound (inl frame) = by_frame f frame
  where
    by_frame : (f : Fact) → IsFrame f → Sound (Happened now f h ∷ j)
    by_frame (fact.Delivered c head payload) is = sound_delivered j now c head payload h sound
    by_frame _ is = absurd is
sound_part j now f h sound (inr handed) = subst (λ b. Sound (Happened now f b ∷ j)) (sym handed.0) (sound_fact j now f handed.1 sound)
