-- What pieces bring one after the other, they bring joined.
use Rattle.std.proofs.Common.{◌≡◌, ℕ, List, [], ◌∷◌, ◌++◌, Option, Some, None, Result, Ok, Err, refl, ap, sym, ◌∙◌, subst, inl, inr}
use Rattle.std.proofs.lemmas.List.{append_assoc, append-nil}
use Rattle.alt_base.specs.declared.refusal.NoMemory.{NoMemory}
use Rattle.h2_framing.specs.declared.frame.Frame.{Frame}
use Rattle.h2_framing.specs.declared.reader.FrameReader.{FrameReader}
use Rattle.h2_framing.specs.declared.fed.Fed.{Fed}
use Rattle.h2_framing.specs.declared.fed.Fed.TheVariants.{Going, TooLarge}
use Rattle.h2_framing.specs.Streams.{split_of, frames_of, too_large_of}
use Rattle.h2_framing.specs.Reading.{StandsFor, Brings, AnswersPiece, with_frames, joined, BringAll}
use Rattle.h2_framing.proofs.Splitting.{stays_too_large}

-- octets behind a length above the limit
pub brings_nothing : (x p : List ℕ) (n : ℕ) → too_large_of x ≡ Some n → Brings x p [] (Some n)
brings_nothing x p n above = let g = stays_too_large x p n above in record { frames_are = g.frames_are; too_large_is = g.too_large_is }

pub brings_both : (x p q : List ℕ) (first second : List Frame) (before after : Option ℕ) → Brings x p first before → Brings (x ++ p) q second after → Brings x (p ++ q) (first ++ second) after
brings_both x p q first second before after a b =
    let e : (x ++ p) ++ q ≡ x ++ (p ++ q) = append_assoc x p q in
    record {
      frames_are = sym (ap frames_of e) ∙ b.frames_are ∙ ap (λ (fs : List Frame). fs ++ second) a.frames_are ∙ append_assoc (frames_of x) first second;
      too_large_is = sym (ap too_large_of e) ∙ b.too_large_is;
    }

-- a piece that ends at a length above the limit, and whatever follows it
pub brings_stays : (x p q : List ℕ) (frames : List Frame) (n : ℕ) → Brings x p frames (Some n) → Brings x (p ++ q) frames (Some n)
brings_stays x p q frames n a =
    subst (λ (fs : List Frame). Brings x (p ++ q) fs (Some n)) (append-nil frames) (brings_both x p q frames [] (Some n) (Some n) a (brings_nothing (x ++ p) q n a.too_large_is))

pub two_answers : (reader : FrameReader) (frames : List Frame) (answer : Result Fed NoMemory) (x p q : List ℕ) → AnswersPiece (Ok (Going reader frames)) x p → AnswersPiece answer (x ++ p) q → AnswersPiece (with_frames frames answer) x (p ++ q)
two_answers reader frames (Ok (Going next more)) x p q a b =
    (subst (λ (y : List ℕ). StandsFor next y) (append_assoc x p q) b.0, brings_both x p q frames more None None a.1 b.1)
two_answers reader frames (Ok (TooLarge more n)) x p q a b = brings_both x p q frames more None (Some n) a.1 b
two_answers reader frames (Err fault) x p q a b = tt

pub bring_joined : (pieces : List (List ℕ)) (x : List ℕ) (frames : List Frame) (too_large : Option ℕ) → too_large_of x ≡ None → BringAll x pieces frames too_large → Brings x (joined pieces) frames too_large
bring_joined [] x frames too_large going all =
    record {
      frames_are = ap frames_of (append-nil x) ∙ sym (append-nil (frames_of x)) ∙ ap (λ (fs : List Frame). frames_of x ++ fs) (sym all.0);
      too_large_is = ap too_large_of (append-nil x) ∙ going ∙ sym all.1;
    }
bring_joined (piece ∷ pieces) x frames too_large going (inl stops) =
    subst (λ (o : Option ℕ). Brings x (piece ++ joined pieces) frames o) (sym stops.1) (brings_stays x piece (joined pieces) frames stops.0 stops.2)
bring_joined (piece ∷ pieces) x frames too_large going (inr goes) =
    subst (λ (fs : List Frame). Brings x (piece ++ joined pieces) fs too_large) (sym goes.2)
    (brings_both x piece (joined pieces) goes.0 goes.1 None too_large goes.3 (bring_joined pieces (x ++ piece) goes.1 too_large goes.3.too_large_is goes.4))

-- the empty stream has no frames
empty_frames : frames_of [] ≡ []
unfolding split_of
empty_frames = refl

empty_going : too_large_of [] ≡ None
unfolding split_of
empty_going = refl

pub bring_whole : (pieces : List (List ℕ)) (frames : List Frame) (too_large : Option ℕ) → BringAll [] pieces frames too_large → (frames ≡ frames_of (joined pieces)) × (too_large ≡ too_large_of (joined pieces))
bring_whole pieces frames too_large all =
    let b = bring_joined pieces [] frames too_large empty_going all in
    (sym (b.frames_are ∙ ap (λ (fs : List Frame). fs ++ frames) empty_frames), sym b.too_large_is)
