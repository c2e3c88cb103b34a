-- The frames that further octets end.
use Rattle.std.proofs.Common.{◌≡◌, ℕ, List, [], ◌∷◌, ◌++◌, drop, length, Option, None, refl, ap, sym, ◌∙◌, append_assoc}
use Rattle.std.specs.List.{flat_map}
use Rattle.std.proofs.lemmas.List.{append-nil}
use Rattle.std.proofs.lemmas.Grind.{flat_map-append}
use Rattle.h2_framing.specs.declared.frame.Frame.{Frame}
use Rattle.h2_framing.specs.Streams.{frames_of, rest_of, too_large_of}
use Rattle.h2_framing.specs.Reading.{Brings}
use Rattle.h2_framing.proofs.Splitting.{split_some, goes_on}
use Rattle.route_events.specs.Journal.{Entry}
use Rattle.route_events.specs.Frames.{frames_behind, delivery, cut_by, deliveries}

pub drop_front : {X : Type 0} (xs ys : List X) → drop (length xs) (xs ++ ys) ≡ ys
drop_front [] ys = refl
drop_front (x ∷ xs) ys = drop_front xs ys

-- more octets only add frames
pub frames_more : (x b : List ℕ) → frames_of (x ++ b) ≡ frames_of x ++ frames_behind x b
frames_more x b =
    let rest : List ℕ = rest_of x ++ b in
    let goes : frames_of (x ++ b) ≡ frames_of x ++ frames_of (rest_of x ++ b) = (goes_on x b (frames_of (rest_of x ++ b)) (rest_of (rest_of x ++ b)) (too_large_of (rest_of x ++ b)) (split_some (rest_of x ++ b)).frames (split_some (rest_of x ++ b)).end).frames_are in
    goes ∙ ap (λ (fs : List Frame). frames_of x ++ fs) (sym (ap (drop (length (frames_of x))) goes ∙ drop_front (frames_of x) (frames_of (rest_of x ++ b))))

-- what two pieces end
frames_both : (x a b : List ℕ) → frames_behind x (a ++ b) ≡ frames_behind x a ++ frames_behind (x ++ a) b
frames_both x a b =
    let whole : frames_of (x ++ (a ++ b)) ≡ frames_of x ++ (frames_behind x a ++ frames_behind (x ++ a) b) =
    ap frames_of (sym (append_assoc x a b)) ∙ frames_more (x ++ a) b ∙ ap (λ (fs : List Frame). fs ++ frames_behind (x ++ a) b) (frames_more x a)
    ∙ append_assoc (frames_of x) (frames_behind x a) (frames_behind (x ++ a) b) in
    ap (drop (length (frames_of x))) whole ∙ drop_front (frames_of x) (frames_behind x a ++ frames_behind (x ++ a) b)

-- where the first piece isn't cut, the parts of both are those of one
pub deliveries_both : (now conn : ℕ) (x a b : List ℕ) → too_large_of (x ++ a) ≡ None → deliveries now conn x (a ++ b) ≡ deliveries now conn x a ++ deliveries now conn (x ++ a) b
deliveries_both now conn x a b going =
    let first : List Entry = flat_map (delivery now conn) (frames_behind x a) in
    let second : List Entry = flat_map (delivery now conn) (frames_behind (x ++ a) b) in
    let last : List Entry = cut_by now conn (too_large_of ((x ++ a) ++ b)) in
    let left : deliveries now conn x (a ++ b) ≡ (flat_map (delivery now conn) (frames_behind x a) ++ flat_map (delivery now conn) (frames_behind (x ++ a) b)) ++ cut_by now conn (too_large_of ((x ++ a) ++ b)) =
    ap (λ (fs : List Frame). flat_map (delivery now conn) fs ++ cut_by now conn (too_large_of (x ++ (a ++ b)))) (frames_both x a b)
    ∙ ap (λ (es : List Entry). es ++ cut_by now conn (too_large_of (x ++ (a ++ b)))) (flat_map-append (delivery now conn) (frames_behind x a) (frames_behind (x ++ a) b))
    ∙ ap (λ (y : List ℕ). (flat_map (delivery now conn) (frames_behind x a) ++ flat_map (delivery now conn) (frames_behind (x ++ a) b)) ++ cut_by now conn (too_large_of y)) (sym (append_assoc x a b)) in
    let uncut : deliveries now conn x a ≡ flat_map (delivery now conn) (frames_behind x a) =
    ap (λ w. flat_map (delivery now conn) (frames_behind x a) ++ cut_by now conn w) going ∙ append-nil (flat_map (delivery now conn) (frames_behind x a)) in
    left ∙ append_assoc first second last ∙ ap (λ (es : List Entry). es ++ (second ++ last)) (sym uncut)

-- what a reader of frames says that a piece brings
pub brought : (now conn : ℕ) (x piece : List ℕ) (frames : List Frame) (too_large : Option ℕ) → Brings x piece frames too_large → deliveries now conn x piece ≡ flat_map (delivery now conn) frames ++ cut_by now conn too_large
brought now conn x piece frames too_large brings =
    ap (λ (fs : List Frame). flat_map (delivery now conn) fs ++ cut_by now conn (too_large_of (x ++ piece)))
    (ap (drop (length (frames_of x))) brings.frames_are ∙ drop_front (frames_of x) frames)
    ∙ ap (λ w. flat_map (delivery now conn) frames ++ cut_by now conn w) brings.too_large_is
