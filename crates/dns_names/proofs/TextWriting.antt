-- The loops that write a name's text.
use Rattle.std.proofs.Common.{◌≡◌, ℕ, ◌+◌, ◌<◌, List, [], ◌∷◌, ◌++◌, length, take, map, get_or, refl, ap, sym, ◌∙◌, arith}
use Rattle.std.proofs.lemmas.List.{append_assoc, map_push, take_more}
use Rattle.dns_names.specs.TextParts.{part_text, parts_text, dotted, part_of, text_form}
use Rattle.dns_names.proofs.TextSays.{parts_push, dotted_push}

pub parts_more : (label text old new : List ℕ) (i : ℕ) → i < length label → text ≡ old ++ parts_text (map part_of (take i label)) → new ≡ text ++ part_text (part_of (get_or label i 0)) → new ≡ old ++ parts_text (map part_of (take (i + 1) label))
parts_more label text old new i h so_far pushed =
    let more : map part_of (take (i + 1) label) ≡ map part_of (take i label) ++ part_of (get_or label i 0) ∷ [] = ap (λ xs. map part_of xs) (take_more label i 0 h) ∙ map_push part_of (take i label) (get_or label i 0) in
    pushed ∙ ap (λ xs. xs ++ part_text (part_of (get_or label i 0))) so_far ∙ append_assoc old (parts_text (map part_of (take i label))) (part_text (part_of (get_or label i 0)))
    ∙ ap (λ xs. old ++ xs) (sym (parts_push (map part_of (take i label)) (part_of (get_or label i 0))) ∙ ap parts_text (sym more))

pub dots_more : (labels : List (List ℕ)) (i : ℕ) (label slice text written new : List ℕ) → i < length labels → label ≡ get_or labels i label → slice ≡ label → text ≡ dotted (map (map part_of) (take i labels)) → written ≡ text ++ parts_text (map part_of slice) → new ≡ written ++ 46 ∷ []
    → new ≡ dotted (map (map part_of) (take (i + 1) labels))
dots_more labels i label slice text written new h is same so_far pushed dot =
    let more : map (map part_of) (take (i + 1) labels) ≡ map (map part_of) (take i labels) ++ map part_of label ∷ [] =
    ap (λ ls. map (map part_of) ls) (take_more labels i label h) ∙ map_push (map part_of) (take i labels) (get_or labels i label) ∙ ap (λ l. map (map part_of) (take i labels) ++ map part_of l ∷ []) (sym is) in
    dot ∙ ap (λ xs. xs ++ 46 ∷ []) (pushed ∙ ap (λ xs. xs ++ parts_text (map part_of slice)) so_far ∙ ap (λ l. dotted (map (map part_of) (take i labels)) ++ parts_text (map part_of l)) same)
    ∙ append_assoc (dotted (map (map part_of) (take i labels))) (parts_text (map part_of label)) (46 ∷ [])
    ∙ sym (dotted_push (map (map part_of) (take i labels)) (map part_of label)) ∙ ap dotted (sym more)

pub form_dotted : (labels : List (List ℕ)) → 0 < length labels → text_form labels ≡ dotted (map (map part_of) labels)
form_dotted [] h = absurd (omega arith)
form_dotted (label ∷ labels) h = refl
