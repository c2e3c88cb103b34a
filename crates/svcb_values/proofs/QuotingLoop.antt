-- The loop that writes bytes between quotes.
use Rattle.std.proofs.Common.{◌≡◌, ℕ, ◌+◌, ◌<◌, List, [], ◌∷◌, ◌++◌, length, take, map, get_or, ap, sym, ◌∙◌}
use Rattle.std.proofs.lemmas.List.{map_push, take_more}
use Rattle.dns_names.specs.TextParts.{part_text, parts_text}
use Rattle.dns_names.proofs.TextSays.{parts_push}
use Rattle.svcb_values.specs.Written.{written_part}

pub parts_more : (bytes text new : List ℕ) (i : ℕ) → i < length bytes → text ≡ 34 ∷ parts_text (map written_part (take i bytes)) → new ≡ text ++ part_text (written_part (get_or bytes i 0)) → new ≡ 34 ∷ parts_text (map written_part (take (i + 1) bytes))
parts_more bytes text new i h so_far pushed =
    let more : map written_part (take (i + 1) bytes) ≡ map written_part (take i bytes) ++ written_part (get_or bytes i 0) ∷ [] = ap (λ xs. map written_part xs) (take_more bytes i 0 h) ∙ map_push written_part (take i bytes) (get_or bytes i 0) in
    pushed ∙ ap (λ xs. xs ++ part_text (written_part (get_or bytes i 0))) so_far
    ∙ ap (λ xs. 34 ∷ xs) (sym (parts_push (map written_part (take i bytes)) (written_part (get_or bytes i 0))) ∙ ap parts_text (sym more))
