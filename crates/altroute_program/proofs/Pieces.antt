-- The bytes of a piece, one at a time.
use Rattle.std.proofs.Common.{◌≡◌, ℕ, ◌+◌, ◌<◌, List, [], ◌∷◌, ◌++◌, length, take, drop, get_or, Option, Ok, Err, refl, ap, sym, ◌∙◌, subst, arith, append_assoc, append-nil, suc, zero, add-one}
use Rattle.std.proofs.lemmas.List.{take-append-drop}
use Rattle.alt_base.specs.Devices.{Grew, Grew-more}
use Rattle.both_ends.specs.Histories.{History}
use Rattle.altroute_program.specs.declared.state.Replay.{Replay}
use Rattle.altroute_show.specs.declared.status.Status.{Status}
use Rattle.altroute_program.specs.Reached.{Reached, BytesEnd}
use Rattle.altroute_show.proofs.Told.{grew_nothing}
use Rattle.altroute_program.proofs.Lines.{piece_error}

-- how far some bytes behind those of a start have come
abbrev pub Comes : Replay → Replay → List ℕ → Option (List ℕ) → Option (List ℕ) → Type 0
Comes first now piece before after =
    (bytes text : List ℕ) (j : History) → Reached first bytes text j → (more : List ℕ) × (k : History) × Reached now (bytes ++ piece) (text ++ more) k × Grew before after more

pub comes_nothing : (r : Replay) (told : Option (List ℕ)) → Comes r r [] told told
comes_nothing r told = λ bytes text j reached.
    ([], j, subst (λ bs. Reached r bs (text ++ []) j) (sym (append-nil bytes)) (subst (λ t. Reached r bytes t j) (sym (append-nil text)) reached), grew_nothing told)

take_more : (xs : List ℕ) (i d : ℕ) → i < length xs → take (suc i) xs ≡ take i xs ++ get_or xs i d ∷ []
take_more [] i d within = absurd (omega arith)
take_more (x ∷ xs) zero d within = refl
take_more (x ∷ xs) (suc i) d within = ap (λ ys. x ∷ ys) (take_more xs i d (omega arith))

pub take_one : (xs : List ℕ) (i d : ℕ) → i < length xs → take (i + 1) xs ≡ take i xs ++ get_or xs i d ∷ []
take_one xs i d within = rw add-one (take_more xs i d within)

-- one byte more
pub comes_more : (first old new : Replay) (piece : List ℕ) (i b : ℕ) (before middle after : Option (List ℕ)) → i < length piece → b ≡ get_or piece i 0 → Comes first old (take i piece) before middle
    → ((bytes text : List ℕ) (j : History) → Reached old bytes text j → BytesEnd (Ok tt) new middle after (bytes ++ b ∷ []) text) → Comes first new (take (i + 1) piece) before after
comes_more first old new piece i b before middle after within is comes ends = λ bytes text j reached.
    let so_far = comes bytes text j reached in
    let one = ends (bytes ++ take i piece) (text ++ so_far.0) so_far.1 so_far.2 in
    let same : (bytes ++ take i piece) ++ b ∷ [] ≡ bytes ++ take (i + 1) piece = append_assoc bytes (take i piece) (b ∷ []) ∙ ap (λ n. bytes ++ (take i piece ++ n ∷ [])) is ∙ ap (λ xs. bytes ++ xs) (sym (take_one piece i 0 within)) in (
      so_far.0 ++ one.0,
      one.1,
      subst (λ bs. Reached new bs (text ++ (so_far.0 ++ one.0)) one.1) same (subst (λ t. Reached new ((bytes ++ take i piece) ++ b ∷ []) t one.1) (append_assoc text so_far.0 one.0) one.2),
      Grew-more before middle after so_far.0 one.0 so_far.3 one.3,
    )

-- a byte at which it stops
pub comes_stop : (status : Status) (first old new : Replay) (piece : List ℕ) (i b : ℕ) (before middle after : Option (List ℕ)) → i < length piece → b ≡ get_or piece i 0 → Comes first old (take i piece) before middle
    → ((bytes text : List ℕ) (j : History) → Reached old bytes text j → BytesEnd (Err status) new middle after (bytes ++ b ∷ []) text)
    → (bytes text : List ℕ) (j : History) → Reached first bytes text j → BytesEnd (Err status) new before after (bytes ++ piece) text
comes_stop status first old new piece i b before middle after within is comes ends = λ bytes text j reached.
    let so_far = comes bytes text j reached in
    let one = ends (bytes ++ take i piece) (text ++ so_far.0) so_far.1 so_far.2 in
    let same : ((bytes ++ take i piece) ++ b ∷ []) ++ drop (i + 1) piece ≡ bytes ++ piece =
    ap (λ xs. xs ++ drop (i + 1) piece) (append_assoc bytes (take i piece) (b ∷ []) ∙ ap (λ n. bytes ++ (take i piece ++ n ∷ [])) is ∙ ap (λ xs. bytes ++ xs) (sym (take_one piece i 0 within)))
    ∙ append_assoc bytes (take (i + 1) piece) (drop (i + 1) piece) ∙ ap (λ xs. bytes ++ xs) (take-append-drop (i + 1) piece) in
    subst (λ bs. BytesEnd (Err status) new before after bs text) same
    (piece_error status new ((bytes ++ take i piece) ++ b ∷ []) (drop (i + 1) piece) text so_far.0 before middle after so_far.3 one)
