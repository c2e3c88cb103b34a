-- The loops that write the items of a list.
use Rattle.std.proofs.Common.{◌≡◌, ℕ, ◌+◌, ◌-◌, ◌<◌, ◌≤◌, Bool, true, false, cond, List, [], ◌∷◌, ◌++◌, length, take, drop, map, get_or, Result, Ok, Err, OnOk, refl, ap, sym, ◌∙◌, arith}
use Rattle.std.proofs.lemmas.List.{append_assoc, append-nil, map_push, take_more}
use Rattle.std.specs.List.{join_with_byte}
use Rattle.svcb_values.specs.Commas.{behind_commas}
use Rattle.svcb_values.specs.ValueReading.{is_escaped}
use Rattle.svcb_values.specs.Written.{id_written}

pub texts_more : {A : Type 0} (f : A → List ℕ) (items : List A) (i : ℕ) (item : A) (texts new : List (List ℕ)) → i < length items → texts ≡ map f (take i items) → new ≡ texts ++ f (get_or items i item) ∷ []
    → new ≡ map f (take (i + 1) items)
texts_more f items i item texts new h so_far pushed =
    pushed ∙ ap (λ xs. xs ++ f (get_or items i item) ∷ []) so_far ∙ sym (map_push f (take i items) (get_or items i item)) ∙ ap (map f) (sym (take_more items i item h))

-- bytes of an id, one after the other
id_written-append : (x y : List ℕ) → id_written (x ++ y) ≡ id_written x ++ id_written y
id_written-append [] y = refl
id_written-append (b ∷ bs) y = go (is_escaped b) (id_written-append bs y)
  where
    go : (t : Bool) → id_written (bs ++ y) ≡ id_written bs ++ id_written y
        → cond t (92 ∷ b ∷ id_written (bs ++ y)) (b ∷ id_written (bs ++ y)) ≡ cond t (92 ∷ b ∷ id_written bs) (b ∷ id_written bs) ++ id_written y
    go true e = ap (λ xs. 92 ∷ b ∷ xs) e
    go false e = ap (λ xs. b ∷ xs) e

pub id_more : (id : List ℕ) (i d : ℕ) (text new : List ℕ) → i < length id → text ≡ id_written (take i id) → new ≡ text ++ id_written (get_or id i d ∷ []) → new ≡ id_written (take (i + 1) id)
id_more id i d text new h so_far one =
    one ∙ ap (λ xs. xs ++ id_written (get_or id i d ∷ [])) so_far ∙ sym (id_written-append (take i id) (get_or id i d ∷ [])) ∙ ap id_written (sym (take_more id i d h))

joined_from : (first : List ℕ) (items : List (List ℕ)) → join_with_byte 44 (first ∷ items) ≡ first ++ behind_commas items
joined_from first [] = sym (append-nil first)
joined_from first (item ∷ items) = ap (λ xs. first ++ 44 ∷ xs) (joined_from item items)

take_whole : (items : List (List ℕ)) → take (length items) items ≡ items
take_whole [] = refl
take_whole (item ∷ items) = ap (λ xs. item ∷ xs) (take_whole items)

further_whole : (item : List ℕ) (items : List (List ℕ)) → take (length (item ∷ items) - 1) items ≡ items
further_whole item items = let count : length (item ∷ items) - 1 ≡ length items = omega arith in ap (λ n. take n items) count ∙ take_whole items

joined_by : (items : List (List ℕ)) (first slice text mid new : List ℕ) → 1 ≤ length items → first ≡ get_or items 0 first → slice ≡ first → mid ≡ text ++ slice → new ≡ mid ++ behind_commas (take (length items - 1) (drop 1 items))
    → new ≡ text ++ join_with_byte 44 items
joined_by [] first slice text mid new some is same one two = absurd (omega arith)
joined_by (item ∷ items) first slice text mid new some is same one two =
    two ∙ ap (λ xs. mid ++ behind_commas xs) (further_whole item items) ∙ ap (λ xs. xs ++ behind_commas items) (one ∙ ap (λ xs. text ++ xs) (same ∙ is)) ∙ append_assoc text item (behind_commas items)
    ∙ ap (λ xs. text ++ xs) (sym (joined_from item items))

pub joined_answer : {E : Type 0} (r : Result (Unit {0}) E) (items : List (List ℕ)) (first slice text mid new : List ℕ) → 1 ≤ length items → first ≡ get_or items 0 first → slice ≡ first → mid ≡ text ++ slice
    → OnOk r (new ≡ mid ++ behind_commas (take (length items - 1) (drop 1 items))) → OnOk r (new ≡ text ++ join_with_byte 44 items)
joined_answer (Ok done) items first slice text mid new some is same one two = joined_by items first slice text mid new some is same one two
joined_answer (Err reason) items first slice text mid new some is same one two = tt
