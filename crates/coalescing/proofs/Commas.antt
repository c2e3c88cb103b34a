-- The items between the commas of a text.
use Rattle.std.proofs.Common.{◌≡◌, ℕ, ◌+◌, Bool, true, false, cond, nat_eq, List, [], ◌∷◌, ◌++◌, length, append_assoc, append-nil, length-append, refl, ap, sym, ◌∙◌}
use Rattle.std.specs.List.{onto_first, join_with_byte}
use Rattle.coalescing.specs.declared.cert_name.CertName.{CertName}
use Rattle.coalescing.specs.NamesGrammar.{SpellEach, with_commas, EndsItem}
use Rattle.coalescing.specs.NamesReading.{items_of}
use Rattle.coalescing.proofs.Apart.{Without, without_nil, without_cons, without_tail, without_head}
use Rattle.coalescing.proofs.Items.{item_apart}
use Rattle.alt_base.proofs.Numbers.{true_eq}

-- no item holds a comma
abbrev pub AllApart : List (List ℕ) → Type 0
AllApart [] = Unit {0}
AllApart (item ∷ items) = Without 44 item × AllApart items

apart_onto : (b : ℕ) (items : List (List ℕ)) → nat_eq b 44 ≡ false → AllApart items → AllApart (onto_first b items)
apart_onto b [] other h = (without_cons 44 b [] other (without_nil 44), tt)
apart_onto b (item ∷ items) other h = (without_cons 44 b item other h.0, h.1)

pub items_apart : (text : List ℕ) → AllApart (items_of text)
items_apart [] = (without_nil 44, tt)
items_apart (b ∷ bs) = go (nat_eq b 44) refl (items_apart bs)
  where
    go : (t : Bool) → nat_eq b 44 ≡ t → AllApart (items_of bs) → AllApart (cond t ([] ∷ items_of bs) (onto_first b (items_of bs)))
    go true is h = (without_nil 44, h)
    go false is h = apart_onto b (items_of bs) is h

pub apart_at : (before after : List (List ℕ)) (item : List ℕ) → AllApart (before ++ item ∷ after) → Without 44 item
apart_at [] after item h = h.0
apart_at (first ∷ before) after item h = apart_at before after item h.1

pub one_item : (item : List ℕ) → Without 44 item → items_of item ≡ item ∷ []
one_item [] h = refl
one_item (b ∷ bs) h = rw (without_head 44 b bs h) (ap (onto_first b) (one_item bs (without_tail 44 b bs h)))

pub first_item : (item rest : List ℕ) → Without 44 item → items_of (item ++ 44 ∷ rest) ≡ item ∷ items_of rest
first_item [] rest h = refl
first_item (b ∷ bs) rest h = rw (without_head 44 b bs h) (ap (onto_first b) (first_item bs rest (without_tail 44 b bs h)))

-- an item up to the next comma or the end
pub item_in_front : (item behind : List ℕ) → Without 44 item → EndsItem behind → (more : List (List ℕ)) × (items_of (item ++ behind) ≡ item ∷ more)
item_in_front item [] h end = ([], ap items_of (append-nil item) ∙ one_item item h)
item_in_front item (b ∷ bs) h end = (items_of bs, ap (λ c. items_of (item ++ c ∷ bs)) end ∙ first_item item bs h)

pub items_behind : (before : List (List ℕ)) (names : List CertName) (rest : List ℕ) → SpellEach before names → items_of (with_commas before ++ rest) ≡ before ++ items_of rest
items_behind [] names rest h = refl
items_behind (item ∷ before) [] rest h = absurd h
items_behind (item ∷ before) (name ∷ names) rest h =
    ap items_of (append_assoc item (44 ∷ with_commas before) rest)
    ∙ first_item item (with_commas before ++ rest) (item_apart item name h.0)
    ∙ ap (λ xs. item ∷ xs) (items_behind before names rest h.1)

pub items_joined : (items : List (List ℕ)) (name : CertName) (names : List CertName) → SpellEach items (name ∷ names) → items_of (join_with_byte 44 items) ≡ items
items_joined [] name names h = absurd h
items_joined (item ∷ []) name names h = one_item item (item_apart item name h.0)
items_joined (item ∷ next ∷ items) name [] h = absurd h.1
items_joined (item ∷ next ∷ items) name (second ∷ names) h =
    first_item item (join_with_byte 44 (next ∷ items)) (item_apart item name h.0)
    ∙ ap (λ xs. item ∷ xs) (items_joined (next ∷ items) second names h.1)

-- the text behind an item that these items follow
abbrev pub behind_item : List (List ℕ) → List ℕ
behind_item [] = []
behind_item (next ∷ items) = 44 ∷ join_with_byte 44 (next ∷ items)

pub behind_ends : (items : List (List ℕ)) → EndsItem (behind_item items)
behind_ends [] = tt
behind_ends (next ∷ items) = refl

pub joined_at : (before after : List (List ℕ)) (item : List ℕ) → join_with_byte 44 (before ++ item ∷ after) ≡ with_commas before ++ (item ++ behind_item after)
joined_at [] [] item = sym (append-nil item)
joined_at [] (next ∷ after) item = refl
joined_at (first ∷ []) after item =
    ap (λ xs. first ++ 44 ∷ xs) (joined_at [] after item) ∙ sym (append_assoc first (44 ∷ []) (item ++ behind_item after))
joined_at (first ∷ second ∷ before) after item =
    ap (λ xs. first ++ 44 ∷ xs) (joined_at (second ∷ before) after item)
    ∙ sym (append_assoc first (44 ∷ with_commas (second ∷ before)) (item ++ behind_item after))

-- the items with a comma behind each are the text with one comma more
commas_onto : (b : ℕ) (text : List ℕ) (items : List (List ℕ)) → with_commas items ≡ text ++ 44 ∷ [] → with_commas (onto_first b items) ≡ b ∷ (text ++ 44 ∷ [])
commas_onto b [] [] h = cc
commas_onto b (x ∷ text) [] h = cc
commas_onto b text (item ∷ items) h = ap (λ xs. b ∷ xs) h

pub all_commas : (text : List ℕ) → with_commas (items_of text) ≡ text ++ 44 ∷ []
all_commas [] = refl
all_commas (b ∷ bs) = go (nat_eq b 44) refl (all_commas bs)
  where
    go : (t : Bool) → nat_eq b 44 ≡ t → with_commas (items_of bs) ≡ bs ++ 44 ∷ [] → with_commas (cond t ([] ∷ items_of bs) (onto_first b (items_of bs))) ≡ b ∷ (bs ++ 44 ∷ [])
    go true is h = ap (λ c. c ∷ with_commas (items_of bs)) (sym (true_eq b 44 is)) ∙ ap (λ xs. b ∷ xs) h
    go false is h = commas_onto b bs (items_of bs) h

pub length_all_commas : (text : List ℕ) → length (with_commas (items_of text)) ≡ length text + 1
length_all_commas text = ap length (all_commas text) ∙ length-append text (44 ∷ [])
