-- The scheme at the front of an origin's text.
use Rattle.std.proofs.Common.{◌≡◌, ◌⊎◌, ℕ, ◌≤◌, Bool, true, false, cond, ◌&&◌, nat_eq, List, [], ◌∷◌, ◌++◌, length, map, take, drop, codes, refl, ap, ap₂, sym, ◌∙◌, arith, inl, inr, take-append-drop}
use Rattle.std.specs.Char.{to_ascii_lowercase}
use Rattle.origin_values.specs.OriginGrammar.{SpellsScheme}
use Rattle.origin_values.specs.OriginReading.{begins, read_rest, read_origin, refusal_at}
use Rattle.origin_values.specs.declared.scheme.Scheme.{Scheme}
use Rattle.origin_values.specs.declared.scheme.Scheme.TheVariants.{Http, Https}
use Rattle.origin_values.specs.declared.refusal.OriginRefusal.TheVariants.{BadScheme}
use Rattle.origin_values.proofs.Lowercase.{length_lower}
use Rattle.alt_base.proofs.Conjunctions.{both}
use Rattle.alt_base.proofs.Numbers.{true_eq}
use Rattle.alt_base.proofs.Booleans.{contradicts}

-- whether a list begins with another
abbrev starts : List ℕ → List ℕ → Bool
starts [] text = true
starts (c ∷ front) [] = false
starts (c ∷ front) (b ∷ bs) = nat_eq b c && starts front bs

begins_by_letters : (front letters rest : List ℕ) → length front ≤ length letters → begins front (letters ++ rest) ≡ starts front (map to_ascii_lowercase letters)
begins_by_letters [] letters rest short = refl
begins_by_letters (c ∷ front) [] rest short = absurd (omega arith)
begins_by_letters (c ∷ front) (b ∷ letters) rest short = ap (λ t. nat_eq (to_ascii_lowercase b) c && t) (begins_by_letters front letters rest (omega arith))

begins_sound : (front text : List ℕ) → begins front text ≡ true → map to_ascii_lowercase (take (length front) text) ≡ front
begins_sound [] text h = refl
begins_sound (c ∷ front) [] h = cc
begins_sound (c ∷ front) (b ∷ bs) h =
    let t = both (nat_eq (to_ascii_lowercase b) c) (begins front bs) h in
    ap₂ (λ x xs. x ∷ xs) (true_eq (to_ascii_lowercase b) c t.0) (begins_sound front bs t.1)

drop_front : (front rest : List ℕ) (n : ℕ) → length front ≡ n → drop n (front ++ rest) ≡ rest
drop_front [] rest n is = ap (λ m. drop m rest) (sym is)
drop_front (b ∷ front) rest n is = ap (λ m. drop m (b ∷ (front ++ rest))) (sym is) ∙ drop_front front rest (length front) refl

cond_true : {A : Type 0} (t : Bool) (x y : A) → t ≡ true → cond t x y ≡ x
cond_true t x y h = rw h refl

cond_false : {A : Type 0} (t : Bool) (x y : A) → t ≡ false → cond t x y ≡ y
cond_false t x y h = rw h refl

-- a scheme's text, and then what follows it
pub scheme_reads : (letters rest : List ℕ) (scheme : Scheme) → SpellsScheme letters scheme → read_origin (letters ++ rest) ≡ read_rest scheme (length letters) rest
unfolding read_origin
scheme_reads letters rest Http h =
    let count : length letters ≡ 7 = sym (length_lower letters) ∙ ap length h in
    let is : begins (codes "http://") (letters ++ rest) ≡ true = begins_by_letters (codes "http://") letters rest (omega arith) ∙ ap (starts (codes "http://")) h in
    cond_true _ _ _ is ∙ ap₂ (λ n xs. read_rest Http n xs) (sym count) (drop_front letters rest 7 count)
scheme_reads letters rest Https h =
    let count : length letters ≡ 8 = sym (length_lower letters) ∙ ap length h in
    let not_http : begins (codes "http://") (letters ++ rest) ≡ false = begins_by_letters (codes "http://") letters rest (omega arith) ∙ ap (starts (codes "http://")) h in
    let is : begins (codes "https://") (letters ++ rest) ≡ true = begins_by_letters (codes "https://") letters rest (omega arith) ∙ ap (starts (codes "https://")) h in
    cond_false _ _ _ not_http ∙ (cond_true _ _ _ is ∙ ap₂ (λ n xs. read_rest Https n xs) (sym count) (drop_front letters rest 8 count))

-- a text's scheme and what follows it
pub record HasScheme (text : List ℕ) : Type 0 where
  pub letters : List ℕ
  pub rest : List ℕ
  pub scheme : Scheme
  pub spelled : text ≡ letters ++ rest
  pub of_scheme : SpellsScheme letters scheme

pub record HasNoScheme (text : List ℕ) : Type 0 where
  pub none : (letters rest : List ℕ) (scheme : Scheme) → text ≡ letters ++ rest → SpellsScheme letters scheme → ⊥
  pub reads : read_origin text ≡ refusal_at 0 BadScheme

neither : (text : List ℕ) → begins (codes "http://") text ≡ false → begins (codes "https://") text ≡ false
    → (letters rest : List ℕ) (scheme : Scheme) → text ≡ letters ++ rest → SpellsScheme letters scheme → ⊥
neither text http https letters rest Http spelled h =
    let count : length letters ≡ 7 = sym (length_lower letters) ∙ ap length h in
    contradicts _ (ap (begins (codes "http://")) spelled ∙ (begins_by_letters (codes "http://") letters rest (omega arith) ∙ ap (starts (codes "http://")) h)) http
neither text http https letters rest Https spelled h =
    let count : length letters ≡ 8 = sym (length_lower letters) ∙ ap length h in
    contradicts _ (ap (begins (codes "https://")) spelled ∙ (begins_by_letters (codes "https://") letters rest (omega arith) ∙ ap (starts (codes "https://")) h)) https

pub scheme_found : (text : List ℕ) → HasScheme text ⊎ HasNoScheme text
unfolding read_origin
scheme_found text = go (begins (codes "http://") text) (begins (codes "https://") text) refl refl
  where
    go : (s t : Bool) → begins (codes "http://") text ≡ s → begins (codes "https://") text ≡ t → HasScheme text ⊎ HasNoScheme text
    go true t is_s is_t = inl (record { letters = take 7 text; rest = drop 7 text; scheme = Http; spelled = sym (take-append-drop 7 text); of_scheme = begins_sound (codes "http://") text is_s })
    go false true is_s is_t = inl (record { letters = take 8 text; rest = drop 8 text; scheme = Https; spelled = sym (take-append-drop 8 text); of_scheme = begins_sound (codes "https://") text is_t })
    go false false is_s is_t = inr (record { none = neither text is_s is_t; reads = cond_false _ _ _ is_s ∙ cond_false _ _ _ is_t })
