-- Reading the fields of a kind one by one.
use Rattle.std.proofs.Common.{◌≡◌, ℕ, ◌+◌, true, List, [], ◌∷◌, ◌++◌, length, Option, Some, None, Ok, refl, ap, sym, ◌∙◌, subst}
use Rattle.std.specs.Cmp.Lexicographic.{same_text}
use Rattle.event_lines.specs.Parts.{Part, Reading, ◌>>=◌, next_word, value_or, field, refused, is_kind}
use Rattle.event_lines.specs.LineGrammar.{SpellsKind}
use Rattle.event_lines.specs.WordGrammar.{NoSpace, spaced}
use Rattle.event_lines.specs.LineRefusals.{EndsWord, IsNext}
use Rattle.event_lines.specs.declared.event.Event.{Event}
use Rattle.event_lines.specs.declared.refusal.LineRefusal.{LineRefusal}
use Rattle.event_lines.specs.declared.refusal.LineRefusal.TheVariants.{BadField}
use Rattle.event_lines.proofs.Refusals.{got_parts}
use Rattle.event_lines.proofs.Spaces.{next_reads, next_spaced, Next, Nothing, More, next_of}

abbrev pub part : List ℕ → ℕ → Part
part text place = record { text = text; place = place }

abbrev pub got : {A : Type 0} → A → Part → Reading A
got value left = Ok (value, left)

-- a field whose word is read
pub field_next : {A B : Type 0} (read : List ℕ → Option A) (next : A × Part → Reading B) (text word behind : List ℕ) (place : ℕ) (value : A) → IsNext text word behind → read word ≡ Some value
    → (field read (part text place) >>= next) ≡ next (value, part behind (place + 1 + length word))
field_next {A} {B} read next text word behind place value is_next is =
    ap (λ (r : Reading Part). (r >>= λ (w : Part × Part). value_or BadField w.0.place (read w.0.text) >>= λ v. got v w.1) >>= next) (next_reads BadField text word behind place is_next)
    ∙ ap (λ (o : Option A). (value_or BadField (place + 1) o >>= λ v. got v (part behind (place + 1 + length word))) >>= next) is

pub field_reads : {A B : Type 0} (read : List ℕ → Option A) (next : A × Part → Reading B) (word : List ℕ) (words : List (List ℕ)) (place : ℕ) (value : A) → NoSpace word → read word ≡ Some value
    → (field read (part (spaced (word ∷ words)) place) >>= next) ≡ next (value, part (spaced words) (place + 1 + length word))
field_reads {A} {B} read next word words place value apart is = field_next read next (spaced (word ∷ words)) word (spaced words) place value (next_spaced word words apart) is

-- what is read of a field, where a value comes of it and what follows
pub record Found {A B : Type 0} (read : List ℕ → Option A) (next : A × Part → Reading B) (text : List ℕ) (place : ℕ) (end : B × Part) : Type 0 where
  pub word : List ℕ
  pub behind : List ℕ
  pub value : A
  pub is_next : IsNext text word behind
  pub is_read : read word ≡ Some value
  pub then_is : next (value, part behind (place + 1 + length word)) ≡ Ok end

abbrev after_word : {A B : Type 0} → (List ℕ → Option A) → (A × Part → Reading B) → Reading Part → Reading B
after_word read next r = (r >>= λ (w : Part × Part). value_or BadField w.0.place (read w.0.text) >>= λ v. got v w.1) >>= next

pub field_found : {A B : Type 0} (read : List ℕ → Option A) (next : A × Part → Reading B) (text : List ℕ) (place : ℕ) (end : B × Part) → EndsWord text → (field read (part text place) >>= next) ≡ Ok end → Found read next text place end
field_found {A} {B} read next text place end ends h = go (next_of text ends)
  where
    clash : (p : ℕ) (why : LineRefusal) → refused {A = B × Part} p why ≡ Ok end → ⊥
    clash p why e = cc

    at : (word behind : List ℕ) (o : Option A) → IsNext text word behind → read word ≡ o → ((value_or BadField (place + 1) o >>= λ v. got v (part behind (place + 1 + length word))) >>= next) ≡ Ok end → Found read next text place end
    at word behind None s is e = absurd (clash (place + 1) BadField e)
    at word behind (Some value) s is e = record { word = word; behind = behind; value = value; is_next = s; is_read = is; then_is = e }

    go : Next text → Found read next text place end
    go (Nothing none) = absurd (clash place BadField (sym (ap (λ t. after_word read next (next_word BadField (part t place))) none) ∙ h))
    go (More word behind s) = at word behind (read word) s refl (sym (ap (after_word read next) (next_reads BadField text word behind place s)) ∙ h)

-- the words of a text are joined again
pub joined_last : (text word behind : List ℕ) → IsNext text word behind → behind ≡ [] → text ≡ spaced (word ∷ [])
joined_last text word behind s none = s.spelled ∙ ap (λ t. 32 ∷ (word ++ t)) none

pub joined : (text word behind : List ℕ) (words : List (List ℕ)) → IsNext text word behind → behind ≡ spaced words → text ≡ spaced (word ∷ words)
joined text word behind words s more = s.spelled ∙ ap (λ t. 32 ∷ (word ++ t)) more

abbrev pub text_of : Part → List ℕ
text_of p = p.text

-- and behind the name of a kind
pub behind_kind : (kind text whole : List ℕ) (words : List (List ℕ)) → whole ≡ 32 ∷ (kind ++ text) → text ≡ spaced words → whole ≡ spaced (kind ∷ words)
behind_kind kind text whole words is more = is ∙ ap (λ t. 32 ∷ (kind ++ t)) more

pub kind_named : (name kind text whole : List ℕ) → whole ≡ 32 ∷ (name ++ text) → is_kind name kind ≡ true → whole ≡ 32 ∷ (kind ++ text)
kind_named name kind text whole is t = is ∙ ap (λ n. 32 ∷ (n ++ text)) (same_text name kind (sym t))

-- a kind without fields, and nothing behind it
pub kind_alone : (kind text whole : List ℕ) (own event : Event) (place : ℕ) (left : Part) → (whole ≡ spaced (kind ∷ []) → SpellsKind whole own) → whole ≡ 32 ∷ (kind ++ text) → got own (part text place) ≡ got event left
    → left.text ≡ [] → SpellsKind whole event
kind_alone kind text whole own event place left spells is h none =
    let last = got_parts own event (part text place) left h in
    subst (SpellsKind whole) last.0 (spells (behind_kind kind text whole [] is (ap text_of last.1 ∙ none)))
