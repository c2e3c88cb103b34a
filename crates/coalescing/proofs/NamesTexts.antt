-- The text of names spells them, and names that are spelled have a text.
use Rattle.std.proofs.Common.{◌≡◌, ℕ, List, [], ◌∷◌, ◌++◌, map, Some, Result, Ok, Err, IfOk, append-nil, refl, ap, sym, ◌∙◌, subst, arith}
use Rattle.std.specs.List.{join_with_byte}
use Rattle.std.specs.Char.{to_ascii_lowercase}
use Rattle.alt_base.specs.declared.refusal.Refused.{Refused}
use Rattle.origin_values.specs.declared.host.Host.TheVariants.{Name}
use Rattle.origin_values.proofs.AddressTexts.{addr_written, addr_valid}
use Rattle.origin_values.proofs.HostTexts.{host_valid}
use Rattle.coalescing.specs.declared.cert_name.CertName.{CertName}
use Rattle.coalescing.specs.declared.cert_name.CertName.TheVariants.{Exact, Wild, Ip}
use Rattle.coalescing.specs.declared.refusal.CertRefusal.{CertRefusal}
use Rattle.coalescing.specs.NamesGrammar.{SpellsItem, SpellEach, SpellsNames}
use Rattle.coalescing.specs.NamesReading.{items_of, read_names}
use Rattle.coalescing.specs.NamesWritten.{name_text, names_text, IsCertName, AreCertNames, HaveText}
use Rattle.coalescing.proofs.Commas.{items_joined}
use Rattle.coalescing.proofs.Items.{item_read}
use Rattle.coalescing.proofs.NamesLemmas.{names_read, hyphen_spelled}

name_written : (name : CertName) → IsCertName name → SpellsItem (name_text name) name
name_written (Exact name) h = h
name_written (Wild base) h = record { behind = base; spelled = refl; name = h }
name_written (Ip addr) h = addr_written addr h

each_written : (names : List CertName) → AreCertNames names → SpellEach (map name_text names) names
each_written [] h = tt
each_written (name ∷ names) h = (name_written name h.0, each_written names h.1)

texts_joined : (name : CertName) (names : List CertName) → names_text (name ∷ names) ≡ join_with_byte 44 (map name_text (name ∷ names))
texts_joined name [] = append-nil (name_text name)
texts_joined name (next ∷ names) = ap (λ xs. name_text name ++ 44 ∷ xs) (texts_joined next names)

same_name : (a b : CertName) → Some a ≡ Some b → a ≡ b
same_name a b e = cc

-- one item that is `-` is the host's name `-`
only_hyphen : (name : CertName) (names : List CertName) → AreCertNames (name ∷ names) → map name_text (name ∷ names) ≡ (45 ∷ []) ∷ [] → name ∷ names ≡ Exact (45 ∷ []) ∷ []
only_hyphen name [] h e =
    let text : name_text name ≡ 45 ∷ [] = cc in
    ap (λ n. n ∷ []) (same_name name (Exact (45 ∷ []))
    (sym (item_read (45 ∷ []) name (subst (λ xs. SpellsItem xs name) text (name_written name h.0))) ∙ item_read (45 ∷ []) (Exact (45 ∷ [])) hyphen_spelled))
only_hyphen name (next ∷ names) h e = cc

pub names_written : (names : List CertName) → HaveText names → SpellsNames (names_text names) names
names_written [] h = refl
names_written (name ∷ names) h = (
  λ same. h.unlike_none (only_hyphen name names h.each (sym (items_joined (map name_text (name ∷ names)) name names (each_written (name ∷ names) h.each)) ∙ ap items_of (sym (texts_joined name names) ∙ same))),
  record { items = map name_text (name ∷ names); each = each_written (name ∷ names) h.each; spelled = texts_joined name names },
)

pub names_back : (names : List CertName) → HaveText names → read_names (names_text names) ≡ Ok names
names_back names h = names_read (names_text names) names (names_written names h)

item_valid : (text : List ℕ) (name : CertName) → SpellsItem text name → IsCertName name
item_valid text (Exact name) h = host_valid text (Name name) h
item_valid text (Wild base) h = host_valid h.behind (Name base) h.name
item_valid text (Ip addr) h = addr_valid text addr h

each_valid : (items : List (List ℕ)) (names : List CertName) → SpellEach items names → AreCertNames names
each_valid [] [] h = tt
each_valid [] (name ∷ names) h = absurd h
each_valid (item ∷ items) [] h = absurd h
each_valid (item ∷ items) (name ∷ names) h = (item_valid item name h.0, each_valid items names h.1)

hyphen_of_lower : (b : ℕ) → to_ascii_lowercase b ≡ 45 → b ≡ 45
hyphen_of_lower b h = grind arith

hyphen_from_lower : (item : List ℕ) → 45 ∷ [] ≡ map to_ascii_lowercase item → item ≡ 45 ∷ []
hyphen_from_lower [] h = cc
hyphen_from_lower (b ∷ []) h = let lower : to_ascii_lowercase b ≡ 45 = cc in ap (λ c. c ∷ []) (hyphen_of_lower b lower)
hyphen_from_lower (b ∷ c ∷ bs) h = cc

hyphen_joined : (items : List (List ℕ)) → SpellEach items (Exact (45 ∷ []) ∷ []) → join_with_byte 44 items ≡ 45 ∷ []
hyphen_joined [] h = absurd h
hyphen_joined (item ∷ []) h = hyphen_from_lower item h.0.value
hyphen_joined (item ∷ next ∷ items) h = absurd h.1

pub names_valid : (text : List ℕ) (names : List CertName) → SpellsNames text names → HaveText names
names_valid text [] h = record { each = tt; unlike_none = λ e. cc }
names_valid text (name ∷ names) h =
    let s = h.1 in
    record {
      each = each_valid s.items (name ∷ names) s.each;
      unlike_none = λ e. h.0 (s.spelled ∙ hyphen_joined s.items (subst (SpellEach s.items) e s.each));
    }

pub answer_valid : (text : List ℕ) (r : Result (List CertName) (Refused CertRefusal)) → IfOk r (λ names. SpellsNames text names) → IfOk r (λ names. HaveText names)
answer_valid text (Ok names) h = names_valid text names h
answer_valid text (Err why) h = tt
