-- The text that a value is written as spells it.
use Rattle.std.proofs.Common.{◌≡◌, ℕ, ◌^◌, ◌≤◌, ◌<◌, ◌==◌, Bool, true, false, cond, ◌&&◌, ◌||◌, nat_le, List, [], ◌∷◌, ◌++◌, length, codes, Option, Some, None, refl, ap, sym, subst, ◌∙◌, arith, append_assoc}
use Rattle.std.specs.List.{list_any, list_all}
use Rattle.std.specs.Char.{is_ascii_digit}
use Rattle.std.specs.Fmt.{decimal}
use Rattle.std.specs.Str.Parse.{AllDigits}
use Rattle.std.proofs.lemmas.Fmt.{decimal_is_IsNumeral, decimal_nonempty, length-decimal-le}
use Rattle.alt_base.proofs.Digits.{digits_all}
use Rattle.alt_base.proofs.Numbers.{true_eq}
use Rattle.field_text.specs.Runs.{AllIn}
use Rattle.field_text.specs.BlanksGrammar.{is_blank}
use Rattle.field_text.specs.TokenGrammar.{is_token}
use Rattle.field_text.specs.QuotedGrammar.{is_quoted_text, Part, Raw, parts_text, parts_bytes, AreParts}
use Rattle.field_text.proofs.DeltaLemmas.{delta_spelled, decimal_spells}
use Rattle.field_text.proofs.RunLemmas.{AllIn-append}
use Rattle.origin_values.specs.declared.host.Host.{Host}
use Rattle.origin_values.proofs.HostTexts.{host_written}
use Rattle.altsvc_grammar.specs.declared.alt_key.AltKey.{AltKey}
use Rattle.altsvc_grammar.specs.declared.alt.Alt.{Alt}
use Rattle.altsvc_grammar.specs.declared.alt_svc.AltSvc.{AltSvc}
use Rattle.altsvc_grammar.specs.declared.alt_svc.AltSvc.TheVariants as value
use Rattle.altsvc_grammar.specs.Written.{optional_host_text, ma_text, persist_text, alt_text, more_alts_text, alts_text, value_text}
use Rattle.altsvc_grammar.specs.ParameterReading.{or_else}
use Rattle.altsvc_grammar.specs.AuthorityGrammar.{SpellsPort, SpellsOptionalHost}
use Rattle.altsvc_grammar.specs.ParameterGrammar.{IsToken, Token, Parameter, IsParameter, parameters_then, AreParameters}
use Rattle.altsvc_grammar.specs.TermsGrammar.{SaysMa, SaysPersist}
use Rattle.altsvc_grammar.specs.ValueGrammar.{Alternative, alternative_then, IsAlternative, Element, Clear, Offered, Slot, slot_then, IsSlot, slots_before, AreSlots, elements_of, is_clear, alternatives_of, firsts, meaning, most_value_bytes, SpellsValue}
use Rattle.altsvc_grammar.specs.Valid.{IsOptionalHost, IsKey, IsAlt, AreAlts, AreDistinct, AreListed, IsAltSvc}
use Rattle.altsvc_grammar.proofs.ParameterTerms.{ma_of, says_ma, persist_of, says_persist}
use Rattle.altsvc_grammar.proofs.QuotedHosts.{host_quoted, decimal_quoted, decimal_digits}
use Rattle.alt_base.proofs.Conjunctions.{both}

-- quoted text alone
abbrev raw_parts : List ℕ → List Part
raw_parts [] = []
raw_parts (b ∷ bs) = Raw b ∷ raw_parts bs

raw_text : (text : List ℕ) → parts_text (raw_parts text) ≡ text
raw_text [] = refl
raw_text (b ∷ bs) = ap (λ xs. b ∷ xs) (raw_text bs)

raw_bytes : (text : List ℕ) → parts_bytes (raw_parts text) ≡ text
raw_bytes [] = refl
raw_bytes (b ∷ bs) = ap (λ xs. b ∷ xs) (raw_bytes bs)

raw_valid : (text : List ℕ) → AllIn is_quoted_text text → AreParts (raw_parts text)
raw_valid [] valid = tt
raw_valid (b ∷ bs) valid = (valid.0, raw_valid bs valid.1)

-- a number in decimal is a token
fifth_in : (a b c d e f : Bool) → e ≡ true → (a || (b || (c || (d || (e || f))))) ≡ true
fifth_in true b c d e f h = refl
fifth_in false true c d e f h = refl
fifth_in false false true d e f h = refl
fifth_in false false false true e f h = refl
fifth_in false false false false e f h = rw h refl

digit_token : (b : ℕ) → is_ascii_digit b ≡ true → is_token b ≡ true
digit_token b h =
    fifth_in (nat_le 33 b && nat_le b 33) (nat_le 35 b && nat_le b 39) (nat_le 42 b && nat_le b 43) (nat_le 45 b && nat_le b 46) (nat_le 48 b && nat_le b 57)
    ((nat_le 65 b && nat_le b 90) || ((nat_le 94 b && nat_le b 122) || ((nat_le 124 b && nat_le b 124) || ((nat_le 126 b && nat_le b 126) || false)))) h

tokens_of : (x : List ℕ) → list_all is_ascii_digit x ≡ true → AllIn is_token x
tokens_of [] h = tt
tokens_of (b ∷ bs) h = let t = both (is_ascii_digit b) (list_all is_ascii_digit bs) h in (digit_token b t.0, tokens_of bs t.1)

digits_tokens : (x : List ℕ) → AllDigits 10 x → AllIn is_token x
digits_tokens x valid = tokens_of x (digits_all x valid)

decimal_token : (n : ℕ) → n < 2 ^ 64 → IsToken (decimal n)
decimal_token n small = record { some = λ e. absurd (omega (arith, decimal_nonempty n small, ap length e)); valid = digits_tokens (decimal n) (decimal_digits n small) }

-- the parameters that are written
abbrev named : List ℕ → List ℕ → Parameter
named name value = record { before = []; after = codes " "; name = name; value = Token value }

abbrev persist_parameters : Bool → List Parameter
persist_parameters true = named (codes "persist") (codes "1") ∷ []
persist_parameters false = []

abbrev parameters_of : ℕ → Bool → List Parameter
parameters_of ma persist = cond (ma == 86400) (persist_parameters persist) (named (codes "ma") (decimal ma) ∷ persist_parameters persist)

persist_then : (persist : Bool) (w : List ℕ) → parameters_then (persist_parameters persist) w ≡ persist_text persist ++ w
persist_then true w = refl
persist_then false w = refl

parameters_text : (ma : ℕ) (persist : Bool) (w : List ℕ) → parameters_then (parameters_of ma persist) w ≡ ma_text ma ++ (persist_text persist ++ w)
parameters_text ma persist w = go (ma == 86400)
  where
    go : (t : Bool) → parameters_then (cond t (persist_parameters persist) (named (codes "ma") (decimal ma) ∷ persist_parameters persist)) w ≡ cond t [] (codes "; ma=" ++ decimal ma) ++ (persist_text persist ++ w)
    go true = persist_then persist w
    go false = ap (λ xs. codes "; ma=" ++ (decimal ma ++ xs)) (persist_then persist w) ∙ sym (append_assoc (codes "; ma=") (decimal ma) (persist_text persist ++ w))

persist_token : IsToken (codes "persist")
persist_token = record { some = λ e. cc; valid = (refl, (refl, (refl, (refl, (refl, (refl, (refl, tt))))))) }

ma_token : IsToken (codes "ma")
ma_token = record { some = λ e. cc; valid = (refl, (refl, tt)) }

one_token : IsToken (codes "1")
one_token = record { some = λ e. cc; valid = (refl, tt) }

named_valid : (name text : List ℕ) → IsToken name → IsToken text → IsParameter (named name text)
named_valid name text h k = record { before = tt; after = (refl, tt); name = h; value = k }

persist_valid : (persist : Bool) → AreParameters (persist_parameters persist)
persist_valid true = (named_valid (codes "persist") (codes "1") persist_token one_token, tt)
persist_valid false = tt

parameters_valid : (ma : ℕ) (persist : Bool) → ma < 2 ^ 64 → AreParameters (parameters_of ma persist)
parameters_valid ma persist small = go (ma == 86400)
  where
    go : (t : Bool) → AreParameters (cond t (persist_parameters persist) (named (codes "ma") (decimal ma) ∷ persist_parameters persist))
    go true = persist_valid persist
    go false = (named_valid (codes "ma") (decimal ma) ma_token (decimal_token ma small), persist_valid persist)

no_ma : (persist : Bool) → ma_of (persist_parameters persist) ≡ 86400
no_ma true = refl
no_ma false = refl

ma_meant : (ma : ℕ) (persist : Bool) → ma ≤ 2147483648 → ma_of (parameters_of ma persist) ≡ ma
ma_meant ma persist small = go (ma == 86400) refl
  where
    go : (t : Bool) → (ma == 86400) ≡ t → ma_of (cond t (persist_parameters persist) (named (codes "ma") (decimal ma) ∷ persist_parameters persist)) ≡ ma
    go true is = no_ma persist ∙ sym (true_eq ma 86400 is)
    go false is = ap (or_else 86400) (delta_spelled ma (decimal ma) (decimal_spells ma small))

persist_alone : (persist : Bool) → persist_of (persist_parameters persist) ≡ persist
persist_alone true = refl
persist_alone false = refl

persist_meant : (ma : ℕ) (persist : Bool) → persist_of (parameters_of ma persist) ≡ persist
persist_meant ma persist = go (ma == 86400)
  where
    go : (t : Bool) → persist_of (cond t (persist_parameters persist) (named (codes "ma") (decimal ma) ∷ persist_parameters persist)) ≡ persist
    go true = persist_alone persist
    go false = persist_alone persist

-- the alternative that is written
abbrev authority_text : AltKey → List ℕ
authority_text key = optional_host_text key.host ++ 58 ∷ decimal key.port

abbrev tree : Alt → Alternative
tree alt = record { proto = alt.key.proto; parts = raw_parts (authority_text alt.key); host = alt.key.host; port = alt.key.port; parameters = parameters_of alt.ma alt.persist; ma = alt.ma; persist = alt.persist }

tree_text : (alt : Alt) (w : List ℕ) → alternative_then (tree alt) w ≡ alt_text alt ++ w
tree_text alt w =
    rw (raw_text (authority_text alt.key), parameters_text alt.ma alt.persist w) (simp append_assoc)

optional_quoted : (host : Option Host) → IsOptionalHost host → AllIn is_quoted_text (optional_host_text host)
optional_quoted None valid = tt
optional_quoted (Some host) valid = host_quoted host valid

optional_spelled : (host : Option Host) → IsOptionalHost host → SpellsOptionalHost (optional_host_text host) host
optional_spelled None valid = refl
optional_spelled (Some host) valid = host_written host valid

pub port_spelled : (port : ℕ) → 1 ≤ port → port ≤ 65535 → SpellsPort (decimal port) port
port_spelled port some fits =
    let wide : port < 2 ^ 64 = omega arith in
    let n = decimal_is_IsNumeral port wide in
    record { spelled = record { numeral = n.0; short = length-decimal-le 5 port (omega arith) (omega arith) wide; value = n.1; most = fits }; some = some }

authority_quoted : (key : AltKey) → IsKey key → AllIn is_quoted_text (authority_text key)
authority_quoted key valid = AllIn-append is_quoted_text (optional_host_text key.host) (58 ∷ decimal key.port) (optional_quoted key.host valid.host) (refl, decimal_quoted key.port (omega (arith, valid.fits)))

tree_valid : (alt : Alt) → IsAlt alt → IsAlternative (tree alt)
tree_valid alt valid = record {
  proto = valid.key.proto;
  parts = raw_valid (authority_text alt.key) (authority_quoted alt.key valid.key);
  authority = record { front = optional_host_text alt.key.host; digits = decimal alt.key.port; spelled = raw_bytes (authority_text alt.key); of_host = optional_spelled alt.key.host valid.key.host; of_port = port_spelled alt.key.port valid.key.some valid.key.fits };
  parameters = parameters_valid alt.ma alt.persist (omega (arith, valid.seconds));
  ma = subst (SaysMa (parameters_of alt.ma alt.persist)) (ma_meant alt.ma alt.persist valid.seconds) (says_ma (parameters_of alt.ma alt.persist));
  persist = subst (SaysPersist (parameters_of alt.ma alt.persist)) (persist_meant alt.ma alt.persist) (says_persist (parameters_of alt.ma alt.persist));
}

-- the slots of a list
abbrev slot_of : List ℕ → Alt → Slot
slot_of front alt = record { front = front; element = Some (Offered (tree alt)); back = [] }

abbrev slots_of : List ℕ → Alt → List Alt → List Slot
slots_of front alt [] = []
slots_of front alt (next ∷ alts) = slot_of front alt ∷ slots_of (codes " ") next alts

abbrev last_of : List ℕ → Alt → List Alt → Slot
last_of front alt [] = slot_of front alt
last_of front alt (next ∷ alts) = last_of (codes " ") next alts

slots_text : (front : List ℕ) (alt : Alt) (alts : List Alt) → slots_before (slots_of front alt alts) (slot_then (last_of front alt alts) []) ≡ front ++ (alt_text alt ++ more_alts_text alts)
slots_text front alt [] = ap (λ xs. front ++ xs) (tree_text alt [])
slots_text front alt (next ∷ alts) =
    ap (λ xs. front ++ xs) (tree_text alt (44 ∷ slots_before (slots_of (codes " ") next alts) (slot_then (last_of (codes " ") next alts) [])))
    ∙ ap (λ xs. front ++ (alt_text alt ++ 44 ∷ xs)) (slots_text (codes " ") next alts)
    ∙ ap (λ xs. front ++ (alt_text alt ++ xs)) (sym (append_assoc (codes ", ") (alt_text next) (more_alts_text alts)))

slot_valid : (front : List ℕ) (alt : Alt) → AllIn is_blank front → IsAlt alt → IsSlot (slot_of front alt)
slot_valid front alt h valid = record { front = h; element = tree_valid alt valid; back = tt }

slots_valid : (front : List ℕ) (alt : Alt) (alts : List Alt) → AllIn is_blank front → IsAlt alt → AreAlts alts → AreSlots (slots_of front alt alts) × IsSlot (last_of front alt alts)
slots_valid front alt [] h valid are = (tt, slot_valid front alt h valid)
slots_valid front alt (next ∷ alts) h valid are =
    let rest = slots_valid (codes " ") next alts (refl, tt) are.0 are.1 in
    ((slot_valid front alt h valid, rest.0), rest.1)

abbrev trees : List Alt → List Element
trees [] = []
trees (alt ∷ alts) = Offered (tree alt) ∷ trees alts

slots_elements : (front : List ℕ) (alt : Alt) (alts : List Alt) → elements_of (slots_of front alt alts ++ last_of front alt alts ∷ []) ≡ trees (alt ∷ alts)
slots_elements front alt [] = refl
slots_elements front alt (next ∷ alts) = ap (λ es. Offered (tree alt) ∷ es) (slots_elements (codes " ") next alts)

no_clear : (alts : List Alt) → list_any is_clear (trees alts) ≡ false
no_clear [] = refl
no_clear (alt ∷ alts) = no_clear alts

trees_meant : (alts : List Alt) → alternatives_of (trees alts) ≡ alts
trees_meant [] = refl
trees_meant (alt ∷ alts) = ap (λ more. alt ∷ more) (trees_meant alts)

all_kept : (before : List AltKey) (alts : List Alt) → AreDistinct before alts → firsts before alts ≡ alts
all_kept before [] h = refl
all_kept before (alt ∷ alts) h = rw h.0 (ap (λ more. alt ∷ more) (all_kept (before ++ alt.key ∷ []) alts h.1))

list_meant : (alts : List Alt) → AreDistinct [] alts → meaning (trees alts) ≡ value.List alts
list_meant alts distinct = rw (no_clear alts, trees_meant alts, all_kept [] alts distinct) refl

list_spelled : (alts : List Alt) → AreListed alts → length (alts_text alts) ≤ most_value_bytes → SpellsValue (alts_text alts) (value.List alts)
list_spelled [] valid short = absurd (valid.some refl)
list_spelled (alt ∷ alts) valid short =
    let both = slots_valid [] alt alts tt valid.valid.0 valid.valid.1 in
    let elements = slots_elements [] alt alts in
    record {
      before = slots_of [] alt alts;
      last = last_of [] alt alts;
      are_slots = both.0;
      is_slot = both.1;
      text = sym (slots_text [] alt alts);
      short = short;
      some = λ e. let clash : trees (alt ∷ alts) ≡ [] = sym elements ∙ e in cc;
      means = sym (ap meaning elements ∙ list_meant (alt ∷ alts) valid.distinct);
    }

-- the text that a value is written as spells it
pub written_spelled : (v : AltSvc) → IsAltSvc v → length (value_text v) ≤ most_value_bytes → SpellsValue (value_text v) v
written_spelled value.Clear valid short = record {
  before = [];
  last = record { front = []; element = Some Clear; back = [] };
  are_slots = tt;
  is_slot = record { front = tt; element = tt; back = tt };
  text = refl;
  short = short;
  some = λ e. cc;
  means = refl;
}
written_spelled (value.List alts) valid short = list_spelled alts valid short
