-- Addresses joined by commas, whatever reads and spells one of them.
use Rattle.std.proofs.Common.{◌≡◌, ◌≢◌, ℕ, zero, suc, ◌+◌, ◌≤◌, ◌^◌, ◌<◌, List, [], ◌∷◌, ◌++◌, length, drop, append_assoc, append-nil, Option, Some, None, refl, ap, sym, ◌∙◌, subst, arith, All}
use Rattle.dns_names.specs.Names.{AreBytes}
use Rattle.origin_values.specs.HostGrammar.{SpellsV4, SpellsV6}
use Rattle.origin_values.specs.HostReading.{read_addr}
use Rattle.origin_values.specs.declared.address.Addr.{Addr}
use Rattle.origin_values.specs.declared.address.Addr.TheVariants as address
use Rattle.origin_values.proofs.Addresses.{read_addr_complete, read_addr_sound}
use Rattle.origin_values.proofs.AddressTexts.{addr_valid}
use Rattle.svcb_wire.specs.Forms.{IsAddress, AreAddresses}
use Rattle.svcb_values.specs.ValueGrammar.{SpellEach, SpellsAddresses}
use Rattle.svcb_values.specs.ValueReading.{items_of, v4_of, v6_of, read_v4, read_v6, onto, read_each}
use Rattle.svcb_values.proofs.AddressTexts.{v4_no_comma, v6_no_comma}
use Rattle.svcb_values.proofs.CommaItems.{IsNext, NoComma, NoCommas, items_joined, items_whole, items_some}

abbrev Reader : Type 0
Reader = List ℕ → Option (List ℕ)

abbrev Items : Type 0
Items = List (List ℕ)

-- a reader reads exactly what is spelled, in which no comma stands
pub record IsReader (size : ℕ) (read : Reader) (Spells : List ℕ → List ℕ → Type 0) : Type 0 where
  pub sound : (text address : List ℕ) → read text ≡ Some address → Spells text address
  pub complete : (text address : List ℕ) → Spells text address → read text ≡ Some address
  pub no_comma : (text address : List ℕ) → Spells text address → NoComma text
  pub form : (text address : List ℕ) → Spells text address → IsAddress size address

each_read : (size : ℕ) (read : Reader) (Spells : List ℕ → List ℕ → Type 0) (items addresses : Items) → IsReader size read Spells → SpellEach Spells items addresses → read_each read items ≡ Some addresses
each_read size read Spells [] [] reader h = refl
each_read size read Spells [] (address ∷ addresses) reader h = absurd h
each_read size read Spells (item ∷ items) [] reader h = absurd h
each_read size read Spells (item ∷ items) (address ∷ addresses) reader h =
    ap (λ o. onto o (read_each read items)) (reader.complete item address h.0) ∙ ap (onto (Some address)) (each_read size read Spells items addresses reader h.1)

each_spells : (size : ℕ) (read : Reader) (Spells : List ℕ → List ℕ → Type 0) (items addresses : Items) → IsReader size read Spells → read_each read items ≡ Some addresses → SpellEach Spells items addresses
each_spells size read Spells [] [] reader h = tt
each_spells size read Spells [] (address ∷ addresses) reader h = cc
each_spells size read Spells (item ∷ items) addresses reader h = go (λ more. each_spells size read Spells items more reader) (read item) (read_each read items) refl refl h
  where
    go : ((more : Items) → read_each read items ≡ Some more → SpellEach Spells items more) → (o : Option (List ℕ)) (rest : Option Items) → read item ≡ o → read_each read items ≡ rest
        → onto o rest ≡ Some addresses → SpellEach Spells (item ∷ items) addresses
    go later None rest is_item is_rest e = cc
    go later (Some address) None is_item is_rest e = cc
    go later (Some address) (Some more) is_item is_rest e =
        let same : address ∷ more ≡ addresses = cc in
        subst (SpellEach Spells (item ∷ items)) same (reader.sound item address is_item, later more is_rest)

each_no_comma : (size : ℕ) (read : Reader) (Spells : List ℕ → List ℕ → Type 0) (items addresses : Items) → IsReader size read Spells → SpellEach Spells items addresses → NoCommas items
each_no_comma size read Spells [] addresses reader h = tt
each_no_comma size read Spells (item ∷ items) [] reader h = absurd h
each_no_comma size read Spells (item ∷ items) (address ∷ addresses) reader h = (reader.no_comma item address h.0, each_no_comma size read Spells items addresses reader h.1)

each_form : (size : ℕ) (read : Reader) (Spells : List ℕ → List ℕ → Type 0) (items addresses : Items) → IsReader size read Spells → SpellEach Spells items addresses → AreAddresses size addresses
each_form size read Spells [] [] reader h = tt
each_form size read Spells [] (address ∷ addresses) reader h = absurd h
each_form size read Spells (item ∷ items) [] reader h = absurd h
each_form size read Spells (item ∷ items) (address ∷ addresses) reader h = (reader.form item address h.0, each_form size read Spells items addresses reader h.1)

each_some : (Spells : List ℕ → List ℕ → Type 0) (items addresses : Items) → items ≢ [] → SpellEach Spells items addresses → 1 ≤ length addresses
each_some Spells [] addresses some h = absurd (some refl)
each_some Spells (item ∷ items) [] some h = absurd h
each_some Spells (item ∷ items) (address ∷ addresses) some h = omega arith

pub addresses_read : (size : ℕ) (read : Reader) (Spells : List ℕ → List ℕ → Type 0) (text : List ℕ) (addresses : Items) → IsReader size read Spells → SpellsAddresses Spells text addresses → read_each read (items_of text) ≡ Some addresses
addresses_read size read Spells text addresses reader s =
    ap (λ xs. read_each read (items_of xs)) s.spelled
    ∙ ap (read_each read) (items_joined s.items s.some (each_no_comma size read Spells s.items addresses reader s.each))
    ∙ each_read size read Spells s.items addresses reader s.each

pub addresses_spell : (size : ℕ) (read : Reader) (Spells : List ℕ → List ℕ → Type 0) (text : List ℕ) (addresses : Items) → IsReader size read Spells → read_each read (items_of text) ≡ Some addresses → SpellsAddresses Spells text addresses
addresses_spell size read Spells text addresses reader h =
    record { items = items_of text; some = items_some text; each = each_spells size read Spells (items_of text) addresses reader h; spelled = items_whole text }

pub addresses_form : (size : ℕ) (read : Reader) (Spells : List ℕ → List ℕ → Type 0) (text : List ℕ) (addresses : Items) → IsReader size read Spells → SpellsAddresses Spells text addresses → (1 ≤ length addresses) × AreAddresses size addresses
addresses_form size read Spells text addresses reader s = (each_some Spells s.items addresses s.some s.each, each_form size read Spells s.items addresses reader s.each)

-- the two readers
all_bytes : (bytes : List ℕ) → All (λ b. b < 2 ^ 8) bytes → AreBytes bytes
all_bytes [] h = tt
all_bytes (b ∷ bs) h = (h zero 0 (omega arith), all_bytes bs (λ k d inside. h (suc k) d (omega arith)))

v4_sound : (text address : List ℕ) → read_v4 text ≡ Some address → SpellsV4 text address
v4_sound text bytes h = go (read_addr text) refl h
  where
    go : (o : Option Addr) → read_addr text ≡ o → v4_of o ≡ Some bytes → SpellsV4 text bytes
    go None is e = cc
    go (Some (address.V4 other)) is e = let same : other ≡ bytes = cc in subst (SpellsV4 text) same (read_addr_sound text (address.V4 other) is)
    go (Some (address.V6 other)) is e = cc

v6_sound : (text address : List ℕ) → read_v6 text ≡ Some address → SpellsV6 text address
v6_sound text bytes h = go (read_addr text) refl h
  where
    go : (o : Option Addr) → read_addr text ≡ o → v6_of o ≡ Some bytes → SpellsV6 text bytes
    go None is e = cc
    go (Some (address.V4 other)) is e = cc
    go (Some (address.V6 other)) is e = let same : other ≡ bytes = cc in subst (SpellsV6 text) same (read_addr_sound text (address.V6 other) is)

pub v4_reader : IsReader 4 read_v4 SpellsV4
v4_reader = record {
  sound = v4_sound;
  complete = λ text bytes h. ap v4_of (read_addr_complete text (address.V4 bytes) h);
  no_comma = v4_no_comma;
  form = λ text bytes h. let v = addr_valid text (address.V4 bytes) h in record { sized = v.0; bytes = all_bytes bytes v.1 };
}

pub v6_reader : IsReader 16 read_v6 SpellsV6
v6_reader = record {
  sound = v6_sound;
  complete = λ text bytes h. ap v6_of (read_addr_complete text (address.V6 bytes) h);
  no_comma = v6_no_comma;
  form = λ text bytes h. let v = addr_valid text (address.V6 bytes) h in record { sized = v.0; bytes = all_bytes bytes v.1 };
}

-- the loop: addresses that were read before others
abbrev pub before_all : Items → Option Items → Option Items
before_all before None = None
before_all before (Some more) = Some (before ++ more)

abbrev pub IsSoFar : Reader → List ℕ → Items → ℕ → Type 0
IsSoFar read text addresses count = before_all addresses (read_each read (drop count (items_of text))) ≡ read_each read (items_of text)

before_none : (o : Option Items) → before_all [] o ≡ o
before_none None = refl
before_none (Some addresses) = refl

pub at_start : (read : Reader) (text : List ℕ) → IsSoFar read text [] 0
at_start read text = before_none (read_each read (items_of text))

before_push : (before : Items) (address : List ℕ) (o : Option Items) → before_all (before ++ address ∷ []) o ≡ before_all before (onto (Some address) o)
before_push before address None = refl
before_push before address (Some more) = ap Some (append_assoc before (address ∷ []) more)

pub one_more : (read : Reader) (text item address : List ℕ) (before new : Items) (count : ℕ) → IsSoFar read text before count → IsNext text item count → read item ≡ Some address → new ≡ before ++ address ∷ [] → IsSoFar read text new (count + 1)
one_more read text item address before new count h next is pushed =
    let more = read_each read (drop (count + 1) (items_of text)) in
    ap (λ xs. before_all xs more) pushed ∙ before_push before address more
    ∙ ap (λ o. before_all before (onto o more)) (sym is) ∙ ap (λ xs. before_all before (read_each read xs)) (sym next) ∙ h

pub no_address : (read : Reader) (text item : List ℕ) (before : Items) (count : ℕ) → IsSoFar read text before count → IsNext text item count → read item ≡ None → None ≡ read_each read (items_of text)
no_address read text item before count h next none =
    let more = read_each read (drop (count + 1) (items_of text)) in
    ap (λ o. before_all before (onto o more)) (sym none) ∙ ap (λ xs. before_all before (read_each read xs)) (sym next) ∙ h

pub at_last : (read : Reader) (text : List ℕ) (before : Items) (count : ℕ) → IsSoFar read text before count → drop count (items_of text) ≡ [] → Some before ≡ read_each read (items_of text)
at_last read text before count h none =
    ap Some (sym (append-nil before)) ∙ ap (λ xs. before_all before (read_each read xs)) (sym none) ∙ h
