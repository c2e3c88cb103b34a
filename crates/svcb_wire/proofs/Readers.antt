-- The readers of a first id and of a first address.
use Rattle.std.proofs.Common.{◌≡◌, ◌≢◌, ℕ, suc, ◌+◌, ◌<◌, ◌≤◌, Bool, true, false, ◌||◌, cond, nat_eq, nat_lt, List, [], ◌∷◌, ◌++◌, length, take, drop, Option, Some, None, refl, ap, sym, ◌∙◌, arith}
use Rattle.std.proofs.lemmas.List.{length-append, length-take-le, take-append-drop, take_at, drop_at}
use Rattle.dns_names.specs.Names.{AreBytes}
use Rattle.svcb_wire.specs.Octets.{ids_octets, addresses_octets}
use Rattle.svcb_wire.specs.Forms.{IsId, AreIds, AreAddresses}
use Rattle.svcb_wire.specs.ValueReading.{first_id, first_address}
use Rattle.alt_base.proofs.Numbers.{eq_false, false_eq, lt_true, lt_false, false_lt}
use Rattle.dns_names.proofs.Bytes.{bytes_take}
use Rattle.svcb_wire.proofs.Items.{Items, Takes, IsReader}

abbrev Found : Type 0
Found = Option (List ℕ × ℕ)

pair_is : (a c : List ℕ) (b d : ℕ) → (let p : Found = Some (a, b) in p) ≡ Some (c, d) → (c ≡ a) × (d ≡ b)
pair_is a c b d e =
    let h : (let p : List ℕ × ℕ = (a, b) in p) ≡ (let q : List ℕ × ℕ = (c, d) in q) = cc in
    (sym (ap (λ (p : List ℕ × ℕ). p.0) h), sym (ap (λ (p : List ℕ × ℕ). p.1) h))

some_is : (a c : List ℕ) (b d : ℕ) → a ≡ c → b ≡ d → (let p : Found = Some (a, b) in p) ≡ (let q : Found = Some (c, d) in q)
some_is a c b d e f = cc

-- the id behind a length octet
pub record IsFirstId (n : ℕ) (rest item : List ℕ) (size : ℕ) : Type 0 where
  pub some : 1 ≤ n
  pub whole : n ≤ length rest
  pub item_is : item ≡ take n rest
  pub size_is : size ≡ suc n

id_by : (a b : Bool) (n : ℕ) (rest item : List ℕ) (size : ℕ) → nat_eq n 0 ≡ a → nat_lt (length rest) n ≡ b → cond {A = Found} (a || b) None (Some (take n rest, suc n)) ≡ Some (item, size) → IsFirstId n rest item size
id_by true b n rest item size p q e = cc
id_by false true n rest item size p q e = cc
id_by false false n rest item size p q e =
    let some : n ≢ 0 = false_eq _ _ p in
    let is = pair_is _ item _ size e in
    record { some = omega arith; whole = false_lt _ _ q; item_is = is.0; size_is = is.1 }

pub id_found : (n : ℕ) (rest item : List ℕ) (size : ℕ) → first_id (n ∷ rest) ≡ Some (item, size) → IsFirstId n rest item size
id_found n rest item size e = id_by _ _ n rest item size refl refl e

id_takes : (x item : List ℕ) (size : ℕ) → first_id x ≡ Some (item, size) → 1 ≤ size
id_takes [] item size e = cc
id_takes (n ∷ rest) item size e = let f = id_found n rest item size e in omega (arith, f.size_is)

cons_is : (a b : ℕ) (xs ys : List ℕ) → a ≡ b → xs ≡ ys → a ∷ xs ≡ b ∷ ys
cons_is a b xs ys e f = cc

id_octets : (n : ℕ) (rest item more : List ℕ) → n ≤ length rest → item ≡ take n rest → more ≡ drop n rest → length item ∷ (item ++ more) ≡ n ∷ rest
id_octets n rest item more whole item_is more_is =
    cons_is _ _ _ _ (ap length item_is ∙ length-take-le n rest whole) (ap (λ xs. xs ++ more) item_is ∙ ap (λ xs. take n rest ++ xs) more_is ∙ take-append-drop n rest)

id_sound : (x item : List ℕ) (size : ℕ) (items : Items) → AreBytes x → first_id x ≡ Some (item, size) → ids_octets items ≡ drop size x → AreIds items → AreIds (item ∷ items) × (ids_octets (item ∷ items) ≡ x)
id_sound [] item size items bytes e more are = cc
id_sound (n ∷ rest) item size items bytes e more are =
    let f = id_found n rest item size e in
    let count : length item ≡ n = ap length f.item_is ∙ length-take-le n rest f.whole in
    let behind : ids_octets items ≡ drop n rest = more ∙ ap (λ k. drop k (n ∷ rest)) f.size_is in (
      (record { some = omega (arith, f.some, count); most = omega (arith, bytes.0, count); bytes = rw f.item_is (bytes_take n rest bytes.1) }, are),
      id_octets n rest item (ids_octets items) f.whole f.item_is behind,
    )

id_reads : (id more : List ℕ) → IsId id → first_id (length id ∷ (id ++ more)) ≡ Some (id, suc (length id))
id_reads id more h =
    let a : nat_eq (length id) 0 ≡ false = eq_false _ _ (λ e. absurd (omega (arith, h.some, e))) in
    let b : nat_lt (length (id ++ more)) (length id) ≡ false = lt_false _ _ (omega (arith, length-append id more)) in
    rw (a, b) (some_is _ _ _ _ (take_at id more (length id) refl) refl)

id_complete : (id : List ℕ) (ids : Items) → AreIds (id ∷ ids) → (n : ℕ) × AreIds ids × (first_id (ids_octets (id ∷ ids)) ≡ Some (id, n)) × (drop n (ids_octets (id ∷ ids)) ≡ ids_octets ids) × (1 ≤ length (ids_octets (id ∷ ids)))
id_complete id ids are = (suc (length id), are.1, id_reads id (ids_octets ids) are.0, drop_at id (ids_octets ids) (length id) refl, omega arith)

pub id_reader : IsReader first_id ids_octets AreIds
id_reader = record { takes = id_takes; none_are = tt; none_octets = refl; sound = id_sound; complete = id_complete }

-- the address at the front
pub record IsFirstAddress (count : ℕ) (x item : List ℕ) (size : ℕ) : Type 0 where
  pub whole : count ≤ length x
  pub item_is : item ≡ take count x
  pub size_is : size ≡ count

address_by : (a : Bool) (count : ℕ) (x item : List ℕ) (size : ℕ) → nat_lt (length x) count ≡ a → cond {A = Found} a None (Some (take count x, count)) ≡ Some (item, size) → IsFirstAddress count x item size
address_by true count x item size p e = cc
address_by false count x item size p e = let is = pair_is _ item _ size e in record { whole = false_lt _ _ p; item_is = is.0; size_is = is.1 }

pub address_found : (count : ℕ) (x item : List ℕ) (size : ℕ) → first_address count x ≡ Some (item, size) → IsFirstAddress count x item size
address_found count x item size e = address_by _ count x item size refl e

pub address_whole : (count : ℕ) (x : List ℕ) → count ≤ length x → first_address count x ≡ Some (take count x, count)
address_whole count x h = let a : nat_lt (length x) count ≡ false = lt_false _ _ h in rw a refl

address_sound : (count : ℕ) (x item : List ℕ) (size : ℕ) (items : Items) → AreBytes x → first_address count x ≡ Some (item, size) → addresses_octets items ≡ drop size x → AreAddresses count items
    → AreAddresses count (item ∷ items) × (addresses_octets (item ∷ items) ≡ x)
address_sound count x item size items bytes e more are =
    let f = address_found count x item size e in
    let behind : addresses_octets items ≡ drop count x = more ∙ ap (λ k. drop k x) f.size_is in (
      (record { sized = ap length f.item_is ∙ length-take-le count x f.whole; bytes = rw f.item_is (bytes_take count x bytes) }, are),
      ap (λ xs. xs ++ addresses_octets items) f.item_is ∙ ap (λ xs. take count x ++ xs) behind ∙ take-append-drop count x,
    )

address_complete : (count : ℕ) (address : List ℕ) (addresses : Items) → 1 ≤ count → AreAddresses count (address ∷ addresses)
    → (n : ℕ) × AreAddresses count addresses × (first_address count (addresses_octets (address ∷ addresses)) ≡ Some (address, n)) × (drop n (addresses_octets (address ∷ addresses)) ≡ addresses_octets addresses) × (1 ≤ length (addresses_octets (address ∷ addresses)))
address_complete count address addresses some are =
    let size : length (address ++ addresses_octets addresses) ≡ length address + length (addresses_octets addresses) = length-append address (addresses_octets addresses) in (
      count,
      are.1,
      address_whole count (address ++ addresses_octets addresses) (omega (arith, size, are.0.sized)) ∙ some_is _ _ _ _ (take_at address (addresses_octets addresses) count are.0.sized) refl,
      drop_at address (addresses_octets addresses) count are.0.sized,
      omega (arith, size, are.0.sized, some),
    )

pub address_takes : (count : ℕ) → 1 ≤ count → Takes (first_address count)
address_takes count some = λ x item n e. let f = address_found count x item n e in omega (arith, f.size_is, some)

pub address_reader : (count : ℕ) → 1 ≤ count → IsReader (first_address count) addresses_octets (AreAddresses count)
address_reader count some = record {
  takes = address_takes count some;
  none_are = tt;
  none_octets = refl;
  sound = λ x item n items bytes e more are. address_sound count x item n items bytes e more are;
  complete = λ address addresses are. address_complete count address addresses some are;
}

pub address_cut : (count : ℕ) (x : List ℕ) → length x < count → first_address count x ≡ None
address_cut count x h = let a : nat_lt (length x) count ≡ true = lt_true _ _ h in rw a refl

pub id_some : (x item : List ℕ) (size : ℕ) → first_id x ≡ Some (item, size) → 1 ≤ length x
id_some [] item size e = cc
id_some (n ∷ rest) item size e = omega arith
