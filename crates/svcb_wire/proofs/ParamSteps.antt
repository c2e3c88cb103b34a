-- One parameter at the front of some octets: what is read, against the grammar.
use Rattle.std.proofs.Common.{◌≡◌, ℕ, ◌+◌, ◌<◌, ◌≤◌, Bool, true, false, cond, nat_lt, List, [], ◌∷◌, ◌++◌, length, take, drop, Option, Some, None, Ok, Err, refl, ap, sym, ◌∙◌, subst, arith}
use Rattle.std.proofs.lemmas.List.{length-append, length-drop, length-take-le, take-append-drop, take_at, drop-drop}
use Rattle.byteorder.specs.Endian.{big_number, big_bytes}
use Rattle.dns_names.specs.Names.{AreBytes}
use Rattle.svcb_wire.specs.declared.param.Param.{Param}
use Rattle.svcb_wire.specs.declared.param.Param.TheVariants.{Mandatory, Alpn, NoDefaultAlpn, Port, V4Hint, Other, V6Hint}
use Rattle.svcb_wire.specs.declared.refusal.WireRefusal.{WireRefusal}
use Rattle.svcb_wire.specs.declared.refusal.WireRefusal.TheVariants.{Short, BadTarget, KeyOrder, ParamPast, BadValue, TooLong}
use Rattle.alt_base.specs.Answers.{refused}
use Rattle.svcb_wire.specs.Octets.{key_of, value_of, param_octets}
use Rattle.svcb_wire.specs.Forms.{HasForm, IsParam}
use Rattle.svcb_wire.specs.ValueReading.{read_value}
use Rattle.svcb_wire.specs.RecordReading.{ParamAnswer, by_value, param_by_head, first_param}
use Rattle.svcb_wire.specs.RecordGrammar.{IsHead, IsNoForm}
use Rattle.alt_base.proofs.Numbers.{lt_true, lt_false, true_lt, false_lt}
use Rattle.dns_names.proofs.Bytes.{bytes_take, bytes_drop}
use Rattle.svcb_wire.proofs.Pairs.{pair_reads, pair_split, pair_below}
use Rattle.svcb_wire.proofs.ValueForms.{value_says, value_reads, value_none, none_reads}

-- a parameter with a least key is at the front of the octets
pub record IsFirstParam (least : ℕ) (x : List ℕ) (param : Param) (size : ℕ) : Type 0 where
  pub above : least ≤ key_of param
  pub param_is : IsParam param
  pub octets : x ≡ param_octets param ++ drop size x
  pub sized : size ≡ length (param_octets param)

-- why there is none
abbrev pub ParamStops : ℕ → ℕ → List ℕ → ℕ → WireRefusal → Type 0
ParamStops place least x q Short = (q ≡ place + length x) × (length x < 4)
ParamStops place least x q BadTarget = ⊥
ParamStops place least x q KeyOrder = (q ≡ place) × (key : ℕ) × (size : ℕ) × (tail : List ℕ) × IsHead x key size tail × (key < least)
ParamStops place least x q ParamPast = (q ≡ place) × (key : ℕ) × (size : ℕ) × (tail : List ℕ) × IsHead x key size tail × (least ≤ key) × (length tail < size)
ParamStops place least x q (BadValue key) = (q ≡ place + 4) × (value : List ℕ) × (more : List ℕ) × IsHead x key (length value) (value ++ more) × (least ≤ key) × IsNoForm key value
ParamStops place least x q TooLong = ⊥

abbrev pub ParamSays : ℕ → ℕ → List ℕ → ParamAnswer → Type 0
ParamSays place least x (Ok found) = IsFirstParam least x found.0 found.1
ParamSays place least x (Err at) = ParamStops place least x at.place at.reason

drop_four : (x : List ℕ) → drop 2 (drop 2 x) ≡ drop 4 x
drop_four [] = refl
drop_four (a ∷ []) = refl
drop_four (a ∷ b ∷ rest) = refl

-- four octets are a head
pub head_is : (x : List ℕ) → AreBytes x → 4 ≤ length x → IsHead x (big_number 2 x) (big_number 2 (drop 2 x)) (drop 4 x)
head_is x bytes h =
    let two : 2 ≤ length (drop 2 x) = omega (arith, length-drop 2 x) in
    record {
      split = pair_split x bytes (omega arith) ∙ ap (λ xs. big_bytes 2 (big_number 2 x) ++ xs) (pair_split (drop 2 x) (bytes_drop 2 x bytes) two ∙ ap (λ xs. big_bytes 2 (big_number 2 (drop 2 x)) ++ xs) (drop_four x));
      key_fits = pair_below x bytes (omega arith);
      size_fits = pair_below (drop 2 x) (bytes_drop 2 x bytes) two;
    }

-- what a head reads as
pub record HeadReads (x : List ℕ) (key size : ℕ) (tail : List ℕ) : Type 0 where
  pub key_is : big_number 2 x ≡ key
  pub size_is : big_number 2 (drop 2 x) ≡ size
  pub tail_is : drop 4 x ≡ tail
  pub count : length x ≡ 4 + length tail

pub head_reads : (x : List ℕ) (key size : ℕ) (tail : List ℕ) → IsHead x key size tail → HeadReads x key size tail
head_reads x key size tail h =
    subst (λ y. HeadReads y key size tail) (sym h.split) (record {
      key_is = pair_reads key (big_bytes 2 size ++ tail) h.key_fits;
      size_is = pair_reads size tail h.size_fits;
      tail_is = refl;
      count = omega arith;
    })

same_by_head : (place least key key' size size' : ℕ) (tail tail' : List ℕ) → key ≡ key' → size ≡ size' → tail ≡ tail' → param_by_head place least key size tail ≡ param_by_head place least key' size' tail'
same_by_head place least key key' size size' tail tail' a b c = rw (a, b, c) refl

-- the reading of octets with a head
pub first_by_head : (place least key size : ℕ) (x tail : List ℕ) → IsHead x key size tail → first_param place least x ≡ param_by_head place least key size tail
first_by_head place least key size x tail h =
    let r = head_reads x key size tail h in
    let t : nat_lt (length x) 4 ≡ false = lt_false _ _ (omega (arith, r.count)) in
    rw t (same_by_head place least _ _ _ _ _ _ r.key_is r.size_is r.tail_is)

pub order_reads : (place least key size : ℕ) (x tail : List ℕ) → IsHead x key size tail → key < least → first_param place least x ≡ refused place KeyOrder
order_reads place least key size x tail h below = let t : nat_lt key least ≡ true = lt_true _ _ below in first_by_head place least key size x tail h ∙ rw t refl

pub past_reads : (place least key size : ℕ) (x tail : List ℕ) → IsHead x key size tail → least ≤ key → length tail < size → first_param place least x ≡ refused place ParamPast
past_reads place least key size x tail h above past =
    let t : nat_lt key least ≡ false = lt_false _ _ above in
    let u : nat_lt (length tail) size ≡ true = lt_true _ _ past in
    first_by_head place least key size x tail h ∙ rw (t, u) refl

pub whole_reads : (place least key size : ℕ) (x tail : List ℕ) (r : Option Param) → IsHead x key size tail → least ≤ key → size ≤ length tail → read_value key (take size tail) ≡ r → first_param place least x ≡ by_value r place key size
whole_reads place least key size x tail r h above whole is =
    let t : nat_lt key least ≡ false = lt_false _ _ above in
    let u : nat_lt (length tail) size ≡ false = lt_false _ _ whole in
    first_by_head place least key size x tail h ∙ rw (t, u, is) refl

param_is : (param : Param) (key size : ℕ) (value rest : List ℕ) → key_of param ≡ key → length value ≡ size → value_of param ≡ value → big_bytes 2 key ++ (big_bytes 2 size ++ (value ++ rest)) ≡ param_octets param ++ rest
param_is param key size value rest a b c = rw (a, c, b) refl

-- a head and a value in front of the rest
head_value : (x tail : List ℕ) (key size : ℕ) → IsHead x key size tail → size ≤ length tail → IsHead x key (length (take size tail)) (take size tail ++ drop size tail)
head_value x tail key size h whole =
    let count : length (take size tail) ≡ size = length-take-le size tail whole in
    record {
      split = h.split ∙ ap (λ n. big_bytes 2 key ++ (big_bytes 2 n ++ tail)) (sym count) ∙ ap (λ xs. big_bytes 2 key ++ (big_bytes 2 (length (take size tail)) ++ xs)) (sym (take-append-drop size tail));
      key_fits = h.key_fits;
      size_fits = omega (arith, count, h.size_fits);
    }

found_says : (r : Option Param) (place least key size : ℕ) (x : List ℕ) → AreBytes x → IsHead x key size (drop 4 x) → least ≤ key → size ≤ length (drop 4 x) → read_value key (take size (drop 4 x)) ≡ r → ParamSays place least x (by_value r place key size)
found_says None place least key size x bytes h above whole is =
    (refl, take size (drop 4 x), drop size (drop 4 x), head_value x (drop 4 x) key size h whole, above, (λ param form key_is value_is. value_none key (take size (drop 4 x)) is param form key_is value_is))
found_says (Some param) place least key size x bytes h above whole is =
    let o = value_says key (take size (drop 4 x)) param h.key_fits (bytes_take size (drop 4 x) (bytes_drop 4 x bytes)) is in
    let count : length (take size (drop 4 x)) ≡ size = length-take-le size (drop 4 x) whole in
    let same : length (value_of param) ≡ size = ap length o.value_is ∙ count in
    record {
      above = omega (arith, o.key_is, above);
      param_is = record { form = o.form; sized = omega (arith, same, h.size_fits) };
      octets = h.split ∙ ap (λ xs. big_bytes 2 key ++ (big_bytes 2 size ++ xs)) (sym (take-append-drop size (drop 4 x))) ∙ param_is param key size (take size (drop 4 x)) (drop size (drop 4 x)) o.key_is count o.value_is
          ∙ ap (λ xs. param_octets param ++ xs) (drop-drop size 4 x);
      sized = omega (arith, same);
    }

param_by : (a b c : Bool) (place least key size : ℕ) (x : List ℕ) → AreBytes x → IsHead x key size (drop 4 x) → nat_lt key least ≡ b → nat_lt (length (drop 4 x)) size ≡ c
    → ParamSays place least x (cond b (refused place KeyOrder) (cond c (refused place ParamPast) (by_value (read_value key (take size (drop 4 x))) place key size)))
param_by a true c place least key size x bytes h p q = (refl, key, size, drop 4 x, h, true_lt _ _ p)
param_by a false true place least key size x bytes h p q = (refl, key, size, drop 4 x, h, false_lt _ _ p, true_lt _ _ q)
param_by a false false place least key size x bytes h p q = found_says (read_value key (take size (drop 4 x))) place least key size x bytes h (false_lt _ _ p) (false_lt _ _ q) refl

short_by : (t : Bool) (place least : ℕ) (x : List ℕ) → AreBytes x → nat_lt (length x) 4 ≡ t
    → ParamSays place least x (cond t (refused (place + length x) Short) (param_by_head place least (big_number 2 x) (big_number 2 (drop 2 x)) (drop 4 x)))
short_by true place least x bytes p = (refl, true_lt _ _ p)
short_by false place least x bytes p = param_by true _ _ place least (big_number 2 x) (big_number 2 (drop 2 x)) x bytes (head_is x bytes (false_lt _ _ p)) refl refl

-- what is read at the front is so in the grammar
pub param_says : (place least : ℕ) (x : List ℕ) → AreBytes x → ParamSays place least x (first_param place least x)
param_says place least x bytes = short_by _ place least x bytes refl

key_fits : (param : Param) → HasForm param → key_of param < 65536
key_fits (Mandatory keys) h = omega arith
key_fits (Alpn ids) h = omega arith
key_fits NoDefaultAlpn h = omega arith
key_fits (Port port) h = omega arith
key_fits (V4Hint addresses) h = omega arith
key_fits (Other key value) h = omega (arith, h.0)
key_fits (V6Hint addresses) h = omega arith

-- a parameter in front of a rest has a head
pub param_head : (param : Param) (rest : List ℕ) → IsParam param → IsHead (param_octets param ++ rest) (key_of param) (length (value_of param)) (value_of param ++ rest)
param_head param rest h = record { split = refl; key_fits = key_fits param h.form; size_fits = h.sized }

size_is : (param : Param) (n m : ℕ) → n ≡ m → (let a : ParamAnswer = Ok (param, n) in a) ≡ (let b : ParamAnswer = Ok (param, m) in b)
size_is param n m e = cc

-- and is read
pub param_reads : (place least : ℕ) (param : Param) (rest : List ℕ) → IsParam param → least ≤ key_of param → first_param place least (param_octets param ++ rest) ≡ Ok (param, length (param_octets param))
param_reads place least param rest h above =
    whole_reads place least (key_of param) (length (value_of param)) (param_octets param ++ rest) (value_of param ++ rest) (Some param) (param_head param rest h) above (omega (arith, length-append (value_of param) rest))
    (ap (read_value (key_of param)) (take_at (value_of param) rest (length (value_of param)) refl) ∙ value_reads param h.form)
    ∙ size_is param _ _ (omega arith)

-- a value of no form is refused
pub value_refused : (place least key : ℕ) (x value more : List ℕ) → IsHead x key (length value) (value ++ more) → AreBytes value → least ≤ key → IsNoForm key value → first_param place least x ≡ refused (place + 4) (BadValue key)
value_refused place least key x value more h bytes above none =
    whole_reads place least key (length value) x (value ++ more) None h above (omega (arith, length-append value more))
    (ap (read_value key) (take_at value more (length value) refl) ∙ none_reads key value h.key_fits bytes none)

pub short_reads : (place least : ℕ) (x : List ℕ) → length x < 4 → first_param place least x ≡ refused (place + length x) Short
short_reads place least x h = let t : nat_lt (length x) 4 ≡ true = lt_true _ _ h in rw t refl

takes_by : (r : Option Param) (place key size n : ℕ) (param : Param) → by_value r place key size ≡ Ok (param, n) → 4 ≤ n
takes_by None place key size n param e = cc
takes_by (Some found) place key size n param e =
    let h : (let a : Param × ℕ = (found, 4 + size) in a) ≡ (let b : Param × ℕ = (param, n) in b) = cc in
    omega (arith, ap (λ (a : Param × ℕ). a.1) h)

head_takes : (b c : Bool) (place key size n : ℕ) (r : Option Param) (param : Param) → cond {A = ParamAnswer} b (refused place KeyOrder) (cond c (refused place ParamPast) (by_value r place key size)) ≡ Ok (param, n) → 4 ≤ n
head_takes true c place key size n r param e = cc
head_takes false true place key size n r param e = cc
head_takes false false place key size n r param e = takes_by r place key size n param e

short_takes : (t : Bool) (place least key size n : ℕ) (x tail : List ℕ) (param : Param) → cond {A = ParamAnswer} t (refused (place + length x) Short) (param_by_head place least key size tail) ≡ Ok (param, n) → 4 ≤ n
short_takes true place least key size n x tail param e = cc
short_takes false place least key size n x tail param e = head_takes (nat_lt key least) (nat_lt (length tail) size) place key size n (read_value key (take size tail)) param e

-- a parameter takes its head at least
pub param_takes : (place least : ℕ) (x : List ℕ) (param : Param) (n : ℕ) → first_param place least x ≡ Ok (param, n) → 4 ≤ n
param_takes place least x param n e = short_takes (nat_lt (length x) 4) place least (big_number 2 x) (big_number 2 (drop 2 x)) n x (drop 4 x) param e
