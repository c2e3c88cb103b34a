-- The names of keys: which key a text names, and which bytes stand in a name.
use Rattle.std.proofs.Common.{◌≡◌, ◌≢◌, ℕ, ◌<◌, ◌≤◌, Bool, true, false, cond, nat_eq, nat_le, List, [], ◌∷◌, ◌++◌, take, drop, codes, decimal, Option, Some, None, refl, ap, sym, ◌∙◌, subst, arith}
use Rattle.std.specs.Char.{digit_value}
use Rattle.std.specs.Cmp.Lexicographic.{same_text}
use Rattle.std.specs.Str.Parse.{AllDigits}
use Rattle.std.proofs.lemmas.Bool.Decides.{nat_tests}
use Rattle.std.proofs.lemmas.Fmt.{decimal_is_IsNumeral}
use Rattle.field_text.specs.Runs.{AllIn}
use Rattle.alt_base.proofs.Numbers.{true_eq, false_eq}
use Rattle.svcb_values.specs.KeyNames.{key_name, key_named, is_key_byte, is_text, number_of, numbered_key, unnamed}
use Rattle.svcb_values.proofs.DigitTexts.{number_is, number_read}

text_is : (text this : List ℕ) → is_text text this ≡ true → text ≡ this
text_is text this h = same_text text this (sym h)

-- a key without a name of its own
pub record IsNumbered (key : ℕ) : Type 0 where
  pub no_0 : nat_eq key 0 ≡ false
  pub no_1 : nat_eq key 1 ≡ false
  pub no_2 : nat_eq key 2 ≡ false
  pub no_3 : nat_eq key 3 ≡ false
  pub no_4 : nat_eq key 4 ≡ false
  pub no_6 : nat_eq key 6 ≡ false

pub numbered_name : (key : ℕ) → IsNumbered key → key_name key ≡ codes "key" ++ decimal key
unfolding key_name
numbered_name key h = rw (h.no_0, h.no_1, h.no_2, h.no_3, h.no_4, h.no_6) refl

-- what is kept as a number has no name of its own
unnamed_is : (o : Option ℕ) (key : ℕ) → unnamed o ≡ Some key → (o ≡ Some key) × IsNumbered key
unnamed_is None key h = cc
unnamed_is (Some n) key h = go (nat_le n 4) (nat_eq n 6) refl refl h
  where
    go : (s t : Bool) → nat_le n 4 ≡ s → nat_eq n 6 ≡ t → cond s None (cond t None (Some n)) ≡ Some key → (Some n ≡ Some key) × IsNumbered key
    go true t p q e = cc
    go false true p q e = cc
    go false false p q e =
        let same : n ≡ key = cc in
        (e, subst IsNumbered same (record { no_0 = grind (arith, nat_tests); no_1 = grind (arith, nat_tests); no_2 = grind (arith, nat_tests); no_3 = grind (arith, nat_tests); no_4 = grind (arith, nat_tests); no_6 = q }))

numbered_unnamed : (key : ℕ) → IsNumbered key → unnamed (Some key) ≡ Some key
numbered_unnamed key h =
    let a = false_eq key 0 h.no_0 in
    let b = false_eq key 1 h.no_1 in
    let c = false_eq key 2 h.no_2 in
    let d = false_eq key 3 h.no_3 in
    let e = false_eq key 4 h.no_4 in
    let above : nat_le key 4 ≡ false = above_four key (omega arith) in
    rw (above, h.no_6) refl
  where
    above_four : (n : ℕ) → 4 < n → nat_le n 4 ≡ false
    above_four n h = grind (arith, nat_tests)

front_and_rest : (text front : List ℕ) → take 3 text ≡ front → text ≡ front ++ drop 3 text
front_and_rest [] front h = cc
front_and_rest (a ∷ []) front h = cc
front_and_rest (a ∷ b ∷ []) front h = cc
front_and_rest (a ∷ b ∷ c ∷ text) front h = ap (λ xs. xs ++ text) h

numbered_is : (text : List ℕ) (key : ℕ) → numbered_key text ≡ Some key → (text ≡ key_name key) × (key < 65536)
numbered_is text key h = go (is_text (take 3 text) (codes "key")) refl h
  where
    go : (t : Bool) → is_text (take 3 text) (codes "key") ≡ t → cond t (unnamed (number_of (drop 3 text))) None ≡ Some key → (text ≡ key_name key) × (key < 65536)
    go false is e = cc
    go true is e =
        let u = unnamed_is (number_of (drop 3 text)) key e in
        let n = number_is (drop 3 text) key u.0 in
        (front_and_rest text (codes "key") (text_is (take 3 text) (codes "key") is) ∙ ap (λ xs. codes "key" ++ xs) n.0 ∙ sym (numbered_name key u.1), n.1)

some_key : (m n : ℕ) → (let a : Option ℕ = Some m in a) ≡ Some n → m ≡ n
some_key m n e = cc

-- a text that is the name of this key
own_name : (text this : List ℕ) (own key : ℕ) → own < 65536 → key_name own ≡ this → is_text text this ≡ true → (let a : Option ℕ = Some own in a) ≡ Some key → (text ≡ key_name key) × (key < 65536)
own_name text this own key small name is e =
    let same = some_key own key e in
    (text_is text this is ∙ sym name ∙ ap key_name same, omega (arith, same))

own_mandatory : key_name 0 ≡ codes "mandatory"
unfolding key_name
own_mandatory = refl

own_alpn : key_name 1 ≡ codes "alpn"
unfolding key_name
own_alpn = refl

own_no_default : key_name 2 ≡ codes "no-default-alpn"
unfolding key_name
own_no_default = refl

own_port : key_name 3 ≡ codes "port"
unfolding key_name
own_port = refl

own_v4 : key_name 4 ≡ codes "ipv4hint"
unfolding key_name
own_v4 = refl

own_v6 : key_name 6 ≡ codes "ipv6hint"
unfolding key_name
own_v6 = refl

named_by : (a b c d e f : Bool) (text : List ℕ) (key : ℕ) → is_text text (codes "mandatory") ≡ a → is_text text (codes "alpn") ≡ b → is_text text (codes "no-default-alpn") ≡ c → is_text text (codes "port") ≡ d
    → is_text text (codes "ipv4hint") ≡ e → is_text text (codes "ipv6hint") ≡ f
    → cond a (Some 0) (cond b (Some 1) (cond c (Some 2) (cond d (Some 3) (cond e (Some 4) (cond f (Some 6) (numbered_key text)))))) ≡ Some key → (text ≡ key_name key) × (key < 65536)
named_by true b c d e f text key p q r s t u h = own_name text (codes "mandatory") 0 key (omega arith) own_mandatory p h
named_by false true c d e f text key p q r s t u h = own_name text (codes "alpn") 1 key (omega arith) own_alpn q h
named_by false false true d e f text key p q r s t u h = own_name text (codes "no-default-alpn") 2 key (omega arith) own_no_default r h
named_by false false false true e f text key p q r s t u h = own_name text (codes "port") 3 key (omega arith) own_port s h
named_by false false false false true f text key p q r s t u h = own_name text (codes "ipv4hint") 4 key (omega arith) own_v4 t h
named_by false false false false false true text key p q r s t u h = own_name text (codes "ipv6hint") 6 key (omega arith) own_v6 u h
named_by false false false false false false text key p q r s t u h = numbered_is text key h

pub named_key : (text : List ℕ) (key : ℕ) → key_named text ≡ Some key → (text ≡ key_name key) × (key < 65536)
named_key text key h = named_by _ _ _ _ _ _ text key refl refl refl refl refl refl h

-- a key is one of those with names of their own, or isn't
data Kind (key : ℕ) : Type 0 where
  IsMandatory : key ≡ 0 → Kind key
  IsAlpn : key ≡ 1 → Kind key
  IsNoDefault : key ≡ 2 → Kind key
  IsPort : key ≡ 3 → Kind key
  IsV4 : key ≡ 4 → Kind key
  IsV6 : key ≡ 6 → Kind key
  IsOther : IsNumbered key → Kind key

kind : (key : ℕ) → Kind key
kind key = go _ _ _ _ _ _ refl refl refl refl refl refl
  where
    go : (a b c d e f : Bool) → nat_eq key 0 ≡ a → nat_eq key 1 ≡ b → nat_eq key 2 ≡ c → nat_eq key 3 ≡ d → nat_eq key 4 ≡ e → nat_eq key 6 ≡ f → Kind key
    go true b c d e f p q r s t u = IsMandatory (true_eq key 0 p)
    go false true c d e f p q r s t u = IsAlpn (true_eq key 1 q)
    go false false true d e f p q r s t u = IsNoDefault (true_eq key 2 r)
    go false false false true e f p q r s t u = IsPort (true_eq key 3 s)
    go false false false false true f p q r s t u = IsV4 (true_eq key 4 t)
    go false false false false false true p q r s t u = IsV6 (true_eq key 6 u)
    go false false false false false false p q r s t u = IsOther (record { no_0 = p; no_1 = q; no_2 = r; no_3 = s; no_4 = t; no_6 = u })

-- a name of this key's own
own_is_named : (this : List ℕ) (own key : ℕ) → key_name own ≡ this → key_named this ≡ Some own → key ≡ own → key_named (key_name key) ≡ Some key
own_is_named this own key name is same = ap (λ k. key_named (key_name k)) same ∙ ap key_named name ∙ is ∙ ap Some (sym same)

number_is_named : (key : ℕ) (digits : List ℕ) → IsNumbered key → number_of digits ≡ Some key → key_named (codes "key" ++ digits) ≡ Some key
number_is_named key digits h is = ap unnamed is ∙ numbered_unnamed key h

pub key_is_named : (key : ℕ) → key < 65536 → key_named (key_name key) ≡ Some key
key_is_named key small = go (kind key)
  where
    go : Kind key → key_named (key_name key) ≡ Some key
    go (IsMandatory same) = own_is_named (codes "mandatory") 0 key own_mandatory refl same
    go (IsAlpn same) = own_is_named (codes "alpn") 1 key own_alpn refl same
    go (IsNoDefault same) = own_is_named (codes "no-default-alpn") 2 key own_no_default refl same
    go (IsPort same) = own_is_named (codes "port") 3 key own_port refl same
    go (IsV4 same) = own_is_named (codes "ipv4hint") 4 key own_v4 refl same
    go (IsV6 same) = own_is_named (codes "ipv6hint") 6 key own_v6 refl same
    go (IsOther numbered) = ap key_named (numbered_name key numbered) ∙ number_is_named key (decimal key) numbered (number_read key small)

-- the bytes of names
digit_low : (b : ℕ) → digit_value b < 10 → 48 ≤ b
digit_low b h = grind (arith, nat_tests)

digit_high : (b : ℕ) → digit_value b < 10 → b ≤ 57
digit_high b h = grind (arith, nat_tests)

digit_is_key_byte : (b : ℕ) → 48 ≤ b → b ≤ 57 → is_key_byte b ≡ true
digit_is_key_byte b low high = grind (arith, nat_tests)

digits_bytes : (ds : List ℕ) → AllDigits 10 ds → AllIn is_key_byte ds
digits_bytes [] h = tt
digits_bytes (b ∷ bs) h = (digit_is_key_byte b (digit_low b h.0) (digit_high b h.0), digits_bytes bs h.1)

own_bytes : (this : List ℕ) (own key : ℕ) → key_name own ≡ this → AllIn is_key_byte this → key ≡ own → AllIn is_key_byte (key_name key)
own_bytes this own key name h same = subst (AllIn is_key_byte) (sym name ∙ ap key_name (sym same)) h

number_bytes : (key : ℕ) → key < 65536 → IsNumbered key → AllIn is_key_byte (key_name key)
number_bytes key small numbered =
    let digits = digits_bytes (decimal key) (decimal_is_IsNumeral key (omega arith)).0.1 in
    let all : AllIn is_key_byte (codes "key" ++ decimal key) = (refl, (refl, (refl, digits))) in
    subst (AllIn is_key_byte) (sym (numbered_name key numbered)) all

pub name_bytes : (key : ℕ) → key < 65536 → AllIn is_key_byte (key_name key)
name_bytes key small = go (kind key)
  where
    go : Kind key → AllIn is_key_byte (key_name key)
    go (IsMandatory same) = own_bytes (codes "mandatory") 0 key own_mandatory (search) same
    go (IsAlpn same) = own_bytes (codes "alpn") 1 key own_alpn (search) same
    go (IsNoDefault same) = own_bytes (codes "no-default-alpn") 2 key own_no_default (search) same
    go (IsPort same) = own_bytes (codes "port") 3 key own_port (search) same
    go (IsV4 same) = own_bytes (codes "ipv4hint") 4 key own_v4 (search) same
    go (IsV6 same) = own_bytes (codes "ipv6hint") 6 key own_v6 (search) same
    go (IsOther numbered) = number_bytes key small numbered

own_some : (b : ℕ) (this : List ℕ) (own key : ℕ) → key_name own ≡ b ∷ this → key ≡ own → key_name key ≢ []
own_some b this own key name same none = cc (ap key_name same)

pub name_some : (key : ℕ) → key < 65536 → key_name key ≢ []
name_some key small = go (kind key)
  where
    other : IsNumbered key → key_name key ≢ []
    other numbered none = cc (numbered_name key numbered)

    go : Kind key → key_name key ≢ []
    go (IsMandatory same) = own_some _ _ 0 key own_mandatory same
    go (IsAlpn same) = own_some _ _ 1 key own_alpn same
    go (IsNoDefault same) = own_some _ _ 2 key own_no_default same
    go (IsPort same) = own_some _ _ 3 key own_port same
    go (IsV4 same) = own_some _ _ 4 key own_v4 same
    go (IsV6 same) = own_some _ _ 6 key own_v6 same
    go (IsOther numbered) = other numbered
