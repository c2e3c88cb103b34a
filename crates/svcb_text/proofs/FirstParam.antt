-- The parameter at the front of a text: what is read, against the grammar.
use Rattle.std.proofs.Common.{◌≡◌, ℕ, ◌+◌, ◌<◌, Bool, true, false, cond, nat_eq, List, [], ◌∷◌, ◌++◌, length, Option, Some, None, Ok, Err, refl, ap, sym, ◌∙◌, subst, arith, inl, inr}
use Rattle.std.proofs.lemmas.List.{append_assoc, length-append}
use Rattle.dns_names.specs.Names.{AreBytes}
use Rattle.field_text.specs.BlanksGrammar.{is_blank}
use Rattle.field_text.specs.Runs.{run_of, after_run}
use Rattle.field_text.proofs.RunLemmas.{longest_run}
use Rattle.svcb_wire.specs.declared.param.Param.{Param}
use Rattle.svcb_wire.specs.Usable.{has_key}
use Rattle.dns_names.proofs.Bytes.{bytes_back}
use Rattle.alt_base.proofs.Numbers.{true_eq}
use Rattle.svcb_text.specs.declared.refusal.RecordTextRefusal.{RecordTextRefusal}
use Rattle.svcb_text.specs.declared.refusal.RecordTextRefusal.TheVariants.{BadPriority, BadTarget, BadKey, RepeatedKey, BadString, BadValue, Inconsistent, TooLong}
use Rattle.svcb_values.specs.declared.unescaped.Unescaped.{Unescaped}
use Rattle.alt_base.specs.Answers.{refused}
use Rattle.svcb_values.specs.KeyNames.{is_key_byte, key_name, key_named}
use Rattle.svcb_values.specs.StringGrammar.{EndsItem, StringRefusedAt, string_text}
use Rattle.svcb_values.specs.StringReading.{StringAnswer, read_string, no_bytes}
use Rattle.svcb_values.specs.ValueGrammar.{SpellsValue}
use Rattle.svcb_values.specs.ValueReading.{read_value}
use Rattle.svcb_text.specs.TextGrammar.{GivenParam, Alone, Valued, given_key, given_head, given_string, given_value, IsGiven}
use Rattle.svcb_text.specs.TextReading.{ParamAnswer, by_value, by_string, behind_key, ends_key, by_key, first_param}
use Rattle.svcb_text.specs.TextRefusals.{EndsKey}
use Rattle.svcb_values.proofs.StringLaws.{string_spells, string_refuses, string_bytes}
use Rattle.svcb_values.proofs.KeyLaws.{named_key, key_is_named, name_bytes}
use Rattle.svcb_values.proofs.ValueLaws.{value_spells, value_read}
use Rattle.svcb_text.proofs.Items.{key_ends, ends_read, key_run, key_rest}
use Rattle.alt_base.proofs.Booleans.{contradicts}
use Rattle.alt_base.proofs.Variants.{some_none}

-- a given parameter at the front, and a blank or the end behind it
pub record IsFirst (params : List Param) (x : List ℕ) (given : GivenParam) (rest : List ℕ) : Type 0 where
  pub text : x ≡ given_head given ++ (given_string given ++ rest)
  pub is_given : IsGiven given
  pub ends : EndsItem rest
  pub is_new : has_key (given_key given) params ≡ false

-- one whose string stands for this parameter
pub record IsFirstParam (params : List Param) (x : List ℕ) (param : Param) (count : ℕ) : Type 0 where
  pub given : GivenParam
  pub rest : List ℕ
  pub first : IsFirst params x given rest
  pub value : SpellsValue (given_key given) (given_value given) param
  pub size : count ≡ length (given_head given) + length (given_string given)

pub record StopsAtKey (params : List Param) (place : ℕ) (x : List ℕ) (q : ℕ) : Type 0 where
  pub bad : (key : ℕ) (more : List ℕ) → key < 65536 → x ≡ key_name key ++ more → EndsKey more → ⊥
  pub at : q ≡ place

pub record StopsAtRepeated (params : List Param) (place : ℕ) (x : List ℕ) (q : ℕ) : Type 0 where
  pub key : ℕ
  pub more : List ℕ
  pub text : x ≡ key_name key ++ more
  pub fits : key < 65536
  pub ends : EndsKey more
  pub repeated : has_key key params ≡ true
  pub at : q ≡ place

pub record StopsAtString (params : List Param) (place : ℕ) (x : List ℕ) (q : ℕ) : Type 0 where
  pub key : ℕ
  pub more : List ℕ
  pub wrong : ℕ
  pub text : x ≡ key_name key ++ 61 ∷ more
  pub fits : key < 65536
  pub is_new : has_key key params ≡ false
  pub refused : StringRefusedAt more wrong
  pub at : q ≡ place + length (key_name key) + 1 + wrong

pub record StopsAtValue (params : List Param) (place : ℕ) (x : List ℕ) (q key : ℕ) : Type 0 where
  pub given : GivenParam
  pub rest : List ℕ
  pub first : IsFirst params x given rest
  pub of_key : given_key given ≡ key
  pub bad : (param : Param) → SpellsValue key (given_value given) param → ⊥
  pub at : q ≡ place + length (given_head given)

-- why no parameter is read
abbrev pub ParamStops : List Param → ℕ → List ℕ → ℕ → RecordTextRefusal → Type 0
ParamStops params place x q BadPriority = ⊥
ParamStops params place x q BadTarget = ⊥
ParamStops params place x q BadKey = StopsAtKey params place x q
ParamStops params place x q RepeatedKey = StopsAtRepeated params place x q
ParamStops params place x q BadString = StopsAtString params place x q
ParamStops params place x q (BadValue key) = StopsAtValue params place x q key
ParamStops params place x q Inconsistent = ⊥
ParamStops params place x q TooLong = ⊥

abbrev pub ParamSays : List Param → ℕ → List ℕ → ParamAnswer → Type 0
ParamSays params place x (Ok found) = IsFirstParam params x found.0 found.1
ParamSays params place x (Err at) = ParamStops params place x at.place at.reason

-- a value that is read, or none
value_says : (o : Option Param) (params : List Param) (place start key count : ℕ) (x : List ℕ) (given : GivenParam) (rest : List ℕ)
    → IsFirst params x given rest → given_key given ≡ key → AreBytes (given_value given).bytes → start ≡ place + length (given_head given) → count ≡ length (given_head given) + length (given_string given)
    → read_value key (given_value given) ≡ o → ParamSays params place x (by_value o start key count)
value_says None params place start key count x given rest first of_key bytes at size is =
    record { given = given; rest = rest; first = first; of_key = of_key; bad = λ param s. some_none param (read_value key (given_value given)) (value_read key (given_value given) param s) is; at = at }
value_says (Some param) params place start key count x given rest first of_key bytes at size is =
    let fits : key < 65536 = subst (λ k. k < 65536) of_key first.is_given.key in
    record {
      given = given;
      rest = rest;
      first = first;
      value = subst (λ k. SpellsValue k (given_value given) param) (sym of_key) (value_spells key (given_value given) param fits bytes is);
      size = size;
    }

none_given : (params : List Param) (x rest : List ℕ) (key : ℕ) → x ≡ key_name key ++ rest → key < 65536 → EndsItem rest → has_key key params ≡ false → IsFirst params x (Alone key) rest
none_given params x rest key e fits ends new = record { text = e; is_given = record { key = fits; parts = tt }; ends = ends; is_new = new }

-- a key without a value
alone_says : (params : List Param) (place key : ℕ) (x rest : List ℕ) → x ≡ key_name key ++ rest → key < 65536 → EndsItem rest → has_key key params ≡ false
    → ParamSays params place x (by_value (read_value key no_bytes) (place + length (key_name key)) key (length (key_name key)))
alone_says params place key x rest e fits ends new =
    value_says (read_value key no_bytes) params place (place + length (key_name key)) key (length (key_name key)) x (Alone key) rest (none_given params x rest key e fits ends new) refl tt refl (omega arith) refl

head_text : (name string rest more : List ℕ) → more ≡ string ++ rest → name ++ 61 ∷ more ≡ (name ++ 61 ∷ []) ++ (string ++ rest)
head_text name string rest more e = ap (λ xs. name ++ 61 ∷ xs) e ∙ sym (append_assoc name (61 ∷ []) (string ++ rest))

-- a value's string
string_says : (r : StringAnswer) (params : List Param) (place key : ℕ) (x more : List ℕ) → AreBytes more → x ≡ key_name key ++ 61 ∷ more → key < 65536 → has_key key params ≡ false → read_string more ≡ r
    → ParamSays params place x (by_string r (place + length (key_name key) + 1) key (length (key_name key) + 1))
string_says (Err wrong) params place key x more bytes e fits new is =
    record { key = key; more = more; wrong = wrong; text = e; fits = fits; is_new = new; refused = string_refuses more wrong is; at = refl }
string_says (Ok found) params place key x more bytes e fits new is =
    let s = string_spells more found.0 found.1 is in
    let given = Valued key s.style s.parts in
    let head : length (given_head given) ≡ length (key_name key) + 1 = length-append (key_name key) (61 ∷ []) in
    let value_is : read_value key (given_value given) ≡ read_value key found.0 = ap (read_value key) (sym s.means) in
    let bytes_are : AreBytes (given_value given).bytes = subst (λ (v : Unescaped). AreBytes v.bytes) s.means (string_bytes more found.0 found.1 bytes is) in
    value_says (read_value key found.0) params place (place + length (key_name key) + 1) key (length (key_name key) + 1 + found.1) x given s.rest
    (record { text = e ∙ head_text (key_name key) (string_text s.style s.parts) s.rest more s.text; is_given = record { key = fits; parts = s.valid }; ends = s.ends; is_new = new })
    refl bytes_are (omega (arith, head)) (omega (arith, head, s.size)) value_is

-- what follows a new key
behind_says : (params : List Param) (place key : ℕ) (x rest : List ℕ) → AreBytes rest → x ≡ key_name key ++ rest → key < 65536 → EndsKey rest → has_key key params ≡ false → ParamSays params place x (behind_key place key (length (key_name key)) rest)
behind_says params place key x [] bytes e fits ends new = alone_says params place key x [] e fits tt new
behind_says params place key x (b ∷ bs) bytes e fits ends new = go (nat_eq b 61) refl
  where
    blank : nat_eq b 61 ≡ false → EndsKey (b ∷ bs) → is_blank b ≡ true
    blank doesnt (inl same) = let does : nat_eq b 61 ≡ true = rw same refl in cc
    blank doesnt (inr is) = is

    go : (t : Bool) → nat_eq b 61 ≡ t
        → ParamSays params place x (cond t (by_string (read_string bs) (place + length (key_name key) + 1) key (length (key_name key) + 1)) (by_value (read_value key no_bytes) (place + length (key_name key)) key (length (key_name key))))
    go true is = string_says (read_string bs) params place key x bs bytes.1 (e ∙ ap (λ c. key_name key ++ c ∷ bs) (true_eq b 61 is)) fits new refl
    go false is = alone_says params place key x (b ∷ bs) e fits (blank is ends) new

-- a key that the run in front names
named_says : (o : Option ℕ) (params : List Param) (place : ℕ) (x run rest : List ℕ) → AreBytes x → run_of is_key_byte x ≡ run → after_run is_key_byte x ≡ rest → x ≡ run ++ rest → key_named run ≡ o
    → ParamSays params place x (by_key o params place (length run) rest)
named_says None params place x run rest bytes run_is rest_is split is = record {
  bad = λ key more fits e ends. some_none key (key_named (key_name key)) (key_is_named key fits) (ap key_named (sym (key_run x (key_name key) more e (name_bytes key fits) ends) ∙ run_is) ∙ is);
  at = refl;
}
named_says (Some key) params place x run rest bytes run_is rest_is split is =
    let n = named_key run key is in
    let e : x ≡ key_name key ++ rest = split ∙ ap (λ xs. xs ++ rest) n.0 in
    ends (ends_key rest) refl n.0 n.1 e (bytes_back (key_name key) rest (subst AreBytes e bytes))
  where
    has : (t : Bool) → has_key key params ≡ t → run ≡ key_name key → key < 65536 → x ≡ key_name key ++ rest → AreBytes rest → EndsKey rest
        → ParamSays params place x (cond t (refused place RepeatedKey) (behind_key place key (length run) rest))
    has true does name fits e behind end = record { key = key; more = rest; text = e; fits = fits; ends = end; repeated = does; at = refl }
    has false doesnt name fits e behind end = subst (λ xs. ParamSays params place x (behind_key place key (length xs) rest)) (sym name) (behind_says params place key x rest behind e fits end doesnt)

    ends : (t : Bool) → ends_key rest ≡ t → run ≡ key_name key → key < 65536 → x ≡ key_name key ++ rest → AreBytes rest
        → ParamSays params place x (cond t (cond (has_key key params) (refused place RepeatedKey) (behind_key place key (length run) rest)) (refused place BadKey))
    ends true does name fits e behind = has (has_key key params) refl name fits e behind (key_ends rest does)
    ends false doesnt name fits e behind = record {
      bad = λ other more small same end. contradicts (ends_key rest) (ap ends_key (sym rest_is ∙ key_rest x (key_name other) more same (name_bytes other small) end) ∙ ends_read more end) doesnt;
      at = refl;
    }

pub first_says : (params : List Param) (place : ℕ) (x : List ℕ) → AreBytes x → ParamSays params place x (first_param params place x)
first_says params place x bytes = named_says (key_named (run_of is_key_byte x)) params place x (run_of is_key_byte x) (after_run is_key_byte x) bytes refl refl (longest_run is_key_byte x).text refl
