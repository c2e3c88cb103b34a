-- The parameter at the front of a text: what the grammar says is what is read.
use Rattle.std.proofs.Common.{◌≡◌, ℕ, ◌+◌, ◌<◌, Bool, true, false, cond, nat_eq, List, [], ◌∷◌, ◌++◌, length, Option, Some, None, Ok, refl, ap, sym, ◌∙◌, subst, arith, inl}
use Rattle.std.proofs.lemmas.List.{append_assoc, length-append}
use Rattle.dns_names.specs.Names.{AreBytes}
use Rattle.field_text.specs.Runs.{run_of, after_run}
use Rattle.svcb_wire.specs.declared.param.Param.{Param}
use Rattle.svcb_wire.specs.Usable.{has_key}
use Rattle.dns_names.proofs.Bytes.{bytes_back}
use Rattle.svcb_text.specs.declared.refusal.RecordTextRefusal.{RecordTextRefusal}
use Rattle.svcb_text.specs.declared.refusal.RecordTextRefusal.TheVariants.{BadPriority, BadTarget, BadKey, RepeatedKey, BadString, BadValue, Inconsistent, TooLong}
use Rattle.alt_base.specs.Answers.{refused}
use Rattle.svcb_values.specs.KeyNames.{is_key_byte, key_name, key_named}
use Rattle.svcb_values.specs.StringGrammar.{EndsItem, string_text, meant}
use Rattle.svcb_values.specs.StringReading.{read_string, no_bytes}
use Rattle.svcb_values.specs.ValueReading.{read_value}
use Rattle.svcb_text.specs.TextGrammar.{GivenParam, Alone, Valued, given_key, given_head, given_string, given_value}
use Rattle.svcb_text.specs.TextReading.{ParamAnswer, by_value, by_string, behind_key, ends_key, by_key, first_param}
use Rattle.svcb_text.specs.TextRefusals.{EndsKey}
use Rattle.svcb_values.proofs.StringLaws.{string_refused, string_bytes}
use Rattle.svcb_values.proofs.KeyLaws.{named_key, key_is_named, name_bytes}
use Rattle.svcb_values.proofs.ValueLaws.{value_spells, value_read}
use Rattle.svcb_text.proofs.Items.{key_ends, ends_read, item_ends_key, key_run, key_rest, blank_no_equals}
use Rattle.svcb_text.proofs.FirstParam.{IsFirst, IsFirstParam, ParamStops}
use Rattle.svcb_values.proofs.StringSpelled.{string_read}

-- a key and what may follow it
key_reads : (params : List Param) (place key : ℕ) (x more : List ℕ) → x ≡ key_name key ++ more → key < 65536 → EndsKey more
    → first_param params place x ≡ cond (has_key key params) (refused place RepeatedKey) (behind_key place key (length (key_name key)) more)
key_reads params place key x more e fits ends =
    let run : run_of is_key_byte x ≡ key_name key = key_run x (key_name key) more e (name_bytes key fits) ends in
    let rest : after_run is_key_byte x ≡ more = key_rest x (key_name key) more e (name_bytes key fits) ends in
    ap (λ xs. by_key (key_named xs) params place (length xs) (after_run is_key_byte x)) run
    ∙ ap (λ xs. by_key (key_named (key_name key)) params place (length (key_name key)) xs) rest
    ∙ ap (λ o. by_key o params place (length (key_name key)) more) (key_is_named key fits)
    ∙ ap (λ t. cond t (cond (has_key key params) (refused place RepeatedKey) (behind_key place key (length (key_name key)) more)) (refused place BadKey)) (ends_read more ends)

new_reads : (params : List Param) (place key : ℕ) (x more : List ℕ) → x ≡ key_name key ++ more → key < 65536 → EndsKey more → has_key key params ≡ false → first_param params place x ≡ behind_key place key (length (key_name key)) more
new_reads params place key x more e fits ends new =
    key_reads params place key x more e fits ends ∙ ap (λ t. cond t (refused place RepeatedKey) (behind_key place key (length (key_name key)) more)) new

alone_reads : (place key count : ℕ) (rest : List ℕ) → EndsItem rest → behind_key place key count rest ≡ by_value (read_value key no_bytes) (place + count) key count
alone_reads place key count [] ends = refl
alone_reads place key count (b ∷ bs) ends = let doesnt : nat_eq b 61 ≡ false = blank_no_equals b ends in rw doesnt refl

same_value : (o : Option Param) (a b key m n : ℕ) → a ≡ b → m ≡ n → by_value o a key m ≡ by_value o b key n
same_value o a b key m n e f = cc

-- a given parameter at the front
pub given_reads : (params : List Param) (place : ℕ) (x : List ℕ) (given : GivenParam) (rest : List ℕ) → IsFirst params x given rest
    → first_param params place x ≡ by_value (read_value (given_key given) (given_value given)) (place + length (given_head given)) (given_key given) (length (given_head given) + length (given_string given))
given_reads params place x (Alone key) rest first =
    new_reads params place key x rest first.text first.is_given.key (item_ends_key rest first.ends) first.is_new ∙ alone_reads place key (length (key_name key)) rest first.ends
    ∙ same_value (read_value key no_bytes) _ _ key _ _ refl (omega arith)
given_reads params place x (Valued key style parts) rest first =
    let string = string_text style parts in
    let text : x ≡ key_name key ++ 61 ∷ (string ++ rest) = first.text ∙ append_assoc (key_name key) (61 ∷ []) (string ++ rest) in
    let head : length (key_name key ++ 61 ∷ []) ≡ length (key_name key) + 1 = length-append (key_name key) (61 ∷ []) in
    let found : read_string (string ++ rest) ≡ Ok (meant parts, length string) =
    string_read (string ++ rest) (meant parts) (length string) (record { style = style; parts = parts; rest = rest; valid = first.is_given.parts; text = refl; ends = first.ends; means = refl; size = refl }) in
    new_reads params place key x (61 ∷ (string ++ rest)) text first.is_given.key (inl refl) first.is_new
    ∙ ap (λ r. by_string r (place + length (key_name key) + 1) key (length (key_name key) + 1)) found
    ∙ same_value (read_value key (meant parts)) _ _ key _ _ (omega (arith, head)) (omega (arith, head))

pub param_reads : (params : List Param) (place : ℕ) (x : List ℕ) (param : Param) (count : ℕ) → IsFirstParam params x param count → first_param params place x ≡ Ok (param, count)
param_reads params place x param count s =
    let value = value_read (given_key s.given) (given_value s.given) param s.value in
    given_reads params place x s.given s.rest s.first ∙ ap (λ o. by_value o (place + length (given_head s.given)) (given_key s.given) (length (given_head s.given) + length (given_string s.given))) value ∙ found param _ count s.size
  where
    found : (p : Param) (m n : ℕ) → n ≡ m → (let a : ParamAnswer = Ok (p, m) in a) ≡ Ok (p, n)
    found p m n e = cc

-- the bytes that a given parameter's string stands for
pub value_bytes : (params : List Param) (x : List ℕ) (given : GivenParam) (rest : List ℕ) → IsFirst params x given rest → AreBytes x → AreBytes (given_value given).bytes
value_bytes params x (Alone key) rest first bytes = tt
value_bytes params x (Valued key style parts) rest first bytes =
    let string = string_text style parts in
    let behind : AreBytes (string ++ rest) = bytes_back (key_name key ++ 61 ∷ []) (string ++ rest) (subst AreBytes first.text bytes) in
    string_bytes (string ++ rest) (meant parts) (length string) behind
    (string_read (string ++ rest) (meant parts) (length string) (record { style = style; parts = parts; rest = rest; valid = first.is_given.parts; text = refl; ends = first.ends; means = refl; size = refl }))

refused_is : (q q' : ℕ) (reason : RecordTextRefusal) → q ≡ q' → (let a : ParamAnswer = refused q reason in a) ≡ (let b : ParamAnswer = refused q' reason in b)
refused_is q q' reason e = ap (λ n. let a : ParamAnswer = refused n reason in a) e

none_of : (o : Option Param) → ((param : Param) → o ≡ Some param → ⊥) → o ≡ None
none_of None h = refl
none_of (Some param) h = absurd (h param refl)

-- no key stands there
no_key_reads : (params : List Param) (place : ℕ) (x : List ℕ) → ((key : ℕ) (more : List ℕ) → key < 65536 → x ≡ key_name key ++ more → EndsKey more → ⊥) → x ≡ run_of is_key_byte x ++ after_run is_key_byte x → first_param params place x ≡ refused place BadKey
no_key_reads params place x bad split = named (key_named (run_of is_key_byte x)) refl
  where
    ends : (key : ℕ) (t : Bool) → ends_key (after_run is_key_byte x) ≡ t → run_of is_key_byte x ≡ key_name key → key < 65536
        → (let a : ParamAnswer = cond t (cond (has_key key params) (refused place RepeatedKey) (behind_key place key (length (run_of is_key_byte x)) (after_run is_key_byte x))) (refused place BadKey) in a) ≡ refused place BadKey
    ends key true does name fits = absurd (bad key (after_run is_key_byte x) fits (split ∙ ap (λ xs. xs ++ after_run is_key_byte x) name) (key_ends (after_run is_key_byte x) does))
    ends key false doesnt name fits = refl

    named : (o : Option ℕ) → key_named (run_of is_key_byte x) ≡ o → by_key o params place (length (run_of is_key_byte x)) (after_run is_key_byte x) ≡ refused place BadKey
    named None is = refl
    named (Some key) is = let n = named_key (run_of is_key_byte x) key is in ends key (ends_key (after_run is_key_byte x)) refl n.0 n.1

pub stop_reads : (reason : RecordTextRefusal) (params : List Param) (place : ℕ) (x : List ℕ) (q : ℕ) → AreBytes x → x ≡ run_of is_key_byte x ++ after_run is_key_byte x → ParamStops params place x q reason → first_param params place x ≡ refused q reason
stop_reads BadPriority params place x q bytes split s = absurd s
stop_reads BadTarget params place x q bytes split s = absurd s
stop_reads BadKey params place x q bytes split s = no_key_reads params place x s.bad split ∙ refused_is place q BadKey (sym s.at)
stop_reads RepeatedKey params place x q bytes split s =
    key_reads params place s.key x s.more s.text s.fits s.ends ∙ ap (λ t. cond t (refused place RepeatedKey) (behind_key place s.key (length (key_name s.key)) s.more)) s.repeated ∙ refused_is place q RepeatedKey (sym s.at)
stop_reads BadString params place x q bytes split s =
    new_reads params place s.key x (61 ∷ s.more) s.text s.fits (inl refl) s.is_new
    ∙ ap (λ r. by_string r (place + length (key_name s.key) + 1) s.key (length (key_name s.key) + 1)) (string_refused s.more s.wrong s.refused)
    ∙ refused_is _ q BadString (sym s.at)
stop_reads (BadValue key) params place x q bytes split s =
    let fits : key < 65536 = subst (λ k. k < 65536) s.of_key s.first.is_given.key in
    let is_none : read_value key (given_value s.given) ≡ None =
    none_of (read_value key (given_value s.given)) (λ param is. s.bad param (value_spells key (given_value s.given) param fits (value_bytes params x s.given s.rest s.first bytes) is)) in
    given_reads params place x s.given s.rest s.first
    ∙ ap (λ k. by_value (read_value k (given_value s.given)) (place + length (given_head s.given)) k (length (given_head s.given) + length (given_string s.given))) s.of_key
    ∙ ap (λ o. by_value o (place + length (given_head s.given)) key (length (given_head s.given) + length (given_string s.given))) is_none
    ∙ refused_is _ q (BadValue key) (sym s.at)
stop_reads Inconsistent params place x q bytes split s = absurd s
stop_reads TooLong params place x q bytes split s = absurd s
