-- The ASCII text of an origin.
use Rattle.std.proofs.Common.{◌≡◌, ℕ, ◌^◌, ◌<◌, Bool, true, false, ◌&&◌, cond, nat_eq, List, [], ◌∷◌, ◌++◌, Result, Ok, Err, IfOk, decimal, refl, ap, sym, ◌∙◌, subst, arith}
use Rattle.std.specs.List.{list_all}
use Rattle.std.specs.Char.{is_ascii}
use Rattle.std.specs.Cmp.Lexicographic.{pointwise, same_text}
use Rattle.std.specs.Str.Parse.{AllDigits}
use Rattle.std.proofs.lemmas.Str.Parse.{digit_from_value}
use Rattle.std.proofs.lemmas.Fmt.{decimal_is_IsNumeral}
use Rattle.alt_base.specs.declared.refusal.At.{At}
use Rattle.alt_base.specs.declared.refusal.Refused.{Refused}
use Rattle.alt_base.specs.declared.refusal.Refused.TheVariants as refused
use Rattle.origin_values.specs.AsciiOrigin.{SpellsAscii}
use Rattle.origin_values.specs.DefaultPort.{default_port_of}
use Rattle.alt_base.specs.Answers.{Answers, IfRefused}
use Rattle.origin_values.specs.OriginGrammar.{SpellsOrigin, OriginRefusedAt}
use Rattle.origin_values.specs.OriginReading.{read_origin}
use Rattle.origin_values.specs.Valid.{IsOrigin}
use Rattle.origin_values.specs.Written.{scheme_text, port_text, origin_text}
use Rattle.origin_values.specs.declared.scheme.Scheme.{Scheme}
use Rattle.origin_values.specs.declared.scheme.Scheme.TheVariants.{Http, Https}
use Rattle.origin_values.specs.declared.origin.Origin.{Origin}
use Rattle.origin_values.specs.declared.refusal.OriginRefusal.{OriginRefusal}
use Rattle.origin_values.proofs.Origins.{origin_sound, origin_refusal}
use Rattle.origin_values.proofs.OriginTexts.{origin_valid, origin_read_back, host_ascii}
use Rattle.alt_base.proofs.Lists.{text_true}
use Rattle.alt_base.proofs.Numbers.{lt_true}
use Rattle.alt_base.proofs.Variants.{same_ok}

abbrev ok_of : Origin → Result Origin (At OriginRefusal)
ok_of origin = Ok origin

-- what is written as the text is what is read
ascii_read : (text : List ℕ) (origin : Origin) → SpellsAscii text origin → read_origin text ≡ Ok origin
ascii_read text origin h = ap read_origin h.spelled ∙ origin_read_back origin h.valid

pub ascii_spelled : (text : List ℕ) (origin : Origin) → SpellsAscii text origin → SpellsOrigin text origin
ascii_spelled text origin h = origin_sound text origin (ascii_read text origin h)

pub one_ascii : (text : List ℕ) (a b : Origin) → SpellsAscii text a → SpellsAscii text b → a ≡ b
one_ascii text a b h k = same_ok a b (sym (ascii_read text a h) ∙ ascii_read text b k)

all_append : (xs ys : List ℕ) → list_all is_ascii xs ≡ true → list_all is_ascii ys ≡ true → list_all is_ascii (xs ++ ys) ≡ true
all_append [] ys h k = k
all_append (x ∷ xs) ys h k = go (λ e. all_append xs ys e k) (is_ascii x) refl h
  where
    clash : false ≡ true → ⊥
    clash e = cc

    go : (list_all is_ascii xs ≡ true → list_all is_ascii (xs ++ ys) ≡ true) → (t : Bool) → is_ascii x ≡ t → (t && list_all is_ascii xs) ≡ true → (is_ascii x && list_all is_ascii (xs ++ ys)) ≡ true
    go later true is e = rw is (later e)
    go later false is e = absurd (clash e)

digits_ascii : (ds : List ℕ) → AllDigits 10 ds → list_all is_ascii ds ≡ true
digits_ascii [] h = refl
digits_ascii (c ∷ ds) h =
    let range = digit_from_value c h.0 in
    rw (lt_true c 128 (omega (arith, range.1))) (digits_ascii ds h.1)

scheme_ascii : (scheme : Scheme) → list_all is_ascii (scheme_text scheme) ≡ true
scheme_ascii Http = refl
scheme_ascii Https = refl

port_ascii : (scheme : Scheme) (port : ℕ) → port < 2 ^ 16 → list_all is_ascii (port_text scheme port) ≡ true
port_ascii scheme port short = go (nat_eq port (default_port_of scheme))
  where
    go : (t : Bool) → list_all is_ascii (cond t [] (58 ∷ decimal port)) ≡ true
    go true = refl
    go false = digits_ascii (decimal port) (decimal_is_IsNumeral port (omega arith)).0.1

pub origin_ascii : (origin : Origin) → IsOrigin origin → list_all is_ascii (origin_text origin) ≡ true
origin_ascii origin h =
    all_append (scheme_text origin.scheme ++ _) (port_text origin.scheme origin.port)
    (all_append (scheme_text origin.scheme) _ (scheme_ascii origin.scheme) (host_ascii origin.host h.host))
    (port_ascii origin.scheme origin.port h.short)

-- a text with another byte is no origin's ASCII text
pub not_all_ascii : (text : List ℕ) → list_all is_ascii text ≡ false → (origin : Origin) → ¬ (SpellsAscii text origin)
not_all_ascii text other origin h = clash (sym (ap (list_all is_ascii) h.spelled ∙ origin_ascii origin h.valid) ∙ other)
  where
    clash : true ≡ false → ⊥
    clash e = cc

pub not_read : (text : List ℕ) (at : At OriginRefusal) → read_origin text ≡ Err at → (origin : Origin) → ¬ (SpellsAscii text origin)
not_read text at refused origin h = clash (sym (ascii_read text origin h) ∙ refused)
  where
    clash : ok_of origin ≡ Err at → ⊥
    clash e = cc

pub not_written : (text : List ℕ) (read : Origin) → read_origin text ≡ Ok read → (origin_text read ≡ text → ⊥) → (origin : Origin) → ¬ (SpellsAscii text origin)
not_written text read reads other origin h =
    let same : read ≡ origin = same_ok read origin (sym reads ∙ ascii_read text origin h) in
    other (ap origin_text same ∙ sym h.spelled)

pub ascii_ok : (text : List ℕ) (origin : Origin) → read_origin text ≡ Ok origin → origin_text origin ≡ text → SpellsAscii text origin
ascii_ok text origin reads written = record { valid = origin_valid text origin (origin_sound text origin reads); spelled = sym written }

-- what a result that gives the reading says in the words of the grammar
pub record Says (text : List ℕ) (r : Result Origin (Refused OriginRefusal)) : Type 0 where
  pub ok : IfOk r (λ origin. SpellsOrigin text origin)
  pub valid : IfOk r (λ origin. IsOrigin origin)
  pub at_place : IfRefused r (λ place reason. OriginRefusedAt text place reason)

pub parse_says : (text : List ℕ) (r : Result Origin (Refused OriginRefusal)) → Answers r (read_origin text) → Says text r
parse_says text (Ok origin) h = let spells = origin_sound text origin h in record { ok = spells; valid = origin_valid text origin spells; at_place = tt }
parse_says text (Err refused.NoMemory) h = record { ok = tt; valid = tt; at_place = tt }
parse_says text (Err (refused.At place reason)) h = record { ok = tt; valid = tt; at_place = origin_refusal text place reason h }

-- what the result was is what the reading gives
pub gives_ok : (text : List ℕ) (r : Result Origin (Refused OriginRefusal)) (origin : Origin) → Answers r (read_origin text) → r ≡ Ok origin → read_origin text ≡ Ok origin
gives_ok text r origin h is = subst (λ x. Answers x (read_origin text)) is h

pub gives_at : (text : List ℕ) (r : Result Origin (Refused OriginRefusal)) (e : Refused OriginRefusal) (place : ℕ) (reason : OriginRefusal)
    → Answers r (read_origin text) → r ≡ Err e → e ≡ refused.At place reason → read_origin text ≡ Err (record { place = place; reason = reason })
gives_at text r e place reason h is at_is = subst (λ x. Answers x (read_origin text)) (is ∙ ap err_of at_is) h
  where
    err_of : Refused OriginRefusal → Result Origin (Refused OriginRefusal)
    err_of x = Err x

-- the test of the text that was written
pub written_is : (xs text : List ℕ) (origin : Origin) → pointwise nat_eq xs text ≡ true → xs ≡ origin_text origin → origin_text origin ≡ text
written_is xs text origin test is = sym is ∙ same_text xs text (sym test)

pub written_other : (xs text : List ℕ) (origin : Origin) → pointwise nat_eq xs text ≡ false → xs ≡ origin_text origin → origin_text origin ≡ text → ⊥
written_other xs text origin test is same = clash (sym (text_true xs text (is ∙ same)) ∙ test)
  where
    clash : true ≡ false → ⊥
    clash e = cc
