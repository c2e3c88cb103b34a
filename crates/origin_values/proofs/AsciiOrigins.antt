-- The reading of an origin's ASCII text.
use Rattle.std.proofs.Common.{◌≡◌, ℕ, Bool, true, false, cond, nat_eq, List, Option, None, Some, Result, Ok, Err, refl, ap, sym, ◌∙◌, subst}
use Rattle.std.specs.Cmp.Lexicographic.{pointwise, same_text}
use Rattle.alt_base.specs.declared.refusal.At.{At}
use Rattle.origin_values.specs.AsciiOrigin.{SpellsAscii, IsNoOrigin}
use Rattle.origin_values.specs.AsciiReading.{if_written_as, ascii_origin}
use Rattle.origin_values.specs.OriginReading.{read_origin}
use Rattle.origin_values.specs.Written.{origin_text}
use Rattle.origin_values.specs.declared.origin.Origin.{Origin}
use Rattle.origin_values.specs.declared.refusal.OriginRefusal.{OriginRefusal}
use Rattle.origin_values.proofs.Origins.{origin_sound}
use Rattle.origin_values.proofs.OriginTexts.{origin_valid, origin_read_back}
use Rattle.alt_base.proofs.Lists.{text_self}

written_spelled : (text : List ℕ) (origin other : Origin) → read_origin text ≡ Ok origin → cond (pointwise nat_eq (origin_text origin) text) (Some origin) None ≡ Some other → SpellsAscii text other
written_spelled text origin other is h = go (pointwise nat_eq (origin_text origin) text) refl h
  where
    go : (t : Bool) → pointwise nat_eq (origin_text origin) text ≡ t → cond t (Some origin) None ≡ Some other → SpellsAscii text other
    go true same e =
        let o : origin ≡ other = cc in
        subst (SpellsAscii text) o (record { valid = origin_valid text origin (origin_sound text origin is); spelled = sym (same_text (origin_text origin) text (sym same)) })
    go false same e = cc

pub ascii_spelled : (text : List ℕ) (origin : Origin) → ascii_origin text ≡ Some origin → SpellsAscii text origin
unfolding ascii_origin
ascii_spelled text origin h = go (read_origin text) refl h
  where
    go : (r : Result Origin (At OriginRefusal)) → read_origin text ≡ r → if_written_as text r ≡ Some origin → SpellsAscii text origin
    go (Ok other) is e = written_spelled text other origin is e
    go (Err at) is e = cc

pub ascii_read : (text : List ℕ) (origin : Origin) → SpellsAscii text origin → ascii_origin text ≡ Some origin
unfolding ascii_origin
ascii_read text origin h =
    ap (if_written_as text) (ap read_origin h.spelled ∙ origin_read_back origin h.valid)
    ∙ ap (λ t. cond t (Some origin) None) (ap (pointwise nat_eq (origin_text origin)) h.spelled ∙ text_self (origin_text origin))

pub ascii_none : (text : List ℕ) → ascii_origin text ≡ None → IsNoOrigin text
ascii_none text none origin h = clash (sym none ∙ ascii_read text origin h)
  where
    clash : None ≡ Some origin → ⊥
    clash e = cc

pub none_ascii : (text : List ℕ) → IsNoOrigin text → ascii_origin text ≡ None
none_ascii text without = go (ascii_origin text) refl
  where
    go : (o : Option Origin) → ascii_origin text ≡ o → o ≡ None
    go None is = refl
    go (Some origin) is = absurd (without origin (ascii_spelled text origin is))
