-- A value of Alt-Svc that is the rest of a line: its reading against its grammar, and where it is refused.
use Rattle.std.proofs.Common.{◌≡◌, ℕ, ◌+◌, List, [], ◌∷◌, length, Option, Some, None, Result, Ok, Err, refl, ap, sym, ◌∙◌, subst, inl, inr}
use Rattle.alt_base.specs.declared.refusal.At.{At}
use Rattle.altsvc_grammar.specs.ValueReading.{read_value}
use Rattle.altsvc_grammar.specs.declared.alt.Alt.{Alt}
use Rattle.altsvc_grammar.specs.declared.alt_svc.AltSvc.{AltSvc}
use Rattle.altsvc_grammar.specs.declared.alt_svc.AltSvc.TheVariants as value
use Rattle.altsvc_grammar.specs.declared.refusal.AltRefusal.{AltRefusal}
use Rattle.altsvc_grammar.proofs.Meanings.{value_spelled}
use Rattle.altsvc_grammar.proofs.EveryValue.{read_spelled}
use Rattle.event_lines.specs.Parts.{Part, Reading, ◌>>=◌, value_or}
use Rattle.event_lines.specs.LineReading.{end_reading}
use Rattle.event_lines.specs.LineRefusals.{EndsWord, ValueRefusedAt}
use Rattle.event_lines.specs.ServerLines.{SpellsAlts}
use Rattle.event_lines.specs.ServerReading.{listed_in, alts_of, alts_reading}
use Rattle.event_lines.specs.declared.refusal.LineRefusal.{LineRefusal}
use Rattle.event_lines.specs.declared.refusal.LineRefusal.TheVariants.{BadField}
use Rattle.event_lines.proofs.Refusals.{Passed, passed, bad, same_refusal, refusal_parts}

pub alts_sound : (text : List ℕ) (alts : List Alt) → alts_of text ≡ Some alts → SpellsAlts text alts
alts_sound text alts h = go (read_value text) refl h
  where
    go : (r : Result AltSvc (At AltRefusal)) → read_value text ≡ r → listed_in r ≡ Some alts → SpellsAlts text alts
    go (Ok value.Clear) is e = cc
    go (Ok (value.List own)) is e = let same : own ≡ alts = cc in subst (SpellsAlts text) same (read_spelled text (value.List own) is)
    go (Err at) is e = cc

pub alts_complete : (text : List ℕ) (alts : List Alt) → SpellsAlts text alts → alts_of text ≡ Some alts
alts_complete text alts s = ap listed_in (value_spelled text (value.List alts) s)

no_alts : (text : List ℕ) → ((alts : List Alt) → ¬ (SpellsAlts text alts)) → alts_of text ≡ None
no_alts text none = go (alts_of text) refl
  where
    go : (o : Option (List Alt)) → alts_of text ≡ o → o ≡ None
    go None is = refl
    go (Some alts) is = absurd (none alts (alts_sound text alts is))

bad_alts : (text : List ℕ) → alts_of text ≡ None → (alts : List Alt) → ¬ (SpellsAlts text alts)
bad_alts text none alts s = clash (sym none ∙ alts_complete text alts s)
  where
    clash : None ≡ Some alts → ⊥
    clash e = cc

abbrev part : List ℕ → ℕ → Part
part text place = record { text = text; place = place }

-- what passes: alternatives up to the end
abbrev pub pass_value : Part → Passed
pass_value rest = alts_reading rest >>= λ (alts : List Alt × Part). end_reading alts.1

abbrev value_passed : ℕ → Option (List Alt) → Passed
value_passed begin o = value_or BadField (begin + 1) o >>= λ (alts : List Alt). passed

value_pass : (b : ℕ) (bs : List ℕ) (begin : ℕ) → pass_value (part (b ∷ bs) begin) ≡ value_passed begin (alts_of bs)
value_pass b bs begin = go (alts_of bs)
  where
    go : (o : Option (List Alt)) → ((value_or BadField (begin + 1) o >>= λ (alts : List Alt). let x : Reading (List Alt) = Ok (alts, part [] (begin + 1 + length bs)) in x) >>= λ (alts : List Alt × Part). end_reading alts.1) ≡ value_passed begin o
    go None = refl
    go (Some alts) = refl

-- what is refused by the table is refused
pub value_refused : (begin : ℕ) (text : List ℕ) (place : ℕ) (reason : LineRefusal) → ValueRefusedAt begin text place reason → pass_value (part text begin) ≡ bad place reason
value_refused begin text place reason (inl s) = ap (λ t. pass_value (part t begin)) s.nothing ∙ same_refusal begin place BadField reason (sym s.at) (sym s.why)
value_refused begin text place reason (inr s) =
    ap (λ t. pass_value (part t begin)) s.spelled
    ∙ value_pass 32 s.value begin
    ∙ ap (value_passed begin) (no_alts s.value s.bad)
    ∙ same_refusal (begin + 1) place BadField reason (sym s.at) (sym s.why)

-- and the other way round
pub value_says : (begin : ℕ) (text : List ℕ) (place : ℕ) (reason : LineRefusal) → EndsWord text → pass_value (part text begin) ≡ bad place reason → ValueRefusedAt begin text place reason
value_says begin [] place reason end h = let same = refusal_parts begin place BadField reason h in inl (record { nothing = refl; at = sym same.0; why = sym same.1 })
value_says begin (b ∷ bs) place reason end h = go (alts_of bs) refl (sym (value_pass b bs begin) ∙ h)
  where
    go : (o : Option (List Alt)) → alts_of bs ≡ o → value_passed begin o ≡ bad place reason → ValueRefusedAt begin (b ∷ bs) place reason
    go None is e =
        let same = refusal_parts (begin + 1) place BadField reason e in
        inr (record { value = bs; spelled = ap (λ c. c ∷ bs) end; bad = bad_alts bs is; at = sym same.0; why = sym same.1 })
    go (Some alts) is e = cc
