-- A value that is spelled is valid: each alternative is in its bounds, and no two have one key; the host of Alt-Used is in
-- its form, and the port in its bounds.
use Rattle.std.proofs.Common.{◌≡◌, ◌≢◌, ℕ, ◌≤◌, Bool, true, false, cond, List, [], ◌∷◌, ◌++◌, Option, Some, None, refl, sym, subst, arith, inl, inr}
use Rattle.std.specs.List.{list_any}
use Rattle.field_text.specs.DeltaGrammar.{greatest_delta_seconds}
use Rattle.origin_values.specs.declared.host.Host.{Host}
use Rattle.origin_values.proofs.HostTexts.{host_valid}
use Rattle.altsvc_grammar.specs.declared.alt_key.AltKey.{AltKey}
use Rattle.altsvc_grammar.specs.declared.alt.Alt.{Alt}
use Rattle.altsvc_grammar.specs.declared.alt_svc.AltSvc.{AltSvc}
use Rattle.altsvc_grammar.specs.declared.alt_svc.AltSvc.TheVariants as value
use Rattle.altsvc_grammar.specs.AuthorityGrammar.{SpellsOptionalHost}
use Rattle.altsvc_grammar.specs.UsedGrammar.{SpellsUsedPort, SpellsUsed}
use Rattle.altsvc_grammar.specs.TermsGrammar.{MeansSeconds}
use Rattle.altsvc_grammar.specs.ValueGrammar.{Alternative, IsAlternative, alt_meant, Element, Clear, Offered, IsElement, Slot, IsSlot, IsOptionalElement, AreSlots, with_element, elements_of, is_clear, alternatives_of, key_in, firsts, meaning, SpellsValue}
use Rattle.altsvc_grammar.specs.Valid.{IsOptionalHost, IsAlt, AreAlts, AreDistinct, IsAltSvc, IsUsed}
use Rattle.altsvc_grammar.proofs.Meanings.{no_clear_some}

AreElements : List Element → Type 0
AreElements [] = Unit {0}
AreElements (e ∷ es) = IsElement e × AreElements es

one_more : (o : Option Element) (es : List Element) → IsOptionalElement o → AreElements es → AreElements (with_element o es)
unfolding AreElements
one_more None es h are = are
one_more (Some e) es h are = (h, are)

slots_elements : (ss : List Slot) (last : Slot) → AreSlots ss → IsSlot last → AreElements (elements_of (ss ++ last ∷ []))
unfolding AreElements
slots_elements [] last are is = one_more last.element [] is.element tt
slots_elements (s ∷ ss) last are is = one_more s.element (elements_of (ss ++ last ∷ [])) are.0.element (slots_elements ss last are.1 is)

seconds_bounded : (said : Option (List ℕ)) (seconds : ℕ) → MeansSeconds said seconds → seconds ≤ greatest_delta_seconds
seconds_bounded None seconds h = omega arith
seconds_bounded (Some value) seconds (inl s) = omega (arith, s.value)
seconds_bounded (Some value) seconds (inr s) = omega (arith, s.1)

optional_valid : (text : List ℕ) (host : Option Host) → SpellsOptionalHost text host → IsOptionalHost host
optional_valid text None s = tt
optional_valid text (Some host) s = host_valid text host s

alt_valid : (a : Alternative) → IsAlternative a → IsAlt (alt_meant a)
alt_valid a is =
    let s = is.authority in
    record {
      key = record { proto = is.proto; host = optional_valid s.front a.host s.of_host; some = s.of_port.some; fits = s.of_port.spelled.most };
      seconds = seconds_bounded is.ma.said a.ma is.ma.means;
    }

alts_valid : (es : List Element) → AreElements es → AreAlts (alternatives_of es)
unfolding AreElements
alts_valid [] are = tt
alts_valid (Clear ∷ es) are = alts_valid es are.1
alts_valid (Offered a ∷ es) are = (alt_valid a are.0, alts_valid es are.1)

firsts_valid : (before : List AltKey) (alts : List Alt) → AreAlts alts → AreAlts (firsts before alts)
firsts_valid before [] are = tt
firsts_valid before (alt ∷ alts) are = go (key_in alt.key before) (firsts_valid before alts are.1) (firsts_valid (before ++ alt.key ∷ []) alts are.1)
  where
    go : (t : Bool) → AreAlts (firsts before alts) → AreAlts (firsts (before ++ alt.key ∷ []) alts) → AreAlts (cond t (firsts before alts) (alt ∷ firsts (before ++ alt.key ∷ []) alts))
    go true skipped kept = skipped
    go false skipped kept = (are.0, kept)

firsts_distinct : (before : List AltKey) (alts : List Alt) → AreDistinct before (firsts before alts)
firsts_distinct before [] = tt
firsts_distinct before (alt ∷ alts) = go (key_in alt.key before) refl (firsts_distinct before alts) (firsts_distinct (before ++ alt.key ∷ []) alts)
  where
    go : (t : Bool) → key_in alt.key before ≡ t → AreDistinct before (firsts before alts) → AreDistinct (before ++ alt.key ∷ []) (firsts (before ++ alt.key ∷ []) alts) → AreDistinct before (cond t (firsts before alts) (alt ∷ firsts (before ++ alt.key ∷ []) alts))
    go true is skipped kept = skipped
    go false is skipped kept = (is, kept)

meaning_valid : (es : List Element) → es ≢ [] → AreElements es → IsAltSvc (meaning es)
meaning_valid es some are = go (list_any is_clear es) refl
  where
    go : (t : Bool) → list_any is_clear es ≡ t → IsAltSvc (cond t value.Clear (value.List (firsts [] (alternatives_of es))))
    go true is = tt
    go false is = record { some = no_clear_some es some is; valid = firsts_valid [] (alternatives_of es) (alts_valid es are); distinct = firsts_distinct [] (alternatives_of es) }

pub value_valid : (x : List ℕ) (v : AltSvc) → SpellsValue x v → IsAltSvc v
value_valid x v s = subst IsAltSvc (sym s.means) (meaning_valid (elements_of (s.before ++ s.last ∷ [])) s.some (slots_elements s.before s.last s.are_slots s.is_slot))

used_port_bounds : (tail : List ℕ) (port : ℕ) → SpellsUsedPort tail port → (1 ≤ port) × (port ≤ 65535)
used_port_bounds tail port (inl s) = (omega (arith, s.1), omega (arith, s.1))
used_port_bounds tail port (inr s) = (s.2.some, s.2.spelled.most)

pub used_valid : (x : List ℕ) (used : Host × ℕ) → SpellsUsed x used → IsUsed used
used_valid x used s = let bounds = used_port_bounds s.tail used.1 s.of_port in record { host = host_valid s.run used.0 s.of_host; some = bounds.0; fits = bounds.1 }
