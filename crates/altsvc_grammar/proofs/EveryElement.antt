-- Each text that an element begins is an element and what follows it, or is refused.
use Rattle.std.proofs.Common.{◌≡◌, ◌≢◌, ◌⊎◌, ℕ, zero, suc, ◌-◌, ◌/◌, ◌%◌, ◌≤◌, ◌<◌, Bool, true, false, cond, nat_eq, nat_lt, nat_le, List, [], ◌∷◌, ◌++◌, length, codes, All, Option, Some, None, refl, ap, sym, ◌∙◌, subst, arith, length-append, append_assoc, inl, inr}
use Rattle.std.proofs.lemmas.List.Elements.{All-cons, All-nil}
use Rattle.std.specs.Cmp.Lexicographic.{pointwise}
use Rattle.std.specs.Fmt.{digit_glyph}
use Rattle.std.proofs.Math.Bool.{and-false}
use Rattle.alt_base.proofs.Lists.{true_text}
use Rattle.alt_base.proofs.Booleans.{contradicts}
use Rattle.alt_base.proofs.Numbers.{true_eq, false_eq, true_lt, false_lt}
use Rattle.percent_encoding.specs.Percent.{percent_encode_byte}
use Rattle.field_text.specs.Runs.{AllIn, BeginsIn}
use Rattle.field_text.specs.BlanksGrammar.{is_blank}
use Rattle.field_text.specs.TokenGrammar.{is_token}
use Rattle.field_text.specs.QuotedGrammar.{parts_text, parts_bytes}
use Rattle.origin_values.specs.declared.host.Host.{Host}
use Rattle.altsvc_grammar.specs.declared.refusal.AltRefusal.{AltRefusal}
use Rattle.altsvc_grammar.specs.declared.refusal.AltRefusal.TheVariants.{BadToken, BadPercent, NoEquals, BadQuoted, BadAuthority, BadParameter, Trailing}
use Rattle.altsvc_grammar.specs.Written.{is_plain, encoded_byte, encoded}
use Rattle.altsvc_grammar.specs.Steps.{begins_with}
use Rattle.altsvc_grammar.specs.ProtocolReading.{is_coded}
use Rattle.altsvc_grammar.specs.AuthorityReading.{read_authority}
use Rattle.altsvc_grammar.specs.AuthorityGrammar.{IsProtocol, SpellsAuthority}
use Rattle.altsvc_grammar.specs.ParameterGrammar.{IsToken, Parameter, AreParameters}
use Rattle.altsvc_grammar.specs.ValueGrammar.{Alternative, IsAlternative, Element, Clear, Offered, element_then, IsElement}
use Rattle.altsvc_grammar.specs.ValueRefusals.{EndsElement, ElementRefused}
use Rattle.altsvc_grammar.proofs.ParameterTerms.{ma_of, says_ma, persist_of, says_persist}
use Rattle.altsvc_grammar.proofs.Fronts.{true_front, false_front, not_begun}
use Rattle.altsvc_grammar.proofs.Spelling.{quoted_then}
use Rattle.altsvc_grammar.proofs.Percents.{coded, escape_coded, byte_length}
use Rattle.altsvc_grammar.proofs.Authorities.{authority_read, authority_spelled}
use Rattle.altsvc_grammar.proofs.SpelledElements.{Ends, alternative_count}
use Rattle.altsvc_grammar.proofs.EveryParameter.{TokenFront, token_front, QuotedFront, QuotedRefused, quoted_front, blanks_front, ParametersFront, ParametersRefused, parameters_outcome}

-- a protocol, or its first bad `%`
pub record Decoded (t : List ℕ) : Type 0 where
  pub proto : List ℕ
  pub bytes : All (λ b. b < 256) proto
  pub text : t ≡ encoded proto

pub record BadPercentIn (t : List ℕ) : Type 0 where
  pub good : List ℕ
  pub more : List ℕ
  pub bytes : All (λ b. b < 256) good
  pub text : t ≡ encoded good ++ 37 ∷ more
  pub in_token : AllIn is_token more
  pub bad : (byte : ℕ) (after : List ℕ) → byte < 256 → 37 ∷ more ≡ encoded_byte byte ++ after → ⊥

coded_from : (byte : ℕ) (after more : List ℕ) → byte < 256 → 37 ∷ more ≡ encoded_byte byte ++ after → is_coded more ≡ true
unfolding percent_encode_byte
coded_from byte after more small e = go (is_plain byte) refl e
  where
    go : (t : Bool) → is_plain byte ≡ t → 37 ∷ more ≡ cond t (byte ∷ []) (percent_encode_byte byte) ++ after → is_coded more ≡ true
    go true is e =
        let same : 37 ≡ byte = cc in
        let clash : is_plain 37 ≡ true = ap is_plain same ∙ is in cc
    go false is e =
        let rest : more ≡ digit_glyph true (byte / 16 % 16) ∷ digit_glyph true (byte % 16) ∷ after = cc in
        rw rest (escape_coded byte after small is)

not_below : (b k : ℕ) → k < 256 → 256 ≤ b → nat_le b k ≡ false
not_below b k h i = grind arith

token_small : (b : ℕ) → is_token b ≡ true → b < 256
token_small b h = go (nat_lt b 256) refl
  where
    large : 256 ≤ b → is_token b ≡ false
    large i = rw (not_below b 33 (omega arith) i, not_below b 39 (omega arith) i, not_below b 43 (omega arith) i, not_below b 46 (omega arith) i, not_below b 57 (omega arith) i, not_below b 90 (omega arith) i, not_below b 122 (omega arith) i, not_below b 124 (omega arith) i, not_below b 126 (omega arith) i)
        (rw (and-false (nat_le 33 b), and-false (nat_le 35 b), and-false (nat_le 42 b), and-false (nat_le 45 b), and-false (nat_le 48 b), and-false (nat_le 65 b), and-false (nat_le 94 b), and-false (nat_le 124 b), and-false (nat_le 126 b)) refl)

    go : (t : Bool) → nat_lt b 256 ≡ t → b < 256
    go true is = true_lt b 256 is
    go false is = contradicts (is_token b) h (large (false_lt b 256 is))

all_tail : (class : ℕ → Bool) (x y : List ℕ) → AllIn class (x ++ y) → AllIn class y
all_tail class [] y h = h
all_tail class (b ∷ bs) y h = all_tail class bs y h.1

Bytes : List ℕ → Type 0
Bytes proto = All (λ b. b < 256) proto

plain_more : (b : ℕ) (bs : List ℕ) → is_token b ≡ true → nat_eq b 37 ≡ false → Decoded bs ⊎ BadPercentIn bs → Decoded (b ∷ bs) ⊎ BadPercentIn (b ∷ bs)
plain_more b bs token other (inl d) =
    inl (record { proto = b ∷ d.proto; bytes = All-cons (λ c. c < 256) b d.proto (token_small b token) d.bytes; text = rw (token, other) (ap (λ xs. b ∷ xs) d.text) })
plain_more b bs token other (inr m) =
    inr (record { good = b ∷ m.good; more = m.more; bytes = All-cons (λ c. c < 256) b m.good (token_small b token) m.bytes; text = rw (token, other) (ap (λ xs. b ∷ xs) m.text); in_token = m.in_token; bad = m.bad })

coded_more : (t : List ℕ) (byte : ℕ) (after : List ℕ) → byte < 256 → t ≡ encoded_byte byte ++ after → Decoded after ⊎ BadPercentIn after → Decoded t ⊎ BadPercentIn t
coded_more t byte after small text (inl d) =
    inl (record { proto = byte ∷ d.proto; bytes = All-cons (λ c. c < 256) byte d.proto small d.bytes; text = text ∙ ap (λ xs. encoded_byte byte ++ xs) d.text })
coded_more t byte after small text (inr m) =
    inr (record { good = byte ∷ m.good; more = m.more; bytes = All-cons (λ c. c < 256) byte m.good small m.bytes; text = text ∙ ap (λ xs. encoded_byte byte ++ xs) m.text ∙ sym (append_assoc (encoded_byte byte) (encoded m.good) (37 ∷ m.more)); in_token = m.in_token; bad = m.bad })

pub protocol_outcome : (k : ℕ) (t : List ℕ) → length t < k → AllIn is_token t → Decoded t ⊎ BadPercentIn t
protocol_outcome zero t small valid = absurd (omega arith)
protocol_outcome (suc k) [] small valid = inl (record { proto = []; bytes = All-nil (λ c. c < 256); text = refl })
protocol_outcome (suc k) (b ∷ bs) small valid = go (nat_eq b 37) refl (λ t less are. protocol_outcome k t less are)
  where
    Rest : Type 0
    Rest = (t : List ℕ) → length t < k → AllIn is_token t → Decoded t ⊎ BadPercentIn t

    percent : b ≡ 37 → (t : Bool) → is_coded bs ≡ t → Rest → Decoded (b ∷ bs) ⊎ BadPercentIn (b ∷ bs)
    percent e false is rest = inr (record { good = []; more = bs; bytes = All-nil (λ c. c < 256); text = ap (λ c. c ∷ bs) e; in_token = valid.1; bad = λ byte after below f. contradicts (is_coded bs) (coded_from byte after bs below f) is })
    percent e true is rest =
        let c = coded bs is in
        let text : b ∷ bs ≡ encoded_byte c.byte ++ c.after = ap (λ d. d ∷ bs) e ∙ c.text in
        let less : length c.after < k = omega (arith, ap length c.text, length-append (encoded_byte c.byte) c.after, byte_length c.byte) in
        let are : AllIn is_token c.after = all_tail is_token (encoded_byte c.byte) c.after (subst (AllIn is_token) text valid) in
        coded_more (b ∷ bs) c.byte c.after c.small text (rest c.after less are)

    go : (t : Bool) → nat_eq b 37 ≡ t → Rest → Decoded (b ∷ bs) ⊎ BadPercentIn (b ∷ bs)
    go true is rest = percent (true_eq b 37 is) (is_coded bs) refl rest
    go false is rest = plain_more b bs valid.0 is (rest bs (omega arith) valid.1)

-- an element and what follows it up to a comma or the end, or its refusal
pub record ElementFront (z : List ℕ) : Type 0 where
  pub e : Element
  pub back : List ℕ
  pub tail : List ℕ
  pub text : z ≡ element_then e (back ++ tail)
  pub valid : IsElement e
  pub blanks : AllIn is_blank back
  pub break : (tail ≡ []) ⊎ ((bs : List ℕ) × (tail ≡ 44 ∷ bs))

abbrev pub ElementOutcome : ℕ → List ℕ → Type 0
ElementOutcome n z = ElementFront z ⊎ ((q : ℕ) × (r : AltRefusal) × ElementRefused n z q r)

pub element_longer : (e : Element) (w : List ℕ) → length w ≤ length (element_then e w)
element_longer Clear w = omega (arith, length-append (codes "clear") w)
element_longer (Offered a) w = omega (arith, alternative_count a w)

ends_element : (e : Element) (w : List ℕ) (b : ℕ) (bs : List ℕ) → Ends e w (b ∷ bs) → EndsElement e w b
ends_element Clear w b bs h = (h.0, false_front 61 w h.1)
ends_element (Offered a) w b bs h = (h.0, false_eq b 59 h.1)

ended : (n : ℕ) (z : List ℕ) (e : Element) (back tail : List ℕ) → z ≡ element_then e (back ++ tail) → IsElement e → AllIn is_blank back → (BeginsIn is_blank tail → ⊥) → Ends e (back ++ tail) tail → length z ≤ n → ElementOutcome n z
ended n z e back [] text valid are blank ends short = inl (record { e = e; back = back; tail = []; text = text; valid = valid; blanks = are; break = inl refl })
ended n z e back (b ∷ bs) text valid are blank ends short = go (nat_eq b 44) refl
  where
    go : (t : Bool) → nat_eq b 44 ≡ t → ElementOutcome n z
    go true is = inl (record { e = e; back = back; tail = b ∷ bs; text = text; valid = valid; blanks = are; break = inr (bs, ap (λ c. c ∷ bs) (true_eq b 44 is)) })
    go false is = inr (
      n - length (b ∷ bs),
      Trailing,
      record {
        e = e;
        blanks = back;
        byte = b;
        rest = bs;
        text = text;
        is_element = valid;
        are_blanks = are;
        no_blank = not_begun is_blank b bs blank;
        no_comma = false_eq b 44 is;
        ends = ends_element e (back ++ b ∷ bs) b bs ends;
        place = omega (arith, ap length text, element_longer e (back ++ b ∷ bs), length-append back (b ∷ bs));
      },
    )

with_authority : (n : ℕ) (z proto y : List ℕ) (t : QuotedFront y) (host : Option Host) (port : ℕ) → z ≡ encoded proto ++ 61 ∷ y → IsProtocol proto → SpellsAuthority (parts_bytes t.parts) host port → length z ≤ n → ElementOutcome n z
with_authority n z proto y t host port text valid spelled short = go (parameters_outcome (suc (length t.rest)) n t.rest (omega arith) inside)
  where
    inside : length t.rest ≤ n
    inside = omega (arith, ap length text, length-append (encoded proto) (61 ∷ y), ap length t.text, length-append (parts_text t.parts) (34 ∷ t.rest))

    whole : z ≡ encoded proto ++ 61 ∷ quoted_then t.parts t.rest
    whole = text ∙ ap (λ xs. encoded proto ++ 61 ∷ xs) t.text

    of : List Parameter → Alternative
    of ps = record { proto = proto; parts = t.parts; host = host; port = port; parameters = ps; ma = ma_of ps; persist = persist_of ps }

    is : (ps : List Parameter) → AreParameters ps → IsAlternative (of ps)
    is ps are = record { proto = valid; parts = t.valid; authority = spelled; parameters = are; ma = says_ma ps; persist = says_persist ps }

    go : ParametersFront t.rest ⊎ ParametersRefused n t.rest → ElementOutcome n z
    go (inl r) = ended n z (Offered (of r.ps)) r.back r.tail (whole ∙ ap (λ xs. encoded proto ++ 61 ∷ quoted_then t.parts xs) r.text) (is r.ps r.valid) r.blanks r.no_blank (r.ends, r.no_semicolon) short
    go (inr r) = inr (r.q, BadParameter, record { a = of r.ps; before = r.before; after = r.after; z = r.z; text = whole ∙ ap (λ xs. encoded proto ++ 61 ∷ quoted_then t.parts xs) r.text; is_alternative = is r.ps r.valid; blanks_before = r.blanks_before; blanks_after = r.blanks_after; refused = r.refused })

with_protocol : (n : ℕ) (z proto y : List ℕ) → z ≡ encoded proto ++ 61 ∷ y → IsProtocol proto → length z ≤ n → ElementOutcome n z
with_protocol n z proto y text valid short = go (quoted_front n y inside)
  where
    inside : length y ≤ n
    inside = omega (arith, ap length text, length-append (encoded proto) (61 ∷ y))

    authority : (t : QuotedFront y) (r : Option (Option Host × ℕ)) → read_authority (parts_bytes t.parts) ≡ r → ElementOutcome n z
    authority t None is = inr (
      n - length (quoted_then t.parts t.rest),
      BadAuthority,
      record {
        proto = proto;
        parts = t.parts;
        rest = t.rest;
        text = text ∙ ap (λ xs. encoded proto ++ 61 ∷ xs) t.text;
        is_proto = valid;
        are_parts = t.valid;
        bad = λ host port s. let e = authority_read (parts_bytes t.parts) host port s in cc;
        place = omega (arith, ap length t.text, inside);
      },
    )
    authority t (Some a) is = with_authority n z proto y t a.0 a.1 text valid (authority_spelled (parts_bytes t.parts) a.0 a.1 is) short

    go : QuotedFront y ⊎ QuotedRefused n y → ElementOutcome n z
    go (inl t) = authority t (read_authority (parts_bytes t.parts)) refl
    go (inr t) = inr (t.q, BadQuoted, record { proto = proto; rest = y; p = t.p; reason = t.reason; text = text; is_proto = valid; from = t.from; refused = t.refused })

some_bytes : (t proto : List ℕ) → IsToken t → t ≡ encoded proto → 0 < length proto
some_bytes t [] valid text = absurd (valid.some text)
some_bytes t (b ∷ bs) valid text = omega arith

with_equals : (n : ℕ) (z t y : List ℕ) → z ≡ t ++ 61 ∷ y → IsToken t → length z ≤ n → ElementOutcome n z
with_equals n z t y text valid short = go (protocol_outcome (suc (length t)) t (omega arith) valid.valid)
  where
    decoded : (d : Decoded t) (b : Bool) → nat_lt 255 (length d.proto) ≡ b → ElementOutcome n z
    decoded d true is = inr (n - length z, BadToken, inr (record { proto = d.proto; rest = y; text = text ∙ ap (λ xs. xs ++ 61 ∷ y) d.text; bytes = d.bytes; long = true_lt 255 (length d.proto) is; place = omega arith }))
    decoded d false is = with_protocol n z d.proto y (text ∙ ap (λ xs. xs ++ 61 ∷ y) d.text) (record { some = some_bytes t d.proto valid d.text; short = false_lt 255 (length d.proto) is; bytes = d.bytes }) short

    go : Decoded t ⊎ BadPercentIn t → ElementOutcome n z
    go (inl d) = decoded d (nat_lt 255 (length d.proto)) refl
    go (inr m) =
        let whole : z ≡ encoded m.good ++ 37 ∷ (m.more ++ 61 ∷ y) = text ∙ ap (λ xs. xs ++ 61 ∷ y) m.text ∙ append_assoc (encoded m.good) (37 ∷ m.more) (61 ∷ y) in
        inr (n - length (37 ∷ (m.more ++ 61 ∷ y)), BadPercent, record { good = m.good; more = m.more; rest = y; text = whole; bytes = m.bytes; in_token = m.in_token; bad = m.bad; place = omega (arith, ap length whole, length-append (encoded m.good) (37 ∷ (m.more ++ 61 ∷ y))) })

pub element_outcome : (n b : ℕ) (bs : List ℕ) → is_blank b ≡ false → b ≢ 44 → length (b ∷ bs) ≤ n → ElementOutcome n (b ∷ bs)
element_outcome n b bs blank comma short = go (token_front (b ∷ bs))
  where
    clear : (t : TokenFront (b ∷ bs)) → begins_with 61 t.rest ≡ false → (c : Bool) → pointwise nat_eq t.token (codes "clear") ≡ c → ElementOutcome n (b ∷ bs)
    clear t none true is =
        let w = blanks_front t.rest in
        let text : b ∷ bs ≡ codes "clear" ++ (w.blanks ++ w.rest) = t.text ∙ ap (λ xs. xs ++ t.rest) (true_text t.token (codes "clear") is) ∙ ap (λ xs. codes "clear" ++ xs) w.text in
        ended n (b ∷ bs) Clear w.blanks w.rest text tt w.valid w.longest ((λ h. t.longest (subst (BeginsIn is_token) (sym w.text) h)), ap (begins_with 61) (sym w.text) ∙ none) short
    clear t none false is = inr (
      n - length t.rest,
      NoEquals,
      record {
        token = t.token;
        rest = t.rest;
        text = t.text;
        valid = t.valid;
        no_clear = λ e. contradicts (pointwise nat_eq t.token (codes "clear")) (ap (λ xs. pointwise nat_eq xs (codes "clear")) e) is;
        longest = t.longest;
        no_equals = false_front 61 t.rest none;
        place = omega (arith, ap length t.text, length-append t.token t.rest);
      },
    )

    equals : (t : TokenFront (b ∷ bs)) → (c : Bool) → begins_with 61 t.rest ≡ c → ElementOutcome n (b ∷ bs)
    equals t true is = let e = true_front 61 t.rest is in with_equals n (b ∷ bs) t.token e.0 (t.text ∙ ap (λ xs. t.token ++ xs) e.1) t.valid short
    equals t false is = clear t is (pointwise nat_eq t.token (codes "clear")) refl

    go : TokenFront (b ∷ bs) ⊎ (BeginsIn is_token (b ∷ bs) → ⊥) → ElementOutcome n (b ∷ bs)
    go (inl t) = equals t (begins_with 61 t.rest) refl
    go (inr none) = inr (n - length (b ∷ bs), BadToken, inl (record { byte = b; rest = bs; text = refl; no_blank = blank; no_comma = comma; no_token = not_begun is_token b bs none; place = omega arith }))
