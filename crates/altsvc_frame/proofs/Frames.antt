-- The reading of payloads against their grammar.
use Rattle.std.proofs.Common.{◌≡◌, ◌≢◌, ◌⊎◌, ℕ, ◌+◌, ◌*◌, ◌<◌, Bool, true, false, cond, nat_eq, nat_lt, List, [], ◌∷◌, ◌++◌, length, take, drop, Option, None, Some, Result, Ok, Err, IfOk, refl, ap, ap₂, sym, ◌∙◌, subst, arith, inl, inr}
use Rattle.std.proofs.lemmas.List.{length-append, length-take-le, take-append-drop, take_at, drop_at}
use Rattle.alt_base.specs.declared.refusal.At.{At}
use Rattle.alt_base.specs.declared.refusal.Refused.{Refused}
use Rattle.alt_base.specs.declared.refusal.Refused.TheVariants as Refusal
use Rattle.origin_values.specs.AsciiOrigin.{SpellsAscii, IsNoOrigin}
use Rattle.alt_base.specs.Answers.{Answers, IfRefused}
use Rattle.origin_values.specs.Written.{origin_text}
use Rattle.origin_values.specs.declared.scheme.Scheme.{Scheme}
use Rattle.origin_values.specs.declared.scheme.Scheme.TheVariants.{Http, Https}
use Rattle.origin_values.specs.declared.origin.Origin.{Origin}
use Rattle.altsvc_grammar.specs.ValueReading.{read_value}
use Rattle.altsvc_grammar.specs.declared.alt_svc.AltSvc.{AltSvc}
use Rattle.altsvc_grammar.specs.declared.refusal.AltRefusal.{AltRefusal}
use Rattle.altsvc_grammar.proofs.EveryValue.{read_spelled, read_refused}
use Rattle.altsvc_grammar.proofs.Meanings.{value_spelled}
use Rattle.altsvc_grammar.proofs.RefusedValues.{value_refused}
use Rattle.altsvc_frame.specs.declared.frame.AltFrame.{AltFrame}
use Rattle.altsvc_frame.specs.declared.refusal.AltFrameRefusal.{AltFrameRefusal}
use Rattle.altsvc_frame.specs.declared.refusal.AltFrameRefusal.TheVariants.{Short, OriginPast, EmptyOnZero, OriginOnStream, BadOrigin, BadField}
use Rattle.altsvc_frame.specs.FrameGrammar.{IsSplit, SpellsFrameOrigin, SpellsFrame, FrameRefusedAt, OneFrame}
use Rattle.altsvc_frame.specs.FrameReading.{Answer, refused, with_field, read_field, behind_origin, read_on_zero, read_on_other, read_parts, read_octets, read_frame}
use Rattle.altsvc_frame.specs.FrameWritten.{IsOptionalOrigin, IsAltFrame}
use Rattle.altsvc_grammar.proofs.ValidValues.{value_valid}
use Rattle.origin_values.specs.AsciiReading.{ascii_origin}
use Rattle.origin_values.proofs.AsciiOrigins.{ascii_spelled, ascii_read, ascii_none, none_ascii}
use Rattle.alt_base.proofs.Numbers.{lt_true, lt_false, true_lt, false_lt, eq_true, eq_false, true_eq, false_eq}
use Rattle.alt_base.proofs.Lists.{cons_not_nil}

-- the grammar's words for an answer
abbrev pub FrameSays : ℕ → List ℕ → Answer → Type 0
FrameSays stream payload (Ok frame) = SpellsFrame stream payload frame
FrameSays stream payload (Err at) = FrameRefusedAt stream payload at.place at.reason

field_says : (stream : ℕ) (payload text field : List ℕ) (origin : Option Origin) (r : Result AltSvc (At AltRefusal)) → IsSplit payload text field → SpellsFrameOrigin stream text origin
    → read_value field ≡ r → FrameSays stream payload (with_field origin (2 + length text) r)
field_says stream payload text field origin (Ok value) split of_origin is = record {
  text = text;
  field = field;
  split = split;
  of_origin = of_origin;
  of_field = read_spelled field value is;
}
field_says stream payload text field origin (Err at) split of_origin is = record {
  text = text;
  field = field;
  origin = origin;
  inside = at.place;
  reason = at.reason;
  split = split;
  of_origin = of_origin;
  refused = read_refused field at is;
  at = refl;
}

zero_says : (stream : ℕ) (payload text field : List ℕ) → stream ≡ 0 → IsSplit payload text field → FrameSays stream payload (read_on_zero text field)
zero_says stream payload [] field on split = (on, ([], field, split, refl), refl)
zero_says stream payload (b ∷ bs) field on split = go (ascii_origin (b ∷ bs)) refl
  where
    go : (origin : Option Origin) → ascii_origin (b ∷ bs) ≡ origin → FrameSays stream payload (behind_origin (2 + length (b ∷ bs)) field origin)
    go None is = (on, (b ∷ bs, field, split, (cons_not_nil b bs, ascii_none (b ∷ bs) is)), refl)
    go (Some origin) is = field_says stream payload (b ∷ bs) field (Some origin) (read_value field) split (on, ascii_spelled (b ∷ bs) origin is) refl

other_says : (stream : ℕ) (payload text field : List ℕ) → stream ≢ 0 → IsSplit payload text field → FrameSays stream payload (read_on_other text field)
other_says stream payload [] field other split = field_says stream payload [] field None (read_value field) split (other, refl) refl
other_says stream payload (b ∷ bs) field other split = (other, (b ∷ bs, field, split, cons_not_nil b bs), refl)

parts_says : (stream : ℕ) (payload text field : List ℕ) → IsSplit payload text field → FrameSays stream payload (read_parts stream text field)
parts_says stream payload text field split = go (nat_eq stream 0) refl
  where
    go : (t : Bool) → nat_eq stream 0 ≡ t → FrameSays stream payload (cond t (read_on_zero text field) (read_on_other text field))
    go true is = zero_says stream payload text field (true_eq stream 0 is) split
    go false is = other_says stream payload text field (false_eq stream 0 is) split

octets_say : (stream high low : ℕ) (octets : List ℕ) → FrameSays stream (high ∷ low ∷ octets) (read_octets stream (high * 256 + low) octets)
octets_say stream high low octets = go (nat_lt (length octets) (high * 256 + low)) refl
  where
    go : (t : Bool) → nat_lt (length octets) (high * 256 + low) ≡ t
        → FrameSays stream (high ∷ low ∷ octets) (cond t (refused 0 OriginPast) (read_parts stream (take (high * 256 + low) octets) (drop (high * 256 + low) octets)))
    go true is = (record { high = high; low = low; rest = octets; spelled = refl; past = true_lt _ _ is }, refl)
    go false is =
        let n = high * 256 + low in
        parts_says stream (high ∷ low ∷ octets) (take n octets) (drop n octets) (record {
          high = high;
          low = low;
          spelled = ap (λ xs. high ∷ low ∷ xs) (sym (take-append-drop n octets));
          long = length-take-le n octets (false_lt _ _ is);
        })

pub frame_says : (stream : ℕ) (payload : List ℕ) → FrameSays stream payload (read_frame stream payload)
frame_says stream [] = (omega arith, refl)
frame_says stream (high ∷ []) = (omega arith, refl)
frame_says stream (high ∷ low ∷ octets) = octets_say stream high low octets

-- a payload that splits is read by its parts
split_read : (stream : ℕ) (payload text field : List ℕ) → IsSplit payload text field → read_frame stream payload ≡ read_parts stream text field
split_read stream payload text field split = ap (read_frame stream) split.spelled ∙ go (split.high * 256 + split.low) split.long
  where
    go : (n : ℕ) → length text ≡ n → read_octets stream n (text ++ field) ≡ read_parts stream text field
    go n long =
        ap (λ t. cond t (refused 0 OriginPast) (read_parts stream (take n (text ++ field)) (drop n (text ++ field)))) (lt_false (length (text ++ field)) n (omega (arith, length-append text field, long)))
        ∙ ap₂ (read_parts stream) (take_at text field n long) (drop_at text field n long)

on_zero_read : (stream : ℕ) (text field : List ℕ) → stream ≡ 0 → read_parts stream text field ≡ read_on_zero text field
on_zero_read stream text field on = ap (λ t. cond t (read_on_zero text field) (read_on_other text field)) (eq_true stream 0 on)

on_other_read : (stream : ℕ) (text field : List ℕ) → stream ≢ 0 → read_parts stream text field ≡ read_on_other text field
on_other_read stream text field other = ap (λ t. cond t (read_on_zero text field) (read_on_other text field)) (eq_false stream 0 other)

no_origin_empty : (origin : Origin) → [] ≡ origin_text origin → ⊥
no_origin_empty origin e = go origin.scheme e
  where
    go : (scheme : Scheme) → [] ≡ origin_text (record { scheme = scheme; host = origin.host; port = origin.port }) → ⊥
    go Http h = cc
    go Https h = cc

zero_read : (text field : List ℕ) (origin : Origin) → SpellsAscii text origin → read_on_zero text field ≡ read_field (Some origin) (2 + length text) field
zero_read [] field origin h = absurd (no_origin_empty origin h.spelled)
zero_read (b ∷ bs) field origin h = ap (behind_origin (2 + length (b ∷ bs)) field) (ascii_read (b ∷ bs) origin h)

origin_read : (stream : ℕ) (text field : List ℕ) (origin : Option Origin) → SpellsFrameOrigin stream text origin → read_parts stream text field ≡ read_field origin (2 + length text) field
origin_read stream text field None h = on_other_read stream text field h.0 ∙ go text h.1
  where
    go : (xs : List ℕ) → xs ≡ [] → read_on_other xs field ≡ read_field None (2 + length xs) field
    go [] e = refl
    go (b ∷ bs) e = absurd (cons_not_nil b bs e)
origin_read stream text field (Some origin) h = on_zero_read stream text field h.0 ∙ zero_read text field origin h.1

pub frame_read : (stream : ℕ) (payload : List ℕ) (frame : AltFrame) → SpellsFrame stream payload frame → read_frame stream payload ≡ Ok frame
frame_read stream payload frame h =
    split_read stream payload h.text h.field h.split
    ∙ origin_read stream h.text h.field frame.origin h.of_origin
    ∙ ap (with_field frame.origin (2 + length h.text)) (value_spelled h.field frame.value h.of_field)

empty_read : (text field : List ℕ) → text ≡ [] → read_on_zero text field ≡ refused 0 EmptyOnZero
empty_read [] field e = refl
empty_read (b ∷ bs) field e = absurd (cons_not_nil b bs e)

some_read : (text field : List ℕ) → text ≢ [] → read_on_other text field ≡ refused 0 OriginOnStream
some_read [] field some = absurd (some refl)
some_read (b ∷ bs) field some = refl

none_read : (text field : List ℕ) → text ≢ [] → IsNoOrigin text → read_on_zero text field ≡ refused 2 BadOrigin
none_read [] field some without = absurd (some refl)
none_read (b ∷ bs) field some without = ap (behind_origin (2 + length (b ∷ bs)) field) (none_ascii (b ∷ bs) without)

short_read : (stream : ℕ) (payload : List ℕ) → length payload < 2 → read_frame stream payload ≡ refused (length payload) Short
short_read stream [] h = refl
short_read stream (high ∷ []) h = refl
short_read stream (high ∷ low ∷ octets) h = absurd (omega arith)

pub frame_refused : (stream : ℕ) (payload : List ℕ) (place : ℕ) (reason : AltFrameRefusal) → FrameRefusedAt stream payload place reason → read_frame stream payload ≡ refused place reason
frame_refused stream payload place Short h = short_read stream payload h.0 ∙ ap (λ p. refused p Short) (sym h.1)
frame_refused stream payload place OriginPast h =
    ap (read_frame stream) h.0.spelled
    ∙ go (h.0.high * 256 + h.0.low) h.0.rest h.0.past
    ∙ ap (λ p. refused p OriginPast) (sym h.1)
  where
    go : (n : ℕ) (rest : List ℕ) → length rest < n → read_octets stream n rest ≡ refused 0 OriginPast
    go n rest past = ap (λ t. cond t (refused 0 OriginPast) (read_parts stream (take n rest) (drop n rest))) (lt_true (length rest) n past)
frame_refused stream payload place EmptyOnZero h =
    let parts = h.1 in
    split_read stream payload parts.0 parts.1 parts.2
    ∙ on_zero_read stream parts.0 parts.1 h.0
    ∙ empty_read parts.0 parts.1 parts.3
    ∙ ap (λ p. refused p EmptyOnZero) (sym h.2)
frame_refused stream payload place OriginOnStream h =
    let parts = h.1 in
    split_read stream payload parts.0 parts.1 parts.2
    ∙ on_other_read stream parts.0 parts.1 h.0
    ∙ some_read parts.0 parts.1 parts.3
    ∙ ap (λ p. refused p OriginOnStream) (sym h.2)
frame_refused stream payload place BadOrigin h =
    let parts = h.1 in
    split_read stream payload parts.0 parts.1 parts.2
    ∙ on_zero_read stream parts.0 parts.1 h.0
    ∙ none_read parts.0 parts.1 parts.3.0 parts.3.1
    ∙ ap (λ p. refused p BadOrigin) (sym h.2)
frame_refused stream payload place BadField h =
    split_read stream payload h.text h.field h.split
    ∙ origin_read stream h.text h.field h.origin h.of_origin
    ∙ ap (with_field h.origin (2 + length h.text)) (value_refused h.field h.inside h.reason h.refused)
    ∙ ap (λ p. refused p BadField) (sym h.at)

pub frame_spelled : (stream : ℕ) (payload : List ℕ) (frame : AltFrame) → read_frame stream payload ≡ Ok frame → SpellsFrame stream payload frame
frame_spelled stream payload frame h = subst (FrameSays stream payload) h (frame_says stream payload)

pub frame_refusal : (stream : ℕ) (payload : List ℕ) (at : At AltFrameRefusal) → read_frame stream payload ≡ Err at → FrameRefusedAt stream payload at.place at.reason
frame_refusal stream payload at h = subst (FrameSays stream payload) h (frame_says stream payload)

origin_valid : (stream : ℕ) (text : List ℕ) (origin : Option Origin) → SpellsFrameOrigin stream text origin → IsOptionalOrigin origin
origin_valid stream text None h = tt
origin_valid stream text (Some origin) h = h.1.valid

pub frame_valid : (stream : ℕ) (payload : List ℕ) (frame : AltFrame) → SpellsFrame stream payload frame → IsAltFrame frame
frame_valid stream payload frame h = record { origin = origin_valid stream h.text frame.origin h.of_origin; value = value_valid h.field frame.value h.of_field }

abbrev ok_of : AltFrame → Answer
ok_of frame = Ok frame

same_frame : (a b : AltFrame) → ok_of a ≡ ok_of b → a ≡ b
same_frame a b e = cc

abbrev err_of : At AltFrameRefusal → Answer
err_of at = Err at

same_at : (a b : At AltFrameRefusal) → err_of a ≡ err_of b → (a.place ≡ b.place) × (a.reason ≡ b.reason)
same_at a b e = let h : a ≡ b = cc in (ap (λ (x : At AltFrameRefusal). x.place) h, ap (λ (x : At AltFrameRefusal). x.reason) h)

pub one_frame_of : (stream : ℕ) (payload : List ℕ) → OneFrame stream payload
one_frame_of stream payload = record {
  some = some_of (read_frame stream payload) (frame_says stream payload);
  one_frame = λ a b h k. same_frame a b (sym (frame_read stream payload a h) ∙ frame_read stream payload b k);
  one_refusal = λ p q r s h k. same_at (record { place = p; reason = r }) (record { place = q; reason = s }) (sym (frame_refused stream payload p r h) ∙ frame_refused stream payload q s k);
  not_both = λ frame place reason h k. clash frame (record { place = place; reason = reason }) (sym (frame_read stream payload frame h) ∙ frame_refused stream payload place reason k);
}
  where
    some_of : (answer : Answer) → FrameSays stream payload answer
        → ((frame : AltFrame) × SpellsFrame stream payload frame) ⊎ ((place : ℕ) × (reason : AltFrameRefusal) × FrameRefusedAt stream payload place reason)
    some_of (Ok frame) says = inl (frame, says)
    some_of (Err at) says = inr (at.place, at.reason, says)

    clash : (frame : AltFrame) (at : At AltFrameRefusal) → ok_of frame ≡ err_of at → ⊥
    clash frame at e = cc

-- what a call answers, in the grammar's words
pub answer_says : (stream : ℕ) (payload : List ℕ) (r : Result AltFrame (Refused AltFrameRefusal)) → Answers r (read_frame stream payload)
    → IfOk r (λ frame. SpellsFrame stream payload frame) × IfOk r IsAltFrame × IfRefused r (λ place reason. FrameRefusedAt stream payload place reason)
answer_says stream payload (Ok frame) h =
    let spelled = frame_spelled stream payload frame h in
    (spelled, frame_valid stream payload frame spelled, tt)
answer_says stream payload (Err Refusal.NoMemory) h = (tt, tt, tt)
answer_says stream payload (Err (Refusal.At place reason)) h = (tt, tt, frame_refusal stream payload (record { place = place; reason = reason }) h)
