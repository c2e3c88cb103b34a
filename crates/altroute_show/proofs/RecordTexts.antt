-- The JSON line of a record: its parameters so far, the target's text, and no float.
use Rattle.std.proofs.Common.{◌≡◌, ℕ, ◌+◌, ◌/◌, ◌%◌, ◌<◌, Bool, true, false, List, [], ◌∷◌, ◌++◌, length, map, take, get_or, refl, ap, sym, ◌∙◌, arith}
use Rattle.std.proofs.lemmas.List.{map_push, take_more}
use Rattle.std.specs.Char.{is_ascii_graphic}
use Rattle.std.specs.Str.{IsAscii, IsUtf8}
use Rattle.std.proofs.lemmas.Str.{IsAscii-append, IsUtf8-from_ascii}
use Rattle.std.proofs.lemmas.Str.Ascii.{IsAscii-cons, IsAscii-nil}
use Rattle.serde_json.specs.Data.{Data}
use Rattle.serde_json.specs.View.{view}
use Rattle.serde_json.specs.Written.{has_float, items_have_float, compact_text}
use Rattle.serde_json.specs.declared.value.Value.{Value}
use Rattle.dns_names.specs.Names.{AreNameBytes, AreLabels, IsName}
use Rattle.dns_names.specs.TextParts.{Decimal, part_text, parts_text, dotted, is_special, part_of, text_form}
use Rattle.svcb_wire.specs.declared.param.Param.{Param}
use Rattle.svcb_wire.specs.declared.svcb.Svcb.{Svcb}
use Rattle.altroute_show.specs.RecordJson.{param_data, params_data, record_data, record_line}

-- one parameter more
pub params_more : (params : List Param) (i : ℕ) (param : Param) (old new : List Value) (json : Value) → i < length params → param ≡ get_or params i param → map view old ≡ map param_data (take i params) → view json ≡ param_data param → new ≡ old ++ json ∷ []
    → map view new ≡ map param_data (take (i + 1) params)
params_more params i param old new json h is so_far one added =
    ap (map view) added ∙ map_push view old json ∙ ap (λ xs. xs ++ view json ∷ []) so_far ∙ ap (λ d. map param_data (take i params) ++ d ∷ []) (one ∙ ap param_data is)
    ∙ sym (map_push param_data (take i params) (get_or params i param)) ∙ ap (map param_data) (sym (take_more params i param h))

-- the text of a name is ASCII

special_small : (b : ℕ) → is_special b ≡ true → b < 128
special_small b h = grind arith

graphic_small : (b : ℕ) → is_ascii_graphic b ≡ true → b < 128
graphic_small b h = grind arith

one_byte : (b : ℕ) → b < 128 → IsAscii (b ∷ [])
one_byte b h = IsAscii-cons b [] h IsAscii-nil

hundreds_small : (b : ℕ) → b < 256 → 48 + b / 100 < 128
hundreds_small b h = grind arith

tens_small : (n : ℕ) → 48 + n % 10 < 128
tens_small n = grind arith

digits_ascii : (b : ℕ) → b < 256 → IsAscii (part_text (Decimal (48 + b / 100) (48 + b / 10 % 10) (48 + b % 10)))
digits_ascii b h =
    let ones : List ℕ = (48 + b % 10) ∷ [] in
    let tens : List ℕ = (48 + b / 10 % 10) ∷ ones in
    let hundreds : List ℕ = (48 + b / 100) ∷ tens in
    IsAscii-cons 92 hundreds (omega arith) (IsAscii-cons (48 + b / 100) tens (hundreds_small b h) (IsAscii-cons (48 + b / 10 % 10) ones (tens_small (b / 10)) (one_byte (48 + b % 10) (tens_small b))))

part_ascii : (b : ℕ) → b < 256 → (s g : Bool) → is_special b ≡ s → is_ascii_graphic b ≡ g → IsAscii (part_text (part_of b))
part_ascii b h true g special graphic = rw special (IsAscii-cons 92 (b ∷ []) (omega arith) (one_byte b (special_small b special)))
part_ascii b h false true special graphic = rw (special, graphic) (one_byte b (graphic_small b graphic))
part_ascii b h false false special graphic = rw (special, graphic) (digits_ascii b h)

parts_ascii : (label : List ℕ) → AreNameBytes label → IsAscii (parts_text (map part_of label))
parts_ascii [] are = IsAscii-nil
parts_ascii (b ∷ bs) are = IsAscii-append (part_text (part_of b)) (parts_text (map part_of bs)) (part_ascii b are.0.byte (is_special b) (is_ascii_graphic b) refl refl) (parts_ascii bs are.1)

dotted_ascii : (labels : List (List ℕ)) → AreLabels labels → IsAscii (dotted (map (map part_of) labels))
dotted_ascii [] are = IsAscii-nil
dotted_ascii (label ∷ labels) are = IsAscii-append (parts_text (map part_of label)) (46 ∷ dotted (map (map part_of) labels)) (parts_ascii label are.0.bytes) (IsAscii-cons 46 (dotted (map (map part_of) labels)) (omega arith) (dotted_ascii labels are.1))

pub name_text : (name : List (List ℕ)) → IsName name → IsUtf8 (text_form name)
name_text [] is = IsUtf8-from_ascii (46 ∷ []) (one_byte 46 (omega arith))
name_text (label ∷ labels) is = IsUtf8-from_ascii (text_form (label ∷ labels)) (dotted_ascii (label ∷ labels) is.labels_are)

-- the line

params_whole : (params : List Param) → items_have_float (params_data params) ≡ false
params_whole [] = refl
params_whole (param ∷ params) = params_whole params

record_whole : (value : Svcb) → has_float (record_data value) ≡ false
record_whole value = rw (params_whole value.params) refl

pub line_is : (value : Svcb) (json : Data) (text line : List ℕ) → json ≡ record_data value → (has_float json ≡ false → text ≡ compact_text json) → line ≡ text ++ 10 ∷ [] → line ≡ record_line value
line_is value json text line is writes ends =
    ends ∙ ap (λ xs. xs ++ 10 ∷ []) (writes (ap has_float is ∙ record_whole value) ∙ ap compact_text is)
