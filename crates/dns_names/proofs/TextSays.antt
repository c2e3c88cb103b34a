-- The reading of a name's text against its grammar.
use Rattle.std.proofs.Common.{◌≡◌, ◌≢◌, ◌⊎◌, ℕ, zero, suc, ◌+◌, ◌≤◌, Bool, true, false, cond, ◌&&◌, nat_eq, nat_lt, List, [], ◌∷◌, ◌++◌, length, drop, map, Option, Some, None, Ok, Err, refl, ap, sym, ◌∙◌, subst, arith, inl, inr, lit≤}
use Rattle.std.proofs.lemmas.List.{append_assoc, append-nil, length-append, length-map, drop_at, map_push}
use Rattle.std.specs.Char.{to_ascii_lowercase}
use Rattle.dns_names.specs.declared.refusal.NameRefusal.{NameRefusal}
use Rattle.dns_names.specs.declared.refusal.NameRefusal.TheVariants.{LabelTooLong, NameTooLong, Compressed, Short, EmptyLabel, BadEscape, BadByte}
use Rattle.dns_names.specs.declared.token.Token.{Token}
use Rattle.dns_names.specs.declared.token.Token.TheVariants.{End, Dot, Byte, Stop}
use Rattle.dns_names.specs.Names.{labels_octets, CanBegin}
use Rattle.dns_names.specs.TextParts.{Part, part_text, part_lower, parts_text, IsPart, AreParts, label_of, dotted, AreAllParts}
use Rattle.dns_names.specs.TextGrammar.{SpellsText, TextGoesOn, IsEmptyLabel, EndsLabel, TextRefusedAt}
use Rattle.dns_names.specs.TextReading.{TextAnswer, token_at, by_fault, label_ends, read_by, read_tokens, text_ends, is_dot, read_text}
use Rattle.alt_base.proofs.Numbers.{true_eq, false_eq, false_lt}
use Rattle.dns_names.proofs.WireSteps.{HasRoom}
use Rattle.dns_names.proofs.WireSays.{begin_push}
use Rattle.dns_names.proofs.TextTokens.{BeginsPart, StopSays, TokenSays, token_says}
use Rattle.dns_names.proofs.TextSteps.{FaultSays, fault_says, part_some}
use Rattle.std.proofs.lemmas.List.{nil_from_length}

-- what an answer says
abbrev pub TextSays : List ℕ → TextAnswer → Type 0
TextSays x (Ok name) = SpellsText x name
TextSays x (Err at) = TextRefusedAt x at.place at.reason

pub parts_push : (parts : List Part) (part : Part) → parts_text (parts ++ part ∷ []) ≡ parts_text parts ++ part_text part
parts_push [] part = append-nil (part_text part)
parts_push (first ∷ parts) part = ap (λ xs. part_text first ++ xs) (parts_push parts part) ∙ sym (append_assoc (part_text first) (parts_text parts) (part_text part))

pub dotted_push : (labels : List (List Part)) (parts : List Part) → dotted (labels ++ parts ∷ []) ≡ dotted labels ++ (parts_text parts ++ 46 ∷ [])
dotted_push [] parts = refl
dotted_push (first ∷ labels) parts =
    ap (λ xs. parts_text first ++ 46 ∷ xs) (dotted_push labels parts) ∙ sym (append_assoc (parts_text first) (46 ∷ dotted labels) (parts_text parts ++ 46 ∷ []))

valid_push : (parts : List Part) (part : Part) → AreParts parts → IsPart part → AreParts (parts ++ part ∷ [])
valid_push [] part all one = (one, tt)
valid_push (first ∷ parts) part all one = (all.0, valid_push parts part all.1 one)

pub all_push : (labels : List (List Part)) (parts : List Part) → AreAllParts labels → AreParts parts → AreAllParts (labels ++ parts ∷ [])
all_push [] parts all one = (one, tt)
all_push (first ∷ labels) parts all one = (all.0, all_push labels parts all.1 one)

pub all_last : (labels : List (List Part)) (parts : List Part) → AreAllParts (labels ++ parts ∷ []) → AreAllParts labels × AreParts parts
all_last [] parts all = (tt, all.0)
all_last (first ∷ labels) parts all = let rec = all_last labels parts all.1 in ((all.0, rec.0), rec.1)

-- a list that isn't empty has a last item
pub record HasLast {X : Type 0} (xs : List X) : Type 0 where
  pub front : List X
  pub last : X
  pub is : xs ≡ front ++ last ∷ []

pub last_of : {X : Type 0} (x : X) (xs : List X) → HasLast (x ∷ xs)
last_of x [] = record { front = []; last = x; is = refl }
last_of x (y ∷ ys) = let rec = last_of y ys in record { front = x ∷ rec.front; last = rec.last; is = ap (λ zs. x ∷ zs) rec.is }

-- the rest named otherwise
text_same : (x rest rest' : List ℕ) (labels : List (List Part)) (parts : List Part) → TextGoesOn x labels parts rest → rest ≡ rest' → TextGoesOn x labels parts rest'
text_same x rest rest' labels parts goes same = record {
  valid = goes.valid;
  parts_valid = goes.parts_valid;
  begin = goes.begin;
  split = goes.split ∙ ap (λ xs. dotted labels ++ (parts_text parts ++ xs)) same;
}

-- a part more
part_goes : (x more : List ℕ) (labels : List (List Part)) (parts : List Part) (part : Part) → TextGoesOn x labels parts (part_text part ++ more) → IsPart part → TextGoesOn x labels (parts ++ part ∷ []) more
part_goes x more labels parts part goes valid = record {
  valid = goes.valid;
  parts_valid = valid_push parts part goes.parts_valid valid;
  begin = goes.begin;
  split = goes.split ∙ ap (λ xs. dotted labels ++ xs) (sym (append_assoc (parts_text parts) (part_text part) more) ∙ ap (λ xs. xs ++ more) (sym (parts_push parts part)));
}

-- a whole label more
dot_goes : (x more : List ℕ) (labels : List (List Part)) (parts : List Part) → TextGoesOn x labels parts (46 ∷ more) → HasRoom (length (labels_octets (map label_of labels))) (length (label_of parts)) → TextGoesOn x (labels ++ parts ∷ []) [] more
dot_goes x more labels parts goes room = record {
  valid = all_push labels parts goes.valid goes.parts_valid;
  parts_valid = tt;
  begin = subst CanBegin (sym (map_push label_of labels parts)) (begin_push (map label_of labels) (label_of parts) goes.begin room);
  split = goes.split ∙ ap (λ xs. dotted labels ++ xs) (sym (append_assoc (parts_text parts) (46 ∷ []) more)) ∙ sym (append_assoc (dotted labels) (parts_text parts ++ 46 ∷ []) more) ∙ ap (λ xs. xs ++ more) (sym (dotted_push labels parts));
}

abbrev IsEmptyWhy : List ℕ → List ℕ → Type 0
IsEmptyWhy x rest = (x ≡ []) ⊎ ((more : List ℕ) × (rest ≡ 46 ∷ more) × (x ≢ 46 ∷ []))

parts_none : (parts : List Part) → length parts ≡ 0 → parts ≡ []
parts_none [] h = refl
parts_none (part ∷ parts) h = absurd (omega arith)

empty_says : (x rest : List ℕ) (labels : List (List Part)) (parts : List Part) (start : ℕ) → TextGoesOn x labels parts rest → start ≡ length (dotted labels) → length parts ≡ 0 → IsEmptyWhy x rest → IsEmptyLabel x start
empty_says x rest labels parts start goes place none why =
    record { labels = labels; rest = rest; behind = subst (λ ps. TextGoesOn x labels ps rest) (parts_none parts none) goes; empty = why; place = place }

-- the end of a label, with its fault or with room
label_says : (x rest : List ℕ) (labels : List (List Part)) (parts : List Part) (start count : ℕ) (answer : TextAnswer) (fault : Option NameRefusal) → TextGoesOn x labels parts rest → EndsLabel rest → start ≡ length (dotted labels) → count ≡ length parts
    → (length parts ≡ 0 → IsEmptyWhy x rest) → (HasRoom (length (labels_octets (map label_of labels))) count → TextSays x answer) → FaultSays (length (labels_octets (map label_of labels))) count fault → TextSays x (by_fault fault start answer)
label_says x rest labels parts start count answer None goes ends place same empty next says = next says
label_says x rest labels parts start count answer (Some EmptyLabel) goes ends place same empty next says =
    let none : length parts ≡ 0 = omega (arith, says, same) in
    empty_says x rest labels parts start goes place none (empty none)
label_says x rest labels parts start count answer (Some LabelTooLong) goes ends place same empty next says =
    record { labels = labels; parts = parts; rest = rest; behind = goes; ends = ends; long = omega (arith, says, same); place = place }
label_says x rest labels parts start count answer (Some NameTooLong) goes ends place same empty next says =
    record { labels = labels; parts = parts; rest = rest; behind = goes; ends = ends; some = omega (arith, says.0, same); sized = omega (arith, says.1, same); long = omega (arith, says.2, same); place = place }
label_says x rest labels parts start count answer (Some Compressed) goes ends place same empty next says = absurd says
label_says x rest labels parts start count answer (Some Short) goes ends place same empty next says = absurd says
label_says x rest labels parts start count answer (Some BadEscape) goes ends place same empty next says = absurd says
label_says x rest labels parts start count answer (Some BadByte) goes ends place same empty next says = absurd says

-- the end of a label as the reading has it
ended_says : (x rest : List ℕ) (labels : List (List Part)) (parts : List Part) (start : ℕ) (answer : TextAnswer) → TextGoesOn x labels parts rest → EndsLabel rest → start ≡ length (dotted labels)
    → (length parts ≡ 0 → IsEmptyWhy x rest) → (HasRoom (length (labels_octets (map label_of labels))) (length (label_of parts)) → TextSays x answer) → TextSays x (label_ends (map label_of labels) (label_of parts) start answer)
ended_says x rest labels parts start answer goes ends place empty next =
    label_says x rest labels parts start (length (label_of parts)) answer _ goes ends place (length-map parts part_lower) empty next (fault_says (length (labels_octets (map label_of labels))) (length (label_of parts)))

-- the text ends with a dot
final_dot : (x : List ℕ) (first : List Part) (labels : List (List Part)) → TextGoesOn x (first ∷ labels) [] [] → SpellsText x (map label_of (first ∷ labels))
final_dot x first labels goes =
    let l = last_of first labels in
    let valid = all_last l.front l.last (subst AreAllParts l.is goes.valid) in
    inr (record {
      labels = l.front;
      last = l.last;
      end = 46 ∷ [];
      valid = valid.0;
      last_valid = valid.1;
      final_dot = inr refl;
      text = goes.split ∙ append-nil (dotted (first ∷ labels)) ∙ ap dotted l.is ∙ dotted_push l.front l.last;
      lower = ap (λ ls. map label_of ls) l.is ∙ map_push label_of l.front l.last;
      begin = goes.begin;
    })

-- the text ends with a label
last_label : (x : List ℕ) (labels : List (List Part)) (parts : List Part) → TextGoesOn x labels parts [] → HasRoom (length (labels_octets (map label_of labels))) (length (label_of parts)) → SpellsText x (map label_of labels ++ label_of parts ∷ [])
last_label x labels parts goes room = inr (record {
  labels = labels;
  last = parts;
  end = [];
  valid = goes.valid;
  last_valid = goes.parts_valid;
  final_dot = inl refl;
  text = goes.split;
  lower = refl;
  begin = begin_push (map label_of labels) (label_of parts) goes.begin room;
})

no_text : (x : List ℕ) (labels : List (List Part)) (parts : List Part) → TextGoesOn x labels parts [] → length labels ≤ 0 → length parts ≡ 0 → x ≡ []
no_text x [] [] goes h i = goes.split
no_text x [] (part ∷ parts) goes h i = absurd (omega arith)
no_text x (first ∷ labels) parts goes h i = absurd (omega arith)

end_by : (x : List ℕ) (labels : List (List Part)) (parts : List Part) (start : ℕ) (none some : Bool) → TextGoesOn x labels parts [] → start ≡ length (dotted labels) → nat_eq (length (label_of parts)) 0 ≡ none → nat_lt 0 (length (map label_of labels)) ≡ some
    → TextSays x (cond (none && some) (Ok (map label_of labels)) (label_ends (map label_of labels) (label_of parts) start (Ok (map label_of labels ++ label_of parts ∷ []))))
end_by x [] parts start true true goes place p q = cc
end_by x (first ∷ labels) parts start true true goes place p q =
    final_dot x first labels (subst (λ ps. TextGoesOn x (first ∷ labels) ps []) (parts_none parts (omega (arith, true_eq (length (label_of parts)) 0 p, length-map parts part_lower))) goes)
end_by x labels parts start true false goes place p q =
    ended_says x [] labels parts start _ goes (inl refl) place (λ h. inl (no_text x labels parts goes (omega (arith, false_lt 0 (length (map label_of labels)) q, length-map labels label_of)) h)) (λ room. last_label x labels parts goes room)
end_by x labels parts start false some goes place p q =
    ended_says x [] labels parts start _ goes (inl refl) place (λ h. absurd (false_eq _ _ p (length-map parts part_lower ∙ h))) (λ room. last_label x labels parts goes room)

end_says : (x rest : List ℕ) (labels : List (List Part)) (parts : List Part) (start : ℕ) → TextGoesOn x labels parts rest → rest ≡ [] → start ≡ length (dotted labels) → TextSays x (text_ends (map label_of labels) (label_of parts) start)
end_says x rest labels parts start goes none place = end_by x labels parts start _ _ (text_same x rest [] labels parts goes none) place refl refl

stop_says : (x rest : List ℕ) (labels : List (List Part)) (parts : List Part) (at : ℕ) (reason : NameRefusal) → TextGoesOn x labels parts rest → at ≡ length (dotted labels) + length (parts_text parts) → StopSays rest reason → TextRefusedAt x at reason
stop_says x rest labels parts at BadByte goes place s = record { labels = labels; parts = parts; byte = s.0; rest = s.1; behind = text_same x rest (s.0 ∷ s.1) labels parts goes s.2; bad = s.3; place = place }
stop_says x rest labels parts at BadEscape goes place s = record { labels = labels; parts = parts; rest = s.0; behind = text_same x rest (92 ∷ s.0) labels parts goes s.1; bad = s.2; place = place }
stop_says x rest labels parts at LabelTooLong goes place s = absurd s
stop_says x rest labels parts at NameTooLong goes place s = absurd s
stop_says x rest labels parts at Compressed goes place s = absurd s
stop_says x rest labels parts at Short goes place s = absurd s
stop_says x rest labels parts at EmptyLabel goes place s = absurd s

abbrev NextSays : ℕ → List ℕ → Type 0
NextSays k x = (labels : List (List Part)) (parts : List Part) (start at : ℕ) (rest : List ℕ) → TextGoesOn x labels parts rest → start ≡ length (dotted labels) → at ≡ start + length (parts_text parts) → length rest ≤ k
    → TextSays x (read_tokens k (map label_of labels) (label_of parts) start at rest)

byte_says : (k : ℕ) (x rest : List ℕ) (labels : List (List Part)) (parts : List Part) (start at byte count : ℕ) → NextSays k x → TextGoesOn x labels parts rest → start ≡ length (dotted labels) → at ≡ start + length (parts_text parts) → length rest ≤ suc k → BeginsPart rest byte count
    → TextSays x (read_tokens k (map label_of labels) (label_of parts ++ to_ascii_lowercase byte ∷ []) start (at + count) (drop count rest))
byte_says k x rest labels parts start at byte count next goes place here within s =
    let left : drop count rest ≡ s.more = ap (λ xs. drop count xs) s.text ∙ drop_at (part_text s.part) s.more count (sym s.count_is) in
    let pushed : label_of (parts ++ s.part ∷ []) ≡ label_of parts ++ to_ascii_lowercase byte ∷ [] = map_push part_lower parts s.part ∙ ap (λ b. label_of parts ++ to_ascii_lowercase b ∷ []) (sym s.byte_is) in
    let size : length (parts_text (parts ++ s.part ∷ [])) ≡ length (parts_text parts) + length (part_text s.part) = ap length (parts_push parts s.part) ∙ length-append (parts_text parts) (part_text s.part) in
    let some = part_some s.part in
    let goes_on = part_goes x s.more labels parts s.part (text_same x rest (part_text s.part ++ s.more) labels parts goes s.text) s.valid in
    rw left (subst (λ l. TextSays x (read_tokens k (map label_of labels) l start (at + count) s.more)) pushed
    (next labels (parts ++ s.part ∷ []) start (at + count) s.more goes_on place (omega (arith, here, size, s.count_is)) (omega (arith, within, some, ap length s.text, length-append (part_text s.part) s.more))))

dot_says : (k : ℕ) (x rest more : List ℕ) (labels : List (List Part)) (parts : List Part) (start at : ℕ) → NextSays k x → x ≢ 46 ∷ [] → TextGoesOn x labels parts rest → start ≡ length (dotted labels) → at ≡ start + length (parts_text parts) → length rest ≤ suc k → rest ≡ 46 ∷ more
    → TextSays x (label_ends (map label_of labels) (label_of parts) start (read_tokens k (map label_of labels ++ label_of parts ∷ []) [] (at + 1) (at + 1) (drop 1 rest)))
dot_says k x rest more labels parts start at next no_root goes place here within is =
    let there = text_same x rest (46 ∷ more) labels parts goes is in
    let count : length (dotted (labels ++ parts ∷ [])) ≡ length (dotted labels) + (length (parts_text parts) + 1) =
    ap length (dotted_push labels parts) ∙ length-append (dotted labels) (parts_text parts ++ 46 ∷ []) ∙ ap (λ n. length (dotted labels) + n) (length-append (parts_text parts) (46 ∷ [])) in
    ended_says x rest labels parts start _ goes (inr (more, is)) place (λ h. inr (more, is, no_root)) (λ room.
    rw is (subst (λ ls. TextSays x (read_tokens k ls [] (at + 1) (at + 1) more)) (map_push label_of labels parts)
    (next (labels ++ parts ∷ []) [] (at + 1) (at + 1) more (dot_goes x more labels parts there room) (omega (arith, count, place, here)) (omega arith) (omega (arith, within, ap length is)))))

step_says : (k : ℕ) (x rest : List ℕ) (labels : List (List Part)) (parts : List Part) (start at : ℕ) (t : Token) → NextSays k x → x ≢ 46 ∷ [] → TextGoesOn x labels parts rest → start ≡ length (dotted labels) → at ≡ start + length (parts_text parts) → length rest ≤ suc k → TokenSays rest t
    → TextSays x (read_by t (map label_of labels) (label_of parts) start at rest (read_tokens k))
step_says k x rest labels parts start at End next no_root goes place here within s = end_says x rest labels parts start goes s place
step_says k x rest labels parts start at Dot next no_root goes place here within s = dot_says k x rest s.0 labels parts start at next no_root goes place here within s.1
step_says k x rest labels parts start at (Byte byte count) next no_root goes place here within s = byte_says k x rest labels parts start at byte count next goes place here within s
step_says k x rest labels parts start at (Stop reason) next no_root goes place here within s = stop_says x rest labels parts at reason goes (omega (arith, place, here)) s

tokens_say : (k : ℕ) (x : List ℕ) → x ≢ 46 ∷ [] → NextSays k x
tokens_say zero x no_root labels parts start at rest goes place here within = end_says x rest labels parts start goes (nil_from_length rest (omega arith)) place
tokens_say (suc k) x no_root labels parts start at rest goes place here within = step_says k x rest labels parts start at (token_at rest) (tokens_say k x no_root) no_root goes place here within (token_says rest)

pub goes_first : (x : List ℕ) → TextGoesOn x [] [] x
goes_first x = record { valid = tt; parts_valid = tt; begin = record { sized = tt; most = lit≤ tt }; split = refl }

pub dot_is : (x : List ℕ) → is_dot x ≡ true → x ≡ 46 ∷ []
dot_is [] h = cc
dot_is (b ∷ []) h = ap (λ n. n ∷ []) (true_eq b 46 h)
dot_is (b ∷ c ∷ rest) h = cc

pub not_dot : (x : List ℕ) → is_dot x ≡ false → x ≢ 46 ∷ []
not_dot x h e = no_clash (subst (λ xs. is_dot xs ≡ false) e h)
  where
    no_clash : true ≡ false → ⊥
    no_clash c = cc

text_by : (x : List ℕ) (dot : Bool) → is_dot x ≡ dot → TextSays x (cond dot (Ok []) (read_tokens (length x) [] [] 0 0 x))
text_by x true is = inl (dot_is x is, refl)
text_by x false is = tokens_say (length x) x (not_dot x is) [] [] 0 0 x (goes_first x) refl refl (omega arith)

pub text_says : (x : List ℕ) → TextSays x (read_text x)
text_says x = text_by x (is_dot x) refl
