-- What the loop over the tokens of a name's text keeps.
use Rattle.std.proofs.Common.{◌≡◌, ◌≤◌, ℕ, ◌+◌, List, [], ◌∷◌, ◌++◌, length, drop, Some, None, false, refl, ap, sym, ◌∙◌, subst, arith}
use Rattle.std.proofs.lemmas.List.{length-drop, length-append, drop-drop}
use Rattle.std.specs.Char.{to_ascii_lowercase}
use Rattle.dns_names.specs.declared.refusal.NameRefusal.{NameRefusal}
use Rattle.dns_names.specs.declared.token.Token.{Token}
use Rattle.dns_names.specs.declared.token.Token.TheVariants.{End, Dot, Byte, Stop}
use Rattle.alt_base.specs.Answers.{refused}
use Rattle.dns_names.specs.Names.{labels_octets}
use Rattle.dns_names.specs.TextParts.{part_text}
use Rattle.dns_names.specs.TextReading.{token_at, label_fault, by_fault, text_ends, is_dot, read_text}
use Rattle.dns_names.proofs.WireSays.{length_octets_push}
use Rattle.dns_names.proofs.TextTokens.{TokenSays, token_says}
use Rattle.dns_names.proofs.TextSteps.{FaultSays, fault_says, part_some, reads, reads_token}

-- the text is read up to the place, and what is left gives the answer
pub record TextRead (text : List ℕ) (labels : List (List ℕ)) (label : List ℕ) (used start place : ℕ) : Type 0 where
  pub within : place ≤ length text
  pub before : start ≤ place
  pub octets : used ≡ length (labels_octets labels)
  pub most : used ≤ 255
  pub same : reads labels label start place (drop place text) ≡ read_text text

pub nothing_read : (text : List ℕ) → is_dot text ≡ false → TextRead text [] [] 0 0 0
nothing_read text h = record { within = omega arith; before = omega arith; octets = refl; most = omega arith; same = rw h refl }

says_there : (text rest : List ℕ) (place : ℕ) (t : Token) → rest ≡ drop place text → token_at rest ≡ t → TokenSays (drop place text) t × (token_at (drop place text) ≡ t)
says_there text rest place t is token =
    let there : token_at (drop place text) ≡ t = subst (λ xs. token_at xs ≡ t) is token in
    (subst (λ u. TokenSays (drop place text) u) there (token_says (drop place text)), there)

-- a byte on
pub byte_read : (text rest : List ℕ) (labels : List (List ℕ)) (label new : List ℕ) (used start place byte count : ℕ) → rest ≡ drop place text → token_at rest ≡ Byte byte count → new ≡ label ++ to_ascii_lowercase byte ∷ [] → TextRead text labels label used start place
    → TextRead text labels new used start (place + count)
byte_read text rest labels label new used start place byte count is token pushed read =
    let there = says_there text rest place (Byte byte count) is token in
    let b = there.0 in
    let size : length (drop place text) ≡ length (part_text b.part) + length b.more = ap length b.text ∙ length-append (part_text b.part) b.more in
    record {
      within = omega (arith, size, b.count_is, length-drop place text, read.within);
      before = omega (arith, read.before);
      octets = read.octets;
      most = read.most;
      same = rw (pushed, ← drop-drop count place text) (sym (reads_token (Byte byte count) labels label start place (drop place text) there.1) ∙ read.same);
    }

-- a label on
pub label_read : (text rest : List ℕ) (labels new : List (List ℕ)) (label copy : List ℕ) (used start place count : ℕ) → rest ≡ drop place text → token_at rest ≡ Dot → count ≡ length label → label_fault used count ≡ None → copy ≡ label → new ≡ labels ++ copy ∷ []
    → TextRead text labels label used start place → TextRead text new [] (used + (1 + count)) (place + 1) (place + 1)
label_read text rest labels new label copy used start place count is token size fault twin pushed read =
    let there = says_there text rest place Dot is token in
    let more = there.0 in
    let room : FaultSays used count None = subst (λ f. FaultSays used count f) fault (fault_says used count) in
    let named : new ≡ labels ++ label ∷ [] = pushed ∙ ap (λ l. labels ++ l ∷ []) twin in
    let no_fault : label_fault (length (labels_octets labels)) (length label) ≡ None = subst (λ n. label_fault n (length label) ≡ None) read.octets (subst (λ n. label_fault used n ≡ None) size fault) in
    let on : reads labels label start place (drop place text) ≡ reads (labels ++ label ∷ []) [] (place + 1) (place + 1) (drop 1 (drop place text)) =
    reads_token Dot labels label start place (drop place text) there.1 ∙ ap (λ f. by_fault f start (reads (labels ++ label ∷ []) [] (place + 1) (place + 1) (drop 1 (drop place text)))) no_fault in
    record {
      within = omega (arith, ap length more.1, length-drop place text, read.within);
      before = omega arith;
      octets = omega (arith, read.octets, size, ap (λ ls. length (labels_octets ls)) named, length_octets_push labels label);
      most = omega (arith, room.2);
      same = rw (named, ← drop-drop 1 place text) (sym on ∙ read.same);
    }

-- how far a byte is on
pub byte_size : (text rest : List ℕ) (place byte count : ℕ) → place ≤ length text → rest ≡ drop place text → token_at rest ≡ Byte byte count → (1 ≤ count) × (place + count ≤ length text)
byte_size text rest place byte count within is token =
    let b = (says_there text rest place (Byte byte count) is token).0 in
    let some = part_some b.part in
    let size : length (drop place text) ≡ length (part_text b.part) + length b.more = ap length b.text ∙ length-append (part_text b.part) b.more in
    (omega (arith, some, b.count_is), omega (arith, size, b.count_is, length-drop place text, within))

-- the text ends
pub end_read : (text rest : List ℕ) (labels : List (List ℕ)) (label : List ℕ) (used start place : ℕ) → rest ≡ drop place text → token_at rest ≡ End → TextRead text labels label used start place → text_ends labels label start ≡ read_text text
end_read text rest labels label used start place is token read =
    sym (reads_token End labels label start place (drop place text) (says_there text rest place End is token).1) ∙ read.same

-- a byte is refused
pub stop_read : (text rest : List ℕ) (labels : List (List ℕ)) (label : List ℕ) (used start place : ℕ) (reason : NameRefusal) → rest ≡ drop place text → token_at rest ≡ Stop reason → TextRead text labels label used start place → read_text text ≡ refused place reason
stop_read text rest labels label used start place reason is token read =
    sym read.same ∙ reads_token (Stop reason) labels label start place (drop place text) (says_there text rest place (Stop reason) is token).1

-- a label is refused
pub fault_read : (text rest : List ℕ) (labels : List (List ℕ)) (label : List ℕ) (used start place count : ℕ) (reason : NameRefusal) → rest ≡ drop place text → token_at rest ≡ Dot → count ≡ length label → label_fault used count ≡ Some reason → TextRead text labels label used start place → read_text text ≡ refused start reason
fault_read text rest labels label used start place count reason is token size fault read =
    let there : label_fault (length (labels_octets labels)) (length label) ≡ Some reason = subst (λ n. label_fault n (length label) ≡ Some reason) read.octets (subst (λ n. label_fault used n ≡ Some reason) size fault) in
    sym read.same ∙ reads_token Dot labels label start place (drop place text) (says_there text rest place Dot is token).1
    ∙ ap (λ f. by_fault f start (reads (labels ++ label ∷ []) [] (place + 1) (place + 1) (drop 1 (drop place text)))) there
