-- What the grammar of a name's text says is what is read.
use Rattle.std.proofs.Common.{◌≡◌, ◌≢◌, ◌⊎◌, ℕ, suc, ◌+◌, ◌<◌, ◌≤◌, Bool, true, false, nat_eq, nat_lt, List, [], ◌∷◌, ◌++◌, length, map, Some, Ok, Err, refl, ap, sym, ◌∙◌, subst, arith, inl, inr}
use Rattle.std.proofs.lemmas.List.{append_assoc, append-nil, length-append, length-map, drop_at}
use Rattle.std.specs.Char.{is_ascii_graphic}
use Rattle.alt_base.specs.declared.refusal.At.{At}
use Rattle.dns_names.specs.declared.refusal.NameRefusal.{NameRefusal}
use Rattle.dns_names.specs.declared.refusal.NameRefusal.TheVariants.{LabelTooLong, NameTooLong, Compressed, Short, EmptyLabel, BadEscape, BadByte}
use Rattle.dns_names.specs.declared.token.Token.TheVariants.{Byte, Stop}
use Rattle.alt_base.specs.Answers.{refused}
use Rattle.dns_names.specs.Names.{AreSized, labels_octets, CanBegin}
use Rattle.dns_names.specs.TextParts.{Part, Raw, Quoted, Decimal, part_text, part_byte, part_lower, parts_text, IsPart, AreParts, label_of, dotted, AreAllParts}
use Rattle.dns_names.specs.TextGrammar.{JoinsLabels, SpellsText, TextGoesOn, IsEmptyLabel, EndsLabel, TextRefusedAt, OneTextName}
use Rattle.dns_names.specs.TextReading.{TextAnswer, label_fault, by_fault, label_ends, is_dot, read_text}
use Rattle.alt_base.proofs.Numbers.{eq_false, lt_true}
use Rattle.dns_names.proofs.WireSteps.{HasRoom}
use Rattle.dns_names.proofs.WireSays.{length_wire, length_octets_push}
use Rattle.dns_names.proofs.TextTokens.{token_part, token_bad_byte, token_bad_escape, no_dot_slash}
use Rattle.dns_names.proofs.TextSteps.{no_fault, long_label, long_name, reads, reads_token}
use Rattle.dns_names.proofs.TextSays.{TextSays, text_says, dot_is}
use Rattle.alt_base.proofs.Booleans.{contradicts}

same_reads : (ls ls' : List (List ℕ)) (l l' : List ℕ) (s s' a a' : ℕ) (x x' : List ℕ) → ls ≡ ls' → l ≡ l' → s ≡ s' → a ≡ a' → x ≡ x' → reads ls l s a x ≡ reads ls' l' s' a' x'
same_reads ls ls' l l' s s' a a' x x' e f g h i = cc

one_part : (labels : List (List ℕ)) (label : List ℕ) (start at : ℕ) (part : Part) (more : List ℕ) → IsPart part
    → reads labels label start at (part_text part ++ more) ≡ reads labels (label ++ part_lower part ∷ []) start (at + length (part_text part)) more
one_part labels label start at part more valid =
    reads_token (Byte (part_byte part) (length (part_text part))) labels label start at (part_text part ++ more) (token_part part more valid)
    ∙ same_reads labels labels _ _ start start _ _ _ more refl refl refl refl (drop_at (part_text part) more (length (part_text part)) refl)

-- parts are passed over
parts_pass : (parts : List Part) (labels : List (List ℕ)) (label : List ℕ) (start at : ℕ) (rest : List ℕ) → AreParts parts
    → reads labels label start at (parts_text parts ++ rest) ≡ reads labels (label ++ label_of parts) start (at + length (parts_text parts)) rest
parts_pass [] labels label start at rest valid = same_reads labels labels _ _ start start _ _ rest rest refl (sym (append-nil label)) refl (omega arith) refl
parts_pass (part ∷ parts) labels label start at rest valid =
    let count : length (parts_text (part ∷ parts)) ≡ length (part_text part) + length (parts_text parts) = length-append (part_text part) (parts_text parts) in
    same_reads labels labels label label start start at at _ _ refl refl refl refl (append_assoc (part_text part) (parts_text parts) rest)
    ∙ one_part labels label start at part (parts_text parts ++ rest) valid.0
    ∙ parts_pass parts labels (label ++ part_lower part ∷ []) start (at + length (part_text part)) rest valid.1
    ∙ same_reads labels labels _ _ start start _ _ rest rest refl (append_assoc label (part_lower part ∷ []) (label_of parts)) refl (omega (arith, count)) refl

-- a label that has room ends
room_ends : (labels : List (List ℕ)) (label : List ℕ) (start : ℕ) (answer : TextAnswer) → HasRoom (length (labels_octets labels)) (length label) → label_ends labels label start answer ≡ answer
room_ends labels label start answer room = ap (λ fault. by_fault fault start answer) (no_fault (length (labels_octets labels)) (length label) room)

one_label : (done : List (List ℕ)) (at : ℕ) (parts : List Part) (rest : List ℕ) → AreParts parts → HasRoom (length (labels_octets done)) (length (label_of parts))
    → reads done [] at at (parts_text parts ++ 46 ∷ rest) ≡ reads (done ++ label_of parts ∷ []) [] (at + length (parts_text parts) + 1) (at + length (parts_text parts) + 1) rest
one_label done at parts rest valid room = parts_pass parts done [] at at (46 ∷ rest) valid ∙ room_ends done (label_of parts) at _ room

-- whole labels are passed over
labels_pass : (labels : List (List Part)) (done : List (List ℕ)) (at : ℕ) (rest : List ℕ) → AreAllParts labels → AreSized (map label_of labels) → length (labels_octets done) + length (labels_octets (map label_of labels)) + 1 ≤ 255
    → reads done [] at at (dotted labels ++ rest) ≡ reads (done ++ map label_of labels) [] (at + length (dotted labels)) (at + length (dotted labels)) rest
labels_pass [] done at rest valid sized room = same_reads _ _ [] [] _ _ _ _ rest rest (sym (append-nil done)) refl (omega arith) (omega arith) refl
labels_pass (parts ∷ labels) done at rest valid sized room =
    let octets : length (labels_octets (label_of parts ∷ map label_of labels)) ≡ suc (length (label_of parts) + length (labels_octets (map label_of labels))) = ap suc (length-append (label_of parts) (labels_octets (map label_of labels))) in
    let size : length (dotted (parts ∷ labels)) ≡ length (parts_text parts) + suc (length (dotted labels)) = length-append (parts_text parts) (46 ∷ dotted labels) in
    let push = length_octets_push done (label_of parts) in
    same_reads done done [] [] at at at at _ _ refl refl refl refl (append_assoc (parts_text parts) (46 ∷ dotted labels) rest)
    ∙ one_label done at parts (dotted labels ++ rest) valid.0 (sized.0.some, omega (arith, sized.0.most), omega (arith, room, octets))
    ∙ labels_pass labels (done ++ label_of parts ∷ []) (at + length (parts_text parts) + 1) rest valid.1 sized.1 (omega (arith, room, octets, push))
    ∙ same_reads _ _ [] [] _ _ _ _ rest rest (append_assoc done (label_of parts ∷ []) (map label_of labels)) refl (omega (arith, size)) (omega (arith, size)) refl

-- what stands in front of the rest is passed over
front_reads : (x : List ℕ) (labels : List (List Part)) (parts : List Part) (rest : List ℕ) → TextGoesOn x labels parts rest
    → reads [] [] 0 0 x ≡ reads (map label_of labels) (label_of parts) (length (dotted labels)) (length (dotted labels) + length (parts_text parts)) rest
front_reads x labels parts rest goes =
    same_reads [] [] [] [] 0 0 0 0 _ _ refl refl refl refl goes.split
    ∙ labels_pass labels [] 0 (parts_text parts ++ rest) goes.valid goes.begin.sized (omega (arith, goes.begin.most, length_wire (map label_of labels)))
    ∙ same_reads (map label_of labels) (map label_of labels) [] [] (0 + length (dotted labels)) (length (dotted labels)) (0 + length (dotted labels)) (length (dotted labels)) (parts_text parts ++ rest) (parts_text parts ++ rest) refl refl (omega arith) (omega arith) refl
    ∙ parts_pass parts (map label_of labels) [] (length (dotted labels)) (length (dotted labels)) rest goes.parts_valid

-- no part is a dot
no_dot_part : (part : Part) (more : List ℕ) → IsPart part → 46 ∷ [] ≡ part_text part ++ more → ⊥
no_dot_part (Raw b) more valid e = let same : b ≡ 46 = cc in valid.1 same
no_dot_part (Quoted b) more valid e = no_dot_slash (b ∷ more) [] (sym e)
no_dot_part (Decimal a b c) more valid e = no_dot_slash (a ∷ b ∷ c ∷ more) [] (sym e)

pub record BeginsWithPart (x : List ℕ) : Type 0 where
  pub part : Part
  pub more : List ℕ
  pub valid : IsPart part
  pub text : x ≡ part_text part ++ more

first_part : (labels : List (List Part)) (parts : List Part) (rest : List ℕ) → AreAllParts labels → AreParts parts → AreSized (map label_of labels) → 1 ≤ length labels + length parts → BeginsWithPart (dotted labels ++ (parts_text parts ++ rest))
first_part [] [] rest valid parts_valid sized some = absurd (omega arith)
first_part [] (part ∷ parts) rest valid parts_valid sized some = record { part = part; more = parts_text parts ++ rest; valid = parts_valid.0; text = append_assoc (part_text part) (parts_text parts) rest }
first_part ([] ∷ labels) parts rest valid parts_valid sized some = absurd (omega (arith, sized.0.some))
first_part ((part ∷ front) ∷ labels) parts rest valid parts_valid sized some = record {
  part = part;
  more = (parts_text front ++ 46 ∷ dotted labels) ++ (parts_text parts ++ rest);
  valid = valid.0.0;
  text = ap (λ xs. xs ++ (parts_text parts ++ rest)) (append_assoc (part_text part) (parts_text front) (46 ∷ dotted labels)) ∙ append_assoc (part_text part) (parts_text front ++ 46 ∷ dotted labels) (parts_text parts ++ rest);
}

-- before a dot alone stands nothing
dot_goes_on : (labels : List (List Part)) (parts : List Part) (rest : List ℕ) → TextGoesOn (46 ∷ []) labels parts rest → 1 ≤ length labels + length parts → ⊥
dot_goes_on labels parts rest goes some =
    let first = first_part labels parts rest goes.valid goes.parts_valid goes.begin.sized some in
    no_dot_part first.part first.more first.valid (goes.split ∙ first.text)

none_before : (labels : List (List Part)) (parts : List Part) (rest : List ℕ) → TextGoesOn (46 ∷ []) labels parts rest → (labels ≡ []) × (parts ≡ [])
none_before [] [] rest goes = (refl, refl)
none_before [] (part ∷ parts) rest goes = absurd (dot_goes_on [] (part ∷ parts) rest goes (omega arith))
none_before (first ∷ labels) parts rest goes = absurd (dot_goes_on (first ∷ labels) parts rest goes (omega arith))

all_rest : (labels : List (List Part)) (parts : List Part) (rest : List ℕ) → TextGoesOn (46 ∷ []) labels parts rest → rest ≡ 46 ∷ []
all_rest labels parts rest goes =
    let none = none_before labels parts rest goes in
    let split : 46 ∷ [] ≡ dotted [] ++ (parts_text [] ++ rest) = subst (λ ps. 46 ∷ [] ≡ dotted [] ++ (parts_text ps ++ rest)) none.1 (subst (λ ls. 46 ∷ [] ≡ dotted ls ++ (parts_text parts ++ rest)) none.0 goes.split) in
    sym split

abbrev dot_alone : List ℕ
dot_alone = 46 ∷ []

not_nothing : dot_alone ≡ [] → ⊥
not_nothing e = cc

-- a dot alone isn't refused
dot_not_refused : (q : ℕ) (reason : NameRefusal) → TextRefusedAt (46 ∷ []) q reason → ⊥
dot_not_refused q BadEscape s = no_dot_slash s.rest [] (all_rest s.labels s.parts (92 ∷ s.rest) s.behind)
dot_not_refused q BadByte s =
    let e = all_rest s.labels s.parts (s.byte ∷ s.rest) s.behind in
    let same : s.byte ≡ 46 = cc in
    contradicts (is_ascii_graphic 46) refl (subst (λ b. is_ascii_graphic b ≡ false) same s.bad)
dot_not_refused q EmptyLabel s = why s.empty
  where
    why : (dot_alone ≡ []) ⊎ ((more : List ℕ) × (s.rest ≡ 46 ∷ more) × (dot_alone ≢ dot_alone)) → ⊥
    why (inl e) = not_nothing e
    why (inr h) = h.2 refl
dot_not_refused q LabelTooLong s = absurd (omega (arith, s.long, ap length (none_before s.labels s.parts s.rest s.behind).1))
dot_not_refused q NameTooLong s = absurd (omega (arith, s.some, ap length (none_before s.labels s.parts s.rest s.behind).1))
dot_not_refused q Compressed s = s
dot_not_refused q Short s = s

sized_front : (labels : List (List ℕ)) (label : List ℕ) → AreSized (labels ++ label ∷ []) → AreSized labels × AreSized (label ∷ [])
sized_front [] label all = (tt, all)
sized_front (first ∷ labels) label all = let rec = sized_front labels label all.1 in ((all.0, rec.0), rec.1)

-- all labels but the last can begin a name, and the last has room
pub record LastFits (labels : List (List ℕ)) (label : List ℕ) : Type 0 where
  pub begin : CanBegin labels
  pub room : HasRoom (length (labels_octets labels)) (length label)

last_fits : (labels : List (List ℕ)) (label : List ℕ) → CanBegin (labels ++ label ∷ []) → LastFits labels label
last_fits labels label begin =
    let sized = sized_front labels label begin.sized in
    let push = length_octets_push labels label in
    record {
      begin = record { sized = sized.0; most = omega (arith, begin.most, length_wire labels, length_wire (labels ++ label ∷ []), push) };
      room = (sized.1.0.some, omega (arith, sized.1.0.most), omega (arith, begin.most, length_wire (labels ++ label ∷ []), push));
    }

joins_fits : (x : List ℕ) (name : List (List ℕ)) (j : JoinsLabels x name) → LastFits (map label_of j.labels) (label_of j.last)
joins_fits x name j = last_fits (map label_of j.labels) (label_of j.last) (subst CanBegin j.lower j.begin)

joins_goes : (x : List ℕ) (name : List (List ℕ)) (j : JoinsLabels x name) → TextGoesOn x j.labels j.last j.end
joins_goes x name j = record { valid = j.valid; parts_valid = j.last_valid; begin = (joins_fits x name j).begin; split = j.text }

-- text ends behind a label
label_then_end : (labels : List (List ℕ)) (label : List ℕ) (start at : ℕ) → 1 ≤ length label → reads labels label start at [] ≡ label_ends labels label start (Ok (labels ++ label ∷ []))
label_then_end labels label start at some =
    let p : nat_eq (length label) 0 ≡ false = eq_false _ _ (λ e. absurd (omega (arith, some, e))) in
    rw p refl

-- text ends behind a dot
dot_then_end : (labels : List (List ℕ)) (start at : ℕ) → 1 ≤ length labels → reads labels [] start at [] ≡ Ok labels
dot_then_end labels start at some =
    let p : nat_lt 0 (length labels) ≡ true = lt_true _ _ some in
    rw p refl

end_reads : (labels : List (List ℕ)) (label : List ℕ) (start at : ℕ) (end : List ℕ) → HasRoom (length (labels_octets labels)) (length label) → (end ≡ []) ⊎ (end ≡ 46 ∷ []) → reads labels label start at end ≡ Ok (labels ++ label ∷ [])
end_reads labels label start at end room (inl none) = rw none (label_then_end labels label start at room.0 ∙ room_ends labels label start _ room)
end_reads labels label start at end room (inr dot) =
    rw dot (room_ends labels label start _ room ∙ dot_then_end (labels ++ label ∷ []) (at + 1) (at + 1) (omega (arith, length-append labels (label ∷ []))))

no_root : (x : List ℕ) → x ≢ 46 ∷ [] → is_dot x ≡ false
no_root x h = by (is_dot x) refl
  where
    by : (t : Bool) → is_dot x ≡ t → t ≡ false
    by true is = absurd (h (dot_is x is))
    by false is = refl

other_reads : (x : List ℕ) → x ≢ 46 ∷ [] → read_text x ≡ reads [] [] 0 0 x
other_reads x h = rw (no_root x h) refl

joins_no_root : (x : List ℕ) (name : List (List ℕ)) → JoinsLabels x name → x ≢ 46 ∷ []
joins_no_root x name j e =
    let some : 1 ≤ length j.last = omega (arith, (joins_fits x name j).room.0, length-map j.last part_lower) in
    dot_goes_on j.labels j.last j.end (subst (λ xs. TextGoesOn xs j.labels j.last j.end) e (joins_goes x name j)) (omega (arith, some))

joins_reads : (x : List ℕ) (name : List (List ℕ)) → JoinsLabels x name → read_text x ≡ Ok name
joins_reads x name j =
    other_reads x (joins_no_root x name j) ∙ front_reads x j.labels j.last j.end (joins_goes x name j)
    ∙ end_reads (map label_of j.labels) (label_of j.last) _ _ j.end (joins_fits x name j).room j.final_dot ∙ ap (λ (n : List (List ℕ)). Ok n) (sym j.lower)

pub spelled_reads : (x : List ℕ) (name : List (List ℕ)) → SpellsText x name → read_text x ≡ Ok name
spelled_reads x name (inl root) = rw (root.0, root.1) refl
spelled_reads x name (inr j) = joins_reads x name j

-- a label that ends with a fault
fault_reads : (labels : List (List ℕ)) (label : List ℕ) (start at : ℕ) (rest : List ℕ) (reason : NameRefusal) → EndsLabel rest → 1 ≤ length label → label_fault (length (labels_octets labels)) (length label) ≡ Some reason → reads labels label start at rest ≡ refused start reason
fault_reads labels label start at rest reason (inl none) some fault = rw none (label_then_end labels label start at some ∙ ap (λ f. by_fault f start (Ok (labels ++ label ∷ []))) fault)
fault_reads labels label start at rest reason (inr dot) some fault = rw dot.1 (ap (λ f. by_fault f start (reads (labels ++ label ∷ []) [] (at + 1) (at + 1) dot.0)) fault)

empty_reads : (x rest : List ℕ) (start at : ℕ) (labels : List (List ℕ)) (more : List ℕ) → rest ≡ 46 ∷ more → reads labels [] start at rest ≡ refused start EmptyLabel
empty_reads x rest start at labels more is = rw is refl

refused_is : (q q' : ℕ) (reason : NameRefusal) → q ≡ q' → (let a : TextAnswer = refused q reason in a) ≡ (let b : TextAnswer = refused q' reason in b)
refused_is q q' reason e = ap (λ n. let a : TextAnswer = refused n reason in a) e

no_front : (labels : List (List Part)) (rest : List ℕ) → [] ≡ dotted labels ++ rest → length (dotted labels) ≡ 0
no_front labels rest e = omega (arith, ap length e, length-append (dotted labels) rest)

empty_why : (x : List ℕ) (q : ℕ) (s : IsEmptyLabel x q) → (x ≡ []) ⊎ ((more : List ℕ) × (s.rest ≡ 46 ∷ more) × (x ≢ 46 ∷ [])) → read_text x ≡ refused q EmptyLabel
empty_why x q s (inl none) = rw none (refused_is 0 q EmptyLabel (omega (arith, s.place, no_front s.labels s.rest (sym none ∙ s.behind.split))))
empty_why x q s (inr h) =
    other_reads x h.2 ∙ front_reads x s.labels [] s.rest s.behind ∙ empty_reads x s.rest _ _ (map label_of s.labels) h.0 h.1 ∙ refused_is _ q EmptyLabel (sym s.place)

not_root : (x : List ℕ) (q : ℕ) (reason : NameRefusal) → TextRefusedAt x q reason → x ≢ 46 ∷ []
not_root x q reason s e = dot_not_refused q reason (subst (λ xs. TextRefusedAt xs q reason) e s)

pub refused_reads : (x : List ℕ) (q : ℕ) (reason : NameRefusal) → TextRefusedAt x q reason → read_text x ≡ refused q reason
refused_reads x q BadEscape s =
    other_reads x (not_root x q BadEscape s) ∙ front_reads x s.labels s.parts (92 ∷ s.rest) s.behind
    ∙ reads_token (Stop BadEscape) _ _ _ _ (92 ∷ s.rest) (token_bad_escape s.rest s.bad) ∙ refused_is _ q BadEscape (sym s.place)
refused_reads x q BadByte s =
    other_reads x (not_root x q BadByte s) ∙ front_reads x s.labels s.parts (s.byte ∷ s.rest) s.behind
    ∙ reads_token (Stop BadByte) _ _ _ _ (s.byte ∷ s.rest) (token_bad_byte s.byte s.rest s.bad) ∙ refused_is _ q BadByte (sym s.place)
refused_reads x q EmptyLabel s = empty_why x q s s.empty
refused_reads x q LabelTooLong s =
    let long : 63 < length (label_of s.parts) = omega (arith, s.long, length-map s.parts part_lower) in
    other_reads x (not_root x q LabelTooLong s) ∙ front_reads x s.labels s.parts s.rest s.behind
    ∙ fault_reads (map label_of s.labels) (label_of s.parts) _ _ s.rest LabelTooLong s.ends (omega (arith, long)) (long_label (length (labels_octets (map label_of s.labels))) (length (label_of s.parts)) long) ∙ refused_is _ q LabelTooLong (sym s.place)
refused_reads x q NameTooLong s =
    let size : length (label_of s.parts) ≡ length s.parts = length-map s.parts part_lower in
    other_reads x (not_root x q NameTooLong s) ∙ front_reads x s.labels s.parts s.rest s.behind
    ∙ fault_reads (map label_of s.labels) (label_of s.parts) _ _ s.rest NameTooLong s.ends (omega (arith, s.some, size)) (long_name (length (labels_octets (map label_of s.labels))) (length (label_of s.parts)) (omega (arith, s.some, size)) (omega (arith, s.sized, size)) (omega (arith, s.long, size))) ∙ refused_is _ q NameTooLong (sym s.place)
refused_reads x q Compressed s = absurd s
refused_reads x q Short s = absurd s

either_says : (x : List ℕ) (r : TextAnswer) → TextSays x r → ((name : List (List ℕ)) × SpellsText x name) ⊎ ((q : ℕ) × (reason : NameRefusal) × TextRefusedAt x q reason)
either_says x (Ok name) s = inl (name, s)
either_says x (Err at) s = inr (at.place, at.reason, s)

same_ok : (name name' : List (List ℕ)) → (let a : TextAnswer = Ok name in a) ≡ Ok name' → name ≡ name'
same_ok name name' e = cc

same_refused : (q q' : ℕ) (reason reason' : NameRefusal) → (let a : TextAnswer = refused q reason in a) ≡ refused q' reason' → (q ≡ q') × (reason ≡ reason')
same_refused q q' reason reason' e =
    let h : (let a : At NameRefusal = record { place = q; reason = reason } in a) ≡ (let b : At NameRefusal = record { place = q'; reason = reason' } in b) = cc in
    (ap (λ (a : At NameRefusal). a.place) h, ap (λ (a : At NameRefusal). a.reason) h)

no_both : (name : List (List ℕ)) (q : ℕ) (reason : NameRefusal) (r : TextAnswer) → r ≡ Ok name → r ≡ refused q reason → ⊥
no_both name q reason r a b = cc

pub one_of : (x : List ℕ) → OneTextName x
one_of x = record {
  some = either_says x (read_text x) (text_says x);
  one_name = λ name name' a b. same_ok name name' (sym (spelled_reads x name a) ∙ spelled_reads x name' b);
  one_refusal = λ q q' reason reason' a b. same_refused q q' reason reason' (sym (refused_reads x q reason a) ∙ refused_reads x q' reason' b);
  not_both = λ name q reason a b. no_both name q reason (read_text x) (spelled_reads x name a) (refused_reads x q reason b);
}
