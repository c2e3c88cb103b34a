-- What the grammar of a name's wire form says is what is read.
use Rattle.std.proofs.Common.{◌≡◌, ◌⊎◌, ℕ, suc, ◌+◌, ◌≤◌, List, [], ◌∷◌, ◌++◌, length, take, map, Ok, Err, refl, ap, sym, ◌∙◌, arith, inl, inr}
use Rattle.std.proofs.lemmas.List.{append_assoc, append-nil, length-append, take_at, drop_at}
use Rattle.std.specs.Str.{str_to_ascii_lowercase}
use Rattle.alt_base.specs.declared.refusal.At.{At}
use Rattle.dns_names.specs.declared.refusal.NameRefusal.{NameRefusal}
use Rattle.dns_names.specs.declared.refusal.NameRefusal.TheVariants.{LabelTooLong, NameTooLong, Compressed, Short, EmptyLabel, BadEscape, BadByte}
use Rattle.dns_names.specs.declared.wire.Begins.TheVariants.{Stop, Cut}
use Rattle.alt_base.specs.Answers.{refused}
use Rattle.dns_names.specs.Names.{AreSized, labels_octets, wire_form, CanBegin}
use Rattle.dns_names.specs.WireGrammar.{FrontSpells, SpellsUpTo, GoesOn, Stops, IsStopped, IsCutLabel, WireRefusedAt, OneWireName}
use Rattle.dns_names.specs.WireReading.{WireAnswer, read_wire}
use Rattle.dns_names.proofs.WireSteps.{HasRoom, StopsAt, label_begins, cut_begins, stop_begins, reads, reads_label, reads_stop}
use Rattle.dns_names.proofs.WireSays.{Says, wire_says, length_wire}

same_reads : (p u u' : ℕ) (ls ls' : List (List ℕ)) (x x' : List ℕ) → u ≡ u' → ls ≡ ls' → x ≡ x' → reads p u ls x ≡ reads p u' ls' x'
same_reads p u u' ls ls' x x' a b c = cc

one_label : (p used : ℕ) (done : List (List ℕ)) (label more : List ℕ) → HasRoom used (length label)
    → reads p used done (length label ∷ (label ++ more)) ≡ reads p (used + suc (length label)) (done ++ str_to_ascii_lowercase label ∷ []) more
one_label p used done label more room =
    reads_label p used (length label) done (length label ∷ (label ++ more)) (label_begins used (length label) (label ++ more) room (omega (arith, length-append label more)))
    ∙ same_reads p _ _ _ _ _ _ refl (ap (λ l. done ++ str_to_ascii_lowercase l ∷ []) (take_at label more (length label) refl)) (drop_at label more (length label) refl)

-- labels with room are passed over
pub passes : (labels : List (List ℕ)) (p used : ℕ) (done : List (List ℕ)) (tail : List ℕ) → AreSized labels → used + length (labels_octets labels) + 1 ≤ 255
    → reads p used done (labels_octets labels ++ tail) ≡ reads p (used + length (labels_octets labels)) (done ++ map str_to_ascii_lowercase labels) tail
passes [] p used done tail sized room = same_reads p _ _ _ _ tail tail (omega arith) (sym (append-nil done)) refl
passes (label ∷ labels) p used done tail sized room =
    let count : length (labels_octets (label ∷ labels)) ≡ suc (length label + length (labels_octets labels)) = ap suc (length-append label (labels_octets labels)) in
    same_reads p _ _ done done _ _ refl refl (ap (λ xs. length label ∷ xs) (append_assoc label (labels_octets labels) tail))
    ∙ one_label p used done label (labels_octets labels ++ tail) (sized.0.some, omega (arith, sized.0.most), omega (arith, room, count))
    ∙ passes labels p (used + suc (length label)) (done ++ str_to_ascii_lowercase label ∷ []) tail sized.1 (omega (arith, room, count))
    ∙ same_reads p _ _ _ _ tail tail (omega (arith, count)) (append_assoc done (str_to_ascii_lowercase label ∷ []) (map str_to_ascii_lowercase labels)) refl

-- so are the labels in front of a rest
goes_reads : (p : ℕ) (x : List ℕ) (labels : List (List ℕ)) (rest : List ℕ) → GoesOn x labels rest → read_wire p x ≡ reads p (length (labels_octets labels)) (map str_to_ascii_lowercase labels) rest
goes_reads p x labels rest goes =
    same_reads p _ _ [] [] _ _ refl refl goes.split
    ∙ passes labels p 0 [] rest goes.begin.sized (omega (arith, goes.begin.most, length_wire labels))
    ∙ same_reads p _ _ _ _ rest rest (omega arith) refl refl

ok_is : (name name' : List (List ℕ)) (q q' : ℕ) → name ≡ name' → q ≡ q' → (let a : WireAnswer = Ok (name, q) in a) ≡ (let b : WireAnswer = Ok (name', q') in b)
ok_is name name' q q' a b = cc

refused_is : (q q' : ℕ) (reason : NameRefusal) → q ≡ q' → (let a : WireAnswer = refused q reason in a) ≡ (let b : WireAnswer = refused q' reason in b)
refused_is q q' reason e = ap (λ n. let a : WireAnswer = refused n reason in a) e

goes_end : (x front rest : List ℕ) (labels : List (List ℕ)) → x ≡ front ++ rest → front ≡ wire_form labels → CanBegin labels → GoesOn x labels (0 ∷ rest)
goes_end x front rest labels split whole begin = record { begin = begin; split = split ∙ ap (λ xs. xs ++ rest) whole ∙ append_assoc (labels_octets labels) (0 ∷ []) rest }

pub spelled_reads : (p q : ℕ) (x : List ℕ) (name : List (List ℕ)) → SpellsUpTo p x name q → read_wire p x ≡ Ok (name, q)
spelled_reads p q x name s =
    let f = s.spelled in
    let w = f.spelled in
    goes_reads p x w.labels (0 ∷ f.rest) (goes_end x s.front f.rest w.labels f.split w.whole w.begin)
    ∙ ok_is _ _ _ _ (sym w.lower) (omega (arith, s.end, ap length w.whole, length_wire w.labels))

stopped_reads : (p q : ℕ) (x : List ℕ) (reason : NameRefusal) → IsStopped p x q reason → ((labels : List (List ℕ)) (n : ℕ) → Stops labels n reason → StopsAt (length (labels_octets labels)) n reason) → read_wire p x ≡ refused q reason
stopped_reads p q x reason s same =
    goes_reads p x s.labels (s.octet ∷ s.rest) s.behind
    ∙ reads_stop p (length (labels_octets s.labels)) _ (s.octet ∷ s.rest) (Stop reason) (stop_begins _ s.octet s.rest reason (same s.labels s.octet s.stops)) (omega arith)
    ∙ refused_is _ _ reason (sym s.place)

tail_reads : (p used : ℕ) (done labels : List (List ℕ)) (tail : List ℕ) → used ≡ length (labels_octets labels) → (tail ≡ []) ⊎ IsCutLabel labels tail → reads p used done tail ≡ refused (p + used + length tail) Short
tail_reads p used done labels tail count (inl none) = rw none refl
tail_reads p used done labels tail count (inr cut) =
    rw cut.tail_is (reads_stop p used done (cut.octet ∷ cut.part) Cut (cut_begins used cut.octet cut.part (cut.some, cut.sized, omega (arith, cut.room, count)) cut.cut) (omega arith))

pub refused_reads : (p q : ℕ) (reason : NameRefusal) (x : List ℕ) → WireRefusedAt p x q reason → read_wire p x ≡ refused q reason
refused_reads p q Short x s =
    goes_reads p x s.labels s.tail s.behind
    ∙ tail_reads p (length (labels_octets s.labels)) _ s.labels s.tail refl s.cut
    ∙ refused_is _ _ Short (omega (arith, s.place, ap length s.behind.split, length-append (labels_octets s.labels) s.tail))
refused_reads p q LabelTooLong x s = stopped_reads p q x LabelTooLong s (λ labels n h. h)
refused_reads p q NameTooLong x s = stopped_reads p q x NameTooLong s (λ labels n h. h)
refused_reads p q Compressed x s = stopped_reads p q x Compressed s (λ labels n h. h)
refused_reads p q EmptyLabel x s = absurd s
refused_reads p q BadEscape x s = absurd s
refused_reads p q BadByte x s = absurd s

either_says : (p : ℕ) (x : List ℕ) (r : WireAnswer) → Says p x r → ((front : List ℕ) × (name : List (List ℕ)) × FrontSpells x front name) ⊎ ((q : ℕ) × (reason : NameRefusal) × WireRefusedAt p x q reason)
either_says p x (Ok answer) s = inl (s.front, answer.0, s.spelled)
either_says p x (Err at) s = inr (at.place, at.reason, s)

up_to : (p : ℕ) (x front : List ℕ) (name : List (List ℕ)) → FrontSpells x front name → read_wire p x ≡ Ok (name, p + length front)
up_to p x front name s = spelled_reads p (p + length front) x name (record { front = front; spelled = s; end = refl })

same_ok : (name name' : List (List ℕ)) (q q' : ℕ) → (let a : WireAnswer = Ok (name, q) in a) ≡ Ok (name', q') → (name ≡ name') × (q ≡ q')
same_ok name name' q q' e =
    let h : (let a : List (List ℕ) × ℕ = (name, q) in a) ≡ (let b : List (List ℕ) × ℕ = (name', q') in b) = cc in
    (ap (λ (a : List (List ℕ) × ℕ). a.0) h, ap (λ (a : List (List ℕ) × ℕ). a.1) h)

pub same_refused : (q q' : ℕ) (reason reason' : NameRefusal) → (let a : WireAnswer = refused q reason in a) ≡ refused q' reason' → (q ≡ q') × (reason ≡ reason')
same_refused q q' reason reason' e =
    let h : (let a : At NameRefusal = record { place = q; reason = reason } in a) ≡ (let b : At NameRefusal = record { place = q'; reason = reason' } in b) = cc in
    (ap (λ (a : At NameRefusal). a.place) h, ap (λ (a : At NameRefusal). a.reason) h)

pub no_both : (name : List (List ℕ)) (q q' : ℕ) (reason : NameRefusal) (r : WireAnswer) → r ≡ Ok (name, q) → r ≡ refused q' reason → ⊥
no_both name q q' reason r a b = cc

-- two fronts of one length are one
same_front : (front front' rest rest' : List ℕ) → front ++ rest ≡ front' ++ rest' → length front ≡ length front' → front ≡ front'
same_front front front' rest rest' e count =
    sym (take_at front rest (length front) refl) ∙ ap (λ xs. take (length front) xs) e ∙ take_at front' rest' (length front) (sym count)

one_name : (p : ℕ) (x front front' : List ℕ) (name name' : List (List ℕ)) → FrontSpells x front name → FrontSpells x front' name' → (front ≡ front') × (name ≡ name')
one_name p x front front' name name' a b =
    let e = same_ok name name' (p + length front) (p + length front') (sym (up_to p x front name a) ∙ up_to p x front' name' b) in
    (same_front front front' a.rest b.rest (sym a.split ∙ b.split) (omega (arith, e.1)), e.0)

pub one_of : (p : ℕ) (x : List ℕ) → OneWireName p x
one_of p x = record {
  some = either_says p x (read_wire p x) (wire_says p x);
  one_name = λ front front' name name' a b. one_name p x front front' name name' a b;
  one_refusal = λ q q' reason reason' a b. same_refused q q' reason reason' (sym (refused_reads p q reason x a) ∙ refused_reads p q' reason' x b);
  not_both = λ front name q reason a b. no_both name (p + length front) q reason (read_wire p x) (up_to p x front name a) (refused_reads p q reason x b);
}
