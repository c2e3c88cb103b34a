-- The reading of a name's wire form against its grammar.
use Rattle.std.proofs.Common.{◌≡◌, ◌⊎◌, ℕ, zero, suc, ◌+◌, ◌<◌, ◌≤◌, List, [], ◌∷◌, ◌++◌, length, take, drop, map, Ok, Err, refl, ap, sym, ◌∙◌, subst, arith, inl, inr, lit≤}
use Rattle.std.proofs.lemmas.List.{append_assoc, append-nil, length-append, length-drop, length-take-le, take-append-drop, map_push}
use Rattle.std.specs.Str.{str_to_ascii_lowercase}
use Rattle.dns_names.specs.declared.refusal.NameRefusal.{NameRefusal}
use Rattle.dns_names.specs.declared.refusal.NameRefusal.TheVariants.{LabelTooLong, NameTooLong, Compressed, Short, EmptyLabel, BadEscape, BadByte}
use Rattle.dns_names.specs.declared.wire.Begins.{Begins}
use Rattle.dns_names.specs.declared.wire.Begins.TheVariants.{End, Label, Stop, Cut}
use Rattle.dns_names.specs.Names.{IsSized, AreSized, labels_octets, wire_form, CanBegin}
use Rattle.dns_names.specs.WireGrammar.{SpellsUpTo, GoesOn, Stops, IsStopped, IsCutLabel, IsShort, WireRefusedAt}
use Rattle.dns_names.specs.WireReading.{WireAnswer, begins_with, read_by, read_labels, read_wire}
use Rattle.dns_names.proofs.WireSteps.{HasRoom, StopsAt, BeginSays, begin_says}
use Rattle.std.proofs.lemmas.List.{nil_from_length}

pub octets_push : (labels : List (List ℕ)) (label : List ℕ) → labels_octets (labels ++ label ∷ []) ≡ labels_octets labels ++ length label ∷ label
octets_push [] label = ap (λ xs. length label ∷ xs) (append-nil label)
octets_push (first ∷ labels) label =
    ap (λ xs. length first ∷ (first ++ xs)) (octets_push labels label) ∙ ap (λ xs. length first ∷ xs) (sym (append_assoc first (labels_octets labels) (length label ∷ label)))

pub length_octets_push : (labels : List (List ℕ)) (label : List ℕ) → length (labels_octets (labels ++ label ∷ [])) ≡ length (labels_octets labels) + suc (length label)
length_octets_push labels label = ap length (octets_push labels label) ∙ length-append (labels_octets labels) (length label ∷ label)

pub length_wire : (labels : List (List ℕ)) → length (wire_form labels) ≡ length (labels_octets labels) + 1
length_wire labels = length-append (labels_octets labels) (0 ∷ [])

pub sized_push : (labels : List (List ℕ)) (label : List ℕ) → AreSized labels → IsSized label → AreSized (labels ++ label ∷ [])
sized_push [] label all one = (one, tt)
sized_push (first ∷ labels) label all one = (all.0, sized_push labels label all.1 one)

-- a label more with room for it
pub begin_push : (labels : List (List ℕ)) (label : List ℕ) → CanBegin labels → HasRoom (length (labels_octets labels)) (length label) → CanBegin (labels ++ label ∷ [])
begin_push labels label begin room = record {
  sized = sized_push labels label begin.sized (record { some = room.0; most = omega (arith, room.1) });
  most = omega (arith, length_wire (labels ++ label ∷ []), length_octets_push labels label, room.2);
}

-- what an answer says
abbrev pub Says : ℕ → List ℕ → WireAnswer → Type 0
Says p x (Ok answer) = SpellsUpTo p x answer.0 answer.1
Says p x (Err at) = WireRefusedAt p x at.place at.reason

goes_length : (x rest : List ℕ) (labels : List (List ℕ)) → GoesOn x labels rest → length x ≡ length (labels_octets labels) + length rest
goes_length x rest labels goes = ap length goes.split ∙ length-append (labels_octets labels) rest

-- the same with the rest named otherwise
goes_same : (x rest rest' : List ℕ) (labels : List (List ℕ)) → GoesOn x labels rest → rest ≡ rest' → GoesOn x labels rest'
goes_same x rest rest' labels goes same = record { begin = goes.begin; split = goes.split ∙ ap (λ xs. labels_octets labels ++ xs) same }

end_says : (p used : ℕ) (x rest : List ℕ) (labels : List (List ℕ)) → GoesOn x labels (0 ∷ rest) → used ≡ length (labels_octets labels) → SpellsUpTo p x (map str_to_ascii_lowercase labels) (p + used + 1)
end_says p used x rest labels goes count = record {
  front = wire_form labels;
  spelled = record {
    rest = rest;
    split = goes.split ∙ sym (append_assoc (labels_octets labels) (0 ∷ []) rest);
    spelled = record { labels = labels; begin = goes.begin; whole = refl; lower = refl };
  };
  end = omega (arith, length_wire labels, count);
}

short_says : (p used : ℕ) (x rest : List ℕ) (labels : List (List ℕ)) → GoesOn x labels rest → used ≡ length (labels_octets labels) → (rest ≡ []) ⊎ IsCutLabel labels rest → IsShort p x (p + used + length rest)
short_says p used x rest labels goes count cut = record { labels = labels; tail = rest; behind = goes; cut = cut; place = omega (arith, goes_length x rest labels goes, count) }

stops_of : (labels : List (List ℕ)) (used n : ℕ) (reason : NameRefusal) → used ≡ length (labels_octets labels) → StopsAt used n reason → Stops labels n reason
stops_of labels used n Compressed count h = h
stops_of labels used n LabelTooLong count h = h
stops_of labels used n NameTooLong count h = (h.0, h.1, omega (arith, h.2, count))
stops_of labels used n Short count h = h
stops_of labels used n EmptyLabel count h = h
stops_of labels used n BadEscape count h = h
stops_of labels used n BadByte count h = h

stopped : (p used n : ℕ) (x rest : List ℕ) (labels : List (List ℕ)) (reason : NameRefusal) → GoesOn x labels (n ∷ rest) → used ≡ length (labels_octets labels) → Stops labels n reason → IsStopped p x (p + used) reason
stopped p used n x rest labels reason goes count stops = record { labels = labels; octet = n; rest = rest; behind = goes; stops = stops; place = omega (arith, count) }

stop_says : (p used n : ℕ) (x rest : List ℕ) (labels : List (List ℕ)) (reason : NameRefusal) → GoesOn x labels (n ∷ rest) → used ≡ length (labels_octets labels) → StopsAt used n reason → WireRefusedAt p x (p + used) reason
stop_says p used n x rest labels Compressed goes count h = stopped p used n x rest labels Compressed goes count h
stop_says p used n x rest labels LabelTooLong goes count h = stopped p used n x rest labels LabelTooLong goes count h
stop_says p used n x rest labels NameTooLong goes count h = stopped p used n x rest labels NameTooLong goes count (stops_of labels used n NameTooLong count h)
stop_says p used n x rest labels Short goes count h = absurd h
stop_says p used n x rest labels EmptyLabel goes count h = absurd h
stop_says p used n x rest labels BadEscape goes count h = absurd h
stop_says p used n x rest labels BadByte goes count h = absurd h

cut_label : (labels : List (List ℕ)) (used : ℕ) (rest : List ℕ) → used ≡ length (labels_octets labels) → (rest ≡ []) ⊎ ((n : ℕ) × (part : List ℕ) × (rest ≡ n ∷ part) × HasRoom used n × (length part < n)) → (rest ≡ []) ⊎ IsCutLabel labels rest
cut_label labels used rest count (inl none) = inl none
cut_label labels used rest count (inr h) = inr (record { octet = h.0; part = h.1; tail_is = h.2; some = h.3.0; sized = h.3.1; room = omega (arith, h.3.2, count); cut = h.4 })

-- a whole label more
label_goes : (n used : ℕ) (x rest : List ℕ) (labels : List (List ℕ)) → GoesOn x labels (n ∷ rest) → used ≡ length (labels_octets labels) → HasRoom used n → n ≤ length rest
    → GoesOn x (labels ++ take n rest ∷ []) (drop n rest) × (used + suc n ≡ length (labels_octets (labels ++ take n rest ∷ [])))
label_goes n used x rest labels goes count room whole =
    let size : length (take n rest) ≡ n = length-take-le n rest whole in
    let pushed : labels_octets (labels ++ take n rest ∷ []) ≡ labels_octets labels ++ n ∷ take n rest = octets_push labels (take n rest) ∙ ap (λ m. labels_octets labels ++ m ∷ take n rest) size in
    let longer = length_octets_push labels (take n rest) in (
      record {
        begin = begin_push labels (take n rest) goes.begin (omega (arith, room.0, size), omega (arith, room.1, size), omega (arith, room.2, size, count));
        split = goes.split ∙ ap (λ xs. labels_octets labels ++ n ∷ xs) (sym (take-append-drop n rest)) ∙ sym (append_assoc (labels_octets labels) (n ∷ take n rest) (drop n rest)) ∙ ap (λ xs. xs ++ drop n rest) (sym pushed);
      },
      omega (arith, longer, size, count),
    )

abbrev NextSays : ℕ → ℕ → List ℕ → Type 0
NextSays k p x = (used : ℕ) (rest : List ℕ) (labels : List (List ℕ)) → GoesOn x labels rest → used ≡ length (labels_octets labels) → length rest ≤ k → Says p x (read_labels k p used (map str_to_ascii_lowercase labels) rest)

label_says : (k p n used : ℕ) (x rest : List ℕ) (labels : List (List ℕ)) → NextSays k p x → GoesOn x labels (n ∷ rest) → used ≡ length (labels_octets labels) → length rest ≤ k → HasRoom used n → n ≤ length rest
    → Says p x (read_labels k p (used + suc n) (map str_to_ascii_lowercase labels ++ str_to_ascii_lowercase (take n rest) ∷ []) (drop n rest))
label_says k p n used x rest labels next goes count within room whole =
    let more = label_goes n used x rest labels goes count room whole in
    subst (λ ls. Says p x (read_labels k p (used + suc n) ls (drop n rest))) (map_push str_to_ascii_lowercase labels (take n rest))
    (next (used + suc n) (drop n rest) (labels ++ take n rest ∷ []) more.0 more.1 (omega (arith, length-drop n rest, within)))

step_says : (k p used : ℕ) (x rest : List ℕ) (labels : List (List ℕ)) (b : Begins) → NextSays k p x → GoesOn x labels rest → used ≡ length (labels_octets labels) → length rest ≤ suc k → BeginSays used rest b
    → Says p x (read_by b p used (map str_to_ascii_lowercase labels) rest (read_labels k p))
step_says k p used x rest labels End next goes count within h = end_says p used x h.0 labels (goes_same x rest (0 ∷ h.0) labels goes h.1) count
step_says k p used x rest labels (Label n) next goes count within h =
    subst (λ xs. Says p x (read_labels k p (used + suc n) (map str_to_ascii_lowercase labels ++ str_to_ascii_lowercase (take n (drop 1 xs)) ∷ []) (drop (suc n) xs))) (sym h.1)
    (label_says k p n used x h.0 labels next (goes_same x rest (n ∷ h.0) labels goes h.1) count (omega (arith, within, ap length h.1)) h.2 h.3)
step_says k p used x rest labels (Stop reason) next goes count within h = stop_says p used h.0 x h.1 labels reason (goes_same x rest (h.0 ∷ h.1) labels goes h.2) count h.3
step_says k p used x rest labels Cut next goes count within h = short_says p used x rest labels goes count (cut_label labels used rest count h)

labels_say : (k p : ℕ) (x : List ℕ) → NextSays k p x
labels_say zero p x used rest labels goes count within = short_says p used x rest labels goes count (inl (nil_from_length rest (omega arith)))
labels_say (suc k) p x used rest labels goes count within = step_says k p used x rest labels (begins_with used rest) (labels_say k p x) goes count within (begin_says used rest)

pub wire_says : (p : ℕ) (x : List ℕ) → Says p x (read_wire p x)
wire_says p x = labels_say (length x) p x 0 x [] (record { begin = record { sized = tt; most = lit≤ tt }; split = refl }) refl (omega arith)
