-- One step of the reading of a name's wire form.
use Rattle.std.proofs.Common.{◌≡◌, ◌≢◌, ◌⊎◌, ℕ, zero, suc, ◌+◌, ◌<◌, ◌≤◌, Bool, true, false, cond, nat_eq, nat_le, nat_lt, List, [], ◌∷◌, ◌++◌, length, take, drop, refl, ap, ◌∙◌, arith, inl, inr}
use Rattle.std.proofs.lemmas.List.{length-drop}
use Rattle.std.specs.Str.{str_to_ascii_lowercase}
use Rattle.dns_names.specs.declared.refusal.NameRefusal.{NameRefusal}
use Rattle.dns_names.specs.declared.refusal.NameRefusal.TheVariants.{LabelTooLong, NameTooLong, Compressed, Short, EmptyLabel, BadEscape, BadByte}
use Rattle.dns_names.specs.declared.wire.Begins.{Begins}
use Rattle.dns_names.specs.declared.wire.Begins.TheVariants.{End, Label, Stop, Cut}
use Rattle.dns_names.specs.WireReading.{WireAnswer, begins_by, begins_with, read_by, read_labels}
use Rattle.alt_base.proofs.Numbers.{eq_false, true_eq, false_eq, lt_true, lt_false, true_lt, false_lt, le_true, le_false, true_le, false_le}

-- the octet n, behind so many octets
abbrev pub StopsAt : ℕ → ℕ → NameRefusal → Type 0
StopsAt used n Compressed = 192 ≤ n
StopsAt used n LabelTooLong = (64 ≤ n) × (n < 192)
StopsAt used n NameTooLong = (1 ≤ n) × (n < 64) × (255 < used + 1 + n + 1)
StopsAt used n Short = ⊥
StopsAt used n EmptyLabel = ⊥
StopsAt used n BadEscape = ⊥
StopsAt used n BadByte = ⊥

abbrev pub HasRoom : ℕ → ℕ → Type 0
HasRoom used n = (1 ≤ n) × (n < 64) × (used + 1 + n + 1 ≤ 255)

-- what a beginning says of the octets
abbrev pub BeginSays : ℕ → List ℕ → Begins → Type 0
BeginSays used x End = (rest : List ℕ) × (x ≡ 0 ∷ rest)
BeginSays used x (Label n) = (rest : List ℕ) × (x ≡ n ∷ rest) × HasRoom used n × (n ≤ length rest)
BeginSays used x (Stop reason) = (n : ℕ) × (rest : List ℕ) × (x ≡ n ∷ rest) × StopsAt used n reason
BeginSays used x Cut = (x ≡ []) ⊎ ((n : ℕ) × (rest : List ℕ) × (x ≡ n ∷ rest) × HasRoom used n × (length rest < n))

says_by : (used n : ℕ) (rest : List ℕ) (a b c d e : Bool) → nat_eq n 0 ≡ a → nat_le 192 n ≡ b → nat_le 64 n ≡ c → nat_lt 255 (used + 1 + n + 1) ≡ d → nat_lt (length rest) n ≡ e
    → BeginSays used (n ∷ rest) (cond a End (cond b (Stop Compressed) (cond c (Stop LabelTooLong) (cond d (Stop NameTooLong) (cond e Cut (Label n))))))
says_by used n rest true b c d e p q r s t = (rest, ap (λ m. m ∷ rest) (true_eq _ _ p))
says_by used n rest false true c d e p q r s t = (n, rest, refl, true_le _ _ q)
says_by used n rest false false true d e p q r s t = (n, rest, refl, (true_le _ _ r, false_le _ _ q))
says_by used n rest false false false true e p q r s t =
    let some : n ≢ 0 = false_eq _ _ p in
    (n, rest, refl, (omega arith, false_le _ _ r, true_lt _ _ s))
says_by used n rest false false false false true p q r s t =
    let some : n ≢ 0 = false_eq _ _ p in
    inr (n, rest, refl, (omega arith, false_le _ _ r, false_lt _ _ s), true_lt _ _ t)
says_by used n rest false false false false false p q r s t =
    let some : n ≢ 0 = false_eq _ _ p in
    (rest, refl, (omega arith, false_le _ _ r, false_lt _ _ s), false_lt _ _ t)

pub begin_says : (used : ℕ) (x : List ℕ) → BeginSays used x (begins_with used x)
begin_says used [] = inl refl
begin_says used (n ∷ rest) = says_by used n rest _ _ _ _ _ refl refl refl refl refl

-- a length octet that has room, whether or not the label comes whole
room_begins : (used n after : ℕ) → HasRoom used n → begins_by used n after ≡ cond (nat_lt after n) Cut (Label n)
room_begins used n after h =
    let a : nat_eq n 0 ≡ false = eq_false _ _ (λ e. absurd (omega (arith, h.0, e))) in
    let b : nat_le 192 n ≡ false = le_false _ _ (omega (arith, h.1)) in
    let c : nat_le 64 n ≡ false = le_false _ _ h.1 in
    let d : nat_lt 255 (used + 1 + n + 1) ≡ false = lt_false _ _ h.2 in
    rw (a, b, c, d) refl

pub label_begins : (used n : ℕ) (rest : List ℕ) → HasRoom used n → n ≤ length rest → begins_with used (n ∷ rest) ≡ Label n
label_begins used n rest h whole =
    let e : nat_lt (length rest) n ≡ false = lt_false _ _ whole in
    room_begins used n (length rest) h ∙ rw e refl

pub cut_begins : (used n : ℕ) (rest : List ℕ) → HasRoom used n → length rest < n → begins_with used (n ∷ rest) ≡ Cut
cut_begins used n rest h cut =
    let e : nat_lt (length rest) n ≡ true = lt_true _ _ cut in
    room_begins used n (length rest) h ∙ rw e refl

pub stop_begins : (used n : ℕ) (rest : List ℕ) (reason : NameRefusal) → StopsAt used n reason → begins_with used (n ∷ rest) ≡ Stop reason
stop_begins used n rest Compressed h =
    let a : nat_eq n 0 ≡ false = eq_false _ _ (λ e. absurd (omega (arith, h, e))) in
    let b : nat_le 192 n ≡ true = le_true _ _ h in
    rw (a, b) refl
stop_begins used n rest LabelTooLong h =
    let a : nat_eq n 0 ≡ false = eq_false _ _ (λ e. absurd (omega (arith, h.0, e))) in
    let b : nat_le 192 n ≡ false = le_false _ _ h.1 in
    let c : nat_le 64 n ≡ true = le_true _ _ h.0 in
    rw (a, b, c) refl
stop_begins used n rest NameTooLong h =
    let a : nat_eq n 0 ≡ false = eq_false _ _ (λ e. absurd (omega (arith, h.0, e))) in
    let b : nat_le 192 n ≡ false = le_false _ _ (omega (arith, h.1)) in
    let c : nat_le 64 n ≡ false = le_false _ _ h.1 in
    let d : nat_lt 255 (used + 1 + n + 1) ≡ true = lt_true _ _ h.2 in
    rw (a, b, c, d) refl
stop_begins used n rest Short h = absurd h
stop_begins used n rest EmptyLabel h = absurd h
stop_begins used n rest BadEscape h = absurd h
stop_begins used n rest BadByte h = absurd h

-- any count of labels that is no less than that of the octets serves
same_next : (b : Begins) (k m p used : ℕ) (labels : List (List ℕ)) (x : List ℕ) → length x ≤ suc k → length x ≤ suc m
    → ((u : ℕ) (ls : List (List ℕ)) (y : List ℕ) → length y ≤ k → length y ≤ m → read_labels k p u ls y ≡ read_labels m p u ls y)
    → read_by b p used labels x (read_labels k p) ≡ read_by b p used labels x (read_labels m p)
same_next End k m p used labels x h i next = refl
same_next (Label n) k m p used labels x h i next = next _ _ (drop (suc n) x) (omega (arith, length-drop (suc n) x, h)) (omega (arith, length-drop (suc n) x, i))
same_next (Stop reason) k m p used labels x h i next = refl
same_next Cut k m p used labels x h i next = refl

pub enough : (k m p used : ℕ) (labels : List (List ℕ)) (x : List ℕ) → length x ≤ k → length x ≤ m → read_labels k p used labels x ≡ read_labels m p used labels x
enough zero zero p used labels x h i = refl
enough zero (suc m) p used labels [] h i = refl
enough zero (suc m) p used labels (n ∷ rest) h i = absurd (omega arith)
enough (suc k) zero p used labels [] h i = refl
enough (suc k) zero p used labels (n ∷ rest) h i = absurd (omega arith)
enough (suc k) (suc m) p used labels x h i = same_next (begins_with used x) k m p used labels x h i (λ u ls y. enough k m p u ls y)

-- the labels in front of the rest are read
abbrev pub reads : ℕ → ℕ → List (List ℕ) → List ℕ → WireAnswer
reads p used labels x = read_labels (length x) p used labels x

pub reads_label : (p used n : ℕ) (labels : List (List ℕ)) (x : List ℕ) → begins_with used x ≡ Label n
    → reads p used labels x ≡ reads p (used + suc n) (labels ++ str_to_ascii_lowercase (take n (drop 1 x)) ∷ []) (drop (suc n) x)
reads_label p used n labels [] h = cc
reads_label p used n labels (octet ∷ rest) h =
    rw h (enough (length rest) (length (drop n rest)) p (used + suc n) _ (drop n rest) (omega (arith, length-drop n rest)) (omega arith))

pub reads_stop : (p used : ℕ) (labels : List (List ℕ)) (x : List ℕ) (b : Begins) → begins_with used x ≡ b → 1 ≤ length x → reads p used labels x ≡ read_by b p used labels x (read_labels (length (drop 1 x)) p)
reads_stop p used labels [] b h some = absurd (omega arith)
reads_stop p used labels (octet ∷ rest) b h some = rw h refl
