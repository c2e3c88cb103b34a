-- One step of the reading of a name's text.
use Rattle.std.proofs.Common.{◌≡◌, ◌≢◌, ℕ, zero, suc, ◌+◌, ◌<◌, ◌≤◌, Bool, true, false, cond, nat_eq, nat_lt, List, [], ◌∷◌, length, drop, Option, Some, None, refl, ap, ◌∙◌, subst, arith}
use Rattle.std.proofs.lemmas.List.{length-drop}
use Rattle.dns_names.specs.declared.refusal.NameRefusal.{NameRefusal}
use Rattle.dns_names.specs.declared.refusal.NameRefusal.TheVariants.{LabelTooLong, NameTooLong, Compressed, Short, EmptyLabel, BadEscape, BadByte}
use Rattle.dns_names.specs.declared.token.Token.{Token}
use Rattle.dns_names.specs.declared.token.Token.TheVariants.{End, Dot, Byte, Stop}
use Rattle.dns_names.specs.TextParts.{Part, Raw, Quoted, Decimal, part_text}
use Rattle.dns_names.specs.TextReading.{TextAnswer, token_at, label_fault, label_ends, read_by, read_tokens, text_ends}
use Rattle.alt_base.proofs.Numbers.{eq_false, true_eq, false_eq, lt_true, lt_false, true_lt, false_lt}
use Rattle.dns_names.proofs.WireSteps.{HasRoom}
use Rattle.dns_names.proofs.TextTokens.{TokenSays, token_says}

-- what a fault at the end of a label says
abbrev pub FaultSays : ℕ → ℕ → Option NameRefusal → Type 0
FaultSays used count None = HasRoom used count
FaultSays used count (Some EmptyLabel) = count ≡ 0
FaultSays used count (Some LabelTooLong) = 63 < count
FaultSays used count (Some NameTooLong) = (1 ≤ count) × (count ≤ 63) × (255 < used + 1 + count + 1)
FaultSays used count (Some Compressed) = ⊥
FaultSays used count (Some Short) = ⊥
FaultSays used count (Some BadEscape) = ⊥
FaultSays used count (Some BadByte) = ⊥

fault_by : (used count : ℕ) (a b c : Bool) → nat_eq count 0 ≡ a → nat_lt 63 count ≡ b → nat_lt 255 (used + 1 + count + 1) ≡ c
    → FaultSays used count (cond a (Some EmptyLabel) (cond b (Some LabelTooLong) (cond c (Some NameTooLong) None)))
fault_by used count true b c p q r = true_eq _ _ p
fault_by used count false true c p q r = true_lt _ _ q
fault_by used count false false true p q r = let some : count ≢ 0 = false_eq _ _ p in (omega arith, false_lt _ _ q, true_lt _ _ r)
fault_by used count false false false p q r =
    let some : count ≢ 0 = false_eq _ _ p in
    let most : count ≤ 63 = false_lt _ _ q in
    (omega arith, omega arith, false_lt _ _ r)

pub fault_says : (used count : ℕ) → FaultSays used count (label_fault used count)
fault_says used count = fault_by used count _ _ _ refl refl refl

pub no_fault : (used count : ℕ) → HasRoom used count → label_fault used count ≡ None
no_fault used count h =
    let p : nat_eq count 0 ≡ false = eq_false _ _ (λ e. absurd (omega (arith, h.0, e))) in
    let q : nat_lt 63 count ≡ false = lt_false _ _ (omega (arith, h.1)) in
    let r : nat_lt 255 (used + 1 + count + 1) ≡ false = lt_false _ _ h.2 in
    rw (p, q, r) refl

pub long_label : (used count : ℕ) → 63 < count → label_fault used count ≡ Some LabelTooLong
long_label used count h =
    let p : nat_eq count 0 ≡ false = eq_false _ _ (λ e. absurd (omega (arith, h, e))) in
    let q : nat_lt 63 count ≡ true = lt_true _ _ h in
    rw (p, q) refl

pub long_name : (used count : ℕ) → 1 ≤ count → count ≤ 63 → 255 < used + 1 + count + 1 → label_fault used count ≡ Some NameTooLong
long_name used count some most long =
    let p : nat_eq count 0 ≡ false = eq_false _ _ (λ e. absurd (omega (arith, some, e))) in
    let q : nat_lt 63 count ≡ false = lt_false _ _ most in
    let r : nat_lt 255 (used + 1 + count + 1) ≡ true = lt_true _ _ long in
    rw (p, q, r) refl

pub part_some : (part : Part) → 1 ≤ length (part_text part)
part_some (Raw b) = omega arith
part_some (Quoted b) = omega arith
part_some (Decimal a b c) = omega arith

abbrev Next : Type 0
Next = List (List ℕ) → List ℕ → ℕ → ℕ → List ℕ → TextAnswer

same_next : (t : Token) (k m : ℕ) (labels : List (List ℕ)) (label : List ℕ) (start at : ℕ) (x : List ℕ) (f g : Next) → TokenSays x t → length x ≤ suc k → length x ≤ suc m
    → ((ls : List (List ℕ)) (l : List ℕ) (s a : ℕ) (y : List ℕ) → length y ≤ k → length y ≤ m → f ls l s a y ≡ g ls l s a y)
    → read_by t labels label start at x f ≡ read_by t labels label start at x g
same_next End k m labels label start at x f g says h i next = refl
same_next Dot k m labels label start at x f g says h i next =
    ap (λ answer. label_ends labels label start answer) (next _ _ _ _ (drop 1 x) (omega (arith, length-drop 1 x, h)) (omega (arith, length-drop 1 x, i)))
same_next (Byte byte count) k m labels label start at x f g says h i next =
    let some = part_some says.part in
    next _ _ _ _ (drop count x) (omega (arith, length-drop count x, h, says.count_is, some)) (omega (arith, length-drop count x, i, says.count_is, some))
same_next (Stop reason) k m labels label start at x f g says h i next = refl

pub enough : (k m : ℕ) (labels : List (List ℕ)) (label : List ℕ) (start at : ℕ) (x : List ℕ) → length x ≤ k → length x ≤ m → read_tokens k labels label start at x ≡ read_tokens m labels label start at x
enough zero zero labels label start at x h i = refl
enough zero (suc m) labels label start at [] h i = refl
enough zero (suc m) labels label start at (b ∷ rest) h i = absurd (omega arith)
enough (suc k) zero labels label start at [] h i = refl
enough (suc k) zero labels label start at (b ∷ rest) h i = absurd (omega arith)
enough (suc k) (suc m) labels label start at x h i =
    same_next (token_at x) k m labels label start at x (read_tokens k) (read_tokens m) (token_says x) h i (λ ls l s a y p q. enough k m ls l s a y p q)

-- what is left is read
abbrev pub reads : List (List ℕ) → List ℕ → ℕ → ℕ → List ℕ → TextAnswer
reads labels label start at x = read_tokens (length x) labels label start at x

pub reads_token : (t : Token) (labels : List (List ℕ)) (label : List ℕ) (start at : ℕ) (x : List ℕ) → token_at x ≡ t → reads labels label start at x ≡ read_by t labels label start at x reads
reads_token t labels label start at [] is = subst (λ u. text_ends labels label start ≡ read_by u labels label start at [] reads) is refl
reads_token t labels label start at (b ∷ rest) is =
    same_next (token_at (b ∷ rest)) (length rest) (length rest) labels label start at (b ∷ rest) (read_tokens (length rest)) reads (token_says (b ∷ rest)) (omega arith) (omega arith) (λ ls l s a y p q. enough (length rest) (length y) ls l s a y p (omega arith))
    ∙ ap (λ u. read_by u labels label start at (b ∷ rest) reads) is
