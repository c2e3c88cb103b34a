-- Reading the wire form of a name, label by label.
use Rattle.std.specs.Prelude.{ℕ, zero, suc, ◌+◌, nat_eq, nat_le, nat_lt, List, [], ◌∷◌, ◌++◌, length, take, drop, Result, Ok, if◌then◌else◌}
use Rattle.std.specs.Str.{str_to_ascii_lowercase}
use Rattle.alt_base.specs.declared.refusal.At.{At}
use Rattle.dns_names.specs.declared.refusal.NameRefusal.{NameRefusal}
use Rattle.dns_names.specs.declared.refusal.NameRefusal.TheVariants.{LabelTooLong, NameTooLong, Compressed, Short}
use Rattle.dns_names.specs.declared.wire.Begins.{Begins}
use Rattle.dns_names.specs.declared.wire.Begins.TheVariants.{End, Label, Stop, Cut}
use Rattle.alt_base.specs.Answers.{refused}

-- the name and the place after it, or a refusal at a place
abbrev pub WireAnswer : Type 0
WireAnswer = Result (List (List ℕ) × ℕ) (At NameRefusal)

-- what the octet n begins, behind so many octets of a name and in front of so many
abbrev pub begins_by : ℕ → ℕ → ℕ → Begins
begins_by used n after =
    if nat_eq n 0 then End
    else (if nat_le 192 n then Stop Compressed
    else (if nat_le 64 n then Stop LabelTooLong
    else (if nat_lt 255 (used + 1 + n + 1) then Stop NameTooLong
    else (if nat_lt after n then Cut
    else Label n))))

abbrev pub begins_with : ℕ → List ℕ → Begins
begins_with used [] = Cut
begins_with used (n ∷ rest) = begins_by used n (length rest)

abbrev pub read_by : Begins → ℕ → ℕ → List (List ℕ) → List ℕ → (ℕ → List (List ℕ) → List ℕ → WireAnswer) → WireAnswer
read_by End p used labels x next = Ok (labels, p + used + 1)
read_by (Label n) p used labels x next = next (used + suc n) (labels ++ str_to_ascii_lowercase (take n (drop 1 x)) ∷ []) (drop (suc n) x)
read_by (Stop reason) p used labels x next = refused (p + used) reason
read_by Cut p used labels x next = refused (p + used + length x) Short

-- at most so many labels more, behind these labels of so many octets
abbrev pub read_labels : ℕ → ℕ → ℕ → List (List ℕ) → List ℕ → WireAnswer
read_labels zero p used labels x = refused (p + used + length x) Short
read_labels (suc k) p used labels x = read_by (begins_with used x) p used labels x (read_labels k p)

-- the name at the front of the octets x, which begin at place p
abbrev pub read_wire : ℕ → List ℕ → WireAnswer
read_wire p x = read_labels (length x) p 0 [] x
