-- Hosts that were read are valid, and the text of a valid host spells it.
use Rattle.std.proofs.Common.{◌≡◌, ℕ, ◌+◌, ◌<◌, ◌≤◌, Bool, true, false, cond, ◌&&◌, ◌||◌, nat_eq, nat_lt, nat_le, List, [], ◌∷◌, length, map, Some, refl, ap, ap₂, sym, ◌∙◌, subst, arith}
use Rattle.std.specs.Char.{is_ascii_digit, to_ascii_lowercase}
use Rattle.alt_base.specs.Classes.{in_ranges, host_name_class}
use Rattle.origin_values.specs.HostGrammar.{SpellsName, SpellsHost}
use Rattle.origin_values.specs.HostReading.{are_labels, read_name, read_host}
use Rattle.origin_values.specs.Valid.{IsHost}
use Rattle.origin_values.specs.Written.{host_text, v6_text}
use Rattle.origin_values.specs.declared.host.Host.{Host}
use Rattle.origin_values.specs.declared.host.Host.TheVariants.{Name, V4, V6}
use Rattle.origin_values.proofs.AddressTexts.{v4_written, v6_written, v4_valid, v6_valid}
use Rattle.origin_values.proofs.Hosts.{read_host_complete}
use Rattle.origin_values.proofs.Names.{read_name_sound, name_labels}
use Rattle.origin_values.proofs.Lowercase.{length_lower}
use Rattle.std.proofs.lemmas.Bool.{and_from, and_right}
use Rattle.alt_base.proofs.Numbers.{true_lt, false_lt, lt_false, le_true, le_false}
use Rattle.alt_base.proofs.Booleans.{third_of_four}

-- what a byte is asked of keeps its answer in lower case
abbrev SameTests : ℕ → ℕ → Type 0
SameTests b c = (nat_eq c 46 ≡ nat_eq b 46) × (in_ranges host_name_class c ≡ in_ranges host_name_class b) × (is_ascii_digit c ≡ is_ascii_digit b) × (to_ascii_lowercase c ≡ c)

not_eq : (a b : ℕ) → b < a → nat_eq a b ≡ false
not_eq a b h = grind arith

last_in : (a b c d e : Bool) → e ≡ true → (a || (b || (c || (d || (e || false))))) ≡ true
last_in true b c d e h = refl
last_in false true c d e h = refl
last_in false false true d e h = refl
last_in false false false true e h = refl
last_in false false false false e h = rw h refl

-- an upper-case letter is in the class, and so is the lower-case one
upper_in : (b : ℕ) → 65 ≤ b → b < 91 → in_ranges host_name_class b ≡ true
upper_in b low high = third_of_four (nat_le 45 b && nat_le b 45) (nat_le 48 b && nat_le b 57) (nat_le 65 b && nat_le b 90) ((nat_le 95 b && nat_le b 95) || ((nat_le 97 b && nat_le b 122) || false)) (and_from (nat_le 65 b) (nat_le b 90) (le_true 65 b low) (le_true b 90 (omega arith)))

lower_in : (b : ℕ) → 97 ≤ b → b < 123 → in_ranges host_name_class b ≡ true
lower_in b low high = last_in (nat_le 45 b && nat_le b 45) (nat_le 48 b && nat_le b 57) (nat_le 65 b && nat_le b 90) (nat_le 95 b && nat_le b 95) (nat_le 97 b && nat_le b 122) (and_from (nat_le 97 b) (nat_le b 122) (le_true 97 b low) (le_true b 122 (omega arith)))

letter : (b : ℕ) → 65 ≤ b → b < 91 → SameTests b (b + 32)
letter b low high = (
  not_eq (b + 32) 46 (omega arith) ∙ sym (not_eq b 46 (omega arith)),
  lower_in (b + 32) (omega arith) (omega arith) ∙ sym (upper_in b low high),
  and_right (nat_le 48 (b + 32)) (nat_le (b + 32) 57) (le_false (b + 32) 57 (omega arith)) ∙ sym (and_right (nat_le 48 b) (nat_le b 57) (le_false b 57 (omega arith))),
  rw (lt_false (b + 32) 65 (omega arith), lt_false (b + 32) 91 (omega arith)) refl,
)

lower_tests : (b : ℕ) → SameTests b (to_ascii_lowercase b)
lower_tests b = go (nat_lt b 65) (nat_lt b 91) refl refl
  where
    go : (s t : Bool) → nat_lt b 65 ≡ s → nat_lt b 91 ≡ t → SameTests b (cond s b (cond t (b + 32) b))
    go true t is_s is_t = (refl, refl, refl, rw is_s refl)
    go false true is_s is_t = letter b (false_lt b 65 is_s) (true_lt b 91 is_t)
    go false false is_s is_t = (refl, refl, refl, rw (is_s, is_t) refl)

lower_twice : (text : List ℕ) → map to_ascii_lowercase (map to_ascii_lowercase text) ≡ map to_ascii_lowercase text
lower_twice [] = refl
lower_twice (b ∷ bs) = ap₂ (λ c cs. c ∷ cs) (lower_tests b).3 (lower_twice bs)

lower_labels : (text : List ℕ) (count : ℕ) (digits : Bool) → are_labels count digits (map to_ascii_lowercase text) ≡ are_labels count digits text
lower_labels [] count digits = refl
lower_labels (b ∷ bs) count digits =
    let tests = lower_tests b in
    rw (tests.0, tests.1, tests.2, lower_labels bs 0 true, lower_labels bs (count + 1) (digits && is_ascii_digit b)) refl

pub name_valid : (text name : List ℕ) → SpellsName text name → SpellsName name name
name_valid text name h =
    let lower = map to_ascii_lowercase text in
    let labels : are_labels 0 true lower ≡ true = lower_labels text 0 true ∙ name_labels text name h in
    let short : nat_le (length lower) 253 ≡ true = le_true (length lower) 253 (omega (arith, length_lower text, h.short)) in
    let reads : read_name lower ≡ Some lower = rw (short, labels) (ap Some (lower_twice text)) in
    subst (λ n. SpellsName n n) (sym h.value) (read_name_sound lower lower reads)

pub host_valid : (text : List ℕ) (host : Host) → SpellsHost text host → IsHost host
host_valid text (Name name) h = name_valid text name h
host_valid text (V4 bytes) h = v4_valid text bytes h
host_valid text (V6 bytes) h = v6_valid h.inner bytes h.address

pub host_written : (host : Host) → IsHost host → SpellsHost (host_text host) host
host_written (Name name) h = h
host_written (V4 bytes) h = v4_written bytes h
host_written (V6 bytes) h = record { inner = v6_text bytes; spelled = refl; address = v6_written bytes h }

pub host_read_back : (host : Host) → IsHost host → read_host (host_text host) ≡ Some host
host_read_back host h = read_host_complete (host_text host) host (host_written host h)
