-- Numbers of 16 bits as two octets.
use Rattle.std.proofs.Common.{◌≡◌, ℕ, ◌+◌, ◌*◌, ◌/◌, ◌%◌, ◌<◌, ◌≤◌, List, [], ◌∷◌, ◌++◌, length, drop, refl, ap, sym, ◌∙◌, arith}
use Rattle.byteorder.specs.Endian.{big_number, big_bytes}
use Rattle.byteorder.specs.Numbers.{big_number-reads_back}
use Rattle.dns_names.specs.Names.{AreBytes}

pub pair_reads : (n : ℕ) (rest : List ℕ) → n < 65536 → big_number 2 (big_bytes 2 n ++ rest) ≡ n
pair_reads n rest h = big_number-reads_back 2 n rest h

pub pair_value : (a b : ℕ) (rest : List ℕ) → big_number 2 (a ∷ b ∷ rest) ≡ a * 256 + b
pair_value a b rest = omega arith

pub pair_front : (a b : ℕ) (rest : List ℕ) → big_number 2 (a ∷ b ∷ rest) ≡ big_number 2 (a ∷ b ∷ [])
pair_front a b rest = refl

pub pair_fits : (a b : ℕ) (rest : List ℕ) → a < 256 → b < 256 → big_number 2 (a ∷ b ∷ rest) < 65536
pair_fits a b rest h i = omega (arith, pair_value a b rest)

two_same : (a b c d : ℕ) (xs : List ℕ) → a ≡ c → b ≡ d → a ∷ b ∷ xs ≡ c ∷ d ∷ xs
two_same a b c d xs e f = cc

high_of : (a b : ℕ) → a < 256 → b < 256 → (a * 256 + b) / 256 % 256 ≡ a
high_of a b h i = omega arith

low_of : (a b : ℕ) → a < 256 → b < 256 → (a * 256 + b) % 256 ≡ b
low_of a b h i = omega arith

pub pair_back : (a b : ℕ) (rest : List ℕ) → a < 256 → b < 256 → big_bytes 2 (big_number 2 (a ∷ b ∷ rest)) ≡ a ∷ b ∷ []
pair_back a b rest h i = ap (λ n. big_bytes 2 n) (pair_value a b rest) ∙ two_same _ _ _ _ [] (high_of a b h i) (low_of a b h i)

-- two octets at the front are the number that they read as
pub pair_split : (x : List ℕ) → AreBytes x → 2 ≤ length x → x ≡ big_bytes 2 (big_number 2 x) ++ drop 2 x
pair_split [] bytes h = absurd (omega arith)
pair_split (a ∷ []) bytes h = absurd (omega arith)
pair_split (a ∷ b ∷ rest) bytes h = sym (ap (λ xs. xs ++ rest) (pair_back a b rest bytes.0 bytes.1.0))

pub pair_below : (x : List ℕ) → AreBytes x → 2 ≤ length x → big_number 2 x < 65536
pair_below [] bytes h = absurd (omega arith)
pair_below (a ∷ []) bytes h = absurd (omega arith)
pair_below (a ∷ b ∷ rest) bytes h = pair_fits a b rest bytes.0 bytes.1.0

-- two octets that read as a number are its octets
pub pair_whole : (x : List ℕ) → AreBytes x → length x ≡ 2 → big_bytes 2 (big_number 2 x) ≡ x
pair_whole [] bytes h = absurd (omega arith)
pair_whole (a ∷ []) bytes h = absurd (omega arith)
pair_whole (a ∷ b ∷ []) bytes h = pair_back a b [] bytes.0 bytes.1.0
pair_whole (a ∷ b ∷ c ∷ rest) bytes h = absurd (omega arith)
