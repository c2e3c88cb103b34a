-- What follows the host in an origin's text, against the grammar.
use Rattle.std.proofs.Common.{add-one, ◌≡◌, ◌⊎◌, ℕ, suc, ◌+◌, ◌^◌, ◌<◌, ◌≤◌, Bool, true, false, nat_eq, nat_lt, List, [], ◌∷◌, ◌++◌, length, Some, None, Result, Ok, Err, refl, ap, sym, ◌∙◌, subst, arith, inl, inr, append-nil}
use Rattle.std.specs.List.{list_all}
use Rattle.std.specs.Char.{is_ascii_digit}
use Rattle.std.specs.Str.Parse.{IsNumeral, digits_value}
use Rattle.alt_base.specs.declared.refusal.At.{At}
use Rattle.origin_values.specs.DefaultPort.{default_port_of}
use Rattle.origin_values.specs.OriginGrammar.{SpellsPort, NoDigit, IsLeft}
use Rattle.origin_values.specs.OriginReading.{digits_before, port_of, port_then_end, at_end, read_digits, read_port, refusal_at}
use Rattle.origin_values.specs.declared.scheme.Scheme.{Scheme}
use Rattle.origin_values.specs.declared.host.Host.{Host}
use Rattle.origin_values.specs.declared.origin.Origin.{Origin}
use Rattle.origin_values.specs.declared.refusal.OriginRefusal.{OriginRefusal}
use Rattle.origin_values.specs.declared.refusal.OriginRefusal.TheVariants.{BadScheme, BadHost, BadPort, Trailing}
use Rattle.alt_base.proofs.Conjunctions.{both}
use Rattle.std.proofs.lemmas.Bool.{and_right}
use Rattle.alt_base.proofs.Numbers.{true_eq, false_eq, eq_false, true_lt, false_lt, lt_true, lt_false}
use Rattle.alt_base.proofs.Digits.{digits_all, all_digits}
use Rattle.std.proofs.Math.Seq.{take-append_seam, drop-append_seam}

count_digits : (digits rest : List ℕ) → list_all is_ascii_digit digits ≡ true → NoDigit rest → digits_before (digits ++ rest) ≡ length digits
count_digits [] [] h none = refl
count_digits [] (b ∷ bs) h none = rw none refl
count_digits (c ∷ digits) rest h none =
    let t = both (is_ascii_digit c) (list_all is_ascii_digit digits) h in
    rw t.0 (ap (λ n. n + 1) (count_digits digits rest t.1 none) ∙ add-one (length digits))

not_zero : (n : ℕ) → 0 < n → nat_eq n 0 ≡ false
not_zero n h = grind arith

pub port_good : (digits : List ℕ) (port : ℕ) → digits_value 10 digits ≡ port → 1 ≤ port → port < 2 ^ 16 → port_of digits ≡ Some port
port_good digits port is some short =
    rw (lt_true 0 (digits_value 10 digits) (omega (arith, is)), lt_true (digits_value 10 digits) 65536 (omega (arith, is))) (ap Some is)

pub port_bad : (digits : List ℕ) → (digits_value 10 digits ≡ 0) ⊎ (65535 < digits_value 10 digits) → port_of digits ≡ None
port_bad digits (inl zero_is) = rw (lt_false 0 (digits_value 10 digits) (omega (arith, zero_is))) refl
port_bad digits (inr large) = rw (and_right (nat_lt 0 (digits_value 10 digits)) (nat_lt (digits_value 10 digits) 65536) (lt_false (digits_value 10 digits) 65536 (omega (arith, large)))) refl

module _ (scheme : Scheme) (host : Host) where
  -- an origin of this scheme and host
  abbrev with_port : ℕ → Origin
  with_port port = record { scheme = scheme; host = host; port = port }

  -- a colon and no digit
  lone_colon : (place : ℕ) (rest : List ℕ) → NoDigit rest → read_port scheme host place (58 ∷ rest) ≡ at_end (with_port (default_port_of scheme)) (place + 1) rest
  lone_colon place rest none = ap (λ n. read_digits scheme host (place + 1) n rest) (count_digits [] rest refl none)

  -- a colon and digits
  colon_digits : (place : ℕ) (digits rest : List ℕ) → IsNumeral 10 digits → NoDigit rest
      → read_port scheme host place (58 ∷ (digits ++ rest)) ≡ port_then_end scheme host (place + 1) (length digits) (digits ++ rest) (port_of digits)
  colon_digits place digits rest numeral none =
      ap (λ n. read_digits scheme host (place + 1) n (digits ++ rest)) (count_digits digits rest (digits_all digits numeral.1) none)
      ∙ rw (not_zero (length digits) numeral.0) (ap (λ ds. port_then_end scheme host (place + 1) (length digits) (digits ++ rest) (port_of ds)) (take-append_seam digits rest))

  colon_port : (place : ℕ) (digits rest : List ℕ) (port : ℕ) → IsNumeral 10 digits → NoDigit rest → digits_value 10 digits ≡ port → 1 ≤ port → port < 2 ^ 16
      → read_port scheme host place (58 ∷ (digits ++ rest)) ≡ at_end (with_port port) (place + 1 + length digits) rest
  colon_port place digits rest port numeral none is some short =
      colon_digits place digits rest numeral none
      ∙ ap (port_then_end scheme host (place + 1) (length digits) (digits ++ rest)) (port_good digits port is some short)
      ∙ ap (at_end (with_port port) (place + 1 + length digits)) (drop-append_seam digits rest)

  pub port_refused : (place : ℕ) (digits rest : List ℕ) → IsNumeral 10 digits → NoDigit rest → (digits_value 10 digits ≡ 0) ⊎ (65535 < digits_value 10 digits)
      → read_port scheme host place (58 ∷ (digits ++ rest)) ≡ refusal_at (place + 1) BadPort
  port_refused place digits rest numeral none bad =
      colon_digits place digits rest numeral none ∙ ap (port_then_end scheme host (place + 1) (length digits) (digits ++ rest)) (port_bad digits bad)

  pub port_complete : (place : ℕ) (text : List ℕ) (port : ℕ) → SpellsPort scheme text port → read_port scheme host place text ≡ Ok (with_port port)
  port_complete place text port (inl (inl none, value)) = ap (read_port scheme host place) none ∙ ap (λ p. Ok (with_port p)) (sym value)
  port_complete place text port (inl (inr colon, value)) = ap (read_port scheme host place) colon ∙ lone_colon place [] tt ∙ ap (λ p. Ok (with_port p)) (sym value)
  port_complete place text port (inr (spells, some)) =
      ap (read_port scheme host place) (spells.1 ∙ ap (λ xs. 58 ∷ xs) (sym (append-nil spells.0)))
      ∙ colon_port place spells.0 [] port spells.2.0 tt spells.2.1 some spells.3

  ends_at : (p q : ℕ) → p ≡ q → refusal_at p Trailing ≡ refusal_at q Trailing
  ends_at p q e = ap (λ n. refusal_at n Trailing) e

  left_of_digits : (c : ℕ) (port rest : List ℕ) → IsLeft (c ∷ port) rest → NoDigit rest
  left_of_digits c port [] h = tt
  left_of_digits c port (b ∷ bs) h = h

  at_left : (origin : Origin) (place : ℕ) (c : ℕ) (port rest : List ℕ) → IsLeft (c ∷ port) rest → at_end origin place rest ≡ refusal_at place Trailing
  at_left origin place c port [] h = absurd h
  at_left origin place c port (b ∷ bs) h = refl

  nothing_read : (place : ℕ) (rest : List ℕ) → IsLeft [] rest → read_port scheme host place rest ≡ refusal_at place Trailing
  nothing_read place [] h = absurd h
  nothing_read place (b ∷ bs) h = rw (eq_false b 58 h) refl

  pub port_trailing : (place : ℕ) (port rest : List ℕ) (number : ℕ) → SpellsPort scheme port number → IsLeft port rest
      → read_port scheme host place (port ++ rest) ≡ refusal_at (place + length port) Trailing
  port_trailing place port rest number (inl (inl none, value)) left =
      ap (λ xs. read_port scheme host place (xs ++ rest)) none ∙ nothing_read place rest (subst (λ xs. IsLeft xs rest) none left)
      ∙ ends_at place (place + length port) (omega (arith, ap length none))
  port_trailing place port rest number (inl (inr colon, value)) left =
      let left_here = subst (λ xs. IsLeft xs rest) colon left in
      ap (λ xs. read_port scheme host place (xs ++ rest)) colon ∙ lone_colon place rest (left_of_digits 58 [] rest left_here)
      ∙ at_left (with_port (default_port_of scheme)) (place + 1) 58 [] rest left_here
      ∙ ends_at (place + 1) (place + length port) (omega (arith, ap length colon))
  port_trailing place port rest number (inr (spells, some)) left =
      let left_here = subst (λ xs. IsLeft xs rest) spells.1 left in
      ap (λ xs. read_port scheme host place (xs ++ rest)) spells.1
      ∙ colon_port place spells.0 rest number spells.2.0 (left_of_digits 58 spells.0 rest left_here) spells.2.1 some spells.3
      ∙ at_left (with_port number) (place + 1 + length spells.0) 58 spells.0 rest left_here
      ∙ ends_at (place + 1 + length spells.0) (place + length port) (omega (arith, ap length spells.1))

  -- what is refused behind the host
  pub record BadPortIn (place : ℕ) (text : List ℕ) (at : ℕ) : Type 0 where
    pub digits : List ℕ
    pub rest : List ℕ
    pub spelled : text ≡ 58 ∷ (digits ++ rest)
    pub numeral : IsNumeral 10 digits
    pub longest : NoDigit rest
    pub value : (digits_value 10 digits ≡ 0) ⊎ (65535 < digits_value 10 digits)
    pub is_at : at ≡ place + 1

  pub record TrailingIn (place : ℕ) (text : List ℕ) (at : ℕ) : Type 0 where
    pub port : List ℕ
    pub rest : List ℕ
    pub number : ℕ
    pub spelled : text ≡ port ++ rest
    pub of_port : SpellsPort scheme port number
    pub left : IsLeft port rest
    pub is_at : at ≡ place + length port

  abbrev pub PortRefused : ℕ → List ℕ → ℕ → OriginRefusal → Type 0
  PortRefused place text at BadScheme = ⊥
  PortRefused place text at BadHost = ⊥
  PortRefused place text at BadPort = BadPortIn place text at
  PortRefused place text at Trailing = TrailingIn place text at

  abbrev pub PortSays : ℕ → List ℕ → Result Origin (At OriginRefusal) → Type 0
  PortSays place text (Ok origin) = (origin ≡ with_port origin.port) × SpellsPort scheme text origin.port
  PortSays place text (Err at) = PortRefused place text at.place at.reason

  record Digits (bs : List ℕ) : Type 0 where
    digits : List ℕ
    rest : List ℕ
    spelled : bs ≡ digits ++ rest
    allowed : list_all is_ascii_digit digits ≡ true
    none : NoDigit rest

  digits_split : (bs : List ℕ) → Digits bs
  digits_split [] = record { digits = []; rest = []; spelled = refl; allowed = refl; none = tt }
  digits_split (b ∷ bs) = go (is_ascii_digit b) refl (digits_split bs)
    where
      go : (t : Bool) → is_ascii_digit b ≡ t → Digits bs → Digits (b ∷ bs)
      go false is rest = record { digits = []; rest = b ∷ bs; spelled = refl; allowed = refl; none = is }
      go true is rest = record { digits = b ∷ rest.digits; rest = rest.rest; spelled = ap (λ xs. b ∷ xs) rest.spelled; allowed = rw is rest.allowed; none = rest.none }

  -- the end, or what is left behind a port of at least a colon
  end_says : (place port : ℕ) (front rest : List ℕ) → SpellsPort scheme (58 ∷ front) port → NoDigit rest → PortSays place (58 ∷ (front ++ rest)) (at_end (with_port port) (place + length (58 ∷ front)) rest)
  end_says place port front [] spells none = (refl, subst (λ xs. SpellsPort scheme (58 ∷ xs) port) (sym (append-nil front)) spells)
  end_says place port front (b ∷ bs) spells none = record { port = 58 ∷ front; rest = b ∷ bs; number = port; spelled = refl; of_port = spells; left = none; is_at = refl }

  value_cases : (v : ℕ) → ((1 ≤ v) × (v < 2 ^ 16)) ⊎ ((v ≡ 0) ⊎ (65535 < v))
  value_cases v = go (nat_lt 0 v) (nat_lt v 65536) refl refl
    where
      go : (s t : Bool) → nat_lt 0 v ≡ s → nat_lt v 65536 ≡ t → ((1 ≤ v) × (v < 2 ^ 16)) ⊎ ((v ≡ 0) ⊎ (65535 < v))
      go false t is_s is_t = inr (inl (omega (arith, false_lt 0 v is_s)))
      go true false is_s is_t = inr (inr (omega (arith, false_lt v 65536 is_t)))
      go true true is_s is_t = inl (omega (arith, true_lt 0 v is_s), omega (arith, true_lt v 65536 is_t))

  colon_says : (place : ℕ) (digits rest : List ℕ) → list_all is_ascii_digit digits ≡ true → NoDigit rest → PortSays place (58 ∷ (digits ++ rest)) (read_port scheme host place (58 ∷ (digits ++ rest)))
  colon_says place [] rest allowed none =
      subst (PortSays place (58 ∷ rest)) (sym (lone_colon place rest none)) (end_says place (default_port_of scheme) [] rest (inl (inr refl, refl)) none)
  colon_says place (c ∷ cs) rest allowed none = go (value_cases (digits_value 10 (c ∷ cs)))
    where
      numeral : IsNumeral 10 (c ∷ cs)
      numeral = (omega arith, all_digits (c ∷ cs) allowed)

      moved : (n m : ℕ) → n + 1 + m ≡ n + suc m
      moved n m = omega arith

      go : ((1 ≤ digits_value 10 (c ∷ cs)) × (digits_value 10 (c ∷ cs) < 2 ^ 16)) ⊎ ((digits_value 10 (c ∷ cs) ≡ 0) ⊎ (65535 < digits_value 10 (c ∷ cs)))
          → PortSays place (58 ∷ ((c ∷ cs) ++ rest)) (read_port scheme host place (58 ∷ ((c ∷ cs) ++ rest)))
      go (inl good) =
          let reads = colon_port place (c ∷ cs) rest (digits_value 10 (c ∷ cs)) numeral none refl good.0 good.1
          ∙ ap (λ p. at_end (with_port (digits_value 10 (c ∷ cs))) p rest) (moved place (length (c ∷ cs))) in
          let spells : SpellsPort scheme (58 ∷ c ∷ cs) (digits_value 10 (c ∷ cs)) = inr ((c ∷ cs, refl, (numeral, refl), good.1), good.0) in
          subst (PortSays place (58 ∷ ((c ∷ cs) ++ rest))) (sym reads) (end_says place (digits_value 10 (c ∷ cs)) (c ∷ cs) rest spells none)
      go (inr bad) =
          subst (PortSays place (58 ∷ ((c ∷ cs) ++ rest))) (sym (port_refused place (c ∷ cs) rest numeral none bad))
          (record { digits = c ∷ cs; rest = rest; spelled = refl; numeral = numeral; longest = none; value = bad; is_at = refl })

  pub port_says : (place : ℕ) (text : List ℕ) → PortSays place text (read_port scheme host place text)
  port_says place [] = (refl, inl (inl refl, refl))
  port_says place (b ∷ bs) = go (nat_eq b 58) refl
    where
      at_colon : Digits bs → PortSays place (58 ∷ bs) (read_port scheme host place (58 ∷ bs))
      at_colon s = subst (λ xs. PortSays place (58 ∷ xs) (read_port scheme host place (58 ∷ xs))) (sym s.spelled) (colon_says place s.digits s.rest s.allowed s.none)

      plus_none : (n : ℕ) → n ≡ n + 0
      plus_none n = omega arith

      go : (t : Bool) → nat_eq b 58 ≡ t → PortSays place (b ∷ bs) (read_port scheme host place (b ∷ bs))
      go true is = subst (λ c. PortSays place (c ∷ bs) (read_port scheme host place (c ∷ bs))) (sym (true_eq b 58 is)) (at_colon (digits_split bs))
      go false is = rw is (record { port = []; rest = b ∷ bs; number = default_port_of scheme; spelled = refl; of_port = inl (inl refl, refl); left = false_eq b 58 is; is_at = plus_none place })
