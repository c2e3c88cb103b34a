-- The reading of a value of Alt-Used against its grammar.
use Rattle.std.proofs.Common.{◌≡◌, ◌≢◌, ◌⊎◌, ℕ, ◌+◌, Bool, true, false, cond, not, nat_eq, List, [], ◌∷◌, ◌++◌, length, Option, Some, None, option_map, Ok, refl, ap, sym, ◌∙◌, subst, arith, length-append, inl, inr}
use Rattle.std.proofs.Math.Seq.{take-append_seam, drop-append_seam}
use Rattle.std.specs.List.{list_any, list_all}
use Rattle.std.specs.Char.{is_ascii_digit}
use Rattle.std.proofs.lemmas.Bool.{or_parts, and_parts}
use Rattle.std.proofs.lemmas.List.{append-nil}
use Rattle.alt_base.proofs.Digits.{digits_all}
use Rattle.alt_base.proofs.Booleans.{contradicts}
use Rattle.alt_base.proofs.Numbers.{eq_false, true_eq}
use Rattle.field_text.specs.Runs.{AllIn, BeginsIn}
use Rattle.origin_values.specs.HostGrammar.{SpellsHost}
use Rattle.origin_values.specs.HostReading.{read_host}
use Rattle.origin_values.specs.OriginReading.{bracket_end, count_before, digits_before}
use Rattle.origin_values.specs.declared.host.Host.{Host}
use Rattle.origin_values.proofs.Hosts.{read_host_complete, read_host_sound}
use Rattle.altsvc_grammar.specs.Steps.{begins_with}
use Rattle.altsvc_grammar.specs.AuthorityReading.{read_port}
use Rattle.altsvc_grammar.specs.AuthorityGrammar.{SpellsPort}
use Rattle.altsvc_grammar.specs.UsedReading.{used_refused, used_host_end, used_at_end, used_port, used_digits, after_used_host, with_used_host, used_by_end, read_used}
use Rattle.altsvc_grammar.specs.UsedGrammar.{IsHostRun, SpellsUsedPort, SpellsUsed, IsBadHost, IsBadPort, IsLeft, IsUsedTrailing, UsedRefusedAt}
use Rattle.altsvc_grammar.specs.declared.refusal.UsedRefusal.{UsedRefusal}
use Rattle.altsvc_grammar.specs.declared.refusal.UsedRefusal.TheVariants.{BadHost, BadPort, Trailing}
use Rattle.altsvc_grammar.proofs.Fronts.{false_front, front_false}
use Rattle.altsvc_grammar.proofs.Authorities.{port_read, port_spelled}

-- how far the host goes
bracket_at : (inner tail : List ℕ) → list_any (λ b. nat_eq b 93) inner ≡ false → bracket_end ((inner ++ 93 ∷ []) ++ tail) ≡ Some (length inner + 1)
bracket_at [] tail h = refl
bracket_at (b ∷ bs) tail h =
    let t = or_parts (nat_eq b 93) (list_any (λ c. nat_eq c 93) bs) h in
    rw (t.0, bracket_at bs tail t.1) (ap Some (omega arith))

plain_at : (run tail : List ℕ) → list_any (λ b. nat_eq b 58) run ≡ false → (tail ≡ []) ⊎ ((more : List ℕ) × (tail ≡ 58 ∷ more)) → count_before (λ c. nat_eq c 58) (run ++ tail) ≡ length run
plain_at [] [] h e = refl
plain_at [] (b ∷ bs) h (inl e) = cc
plain_at [] (b ∷ bs) h (inr e) = ap (count_before (λ c. nat_eq c 58)) e.1
plain_at (b ∷ bs) tail h e =
    let t = or_parts (nat_eq b 58) (list_any (λ c. nat_eq c 58) bs) h in
    rw (t.0, plain_at bs tail t.1 e) (omega arith)

pub end_at : (run tail : List ℕ) → IsHostRun run tail → used_host_end (run ++ tail) ≡ Some (length run)
end_at run tail (inl b) =
    ap (λ xs. used_host_end (xs ++ tail)) b.spelled
    ∙ ap (option_map (λ n. n + 1)) (bracket_at b.inner tail b.first)
    ∙ ap Some (omega (arith, ap length b.spelled, length-append b.inner (93 ∷ [])))
end_at [] [] (inr p) = refl
end_at [] (b ∷ bs) (inr p) = go p.longest
  where
    go : (b ∷ bs ≡ []) ⊎ ((more : List ℕ) × (b ∷ bs ≡ 58 ∷ more)) → used_host_end (b ∷ bs) ≡ Some 0
    go (inl e) = cc
    go (inr e) = ap used_host_end e.1
end_at (b ∷ bs) tail (inr p) =
    let none : nat_eq b 91 ≡ false = front_false 91 (b ∷ bs) p.no_bracket in
    rw none (ap Some (plain_at (b ∷ bs) tail p.inside p.longest))

at_run : (run tail : List ℕ) → IsHostRun run tail → read_used (run ++ tail) ≡ with_used_host (length run) (run ++ tail) (read_host run)
at_run run tail is = ap (used_by_end (run ++ tail)) (end_at run tail is) ∙ ap (λ xs. with_used_host (length run) (run ++ tail) (read_host xs)) (take-append_seam run tail)

at_host : (run tail : List ℕ) (host : Host) → IsHostRun run tail → SpellsHost run host → read_used (run ++ tail) ≡ after_used_host host (length run) tail
at_host run tail host is s =
    at_run run tail is ∙ ap (with_used_host (length run) (run ++ tail)) (read_host_complete run host s) ∙ ap (after_used_host host (length run)) (drop-append_seam run tail)

-- the digits behind the colon
digits_at : (digits rest : List ℕ) → AllIn is_ascii_digit digits → (BeginsIn is_ascii_digit rest → ⊥) → digits_before (digits ++ rest) ≡ length digits
digits_at [] [] h none = refl
digits_at [] (b ∷ bs) h none = go (is_ascii_digit b) refl
  where
    go : (t : Bool) → is_ascii_digit b ≡ t → cond (not t) 0 (digits_before bs + 1) ≡ 0
    go true is = absurd (none is)
    go false is = refl
digits_at (b ∷ bs) rest h none = rw (h.0, digits_at bs rest h.1 none) (omega arith)

at_digits : (host : Host) (p : ℕ) (digits rest : List ℕ) → AllIn is_ascii_digit digits → (BeginsIn is_ascii_digit rest → ⊥)
    → after_used_host host p (58 ∷ (digits ++ rest)) ≡ used_port host (p + 1) (length digits) (digits ++ rest) (read_port digits)
at_digits host p digits rest h none =
    ap (λ n. used_digits host (p + 1) n (digits ++ rest)) (digits_at digits rest h none)
    ∙ ap (λ xs. used_port host (p + 1) (length digits) (digits ++ rest) (read_port xs)) (take-append_seam digits rest)

at_port : (host : Host) (p : ℕ) (digits rest : List ℕ) (port : ℕ) → AllIn is_ascii_digit digits → (BeginsIn is_ascii_digit rest → ⊥) → SpellsPort digits port
    → after_used_host host p (58 ∷ (digits ++ rest)) ≡ used_at_end host port (p + 1 + length digits) rest
at_port host p digits rest port h none s =
    at_digits host p digits rest h none ∙ ap (used_port host (p + 1) (length digits) (digits ++ rest)) (port_read digits port s) ∙ ap (used_at_end host port (p + 1 + length digits)) (drop-append_seam digits rest)

port_digits : (digits : List ℕ) (port : ℕ) → SpellsPort digits port → AllIn is_ascii_digit digits
port_digits digits port s = ascii digits (digits_all digits s.spelled.numeral.1)
  where
    ascii : (x : List ℕ) → list_all is_ascii_digit x ≡ true → AllIn is_ascii_digit x
    ascii [] h = tt
    ascii (b ∷ bs) h = let t = and_parts (is_ascii_digit b) (list_all is_ascii_digit bs) h in (t.0, ascii bs t.1)

tail_read : (host : Host) (p : ℕ) (tail : List ℕ) (port : ℕ) → SpellsUsedPort tail port → after_used_host host p tail ≡ Ok (host, port)
tail_read host p tail port (inl s) = rw (s.0, s.1) refl
tail_read host p tail port (inr s) =
    ap (after_used_host host p) (s.1 ∙ ap (λ xs. 58 ∷ xs) (sym (append-nil s.0)))
    ∙ at_port host p s.0 [] port (port_digits s.0 port s.2) (λ h. h) s.2

-- what is spelled is read
pub used_spelled : (x : List ℕ) (used : Host × ℕ) → SpellsUsed x used → read_used x ≡ Ok used
used_spelled x used s = ap read_used s.text ∙ at_host s.run s.tail used.0 s.is_run s.of_host ∙ tail_read used.0 (length s.run) s.tail used.1 s.of_port

-- each text has a host's run in front, or an open bracket
pub record RunFront (x : List ℕ) : Type 0 where
  pub run : List ℕ
  pub tail : List ℕ
  pub text : x ≡ run ++ tail
  pub is_run : IsHostRun run tail

record BracketFront (x : List ℕ) : Type 0 where
  inner : List ℕ
  tail : List ℕ
  text : x ≡ (inner ++ 93 ∷ []) ++ tail
  first : list_any (λ b. nat_eq b 93) inner ≡ false

bracket_front : (x : List ℕ) → (bracket_end x ≡ None) ⊎ BracketFront x
bracket_front [] = inl refl
bracket_front (b ∷ bs) = go (nat_eq b 93) refl (bracket_front bs)
  where
    go : (t : Bool) → nat_eq b 93 ≡ t → (bracket_end bs ≡ None) ⊎ BracketFront bs → (bracket_end (b ∷ bs) ≡ None) ⊎ BracketFront (b ∷ bs)
    go true is rest = inr (record { inner = []; tail = bs; text = ap (λ c. c ∷ bs) (true_eq b 93 is); first = refl })
    go false is (inl e) = inl (rw (is, e) refl)
    go false is (inr f) = inr (record { inner = b ∷ f.inner; tail = f.tail; text = ap (λ xs. b ∷ xs) f.text; first = rw is f.first })

record PlainFront (x : List ℕ) : Type 0 where
  run : List ℕ
  tail : List ℕ
  text : x ≡ run ++ tail
  inside : list_any (λ b. nat_eq b 58) run ≡ false
  longest : (tail ≡ []) ⊎ ((more : List ℕ) × (tail ≡ 58 ∷ more))

plain_front : (x : List ℕ) → PlainFront x
plain_front [] = record { run = []; tail = []; text = refl; inside = refl; longest = inl refl }
plain_front (b ∷ bs) = go (nat_eq b 58) refl (plain_front bs)
  where
    go : (t : Bool) → nat_eq b 58 ≡ t → PlainFront bs → PlainFront (b ∷ bs)
    go true is f = record { run = []; tail = b ∷ bs; text = refl; inside = refl; longest = inr (bs, ap (λ c. c ∷ bs) (true_eq b 58 is)) }
    go false is f = record { run = b ∷ f.run; tail = f.tail; text = ap (λ xs. b ∷ xs) f.text; inside = rw is f.inside; longest = f.longest }

front_bracket : (x run tail : List ℕ) → x ≡ run ++ tail → begins_with 91 x ≡ false → (more : List ℕ) → run ≢ 91 ∷ more
front_bracket x run tail e h more begins = false_front 91 x h (more ++ tail) (e ∙ ap (λ xs. xs ++ tail) begins)

pub run_front : (x : List ℕ) → (used_host_end x ≡ None) ⊎ RunFront x
run_front [] = inr (record { run = []; tail = []; text = refl; is_run = inr (record { inside = refl; no_bracket = λ more e. cc; longest = inl refl }) })
run_front (b ∷ bs) = go (nat_eq b 91) refl
  where
    closed : nat_eq b 91 ≡ true → (bracket_end bs ≡ None) ⊎ BracketFront bs → (used_host_end (b ∷ bs) ≡ None) ⊎ RunFront (b ∷ bs)
    closed is (inl e) = inl (rw (is, e) refl)
    closed is (inr f) = inr (record { run = 91 ∷ (f.inner ++ 93 ∷ []); tail = f.tail; text = ap (λ c. c ∷ bs) (true_eq b 91 is) ∙ ap (λ xs. 91 ∷ xs) f.text; is_run = inl (record { inner = f.inner; spelled = refl; first = f.first }) })

    go : (t : Bool) → nat_eq b 91 ≡ t → (used_host_end (b ∷ bs) ≡ None) ⊎ RunFront (b ∷ bs)
    go true is = closed is (bracket_front bs)
    go false is =
        let f = plain_front (b ∷ bs) in
        inr (record { run = f.run; tail = f.tail; text = f.text; is_run = inr (record { inside = f.inside; no_bracket = front_bracket (b ∷ bs) f.run f.tail f.text is; longest = f.longest }) })

no_host_at : (x run tail : List ℕ) → x ≡ run ++ tail → IsHostRun run tail → read_host run ≡ None → read_used x ≡ used_refused 0 BadHost
no_host_at x run tail text is none = ap read_used text ∙ at_run run tail is ∙ ap (with_used_host (length run) (run ++ tail)) none

bad_host_read : (x : List ℕ) (q : ℕ) → IsBadHost x q → read_used x ≡ used_refused q BadHost
bad_host_read x q s = go (run_front x) ∙ ap (λ k. used_refused k BadHost) (sym s.place)
  where
    host : (f : RunFront x) (r : Option Host) → read_host f.run ≡ r → read_used x ≡ used_refused 0 BadHost
    host f None is = no_host_at x f.run f.tail f.text f.is_run is
    host f (Some found) is = absurd (s.none f.run f.tail found f.text f.is_run (read_host_sound f.run found is))

    go : (used_host_end x ≡ None) ⊎ RunFront x → read_used x ≡ used_refused 0 BadHost
    go (inl e) = ap (used_by_end x) e
    go (inr f) = host f (read_host f.run) refl

bad_port_read : (x : List ℕ) (q : ℕ) → IsBadPort x q → read_used x ≡ used_refused q BadPort
bad_port_read x q s =
    let tail = 58 ∷ (s.digits ++ s.rest) in
    let here : length s.run + 1 ≡ q = omega (arith, s.place, ap length s.text, length-append s.run tail) in
    ap read_used s.text ∙ at_host s.run tail s.host s.is_run s.of_host ∙ at_digits s.host (length s.run) s.digits s.rest s.are_digits s.longest
    ∙ ap (used_port s.host (length s.run + 1) (length s.digits) (s.digits ++ s.rest)) (no_port s.digits s.none) ∙ ap (λ k. used_refused k BadPort) here
  where
    no_port : (digits : List ℕ) → ((port : ℕ) → SpellsPort digits port → ⊥) → read_port digits ≡ None
    no_port digits none = go (read_port digits) refl
      where
        go : (r : Option ℕ) → read_port digits ≡ r → r ≡ None
        go None is = refl
        go (Some port) is = absurd (none port (port_spelled digits port is))

left_alone : (host : Host) (p : ℕ) (rest : List ℕ) → IsLeft [] rest → after_used_host host p rest ≡ used_refused p Trailing
left_alone host p [] h = absurd h
left_alone host p (b ∷ bs) h = rw (eq_false b 58 h) refl

left_digits : (rest port_text : List ℕ) (c : ℕ) → IsLeft (c ∷ port_text) rest → BeginsIn is_ascii_digit rest → ⊥
left_digits [] port_text c h k = h
left_digits (b ∷ bs) port_text c h k = contradicts (is_ascii_digit b) k h

left_end : (host : Host) (port p : ℕ) (rest port_text : List ℕ) (c : ℕ) → IsLeft (c ∷ port_text) rest → used_at_end host port p rest ≡ used_refused p Trailing
left_end host port p [] port_text c h = absurd h
left_end host port p (b ∷ bs) port_text c h = refl

left_read : (host : Host) (p : ℕ) (port_text rest : List ℕ) (port : ℕ) → SpellsUsedPort port_text port → IsLeft port_text rest → after_used_host host p (port_text ++ rest) ≡ used_refused (p + length port_text) Trailing
left_read host p port_text rest port (inl s) left =
    let alone : IsLeft [] rest = subst (λ xs. IsLeft xs rest) s.0 left in
    ap (λ xs. after_used_host host p (xs ++ rest)) s.0 ∙ left_alone host p rest alone ∙ ap (λ k. used_refused k Trailing) (omega (arith, ap length s.0))
left_read host p port_text rest port (inr s) left =
    let behind : IsLeft (58 ∷ s.0) rest = subst (λ xs. IsLeft xs rest) s.1 left in
    ap (λ xs. after_used_host host p (xs ++ rest)) s.1
    ∙ at_port host p s.0 rest port (port_digits s.0 port s.2) (left_digits rest s.0 58 behind) s.2
    ∙ left_end host port (p + 1 + length s.0) rest s.0 58 behind ∙ ap (λ k. used_refused k Trailing) (omega (arith, ap length s.1))

trailing_read : (x : List ℕ) (q : ℕ) → IsUsedTrailing x q → read_used x ≡ used_refused q Trailing
trailing_read x q s =
    let here : length s.run + length s.port_text ≡ q = omega (arith, s.place, ap length s.text, length-append s.run (s.port_text ++ s.rest), length-append s.port_text s.rest) in
    ap read_used s.text ∙ at_host s.run (s.port_text ++ s.rest) s.host s.is_run s.of_host ∙ left_read s.host (length s.run) s.port_text s.rest s.port s.of_port s.left
    ∙ ap (λ k. used_refused k Trailing) here

-- what the table refuses is refused
pub used_refusals : (x : List ℕ) (q : ℕ) (r : UsedRefusal) → UsedRefusedAt x q r → read_used x ≡ used_refused q r
used_refusals x q BadHost h = bad_host_read x q h
used_refusals x q BadPort h = bad_port_read x q h
used_refusals x q Trailing h = trailing_read x q h
