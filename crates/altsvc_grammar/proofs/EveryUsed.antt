-- Each text is exactly one value of Alt-Used or one refusal.
use Rattle.std.proofs.Common.{◌≡◌, ◌⊎◌, ℕ, ◌-◌, Bool, true, false, nat_eq, List, [], ◌∷◌, ◌++◌, length, take, Option, Some, None, Result, Ok, Err, IfOk, refl, ap, ap₂, sym, ◌∙◌, subst, arith, length-append, inl, inr}
use Rattle.std.specs.Char.{is_ascii_digit}
use Rattle.std.proofs.Math.Seq.{take-append_seam}
use Rattle.std.proofs.lemmas.List.{append-nil}
use Rattle.alt_base.proofs.Numbers.{true_eq, false_eq}
use Rattle.altsvc_grammar.proofs.Fronts.{not_begun}
use Rattle.alt_base.specs.declared.refusal.At.{At}
use Rattle.alt_base.specs.declared.refusal.Refused as Fails
use Rattle.alt_base.specs.declared.refusal.Refused.TheVariants as fails
use Rattle.field_text.specs.Runs.{IsLongestRun, run_of, after_run}
use Rattle.field_text.proofs.RunLemmas.{longest_run}
use Rattle.alt_base.specs.Answers.{Answers, IfRefused}
use Rattle.origin_values.specs.HostGrammar.{SpellsHost}
use Rattle.origin_values.specs.HostReading.{read_host}
use Rattle.origin_values.specs.declared.host.Host.{Host}
use Rattle.origin_values.proofs.Hosts.{read_host_complete, read_host_sound}
use Rattle.altsvc_grammar.specs.AuthorityReading.{read_port}
use Rattle.altsvc_grammar.specs.AuthorityGrammar.{SpellsPort}
use Rattle.altsvc_grammar.specs.UsedReading.{used_host_end, read_used}
use Rattle.altsvc_grammar.specs.UsedGrammar.{IsHostRun, SpellsUsed, UsedRefusedAt, OneUsed}
use Rattle.altsvc_grammar.specs.declared.refusal.UsedRefusal.{UsedRefusal}
use Rattle.altsvc_grammar.specs.declared.refusal.UsedRefusal.TheVariants.{BadHost, BadPort, Trailing}
use Rattle.altsvc_grammar.proofs.Authorities.{port_read, port_spelled}
use Rattle.altsvc_grammar.proofs.UsedValues.{RunFront, run_front, end_at, used_spelled, used_refusals}

abbrev Some_used : List ℕ → Type 0
Some_used x = ((used : Host × ℕ) × SpellsUsed x used) ⊎ ((q : ℕ) × (r : UsedRefusal) × UsedRefusedAt x q r)

-- the run is one alone
same_run : (x run tail run' tail' : List ℕ) → x ≡ run ++ tail → x ≡ run' ++ tail' → IsHostRun run tail → IsHostRun run' tail' → run ≡ run'
same_run x run tail run' tail' e e' is is' =
    let here : used_host_end x ≡ Some (length run) = ap used_host_end e ∙ end_at run tail is in
    let there : used_host_end x ≡ Some (length run') = ap used_host_end e' ∙ end_at run' tail' is' in
    let same : length run ≡ length run' = cc in
    sym (take-append_seam run tail) ∙ ap₂ take same (sym e ∙ e') ∙ take-append_seam run' tail'

digits_answer : (x run bs : List ℕ) (host : Host) → x ≡ run ++ 58 ∷ bs → IsHostRun run (58 ∷ bs) → SpellsHost run host → Some_used x
digits_answer x run bs host text is s = go (run_of is_ascii_digit bs) (after_run is_ascii_digit bs) (longest_run is_ascii_digit bs)
  where
    ported : (digits rest : List ℕ) (port : ℕ) → IsLongestRun is_ascii_digit bs digits rest → SpellsPort digits port → Some_used x
    ported digits [] port r spelled =
        let whole : x ≡ run ++ 58 ∷ digits = text ∙ ap (λ xs. run ++ 58 ∷ xs) (r.text ∙ append-nil digits) in
        let is' : IsHostRun run (58 ∷ digits) = subst (λ xs. IsHostRun run (58 ∷ xs)) (r.text ∙ append-nil digits) is in
        inl ((host, port), record { run = run; tail = 58 ∷ digits; text = whole; is_run = is'; of_host = s; of_port = inr (digits, refl, spelled) })
    ported digits (c ∷ cs) port r spelled =
        inr (
          length x - length (c ∷ cs),
          Trailing,
          record {
            run = run;
            port_text = 58 ∷ digits;
            rest = c ∷ cs;
            host = host;
            port = port;
            text = text ∙ ap (λ xs. run ++ 58 ∷ xs) r.text;
            is_run = subst (λ xs. IsHostRun run (58 ∷ xs)) r.text is;
            of_host = s;
            of_port = inr (digits, refl, spelled);
            left = not_begun is_ascii_digit c cs r.longest;
            place = omega (arith, ap length text, length-append run (58 ∷ bs), ap length r.text, length-append digits (c ∷ cs));
          },
        )

    go : (digits rest : List ℕ) → IsLongestRun is_ascii_digit bs digits rest → Some_used x
    go digits rest r = port (read_port digits) refl
      where
        port : (o : Option ℕ) → read_port digits ≡ o → Some_used x
        port None none = inr (
          length x - length (digits ++ rest),
          BadPort,
          record {
            run = run;
            digits = digits;
            rest = rest;
            host = host;
            text = text ∙ ap (λ xs. run ++ 58 ∷ xs) r.text;
            is_run = subst (λ xs. IsHostRun run (58 ∷ xs)) r.text is;
            of_host = s;
            are_digits = r.valid;
            longest = r.longest;
            none = λ p sp. let e = port_read digits p sp in cc;
            place = omega (arith, ap length text, length-append run (58 ∷ bs), ap length r.text);
          },
        )
        port (Some p) some = ported digits rest p r (port_spelled digits p some)

host_answer : (x run tail : List ℕ) (host : Host) → x ≡ run ++ tail → IsHostRun run tail → SpellsHost run host → Some_used x
host_answer x run [] host text is s = inl ((host, 443), record { run = run; tail = []; text = text; is_run = is; of_host = s; of_port = inl (refl, refl) })
host_answer x run (b ∷ bs) host text is s = go (nat_eq b 58) refl
  where
    go : (t : Bool) → nat_eq b 58 ≡ t → Some_used x
    go true e =
        let colon = ap (λ c. c ∷ bs) (true_eq b 58 e) in
        digits_answer x run bs host (text ∙ ap (λ xs. run ++ xs) colon) (subst (IsHostRun run) colon is) s
    go false e = inr (
      length x - length (b ∷ bs),
      Trailing,
      record {
        run = run;
        port_text = [];
        rest = b ∷ bs;
        host = host;
        port = 443;
        text = text;
        is_run = is;
        of_host = s;
        of_port = inl (refl, refl);
        left = false_eq b 58 e;
        place = omega (arith, ap length text, length-append run (b ∷ bs));
      },
    )

pub used_answer : (x : List ℕ) → Some_used x
used_answer x = go (run_front x)
  where
    host : (f : RunFront x) (r : Option Host) → read_host f.run ≡ r → Some_used x
    host f None none = inr (0, BadHost, record { none = λ run tail h text is s. clash f none run tail h text is s; place = refl })
      where
        clash : (f : RunFront x) → read_host f.run ≡ None → (run tail : List ℕ) (h : Host) → x ≡ run ++ tail → IsHostRun run tail → SpellsHost run h → ⊥
        clash f none run tail h text is s =
            let same = same_run x f.run f.tail run tail f.text text f.is_run is in
            let some = read_host_complete run h s in
            let e : read_host run ≡ None = ap read_host (sym same) ∙ none in
            cc
    host f (Some found) some = host_answer x f.run f.tail found f.text f.is_run (read_host_sound f.run found some)

    go : (used_host_end x ≡ None) ⊎ RunFront x → Some_used x
    go (inl e) = inr (0, BadHost, record { none = λ run tail h text is s. let there = ap used_host_end text ∙ end_at run tail is in cc; place = refl })
    go (inr f) = host f (read_host f.run) refl

abbrev err_of : At UsedRefusal → Result (Host × ℕ) (At UsedRefusal)
err_of a = Err a

abbrev ok_of : Host × ℕ → Result (Host × ℕ) (At UsedRefusal)
ok_of v = Ok v

same_at : (a b : At UsedRefusal) → err_of a ≡ err_of b → (a.place ≡ b.place) × (a.reason ≡ b.reason)
same_at a b e = let h : a ≡ b = cc in (ap (λ (x : At UsedRefusal). x.place) h, ap (λ (x : At UsedRefusal). x.reason) h)

-- what is read is so spelled
pub used_read_spelled : (x : List ℕ) (v : Host × ℕ) → read_used x ≡ Ok v → SpellsUsed x v
used_read_spelled x v h = go (used_answer x)
  where
    go : Some_used x → SpellsUsed x v
    go (inl s) = let e : ok_of s.0 ≡ ok_of v = sym (used_spelled x s.0 s.1) ∙ h in let same : s.0 ≡ v = cc in subst (SpellsUsed x) same s.1
    go (inr s) = let e : err_of (record { place = s.0; reason = s.1 }) ≡ ok_of v = sym (used_refusals x s.0 s.1 s.2) ∙ h in cc

-- and what is refused is so refused
pub used_read_refused : (x : List ℕ) (at : At UsedRefusal) → read_used x ≡ Err at → UsedRefusedAt x at.place at.reason
used_read_refused x at h = go (used_answer x)
  where
    go : Some_used x → UsedRefusedAt x at.place at.reason
    go (inl s) = let e : ok_of s.0 ≡ err_of at = sym (used_spelled x s.0 s.1) ∙ h in cc
    go (inr s) =
        let e : err_of (record { place = s.0; reason = s.1 }) ≡ err_of at = sym (used_refusals x s.0 s.1 s.2) ∙ h in
        let same = same_at (record { place = s.0; reason = s.1 }) at e in
        let P : ℕ → Type 0 = λ q. UsedRefusedAt x q s.1 in
        let Q : UsedRefusal → Type 0 = λ r. UsedRefusedAt x at.place r in
        subst Q same.1 (subst P same.0 s.2)

pub one_used_of : (x : List ℕ) → OneUsed x
one_used_of x = record {
  some = used_answer x;
  one_value = λ v w a b. let e : ok_of v ≡ ok_of w = sym (used_spelled x v a) ∙ used_spelled x w b in cc;
  one_refusal = λ q q' r r' a b. same_at (record { place = q; reason = r }) (record { place = q'; reason = r' }) (sym (used_refusals x q r a) ∙ used_refusals x q' r' b);
  not_both = λ v q r a b. let e : ok_of v ≡ err_of (record { place = q; reason = r }) = sym (used_spelled x v a) ∙ used_refusals x q r b in cc;
}

pub gives_used : (x : List ℕ) (r : Result (Host × ℕ) (Fails.Refused UsedRefusal)) → Answers r (read_used x) → IfOk r (λ v. SpellsUsed x v)
gives_used x (Ok v) h = used_read_spelled x v h
gives_used x (Err fails.NoMemory) h = tt
gives_used x (Err (fails.At place reason)) h = tt

pub gives_used_refused : (x : List ℕ) (r : Result (Host × ℕ) (Fails.Refused UsedRefusal)) → Answers r (read_used x) → IfRefused r (λ place reason. UsedRefusedAt x place reason)
gives_used_refused x (Ok v) h = tt
gives_used_refused x (Err fails.NoMemory) h = tt
gives_used_refused x (Err (fails.At place reason)) h = used_read_refused x (record { place = place; reason = reason }) h
