-- The text that a value of Alt-Used is written as spells it.
use Rattle.std.proofs.Common.{◌≡◌, ◌≢◌, ◌⊎◌, ℕ, ◌≤◌, ◌==◌, Bool, true, false, cond, nat_eq, List, [], ◌∷◌, ◌++◌, codes, refl, ap, arith, inl, inr}
use Rattle.std.specs.List.{list_any}
use Rattle.std.specs.Fmt.{decimal}
use Rattle.alt_base.proofs.Booleans.{contradicts}
use Rattle.alt_base.proofs.Numbers.{true_eq}
use Rattle.origin_values.specs.Valid.{IsHost}
use Rattle.origin_values.specs.Written.{host_text, v6_text}
use Rattle.origin_values.specs.declared.host.Host.{Host}
use Rattle.origin_values.specs.declared.host.Host.TheVariants.{Name, V4, V6}
use Rattle.origin_values.proofs.AddressTexts.{v6_written}
use Rattle.origin_values.proofs.HostTexts.{host_written}
use Rattle.altsvc_grammar.specs.Written.{used_text}
use Rattle.altsvc_grammar.specs.UsedGrammar.{IsHostRun, SpellsUsed}
use Rattle.altsvc_grammar.proofs.QuotedHosts.{name_without, dotted_without, hex_without}
use Rattle.altsvc_grammar.proofs.WrittenValues.{port_spelled}

no_bracket : (text : List ℕ) → list_any (λ b. nat_eq b 91) text ≡ false → (more : List ℕ) → text ≢ 91 ∷ more
no_bracket text h more e = contradicts (list_any (λ b. nat_eq b 91) text) (ap (list_any (λ b. nat_eq b 91)) e) h

run_written : (host : Host) (tail : List ℕ) → IsHost host → (tail ≡ []) ⊎ ((more : List ℕ) × (tail ≡ 58 ∷ more)) → IsHostRun (host_text host) tail
run_written (Name name) tail valid longest = inr (record {
  inside = name_without 58 name name refl refl valid;
  no_bracket = no_bracket name (name_without 91 name name refl refl valid);
  longest = longest;
})
run_written (V4 bytes) tail valid longest =
    let s = host_written (V4 bytes) valid in
    inr (record {
      inside = dotted_without 58 (host_text (V4 bytes)) bytes (λ h. omega arith) refl s;
      no_bracket = no_bracket (host_text (V4 bytes)) (dotted_without 91 (host_text (V4 bytes)) bytes (λ h. omega arith) refl s);
      longest = longest;
    })
run_written (V6 bytes) tail valid longest =
    let s = v6_written bytes valid in
    inl (record { inner = v6_text bytes; spelled = refl; first = hex_without 93 (v6_text bytes) s.groups (λ h. omega arith) refl refl s.spelled })

abbrev port_part : ℕ → List ℕ
port_part port = cond (port == 443) [] (codes ":" ++ decimal port)

-- the text that is written spells the host and the port
pub used_written : (host : Host) (port : ℕ) → IsHost host → 1 ≤ port → port ≤ 65535 → SpellsUsed (used_text host port) (host, port)
used_written host port valid some fits = go (port == 443) refl
  where
    go : (t : Bool) → (port == 443) ≡ t → SpellsUsed (host_text host ++ cond t [] (codes ":" ++ decimal port)) (host, port)
    go true is = record { run = host_text host; tail = []; text = refl; is_run = run_written host [] valid (inl refl); of_host = host_written host valid; of_port = inl (refl, true_eq port 443 is) }
    go false is = record { run = host_text host; tail = 58 ∷ decimal port; text = refl; is_run = run_written host (58 ∷ decimal port) valid (inr (decimal port, refl)); of_host = host_written host valid; of_port = inr (decimal port, refl, port_spelled port some fits) }
