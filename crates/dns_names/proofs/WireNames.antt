-- What is read from the wire is a name, and a name is read back.
use Rattle.std.proofs.Common.{◌≡◌, ℕ, ◌+◌, List, [], ◌∷◌, ◌++◌, length, Result, Ok, Err, refl, ap, sym, ◌∙◌, subst, arith}
use Rattle.std.proofs.lemmas.List.{append-nil}
use Rattle.dns_names.specs.declared.refusal.NameRefusal.{NameRefusal}
use Rattle.alt_base.specs.declared.refusal.Refused.{Refused}
use Rattle.alt_base.specs.declared.refusal.Refused.TheVariants.{NoMemory, At as RefusedThere}
use Rattle.alt_base.specs.Answers.{refused, Answers, IfRefused}
use Rattle.dns_names.specs.Names.{AreBytes, labels_octets, wire_form, IsName}
use Rattle.dns_names.specs.WireGrammar.{SpellsWire, SpellsUpTo, WireRefusedAt}
use Rattle.dns_names.specs.WireReading.{read_wire}
use Rattle.dns_names.proofs.WireSays.{Says, wire_says}
use Rattle.dns_names.proofs.WireSpelled.{spelled_reads}
use Rattle.dns_names.proofs.NamesOf.{is_name, name_begins, labels_lower}
use Rattle.dns_names.proofs.Bytes.{bytes_front}

pub read_says : (p q : ℕ) (x : List ℕ) (name : List (List ℕ)) → read_wire p x ≡ Ok (name, q) → SpellsUpTo p x name q
read_says p q x name e = subst (Says p x) e (wire_says p x)

pub refusal_says : (p q : ℕ) (reason : NameRefusal) (x : List ℕ) → read_wire p x ≡ refused q reason → WireRefusedAt p x q reason
refusal_says p q reason x e = subst (Says p x) e (wire_says p x)

pub spelled_name : (octets : List ℕ) (name : List (List ℕ)) → AreBytes octets → SpellsWire octets name → IsName name
spelled_name octets name bytes s =
    subst IsName (sym s.lower) (is_name s.labels s.begin (bytes_front (labels_octets s.labels) (0 ∷ []) (subst AreBytes s.whole bytes)))

pub read_name : (p q : ℕ) (x : List ℕ) (name : List (List ℕ)) → AreBytes x → read_wire p x ≡ Ok (name, q) → IsName name
read_name p q x name bytes e =
    let s = read_says p q x name e in
    spelled_name s.front name (bytes_front s.front s.spelled.rest (subst AreBytes s.spelled.split bytes)) s.spelled.spelled

pub name_spelled : (name : List (List ℕ)) → IsName name → SpellsWire (wire_form name) name
name_spelled name h = record { labels = name; begin = name_begins name h; whole = refl; lower = sym (labels_lower name h.labels_are) }

pub name_read : (p : ℕ) (name : List (List ℕ)) (rest : List ℕ) → IsName name → read_wire p (wire_form name ++ rest) ≡ Ok (name, p + length (wire_form name))
name_read p name rest h =
    spelled_reads p (p + length (wire_form name)) (wire_form name ++ rest) name (record {
      front = wire_form name;
      spelled = record { rest = rest; split = refl; spelled = name_spelled name h };
      end = refl;
    })

-- what was written is read back whole
pub written_read : (name : List (List ℕ)) (octets : List ℕ) → IsName name → octets ≡ wire_form name → read_wire 0 octets ≡ Ok (name, length octets)
written_read name octets h e = subst (λ xs. read_wire 0 xs ≡ Ok (name, length xs)) (append-nil (wire_form name) ∙ sym e) (at_zero (length (wire_form name ++ [])) (length (wire_form name)) (ap length (append-nil (wire_form name))) (name_read 0 name [] h))
  where
    at_zero : (n m : ℕ) → n ≡ m → read_wire 0 (wire_form name ++ []) ≡ Ok (name, 0 + m) → read_wire 0 (wire_form name ++ []) ≡ Ok (name, n)
    at_zero n m same read = read ∙ ap (λ k. Ok (name, k)) (omega (arith, same))

-- a refusal that is answered is one of the table
pub refused_by : (r : Result (List (List ℕ) × ℕ) (Refused NameRefusal)) (p : ℕ) (x : List ℕ) → Answers r (read_wire p x) → IfRefused r (WireRefusedAt p x)
refused_by (Ok value) p x h = tt
refused_by (Err NoMemory) p x h = tt
refused_by (Err (RefusedThere place reason)) p x h = refusal_says p place reason x h
