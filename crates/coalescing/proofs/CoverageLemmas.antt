-- The tests of covering against RFC 9525's words.
use Rattle.std.proofs.Common.{◌≡◌, ◌≢◌, ℕ, Bool, true, false, cond, not, nat_eq, List, [], ◌∷◌, ◌++◌, ◌↔◌, refl, ap, sym, ◌∙◌}
use Rattle.std.specs.Cmp.Lexicographic.{pointwise}
use Rattle.std.proofs.lemmas.List.Folds.{Any-from_list_any, list_any-from_Any}
use Rattle.origin_values.specs.declared.address.Addr.TheVariants.{V4 as IpV4, V6 as IpV6}
use Rattle.origin_values.specs.declared.host.Host.{Host}
use Rattle.origin_values.specs.declared.host.Host.TheVariants.{Name, V4, V6}
use Rattle.coalescing.specs.declared.cert_name.CertName.{CertName}
use Rattle.coalescing.specs.declared.cert_name.CertName.TheVariants.{Exact, Wild, Ip}
use Rattle.coalescing.specs.Covers.{covers, covers_host, adds_one_label, behind_dot}
use Rattle.coalescing.specs.Coverage.{IsLabelBefore, CoversHost, CoverHost}
use Rattle.coalescing.proofs.Apart.{Without, without_nil, without_cons, without_tail, without_head}
use Rattle.alt_base.proofs.Conjunctions.{both}
use Rattle.alt_base.proofs.Numbers.{true_eq}
use Rattle.alt_base.proofs.Lists.{true_text, text_self}
use Rattle.std.proofs.lemmas.Bool.{not-true}

-- the first dot of a text and what stands behind it
abbrev Cut : List ℕ → List ℕ → Type 0
Cut text base = (front : List ℕ) × Without 46 front × (text ≡ front ++ 46 ∷ base)

cut_from_test : (text base : List ℕ) → behind_dot text base ≡ true → Cut text base
cut_from_test [] base h = cc
cut_from_test (b ∷ bs) base h = go (λ e. cut_from_test bs base e) (nat_eq b 46) refl h
  where
    go : (behind_dot bs base ≡ true → Cut bs base) → (t : Bool) → nat_eq b 46 ≡ t → cond t (pointwise nat_eq bs base) (behind_dot bs base) ≡ true → Cut (b ∷ bs) base
    go later true is e =
        let dot = true_eq b 46 is in
        let rest = true_text bs base e in
        ([], without_nil 46, cc)
    go later false is e =
        let s = later e in
        (b ∷ s.0, without_cons 46 b s.0 is s.1, ap (λ xs. b ∷ xs) s.2)

test_from_cut : (front base : List ℕ) → Without 46 front → behind_dot (front ++ 46 ∷ base) base ≡ true
test_from_cut [] base h = text_self base
test_from_cut (b ∷ front) base h = rw (without_head 46 b front h) (test_from_cut front base (without_tail 46 b front h))

label_from_test : (name base : List ℕ) → adds_one_label name base ≡ true → IsLabelBefore name base
label_from_test [] base h = cc
label_from_test (b ∷ bs) base h =
    let t = both (not (nat_eq b 46)) (behind_dot bs base) h in
    let s = cut_from_test bs base t.1 in
    record {
      label = b ∷ s.0;
      some = λ e. cc;
      no_dot = without_cons 46 b s.0 (not-true (nat_eq b 46) t.0) s.1;
      spelled = ap (λ xs. b ∷ xs) s.2;
    }

test_from_label : (name base label : List ℕ) → label ≢ [] → Without 46 label → name ≡ label ++ 46 ∷ base → adds_one_label name base ≡ true
test_from_label name base [] some no_dot spelled = absurd (some refl)
test_from_label name base (b ∷ label) some no_dot spelled =
    ap (λ xs. adds_one_label xs base) spelled
    ∙ rw (without_head 46 b label no_dot) (test_from_cut label base (without_tail 46 b label no_dot))

covers_from_test : (name : CertName) (host : Host) → covers_host name host ≡ true → CoversHost name host
covers_from_test (Exact exact) (Name name) h = ap Name (sym (true_text exact name h))
covers_from_test (Exact exact) (V4 bytes) h = cc
covers_from_test (Exact exact) (V6 bytes) h = cc
covers_from_test (Wild base) (Name name) h = (name, refl, label_from_test name base h)
covers_from_test (Wild base) (V4 bytes) h = cc
covers_from_test (Wild base) (V6 bytes) h = cc
covers_from_test (Ip (IpV4 ours)) (Name name) h = cc
covers_from_test (Ip (IpV4 ours)) (V4 theirs) h = ap V4 (sym (true_text ours theirs h))
covers_from_test (Ip (IpV4 ours)) (V6 theirs) h = cc
covers_from_test (Ip (IpV6 ours)) (Name name) h = cc
covers_from_test (Ip (IpV6 ours)) (V4 theirs) h = cc
covers_from_test (Ip (IpV6 ours)) (V6 theirs) h = ap V6 (sym (true_text ours theirs h))

test_from_covers : (name : CertName) (host : Host) → CoversHost name host → covers_host name host ≡ true
test_from_covers (Exact exact) host h = ap (covers_host (Exact exact)) h ∙ text_self exact
test_from_covers (Wild base) host h = ap (covers_host (Wild base)) h.1 ∙ test_from_label h.0 base h.2.label h.2.some h.2.no_dot h.2.spelled
test_from_covers (Ip (IpV4 bytes)) host h = ap (covers_host (Ip (IpV4 bytes))) h ∙ text_self bytes
test_from_covers (Ip (IpV6 bytes)) host h = ap (covers_host (Ip (IpV6 bytes))) h ∙ text_self bytes

pub covering_of_one : (name : CertName) (host : Host) → (covers_host name host ≡ true) ↔ CoversHost name host
covering_of_one name host = (λ h. covers_from_test name host h, λ h. test_from_covers name host h)

some_from_test : (names : List CertName) (host : Host) → covers names host ≡ true → CoverHost names host
some_from_test names host h =
    let s = Any-from_list_any (λ name. covers_host name host) names h in
    (s.0, s.1, s.2, s.3, covers_from_test s.1 host s.4)

test_from_some : (names : List CertName) (host : Host) → CoverHost names host → covers names host ≡ true
test_from_some names host h = list_any-from_Any (λ name. covers_host name host) names (h.0, h.1, h.2, h.3, test_from_covers h.1 host h.4)

pub covering_of_some : (names : List CertName) (host : Host) → (covers names host ≡ true) ↔ CoverHost names host
covering_of_some names host = (λ h. some_from_test names host h, λ h. test_from_some names host h)
