-- The reading of origins against their grammar.
use Rattle.std.proofs.Common.{◌≡◌, ◌⊎◌, ℕ, ◌+◌, List, ◌∷◌, ◌++◌, length, take, drop, Option, Some, None, Result, Ok, Err, refl, ap, sym, ◌∙◌, subst, inl, inr}
use Rattle.alt_base.specs.declared.refusal.At.{At}
use Rattle.origin_values.specs.OriginGrammar.{SpellsScheme, IsRun, SpellsRun, SpellsOrigin, IsBadHost, OriginRefusedAt, OneOrigin}
use Rattle.origin_values.specs.OriginReading.{host_end, read_run, read_port, host_then_port, read_run_of, read_rest, read_origin, refusal_at}
use Rattle.origin_values.specs.declared.scheme.Scheme.{Scheme}
use Rattle.origin_values.specs.declared.host.Host.{Host}
use Rattle.origin_values.specs.declared.origin.Origin.{Origin}
use Rattle.origin_values.specs.declared.refusal.OriginRefusal.{OriginRefusal}
use Rattle.origin_values.specs.declared.refusal.OriginRefusal.TheVariants.{BadScheme, BadHost, BadPort, Trailing}
use Rattle.origin_values.proofs.PortTexts.{port_complete, port_refused, port_trailing, port_says, PortSays, PortRefused}
use Rattle.origin_values.proofs.Runs.{run_end, run_found, run_complete, run_sound}
use Rattle.origin_values.proofs.Schemes.{scheme_reads, scheme_found, HasScheme, HasNoScheme}
use Rattle.std.proofs.Math.Seq.{take-append_seam, drop-append_seam}
use Rattle.alt_base.proofs.Variants.{same_ok}

-- a host's run, and then what follows it
rest_reads : (scheme : Scheme) (place : ℕ) (run tail : List ℕ) (host : Host) → IsRun run tail → SpellsRun run host → read_rest scheme place (run ++ tail) ≡ read_port scheme host (place + length run) tail
rest_reads scheme place run tail host is_run of_host =
    ap (read_run_of scheme place (run ++ tail)) (run_end run tail is_run)
    ∙ ap (host_then_port scheme place (run ++ tail) (length run)) (ap read_run (take-append_seam run tail) ∙ run_complete run host of_host)
    ∙ ap (read_port scheme host (place + length run)) (drop-append_seam run tail)

pub origin_complete : (text : List ℕ) (origin : Origin) → SpellsOrigin text origin → read_origin text ≡ Ok origin
origin_complete text origin s =
    ap read_origin s.spelled ∙ scheme_reads s.letters (s.run ++ s.end) origin.scheme s.of_scheme
    ∙ rest_reads origin.scheme (length s.letters) s.run s.end origin.host s.is_run s.of_host
    ∙ port_complete origin.scheme origin.host (length s.letters + length s.run) s.end origin.port s.of_port

none_some : {A : Type 0} (x : A) → None ≡ Some x → ⊥
none_some x e = cc

no_host_reads : (scheme : Scheme) (place : ℕ) (rest : List ℕ) → ((run tail : List ℕ) (host : Host) → rest ≡ run ++ tail → IsRun run tail → SpellsRun run host → ⊥) → read_rest scheme place rest ≡ refusal_at place BadHost
no_host_reads scheme place rest none = go (host_end rest) refl
  where
    at : (end : ℕ) (o : Option Host) → host_end rest ≡ Some end → read_run (take end rest) ≡ o → host_then_port scheme place rest end o ≡ refusal_at place BadHost
    at end None is found = refl
    at end (Some host) is found =
        let h = run_found rest end is in
        let same : take end rest ≡ h.run = ap (λ n. take n rest) h.count ∙ ap (take (length h.run)) h.spelled ∙ take-append_seam h.run h.tail in
        absurd (none h.run h.tail host h.spelled h.is_run (run_sound h.run host (ap read_run (sym same) ∙ found)))

    go : (o : Option ℕ) → host_end rest ≡ o → read_run_of scheme place rest o ≡ refusal_at place BadHost
    go None is = refl
    go (Some end) is = at end (read_run (take end rest)) is refl

refused_at : (p q : ℕ) (reason : OriginRefusal) → p ≡ q → refusal_at p reason ≡ refusal_at q reason
refused_at p q reason e = ap (λ n. refusal_at n reason) e

pub origin_refused : (text : List ℕ) (place : ℕ) (reason : OriginRefusal) → OriginRefusedAt text place reason → read_origin text ≡ refusal_at place reason
origin_refused text place BadScheme s = go (scheme_found text)
  where
    go : HasScheme text ⊎ HasNoScheme text → read_origin text ≡ refusal_at place BadScheme
    go (inl h) = absurd (s.none h.letters h.rest h.scheme h.spelled h.of_scheme)
    go (inr h) = h.reads ∙ refused_at 0 place BadScheme (sym s.at)
origin_refused text place BadHost s =
    ap read_origin s.spelled ∙ scheme_reads s.letters s.rest s.scheme s.of_scheme
    ∙ no_host_reads s.scheme (length s.letters) s.rest s.none ∙ refused_at (length s.letters) place BadHost (sym s.at)
origin_refused text place BadPort s =
    ap read_origin s.spelled ∙ scheme_reads s.letters (s.run ++ 58 ∷ (s.digits ++ s.rest)) s.scheme s.of_scheme
    ∙ rest_reads s.scheme (length s.letters) s.run (58 ∷ (s.digits ++ s.rest)) s.host s.is_run s.of_host
    ∙ port_refused s.scheme s.host (length s.letters + length s.run) s.digits s.rest s.numeral s.longest s.value
    ∙ refused_at (length s.letters + length s.run + 1) place BadPort (sym s.at)
origin_refused text place Trailing s =
    ap read_origin s.spelled ∙ scheme_reads s.letters (s.run ++ (s.port ++ s.rest)) s.scheme s.of_scheme
    ∙ rest_reads s.scheme (length s.letters) s.run (s.port ++ s.rest) s.host s.is_run s.of_host
    ∙ port_trailing s.scheme s.host (length s.letters + length s.run) s.port s.rest s.number s.of_port s.left
    ∙ refused_at (length s.letters + length s.run + length s.port) place Trailing (sym s.at)

-- what the reading says, as the grammar says it
abbrev pub OriginSays : List ℕ → Result Origin (At OriginRefusal) → Type 0
OriginSays text (Ok origin) = SpellsOrigin text origin
OriginSays text (Err at) = OriginRefusedAt text at.place at.reason

-- a scheme, a host's run and what follows it
record Parts (text : List ℕ) : Type 0 where
  letters : List ℕ
  run : List ℕ
  tail : List ℕ
  scheme : Scheme
  host : Host
  spelled : text ≡ letters ++ (run ++ tail)
  of_scheme : SpellsScheme letters scheme
  is_run : IsRun run tail
  of_host : SpellsRun run host

from_port_refused : (text : List ℕ) (p : Parts text) (place : ℕ) (reason : OriginRefusal) → PortRefused p.scheme p.host (length p.letters + length p.run) p.tail place reason → OriginRefusedAt text place reason
from_port_refused text p place BadScheme h = absurd h
from_port_refused text p place BadHost h = absurd h
from_port_refused text p place BadPort h = record {
  letters = p.letters;
  run = p.run;
  digits = h.digits;
  rest = h.rest;
  scheme = p.scheme;
  host = p.host;
  spelled = p.spelled ∙ ap (λ t. p.letters ++ (p.run ++ t)) h.spelled;
  of_scheme = p.of_scheme;
  is_run = subst (IsRun p.run) h.spelled p.is_run;
  of_host = p.of_host;
  numeral = h.numeral;
  longest = h.longest;
  value = h.value;
  at = h.is_at;
}
from_port_refused text p place Trailing h = record {
  letters = p.letters;
  run = p.run;
  port = h.port;
  rest = h.rest;
  scheme = p.scheme;
  host = p.host;
  number = h.number;
  spelled = p.spelled ∙ ap (λ t. p.letters ++ (p.run ++ t)) h.spelled;
  of_scheme = p.of_scheme;
  is_run = subst (IsRun p.run) h.spelled p.is_run;
  of_host = p.of_host;
  of_port = h.of_port;
  left = h.left;
  at = h.is_at;
}

from_port : (text : List ℕ) (p : Parts text) (r : Result Origin (At OriginRefusal)) → PortSays p.scheme p.host (length p.letters + length p.run) p.tail r → OriginSays text r
from_port text p (Ok origin) h =
    let spells : SpellsOrigin text (record { scheme = p.scheme; host = p.host; port = origin.port }) =
    record { letters = p.letters; run = p.run; end = p.tail; spelled = p.spelled; of_scheme = p.of_scheme; is_run = p.is_run; of_host = p.of_host; of_port = h.1 } in
    subst (SpellsOrigin text) (sym h.0) spells
from_port text p (Err at) h = from_port_refused text p at.place at.reason h

rest_says : (text : List ℕ) (h : HasScheme text) → OriginSays text (read_rest h.scheme (length h.letters) h.rest)
rest_says text h = go (host_end h.rest) refl
  where
    bad_host : ((run tail : List ℕ) (host : Host) → h.rest ≡ run ++ tail → IsRun run tail → SpellsRun run host → ⊥) → IsBadHost text (length h.letters)
    bad_host none = record { letters = h.letters; rest = h.rest; scheme = h.scheme; spelled = h.spelled; of_scheme = h.of_scheme; none = none; at = refl }

    some_same : (m n : ℕ) → Some m ≡ Some n → m ≡ n
    some_same m n e = cc

    at : (end : ℕ) (o : Option Host) → host_end h.rest ≡ Some end → read_run (take end h.rest) ≡ o → OriginSays text (host_then_port h.scheme (length h.letters) h.rest end o)
    at end None is found = bad_host λ run tail host spelled is_run of_host.
        let count : end ≡ length run = some_same end (length run) (sym is ∙ ap host_end spelled ∙ run_end run tail is_run) in
        let same : take end h.rest ≡ run = ap (λ n. take n h.rest) count ∙ ap (take (length run)) spelled ∙ take-append_seam run tail in
        none_some host (sym found ∙ ap read_run same ∙ run_complete run host of_host)
    at end (Some host) is found =
        let r = run_found h.rest end is in
        let same : take end h.rest ≡ r.run = ap (λ n. take n h.rest) r.count ∙ ap (take (length r.run)) r.spelled ∙ take-append_seam r.run r.tail in
        let left : drop end h.rest ≡ r.tail = ap (λ n. drop n h.rest) r.count ∙ ap (drop (length r.run)) r.spelled ∙ drop-append_seam r.run r.tail in
        let parts : Parts text = record {
          letters = h.letters;
          run = r.run;
          tail = r.tail;
          scheme = h.scheme;
          host = host;
          spelled = h.spelled ∙ ap (λ t. h.letters ++ t) r.spelled;
          of_scheme = h.of_scheme;
          is_run = r.is_run;
          of_host = run_sound r.run host (ap read_run (sym same) ∙ found);
        } in
        let says : OriginSays text (read_port h.scheme host (length h.letters + length r.run) r.tail) = from_port text parts (read_port h.scheme host (length h.letters + length r.run) r.tail) (port_says h.scheme host (length h.letters + length r.run) r.tail) in
        subst (λ n. OriginSays text (read_port h.scheme host (length h.letters + n) (drop end h.rest))) (sym r.count)
        (subst (λ t. OriginSays text (read_port h.scheme host (length h.letters + length r.run) t)) (sym left) says)

    go : (o : Option ℕ) → host_end h.rest ≡ o → OriginSays text (read_run_of h.scheme (length h.letters) h.rest o)
    go None is = bad_host λ run tail host spelled is_run of_host. none_some (length run) (sym is ∙ ap host_end spelled ∙ run_end run tail is_run)
    go (Some end) is = at end (read_run (take end h.rest)) is refl

pub origin_says : (text : List ℕ) → OriginSays text (read_origin text)
origin_says text = go (scheme_found text)
  where
    go : HasScheme text ⊎ HasNoScheme text → OriginSays text (read_origin text)
    go (inl h) = subst (OriginSays text) (sym (ap read_origin h.spelled ∙ scheme_reads h.letters h.rest h.scheme h.of_scheme)) (rest_says text h)
    go (inr h) = subst (OriginSays text) (sym h.reads) (record { none = h.none; at = refl })

pub origin_sound : (text : List ℕ) (origin : Origin) → read_origin text ≡ Ok origin → SpellsOrigin text origin
origin_sound text origin e = subst (OriginSays text) e (origin_says text)

pub origin_refusal : (text : List ℕ) (place : ℕ) (reason : OriginRefusal) → read_origin text ≡ Err (record { place = place; reason = reason }) → OriginRefusedAt text place reason
origin_refusal text place reason e = subst (OriginSays text) e (origin_says text)

either : (text : List ℕ) (r : Result Origin (At OriginRefusal)) → OriginSays text r → ((origin : Origin) × SpellsOrigin text origin) ⊎ ((place : ℕ) × (reason : OriginRefusal) × OriginRefusedAt text place reason)
either text (Ok origin) h = inl (origin, h)
either text (Err at) h = inr (at.place, at.reason, h)

abbrev ok_of : Origin → Result Origin (At OriginRefusal)
ok_of origin = Ok origin

same_refusal : (p q : ℕ) (r s : OriginRefusal) → refusal_at p r ≡ refusal_at q s → (p ≡ q) × (r ≡ s)
same_refusal p q r s e =
    let h : at p r ≡ at q s = err_same (at p r) (at q s) e in (ap (λ (x : At OriginRefusal). x.place) h, ap (λ (x : At OriginRefusal). x.reason) h)
  where
    at : ℕ → OriginRefusal → At OriginRefusal
    at place reason = record { place = place; reason = reason }

    err_same : (a b : At OriginRefusal) → ◌≡◌ {A = Result Origin (At OriginRefusal)} (Err a) (Err b) → a ≡ b
    err_same a b f = cc

ok_err : (origin : Origin) (p : ℕ) (r : OriginRefusal) → ok_of origin ≡ refusal_at p r → ⊥
ok_err origin p r e = cc

pub one_origin_of : (text : List ℕ) → OneOrigin text
one_origin_of text = record {
  some = either text (read_origin text) (origin_says text);
  one_origin = λ a b h k. same_ok a b (sym (origin_complete text a h) ∙ origin_complete text b k);
  one_refusal = λ p q r s h k. same_refusal p q r s (sym (origin_refused text p r h) ∙ origin_refused text q s k);
  not_both = λ origin place reason h k. ok_err origin place reason (sym (origin_complete text origin h) ∙ origin_refused text place reason k);
}
