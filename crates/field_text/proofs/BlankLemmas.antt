-- The reading of blanks against their grammar.
use Rattle.std.proofs.Common.{◌≡◌, ℕ, ◌+◌, ◌-◌, ◌≤◌, List, length, drop, refl, ap, sym, ◌∙◌, arith}
use Rattle.std.proofs.Math.Seq.{drop-append_seam}
use Rattle.field_text.specs.Runs.{run_of}
use Rattle.field_text.specs.BlanksGrammar.{is_blank, SpellsBlanks, OneBlanks}
use Rattle.field_text.specs.BlanksReading.{read_blanks, after_blanks}
use Rattle.field_text.proofs.RunLemmas.{longest_run, drop_on, run_is, after_is}

pub blanks_say : (p : ℕ) (x : List ℕ) → SpellsBlanks p x (read_blanks p x)
blanks_say p x = record { blanks = run_of is_blank x; rest = after_blanks x; run = longest_run is_blank x; end = refl }

pub blanks_spelled : (p q : ℕ) (x : List ℕ) → SpellsBlanks p x q → read_blanks p x ≡ q
blanks_spelled p q x s = ap (λ run. p + length run) (run_is is_blank x s.blanks s.rest s.run) ∙ sym s.end

pub blanks_dropped : (p q : ℕ) (x : List ℕ) → SpellsBlanks p x q → drop (q - p) x ≡ after_blanks x
blanks_dropped p q x s =
    let n : q - p ≡ length s.blanks = omega (arith, s.end) in
    rw (n, after_is is_blank x s.blanks s.rest s.run, s.run.text) (drop-append_seam s.blanks s.rest)

pub blanks_rest : (p q : ℕ) (x : List ℕ) → SpellsBlanks p (drop p x) q → drop q x ≡ after_blanks (drop p x)
blanks_rest p q x s =
    let below : p ≤ q = omega (arith, s.end) in
    sym (drop_on p q x below) ∙ blanks_dropped p q (drop p x) s

pub one_blanks_of : (p : ℕ) (x : List ℕ) → OneBlanks p x
one_blanks_of p x = record { some = (read_blanks p x, blanks_say p x); one_end = λ q q' a b. sym (blanks_spelled p q x a) ∙ blanks_spelled p q' x b }
