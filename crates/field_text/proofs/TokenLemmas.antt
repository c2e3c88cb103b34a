-- The reading of a token against its grammar.
use Rattle.std.proofs.Common.{◌≡◌, ◌≢◌, ℕ, ◌+◌, ◌-◌, ◌≤◌, List, [], ◌∷◌, ◌++◌, length, take, drop, Result, Ok, refl, ap, sym, ◌∙◌, subst, arith}
use Rattle.std.proofs.Math.Seq.{take-append_seam, drop-append_seam}
use Rattle.alt_base.specs.declared.refusal.At.{At}
use Rattle.field_text.specs.declared.text_refusal.TextRefusal.{TextRefusal}
use Rattle.field_text.specs.declared.text_refusal.TextRefusal.TheVariants.{Empty, BadByte, Unclosed}
use Rattle.field_text.specs.Refusals.{refused}
use Rattle.field_text.specs.Runs.{AllIn, BeginsIn, IsLongestRun}
use Rattle.field_text.specs.TokenGrammar.{is_token, SpellsToken, TokenRefusedAt, OneToken}
use Rattle.field_text.specs.TokenReading.{token_of, after_token, token_end, read_token}
use Rattle.field_text.proofs.OneReadingLemmas.{Says, one_reading}
use Rattle.field_text.proofs.RunLemmas.{longest_run, no_run, begins_no_run, run_of-append, drop_on, run_is, after_is}

-- what the reading says, as the grammar says it
abbrev pub TokenSays : ℕ → List ℕ → Result ℕ (At TextRefusal) → Type 0
TokenSays p x r = Says (SpellsToken p x) (TokenRefusedAt p x) r

by_run : (p : ℕ) (x run : List ℕ) → token_of x ≡ run → TokenSays p x (token_end p run)
by_run p x [] is = (refl, begins_no_run is_token x is)
by_run p x (b ∷ bs) is = record {
  token = b ∷ bs;
  rest = after_token x;
  run = subst (λ run. IsLongestRun is_token x run (after_token x)) is (longest_run is_token x);
  some = not_empty;
  end = refl;
}
  where
    not_empty : b ∷ bs ≢ []
    not_empty e = cc

pub token_says : (p : ℕ) (x : List ℕ) → TokenSays p x (read_token p x)
token_says p x = by_run p x (token_of x) refl

end_of_some : (p : ℕ) (run : List ℕ) → run ≢ [] → token_end p run ≡ Ok (p + length run)
end_of_some p [] some = absurd (some refl)
end_of_some p (b ∷ bs) some = refl

pub token_spelled : (p q : ℕ) (x : List ℕ) → SpellsToken p x q → read_token p x ≡ Ok q
token_spelled p q x s = ap (token_end p) (run_is is_token x s.token s.rest s.run) ∙ end_of_some p s.token s.some ∙ ap Ok (sym s.end)

pub token_refused : (p q : ℕ) (r : TextRefusal) (x : List ℕ) → TokenRefusedAt p x q r → read_token p x ≡ refused q r
token_refused p q Empty x s = ap (token_end p) (no_run is_token x s.1) ∙ ap (λ n. refused n Empty) (sym s.0)
token_refused p q BadByte x s = absurd s
token_refused p q Unclosed x s = absurd s

pub one_token_of : (p : ℕ) (x : List ℕ) → OneToken p x
one_token_of p x = one_reading (SpellsToken p x) (TokenRefusedAt p x) (read_token p x) (token_says p x) (λ q s. token_spelled p q x s) (λ q r s. token_refused p q r x s)

pub token_dropped : (p q : ℕ) (x : List ℕ) → SpellsToken p x q → drop (q - p) x ≡ after_token x
token_dropped p q x s =
    let n : q - p ≡ length s.token = omega (arith, s.end) in
    rw (n, after_is is_token x s.token s.rest s.run, s.run.text) (drop-append_seam s.token s.rest)

pub token_taken : (p q : ℕ) (x : List ℕ) → SpellsToken p x q → take (q - p) x ≡ token_of x
token_taken p q x s =
    let n : q - p ≡ length s.token = omega (arith, s.end) in
    rw (n, run_is is_token x s.token s.rest s.run, s.run.text) (take-append_seam s.token s.rest)

pub token_ends : (p q : ℕ) (x : List ℕ) → SpellsToken p x q → q ≡ p + length (token_of x)
token_ends p q x s = s.end ∙ ap (λ run. p + length run) (sym (run_is is_token x s.token s.rest s.run))

pub token_rest : (p q : ℕ) (x : List ℕ) → SpellsToken p (drop p x) q → drop q x ≡ after_token (drop p x)
token_rest p q x s =
    let below : p ≤ q = omega (arith, s.end) in
    sym (drop_on p q x below) ∙ token_dropped p q (drop p x) s

pub plain_read : (p : ℕ) (text rest : List ℕ) → AllIn is_token text → text ≢ [] → (BeginsIn is_token rest → ⊥) → read_token p (text ++ rest) ≡ Ok (p + length text)
plain_read p text rest valid some ends = ap (token_end p) (run_of-append is_token text rest valid ends) ∙ end_of_some p text some

end_of_long : (p n : ℕ) (run : List ℕ) → n ≡ length run → n ≢ 0 → token_end p run ≡ Ok (p + n)
end_of_long p n [] is some = absurd (some is)
end_of_long p n (b ∷ bs) is some = ap (λ m. Ok (p + m)) (sym is)

-- the words of the call's contract
pub token_ok : (p n : ℕ) (x : List ℕ) → n ≡ length (token_of x) → n ≢ 0 → SpellsToken p x (p + n)
token_ok p n x is some = subst (TokenSays p x) (end_of_long p n (token_of x) is some) (token_says p x)
