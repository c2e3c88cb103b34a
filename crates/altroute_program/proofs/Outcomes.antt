-- What the outcome for the bytes taken is, from how far the run has come.
use Rattle.std.proofs.Common.{◌≡◌, ℕ, ◌+◌, ◌≤◌, ◌<◌, Bool, true, false, cond, ◌&&◌, nat_eq, nat_lt, List, [], ◌∷◌, ◌++◌, length, Option, Some, None, Result, Ok, Err, refl, ap, sym, ◌∙◌, subst, arith, append_assoc, append-nil}
use Rattle.std.specs.Prelude.{nat_le}
use Rattle.std.proofs.lemmas.List.{length_push, take_all, take_at}
use Rattle.alt_base.specs.declared.refusal.At.{At}
use Rattle.both_ends.specs.Histories.{History, event_refusal, server_output, client_actions}
use Rattle.both_ends.specs.declared.fault.EndRefusal.{EndRefusal}
use Rattle.event_lines.specs.declared.event.Event.{Event}
use Rattle.event_lines.specs.declared.event.Event.TheVariants.{Client, Server, Skip}
use Rattle.event_lines.specs.declared.refusal.LineRefusal.{LineRefusal}
use Rattle.event_lines.specs.LineReading.{line_reading}
use Rattle.altroute_program.specs.declared.state.Replay.{Replay}
use Rattle.altroute_program.specs.Lines.{Cut, cut_lines, lines_of, is_empty_bytes}
use Rattle.altroute_program.specs.Texts.{output_text, refused_line, end_refusal_text, line_refusal_text}
use Rattle.altroute_program.specs.Outcome.{Progress, Going, Stopped, AtLongLine, AtLongInput, after_taking, after_event, after_reading, act, act_all, start, limited, outcome, text_of}
use Rattle.altroute_program.specs.Reached.{Reached}
use Rattle.altroute_program.proofs.Cutting.{cut-push, act_all-append}
use Rattle.std.proofs.Math.Bool.{and-true}

pub outcome_within : (bytes : List ℕ) (ended : Bool) → length bytes ≤ 67108864 → outcome bytes ended ≡ limited (act_all start (lines_of (cut_lines bytes) ended)) (cut_lines bytes).rest (length bytes)
outcome_within bytes ended within =
    let fits : nat_le (length bytes) 67108864 ≡ true = grind arith in
    rw (take_all 67108864 bytes within, fits) (ap (λ b. limited (act_all start (lines_of (cut_lines bytes) b)) (cut_lines bytes).rest (length bytes)) (and-true ended))

pub limited_small : (p : Progress) (rest : List ℕ) (n : ℕ) → length rest ≤ 65536 → n ≤ 67108864 → limited p rest n ≡ p
limited_small (Stopped text why) rest n short small = refl
limited_small (Going text j lines) rest n short small =
    let a : nat_lt 65536 (length rest) ≡ false = grind arith in
    let b : nat_lt 67108864 n ≡ false = grind arith in
    rw (a, b) refl

pub rest_short : (r : Replay) (bytes text : List ℕ) (j : History) → Reached r bytes text j → length (cut_lines bytes).rest ≤ 65536
rest_short r bytes text j reached = subst (λ xs. length xs ≤ 65536) reached.line reached.short

-- before the end, the lines so far
pub going_is : (r : Replay) (bytes text : List ℕ) (j : History) → Reached r bytes text j → length bytes ≤ 67108864 → outcome bytes false ≡ Going text j r.lines
going_is r bytes text j reached within =
    outcome_within bytes false within ∙ limited_small _ (cut_lines bytes).rest (length bytes) (rest_short r bytes text j reached) within ∙ reached.progress

-- a line that isn't too long is acted on
act_short : (text line : List ℕ) (j : History) (n : ℕ) → length line ≤ 65536 → act (Going text j n) line ≡ after_reading text j (n + 1) (line_reading line)
act_short text line j n short =
    let small : nat_lt 65536 (length line) ≡ false = grind arith in rw small refl

-- behind a newline, the line that it ends
pub newline_progress : (r : Replay) (bytes text : List ℕ) (j : History) → Reached r bytes text j → act_all start (cut_lines (bytes ++ 10 ∷ [])).whole ≡ after_reading text j (r.lines + 1) (line_reading r.line)
newline_progress r bytes text j reached =
    ap (λ (c : Cut). act_all start c.whole) (cut-push bytes 10)
    ∙ act_all-append start (cut_lines bytes).whole ((cut_lines bytes).rest ∷ [])
    ∙ ap (λ p. act p (cut_lines bytes).rest) reached.progress
    ∙ ap (λ line. act (Going text j r.lines) line) (sym reached.line)
    ∙ act_short text r.line j r.lines reached.short

pub newline_outcome : (r : Replay) (bytes text : List ℕ) (j : History) → Reached r bytes text j → length bytes < 67108864 → outcome (bytes ++ 10 ∷ []) false ≡ after_reading text j (r.lines + 1) (line_reading r.line)
newline_outcome r bytes text j reached room =
    let fits : length (bytes ++ 10 ∷ []) ≤ 67108864 = omega (arith, length_push bytes 10, room) in
    let nothing : (cut_lines (bytes ++ 10 ∷ [])).rest ≡ [] = ap (λ (c : Cut). c.rest) (cut-push bytes 10) in
    outcome_within (bytes ++ 10 ∷ []) false fits
    ∙ limited_small (act_all start (cut_lines (bytes ++ 10 ∷ [])).whole) (cut_lines (bytes ++ 10 ∷ [])).rest (length (bytes ++ 10 ∷ [])) (rw nothing (omega arith)) fits
    ∙ newline_progress r bytes text j reached

-- a byte that isn't a newline adds to the line
pub other_cut : (bytes : List ℕ) (b : ℕ) → nat_eq b 10 ≡ false → cut_lines (bytes ++ b ∷ []) ≡ record { whole = (cut_lines bytes).whole; rest = (cut_lines bytes).rest ++ b ∷ [] }
other_cut bytes b other = cut-push bytes b ∙ rw other refl

not_empty : (xs : List ℕ) → 0 < length xs → is_empty_bytes xs ≡ false
not_empty [] h = absurd (omega arith)
not_empty (x ∷ xs) h = refl

-- at the end behind a newline
pub ended_is : (r : Replay) (bytes text : List ℕ) (j : History) → Reached r bytes text j → length bytes ≤ 67108864 → r.line ≡ [] → outcome bytes true ≡ Going text j r.lines
ended_is r bytes text j reached within empty =
    let nothing : (cut_lines bytes).rest ≡ [] = sym reached.line ∙ empty in
    outcome_within bytes true within ∙ limited_small _ (cut_lines bytes).rest (length bytes) (rest_short r bytes text j reached) within ∙ rw nothing reached.progress

-- at the end behind a line without one
pub ended_more : (r : Replay) (bytes text : List ℕ) (j : History) → Reached r bytes text j → length bytes ≤ 67108864 → 0 < length r.line → outcome bytes true ≡ after_reading text j (r.lines + 1) (line_reading r.line)
ended_more r bytes text j reached within more =
    let there : is_empty_bytes (cut_lines bytes).rest ≡ false = subst (λ xs. is_empty_bytes xs ≡ false) reached.line (not_empty r.line more) in
    outcome_within bytes true within ∙ limited_small _ (cut_lines bytes).rest (length bytes) (rest_short r bytes text j reached) within
    ∙ rw there (act_all-append start (cut_lines bytes).whole ((cut_lines bytes).rest ∷ []) ∙ ap (λ p. act p (cut_lines bytes).rest) reached.progress ∙ ap (act (Going text j r.lines)) (sym reached.line) ∙ act_short text r.line j r.lines reached.short)

-- a byte too much stops the run: the input's, or the line's
pub full_outcome : (r : Replay) (bytes text : List ℕ) (j : History) (b : ℕ) → Reached r bytes text j → length bytes ≡ 67108864 → outcome (bytes ++ b ∷ []) false ≡ Stopped text AtLongInput
full_outcome r bytes text j b reached full =
    let more : nat_lt 67108864 (length (bytes ++ b ∷ [])) ≡ true = rw (length_push bytes b, full) refl in
    let short : nat_lt 65536 (length (cut_lines bytes).rest) ≡ false = let s = rest_short r bytes text j reached in grind arith in
    rw (take_at bytes (b ∷ []) 67108864 full, reached.progress, short, more) refl

pub long_outcome : (r : Replay) (bytes text : List ℕ) (j : History) (b : ℕ) → Reached r bytes text j → nat_eq b 10 ≡ false → length bytes < 67108864 → 65536 ≤ length r.line → outcome (bytes ++ b ∷ []) false ≡ Stopped text AtLongLine
long_outcome r bytes text j b reached other room full =
    let fits : length (bytes ++ b ∷ []) ≤ 67108864 = omega (arith, length_push bytes b, room) in
    let cut = other_cut bytes b other in
    let len : length (cut_lines (bytes ++ b ∷ [])).rest ≡ length r.line + 1 = ap (λ (c : Cut). length c.rest) cut ∙ length_push (cut_lines bytes).rest b ∙ ap (λ (xs : List ℕ). length xs + 1) (sym reached.line) in
    let test : nat_lt 65536 (length (cut_lines (bytes ++ b ∷ [])).rest) ≡ true = grind arith in
    let same : act_all start (cut_lines (bytes ++ b ∷ [])).whole ≡ Going text j r.lines = ap (λ (c : Cut). act_all start c.whole) cut ∙ reached.progress in
    outcome_within (bytes ++ b ∷ []) false fits ∙ rw (same, test) refl

-- what a line adds to the text

taking_grows : (text : List ℕ) (h : History) (n now : ℕ) (event : Event) (why : Option EndRefusal) → (more : List ℕ) × (text_of (after_taking text h n now event why) ≡ text ++ more)
taking_grows text h n now event None = (output_text (server_output h event) (client_actions h now event), refl)
taking_grows text h n now event (Some why) = (refused_line n (end_refusal_text why), refl)

event_grows : (text : List ℕ) (h : History) (n now : ℕ) (event : Event) → (more : List ℕ) × (text_of (after_event text h n now event) ≡ text ++ more)
event_grows text h n now Skip = ([], sym (append-nil text))
event_grows text h n now (Client fact) = taking_grows text h n now (Client fact) (event_refusal h now (Client fact))
event_grows text h n now (Server act) = taking_grows text h n now (Server act) (event_refusal h now (Server act))

pub reading_grows : (text : List ℕ) (j : History) (n : ℕ) (read : Result (ℕ × Event) (At LineRefusal)) → (more : List ℕ) × (text_of (after_reading text j n read) ≡ text ++ more)
reading_grows text j n (Ok read) = event_grows text j n read.0 read.1
reading_grows text j n (Err at) = (refused_line n (line_refusal_text at), refl)

act_grows : (p : Progress) (line : List ℕ) → (more : List ℕ) × (text_of (act p line) ≡ text_of p ++ more)
act_grows (Stopped text why) line = ([], sym (append-nil text))
act_grows (Going text j lines) line = by_test (nat_lt 65536 (length line))
  where
    by_test : (b : Bool) → (more : List ℕ) × (text_of (cond b (Stopped text AtLongLine) (after_reading text j (lines + 1) (line_reading line))) ≡ text ++ more)
    by_test true = ([], sym (append-nil text))
    by_test false = reading_grows text j (lines + 1) (line_reading line)

pub all_grows : (p : Progress) (lines : List (List ℕ)) → (more : List ℕ) × (text_of (act_all p lines) ≡ text_of p ++ more)
all_grows p [] = ([], sym (append-nil (text_of p)))
all_grows p (line ∷ lines) =
    let first = act_grows p line in
    let rest = all_grows (act p line) lines in
    (first.0 ++ rest.0, rest.1 ∙ ap (λ t. t ++ rest.0) first.1 ∙ append_assoc (text_of p) first.0 rest.0)

pub limited_text : (p : Progress) (rest : List ℕ) (n : ℕ) → text_of (limited p rest n) ≡ text_of p
limited_text (Stopped text why) rest n = refl
limited_text (Going text j lines) rest n = both (nat_lt 65536 (length rest)) (nat_lt 67108864 n)
  where
    both : (a b : Bool) → text_of (cond a (Stopped text AtLongLine) (cond b (Stopped text AtLongInput) (Going text j lines))) ≡ text
    both true b = refl
    both false true = refl
    both false false = refl
