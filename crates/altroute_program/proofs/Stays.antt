-- More bytes only add to the text, and a stop stays, whatever bytes follow.
use Rattle.std.proofs.Common.{◌≡◌, ℕ, ◌+◌, ◌≤◌, ◌<◌, zero, suc, Bool, true, false, ◌&&◌, cond, nat_eq, nat_lt, List, [], ◌∷◌, ◌++◌, length, take, Some, None, refl, ap, sym, ◌∙◌, arith, append_assoc, append-nil}
use Rattle.std.specs.Prelude.{nat_le}
use Rattle.std.proofs.lemmas.List.{length-append, length_push, take-append-le}
use Rattle.both_ends.specs.Histories.{History}
use Rattle.altroute_program.specs.Lines.{Cut, cut_on, cut_from, cut_lines, lines_of, is_empty_bytes}
use Rattle.altroute_program.specs.Outcome.{Progress, Going, Stopped, Stop, AtLongLine, AtLongInput, act, act_all, start, limited, outcome, text_of, stop_of}
use Rattle.altroute_program.proofs.Cutting.{act_all-append, cut_from-append, cut_more, lines_more}
use Rattle.altroute_program.proofs.Outcomes.{outcome_within, all_grows, limited_text}
use Rattle.alt_base.proofs.Numbers.{true_lt, false_lt, lt_true, le_false}
use Rattle.std.proofs.Math.Bool.{and-false}

stopped_stays : (text : List ℕ) (why : Stop) (ls : List (List ℕ)) → act_all (Stopped text why) ls ≡ Stopped text why
stopped_stays text why [] = refl
stopped_stays text why (l ∷ ls) = stopped_stays text why ls

-- the lines of more bytes begin with those of fewer
all_lines : (c : Cut) (tail : List ℕ) (ended : Bool) → (extra : List (List ℕ)) × (lines_of (cut_from c tail) ended ≡ c.whole ++ extra)
all_lines c tail ended =
    let more = cut_more c tail in
    let last = lines_more (cut_from c tail) ended in
    (more.0 ++ last.0, last.1 ∙ ap (λ ls. ls ++ last.0) more.1 ∙ append_assoc c.whole more.0 last.0)

-- a line that stopped it
after_stop : (c : Cut) (tail : List ℕ) (ended : Bool) (text rest : List ℕ) (why : Stop) (n : ℕ) → act_all start c.whole ≡ Stopped text why → limited (act_all start (lines_of (cut_from c tail) ended)) rest n ≡ Stopped text why
after_stop c tail ended text rest why n stop =
    let lines = all_lines c tail ended in
    let all : act_all start (lines_of (cut_from c tail) ended) ≡ Stopped text why =
    ap (act_all start) lines.1 ∙ act_all-append start c.whole lines.0 ∙ ap (λ p. act_all p lines.0) stop ∙ stopped_stays text why lines.0 in
    ap (λ p. limited p rest n) all

long_empty : (xs : List ℕ) → 65536 < length xs → is_empty_bytes xs ≡ false
long_empty [] h = absurd (omega arith)
long_empty (x ∷ xs) h = refl

after_byte : (b n k : ℕ) (bs text : List ℕ) (c : Cut) (ended : Bool) (j : History) → act_all start c.whole ≡ Going text j k → 65536 < length c.rest
    → ((d : Cut) → act_all start d.whole ≡ Going text j k → 65536 < length d.rest → limited (act_all start (lines_of (cut_from d bs) ended)) (cut_from d bs).rest n ≡ Stopped text AtLongLine)
    → (t : Bool) → nat_eq b 10 ≡ t → limited (act_all start (lines_of (cut_from (cut_on c b) bs) ended)) (cut_from (cut_on c b) bs).rest n ≡ Stopped text AtLongLine
after_byte b n k bs text c ended j going long rec true is =
    let stop : act_all start (cut_on c b).whole ≡ Stopped text AtLongLine = rw is (act_all-append start c.whole (c.rest ∷ []) ∙ ap (λ p. act p c.rest) going ∙ rw (lt_true 65536 (length c.rest) long) refl) in
    after_stop (cut_on c b) bs ended text (cut_from (cut_on c b) bs).rest AtLongLine n stop
after_byte b n k bs text c ended j going long rec false is =
    let same : act_all start (cut_on c b).whole ≡ Going text j k = rw is going in
    let longer : 65536 < length (cut_on c b).rest = rw is (omega (arith, length_push c.rest b)) in
    rec (cut_on c b) same longer

-- a line that is too long already
after_long : (tail : List ℕ) (c : Cut) (ended : Bool) (text : List ℕ) (j : History) (k n : ℕ) → act_all start c.whole ≡ Going text j k → 65536 < length c.rest → limited (act_all start (lines_of (cut_from c tail) ended)) (cut_from c tail).rest n ≡ Stopped text AtLongLine
after_long [] c false text j k n going long = rw (going, lt_true 65536 (length c.rest) long) refl
after_long [] c true text j k n going long =
    let stop : act (Going text j k) c.rest ≡ Stopped text AtLongLine = rw (lt_true 65536 (length c.rest) long) refl in
    let all : act_all start (c.whole ++ c.rest ∷ []) ≡ Stopped text AtLongLine = act_all-append start c.whole (c.rest ∷ []) ∙ ap (λ p. act p c.rest) going ∙ stop in
    rw (long_empty c.rest long) (ap (λ p. limited p c.rest n) all)
after_long (b ∷ bs) c ended text j k n going long = after_byte b n k bs text c ended j going long (λ d g l. after_long bs d ended text j k n g l) (nat_eq b 10) refl

take_past : (xs ys : List ℕ) (n : ℕ) → length xs ≤ n → (t : List ℕ) × (take n (xs ++ ys) ≡ xs ++ t)
take_past [] ys n h = (take n ys, refl)
take_past (x ∷ xs) ys zero h = absurd (omega arith)
take_past (x ∷ xs) ys (suc n) h = let r = take_past xs ys n (omega arith) in (r.0, ap (λ zs. x ∷ zs) r.1)

outcome_past : (bytes more : List ℕ) (ended : Bool) → length bytes ≤ 67108864 → (t : List ℕ) × (f : Bool) × (outcome (bytes ++ more) ended ≡ limited (act_all start (lines_of (cut_from (cut_lines bytes) t) f)) (cut_from (cut_lines bytes) t).rest (length (bytes ++ more)))
outcome_past bytes more ended fits =
    let past = take_past bytes more 67108864 fits in
    let f : Bool = ended && nat_le (length (bytes ++ more)) 67108864 in
    (past.0, f, ap (λ (c : Cut). limited (act_all start (lines_of c f)) c.rest (length (bytes ++ more))) (ap cut_lines past.1 ∙ cut_from-append _ bytes past.0))

-- past the limit of the input the bytes say nothing more

far_limited : (p : Progress) (rest : List ℕ) (n m : ℕ) → nat_lt 67108864 n ≡ true → nat_lt 67108864 m ≡ true → limited p rest n ≡ limited p rest m
far_limited (Stopped text why) rest n m a b = refl
far_limited (Going text j k) rest n m a b = rw (a, b) refl

pub outcome_beyond : (bytes more : List ℕ) (ended : Bool) → 67108864 < length bytes → outcome (bytes ++ more) ended ≡ outcome bytes false
outcome_beyond bytes more ended far =
    let len : length (bytes ++ more) ≡ length bytes + length more = length-append bytes more in
    let farther : 67108864 < length (bytes ++ more) = omega (arith, len, far) in
    let no : nat_le (length (bytes ++ more)) 67108864 ≡ false = le_false (length (bytes ++ more)) 67108864 farther in
    let big : nat_lt 67108864 (length (bytes ++ more)) ≡ true = lt_true 67108864 (length (bytes ++ more)) farther in
    let yes : nat_lt 67108864 (length bytes) ≡ true = lt_true 67108864 (length bytes) far in
    let same : take 67108864 (bytes ++ more) ≡ take 67108864 bytes = take-append-le 67108864 bytes more (omega arith) in
    let c = cut_lines (take 67108864 bytes) in
    let e : outcome (bytes ++ more) ended ≡ limited (act_all start c.whole) c.rest (length (bytes ++ more)) = rw (same, no, and-false ended) refl in
    e ∙ far_limited (act_all start c.whole) c.rest (length (bytes ++ more)) (length bytes) big yes

-- more bytes only add to the text
within_grows : (bytes more : List ℕ) (ended : Bool) → length bytes ≤ 67108864 → (extra : List ℕ) × (text_of (outcome (bytes ++ more) ended) ≡ text_of (outcome bytes false) ++ extra)
within_grows bytes more ended fits =
    let past = outcome_past bytes more ended fits in
    let c = cut_lines bytes in
    let d = cut_from c past.0 in
    let lines = all_lines c past.0 past.1 in
    let grown = all_grows (act_all start c.whole) lines.0 in (
      grown.0,
      ap text_of past.2 ∙ limited_text (act_all start (lines_of d past.1)) d.rest (length (bytes ++ more)) ∙ ap (λ ls. text_of (act_all start ls)) lines.1 ∙ ap text_of (act_all-append start c.whole lines.0) ∙ grown.1
          ∙ ap (λ t. t ++ grown.0) (sym (ap text_of (outcome_within bytes false fits) ∙ limited_text (act_all start c.whole) c.rest (length bytes))),
    )

pub grows : (bytes more : List ℕ) (ended : Bool) → (extra : List ℕ) × (text_of (outcome (bytes ++ more) ended) ≡ text_of (outcome bytes false) ++ extra)
grows bytes more ended = by_test (nat_lt 67108864 (length bytes)) refl
  where
    by_test : (t : Bool) → nat_lt 67108864 (length bytes) ≡ t → (extra : List ℕ) × (text_of (outcome (bytes ++ more) ended) ≡ text_of (outcome bytes false) ++ extra)
    by_test true is = ([], ap text_of (outcome_beyond bytes more ended (true_lt 67108864 (length bytes) is)) ∙ sym (append-nil (text_of (outcome bytes false))))
    by_test false is = within_grows bytes more ended (false_lt 67108864 (length bytes) is)

-- a stop stays
stop_tests : (bytes more text t : List ℕ) (ended : Bool) (why : Stop) (j : History) (k : ℕ) → length bytes ≤ 67108864 → act_all start (cut_lines bytes).whole ≡ Going text j k → (a b : Bool) → nat_lt 65536 (length (cut_lines bytes).rest) ≡ a → nat_lt 67108864 (length bytes) ≡ b → cond a (Stopped text AtLongLine) (cond b (Stopped text AtLongInput) (Going text j k)) ≡ Stopped t why → outcome (bytes ++ more) ended ≡ Stopped t why
stop_tests bytes more text t ended why j k fits is true b a_is b_is s =
    let past = outcome_past bytes more ended fits in
    let long : 65536 < length (cut_lines bytes).rest = true_lt 65536 (length (cut_lines bytes).rest) a_is in
    past.2 ∙ after_long past.0 (cut_lines bytes) past.1 text j k (length (bytes ++ more)) is long ∙ s
stop_tests bytes more text t ended why j k fits is false true a_is b_is s = absurd (clash b_is fits)
  where
    clash : nat_lt 67108864 (length bytes) ≡ true → length bytes ≤ 67108864 → ⊥
    clash test within = grind arith
stop_tests bytes more text t ended why j k fits is false false a_is b_is s = absurd (none s)
  where
    none : Going text j k ≡ Stopped t why → ⊥
    none e = cc

within_stays : (bytes more t : List ℕ) (ended : Bool) (why : Stop) → length bytes ≤ 67108864 → outcome bytes false ≡ Stopped t why → outcome (bytes ++ more) ended ≡ Stopped t why
within_stays bytes more t ended why fits stop = by_progress (act_all start (cut_lines bytes).whole) refl
  where
    by_progress : (p : Progress) → act_all start (cut_lines bytes).whole ≡ p → outcome (bytes ++ more) ended ≡ Stopped t why
    by_progress (Stopped text w) is =
        let past = outcome_past bytes more ended fits in
        past.2 ∙ after_stop (cut_lines bytes) past.0 past.1 text (cut_from (cut_lines bytes) past.0).rest w (length (bytes ++ more)) is
        ∙ sym (outcome_within bytes false fits ∙ ap (λ p. limited p (cut_lines bytes).rest (length bytes)) is) ∙ stop
    by_progress (Going text j k) is = stop_tests bytes more text t ended why j k fits is (nat_lt 65536 (length (cut_lines bytes).rest)) (nat_lt 67108864 (length bytes)) refl refl (sym (outcome_within bytes false fits ∙ ap (λ p. limited p (cut_lines bytes).rest (length bytes)) is) ∙ stop)

pub stays : (bytes more t : List ℕ) (ended : Bool) (why : Stop) → outcome bytes false ≡ Stopped t why → outcome (bytes ++ more) ended ≡ Stopped t why
stays bytes more t ended why stop = by_test (nat_lt 67108864 (length bytes)) refl
  where
    by_test : (b : Bool) → nat_lt 67108864 (length bytes) ≡ b → outcome (bytes ++ more) ended ≡ Stopped t why
    by_test true is = outcome_beyond bytes more ended (true_lt 67108864 (length bytes) is) ∙ stop
    by_test false is = within_stays bytes more t ended why (false_lt 67108864 (length bytes) is) stop

-- a stop, whatever its text
pub stop_from : (bytes : List ℕ) (why : Stop) → stop_of (outcome bytes false) ≡ Some why → outcome bytes false ≡ Stopped (text_of (outcome bytes false)) why
stop_from bytes why stop = by_progress (outcome bytes false) stop
  where
    by_progress : (p : Progress) → stop_of p ≡ Some why → p ≡ Stopped (text_of p) why
    by_progress (Stopped text w) e = let same : w ≡ why = cc in ap (Stopped text) same
    by_progress (Going text j k) e = absurd (none e)
      where
        none : {X : Type 0} {x : X} → None ≡ Some x → ⊥
        none e = cc
