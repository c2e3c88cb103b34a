-- What a reader holds of an unfinished frame, and how a piece goes on with it.
use Rattle.std.proofs.Common.{◌≡◌, ◌⊎◌, ℕ, ◌+◌, ◌-◌, ◌<◌, ◌≤◌, min, Bool, true, false, cond, nat_lt, List, [], ◌++◌, length, take, drop, refl, ap, sym, ◌∙◌, subst, arith, inl, inr}
use Rattle.std.proofs.lemmas.List.{append_assoc, append-nil, length-append, length-take-le, length-drop, take-append-le, take-append-drop, take-take, drop-take, take_all}
use Rattle.std.proofs.lemmas.Bool.Decides.{nat_tests}
use Rattle.h2_framing.specs.declared.head.Head.{Head}
use Rattle.h2_framing.specs.declared.frame.Frame.{Frame}
use Rattle.h2_framing.specs.Frames.{head_of, is_kept, frame_of, IsFrame, LacksPayload, IsUnfinished}
use Rattle.h2_framing.specs.Reading.{held_part, held_count, Keeps}
use Rattle.h2_framing.proofs.Splitting.{head_front, head_take}

pub held_short : (rest : List ℕ) → length rest < 9 → held_part rest ≡ rest
held_short rest h = let t : nat_lt (length rest) 9 ≡ true = grind (arith, nat_tests) in rw t refl

pub held_kept : (rest : List ℕ) → 9 ≤ length rest → is_kept (head_of rest).kind ≡ true → held_part rest ≡ rest
held_kept rest h k = let t : nat_lt (length rest) 9 ≡ false = grind (arith, nat_tests) in rw (t, k) refl

pub held_passed : (rest : List ℕ) → 9 ≤ length rest → is_kept (head_of rest).kind ≡ false → held_part rest ≡ take 9 rest
held_passed rest h k = let t : nat_lt (length rest) 9 ≡ false = grind (arith, nat_tests) in rw (t, k) refl

head_held_by : (rest : List ℕ) (kept : Bool) → 9 ≤ length rest → is_kept (head_of rest).kind ≡ kept → head_of (held_part rest) ≡ head_of rest
head_held_by rest true h k = ap head_of (held_kept rest h k)
head_held_by rest false h k = ap head_of (held_passed rest h k) ∙ head_take rest h

-- the head is held
pub head_held : (rest : List ℕ) → 9 ≤ length rest → head_of (held_part rest) ≡ head_of rest
head_held rest h = head_held_by rest (is_kept (head_of rest).kind) h refl

-- a head and a payload of its length are a frame
pub is_whole : (x : List ℕ) (head : Head) → 9 ≤ length x → head ≡ head_of x → length x ≡ 9 + head.length → head.length ≤ 16384 → IsFrame x (frame_of head (drop 9 x))
is_whole x head nine is long within =
    let front : head_of (take 9 x) ≡ head = head_take x nine ∙ sym is in
    record {
      front = take 9 x;
      payload = drop 9 x;
      whole = sym (take-append-drop 9 x);
      nine = length-take-le 9 x nine;
      fits = omega (arith, length-drop 9 x, ap (λ (h : Head). h.length) front);
      within = omega (arith, length-drop 9 x);
      read = ap (λ (h : Head). frame_of h (drop 9 x)) (sym front);
    }

-- what is held of a frame that will be kept is all of it
pub kept_all : (held rest : List ℕ) (skipped : ℕ) (head : Head) → Keeps held skipped rest → head ≡ head_of held → 9 ≤ length rest → is_kept head.kind ≡ true → (held ≡ rest) × (head ≡ head_of rest) × (skipped ≡ 0)
kept_all held rest skipped head keeps is nine kept =
    let e : head ≡ head_of rest = is ∙ ap head_of keeps.part ∙ head_held rest nine in
    let k : is_kept (head_of rest).kind ≡ true = ap (λ (h : Head). is_kept h.kind) (sym e) ∙ kept in
    let p : held_part rest ≡ rest = held_kept rest nine k in
    (keeps.part ∙ p, e, omega (arith, keeps.counted, ap length p))

-- what is held of another one is its head
pub passed_head : (held rest : List ℕ) (skipped : ℕ) (head : Head) → Keeps held skipped rest → head ≡ head_of held → 9 ≤ length rest → is_kept head.kind ≡ false → (head ≡ head_of rest) × (length rest ≡ 9 + skipped)
passed_head held rest skipped head keeps is nine passed =
    let e : head ≡ head_of rest = is ∙ ap head_of keeps.part ∙ head_held rest nine in
    let k : is_kept (head_of rest).kind ≡ false = ap (λ (h : Head). is_kept h.kind) (sym e) ∙ passed in
    (e, omega (arith, keeps.counted, ap length (held_passed rest nine k), length-take-le 9 rest nine))

front_length : (rest piece : List ℕ) (n : ℕ) → n ≤ length piece → length (rest ++ take n piece) ≡ length rest + n
front_length rest piece n within = length-append rest (take n piece) ∙ ap (λ (k : ℕ). length rest + k) (length-take-le n piece within)

-- more octets behind a head
more_by : (held now rest octets : List ℕ) (skipped after : ℕ) (head : Head) (kept : Bool) → is_kept head.kind ≡ kept → Keeps held skipped rest → head ≡ head_of held → 9 ≤ length rest
    → now ≡ cond kept (held ++ octets) held → after ≡ cond kept skipped (skipped + length octets) → Keeps now after (rest ++ octets)
more_by held now rest octets skipped after head true k keeps is nine held_is counted =
    let all = kept_all held rest skipped head keeps is nine k in
    let still : is_kept (head_of (rest ++ octets)).kind ≡ true = ap (λ (h : Head). is_kept h.kind) (head_front rest octets nine ∙ sym all.1) ∙ k in
    let part : held_part (rest ++ octets) ≡ rest ++ octets = held_kept (rest ++ octets) (omega (arith, length-append rest octets, nine)) still in
    record { part = held_is ∙ ap (λ (xs : List ℕ). xs ++ octets) all.0 ∙ sym part; counted = omega (arith, ap length part, counted, all.2) }
more_by held now rest octets skipped after head false k keeps is nine held_is counted =
    let known = passed_head held rest skipped head keeps is nine k in
    let was : is_kept (head_of rest).kind ≡ false = ap (λ (h : Head). is_kept h.kind) (sym known.0) ∙ k in
    let still : is_kept (head_of (rest ++ octets)).kind ≡ false = ap (λ (h : Head). is_kept h.kind) (head_front rest octets nine) ∙ was in
    let part : held_part (rest ++ octets) ≡ held_part rest = held_passed (rest ++ octets) (omega (arith, length-append rest octets, nine)) still ∙ take-append-le 9 rest octets nine ∙ sym (held_passed rest nine was) in
    record { part = held_is ∙ keeps.part ∙ sym part; counted = omega (arith, ap length part, counted, keeps.counted, length-append rest octets) }

-- the frame of a head and a payload, by what is held
frame_by : (now x : List ℕ) (skipped : ℕ) (head : Head) (kept : Bool) → is_kept head.kind ≡ kept → Keeps now skipped x → head ≡ head_of x → 9 ≤ length x → frame_of head (drop 9 now) ≡ frame_of head (drop 9 x)
frame_by now x skipped head true k keeps is nine =
    ap (λ (xs : List ℕ). frame_of head (drop 9 xs)) (keeps.part ∙ held_kept x nine (ap (λ (h : Head). is_kept h.kind) (sym is) ∙ k))
frame_by now x skipped head false k keeps is nine = rw k refl

pub more_ends : (held now rest piece : List ℕ) (skipped after n : ℕ) (head : Head) → Keeps held skipped rest → head ≡ head_of held → 9 ≤ length rest → head.length ≤ 16384 → length rest ≤ 9 + head.length
    → n ≤ length piece → n ≡ 9 + head.length - (length held + skipped) → now ≡ cond (is_kept head.kind) (held ++ take n piece) held → after ≡ cond (is_kept head.kind) skipped (skipped + length (take n piece))
    → IsFrame (rest ++ take n piece) (frame_of head (drop 9 now))
more_ends held now rest piece skipped after n head keeps is nine within upto few count held_is counted =
    let read : head ≡ head_of rest = is ∙ ap head_of keeps.part ∙ head_held rest nine in
    let read_on : head ≡ head_of (rest ++ take n piece) = read ∙ sym (head_front rest (take n piece) nine) in
    let size : length (rest ++ take n piece) ≡ 9 + head.length = omega (arith, length-append rest (take n piece), length-take-le n piece few, ap length keeps.part, keeps.counted, count, upto) in
    let long : 9 ≤ length (rest ++ take n piece) = omega (arith, size) in
    let keeps_on = more_by held now rest (take n piece) skipped after head (is_kept head.kind) refl keeps is nine held_is counted in
    subst (λ (f : Frame). IsFrame (rest ++ take n piece) f) (sym (frame_by now (rest ++ take n piece) after head (is_kept head.kind) refl keeps_on read_on long)) (is_whole (rest ++ take n piece) head long read_on size within)

-- what nine octets hold is all of them
nine_held : (y : List ℕ) (kept : Bool) → length y ≡ 9 → is_kept (head_of y).kind ≡ kept → held_part y ≡ y
nine_held y true size k = held_kept y (omega arith) k
nine_held y false size k = held_passed y (omega arith) k ∙ take_all 9 y (omega arith)

upto_nine : (y : List ℕ) → (length y < 9) ⊎ (length y ≡ 9) → held_part y ≡ y
upto_nine y (inl short) = held_short y short
upto_nine y (inr size) = nine_held y (is_kept (head_of y).kind) size refl

below_or_nine : (n : ℕ) → n ≤ 9 → (n < 9) ⊎ (n ≡ 9)
below_or_nine n h = grind arith

-- after octets were taken until a head is whole
pub record Headed (held piece rest : List ℕ) (skipped count : ℕ) (head : Head) : Type 0 where
  pub keeps : Keeps held skipped (rest ++ take count piece)
  pub long : 9 ≤ length (rest ++ take count piece)
  pub is : head ≡ head_of (rest ++ take count piece)
  pub upto : length (rest ++ take count piece) ≤ 9 + head.length

headed_short : (held now piece rest : List ℕ) (skipped count : ℕ) (head : Head) → Keeps held skipped rest → length rest < 9 → count ≡ min (9 - length held) (length piece) → now ≡ held ++ take count piece → 9 ≤ length now → head ≡ head_of now
    → Headed now piece rest skipped count head
headed_short held now piece rest skipped count head keeps short count_is now_is long is =
    let all : held ≡ rest = keeps.part ∙ held_short rest short in
    let none : skipped ≡ 0 = omega (arith, keeps.counted, ap length (held_short rest short)) in
    let same : now ≡ rest ++ take count piece = now_is ∙ ap (λ (xs : List ℕ). xs ++ take count piece) all in
    let size : length (rest ++ take count piece) ≡ length rest + count = front_length rest piece count (omega (arith, count_is)) in
    let within : length (rest ++ take count piece) ≤ 9 = omega (arith, size, count_is, ap length all) in
    let part : held_part (rest ++ take count piece) ≡ rest ++ take count piece = upto_nine (rest ++ take count piece) (below_or_nine _ within) in
    record {
      keeps = record { part = same ∙ sym part; counted = omega (arith, ap length part, none) };
      long = omega (arith, ap length same, long);
      is = is ∙ ap head_of same;
      upto = omega (arith, within);
    }

headed_long : (held now piece rest : List ℕ) (skipped count : ℕ) (head : Head) → Keeps held skipped rest → LacksPayload rest → count ≡ 0 → now ≡ held ++ take count piece → head ≡ head_of now → Headed now piece rest skipped count head
headed_long held now piece rest skipped count head keeps lacks none now_is is =
    let nothing : take count piece ≡ [] = ap (λ (k : ℕ). take k piece) none in
    let same : rest ≡ rest ++ take count piece = sym (ap (λ (xs : List ℕ). rest ++ xs) nothing ∙ append-nil rest) in
    let now_held : now ≡ held = now_is ∙ ap (λ (xs : List ℕ). held ++ xs) nothing ∙ append-nil held in
    let read : head ≡ head_of rest = is ∙ ap head_of (now_held ∙ keeps.part) ∙ head_held rest lacks.headed in
    let kept : Keeps now skipped rest = record { part = now_held ∙ keeps.part; counted = keeps.counted } in
    record {
      keeps = subst (λ (xs : List ℕ). Keeps now skipped xs) same kept;
      long = omega (arith, ap length same, lacks.headed);
      is = read ∙ ap head_of same;
      upto = omega (arith, ap length same, lacks.lacking, ap (λ (h : Head). h.length) read);
    }

-- nine octets or more are held of nine or more
pub held_long : (rest : List ℕ) (kept : Bool) → 9 ≤ length rest → is_kept (head_of rest).kind ≡ kept → 9 ≤ length (held_part rest)
held_long rest true h k = omega (arith, ap length (held_kept rest h k))
held_long rest false h k = omega (arith, ap length (held_passed rest h k), length-take-le 9 rest h)

pub headed : (held now piece rest : List ℕ) (skipped count : ℕ) (head : Head) → Keeps held skipped rest → IsUnfinished rest → count ≡ min (9 - length held) (length piece) → now ≡ held ++ take count piece → 9 ≤ length now → head ≡ head_of now
    → Headed now piece rest skipped count head
headed held now piece rest skipped count head keeps (inl short) count_is now_is long is = headed_short held now piece rest skipped count head keeps short count_is now_is long is
headed held now piece rest skipped count head keeps (inr lacks) count_is now_is long is =
    let more : 9 ≤ length held = omega (arith, ap length keeps.part, held_long rest (is_kept (head_of rest).kind) lacks.headed refl) in
    headed_long held now piece rest skipped count head keeps lacks (omega (arith, count_is, more)) now_is is

-- two pieces in a row
pub take_two : (piece : List ℕ) (a b : ℕ) → take (a + b) piece ≡ take a piece ++ take b (drop a piece)
take_two piece a b =
    sym (take-append-drop a (take (a + b) piece)) ∙ ap (λ (xs : List ℕ). xs ++ drop a (take (a + b) piece)) (take-take a (a + b) piece (omega arith)) ∙ ap (λ (xs : List ℕ). take a piece ++ xs) (drop-take a b piece)

pub onto_take : (rest piece : List ℕ) (a b : ℕ) → (rest ++ take a piece) ++ take b (drop a piece) ≡ rest ++ take (a + b) piece
onto_take rest piece a b = append_assoc rest (take a piece) (take b (drop a piece)) ∙ ap (λ (xs : List ℕ). rest ++ xs) (sym (take_two piece a b))

pub onto_all : (rest piece : List ℕ) (a : ℕ) → (rest ++ take a piece) ++ drop a piece ≡ rest ++ piece
onto_all rest piece a = append_assoc rest (take a piece) (drop a piece) ∙ ap (λ (xs : List ℕ). rest ++ xs) (take-append-drop a piece)

-- a head and less than its payload
pub lacks_payload : (x y : List ℕ) (head : Head) → 9 ≤ length x → head ≡ head_of x → head.length ≤ 16384 → length (x ++ y) < 9 + head.length → IsUnfinished (x ++ y)
lacks_payload x y head nine is within short =
    let e : head ≡ head_of (x ++ y) = is ∙ sym (head_front x y nine) in
    let l : head.length ≡ (head_of (x ++ y)).length = ap (λ (h : Head). h.length) e in
    inr (record { headed = omega (arith, length-append x y); within = omega (arith, l); lacking = omega (arith, l) })

-- no more than a head and a payload is held
pub held_few : (held rest : List ℕ) (skipped : ℕ) → Keeps held skipped rest → IsUnfinished rest → length held + skipped ≤ 16392
held_few held rest skipped keeps (inl short) = omega (arith, ap length keeps.part, keeps.counted)
held_few held rest skipped keeps (inr lacks) = omega (arith, ap length keeps.part, keeps.counted, lacks.lacking, lacks.within)

held_size_by : (rest : List ℕ) (short kept : Bool) → nat_lt (length rest) 9 ≡ short → is_kept (head_of rest).kind ≡ kept → length (held_part rest) ≡ held_count rest
held_size_by rest true kept s k = rw s refl
held_size_by rest false true s k = rw (s, k) refl
held_size_by rest false false s k = let long : 9 ≤ length rest = grind (arith, nat_tests) in rw (s, k) (length-take-le 9 rest long)

-- how many octets are held
pub held_size : (rest : List ℕ) → length (held_part rest) ≡ held_count rest
held_size rest = held_size_by rest (nat_lt (length rest) 9) (is_kept (head_of rest).kind) refl refl
