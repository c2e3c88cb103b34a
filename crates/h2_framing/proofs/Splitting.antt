-- The one split of a stream, and how it goes on.
use Rattle.std.proofs.Common.{◌≡◌, ℕ, ◌+◌, ◌%◌, ◌^◌, ◌<◌, ◌≤◌, zero, suc, Bool, true, false, cond, nat_lt, List, [], ◌∷◌, ◌++◌, length, take, drop, Option, Some, None, refl, ap, sym, ◌∙◌, subst, arith, inl, inr}
use Rattle.std.proofs.lemmas.List.{append_assoc, append-nil, length-append, length-take-le, length-drop, take-take, drop-take, take-append-drop, take_at, drop_at, drop-drop, drop-append-le, get_or_append_left, get_or-append_right}
use Rattle.std.proofs.Math.Nat.{mod-eq_of_lt}
use Rattle.byteorder.specs.Endian.{big_number, big_bytes}
use Rattle.byteorder.specs.Numbers.{big_from-append, big_number-reads_back, length-bytes_high_first}
use Rattle.h2_framing.specs.declared.head.Head.{Head}
use Rattle.h2_framing.specs.declared.frame.Frame.{Frame}
use Rattle.h2_framing.specs.Frames.{head_of, frame_of, IsFrame, AreFrames, LacksPayload, IsTooLarge, IsUnfinished, IsRest, Split, Splits, octets_of}
use Rattle.h2_framing.specs.Streams.{Beginning, NoWholeFrame, AboveLimit, WholeFrame, beginning_of, no_frames, with_frame, split_by, split_within, split_of, frames_of, rest_of, too_large_of}
use Rattle.alt_base.proofs.Numbers.{lt_true, lt_false, true_lt, false_lt}

same_head : (l l' k k' f f' s s' : ℕ) → l ≡ l' → k ≡ k' → f ≡ f' → s ≡ s' → (let a : Head = record { length = l; kind = k; flags = f; stream = s } in a) ≡ (let b : Head = record { length = l'; kind = k'; flags = f'; stream = s' } in b)
same_head l l' k k' f f' s s' a b c d = cc

-- a head reads nine octets alone
pub head_front : (x y : List ℕ) → 9 ≤ length x → head_of (x ++ y) ≡ head_of x
head_front x y h =
    let tail : 4 ≤ length (drop 5 x) = omega (arith, length-drop 5 x) in
    same_head _ _ _ _ _ _ _ _ (big_from-append 3 x y (omega arith)) (get_or_append_left x y 0 3 (omega arith)) (get_or_append_left x y 0 4 (omega arith))
    (ap (λ (xs : List ℕ). big_number 4 xs % 2 ^ 31) (drop-append-le 5 x y (omega arith)) ∙ ap (λ (n : ℕ). n % 2 ^ 31) (big_from-append 4 (drop 5 x) y tail))

pub head_take : (x : List ℕ) → 9 ≤ length x → head_of (take 9 x) ≡ head_of x
head_take x h = sym (head_front (take 9 x) (drop 9 x) (omega (arith, length-take-le 9 x h))) ∙ ap head_of (take-append-drop 9 x)

-- what a beginning says of the stream
abbrev pub BeginningSays : List ℕ → Beginning → Type 0
BeginningSays x NoWholeFrame = IsUnfinished x
BeginningSays x (AboveLimit n) = IsTooLarge x n
BeginningSays x (WholeFrame n) = (9 + n ≤ length x) × ((head_of x).length ≡ n) × (n ≤ 16384)

says_by : (x : List ℕ) (a b c : Bool) → nat_lt (length x) 9 ≡ a → nat_lt 16384 (head_of x).length ≡ b → nat_lt (length x) (9 + (head_of x).length) ≡ c
    → BeginningSays x (cond a NoWholeFrame (cond b (AboveLimit (head_of x).length) (cond c NoWholeFrame (WholeFrame (head_of x).length))))
says_by x true b c p q r = inl (true_lt _ _ p)
says_by x false true c p q r = record { headed = false_lt _ _ p; gives = refl; above = true_lt _ _ q }
says_by x false false true p q r = inr (record { headed = false_lt _ _ p; within = false_lt _ _ q; lacking = true_lt _ _ r })
says_by x false false false p q r = (false_lt _ _ r, refl, false_lt _ _ q)

pub beginning_says : (x : List ℕ) → BeginningSays x (beginning_of x)
beginning_says x = says_by x _ _ _ refl refl refl

beginning_lacking : (x : List ℕ) → LacksPayload x → beginning_of x ≡ NoWholeFrame
beginning_lacking x c =
    let a : nat_lt (length x) 9 ≡ false = lt_false _ _ c.headed in
    let b : nat_lt 16384 (head_of x).length ≡ false = lt_false _ _ c.within in
    let d : nat_lt (length x) (9 + (head_of x).length) ≡ true = lt_true _ _ c.lacking in
    rw (a, b, d) refl

beginning_unfinished : (x : List ℕ) → IsUnfinished x → beginning_of x ≡ NoWholeFrame
beginning_unfinished x (inl short) = let a : nat_lt (length x) 9 ≡ true = lt_true _ _ short in rw a refl
beginning_unfinished x (inr c) = beginning_lacking x c

beginning_above : (x : List ℕ) (n : ℕ) → IsTooLarge x n → beginning_of x ≡ AboveLimit n
beginning_above x n o =
    let a : nat_lt (length x) 9 ≡ false = lt_false _ _ o.headed in
    let b : nat_lt 16384 (head_of x).length ≡ true = lt_true _ _ (omega (arith, o.above, o.gives)) in
    rw (a, b) (ap AboveLimit o.gives)

beginning_whole : (x : List ℕ) (n : ℕ) → 9 + n ≤ length x → (head_of x).length ≡ n → n ≤ 16384 → beginning_of x ≡ WholeFrame n
beginning_whole x n long gives within =
    let a : nat_lt (length x) 9 ≡ false = lt_false _ _ (omega arith) in
    let b : nat_lt 16384 (head_of x).length ≡ false = lt_false _ _ (omega (arith, gives)) in
    let d : nat_lt (length x) (9 + (head_of x).length) ≡ false = lt_false _ _ (omega (arith, gives)) in
    rw (a, b, d) (ap WholeFrame gives)

-- the frame at the front of a stream
pub frame_at : (x : List ℕ) (n : ℕ) → 9 + n ≤ length x → (head_of x).length ≡ n → n ≤ 16384 → IsFrame (take (9 + n) x) (frame_of (head_of x) (take n (drop 9 x)))
frame_at x n long gives within =
    let head : head_of (take 9 x) ≡ head_of x = head_take x (omega arith) in
    let size : length (take n (drop 9 x)) ≡ n = length-take-le n (drop 9 x) (omega (arith, length-drop 9 x)) in
    record {
      front = take 9 x;
      payload = take n (drop 9 x);
      whole = sym (take-append-drop 9 (take (9 + n) x)) ∙ ap (λ (xs : List ℕ). xs ++ drop 9 (take (9 + n) x)) (take-take 9 (9 + n) x (omega arith)) ∙ ap (λ (xs : List ℕ). take 9 x ++ xs) (drop-take 9 n x);
      nine = length-take-le 9 x (omega arith);
      fits = size ∙ sym gives ∙ sym (ap (λ (h : Head). h.length) head);
      within = omega (arith, size);
      read = ap (λ (h : Head). frame_of h (take n (drop 9 x))) (sym head);
    }

-- a split, by how the stream begins
step_splits : (n : ℕ) (x : List ℕ) (beginning : Beginning) (next : List ℕ → Split) → BeginningSays x beginning → ((y : List ℕ) → length y ≤ n → Splits y (next y)) → length x ≤ suc n → Splits x (split_by beginning x next)
step_splits n x NoWholeFrame next says later within = record { frames = refl; end = says }
step_splits n x (AboveLimit k) next says later within = record { frames = refl; end = says }
step_splits n x (WholeFrame k) next says later within =
    let rec = later (drop (9 + k) x) (omega (arith, length-drop (9 + k) x, says.0, within)) in
    record {
      frames = (take (9 + k) x, drop (9 + k) x, sym (take-append-drop (9 + k) x), frame_at x k says.0 says.1 says.2, rec.frames);
      end = rec.end;
    }

splits_within : (n : ℕ) (x : List ℕ) → length x ≤ n → Splits x (split_within n x)
splits_within zero x within = record { frames = refl; end = inl (omega arith) }
splits_within (suc n) x within = step_splits n x (beginning_of x) (split_within n) (beginning_says x) (λ y h. splits_within n y h) within

-- the front of a stream that begins with a whole frame
pub record Fronts (x : List ℕ) (frame : Frame) (more : List ℕ) (n : ℕ) : Type 0 where
  pub beginning : beginning_of x ≡ WholeFrame n
  pub read : frame ≡ frame_of (head_of x) (take n (drop 9 x))
  pub left : more ≡ drop (9 + n) x
  pub shorter : length more + 9 ≤ length x

fronts_of : (front payload more : List ℕ) (frame : Frame) → length front ≡ 9 → length payload ≡ (head_of front).length → length payload ≤ 16384 → frame ≡ frame_of (head_of front) payload → Fronts (front ++ (payload ++ more)) frame more (length payload)
fronts_of front payload more frame nine fits within read =
    let head : head_of (front ++ (payload ++ more)) ≡ head_of front = head_front front (payload ++ more) (omega arith) in
    let behind : drop 9 (front ++ (payload ++ more)) ≡ payload ++ more = drop_at front (payload ++ more) 9 nine in
    let size : length (front ++ (payload ++ more)) ≡ 9 + (length payload + length more) = length-append front (payload ++ more) ∙ omega (arith, nine, length-append payload more) in
    record {
      beginning = beginning_whole (front ++ (payload ++ more)) (length payload) (omega (arith, size)) (ap (λ (h : Head). h.length) head ∙ sym fits) within;
      read = read ∙ ap (λ (h : Head). frame_of h payload) (sym head) ∙ ap (frame_of (head_of (front ++ (payload ++ more)))) (sym (take_at payload more (length payload) refl) ∙ ap (take (length payload)) (sym behind));
      left = sym (drop_at payload more (length payload) refl) ∙ ap (drop (length payload)) (sym behind) ∙ drop-drop (length payload) 9 (front ++ (payload ++ more));
      shorter = omega (arith, size);
    }

pub fronts : (x octets more : List ℕ) (frame : Frame) → x ≡ octets ++ more → (f : IsFrame octets frame) → Fronts x frame more (length f.payload)
fronts x octets more frame split f =
    let e : f.front ++ (f.payload ++ more) ≡ x = sym (append_assoc f.front f.payload more) ∙ ap (λ (xs : List ℕ). xs ++ more) (sym f.whole) ∙ sym split in
    subst (λ (xs : List ℕ). Fronts xs frame more (length f.payload)) e (fronts_of f.front f.payload more frame f.nine f.fits f.within f.read)

rest_here : (n : ℕ) (x : List ℕ) (too_large : Option ℕ) → IsRest x too_large → length x ≤ n → no_frames x too_large ≡ split_within n x
rest_here zero x None end within = refl
rest_here (suc n) x None end within = sym (ap (λ (s : Beginning). split_by s x (split_within n)) (beginning_unfinished x end))
rest_here zero x (Some k) end within = absurd (omega (arith, end.headed))
rest_here (suc n) x (Some k) end within = sym (ap (λ (s : Beginning). split_by s x (split_within n)) (beginning_above x k end))

abbrev split_with : List Frame → List ℕ → Option ℕ → Split
split_with frames rest too_large = record { frames = frames; rest = rest; too_large = too_large }

front_step : (n : ℕ) (x more : List ℕ) (frame : Frame) (k : ℕ) → Fronts x frame more k → with_frame frame (split_within n more) ≡ split_within (suc n) x
front_step n x more frame k f =
    ap (λ (g : Frame). with_frame g (split_within n more)) f.read
    ∙ ap (λ (ys : List ℕ). with_frame (frame_of (head_of x) (take k (drop 9 x))) (split_within n ys)) f.left
    ∙ sym (ap (λ (s : Beginning). split_by s x (split_within n)) f.beginning)

only_within : (frames : List Frame) (n : ℕ) (x rest : List ℕ) (too_large : Option ℕ) → AreFrames x frames rest → IsRest rest too_large → length x ≤ n → split_with frames rest too_large ≡ split_within n x
only_within [] n x rest too_large are end within =
    ap (λ (ys : List ℕ). split_with [] ys too_large) (sym are) ∙ rest_here n x too_large (subst (λ (ys : List ℕ). IsRest ys too_large) (sym are) end) within
only_within (frame ∷ frames) zero x rest too_large are end within =
    let f = fronts x are.0 are.1 frame are.2 are.3 in absurd (omega (arith, f.shorter, within))
only_within (frame ∷ frames) (suc n) x rest too_large are end within =
    let f = fronts x are.0 are.1 frame are.2 are.3 in
    let rec = only_within frames n are.1 rest too_large are.4 end (omega (arith, f.shorter, within)) in
    ap (with_frame frame) rec ∙ front_step n x are.1 frame (length are.3.payload) f

pub split_some : (x : List ℕ) → Splits x (split_of x)
unfolding split_of
split_some x = splits_within (length x) x (omega arith)

pub split_only : (x : List ℕ) (split : Split) → Splits x split → split ≡ split_of x
unfolding split_of
split_only x split s = only_within split.frames (length x) x split.rest split.too_large s.frames s.end (omega arith)

-- frames behind frames
pub frames_more : (frames : List Frame) (x rest p : List ℕ) (others : List Frame) (last : List ℕ) → AreFrames x frames rest → AreFrames (rest ++ p) others last → AreFrames (x ++ p) (frames ++ others) last
frames_more [] x rest p others last are more = subst (λ (ys : List ℕ). AreFrames (ys ++ p) others last) (sym are) more
frames_more (frame ∷ frames) x rest p others last are more =
    (are.0, are.1 ++ p, ap (λ (ys : List ℕ). ys ++ p) are.2 ∙ append_assoc are.0 are.1 p, are.3, frames_more frames are.1 rest p others last are.4 more)

-- what the split of a stream becomes with a piece
pub record GoesOn (x p : List ℕ) (frames : List Frame) (rest : List ℕ) (too_large : Option ℕ) : Type 0 where
  pub frames_are : frames_of (x ++ p) ≡ frames_of x ++ frames
  pub rest_is : rest_of (x ++ p) ≡ rest
  pub too_large_is : too_large_of (x ++ p) ≡ too_large

pub goes_on : (x p : List ℕ) (frames : List Frame) (rest : List ℕ) (too_large : Option ℕ) → AreFrames (rest_of x ++ p) frames rest → IsRest rest too_large → GoesOn x p frames rest too_large
goes_on x p frames rest too_large are end =
    let e : split_with (frames_of x ++ frames) rest too_large ≡ split_of (x ++ p) = split_only (x ++ p) (split_with (frames_of x ++ frames) rest too_large) (record { frames = frames_more (frames_of x) x (rest_of x) p frames rest (split_some x).frames are; end = end }) in
    record { frames_are = sym (ap (λ (s : Split). s.frames) e); rest_is = sym (ap (λ (s : Split). s.rest) e); too_large_is = sym (ap (λ (s : Split). s.too_large) e) }

-- where no head is above the limit, the rest is less than a whole frame
pub rest_unfinished : (x : List ℕ) → too_large_of x ≡ None → IsUnfinished (rest_of x)
rest_unfinished x going = subst (λ (o : Option ℕ). IsRest (rest_of x) o) going (split_some x).end

-- frames, and then frames of the rest
pub frames_then : (frames : List Frame) (x rest : List ℕ) (others : List Frame) (last : List ℕ) → AreFrames x frames rest → AreFrames rest others last → AreFrames x (frames ++ others) last
frames_then [] x rest others last are more = subst (λ (ys : List ℕ). AreFrames ys others last) (sym are) more
frames_then (frame ∷ frames) x rest others last are more =
    (are.0, are.1, are.2, are.3, frames_then frames are.1 rest others last are.4 more)

-- one more frame behind the place
pub frame_more : (octets : List ℕ) (place : ℕ) (frames : List Frame) (head : Head) → AreFrames octets frames (drop place octets) → head ≡ head_of (drop place octets) → head.length ≤ 16384 → 9 + head.length ≤ length (drop place octets)
    → AreFrames octets (frames ++ frame_of head (take head.length (drop 9 (drop place octets))) ∷ []) (drop (place + (9 + head.length)) octets)
frame_more octets place frames head are is within long =
    frames_then frames octets (drop place octets) (frame_of head (take head.length (drop 9 (drop place octets))) ∷ []) (drop (place + (9 + head.length)) octets) are (
      take (9 + head.length) (drop place octets),
      drop (9 + head.length) (drop place octets),
      sym (take-append-drop (9 + head.length) (drop place octets)),
      subst (λ (h : Head). IsFrame (take (9 + head.length) (drop place octets)) (frame_of h (take head.length (drop 9 (drop place octets))))) (sym is) (frame_at (drop place octets) head.length long (ap (λ (h : Head). h.length) (sym is)) within),
      drop-drop (9 + head.length) place octets,
    )

-- a head above the limit stays
pub too_large_more : (rest p : List ℕ) (n : ℕ) → IsTooLarge rest n → IsTooLarge (rest ++ p) n
too_large_more rest p n too_large =
    record { headed = omega (arith, too_large.headed, length-append rest p); gives = ap (λ (h : Head). h.length) (head_front rest p too_large.headed) ∙ too_large.gives; above = too_large.above }

pub stays_too_large : (x p : List ℕ) (n : ℕ) → too_large_of x ≡ Some n → GoesOn x p [] (rest_of x ++ p) (Some n)
stays_too_large x p n too_large =
    let end : IsTooLarge (rest_of x) n = subst (λ (o : Option ℕ). IsRest (rest_of x) o) too_large (split_some x).end in
    goes_on x p [] (rest_of x ++ p) (Some n) refl (too_large_more (rest_of x) p n end)

-- the head that is octets_of is the head that is read
abbrev pub front_of : Head → List ℕ
front_of head = big_bytes 3 head.length ++ (head.kind ∷ head.flags ∷ big_bytes 4 head.stream)

front_size : (head : Head) → length (front_of head) ≡ 9
front_size head = length-append (big_bytes 3 head.length) (head.kind ∷ head.flags ∷ big_bytes 4 head.stream) ∙ omega (arith, length-bytes_high_first 3 head.length, length-bytes_high_first 4 head.stream)

front_read : (head : Head) → head.length ≤ 16384 → head.stream < 2 ^ 31 → head_of (front_of head) ≡ head
front_read head within stream =
    let three : length (big_bytes 3 head.length) ≡ 3 = length-bytes_high_first 3 head.length in
    let tail : List ℕ = head.kind ∷ head.flags ∷ big_bytes 4 head.stream in
    let behind : drop 3 (front_of head) ≡ head.kind ∷ head.flags ∷ big_bytes 4 head.stream = drop_at (big_bytes 3 head.length) (head.kind ∷ head.flags ∷ big_bytes 4 head.stream) 3 three in
    let five : drop 5 (front_of head) ≡ big_bytes 4 head.stream = sym (drop-drop 2 3 (front_of head)) ∙ ap (drop 2) behind in
    let whole : big_number 4 (big_bytes 4 head.stream) ≡ head.stream = ap (big_number 4) (sym (append-nil (big_bytes 4 head.stream))) ∙ big_number-reads_back 4 head.stream [] (omega arith) in
    same_head _ head.length _ head.kind _ head.flags _ head.stream
    (big_number-reads_back 3 head.length (head.kind ∷ head.flags ∷ big_bytes 4 head.stream) (omega arith))
    (get_or-append_right (big_bytes 3 head.length) (head.kind ∷ head.flags ∷ big_bytes 4 head.stream) 3 3 0 three (omega arith))
    (get_or-append_right (big_bytes 3 head.length) (head.kind ∷ head.flags ∷ big_bytes 4 head.stream) 3 4 0 three (omega arith))
    (ap (λ (xs : List ℕ). big_number 4 xs % 2 ^ 31) five ∙ ap (λ (k : ℕ). k % 2 ^ 31) whole ∙ mod-eq_of_lt stream)

pub written_frame : (head : Head) (payload : List ℕ) → length payload ≡ head.length → head.length ≤ 16384 → head.stream < 2 ^ 31 → IsFrame (octets_of head payload) (frame_of head payload)
written_frame head payload fits within stream =
    let read : head_of (front_of head) ≡ head = front_read head within stream in
    record {
      front = front_of head;
      payload = payload;
      whole = refl;
      nine = front_size head;
      fits = fits ∙ sym (ap (λ (h : Head). h.length) read);
      within = omega (arith, fits);
      read = ap (λ (h : Head). frame_of h payload) (sym read);
    }

-- a written frame at the front of a stream
pub written_front : (head : Head) (payload more : List ℕ) → length payload ≡ head.length → head.length ≤ 16384 → head.stream < 2 ^ 31 → split_of (octets_of head payload ++ more) ≡ with_frame (frame_of head payload) (split_of more)
written_front head payload more fits within stream =
    let known = split_some more in
    sym (split_only (octets_of head payload ++ more) (with_frame (frame_of head payload) (split_of more)) (record { frames = (octets_of head payload, more, refl, written_frame head payload fits within stream, known.frames); end = known.end }))
