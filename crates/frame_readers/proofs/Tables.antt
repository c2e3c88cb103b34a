-- What a table of readers holds of a connection, once its reader is taken out and put back.
use Rattle.std.proofs.Common.{◌≡◌, ℕ, ◌+◌, ◌*◌, ◌≤◌, true, false, not, nat_eq, List, [], ◌∷◌, ◌++◌, length, Option, Some, None, Ok, refl, ap, sym, ◌∙◌, subst, arith}
use Rattle.std.specs.List.{All}
use Rattle.std.proofs.lemmas.Bool.Decides.{nat_tests}
use Rattle.std.proofs.lemmas.List.Elements.{All-filter, All-push, All-same}
use Rattle.alt_base.proofs.Numbers.{eq_self}
use Rattle.h2_framing.specs.declared.frame.Frame.{Frame}
use Rattle.h2_framing.specs.declared.fed.Fed.{Fed}
use Rattle.h2_framing.specs.declared.fed.Fed.TheVariants.{Going, TooLarge}
use Rattle.h2_framing.specs.declared.reader.FrameReader.{FrameReader}
use Rattle.h2_framing.specs.Streams.{split_of, rest_of, too_large_of}
use Rattle.h2_framing.specs.Reading.{held_part, Keeps, buffer_of, StandsFor, Brings, AnswersPiece}
use Rattle.frame_readers.specs.declared.readers.ReaderOf.{ReaderOf}
use Rattle.frame_readers.specs.Readers.{is_of, reader_among, other_readers, held_of, skipped_of, Reads, Stands, Fits}
use Rattle.frame_readers.proofs.Places.{none_among_others, found_among_others, holds_of_found, found_last, found_before}
use Rattle.frame_readers.proofs.Framing.{brings_few, brings_fit}

-- the empty stream has no unfinished frame
fresh_keeps : Keeps [] 0 (rest_of [])
unfolding split_of
fresh_keeps = record { part = refl; counted = refl }

fresh_going : too_large_of [] ≡ None
unfolding split_of
fresh_going = refl

-- a reader of the empty stream holds nothing
pub new_holds : (reader : FrameReader) → StandsFor reader [] → (buffer_of reader ≡ []) × (reader.skipped ≡ 0)
unfolding split_of
new_holds reader stands = let none : 0 + reader.skipped ≡ 0 = stands.keeps.counted in (stands.keeps.part, omega arith)

-- a connection whose reader isn't there
pub reads_empty : (rs : List ReaderOf) (conn : ℕ) → reader_among rs conn ≡ None → Reads rs conn []
reads_empty rs conn none =
    record { keeps = subst (λ (o : Option ReaderOf). Keeps (held_of o) (skipped_of o) (rest_of [])) (sym none) fresh_keeps; going = fresh_going }

pub none_left : (rs : List ReaderOf) (conn : ℕ) → reader_among (other_readers rs conn) conn ≡ None
none_left rs conn = none_among_others (is_of conn) rs

other_number : (a conn n : ℕ) → nat_eq conn n ≡ false → nat_eq a n ≡ true → nat_eq a conn ≡ false
other_number a conn n apart same = grind (arith, nat_tests)

pub others_left : (rs : List ReaderOf) (conn n : ℕ) → nat_eq conn n ≡ false → reader_among (other_readers rs conn) n ≡ reader_among rs n
others_left rs conn n apart = found_among_others (is_of n) (is_of conn) rs (λ r is. other_number r.conn conn n apart is)

-- each stands for some stream, and so does a new one
pub some_stream : (rs : List ReaderOf) (conn : ℕ) → All Stands rs → (x : List ℕ) × Reads rs conn x
some_stream rs conn all = by_found (reader_among rs conn) refl
  where
    by_found : (o : Option ReaderOf) → reader_among rs conn ≡ o → (x : List ℕ) × Reads rs conn x
    by_found None is = ([], reads_empty rs conn is)
    by_found (Some r) is =
        let stands = holds_of_found Stands (is_of conn) rs r all is in
        (stands.0, record { keeps = subst (λ (o : Option ReaderOf). Keeps (held_of o) (skipped_of o) (rest_of stands.0)) (sym is) stands.1.keeps; going = stands.1.going })

pub all_left : (rs : List ReaderOf) (conn : ℕ) → All Stands rs → All Stands (other_readers rs conn)
all_left rs conn all = All-filter (λ r. not (is_of conn r)) Stands rs all

-- the reader that was taken out holds what the table held of the connection, and the others are left
pub record Taken (rs : List ReaderOf) (conn : ℕ) (reader : FrameReader) (left : List ReaderOf) : Type 0 where
  pub held : buffer_of reader ≡ held_of (reader_among rs conn)
  pub skipped : reader.skipped ≡ skipped_of (reader_among rs conn)
  pub others : left ≡ other_readers rs conn
  pub stand : All Stands rs

pub taken : (inside rs out left : List ReaderOf) (conn : ℕ) (reader : FrameReader) → inside ≡ rs → buffer_of reader ≡ held_of (reader_among inside conn) → reader.skipped ≡ skipped_of (reader_among inside conn)
    → other_readers out conn ≡ other_readers inside conn → left ≡ other_readers out conn → All Stands inside → Taken rs conn reader left
taken inside rs out left conn reader is held skipped same dropped stand =
    subst (λ (table : List ReaderOf). Taken table conn reader left) is (record { held = held; skipped = skipped; others = dropped ∙ same; stand = stand })

pub left_stand : (rs : List ReaderOf) (conn : ℕ) (reader : FrameReader) (left : List ReaderOf) → Taken rs conn reader left → All Stands left
left_stand rs conn reader left t = All-same Stands left (other_readers rs conn) t.others (all_left rs conn t.stand)

pub no_reader_left : (rs : List ReaderOf) (conn : ℕ) (reader : FrameReader) (left : List ReaderOf) → Taken rs conn reader left → reader_among left conn ≡ None
no_reader_left rs conn reader left t = ap (λ table. reader_among table conn) t.others ∙ none_left rs conn

pub left_others : (rs : List ReaderOf) (conn : ℕ) (reader : FrameReader) (left : List ReaderOf) (n : ℕ) → Taken rs conn reader left → nat_eq conn n ≡ false → reader_among left n ≡ reader_among rs n
left_others rs conn reader left n t apart = ap (λ table. reader_among table n) t.others ∙ others_left rs conn n apart

taken_stands : (rs : List ReaderOf) (conn : ℕ) (reader : FrameReader) (left : List ReaderOf) (x : List ℕ) → Taken rs conn reader left → Reads rs conn x → StandsFor reader x
taken_stands rs conn reader left x t reads =
    record { keeps = record { part = t.held ∙ reads.keeps.part; counted = ap (λ n. length (held_part (rest_of x)) + n) t.skipped ∙ reads.keeps.counted }; going = reads.going }

-- what it gives of a piece
pub going_on : (fed : Fed) (rs : List ReaderOf) (conn : ℕ) (reader next : FrameReader) (left : List ReaderOf) (p : List ℕ) (frames : List Frame) → Taken rs conn reader left → ((y : List ℕ) → StandsFor reader y → AnswersPiece (Ok fed) y p) → fed ≡ Going next frames
    → (x : List ℕ) → Reads rs conn x → StandsFor next (x ++ p) × Brings x p frames None
going_on fed rs conn reader next left p frames t answers is x reads =
    subst (λ (f : Fed). AnswersPiece (Ok f) x p) is (answers x (taken_stands rs conn reader left x t reads))

pub too_large : (fed : Fed) (rs : List ReaderOf) (conn : ℕ) (reader : FrameReader) (left : List ReaderOf) (p : List ℕ) (frames : List Frame) (n : ℕ) → Taken rs conn reader left → ((y : List ℕ) → StandsFor reader y → AnswersPiece (Ok fed) y p) → fed ≡ TooLarge frames n
    → (x : List ℕ) → Reads rs conn x → Brings x p frames (Some n)
too_large fed rs conn reader left p frames n t answers is x reads =
    subst (λ (f : Fed). AnswersPiece (Ok f) x p) is (answers x (taken_stands rs conn reader left x t reads))

pub few : (rs : List ReaderOf) (conn : ℕ) (p : List ℕ) (frames : List Frame) (above : Option ℕ) → All Stands rs → ((x : List ℕ) → Reads rs conn x → Brings x p frames above) → 9 * length frames ≤ length p + 16392
few rs conn p frames above stand brings = let some = some_stream rs conn stand in brings_few some.0 p frames above some.1.going (brings some.0 some.1)

pub fit : (rs : List ReaderOf) (conn : ℕ) (p : List ℕ) (frames : List Frame) (above : Option ℕ) → All Stands rs → ((x : List ℕ) → Reads rs conn x → Brings x p frames above) → All Fits frames
fit rs conn p frames above stand brings = let some = some_stream rs conn stand in brings_fit some.0 p frames above (brings some.0 some.1)

pub never : {P : Type 0} (n : ℕ) → Some n ≡ None → P
never n e = absurd (cc)

-- the table with the reader that goes on put back
abbrev pub reader_of : ℕ → FrameReader → ReaderOf
reader_of conn reader = record { conn = conn; reader = reader }

pub back_stand : (rs left new : List ReaderOf) (conn : ℕ) (reader next : FrameReader) (y : List ℕ → List ℕ) → Taken rs conn reader left → new ≡ left ++ reader_of conn next ∷ [] → ((x : List ℕ) → Reads rs conn x → StandsFor next (y x)) → All Stands new
back_stand rs left new conn reader next y t is stands =
    let some = some_stream rs conn t.stand in
    All-same Stands new (left ++ reader_of conn next ∷ []) is (All-push Stands left (reader_of conn next) (left_stand rs conn reader left t) (y some.0, stands some.0 some.1))

pub back_reads : (rs left new : List ReaderOf) (conn : ℕ) (reader next : FrameReader) (y : List ℕ) → Taken rs conn reader left → new ≡ left ++ reader_of conn next ∷ [] → StandsFor next y → Reads new conn y
back_reads rs left new conn reader next y t is stands =
    let none : reader_among left conn ≡ None = ap (λ table. reader_among table conn) t.others ∙ none_left rs conn in
    let found : reader_among new conn ≡ Some (reader_of conn next) = ap (λ table. reader_among table conn) is ∙ found_last (is_of conn) left (reader_of conn next) none (eq_self conn) in
    record { keeps = subst (λ (o : Option ReaderOf). Keeps (held_of o) (skipped_of o) (rest_of y)) (sym found) stands.keeps; going = stands.going }

pub back_others : (rs left new : List ReaderOf) (conn : ℕ) (reader next : FrameReader) (n : ℕ) → Taken rs conn reader left → new ≡ left ++ reader_of conn next ∷ [] → nat_eq conn n ≡ false → reader_among new n ≡ reader_among rs n
back_others rs left new conn reader next n t is apart =
    ap (λ table. reader_among table n) is ∙ found_before (is_of n) left (reader_of conn next) apart ∙ left_others rs conn reader left n t apart
