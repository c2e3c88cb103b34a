-- What the grammar of a record's wire form says is what is read.
use Rattle.std.proofs.Common.{◌≡◌, ◌⊎◌, ℕ, ◌+◌, ◌<◌, ◌≤◌, true, false, nat_lt, List, [], ◌++◌, length, drop, Ok, Err, refl, ap, sym, ◌∙◌, subst, arith, inl, inr}
use Rattle.std.proofs.lemmas.List.{append-nil, length-append, drop_at, drop-drop}
use Rattle.byteorder.specs.Endian.{big_number, big_bytes}
use Rattle.alt_base.specs.declared.refusal.At.{At}
use Rattle.dns_names.specs.Names.{AreBytes, wire_form}
use Rattle.dns_names.specs.WireGrammar.{SpellsWire}
use Rattle.dns_names.specs.WireReading.{read_wire}
use Rattle.dns_names.proofs.WireNames.{name_spelled}
use Rattle.dns_names.proofs.WireSpelled.{spelled_reads as name_reads, refused_reads as name_refused}
use Rattle.svcb_wire.specs.declared.param.Param.{Param}
use Rattle.svcb_wire.specs.declared.svcb.Svcb.{Svcb}
use Rattle.svcb_wire.specs.declared.refusal.WireRefusal.{WireRefusal}
use Rattle.svcb_wire.specs.declared.refusal.WireRefusal.TheVariants.{Short, BadTarget, KeyOrder, ParamPast, BadValue, TooLong}
use Rattle.alt_base.specs.Answers.{refused}
use Rattle.svcb_wire.specs.Octets.{params_octets}
use Rattle.svcb_wire.specs.Records.{IsRecord, record_octets}
use Rattle.svcb_wire.specs.RecordReading.{ParamsAnswer, RecordAnswer, first_param, read_params, with_params, target_by, behind_target, read_target, read_record}
use Rattle.svcb_wire.specs.RecordGrammar.{SpellsRecord, GoesOn, next_key, IsHead, RecordRefusedAt, OneRecord}
use Rattle.alt_base.proofs.Numbers.{lt_true, lt_false}
use Rattle.dns_names.proofs.Bytes.{bytes_front, bytes_back}
use Rattle.svcb_wire.proofs.Pairs.{pair_reads}
use Rattle.svcb_wire.proofs.ParamSteps.{short_reads, order_reads, past_reads, value_refused}
use Rattle.svcb_wire.proofs.ParamLists.{reads, reads_stop, passes}
use Rattle.svcb_wire.proofs.RecordSays.{Says, record_says}
use Rattle.alt_base.proofs.Variants.{same_ok}

sized_reads : (x : List ℕ) → length x ≤ 65535 → 2 ≤ length x → read_record x ≡ behind_target (big_number 2 x) x (read_target x)
sized_reads x most two =
    let a : nat_lt 65535 (length x) ≡ false = lt_false _ _ most in
    let b : nat_lt (length x) 2 ≡ false = lt_false _ _ two in
    rw (a, b) refl

-- a priority and a target are passed over
headed_reads : (x priority target rest : List ℕ) (name : List (List ℕ)) → x ≡ priority ++ (target ++ rest) → length priority ≡ 2 → SpellsWire target name → length x ≤ 65535
    → read_record x ≡ with_params (big_number 2 x) name (reads (2 + length target) 0 [] rest)
headed_reads x priority target rest name split two named most =
    let behind : drop 2 x ≡ target ++ rest = ap (drop 2) split ∙ drop_at priority (target ++ rest) 2 two in
    let after : drop (2 + length target) x ≡ rest = sym (drop-drop (length target) 2 x) ∙ ap (drop (length target)) behind ∙ drop_at target rest (length target) refl in
    let found : read_wire 2 (drop 2 x) ≡ Ok (name, 2 + length target) =
    name_reads 2 (2 + length target) (drop 2 x) name (record { front = target; spelled = record { rest = rest; split = behind; spelled = named }; end = refl }) in
    sized_reads x most (omega (arith, ap length split, length-append priority (target ++ rest), two))
    ∙ ap (λ r. behind_target (big_number 2 x) x (target_by r)) found
    ∙ ap (λ xs. with_params (big_number 2 x) name (read_params (2 + length target) xs)) after

same_params : (n : ℕ) (name : List (List ℕ)) (a b : ParamsAnswer) → a ≡ b → with_params n name a ≡ with_params n name b
same_params n name a b e = ap (with_params n name) e

-- so are whole parameters
goes_reads : (x rest : List ℕ) (params : List Param) (place : ℕ) (g : GoesOn x params place rest) → read_record x ≡ with_params (big_number 2 x) g.name (reads place (next_key 0 params) params rest)
goes_reads x rest params place g =
    headed_reads x g.priority g.target (params_octets params ++ rest) g.name g.split g.two g.named g.sized
    ∙ same_params (big_number 2 x) g.name _ _ (passes params (2 + length g.target) 0 [] rest g.params_are)
    ∙ ap (λ p. with_params (big_number 2 x) g.name (reads p (next_key 0 params) params rest)) (sym g.behind)

record_is : (n : ℕ) (value : Svcb) → n ≡ value.priority → with_params n value.target (Ok value.params) ≡ Ok value
record_is n value e = ap (λ k. with_params k value.target (Ok value.params)) e

pub spelled_reads : (x : List ℕ) (value : Svcb) → SpellsRecord x value → read_record x ≡ Ok value
spelled_reads x value s =
    let priority : big_number 2 x ≡ value.priority = ap (big_number 2) s.split ∙ pair_reads value.priority (s.target ++ params_octets value.params) s.fits in
    headed_reads x (big_bytes 2 value.priority) s.target (params_octets value.params) value.target s.split refl s.named s.sized
    ∙ same_params (big_number 2 x) value.target _ _ (ap (reads (2 + length s.target) 0 []) (sym (append-nil (params_octets value.params))) ∙ passes value.params (2 + length s.target) 0 [] [] s.params)
    ∙ record_is (big_number 2 x) value priority

refused_is : (q q' : ℕ) (reason : WireRefusal) → q ≡ q' → (let a : RecordAnswer = refused q reason in a) ≡ (let b : RecordAnswer = refused q' reason in b)
refused_is q q' reason e = ap (λ n. let a : RecordAnswer = refused n reason in a) e

-- behind whole parameters the reading stops
stops_reads : (x rest : List ℕ) (params : List Param) (place q : ℕ) (reason : WireRefusal) → GoesOn x params place rest → 1 ≤ length rest → first_param place (next_key 0 params) rest ≡ refused q reason → read_record x ≡ refused q reason
stops_reads x rest params place q reason g some is =
    goes_reads x rest params place g ∙ same_params (big_number 2 x) g.name _ _ (reads_stop place (next_key 0 params) params rest (record { place = q; reason = reason }) some is)

goes_length : (x rest : List ℕ) (params : List Param) (place : ℕ) → GoesOn x params place rest → length x ≡ place + length rest
goes_length x rest params place g =
    omega (arith, ap length g.split, length-append g.priority (g.target ++ (params_octets params ++ rest)), length-append g.target (params_octets params ++ rest), length-append (params_octets params) rest, g.two, g.behind)

head_some : (rest tail : List ℕ) (key size : ℕ) → IsHead rest key size tail → 1 ≤ length rest
head_some rest tail key size h = omega (arith, ap length h.split)

cut_reads : (x : List ℕ) (q : ℕ) → q ≡ length x → (length x < 2) ⊎ ((params : List Param) × (at : ℕ) × (rest : List ℕ) × GoesOn x params at rest × (1 ≤ length rest) × (length rest < 4)) → read_record x ≡ refused q Short
cut_reads x q is (inl cut) =
    let a : nat_lt 65535 (length x) ≡ false = lt_false _ _ (omega (arith, cut)) in
    let b : nat_lt (length x) 2 ≡ true = lt_true _ _ cut in
    rw (a, b) (refused_is _ _ Short (sym is))
cut_reads x q is (inr s) =
    stops_reads x s.2 s.0 s.1 (s.1 + length s.2) Short s.3 s.4 (short_reads s.1 (next_key 0 s.0) s.2 s.5)
    ∙ refused_is _ _ Short (omega (arith, is, goes_length x s.2 s.0 s.1 s.3))

-- the value's octets are among those of the record
value_bytes : (x rest value more : List ℕ) (params : List Param) (place key : ℕ) → AreBytes x → GoesOn x params place rest → IsHead rest key (length value) (value ++ more) → AreBytes value
value_bytes x rest value more params place key bytes g h =
    let a = bytes_back g.priority (g.target ++ (params_octets params ++ rest)) (subst AreBytes g.split bytes) in
    let b = bytes_back (params_octets params) rest (bytes_back g.target (params_octets params ++ rest) a) in
    bytes_front value more (bytes_back (big_bytes 2 (length value)) (value ++ more) (bytes_back (big_bytes 2 key) (big_bytes 2 (length value) ++ (value ++ more)) (subst AreBytes h.split b)))

pub refused_reads : (x : List ℕ) (q : ℕ) (reason : WireRefusal) → AreBytes x → RecordRefusedAt x q reason → read_record x ≡ refused q reason
refused_reads x q Short bytes s = cut_reads x q s.place s.cut
refused_reads x q BadTarget bytes s =
    let behind : drop 2 x ≡ s.rest = ap (drop 2) s.split ∙ drop_at s.priority s.rest 2 s.two in
    sized_reads x s.sized (omega (arith, ap length s.split, length-append s.priority s.rest, s.two))
    ∙ ap (λ r. behind_target (big_number 2 x) x (target_by r)) (ap (read_wire 2) behind ∙ name_refused 2 q s.reason s.rest s.refused)
refused_reads x q KeyOrder bytes s =
    stops_reads x s.rest s.params q q KeyOrder s.goes (head_some s.rest s.tail s.key s.size s.head) (order_reads q (next_key 0 s.params) s.key s.size s.rest s.tail s.head s.below)
refused_reads x q ParamPast bytes s =
    stops_reads x s.rest s.params q q ParamPast s.goes (head_some s.rest s.tail s.key s.size s.head) (past_reads q (next_key 0 s.params) s.key s.size s.rest s.tail s.head s.above s.past)
refused_reads x q (BadValue key) bytes s =
    stops_reads x s.rest s.params s.place (s.place + 4) (BadValue key) s.goes (head_some s.rest (s.value ++ s.more) key (length s.value) s.head)
    (value_refused s.place (next_key 0 s.params) key s.rest s.value s.more s.head (value_bytes x s.rest s.value s.more s.params s.place key bytes s.goes s.head) s.above s.bad)
    ∙ refused_is _ _ (BadValue key) (sym s.first)
refused_reads x q TooLong bytes s = let a : nat_lt 65535 (length x) ≡ true = lt_true _ _ s.long in rw a (refused_is _ _ TooLong (sym s.place))

either_says : (x : List ℕ) (r : RecordAnswer) → Says x r → ((value : Svcb) × SpellsRecord x value) ⊎ ((q : ℕ) × (reason : WireRefusal) × RecordRefusedAt x q reason)
either_says x (Ok value) s = inl (value, s)
either_says x (Err at) s = inr (at.place, at.reason, s)

same_refused : (q q' : ℕ) (reason reason' : WireRefusal) → (let a : RecordAnswer = refused q reason in a) ≡ refused q' reason' → (q ≡ q') × (reason ≡ reason')
same_refused q q' reason reason' e =
    let h : (let a : At WireRefusal = record { place = q; reason = reason } in a) ≡ (let b : At WireRefusal = record { place = q'; reason = reason' } in b) = cc in
    (ap (λ (a : At WireRefusal). a.place) h, ap (λ (a : At WireRefusal). a.reason) h)

no_both : (value : Svcb) (q : ℕ) (reason : WireRefusal) (r : RecordAnswer) → r ≡ Ok value → r ≡ refused q reason → ⊥
no_both value q reason r a b = cc

pub one_of : (x : List ℕ) → AreBytes x → OneRecord x
one_of x bytes = record {
  some = either_says x (read_record x) (record_says x bytes);
  one_record = λ value value' a b. same_ok value value' (sym (spelled_reads x value a) ∙ spelled_reads x value' b);
  one_refusal = λ q q' reason reason' a b. same_refused q q' reason reason' (sym (refused_reads x q reason bytes a) ∙ refused_reads x q' reason' bytes b);
  not_both = λ value q reason a b. no_both value q reason (read_record x) (spelled_reads x value a) (refused_reads x q reason bytes b);
}

pub record_spelled : (value : Svcb) → IsRecord value → length (record_octets value) ≤ 65535 → SpellsRecord (record_octets value) value
record_spelled value h most = record { target = wire_form value.target; split = refl; fits = h.priority; named = name_spelled value.target h.target; params = h.params; sized = most }

pub record_read : (value : Svcb) → IsRecord value → length (record_octets value) ≤ 65535 → read_record (record_octets value) ≡ Ok value
record_read value h most = spelled_reads (record_octets value) value (record_spelled value h most)

-- what was written is read back
pub written_read : (value : Svcb) (octets : List ℕ) → IsRecord value → octets ≡ record_octets value → length octets ≤ 65535 → read_record octets ≡ Ok value
written_read value octets h is most = ap read_record is ∙ record_read value h (omega (arith, ap length is, most))
