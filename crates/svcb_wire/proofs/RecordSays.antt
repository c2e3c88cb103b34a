-- The reading of a record against its grammar.
use Rattle.std.proofs.Common.{◌≡◌, ℕ, ◌+◌, ◌<◌, ◌≤◌, Bool, true, false, cond, nat_lt, List, [], ◌++◌, length, take, drop, Result, Ok, Err, IfOk, refl, ap, sym, ◌∙◌, subst, arith, inl, inr}
use Rattle.std.proofs.lemmas.List.{length-append, length-take-le, take-append-drop, drop_at, drop-drop}
use Rattle.byteorder.specs.Endian.{big_number, big_bytes}
use Rattle.alt_base.specs.declared.refusal.Refused.{Refused}
use Rattle.alt_base.specs.declared.refusal.Refused.TheVariants.{NoMemory, At as RefusedThere}
use Rattle.dns_names.specs.Names.{AreBytes}
use Rattle.dns_names.specs.WireGrammar.{SpellsWire, SpellsUpTo}
use Rattle.dns_names.specs.WireReading.{WireAnswer, read_wire}
use Rattle.dns_names.proofs.WireNames.{read_says as name_says, refusal_says as name_refused, spelled_name}
use Rattle.svcb_wire.specs.declared.param.Param.{Param}
use Rattle.svcb_wire.specs.declared.svcb.Svcb.{Svcb}
use Rattle.svcb_wire.specs.declared.refusal.WireRefusal.{WireRefusal}
use Rattle.svcb_wire.specs.declared.refusal.WireRefusal.TheVariants.{Short, BadTarget, KeyOrder, ParamPast, BadValue, TooLong}
use Rattle.alt_base.specs.Answers.{refused, Answers, IfRefused}
use Rattle.svcb_wire.specs.Octets.{params_octets}
use Rattle.svcb_wire.specs.Forms.{AreParams}
use Rattle.svcb_wire.specs.Records.{IsRecord}
use Rattle.svcb_wire.specs.RecordReading.{ParamsAnswer, RecordAnswer, read_params, with_params, target_by, behind_target, read_target, read_record}
use Rattle.svcb_wire.specs.RecordGrammar.{SpellsRecord, GoesOn, RecordRefusedAt}
use Rattle.alt_base.proofs.Numbers.{true_lt, false_lt}
use Rattle.dns_names.proofs.Bytes.{bytes_drop, bytes_front, bytes_back}
use Rattle.svcb_wire.proofs.Pairs.{pair_split, pair_below}
use Rattle.svcb_wire.proofs.ParamLists.{ParamsStop, ParamsSays, params_say}

abbrev pub Says : List ℕ → RecordAnswer → Type 0
Says x (Ok value) = SpellsRecord x value
Says x (Err at) = RecordRefusedAt x at.place at.reason

-- a priority and a target in front of a rest, at a place
pub record Headed (x : List ℕ) (name : List (List ℕ)) (place : ℕ) (rest : List ℕ) : Type 0 where
  pub target : List ℕ
  pub split : x ≡ big_bytes 2 (big_number 2 x) ++ (target ++ rest)
  pub fits : big_number 2 x < 65536
  pub named : SpellsWire target name
  pub behind : place ≡ 2 + length target
  pub sized : length x ≤ 65535

goes_on : (x rest more : List ℕ) (name : List (List ℕ)) (place at : ℕ) (done : List Param) → Headed x name place rest → rest ≡ params_octets done ++ more → AreParams 0 done → at ≡ place + length (params_octets done) → GoesOn x done at more
goes_on x rest more name place at done h split are is = record {
  priority = big_bytes 2 (big_number 2 x);
  target = h.target;
  name = name;
  split = h.split ∙ ap (λ xs. big_bytes 2 (big_number 2 x) ++ (h.target ++ xs)) split;
  two = refl;
  named = h.named;
  params_are = are;
  sized = h.sized;
  behind = omega (arith, is, h.behind);
}

headed_length : (x rest : List ℕ) (name : List (List ℕ)) (place : ℕ) → Headed x name place rest → length x ≡ place + length rest
headed_length x rest name place h = omega (arith, ap length h.split, length-append h.target rest, h.behind)

stop_says : (reason : WireRefusal) (x rest : List ℕ) (name : List (List ℕ)) (place q : ℕ) → Headed x name place rest → ParamsStop place 0 rest q reason → RecordRefusedAt x q reason
stop_says Short x rest name place q h s = record {
  place = omega (arith, s.stops.0, headed_length x rest name place h, ap length s.split, length-append (params_octets s.done) s.rest);
  cut = inr (s.done, place + length (params_octets s.done), s.rest, goes_on x rest s.rest name place _ s.done h s.split s.are refl, s.some, s.stops.1);
}
stop_says BadTarget x rest name place q h s = absurd s.stops
stop_says KeyOrder x rest name place q h s = record {
  params = s.done;
  rest = s.rest;
  goes = goes_on x rest s.rest name place q s.done h s.split s.are s.stops.0;
  key = s.stops.1;
  size = s.stops.2;
  tail = s.stops.3;
  head = s.stops.4;
  below = s.stops.5;
}
stop_says ParamPast x rest name place q h s = record {
  params = s.done;
  rest = s.rest;
  goes = goes_on x rest s.rest name place q s.done h s.split s.are s.stops.0;
  key = s.stops.1;
  size = s.stops.2;
  tail = s.stops.3;
  head = s.stops.4;
  above = s.stops.5;
  past = s.stops.6;
}
stop_says (BadValue key) x rest name place q h s = record {
  params = s.done;
  place = place + length (params_octets s.done);
  rest = s.rest;
  goes = goes_on x rest s.rest name place _ s.done h s.split s.are refl;
  value = s.stops.1;
  more = s.stops.2;
  head = s.stops.3;
  above = s.stops.4;
  bad = s.stops.5;
  first = s.stops.0;
}
stop_says TooLong x rest name place q h s = absurd s.stops

params_says : (a : ParamsAnswer) (x rest : List ℕ) (name : List (List ℕ)) (place : ℕ) → Headed x name place rest → ParamsSays place 0 [] rest a → Says x (with_params (big_number 2 x) name a)
params_says (Ok params) x rest name place h s = record {
  target = h.target;
  split = h.split ∙ ap (λ xs. big_bytes 2 (big_number 2 x) ++ (h.target ++ xs)) (sym s.octets ∙ ap params_octets (sym s.all));
  fits = h.fits;
  named = h.named;
  params = subst (λ ps. AreParams 0 ps) (sym s.all) s.are;
  sized = h.sized;
}
params_says (Err at) x rest name place h s = stop_says at.reason x rest name place at.place h s

headed_by : (x : List ℕ) (name : List (List ℕ)) (place : ℕ) → AreBytes x → 2 ≤ length x → length x ≤ 65535 → SpellsUpTo 2 (drop 2 x) name place → Headed x name place (drop place x)
headed_by x name place bytes two most s =
    let f = s.spelled in
    let behind : drop place x ≡ f.rest = ap (λ n. drop n x) s.end ∙ sym (drop-drop (length s.front) 2 x) ∙ ap (drop (length s.front)) f.split ∙ drop_at s.front f.rest (length s.front) refl in
    record {
      target = s.front;
      split = pair_split x bytes two ∙ ap (λ xs. big_bytes 2 (big_number 2 x) ++ xs) (f.split ∙ ap (λ xs. s.front ++ xs) (sym behind));
      fits = pair_below x bytes two;
      named = f.spelled;
      behind = s.end;
      sized = most;
    }

target_says : (r : WireAnswer) (x : List ℕ) → AreBytes x → 2 ≤ length x → length x ≤ 65535 → read_wire 2 (drop 2 x) ≡ r → Says x (behind_target (big_number 2 x) x (target_by r))
target_says (Ok found) x bytes two most is =
    let s = name_says 2 found.1 (drop 2 x) found.0 is in
    params_says (read_params found.1 (drop found.1 x)) x (drop found.1 x) found.0 found.1 (headed_by x found.0 found.1 bytes two most s)
    (params_say (length (drop found.1 x)) found.1 0 [] (drop found.1 x) (bytes_drop found.1 x bytes) (omega arith))
target_says (Err at) x bytes two most is = record {
  priority = take 2 x;
  rest = drop 2 x;
  reason = at.reason;
  split = sym (take-append-drop 2 x);
  two = length-take-le 2 x two;
  refused = name_refused 2 at.place at.reason (drop 2 x) is;
  sized = most;
}

says_by : (a b : Bool) (x : List ℕ) → AreBytes x → nat_lt 65535 (length x) ≡ a → nat_lt (length x) 2 ≡ b
    → Says x (cond a (refused 65535 TooLong) (cond b (refused (length x) Short) (behind_target (big_number 2 x) x (read_target x))))
says_by true b x bytes p q = record { long = true_lt _ _ p; place = refl }
says_by false true x bytes p q = record { place = refl; cut = inl (true_lt _ _ q) }
says_by false false x bytes p q = target_says (read_wire 2 (drop 2 x)) x bytes (false_lt _ _ q) (false_lt _ _ p) refl

-- what is read is so in the grammar
pub record_says : (x : List ℕ) → AreBytes x → Says x (read_record x)
record_says x bytes = says_by _ _ x bytes refl refl

pub read_says : (x : List ℕ) (value : Svcb) → AreBytes x → read_record x ≡ Ok value → SpellsRecord x value
read_says x value bytes e = subst (Says x) e (record_says x bytes)

pub refusal_says : (x : List ℕ) (q : ℕ) (reason : WireRefusal) → AreBytes x → read_record x ≡ refused q reason → RecordRefusedAt x q reason
refusal_says x q reason bytes e = subst (Says x) e (record_says x bytes)

pub spelled_record : (x : List ℕ) (value : Svcb) → AreBytes x → SpellsRecord x value → IsRecord value
spelled_record x value bytes s = record {
  priority = s.fits;
  target = spelled_name s.target value.target (bytes_front s.target (params_octets value.params) (bytes_back (big_bytes 2 value.priority) (s.target ++ params_octets value.params) (subst AreBytes s.split bytes))) s.named;
  params = s.params;
}

pub spelled_by : (r : Result Svcb (Refused WireRefusal)) (x : List ℕ) → AreBytes x → Answers r (read_record x) → IfOk r (SpellsRecord x)
spelled_by (Ok value) x bytes h = read_says x value bytes h
spelled_by (Err e) x bytes h = tt

pub record_by : (r : Result Svcb (Refused WireRefusal)) (x : List ℕ) → AreBytes x → Answers r (read_record x) → IfOk r IsRecord
record_by (Ok value) x bytes h = spelled_record x value bytes (read_says x value bytes h)
record_by (Err e) x bytes h = tt

pub refused_by : (r : Result Svcb (Refused WireRefusal)) (x : List ℕ) → AreBytes x → Answers r (read_record x) → IfRefused r (RecordRefusedAt x)
refused_by (Ok value) x bytes h = tt
refused_by (Err NoMemory) x bytes h = tt
refused_by (Err (RefusedThere place reason)) x bytes h = refusal_says x place reason bytes h
