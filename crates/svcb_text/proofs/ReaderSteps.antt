-- The steps of the code as steps of the reading.
use Rattle.std.proofs.Common.{◌≡◌, ℕ, zero, suc, ◌+◌, ◌-◌, ◌<◌, ◌≤◌, Bool, true, false, cond, List, [], ◌∷◌, length, take, drop, Some, None, Result, Ok, Err, IfOk, refl, ap, sym, ◌∙◌, subst, arith}
use Rattle.std.proofs.lemmas.List.{drop_at, take_rest, length-drop}
use Rattle.std.specs.BTreeMap.{is_at}
use Rattle.std.specs.Map.{values_of, lookup}
use Rattle.std.specs.Option.{is_some}
use Rattle.std.specs.Ordering.{nat_cmp}
use Rattle.alt_base.specs.declared.refusal.At.{At}
use Rattle.alt_base.specs.declared.refusal.Refused.{Refused}
use Rattle.alt_base.specs.declared.refusal.Refused.TheVariants.{NoMemory, At as RefusedThere}
use Rattle.dns_names.specs.Names.{AreBytes}
use Rattle.dns_names.specs.declared.refusal.NameRefusal.{NameRefusal}
use Rattle.dns_names.specs.TextReading.{read_text}
use Rattle.field_text.specs.BlanksGrammar.{is_blank}
use Rattle.field_text.specs.BlanksReading.{read_blanks, after_blanks}
use Rattle.field_text.specs.DeltaReading.{read_delta_seconds}
use Rattle.field_text.specs.Runs.{run_of, after_run}
use Rattle.field_text.proofs.RunLemmas.{longest_run, taken_by}
use Rattle.svcb_wire.specs.declared.param.Param.{Param}
use Rattle.svcb_wire.specs.declared.svcb.Svcb.{Svcb}
use Rattle.svcb_wire.specs.Octets.{key_of}
use Rattle.svcb_wire.specs.Usable.{has_key}
use Rattle.svcb_text.specs.declared.refusal.RecordTextRefusal.{RecordTextRefusal}
use Rattle.svcb_text.specs.declared.refusal.RecordTextRefusal.TheVariants.{BadPriority, BadTarget, BadKey, RepeatedKey}
use Rattle.alt_base.specs.Answers.{refused, Answers}
use Rattle.svcb_values.specs.KeyNames.{is_key_byte, key_named}
use Rattle.svcb_text.specs.ParamOrder.{AreKeyed}
use Rattle.svcb_text.specs.Placing.{placed}
use Rattle.svcb_text.specs.TextReading.{ParamsAnswer, ends_key, behind_key, by_key, first_param, by_param, params_from, params_behind, read_params, with_params, item_of, after_item, by_target, behind_priority, priority_of, by_priority, from_priority}
use Rattle.svcb_text.specs.TextGrammar.{given_key, given_value}
use Rattle.svcb_values.proofs.ValueLaws.{value_of_key}
use Rattle.svcb_text.proofs.FirstParam.{IsFirstParam, ParamSays, first_says}
use Rattle.svcb_text.proofs.KeyedMap.{has_found}

back_is : (class : ℕ → Bool) (x : List ℕ) (count : ℕ) → count ≡ length (run_of class x) → drop count x ≡ after_run class x
back_is class x count e = ap (drop count) (longest_run class x).text ∙ drop_at (run_of class x) (after_run class x) count (sym e)

-- the parameter at the front, by the bytes of its key and those behind them
param_is : (params : List Param) (place count : ℕ) (x : List ℕ) → count ≡ length (run_of is_key_byte x) → first_param params place x ≡ by_key (key_named (take count x)) params place count (take (length x - count) (drop count x))
param_is params place count x e =
    ap (λ n. by_key (key_named (run_of is_key_byte x)) params place n (after_run is_key_byte x)) (sym e)
    ∙ ap (λ xs. by_key (key_named xs) params place count (after_run is_key_byte x)) (sym (taken_by is_key_byte x count e))
    ∙ ap (λ xs. by_key (key_named (take count x)) params place count xs) (sym (back_is is_key_byte x count e) ∙ sym (take_rest x count))

pub no_key : (params : List Param) (place count : ℕ) (x : List ℕ) → count ≡ length (run_of is_key_byte x) → None ≡ key_named (take count x) → first_param params place x ≡ refused place BadKey
no_key params place count x e is = param_is params place count x e ∙ ap (λ o. by_key o params place count (take (length x - count) (drop count x))) (sym is)

pub no_end : (params : List Param) (place count key : ℕ) (ended : Bool) (x : List ℕ) → count ≡ length (run_of is_key_byte x) → Some key ≡ key_named (take count x) → ended ≡ ends_key (take (length x - count) (drop count x)) → ended ≡ false
    → first_param params place x ≡ refused place BadKey
no_end params place count key ended x e is ends isnt =
    let rest = take (length x - count) (drop count x) in
    param_is params place count x e ∙ ap (λ o. by_key o params place count rest) (sym is)
    ∙ ap (λ t. cond t (cond (has_key key params) (refused place RepeatedKey) (behind_key place key count rest)) (refused place BadKey)) (sym ends ∙ isnt)

-- a key that may end there
key_is : (params : List Param) (place count key : ℕ) (ended : Bool) (x : List ℕ) → count ≡ length (run_of is_key_byte x) → Some key ≡ key_named (take count x) → ended ≡ ends_key (take (length x - count) (drop count x)) → ended ≡ true
    → first_param params place x ≡ cond (has_key key params) (refused place RepeatedKey) (behind_key place key count (take (length x - count) (drop count x)))
key_is params place count key ended x e is ends does =
    let rest = take (length x - count) (drop count x) in
    param_is params place count x e ∙ ap (λ o. by_key o params place count rest) (sym is)
    ∙ ap (λ t. cond t (cond (has_key key params) (refused place RepeatedKey) (behind_key place key count rest)) (refused place BadKey)) (sym ends ∙ does)

pub key_found : (entries : List (ℕ × Param)) (place count key : ℕ) (ended found : Bool) (x : List ℕ) → AreKeyed entries → count ≡ length (run_of is_key_byte x) → Some key ≡ key_named (take count x) → ended ≡ ends_key (take (length x - count) (drop count x))
    → ended ≡ true → found ≡ is_some (lookup (is_at (nat_cmp key)) entries) → found ≡ true → first_param (values_of entries) place x ≡ refused place RepeatedKey
key_found entries place count key ended found x keyed e is ends does has it =
    let rest = take (length x - count) (drop count x) in
    key_is (values_of entries) place count key ended x e is ends does ∙ ap (λ t. cond t (refused place RepeatedKey) (behind_key place key count rest)) (sym (has_found key entries keyed) ∙ sym has ∙ it)

pub key_new : (r : Result (Param × ℕ) (Refused RecordTextRefusal)) (entries : List (ℕ × Param)) (place count key : ℕ) (ended found : Bool) (x : List ℕ) → AreKeyed entries → count ≡ length (run_of is_key_byte x) → Some key ≡ key_named (take count x)
    → ended ≡ ends_key (take (length x - count) (drop count x)) → ended ≡ true → found ≡ is_some (lookup (is_at (nat_cmp key)) entries) → found ≡ false → Answers r (behind_key place key count (take (length x - count) (drop count x)))
    → Answers r (first_param (values_of entries) place x)
key_new r entries place count key ended found x keyed e is ends does has isnt answers =
    let rest = take (length x - count) (drop count x) in
    let reads : first_param (values_of entries) place x ≡ behind_key place key count rest =
    key_is (values_of entries) place count key ended x e is ends does ∙ ap (λ t. cond t (refused place RepeatedKey) (behind_key place key count rest)) (sym (has_found key entries keyed) ∙ sym has ∙ isnt) in
    subst (Answers r) (sym reads) answers

-- the loop: some count of parameters more, which is enough for the rest, reads the rest as the whole is read
abbrev pub Reads : List Param → ℕ → List ℕ → ParamsAnswer → Type 0
Reads params place x whole = (k : ℕ) × (length x < k) × (params_behind k params place x ≡ whole)

-- behind the blanks
record IsAt (params : List Param) (place : ℕ) (x y : List ℕ) (whole : ParamsAnswer) : Type 0 where
  pub left : ℕ
  pub enough : length x < suc left
  pub reads : params_from (params_behind left) params place y ≡ whole

behind_blanks : (params : List Param) (at blanks : ℕ) (x y : List ℕ) (whole : ParamsAnswer) → blanks ≡ length (run_of is_blank x) → y ≡ after_blanks x → Reads params at x whole → IsAt params (at + blanks) x y whole
behind_blanks params at blanks x y whole e f (zero, enough, reads) = absurd (omega arith)
behind_blanks params at blanks x y whole e f (suc k, enough, reads) =
    record { left = k; enough = enough; reads = ap (λ n. params_from (params_behind k) params (at + n) y) e ∙ ap (params_from (params_behind k) params (read_blanks at x)) f ∙ reads }

pub no_more : (params : List Param) (at blanks : ℕ) (x y : List ℕ) (whole : ParamsAnswer) → blanks ≡ length (run_of is_blank x) → y ≡ after_blanks x → length y ≡ 0 → Reads params at x whole → whole ≡ Ok params
no_more params at blanks x (b ∷ bs) whole e f none reads = absurd (omega arith)
no_more params at blanks x [] whole e f none reads = let h = behind_blanks params at blanks x [] whole e f reads in sym h.reads

from_some : (next : List Param → ℕ → List ℕ → ParamsAnswer) (before : List Param) (place : ℕ) (y : List ℕ) → 1 ≤ length y → params_from next before place y ≡ by_param (first_param before place y) before place y next
from_some next before place [] some = absurd (omega arith)
from_some next before place (b ∷ bs) some = refl

pub stopped : (params : List Param) (at blanks : ℕ) (x y : List ℕ) (whole : ParamsAnswer) (e : Refused RecordTextRefusal) → blanks ≡ length (run_of is_blank x) → y ≡ after_blanks x → 1 ≤ length y → Reads params at x whole
    → (let r : Result (Param × ℕ) (Refused RecordTextRefusal) = Err e in Answers r (first_param params (at + blanks) y)) → (let r : Result (List Param) (Refused RecordTextRefusal) = Err e in Answers r whole)
stopped params at blanks x y whole NoMemory c f some reads is = tt
stopped params at blanks x y whole (RefusedThere place reason) c f some reads is =
    let h = behind_blanks params at blanks x y whole c f reads in
    sym h.reads ∙ from_some (params_behind h.left) params (at + blanks) y some ∙ ap (λ r. by_param r params (at + blanks) y (params_behind h.left)) is

pub passed : (params longer : List Param) (param : Param) (at blanks size : ℕ) (x y rest : List ℕ) (whole : ParamsAnswer) → blanks ≡ length (run_of is_blank x) → y ≡ after_blanks x → 1 ≤ length y → 1 ≤ size → size ≤ length y → length y ≤ length x
    → first_param params (at + blanks) y ≡ Ok (param, size) → longer ≡ placed param params → rest ≡ drop size y → Reads params at x whole → Reads longer (at + blanks + size) rest whole
passed params longer param at blanks size x y rest whole c f some above within shorter is longer_is rest_is reads =
    let h = behind_blanks params at blanks x y whole c f reads in (
      h.left,
      omega (arith, ap length rest_is, length-drop size y, h.enough, above, within, shorter),
      ap (λ ps. params_behind h.left ps (at + blanks + size) rest) longer_is
          ∙ ap (λ xs. params_behind h.left (placed param params) (at + blanks + size) xs) rest_is
          ∙ sym (ap (λ r. by_param r params (at + blanks) y (params_behind h.left)) is)
          ∙ sym (from_some (params_behind h.left) params (at + blanks) y some)
          ∙ h.reads,
    )

-- an item and what stands behind it
pub target_read : (size priority place count : ℕ) (x : List ℕ) (name : List (List ℕ)) → count ≡ length (item_of x) → read_text (take count x) ≡ Ok name
    → behind_priority size priority place x ≡ with_params size priority name (read_params (place + count) (take (length x - count) (drop count x)))
target_read size priority place count x name e is =
    ap (λ xs. by_target (read_text xs) size priority place x) (sym (taken_by _ x count e))
    ∙ ap (λ r. by_target r size priority place x) is
    ∙ ap (λ n. with_params size priority name (read_params (place + n) (after_item x))) (sym e)
    ∙ ap (λ xs. with_params size priority name (read_params (place + count) xs)) (sym (back_is _ x count e) ∙ sym (take_rest x count))

pub target_stops : (size priority place count : ℕ) (x : List ℕ) (at : At NameRefusal) → count ≡ length (item_of x) → read_text (take count x) ≡ Err at → behind_priority size priority place x ≡ refused (place + at.place) BadTarget
target_stops size priority place count x at e is = ap (λ xs. by_target (read_text xs) size priority place x) (sym (taken_by _ x count e)) ∙ ap (λ r. by_target r size priority place x) is

pub params_stop : (size priority : ℕ) (name : List (List ℕ)) (a : ParamsAnswer) (e : Refused RecordTextRefusal) → (let r : Result (List Param) (Refused RecordTextRefusal) = Err e in Answers r a)
    → (let r : Result Svcb (Refused RecordTextRefusal) = Err e in Answers r (with_params size priority name a))
params_stop size priority name a NoMemory is = tt
params_stop size priority name a (RefusedThere place reason) is = ap (with_params size priority name) is

pub no_priority : (size place count : ℕ) (x : List ℕ) → count ≡ length (item_of x) → None ≡ priority_of (read_delta_seconds (take count x)) → from_priority size place x ≡ refused place BadPriority
no_priority size place count x e is = ap (λ xs. by_priority (priority_of (read_delta_seconds xs)) size place x) (sym (taken_by _ x count e)) ∙ ap (λ o. by_priority o size place x) (sym is)

pub priority_read : (size place priority count blanks : ℕ) (x y rest : List ℕ) → count ≡ length (item_of x) → Some priority ≡ priority_of (read_delta_seconds (take count x)) → y ≡ drop count x → blanks ≡ length (run_of is_blank y) → rest ≡ after_blanks y
    → from_priority size place x ≡ behind_priority size priority (place + count + blanks) rest
priority_read size place priority count blanks x y rest e is y_is blanks_is rest_is =
    let after : after_item x ≡ y = sym (back_is _ x count e) ∙ sym y_is in
    ap (λ xs. by_priority (priority_of (read_delta_seconds xs)) size place x) (sym (taken_by _ x count e))
    ∙ ap (λ o. by_priority o size place x) (sym is)
    ∙ ap (λ xs. behind_priority size priority (read_blanks (place + length (item_of x)) xs) (after_blanks xs)) after
    ∙ ap (λ n. behind_priority size priority (place + n + length (run_of is_blank y)) (after_blanks y)) (sym e)
    ∙ ap (λ n. behind_priority size priority (place + count + n) (after_blanks y)) (sym blanks_is)
    ∙ ap (behind_priority size priority (place + count + blanks)) (sym rest_is)

pub place_on : (at blanks size total : ℕ) (x y rest : List ℕ) → y ≡ drop blanks x → blanks ≤ length x → rest ≡ drop size y → size ≤ length y → at + length x ≤ total → at + blanks + size + length rest ≤ total
place_on at blanks size total x y rest e within f fits below = omega (arith, ap length e, length-drop blanks x, ap length f, length-drop size y, within, fits, below)

pub shorter_on : (blanks size total : ℕ) (x y rest : List ℕ) → y ≡ drop blanks x → rest ≡ drop size y → length x ≤ total → length rest ≤ total
shorter_on blanks size total x y rest e f below = omega (arith, ap length e, length-drop blanks x, ap length f, length-drop size y, below)

-- a parameter that is read is new
pub found_new : (r : Result (Param × ℕ) (Refused RecordTextRefusal)) (params : List Param) (place : ℕ) (x : List ℕ) → AreBytes x → Answers r (first_param params place x) → IfOk r (λ found. has_key (key_of found.0) params ≡ false)
found_new (Err e) params place x bytes is = tt
found_new (Ok found) params place x bytes is =
    let s : IsFirstParam params x found.0 found.1 = subst (ParamSays params place x) is (first_says params place x bytes) in
    subst (λ k. has_key k params ≡ false) (sym (value_of_key (given_key s.given) (given_value s.given) found.0 s.value)) s.first.is_new
