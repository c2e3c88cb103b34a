-- Which keys stand among parameters, and where a parameter is placed among others.
use Rattle.std.proofs.Common.{◌≡◌, ◌≢◌, ℕ, suc, ◌+◌, ◌≤◌, Bool, true, false, cond, ◌||◌, nat_eq, nat_lt, List, [], ◌∷◌, length, refl, sym, ◌∙◌, arith}
use Rattle.std.proofs.lemmas.List.{length-append}
use Rattle.svcb_wire.specs.declared.param.Param.{Param}
use Rattle.svcb_wire.specs.Octets.{key_of, value_of, param_octets, params_octets}
use Rattle.svcb_wire.specs.Forms.{HasForm, AreParams}
use Rattle.svcb_wire.specs.Usable.{has_key}
use Rattle.alt_base.proofs.Numbers.{eq_false, false_eq, true_lt, false_lt}
use Rattle.svcb_values.specs.KeyOrder.{IsNew, AreDistinct, IsOrderOf}
use Rattle.svcb_text.specs.ParamOrder.{keys_of}
use Rattle.svcb_text.specs.Placing.{placed}
use Rattle.svcb_values.proofs.Order.{RiseFrom, all_placed_by, rise_placed, only_order, placed_order}
use Rattle.std.proofs.lemmas.Bool.{or_parts, or_from}
use Rattle.alt_base.proofs.Booleans.{or_swap}

-- parameters placed in turn among others
abbrev pub all_placed : List Param → List Param → List Param
all_placed before params = all_placed_by key_of before params

abbrev pub in_order : List Param → List Param
in_order params = all_placed [] params

-- each parameter's key is new, when it is placed among those before it
abbrev pub AreFresh : List Param → List Param → Type 0
AreFresh before [] = Unit {0}
AreFresh before (param ∷ params) = (has_key (key_of param) before ≡ false) × AreFresh (placed param before) params

abbrev pub AreNew : List Param → List Param → Type 0
AreNew before [] = Unit {0}
AreNew before (param ∷ params) = (has_key (key_of param) before ≡ false) × AreNew before params

has_placed : (key : ℕ) (param : Param) (params : List Param) → has_key key (placed param params) ≡ (nat_eq (key_of param) key || has_key key params)
has_placed key param [] = refl
has_placed key param (other ∷ params) = go (nat_lt (key_of param) (key_of other)) (has_placed key param params)
  where
    go : (t : Bool) → has_key key (placed param params) ≡ (nat_eq (key_of param) key || has_key key params)
        → has_key key (cond t (param ∷ other ∷ params) (other ∷ placed param params)) ≡ (nat_eq (key_of param) key || (nat_eq (key_of other) key || has_key key params))
    go true rec = refl
    go false rec = rw rec (or_swap (nat_eq (key_of other) key) (nat_eq (key_of param) key) (has_key key params))

pub none_placed : (key : ℕ) (param : Param) (params : List Param) → has_key key (placed param params) ≡ false → (key_of param ≢ key) × (has_key key params ≡ false)
none_placed key param params h = let e = or_parts _ _ (sym (has_placed key param params) ∙ h) in (false_eq _ _ e.0, e.1)

pub placed_none : (key : ℕ) (param : Param) (params : List Param) → key_of param ≢ key → has_key key params ≡ false → has_key key (placed param params) ≡ false
placed_none key param params apart h = has_placed key param params ∙ or_from _ _ (eq_false _ _ apart) h

new_placed : (param : Param) (before params : List Param) → IsNew (key_of param) (keys_of params) → AreNew before params → AreNew (placed param before) params
new_placed param before [] n are = tt
new_placed param before (p ∷ ps) n are = (placed_none (key_of p) param before n.0 are.0, new_placed param before ps n.1 are.1)

fresh_of : (before params : List Param) → AreDistinct (keys_of params) → AreNew before params → AreFresh before params
fresh_of before [] d n = tt
fresh_of before (p ∷ ps) d n = (n.0, fresh_of (placed p before) ps d.1 (new_placed p before ps d.0 n.1))

all_new : (params : List Param) → AreNew [] params
all_new [] = tt
all_new (p ∷ ps) = (refl, all_new ps)

pub distinct_fresh : (params : List Param) → AreDistinct (keys_of params) → AreFresh [] params
distinct_fresh params d = fresh_of [] params d (all_new params)

split_new : (param : Param) (before params : List Param) → AreNew (placed param before) params → IsNew (key_of param) (keys_of params) × AreNew before params
split_new param before [] n = (tt, tt)
split_new param before (p ∷ ps) n =
    let e = none_placed (key_of p) param before n.0 in
    let s = split_new param before ps n.1 in
    ((e.0, s.0), (e.1, s.1))

fresh_apart : (before params : List Param) → AreFresh before params → AreDistinct (keys_of params) × AreNew before params
fresh_apart before [] f = (tt, tt)
fresh_apart before (p ∷ ps) f =
    let r = fresh_apart (placed p before) ps f.1 in
    let s = split_new p before ps r.1 in
    ((s.0, r.0), (f.0, s.1))

pub fresh_distinct : (params : List Param) → AreFresh [] params → AreDistinct (keys_of params)
fresh_distinct params f = (fresh_apart [] params f).0

new_behind : (key : ℕ) (before params : List Param) → has_key key (all_placed before params) ≡ false → IsNew key (keys_of params) × (has_key key before ≡ false)
new_behind key before [] h = (tt, h)
new_behind key before (p ∷ ps) h =
    let r = new_behind key (placed p before) ps h in
    let e = none_placed key p before r.1 in
    ((λ same. e.0 (sym same), r.0), e.1)

pub new_among : (key : ℕ) (params : List Param) → has_key key (all_placed [] params) ≡ false → IsNew key (keys_of params)
new_among key params h = (new_behind key [] params h).0

none_behind : (key : ℕ) (before params : List Param) → IsNew key (keys_of params) → has_key key before ≡ false → has_key key (all_placed before params) ≡ false
none_behind key before [] n h = h
none_behind key before (p ∷ ps) n h = none_behind key (placed p before) ps n.1 (placed_none key p before (λ e. n.0 (sym e)) h)

pub none_among : (key : ℕ) (params : List Param) → IsNew key (keys_of params) → has_key key (all_placed [] params) ≡ false
none_among key params n = none_behind key [] params n refl

-- placed in turn, parameters of distinct keys stand in rising keys
all_rise : (before params : List Param) → AreFresh before params → RiseFrom 0 (keys_of before) → RiseFrom 0 (keys_of (all_placed before params))
all_rise before [] fresh r = r
all_rise before (p ∷ ps) fresh r = all_rise (placed p before) ps fresh.1 (rise_placed key_of 0 p before (omega arith) fresh.0 r)

pub fresh_order : (params : List Param) → AreFresh [] params → IsOrderOf key_of params (in_order params)
fresh_order params fresh = placed_order key_of params 0 (all_rise [] params fresh tt)

pub order_is : (params ordered : List Param) → AreDistinct (keys_of params) → IsOrderOf key_of params ordered → ordered ≡ in_order params
order_is params ordered d o = only_order key_of params ordered (in_order params) o (fresh_order params (distinct_fresh params d))

-- parameters in rising keys, each with a value of its key's form
abbrev pub AreFormed : ℕ → List Param → Type 0
AreFormed least [] = Unit {0}
AreFormed least (param ∷ params) = (least ≤ key_of param) × HasForm param × AreFormed (suc (key_of param)) params

formed_placed : (least : ℕ) (param : Param) (params : List Param) → least ≤ key_of param → HasForm param → has_key (key_of param) params ≡ false → AreFormed least params → AreFormed least (placed param params)
formed_placed least param [] above form none are = (above, form, tt)
formed_placed least param (other ∷ params) above form none are =
    let e = or_parts (nat_eq (key_of other) (key_of param)) (has_key (key_of param) params) none in
    go (nat_lt (key_of param) (key_of other)) refl (false_eq _ _ e.0) (λ h. formed_placed (suc (key_of other)) param params h form e.1 are.2)
  where
    go : (t : Bool) → nat_lt (key_of param) (key_of other) ≡ t → key_of other ≢ key_of param → (suc (key_of other) ≤ key_of param → AreFormed (suc (key_of other)) (placed param params))
        → AreFormed least (cond t (param ∷ other ∷ params) (other ∷ placed param params))
    go true is apart rec = (above, form, (omega (arith, true_lt (key_of param) (key_of other) is), are.1, are.2))
    go false is apart rec = (are.0, are.1, rec (omega (arith, false_lt (key_of param) (key_of other) is, apart)))

abbrev pub HaveForms : List Param → Type 0
HaveForms [] = Unit {0}
HaveForms (param ∷ params) = HasForm param × HaveForms params

pub formed_all : (before params : List Param) → HaveForms params → AreFresh before params → AreFormed 0 before → AreFormed 0 (all_placed before params)
formed_all before [] forms fresh are = are
formed_all before (p ∷ ps) forms fresh are = formed_all (placed p before) ps forms.1 fresh.1 (formed_placed 0 p before (omega arith) forms.0 fresh.0 are)

-- values that all stand in RDATA of at most 65,535 octets are short
pub params_are : (least : ℕ) (params : List Param) → AreFormed least params → length (params_octets params) ≤ 65535 → AreParams least params
params_are least [] are most = tt
params_are least (p ∷ ps) are most =
    let count : length (params_octets (p ∷ ps)) ≡ length (param_octets p) + length (params_octets ps) = length-append (param_octets p) (params_octets ps) in
    let size : length (param_octets p) ≡ 4 + length (value_of p) = omega arith in
    (are.0, record { form = are.1; sized = omega arith }, params_are (suc (key_of p)) ps are.2 (omega arith))
