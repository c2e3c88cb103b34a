-- The parameters from a place on: what is read, against the grammar.
use Rattle.std.proofs.Common.{◌≡◌, ℕ, zero, suc, ◌+◌, ◌≤◌, List, [], ◌∷◌, ◌++◌, length, drop, Ok, Err, refl, ap, sym, ◌∙◌, subst, arith}
use Rattle.std.proofs.lemmas.List.{append_assoc, append-nil, length-append, length-drop, drop_at}
use Rattle.alt_base.specs.declared.refusal.At.{At}
use Rattle.dns_names.specs.Names.{AreBytes}
use Rattle.svcb_wire.specs.declared.param.Param.{Param}
use Rattle.svcb_wire.specs.declared.refusal.WireRefusal.{WireRefusal}
use Rattle.svcb_wire.specs.Octets.{key_of, param_octets, params_octets}
use Rattle.svcb_wire.specs.Forms.{AreParams}
use Rattle.svcb_wire.specs.RecordReading.{ParamAnswer, ParamsAnswer, first_param, by_param, params_behind, read_params}
use Rattle.svcb_wire.specs.RecordGrammar.{next_key}
use Rattle.dns_names.proofs.Bytes.{bytes_drop}
use Rattle.svcb_wire.proofs.ParamSteps.{IsFirstParam, ParamStops, ParamSays, param_says, param_reads, param_takes}

-- the parameters that were read, behind some
pub record ParamsBehind (params : List Param) (least : ℕ) (x : List ℕ) (r : List Param) : Type 0 where
  pub more : List Param
  pub all : r ≡ params ++ more
  pub octets : params_octets more ≡ x
  pub are : AreParams least more

-- where the reading stops, behind whole parameters
pub record ParamsStop (place least : ℕ) (x : List ℕ) (q : ℕ) (reason : WireRefusal) : Type 0 where
  pub done : List Param
  pub rest : List ℕ
  pub split : x ≡ params_octets done ++ rest
  pub are : AreParams least done
  pub some : 1 ≤ length rest
  pub stops : ParamStops (place + length (params_octets done)) (next_key least done) rest q reason

abbrev pub ParamsSays : ℕ → ℕ → List Param → List ℕ → ParamsAnswer → Type 0
ParamsSays place least params x (Ok r) = ParamsBehind params least x r
ParamsSays place least params x (Err at) = ParamsStop place least x at.place at.reason

none_says : (place least : ℕ) (params : List Param) → ParamsSays place least params [] (Ok params)
none_says place least params = record { more = []; all = sym (append-nil params); octets = refl; are = tt }

-- a parameter in front of what is read behind it
push_says : (a : ParamsAnswer) (place least n : ℕ) (params : List Param) (param : Param) (x : List ℕ) → IsFirstParam least x param n → ParamsSays (place + n) (suc (key_of param)) (params ++ param ∷ []) (drop n x) a → ParamsSays place least params x a
push_says (Ok r) place least n params param x one behind = record {
  more = param ∷ behind.more;
  all = behind.all ∙ append_assoc params (param ∷ []) behind.more;
  octets = ap (λ xs. param_octets param ++ xs) behind.octets ∙ sym one.octets;
  are = (one.above, one.param_is, behind.are);
}
push_says (Err at) place least n params param x one behind = record {
  done = param ∷ behind.done;
  rest = behind.rest;
  split = one.octets ∙ ap (λ xs. param_octets param ++ xs) behind.split ∙ sym (append_assoc (param_octets param) (params_octets behind.done) behind.rest);
  are = (one.above, one.param_is, behind.are);
  some = behind.some;
  stops = subst (λ p. ParamStops p (next_key (suc (key_of param)) behind.done) behind.rest at.place at.reason) (omega (arith, one.sized, length-append (param_octets param) (params_octets behind.done))) behind.stops;
}

abbrev Later : ℕ → Type 0
Later k = (place least : ℕ) (params : List Param) (y : List ℕ) → AreBytes y → length y ≤ k → ParamsSays place least params y (params_behind k place least params y)

step_says : (r : ParamAnswer) (k place least : ℕ) (params : List Param) (x : List ℕ) → AreBytes x → 1 ≤ length x → length x ≤ suc k → ParamSays place least x r → first_param place least x ≡ r → Later k → ParamsSays place least params x (by_param r place params x (params_behind k))
step_says (Err at) k place least params x bytes some within says is later =
    record { done = []; rest = x; split = refl; are = tt; some = some; stops = subst (λ p. ParamStops p least x at.place at.reason) (omega arith) says }
step_says (Ok found) k place least params x bytes some within says is later =
    let size = param_takes place least x found.0 found.1 is in
    push_says (params_behind k (place + found.1) (suc (key_of found.0)) (params ++ found.0 ∷ []) (drop found.1 x)) place least found.1 params found.0 x says
    (later (place + found.1) (suc (key_of found.0)) (params ++ found.0 ∷ []) (drop found.1 x) (bytes_drop found.1 x bytes) (omega (arith, length-drop found.1 x, size, within)))

pub params_say : (k : ℕ) → Later k
params_say zero place least params [] bytes within = none_says place least params
params_say zero place least params (b ∷ bs) bytes within = absurd (omega arith)
params_say (suc k) place least params [] bytes within = none_says place least params
params_say (suc k) place least params (b ∷ bs) bytes within =
    step_says (first_param place least (b ∷ bs)) k place least params (b ∷ bs) bytes (omega arith) within (param_says place least (b ∷ bs) bytes) refl (params_say k)

same_next : (r : ParamAnswer) (k m place least : ℕ) (params : List Param) (x : List ℕ) → first_param place least x ≡ r → length x ≤ suc k → length x ≤ suc m
    → ((p l : ℕ) (ps : List Param) (y : List ℕ) → length y ≤ k → length y ≤ m → params_behind k p l ps y ≡ params_behind m p l ps y)
    → by_param r place params x (params_behind k) ≡ by_param r place params x (params_behind m)
same_next (Err at) k m place least params x is h i next = refl
same_next (Ok found) k m place least params x is h i next =
    let size = param_takes place least x found.0 found.1 is in
    next _ _ _ (drop found.1 x) (omega (arith, length-drop found.1 x, h, size)) (omega (arith, length-drop found.1 x, i, size))

-- any count of parameters that is no less than that of the octets serves
enough : (k m place least : ℕ) (params : List Param) (x : List ℕ) → length x ≤ k → length x ≤ m → params_behind k place least params x ≡ params_behind m place least params x
enough zero zero place least params x h i = refl
enough zero (suc m) place least params [] h i = refl
enough zero (suc m) place least params (b ∷ bs) h i = absurd (omega arith)
enough (suc k) zero place least params [] h i = refl
enough (suc k) zero place least params (b ∷ bs) h i = absurd (omega arith)
enough (suc k) (suc m) place least params [] h i = refl
enough (suc k) (suc m) place least params (b ∷ bs) h i = same_next (first_param place least (b ∷ bs)) k m place least params (b ∷ bs) refl h i (λ p l ps y a c. enough k m p l ps y a c)

-- the parameters of the rest, behind some
abbrev pub reads : ℕ → ℕ → List Param → List ℕ → ParamsAnswer
reads place least params x = params_behind (length x) place least params x

pub reads_param : (place least n : ℕ) (params : List Param) (param : Param) (x : List ℕ) → 1 ≤ length x → first_param place least x ≡ Ok (param, n) → reads place least params x ≡ reads (place + n) (suc (key_of param)) (params ++ param ∷ []) (drop n x)
reads_param place least n params param [] some is = absurd (omega arith)
reads_param place least n params param (b ∷ bs) some is =
    let size = param_takes place least (b ∷ bs) param n is in
    rw is (enough (length bs) (length (drop n (b ∷ bs))) (place + n) (suc (key_of param)) (params ++ param ∷ []) (drop n (b ∷ bs)) (omega (arith, length-drop n (b ∷ bs), size)) (omega arith))

pub reads_stop : (place least : ℕ) (params : List Param) (x : List ℕ) (at : At WireRefusal) → 1 ≤ length x → first_param place least x ≡ Err at → reads place least params x ≡ Err at
reads_stop place least params [] at some is = absurd (omega arith)
reads_stop place least params (b ∷ bs) at some is = rw is refl

same_reads : (p p' l l' : ℕ) (ps ps' : List Param) (x x' : List ℕ) → p ≡ p' → l ≡ l' → ps ≡ ps' → x ≡ x' → reads p l ps x ≡ reads p' l' ps' x'
same_reads p p' l l' ps ps' x x' a b c d = cc

-- parameters in front of a rest are passed over
pub passes : (done : List Param) (place least : ℕ) (params : List Param) (tail : List ℕ) → AreParams least done → reads place least params (params_octets done ++ tail) ≡ reads (place + length (params_octets done)) (next_key least done) (params ++ done) tail
passes [] place least params tail are = same_reads _ _ least least _ _ tail tail (omega arith) refl (sym (append-nil params)) refl
passes (param ∷ done) place least params tail are =
    let behind = params_octets done ++ tail in
    let count : length (params_octets (param ∷ done)) ≡ length (param_octets param) + length (params_octets done) = length-append (param_octets param) (params_octets done) in
    same_reads place place least least params params _ _ refl refl refl (append_assoc (param_octets param) (params_octets done) tail)
    ∙ reads_param place least (length (param_octets param)) params param (param_octets param ++ behind) (omega arith) (param_reads place least param behind are.1 are.0)
    ∙ same_reads _ _ _ _ _ _ _ _ refl refl refl (drop_at (param_octets param) behind (length (param_octets param)) refl)
    ∙ passes done (place + length (param_octets param)) (suc (key_of param)) (params ++ param ∷ []) tail are.2
    ∙ same_reads _ _ (next_key (suc (key_of param)) done) (next_key (suc (key_of param)) done) _ _ tail tail (omega (arith, count)) refl (append_assoc params (param ∷ []) done) refl

-- the loop: one parameter on
pub param_on : (place at least size at' least' : ℕ) (params new : List Param) (param : Param) (octets x rest : List ℕ) → 1 ≤ length x → first_param at least x ≡ Ok (param, size) → at' ≡ at + size → least' ≡ suc (key_of param) → new ≡ params ++ param ∷ [] → rest ≡ drop size x
    → reads at least params x ≡ read_params place octets → reads at' least' new rest ≡ read_params place octets
param_on place at least size at' least' params new param octets x rest some is moved next pushed behind so_far =
    same_reads _ _ _ _ _ _ _ _ moved next pushed behind ∙ sym (reads_param at least size params param x some is) ∙ so_far

pub place_on : (at size place total : ℕ) (x rest : List ℕ) → rest ≡ drop size x → size ≤ length x → at + length x ≡ place + total → at + size + length rest ≡ place + total
place_on at size place total x rest behind within so_far = omega (arith, ap length behind, length-drop size x, within, so_far)
