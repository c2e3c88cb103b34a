-- The loops that write parameters and their values.
use Rattle.std.proofs.Common.{◌≡◌, ℕ, zero, suc, ◌+◌, ◌<◌, ◌≤◌, List, [], ◌∷◌, ◌++◌, length, take, get_or, refl, ap, sym, ◌∙◌, arith}
use Rattle.std.proofs.lemmas.List.{append_assoc, append-nil, take_more}
use Rattle.byteorder.specs.Endian.{big_bytes}
use Rattle.svcb_wire.specs.declared.param.Param.{Param}
use Rattle.svcb_wire.specs.Octets.{key_of, keys_octets, ids_octets, addresses_octets, param_octets, params_octets}
use Rattle.svcb_wire.specs.Forms.{IsId, AreIds, IsParam, AreParams}

pub keys_octets-append : (keys more : List ℕ) → keys_octets (keys ++ more) ≡ keys_octets keys ++ keys_octets more
keys_octets-append [] more = refl
keys_octets-append (key ∷ keys) more = ap (λ xs. big_bytes 2 key ++ xs) (keys_octets-append keys more) ∙ sym (append_assoc (big_bytes 2 key) (keys_octets keys) (keys_octets more))

pub ids_octets-append : (ids more : List (List ℕ)) → ids_octets (ids ++ more) ≡ ids_octets ids ++ ids_octets more
ids_octets-append [] more = refl
ids_octets-append (id ∷ ids) more = ap (λ xs. length id ∷ (id ++ xs)) (ids_octets-append ids more) ∙ ap (λ xs. length id ∷ xs) (sym (append_assoc id (ids_octets ids) (ids_octets more)))

pub addresses_octets-append : (addresses more : List (List ℕ)) → addresses_octets (addresses ++ more) ≡ addresses_octets addresses ++ addresses_octets more
addresses_octets-append [] more = refl
addresses_octets-append (address ∷ addresses) more = ap (λ xs. address ++ xs) (addresses_octets-append addresses more) ∙ sym (append_assoc address (addresses_octets addresses) (addresses_octets more))

pub params_octets-append : (params more : List Param) → params_octets (params ++ more) ≡ params_octets params ++ params_octets more
params_octets-append [] more = refl
params_octets-append (param ∷ params) more = ap (λ xs. param_octets param ++ xs) (params_octets-append params more) ∙ sym (append_assoc (param_octets param) (params_octets params) (params_octets more))

pub keys_more : (keys : List ℕ) (i d : ℕ) (octets pair new : List ℕ) → i < length keys → octets ≡ keys_octets (take i keys) → pair ≡ big_bytes 2 (get_or keys i d) → new ≡ octets ++ pair → new ≡ keys_octets (take (i + 1) keys)
keys_more keys i d octets pair new h so_far wrote one =
    one ∙ ap (λ xs. octets ++ xs) wrote ∙ ap (λ xs. xs ++ big_bytes 2 (get_or keys i d)) so_far ∙ sym (keys_octets-append (take i keys) (get_or keys i d ∷ []))
    ∙ ap keys_octets (sym (take_more keys i d h))

pub ids_more : (ids : List (List ℕ)) (i : ℕ) (id octets pushed new : List ℕ) → i < length ids → id ≡ get_or ids i id → octets ≡ ids_octets (take i ids) → pushed ≡ octets ++ length id ∷ [] → new ≡ pushed ++ id
    → new ≡ ids_octets (take (i + 1) ids)
ids_more ids i id octets pushed new h is so_far one two =
    two ∙ ap (λ xs. xs ++ id) (one ∙ ap (λ xs. xs ++ length id ∷ []) so_far) ∙ append_assoc (ids_octets (take i ids)) (length id ∷ []) id
    ∙ ap (λ xs. ids_octets (take i ids) ++ length id ∷ xs) (sym (append-nil id)) ∙ sym (ids_octets-append (take i ids) (id ∷ []))
    ∙ ap (λ l. ids_octets (take i ids ++ l ∷ [])) is ∙ ap ids_octets (sym (take_more ids i id h))

pub addresses_more : (addresses : List (List ℕ)) (i : ℕ) (d octets new : List ℕ) → i < length addresses → octets ≡ addresses_octets (take i addresses) → new ≡ octets ++ get_or addresses i d
    → new ≡ addresses_octets (take (i + 1) addresses)
addresses_more addresses i d octets new h so_far one =
    one ∙ ap (λ xs. xs ++ get_or addresses i d) so_far ∙ ap (λ xs. addresses_octets (take i addresses) ++ xs) (sym (append-nil (get_or addresses i d)))
    ∙ sym (addresses_octets-append (take i addresses) (get_or addresses i d ∷ [])) ∙ ap addresses_octets (sym (take_more addresses i d h))

pub params_more : (params : List Param) (i : ℕ) (param : Param) (octets one new : List ℕ) → i < length params → param ≡ get_or params i param → octets ≡ params_octets (take i params) → one ≡ param_octets param → new ≡ octets ++ one
    → new ≡ params_octets (take (i + 1) params)
params_more params i param octets one new h is so_far wrote added =
    added ∙ ap (λ xs. octets ++ xs) wrote ∙ ap (λ xs. xs ++ param_octets param) so_far ∙ ap (λ xs. params_octets (take i params) ++ xs) (sym (append-nil (param_octets param)))
    ∙ sym (params_octets-append (take i params) (param ∷ []))
    ∙ ap (λ l. params_octets (take i params ++ l ∷ [])) is ∙ ap params_octets (sym (take_more params i param h))

id_at : (ids : List (List ℕ)) (i : ℕ) (d : List ℕ) → i < length ids → AreIds ids → IsId (get_or ids i d)
id_at [] i d h are = absurd (omega arith)
id_at (id ∷ ids) zero d h are = are.0
id_at (id ∷ ids) (suc i) d h are = id_at ids i d (omega arith) are.1

pub id_most : (ids : List (List ℕ)) (i : ℕ) (id : List ℕ) → i < length ids → id ≡ get_or ids i id → AreIds ids → length id ≤ 255
id_most ids i id h is are = let one = id_at ids i id h are in omega (arith, one.most, ap length is)

param_in : (params : List Param) (least i : ℕ) (d : Param) → i < length params → AreParams least params → IsParam (get_or params i d)
param_in [] least i d h are = absurd (omega arith)
param_in (param ∷ params) least zero d h are = are.1
param_in (param ∷ params) least (suc i) d h are = param_in params (suc (key_of param)) i d (omega arith) are.2

pub param_at : (params : List Param) (i : ℕ) (param : Param) → i < length params → param ≡ get_or params i param → AreParams 0 params → IsParam param
param_at params i param h is are = rw is (param_in params 0 i param h are)
