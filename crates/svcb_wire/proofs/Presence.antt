-- Whether listed keys are present, asked in one pass.
use Rattle.std.proofs.Common.{◌≡◌, ℕ, zero, suc, ◌+◌, ◌<◌, ◌≤◌, Bool, true, false, ◌&&◌, ◌||◌, nat_eq, List, [], ◌∷◌, length, take, drop, get_or, refl, ap, sym, ◌∙◌, add-one}
use Rattle.std.specs.List.{list_all}
use Rattle.std.proofs.lemmas.Bool.{or_right}
use Rattle.std.proofs.Math.ListN.{drop_of_length-le}
use Rattle.std.proofs.Math.Seq.{drop-cons}
use Rattle.svcb_wire.specs.declared.param.Param.{Param}
use Rattle.svcb_wire.specs.Octets.{key_of}
use Rattle.svcb_wire.specs.Usable.{has_key}

first_of : (key : ℕ) (params : List Param) → has_key key (take 1 params) ≡ true → has_key key params ≡ true
first_of key [] h = h
first_of key (param ∷ params) h = go (nat_eq (key_of param) key) h
  where
    go : (t : Bool) → (t || false) ≡ true → (t || has_key key params) ≡ true
    go true h = refl
    go false h = cc

found_from : (key n : ℕ) (params : List Param) → has_key key (take 1 (drop n params)) ≡ true → has_key key params ≡ true
found_from key zero params h = first_of key params h
found_from key (suc n) [] h = cc
found_from key (suc n) (param ∷ params) h = or_right (nat_eq (key_of param) key) (has_key key params) (found_from key n params h)

-- a key of the first parameter behind some is present
pub found_behind : (key n : ℕ) (params behind : List Param) → behind ≡ drop n params → has_key key (take 1 behind) ≡ true → has_key key params ≡ true
found_behind key n params behind is h = found_from key n params (ap (λ ps. has_key key (take 1 ps)) (sym is) ∙ h)

-- one key on: what the keys that are left say
left_from : (params : List Param) (keys : List ℕ) (i : ℕ) (t : Bool) → i < length keys → has_key (get_or keys i 0) params ≡ t
    → list_all (λ key. has_key key params) (drop i keys) ≡ (t && list_all (λ key. has_key key params) (drop (i + 1) keys))
left_from params keys i t h is = rw (add-one, drop-cons keys i 0, is) refl

pub present_on : (params : List Param) (keys : List ℕ) (i : ℕ) (all : Bool) → i < length keys → has_key (get_or keys i 0) params ≡ true → list_all (λ key. has_key key params) (drop i keys) ≡ all
    → list_all (λ key. has_key key params) (drop (i + 1) keys) ≡ all
present_on params keys i all h is so_far = sym (left_from params keys i true h is) ∙ so_far

pub absent_at : (params : List Param) (keys : List ℕ) (i : ℕ) (all : Bool) → i < length keys → has_key (get_or keys i 0) params ≡ false → list_all (λ key. has_key key params) (drop i keys) ≡ all → false ≡ all
absent_at params keys i all h is so_far = sym (left_from params keys i false h is) ∙ so_far

pub none_left : (params : List Param) (keys : List ℕ) (i : ℕ) (all : Bool) → length keys ≤ i → list_all (λ key. has_key key params) (drop i keys) ≡ all → true ≡ all
none_left params keys i all h so_far = ap (λ ks. list_all (λ key. has_key key params) ks) (sym (drop_of_length-le keys h)) ∙ so_far
