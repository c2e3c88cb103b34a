-- What a read takes and a write appends, where the bytes are told.
use Rattle.std.specs.Prelude.{◌≡◌, ℕ, ◌+◌, List, [], ◌++◌, Option, None, Some, IfSome, Bool, if◌then◌else◌, nat_eq, zero, suc, Result, Ok, Err, false, ◌&&◌, nat_lt}
use Rattle.std.specs.List.{list_any}
use Rattle.std.proofs.Common.{refl, ap, sym, ◌∙◌, append_assoc, append-nil}

-- told bytes with a piece at their end
abbrev pub with_end : Option (List ℕ) → List ℕ → Option (List ℕ)
with_end None piece = None
with_end (Some told) piece = Some (told ++ piece)

-- told bytes with a piece at their front
abbrev pub with_front : List ℕ → Option (List ℕ) → Option (List ℕ)
with_front piece None = None
with_front piece (Some told) = Some (piece ++ told)

-- the bytes that a sink tells grew by a piece
abbrev pub Grew : Option (List ℕ) → Option (List ℕ) → List ℕ → Type 0
Grew before after piece = after ≡ with_end before piece

-- a piece was taken from the front of the bytes left
abbrev pub Took : Option (List ℕ) → Option (List ℕ) → List ℕ → Type 0
Took before after piece = before ≡ with_front piece after

-- no byte is left, where the bytes are told
abbrev pub IsAtEnd : Option (List ℕ) → Type 0
IsAtEnd left = IfSome left (λ bytes. bytes ≡ [])

-- a read of a buffer of this length answers the end
abbrev pub answers_end : {E : Type 0} → Result ℕ E → ℕ → Bool
answers_end (Ok n) room = nat_eq n 0 && nat_lt 0 room
answers_end (Err e) room = false

-- a call is listed
abbrev pub is_listed : List ℕ → ℕ → Bool
is_listed calls n = list_any (λ call. nat_eq call n) calls

-- how many of the first n calls are listed
abbrev pub listed_calls : List ℕ → ℕ → ℕ
listed_calls calls zero = 0
listed_calls calls (suc n) = listed_calls calls n + (if is_listed calls (suc n) then 1 else 0)

with_end-with_end : (told : Option (List ℕ)) (a b : List ℕ) → with_end (with_end told a) b ≡ with_end told (a ++ b)
with_end-with_end None a b = refl
with_end-with_end (Some told) a b = ap Some (append_assoc told a b)

pub with_end-nil : (told : Option (List ℕ)) → with_end told [] ≡ told
with_end-nil None = refl
with_end-nil (Some told) = ap Some (append-nil told)

-- two pieces in a row are one
pub Grew-more : (a b c : Option (List ℕ)) (x y : List ℕ) → Grew a b x → Grew b c y → Grew a c (x ++ y)
Grew-more a b c x y first second = second ∙ ap (λ told. with_end told y) first ∙ with_end-with_end a x y

pub Took-more : (a b c : Option (List ℕ)) (x y : List ℕ) → Took a b x → Took b c y → Took a c (x ++ y)
Took-more a b None x y first second = first ∙ ap (with_front x) second
Took-more a b (Some told) x y first second = first ∙ ap (with_front x) second ∙ ap Some (sym (append_assoc x y told))

pub Took-nil : (a : Option (List ℕ)) → Took a a []
Took-nil None = refl
Took-nil (Some told) = refl
