-- What equations between options and between results say.
use Rattle.std.proofs.Common.{◌≡◌, Option, Some, None, Result, Ok, Err, OnErr, sym, ◌∙◌}

pub some_none : {X : Type 0} (x : X) (o : Option X) → o ≡ Some x → o ≡ None → ⊥
some_none x o some none = let e : Some x ≡ None = sym some ∙ none in cc

pub same_some : {X : Type 0} (x y : X) → (let o : Option X = Some x in o) ≡ Some y → x ≡ y
same_some x y e = cc

pub same_ok : {T E : Type 0} (x y : T) → (let r : Result T E = Ok x in r) ≡ Ok y → x ≡ y
same_ok x y e = cc

pub same_err : {T E : Type 0} (x y : E) → (let r : Result T E = Err x in r) ≡ Err y → x ≡ y
same_err x y e = cc

pub on_err : {T E : Type 0} (r : Result T E) (P : Type 0) → P → OnErr r P
on_err (Ok x) P p = tt
on_err (Err e) P p = p
