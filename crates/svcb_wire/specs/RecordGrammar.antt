-- The wire form of a record, and its refusals with their places (RFC 9460 2.2). The order of the cases is from left to
-- right, and for one parameter that of the table.
use Rattle.std.specs.Prelude.{◌≡◌, ◌≤◌, ◌<◌, ◌⊎◌, ℕ, suc, ◌+◌, List, [], ◌∷◌, ◌++◌, length}
use Rattle.byteorder.specs.Endian.{big_bytes}
use Rattle.dns_names.specs.declared.refusal.NameRefusal.{NameRefusal}
use Rattle.dns_names.specs.WireGrammar.{SpellsWire, WireRefusedAt}
use Rattle.svcb_wire.specs.declared.param.Param.{Param}
use Rattle.svcb_wire.specs.declared.svcb.Svcb.{Svcb}
use Rattle.svcb_wire.specs.declared.refusal.WireRefusal.{WireRefusal}
use Rattle.svcb_wire.specs.declared.refusal.WireRefusal.TheVariants.{Short, BadTarget, KeyOrder, ParamPast, BadValue, TooLong}
use Rattle.svcb_wire.specs.Octets.{key_of, value_of, params_octets}
use Rattle.svcb_wire.specs.Forms.{HasForm, AreParams}

-- a priority, the wire form of a name, and parameters, to the end
pub record SpellsRecord (x : List ℕ) (value : Svcb) : Type 0 where
  pub target : List ℕ
  pub split : x ≡ big_bytes 2 value.priority ++ (target ++ params_octets value.params)
  pub fits : value.priority < 65536
  pub named : SpellsWire target value.target
  pub params : AreParams 0 value.params
  pub sized : length x ≤ 65535

-- behind a priority, a target and whole parameters the octets go on with a rest, at a place
pub record GoesOn (x : List ℕ) (params : List Param) (place : ℕ) (rest : List ℕ) : Type 0 where
  pub priority : List ℕ
  pub target : List ℕ
  pub name : List (List ℕ)
  pub split : x ≡ priority ++ (target ++ (params_octets params ++ rest))
  pub two : length priority ≡ 2
  pub named : SpellsWire target name
  pub params_are : AreParams 0 params
  pub sized : length x ≤ 65535
  pub behind : place ≡ 2 + length target + length (params_octets params)

-- the least key that may follow
abbrev pub next_key : ℕ → List Param → ℕ
next_key least [] = least
next_key least (param ∷ params) = next_key (suc (key_of param)) params

-- a key and a length in 16 bits each
pub record IsHead (rest : List ℕ) (key size : ℕ) (tail : List ℕ) : Type 0 where
  pub split : rest ≡ big_bytes 2 key ++ (big_bytes 2 size ++ tail)
  pub key_fits : key < 65536
  pub size_fits : size < 65536

-- no priority, or no whole key and length
pub record IsShort (x : List ℕ) (q : ℕ) : Type 0 where
  pub place : q ≡ length x
  pub cut : (length x < 2) ⊎ ((params : List Param) × (at : ℕ) × (rest : List ℕ) × GoesOn x params at rest × (1 ≤ length rest) × (length rest < 4))

-- the name behind the priority is refused
pub record IsBadTarget (x : List ℕ) (q : ℕ) : Type 0 where
  pub priority : List ℕ
  pub rest : List ℕ
  pub reason : NameRefusal
  pub split : x ≡ priority ++ rest
  pub two : length priority ≡ 2
  pub refused : WireRefusedAt 2 rest q reason
  pub sized : length x ≤ 65535

-- a key that isn't above the key before
pub record IsKeyOrder (x : List ℕ) (q : ℕ) : Type 0 where
  pub params : List Param
  pub rest : List ℕ
  pub goes : GoesOn x params q rest
  pub key : ℕ
  pub size : ℕ
  pub tail : List ℕ
  pub head : IsHead rest key size tail
  pub below : key < next_key 0 params

-- a length that passes the end
pub record IsParamPast (x : List ℕ) (q : ℕ) : Type 0 where
  pub params : List Param
  pub rest : List ℕ
  pub goes : GoesOn x params q rest
  pub key : ℕ
  pub size : ℕ
  pub tail : List ℕ
  pub head : IsHead rest key size tail
  pub above : next_key 0 params ≤ key
  pub past : length tail < size

-- no parameter has this key and this value
abbrev pub IsNoForm : ℕ → List ℕ → Type 0
IsNoForm key value = (param : Param) → HasForm param → key_of param ≡ key → value_of param ≡ value → ⊥

-- a value that isn't of the key's form
pub record IsBadValue (x : List ℕ) (q key : ℕ) : Type 0 where
  pub params : List Param
  pub place : ℕ
  pub rest : List ℕ
  pub goes : GoesOn x params place rest
  pub value : List ℕ
  pub more : List ℕ
  pub head : IsHead rest key (length value) (value ++ more)
  pub above : next_key 0 params ≤ key
  pub bad : IsNoForm key value
  pub first : q ≡ place + 4

-- more octets than RDATA may have
pub record IsTooLong (x : List ℕ) (q : ℕ) : Type 0 where
  pub long : 65535 < length x
  pub place : q ≡ 65535

-- the table of refusals
abbrev pub RecordRefusedAt : List ℕ → ℕ → WireRefusal → Type 0
RecordRefusedAt x q Short = IsShort x q
RecordRefusedAt x q BadTarget = IsBadTarget x q
RecordRefusedAt x q KeyOrder = IsKeyOrder x q
RecordRefusedAt x q ParamPast = IsParamPast x q
RecordRefusedAt x q (BadValue key) = IsBadValue x q key
RecordRefusedAt x q TooLong = IsTooLong x q

-- exactly one record or exactly one refusal, and never both
pub record OneRecord (x : List ℕ) : Type 0 where
  pub some : ((value : Svcb) × SpellsRecord x value) ⊎ ((q : ℕ) × (reason : WireRefusal) × RecordRefusedAt x q reason)
  pub one_record : (value value' : Svcb) → SpellsRecord x value → SpellsRecord x value' → value ≡ value'
  pub one_refusal : (q q' : ℕ) (reason reason' : WireRefusal) → RecordRefusedAt x q reason → RecordRefusedAt x q' reason' → (q ≡ q') × (reason ≡ reason')
  pub not_both : (value : Svcb) (q : ℕ) (reason : WireRefusal) → SpellsRecord x value → RecordRefusedAt x q reason → ⊥
