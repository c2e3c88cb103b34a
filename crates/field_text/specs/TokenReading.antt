-- Reading a token in the bytes from a place on.
use Rattle.std.specs.Prelude.{ℕ, ◌+◌, List, [], ◌∷◌, Result, Ok, length}
use Rattle.alt_base.specs.declared.refusal.At.{At}
use Rattle.field_text.specs.declared.text_refusal.TextRefusal.{TextRefusal}
use Rattle.field_text.specs.declared.text_refusal.TextRefusal.TheVariants.{Empty}
use Rattle.field_text.specs.Refusals.{refused}
use Rattle.field_text.specs.Runs.{run_of, after_run}
use Rattle.field_text.specs.TokenGrammar.{is_token}

-- the bytes of the token, none where no token stands in front
abbrev pub token_of : List ℕ → List ℕ
token_of x = run_of is_token x

-- the bytes behind it
abbrev pub after_token : List ℕ → List ℕ
after_token x = after_run is_token x

-- the end of a token with these bytes
abbrev pub token_end : ℕ → List ℕ → Result ℕ (At TextRefusal)
token_end place [] = refused place Empty
token_end place (b ∷ bs) = Ok (place + length (b ∷ bs))

abbrev pub read_token : ℕ → List ℕ → Result ℕ (At TextRefusal)
read_token place x = token_end place (token_of x)
