-- What a command gives, by a grammar and the table of its refusals.
use Rattle.std.specs.Prelude.{◌≡◌, ℕ, List}
use Rattle.altroute_show.specs.declared.given.Given.{Given}
use Rattle.altroute_show.specs.declared.given.Given.TheVariants.{Shown, Refused}
use Rattle.altroute_show.specs.declared.record_form.RecordForm.{RecordForm}
use Rattle.altroute_show.specs.declared.record_form.RecordForm.TheVariants.{Text, Json}
use Rattle.altroute_show.specs.declared.whole_command.WholeCommand.{WholeCommand}
use Rattle.altroute_show.specs.declared.whole_command.WholeCommand.TheVariants.{ShowHttps, ShowHttpsJson}
use Rattle.altroute_show.specs.Given.{refused_at}

-- the line of a value that is spelled, or of a refusal by the table, with its number and its place
abbrev pub IsGivenBy : {V R : Type 0} → (V → Type 0) → (ℕ → R → Type 0) → (V → List ℕ) → (R → ℕ) → Given → Type 0
IsGivenBy {V} {R} Spells RefusedAt lines number (Shown text) = (value : V) × Spells value × (text ≡ lines value)
IsGivenBy {V} {R} Spells RefusedAt lines number (Refused text) = (q : ℕ) × (reason : R) × RefusedAt q reason × (text ≡ refused_at (number reason) q)

-- the command that shows a record in a form
abbrev pub showing : RecordForm → WholeCommand
showing Text = ShowHttps
showing Json = ShowHttpsJson
