-- Passing blanks in the bytes from a place on.
use Rattle.std.specs.Prelude.{ℕ, ◌+◌, List, length}
use Rattle.field_text.specs.Runs.{run_of, after_run}
use Rattle.field_text.specs.BlanksGrammar.{is_blank}

abbrev pub read_blanks : ℕ → List ℕ → ℕ
read_blanks place x = place + length (run_of is_blank x)

-- the bytes behind the blanks
abbrev pub after_blanks : List ℕ → List ℕ
after_blanks x = after_run is_blank x
