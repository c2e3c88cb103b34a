-- The words of the command line.
use Rattle.std.specs.Prelude.{ℕ, Bool, List, [], ◌∷◌, Option, Some, None, if◌then◌else◌, codes, nat_eq, ◌&&◌}
use Rattle.std.specs.Cmp.Lexicographic.{pointwise}
use Rattle.altroute_program.specs.declared.command.Command.{Command}
use Rattle.altroute_program.specs.declared.command.Command.TheVariants.{Replay, ShowFrames, Whole}
use Rattle.altroute_show.specs.declared.whole_command.WholeCommand.TheVariants.{ShowAltSvc, ShowHttps, ShowHttpsJson, WriteHttps}

-- a word is this one
abbrev pub is_word : List ℕ → List ℕ → Bool
is_word word this = pointwise nat_eq word this

-- `show` and one more word
abbrev pub shown : List ℕ → Option Command
shown what =
    if is_word what (codes "altsvc") then Some (Whole ShowAltSvc)
    else (if is_word what (codes "frames") then Some ShowFrames
    else (if is_word what (codes "https") then Some (Whole ShowHttps)
    else None))

-- `show` and two more words
abbrev pub shown_as : List ℕ → List ℕ → Option Command
shown_as what form = if is_word what (codes "https") && is_word form (codes "--json") then Some (Whole ShowHttpsJson) else None

-- `write` and one more word
abbrev pub written : List ℕ → Option Command
written what = if is_word what (codes "https") then Some (Whole WriteHttps) else None

-- the command that some words are
abbrev pub command_of : List (List ℕ) → Option Command
command_of [] = None
command_of (word ∷ []) = if is_word word (codes "replay") then Some Replay else None
command_of (word ∷ what ∷ []) = if is_word word (codes "show") then shown what else (if is_word word (codes "write") then written what else None)
command_of (word ∷ what ∷ form ∷ []) = if is_word word (codes "show") then shown_as what form else None
command_of (word ∷ what ∷ form ∷ more ∷ words) = None
