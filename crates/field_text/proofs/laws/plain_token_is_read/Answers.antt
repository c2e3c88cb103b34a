use Rattle.field_text.specs.TokenGrammar.{is_token}
use Rattle.field_text.proofs.RunLemmas.{run_of-append}
use Rattle.field_text.proofs.TokenLemmas.{plain_read}
use Rattle.field_text.proofs.laws.plain_token_is_read.Goals as goal

pub returns-clause-read : goal.returns-clause-read
returns-clause-read c = λ p text rest valid some ends. plain_read p text rest valid some ends

pub returns-clause-text : goal.returns-clause-text
returns-clause-text c = λ text rest valid ends. run_of-append is_token text rest valid ends
