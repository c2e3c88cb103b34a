use Rattle.both_ends.specs.ServerActs.{asked_origin}
use Rattle.both_ends.specs.Histories.{acts_of, journal_of}
use Rattle.both_ends.proofs.Given.{answers_so, counts_so, messages_so}
use Rattle.both_ends.proofs.laws.what_the_server_gives.Goals as goal

pub returns-clause-answers : goal.returns-clause-answers
returns-clause-answers c = λ h request o out. answers_so h request o out

pub returns-clause-counts : goal.returns-clause-counts
returns-clause-counts c = λ h act now n made. counts_so (acts_of h) (asked_origin (journal_of h) act) act n made

pub returns-clause-messages : goal.returns-clause-messages
returns-clause-messages c = λ h act now n made. messages_so (acts_of h) (asked_origin (journal_of h) act) act n made
