use Rattle.route_events.specs.Answers.{addresses4, addresses6, records}
use Rattle.route_events.proofs.AnswersInWords.{newest_where, not_answered, names_apart}
use Rattle.route_events.proofs.laws.answers_in_words.Goals as goal

pub returns-clause-v4 : goal.returns-clause-v4
returns-clause-v4 c = λ j name answer. newest_where addresses4 j name answer

pub returns-clause-v6 : goal.returns-clause-v6
returns-clause-v6 c = λ j name answer. newest_where addresses6 j name answer

pub returns-clause-https : goal.returns-clause-https
returns-clause-https c = λ j name answer. newest_where records j name answer

pub returns-clause-no_v4 : goal.returns-clause-no_v4
returns-clause-no_v4 c = λ j name none. not_answered addresses4 j name none

pub returns-clause-no_v6 : goal.returns-clause-no_v6
returns-clause-no_v6 c = λ j name none. not_answered addresses6 j name none

pub returns-clause-no_https : goal.returns-clause-no_https
returns-clause-no_https c = λ j name none. not_answered records j name none

pub returns-clause-names : goal.returns-clause-names
returns-clause-names c = λ j. names_apart j
