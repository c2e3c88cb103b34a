use Rattle.answer_store.proofs.OfKinds.{answers_stay, records_stay, count_stays}
use Rattle.answer_store.proofs.laws.purge_changes_no_answer.Goals as goal

pub returns-clause-answer : goal.returns-clause-answer
returns-clause-answer c = λ old new now t le holds name kind. answers_stay old new now t le holds name kind

pub returns-clause-https : goal.returns-clause-https
returns-clause-https c = λ old new now t le holds name. records_stay old new now t le holds name

pub returns-clause-count : goal.returns-clause-count
returns-clause-count c = λ old new now t n le holds. count_stays old new now t n le holds
