use Rattle.svcb_text.proofs.SpelledRecords.{spelled_record}
use Rattle.svcb_text.proofs.laws.spelled_record_texts.Goals as goal

pub returns : goal.returns
returns c = λ x value bytes s. spelled_record x value bytes s
