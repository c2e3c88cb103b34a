use Rattle.svcb_text.proofs.WrittenLaws.{written_spells}
use Rattle.svcb_text.proofs.WrittenReads.{text_read}
use Rattle.svcb_text.proofs.written_laws.written_record_texts_are_read_back.Goals as goal

pub returns-clause-spelled : goal.returns-clause-spelled
returns-clause-spelled c = λ value is allowed sized short. written_spells value is allowed sized short

pub returns-clause-read : goal.returns-clause-read
returns-clause-read c = λ value is allowed sized short. text_read value is allowed sized short
