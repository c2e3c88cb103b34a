use Rattle.event_lines.proofs.Words.{word_of, left_of}
use Rattle.event_lines.proofs.line_reader.LineReader.first_word.Goals as goal

pub returns-clause-word : goal.returns-clause-word
returns-clause-word c = word_of c.args.self.now c.self.inside.rest.now c.self.inside.place c.word_length-count.result c.self.view_is c.word_length-count.ensures.value

pub returns-clause-behind : goal.returns-clause-behind
returns-clause-behind c = left_of c.args.self.now c.self.inside.rest.now c.self.inside.place c.word_length-count.result c.self.view_is c.word_length-count.ensures.value c.word_length-count.ensures.within
