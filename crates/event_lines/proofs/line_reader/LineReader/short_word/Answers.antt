use Rattle.event_lines.proofs.FieldParts.{short_word_of, short_word_left}
use Rattle.event_lines.proofs.line_reader.LineReader.short_word.Goals as goal

pub returns-clause-word : goal.returns-clause-word
returns-clause-word c = short_word_of c.args.self.now c.self.inside.rest.now c.self.inside.place c.short_word_length-count.result c.self.view_is c.short_word_length-count.ensures.value

pub returns-clause-behind : goal.returns-clause-behind
returns-clause-behind c = short_word_left c.args.self.now c.self.inside.rest.now c.self.inside.place c.short_word_length-count.result c.self.view_is c.short_word_length-count.ensures.value c.short_word_length-count.ensures.within
