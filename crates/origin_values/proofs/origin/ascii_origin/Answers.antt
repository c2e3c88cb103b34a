use Rattle.std.proofs.Common.{sym, ap, Err}
use Rattle.origin_values.proofs.AsciiOrigins.{ascii_read, none_ascii}
use Rattle.origin_values.proofs.origin.ascii_origin.Goals as goal

pub returns-in-Ok : goal.returns-in-Ok
returns-in-Ok c = sym (ascii_read c.args.text.now c.in-Ok.origin c.in-Ok.ensures.ok)

pub returns-in-Err-NotAscii : goal.returns-in-Err-NotAscii
returns-in-Err-NotAscii c = sym (none_ascii c.args.text.now (c.in-Err-NotAscii.ensures.not_ascii (ap Err c.in-Err-NotAscii.field-0-is)))
