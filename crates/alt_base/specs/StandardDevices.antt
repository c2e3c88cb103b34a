-- Standard input and output, as callers see them.
use Rattle.std.specs.Prelude.{ℕ, Bool}
use Rattle.alt_base.specs.declared.std_source.StdSource.{StdSource}
use Rattle.alt_base.specs.declared.std_sink.StdSink.{StdSink}

-- a read of standard input has answered the end
abbrev pub input_ended : StdSource → Bool
input_ended s = s.ended

-- how many reads of standard input have failed
abbrev pub input_faults : StdSource → ℕ
input_faults s = s.faults

-- how many writes to standard output have failed
abbrev pub output_faults : StdSink → ℕ
output_faults s = s.faults
