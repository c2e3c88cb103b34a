use Rattle.std.proofs.Common.{refl}
use Rattle.std.specs.Net.Reader.{read_ipv4, read_octet, read_number}
use Rattle.percent_encoding.specs.Percent.{percent_decode}
use Rattle.origin_values.specs.AsciiReading.{ascii_origin}
use Rattle.origin_values.specs.OriginReading.{read_origin}
use Rattle.origin_values.specs.HostReading.{read_host, read_v4}
use Rattle.h2_framing.specs.Streams.{split_of}
use Rattle.route_events.specs.Advertisements.{value_taken}
use Rattle.alias_chain.specs.Following.{follow, endpoints_by}
use Rattle.route_events.proofs.histories.worked_frames.Goals as goal

pub returns-clause-taken : goal.returns-clause-taken
unfolding endpoints_by follow split_of ascii_origin read_origin read_host read_v4 read_ipv4 read_octet read_number value_taken percent_decode
returns-clause-taken c = refl

pub returns-clause-other : goal.returns-clause-other
unfolding endpoints_by follow split_of ascii_origin read_origin read_host read_v4 read_ipv4 read_octet read_number value_taken percent_decode
returns-clause-other c = refl

pub returns-clause-stream : goal.returns-clause-stream
unfolding endpoints_by follow split_of
returns-clause-stream c = refl

pub returns-clause-pieces : goal.returns-clause-pieces
unfolding endpoints_by follow split_of
returns-clause-pieces c = refl

pub returns-clause-beside : goal.returns-clause-beside
unfolding endpoints_by follow split_of
returns-clause-beside c = refl

pub returns-clause-too_large : goal.returns-clause-too_large
unfolding endpoints_by follow split_of
returns-clause-too_large c = refl

pub returns-clause-within : goal.returns-clause-within
unfolding endpoints_by follow split_of
returns-clause-within c = refl

pub returns-clause-gated : goal.returns-clause-gated
unfolding endpoints_by follow split_of value_taken percent_decode
returns-clause-gated c = refl

pub returns-clause-lifted : goal.returns-clause-lifted
unfolding endpoints_by follow split_of ascii_origin read_origin read_host read_v4 read_ipv4 read_octet read_number value_taken percent_decode
returns-clause-lifted c = refl

pub returns-clause-without_tls : goal.returns-clause-without_tls
unfolding endpoints_by follow split_of
returns-clause-without_tls c = refl

pub returns-clause-not_framed : goal.returns-clause-not_framed
unfolding endpoints_by follow split_of
returns-clause-not_framed c = refl

pub returns-clause-not_open : goal.returns-clause-not_open
unfolding endpoints_by follow split_of
returns-clause-not_open c = refl

pub returns-clause-payloads : goal.returns-clause-payloads
unfolding endpoints_by follow split_of ascii_origin read_origin read_host read_v4 read_ipv4 read_octet read_number value_taken percent_decode
returns-clause-payloads c = refl
