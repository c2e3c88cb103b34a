-- The payload that says a frame is read back.
use Rattle.std.proofs.Common.{◌≡◌, ℕ, ◌/◌, ◌%◌, ◌≤◌, List, length, Option, None, Some, Ok, refl}
use Rattle.origin_values.specs.declared.origin.Origin.{Origin}
use Rattle.altsvc_grammar.specs.Written.{value_text}
use Rattle.altsvc_grammar.specs.ValueGrammar.{most_value_bytes}
use Rattle.altsvc_grammar.proofs.WrittenValues.{written_spelled}
use Rattle.altsvc_frame.specs.declared.frame.AltFrame.{AltFrame}
use Rattle.altsvc_frame.specs.FrameGrammar.{IsSplit, SpellsFrameOrigin, SpellsFrame}
use Rattle.altsvc_frame.specs.FrameReading.{read_frame}
use Rattle.altsvc_frame.specs.FrameWritten.{optional_origin_text, parts_payload, payload_of, IsOptionalOrigin, IsAltFrame, IsStreamOf}
use Rattle.altsvc_frame.proofs.Frames.{frame_read}
use Rattle.alt_base.proofs.Numbers.{two_octets}

parts_split : (text field : List ℕ) → IsSplit (parts_payload text field) text field
parts_split text field = record { high = length text / 256; low = length text % 256; spelled = refl; long = two_octets (length text) }

origin_spelled : (stream : ℕ) (origin : Option Origin) → IsOptionalOrigin origin → IsStreamOf origin stream → SpellsFrameOrigin stream (optional_origin_text origin) origin
origin_spelled stream None valid is = (is, refl)
origin_spelled stream (Some origin) valid is = (is, record { valid = valid; spelled = refl })

pub payload_spelled : (stream : ℕ) (frame : AltFrame) → IsAltFrame frame → IsStreamOf frame.origin stream → length (value_text frame.value) ≤ most_value_bytes → SpellsFrame stream (payload_of frame) frame
payload_spelled stream frame valid is short = record {
  text = optional_origin_text frame.origin;
  field = value_text frame.value;
  split = parts_split (optional_origin_text frame.origin) (value_text frame.value);
  of_origin = origin_spelled stream frame.origin valid.origin is;
  of_field = written_spelled frame.value valid.value short;
}

pub payload_back : (stream : ℕ) (frame : AltFrame) → IsAltFrame frame → IsStreamOf frame.origin stream → length (value_text frame.value) ≤ most_value_bytes → read_frame stream (payload_of frame) ≡ Ok frame
payload_back stream frame valid is short = frame_read stream (payload_of frame) frame (payload_spelled stream frame valid is short)
