-- The payload that lists origins is read back.
use Rattle.std.proofs.Common.{◌≡◌, ◌/◌, ◌%◌, List, [], ◌∷◌, length, map, Ok, refl, inl}
use Rattle.origin_values.specs.Written.{origin_text}
use Rattle.origin_values.specs.declared.origin.Origin.{Origin}
use Rattle.origin_frame.specs.PayloadGrammar.{AreEntries, AreListed, SpellsListed}
use Rattle.origin_frame.specs.PayloadReading.{read_listed}
use Rattle.origin_frame.specs.PayloadWritten.{payload_of, AreOrigins}
use Rattle.origin_frame.proofs.Payloads.{listed_read}
use Rattle.alt_base.proofs.Numbers.{two_octets}

entries_written : (origins : List Origin) → AreEntries (payload_of origins) (map origin_text origins)
entries_written [] = refl
entries_written (origin ∷ origins) =
    let n = length (origin_text origin) in
    (payload_of origins, record { high = n / 256; low = n % 256; spelled = refl; long = two_octets n }, entries_written origins)

listing_written : (origins : List Origin) → AreOrigins origins → AreListed (map origin_text origins) origins 0
listing_written [] h = (refl, refl)
listing_written (origin ∷ origins) h = inl (origin, origins, refl, record { valid = h.0; spelled = refl }, listing_written origins h.1)

pub payload_spelled : (origins : List Origin) → AreOrigins origins → SpellsListed 0 0 (payload_of origins) (record { origins = origins; skipped = 0 })
payload_spelled origins h = record { on_zero = refl; no_flags = refl; entries = map origin_text origins; spelled = entries_written origins; listing = listing_written origins h }

pub payload_back : (origins : List Origin) → AreOrigins origins → read_listed 0 0 (payload_of origins) ≡ Ok (record { origins = origins; skipped = 0 })
payload_back origins h = listed_read 0 0 (payload_of origins) (record { origins = origins; skipped = 0 }) (payload_spelled origins h)
