-- The refusal of a reading at a place.
use Rattle.std.specs.Prelude.{ℕ, Result, Err}
use Rattle.alt_base.specs.declared.refusal.At.{At}
use Rattle.field_text.specs.declared.text_refusal.TextRefusal.{TextRefusal}

abbrev pub refused : ℕ → TextRefusal → Result ℕ (At TextRefusal)
refused place reason = Err (record { place = place; reason = reason })
