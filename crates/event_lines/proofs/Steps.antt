-- Reading a line step by step.
use Rattle.std.proofs.Common.{◌≡◌, ℕ, Bool, false, cond, List, Result, Ok, Err, ap, ◌∙◌}
use Rattle.std.specs.Result.{IsErrAnd}
use Rattle.alt_base.specs.declared.moment.Moment.{Moment}
use Rattle.alt_base.specs.declared.refusal.At.{At}
use Rattle.alt_base.specs.declared.refusal.Refused.{Refused}
use Rattle.alt_base.specs.declared.refusal.Refused.TheVariants as refused
use Rattle.event_lines.specs.Parts.{Part, Reading, ◌>>=◌, next_word}
use Rattle.event_lines.specs.LineReading.{moment_reading, kind_reading, end_reading, event_reading, line_reading, is_skipped}
use Rattle.event_lines.specs.Reads.{IsRead}
use Rattle.event_lines.specs.declared.event.Event.{Event}
use Rattle.event_lines.specs.declared.event.Event.TheVariants.{Skip}
use Rattle.event_lines.specs.declared.refusal.LineRefusal.{LineRefusal}
use Rattle.event_lines.specs.declared.refusal.LineRefusal.TheVariants.{UnknownKind}

abbrev Said : Type 0
Said = Result (ℕ × Event) (At LineRefusal)

abbrev pub finish : ℕ → Event → Result (Unit {0}) (At LineRefusal) → Said
finish moment event end = end >>= λ (w : Unit {0}). Ok (moment, event)

pub not_skipped : (line : List ℕ) → is_skipped line ≡ false → line_reading line ≡ event_reading line
not_skipped line h = ap (λ (t : Bool). let said : Said = cond t (Ok (0, Skip)) (event_reading line) in said) h

pub steps : (line : List ℕ) (moment : ℕ) (kind a b d : Part) (event : Event) (end : Result (Unit {0}) (At LineRefusal)) → is_skipped line ≡ false
    → moment_reading (record { text = line; place = 0 }) ≡ Ok (moment, a) → next_word UnknownKind a ≡ Ok (kind, b) → kind_reading kind b ≡ Ok (event, d) → end_reading d ≡ end
    → line_reading line ≡ finish moment event end
steps line moment kind a b d event end skipped m k e f =
    not_skipped line skipped
    ∙ ap (λ (r : Reading ℕ). r >>= λ (x : ℕ × Part). next_word UnknownKind x.1 >>= λ (y : Part × Part). kind_reading y.0 y.1 >>= λ (z : Event × Part). finish x.0 z.0 (end_reading z.1)) m
    ∙ ap (λ (r : Reading Part). r >>= λ (y : Part × Part). kind_reading y.0 y.1 >>= λ (z : Event × Part). finish moment z.0 (end_reading z.1)) k
    ∙ ap (λ (r : Reading Event). r >>= λ (z : Event × Part). finish moment z.0 (end_reading z.1)) e
    ∙ ap (finish moment event) f

-- a refusal that is passed on is the reading's
pub passed_on : (result : Result (Moment × Event) (Refused LineRefusal)) (at : At LineRefusal) (reading : Said) → IsErrAnd result (λ e. e ≡ refused.At at.place at.reason) → reading ≡ Err at
    → IsRead result reading
passed_on (Ok value) at reading h k = absurd h
passed_on (Err refused.NoMemory) at reading h k = tt
passed_on (Err (refused.At place reason)) at reading h k =
    let p : at.place ≡ place = cc in
    let r : at.reason ≡ reason = cc in
    k ∙ ap (λ (n : ℕ). let said : Said = Err (record { place = n; reason = at.reason }) in said) p ∙ ap (λ (w : LineRefusal). let said : Said = Err (record { place = place; reason = w }) in said) r
