use Rattle.std.proofs.Common.{◌≡◌, ◌++◌, ℕ, sym, ◌∙◌, subst, Result, OnOk, codes}
use Rattle.alt_base.specs.declared.refusal.At.{At}
use Rattle.altsvc_frame.specs.declared.frame.AltFrame.{AltFrame}
use Rattle.altsvc_frame.specs.declared.refusal.AltFrameRefusal.{AltFrameRefusal}
use Rattle.altroute_show.specs.FrameLines.{ignored_line, altsvc_reading_line}
use Rattle.altroute_show.proofs.frame_lines.put_altsvc.Goals as goal

pub returns-in-Err-At : goal.returns-in-Err-At
returns-in-Err-At c =
    let read = rw c.in-Err-At.field-0-is at c.in-Err-At.ensures.reading in
    subst (λ (r : Result AltFrame (At AltFrameRefusal)). OnOk c.put_ignored.result (c.put_ignored.new.text.items ≡ c.args.text.now.items ++ altsvc_reading_line c.args.stream r)) (sym read)
    (subst (λ (n : ℕ). OnOk c.put_ignored.result (c.put_ignored.new.text.items ≡ c.args.text.now.items ++ ignored_line (codes "altsvc") c.args.stream n c.in-Err-At.place)) (c.from.ensures ∙ c.number.ensures) c.put_ignored.ensures)
