use Rattle.std.proofs.Common.{◌≡◌, length, Some, None, ap, sym, ◌∙◌}
use Rattle.frame_readers.specs.Readers.{is_of, reader_among, held_of, Stands}
use Rattle.frame_readers.proofs.Places.{holds_of_found}
use Rattle.frame_readers.proofs.readers.Readers.held.Goals as goal

pub returns-in-Some-clause-buffer : goal.returns-in-Some-clause-buffer
returns-in-Some-clause-buffer c =
    let found : reader_among c.self.inside.readers.items c.args.conn ≡ Some c.in-Some.one.now = sym (c.in-Some.ensures ∙ ap (λ rs. reader_among rs c.args.conn) c.as_slice.ensures.value) in
    let stands = holds_of_found Stands (is_of c.args.conn) c.self.inside.readers.items c.in-Some.one.now c.self.invariant found in
    c.held.ensures.buffer stands.0 stands.1 ∙ ap (λ o. length (held_of o)) (sym found ∙ ap (λ rs. reader_among rs c.args.conn) c.self.view_is)

pub returns-in-None-clause-buffer : goal.returns-in-None-clause-buffer
returns-in-None-clause-buffer c =
    let found : reader_among c.self.inside.readers.items c.args.conn ≡ None = sym (c.in-None.ensures ∙ ap (λ rs. reader_among rs c.args.conn) c.as_slice.ensures.value) in
    ap (λ o. length (held_of o)) (sym found ∙ ap (λ rs. reader_among rs c.args.conn) c.self.view_is)
