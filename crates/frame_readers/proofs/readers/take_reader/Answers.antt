use Rattle.std.proofs.Common.{◌≡◌, Bool, Some, None, not, filter, ap, sym, ◌∙◌, arith}
use Rattle.std.specs.List.{position_from}
use Rattle.frame_readers.specs.declared.readers.ReaderOf.{ReaderOf}
use Rattle.frame_readers.specs.Readers.{is_of, reader_among, held_of, skipped_of}
use Rattle.alt_base.proofs.Lists.{none_found}
use Rattle.frame_readers.proofs.Places.{is_place, others_same}
use Rattle.frame_readers.proofs.Tables.{new_holds}
use Rattle.frame_readers.proofs.readers.take_reader.Goals.{After-remove, In-None}
use Rattle.frame_readers.proofs.readers.take_reader.Goals as goal

nothing : (c : In-None) → reader_among c.args.readers.now.items c.args.conn ≡ None
nothing c =
    none_found (is_of c.args.conn) 0 c.args.readers.now.items (sym (c.in-None.ensures ∙ ap (position_from (is_of c.args.conn) 0) c.as_slice.ensures.value))

something : (c : After-remove) → reader_among c.args.readers.now.items c.args.conn ≡ Some c.remove.result
something c =
    let place = is_place (is_of c.args.conn) c.args.readers.now.items c.in-Some.place (sym (c.in-Some.ensures ∙ ap (position_from (is_of c.args.conn) 0) c.as_slice.ensures.value)) in
    place.found c.remove.result ∙ ap (λ (r : ReaderOf). Some r) (sym c.remove.ensures.value)

pub remove-requires : goal.remove-requires
remove-requires c =
    let place = is_place (is_of c.args.conn) c.args.readers.now.items c.in-Some.place (sym (c.in-Some.ensures ∙ ap (position_from (is_of c.args.conn) 0) c.as_slice.ensures.value)) in
    omega (arith, place.within)

pub returns-in-None-clause-held : goal.returns-in-None-clause-held
returns-in-None-clause-held c = (new_holds c.new.result c.new.ensures).0 ∙ sym (ap held_of (nothing (goal.at.returns-in-None-clause-held c).In-None))

pub returns-in-None-clause-skipped : goal.returns-in-None-clause-skipped
returns-in-None-clause-skipped c = (new_holds c.new.result c.new.ensures).1 ∙ sym (ap skipped_of (nothing (goal.at.returns-in-None-clause-skipped c).In-None))

pub returns-in-Some-clause-held : goal.returns-in-Some-clause-held
returns-in-Some-clause-held c = sym (ap held_of (something (goal.at.returns-in-Some-clause-held c).After-remove))

pub returns-in-Some-clause-skipped : goal.returns-in-Some-clause-skipped
returns-in-Some-clause-skipped c = sym (ap skipped_of (something (goal.at.returns-in-Some-clause-skipped c).After-remove))

pub returns-in-Some-clause-left : goal.returns-in-Some-clause-left
returns-in-Some-clause-left c =
    let place = is_place (is_of c.args.conn) c.args.readers.now.items c.in-Some.place (sym (c.in-Some.ensures ∙ ap (position_from (is_of c.args.conn) 0) c.as_slice.ensures.value)) in
    ap (filter is_other) c.remove.ensures.items ∙ others_same is_other c.args.readers.now.items c.in-Some.place c.remove.result place.within (ap not (place.passes c.remove.result))
  where
    is_other : ReaderOf → Bool
    is_other r = not (is_of c.args.conn r)
