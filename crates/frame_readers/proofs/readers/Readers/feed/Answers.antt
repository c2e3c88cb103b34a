use Rattle.std.proofs.Common.{◌++◌, ℕ, List, None, Some}
use Rattle.std.proofs.lemmas.List.Elements.{All-same}
use Rattle.h2_framing.specs.Reading.{StandsFor, Brings}
use Rattle.frame_readers.specs.Readers.{Reads, Stands}
use Rattle.frame_readers.proofs.Tables.{Taken, taken, left_stand, left_others, no_reader_left, going_on, too_large, few, fit, never, back_stand, back_reads, back_others}
use Rattle.frame_readers.proofs.readers.Readers.feed.Goals.{After-drop_reader, After-push, In-TooLarge}
use Rattle.frame_readers.proofs.readers.Readers.feed.Goals as goal

out : (c : After-drop_reader) → Taken c.args.self.now c.args.conn c.take_reader-reader.result c.drop_reader.new.readers.items
out c =
    taken c.self.inside.readers.items c.args.self.now c.take_reader-reader.new.readers.items c.drop_reader.new.readers.items c.args.conn c.take_reader-reader.result c.self.view_is
    c.take_reader-reader.ensures.held c.take_reader-reader.ensures.skipped c.take_reader-reader.ensures.left c.drop_reader.ensures c.self.invariant

goes : (c : After-push) (t : Taken c.args.self.now c.args.conn c.take_reader-reader.result c.drop_reader.new.readers.items) (x : List ℕ) → Reads c.args.self.now c.args.conn x → StandsFor c.in-Going.reader (x ++ c.args.piece.now) × Brings x c.args.piece.now c.in-Going.frames None
goes c t = going_on c.in_ok-reader.field-0 c.args.self.now c.args.conn c.take_reader-reader.result c.in-Going.reader c.drop_reader.new.readers.items c.args.piece.now c.in-Going.frames t c.in_ok-reader.ensures c.in-Going.is

stops : (c : In-TooLarge) (t : Taken c.args.self.now c.args.conn c.take_reader-reader.result c.drop_reader.new.readers.items) (x : List ℕ) → Reads c.args.self.now c.args.conn x → Brings x c.args.piece.now c.in-TooLarge.frames (Some c.in-TooLarge.length)
stops c t = too_large c.in_ok-reader.field-0 c.args.self.now c.args.conn c.take_reader-reader.result c.drop_reader.new.readers.items c.args.piece.now c.in-TooLarge.frames c.in-TooLarge.length t c.in_ok-reader.ensures c.in-TooLarge.is

pub invariant_of-self : goal.invariant_of-self
invariant_of-self c = left_stand _ _ _ _ (out (goal.at.invariant_of-self c).After-drop_reader)

pub invariant_of-self-in_err-push-in-Going : goal.invariant_of-self-in_err-push-in-Going
invariant_of-self-in_err-push-in-Going c = All-same Stands _ _ c.in_err-push-in-Going.ensures.items (left_stand _ _ _ _ (out (goal.at.invariant_of-self-in_err-push-in-Going c).After-drop_reader))

pub invariant_of-self-in-Going : goal.invariant_of-self-in-Going
invariant_of-self-in-Going c =
    let at = goal.at.invariant_of-self-in-Going c in
    let t = out at.After-drop_reader in
    back_stand _ _ _ _ _ _ (λ (x : List ℕ). x ++ c.args.piece.now) t c.in_ok-push-in-Going.ensures.items (λ (x : List ℕ) (reads : Reads c.args.self.now c.args.conn x). (goes at.After-push t x reads).0)

pub invariant_of-self-in-TooLarge : goal.invariant_of-self-in-TooLarge
invariant_of-self-in-TooLarge c = left_stand _ _ _ _ (out (goal.at.invariant_of-self-in-TooLarge c).After-drop_reader)

pub returns-in_ok-push-in-Going-clause-brings : goal.returns-in_ok-push-in-Going-clause-brings
returns-in_ok-push-in-Going-clause-brings c = λ x reads.
    let at = goal.at.returns-in_ok-push-in-Going-clause-brings c in (goes at.After-push (out at.After-drop_reader) x reads).1

pub returns-in_ok-push-in-Going-clause-reads : goal.returns-in_ok-push-in-Going-clause-reads
returns-in_ok-push-in-Going-clause-reads c = λ x reads going.
    let at = goal.at.returns-in_ok-push-in-Going-clause-reads c in
    let t = out at.After-drop_reader in
    back_reads _ _ _ _ _ _ (x ++ c.args.piece.now) t c.in_ok-push-in-Going.ensures.items (goes at.After-push t x reads).0

pub returns-in_ok-push-in-Going-clause-ended : goal.returns-in_ok-push-in-Going-clause-ended
returns-in_ok-push-in-Going-clause-ended c = λ length ends. absurd (cc)

pub returns-in_ok-push-in-Going-clause-others : goal.returns-in_ok-push-in-Going-clause-others
returns-in_ok-push-in-Going-clause-others c = λ n apart.
    back_others _ _ _ _ _ _ n (out (goal.at.returns-in_ok-push-in-Going-clause-others c).After-drop_reader) c.in_ok-push-in-Going.ensures.items apart

pub returns-in_ok-push-in-Going-clause-few : goal.returns-in_ok-push-in-Going-clause-few
returns-in_ok-push-in-Going-clause-few c =
    let at = goal.at.returns-in_ok-push-in-Going-clause-few c in
    let t = out at.After-drop_reader in
    few c.args.self.now c.args.conn c.args.piece.now c.in-Going.frames None t.stand (λ (x : List ℕ) (reads : Reads c.args.self.now c.args.conn x). (goes at.After-push t x reads).1)

pub returns-in_ok-push-in-Going-clause-fit : goal.returns-in_ok-push-in-Going-clause-fit
returns-in_ok-push-in-Going-clause-fit c =
    let at = goal.at.returns-in_ok-push-in-Going-clause-fit c in
    let t = out at.After-drop_reader in
    fit c.args.self.now c.args.conn c.args.piece.now c.in-Going.frames None t.stand (λ (x : List ℕ) (reads : Reads c.args.self.now c.args.conn x). (goes at.After-push t x reads).1)

pub returns-in-TooLarge-clause-brings : goal.returns-in-TooLarge-clause-brings
returns-in-TooLarge-clause-brings c = let at = goal.at.returns-in-TooLarge-clause-brings c in stops at.In-TooLarge (out at.After-drop_reader)

pub returns-in-TooLarge-clause-reads : goal.returns-in-TooLarge-clause-reads
returns-in-TooLarge-clause-reads c = λ x reads going. never c.in-TooLarge.length going

pub returns-in-TooLarge-clause-ended : goal.returns-in-TooLarge-clause-ended
returns-in-TooLarge-clause-ended c = λ length ends.
    let at = goal.at.returns-in-TooLarge-clause-ended c in
    no_reader_left _ _ _ _ (out at.After-drop_reader)

pub returns-in-TooLarge-clause-others : goal.returns-in-TooLarge-clause-others
returns-in-TooLarge-clause-others c = λ n apart. left_others _ _ _ _ n (out (goal.at.returns-in-TooLarge-clause-others c).After-drop_reader) apart

pub returns-in-TooLarge-clause-few : goal.returns-in-TooLarge-clause-few
returns-in-TooLarge-clause-few c =
    let at = goal.at.returns-in-TooLarge-clause-few c in
    let t = out at.After-drop_reader in
    few c.args.self.now c.args.conn c.args.piece.now c.in-TooLarge.frames (Some c.in-TooLarge.length) t.stand (stops at.In-TooLarge t)

pub returns-in-TooLarge-clause-fit : goal.returns-in-TooLarge-clause-fit
returns-in-TooLarge-clause-fit c =
    let at = goal.at.returns-in-TooLarge-clause-fit c in
    let t = out at.After-drop_reader in
    fit c.args.self.now c.args.conn c.args.piece.now c.in-TooLarge.frames (Some c.in-TooLarge.length) t.stand (stops at.In-TooLarge t)
