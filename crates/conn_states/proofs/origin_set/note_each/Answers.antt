use Rattle.std.proofs.Common.{◌≡◌, ◌∙◌, ◌+◌, [], ◌∷◌, length, drop, ap, sym}
use Rattle.alt_base.proofs.Lists.{next_item}
use Rattle.conn_states.specs.Origins.{joined}
use Rattle.conn_states.proofs.Joined.{joined_next, room_stays, front_stays}
use Rattle.conn_states.proofs.origin_set.note_each.Goals as goal

pub loop-origin-preserved : goal.loop-origin-preserved
loop-origin-preserved c =
    let noted : c.note.new.set.keys ≡ joined c.loop-origin.set.keys (c.origin-item.result ∷ []) = c.in_ok-note.ensures.ok in
    let item = next_item c.args.origins.now c.loop-origin.origin-index c.origin-item.result (c.loop-origin-test.true, c.origin-item.is) in
    let rest = drop (c.loop-origin.origin-index + 1) c.args.origins.now in
    record {
      left = ap (λ zs. joined zs rest) noted ∙ joined_next c.loop-origin.set.keys c.origin-item.result rest ∙ ap (λ zs. joined c.loop-origin.set.keys zs) (sym item) ∙ c.loop-origin.invariant.left;
      room = rw noted (room_stays (length c.args.set.now.keys) c.loop-origin.set.keys (c.origin-item.result ∷ []) c.loop-origin.invariant.room);
      front = rw noted (front_stays (length c.args.set.now.keys) c.loop-origin.set.keys (c.origin-item.result ∷ []) c.args.set.now.keys c.loop-origin.invariant.room c.loop-origin.invariant.front);
    }
