use Rattle.route_events.proofs.PiecesJoin as pieces
use Rattle.route_events.proofs.laws.pieces_join.Goals as goal

pub returns-clause-actions : goal.returns-clause-actions
returns-clause-actions c = λ j now conn a b is free_a free_b. pieces.pieces_join j now conn a b is free_a free_b

pub returns-clause-taken : goal.returns-clause-taken
returns-clause-taken c = λ j now conn a b free. free

pub returns-clause-later : goal.returns-clause-later
returns-clause-later c = λ j now conn a b events is free_a free_b few. pieces.pieces_later j now conn a b events is free_a free_b few
