use Rattle.std.proofs.Common.{codes, decimal}
use Rattle.event_lines.proofs.Appended.{five_pairs}
use Rattle.event_lines.proofs.action_line.append_stats.Goals as goal

pub returns : goal.returns
returns c =
    five_pairs c.append_count-5.result c.args.line.now.items c.append_count.new.line.items c.append_count-2.new.line.items c.append_count-3.new.line.items c.append_count-4.new.line.items c.append_count-5.new.line.items (codes "stats alternatives ")
    (decimal c.args.alternatives) (codes " answers ") (decimal c.args.answers) (codes " broken ") (decimal c.args.broken) (codes " connections ") (decimal c.args.connections) (codes " waiting ") (decimal c.args.waiting) c.in_ok-append_count.ensures
    c.in_ok-append_count-2.ensures c.in_ok-append_count-3.ensures c.in_ok-append_count-4.ensures c.append_count-5.ensures
