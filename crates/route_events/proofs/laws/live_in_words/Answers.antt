use Rattle.route_events.proofs.LiveInWords.{live_where}
use Rattle.route_events.proofs.laws.live_in_words.Goals as goal

pub returns : goal.returns
returns c = λ j o now a. live_where j o now a
