use Rattle.std.proofs.Common.{refl}
use Rattle.route_choice.specs.Contents.{newest_moment}
use Rattle.route_choice.proofs.broken.Broken.newest.Goals as goal

pub returns : goal.returns
unfolding newest_moment
returns c = refl
