use Rattle.std.proofs.Common.{◌≡◌, ◌≤◌, ℕ, subst}
use Rattle.alias_chain.specs.Held.{in_force}
use Rattle.answer_store.specs.Contents.{kept, newest_moment as newest_answer}
use Rattle.router_core.proofs.Resolving.{has_is, records_are}
use Rattle.router_core.proofs.router.Router.answers.Goals as goal

pub returns : goal.returns
returns c = record {
  held = λ journal stands name kind at h. stands.answers name kind at h;
  addresses = λ journal stands name addr at h. has_is c.args.self.now.answers journal name addr at stands.answers h;
  https = λ journal stands name at h. records_are c.args.self.now.answers journal name at stands.answers h;
  none_ended = λ journal stands name kind. subst (λ n. in_force n (kept c.args.self.now.answers name kind) ≡ kept c.args.self.now.answers name kind) stands.last (stands.no_ended_answer name kind);
  moment = λ journal stands. subst (λ n. newest_answer c.args.self.now.answers ≤ n) stands.last c.args.self.now.answers_known;
}
