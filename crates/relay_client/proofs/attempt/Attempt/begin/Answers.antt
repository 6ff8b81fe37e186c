use Rattle.std.proofs.Common.{refl}
use Rattle.relay_client.proofs.FollowLemmas.{begins_to_follow}
use Rattle.relay_client.proofs.attempt.Attempt.begin.Goals as goal

pub returns-clause-follows : goal.returns-clause-follows
returns-clause-follows c = λ envelope text.
    begins_to_follow _ c.args.host.now envelope text c.args.places.items c.new.ensures c.in_ok-begin.ensures refl
