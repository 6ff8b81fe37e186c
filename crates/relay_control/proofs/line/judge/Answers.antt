use Rattle.relay_control.proofs.RequestLemmas.{judged}
use Rattle.relay_control.proofs.line.judge.Goals as goal

pub returns-in_ok-read_request-in-Some : goal.returns-in_ok-read_request-in-Some
returns-in_ok-read_request-in-Some c =
    judged c.args.octets.now _ _ c.in_ok-read_request-in-Some.field-0 c.in-Some.ensures c.in_ok-read_request-in-Some.ensures
