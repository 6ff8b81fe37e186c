use Rattle.relay_proxy.proofs.WordLemmas.{no_address}
use Rattle.relay_proxy.proofs.word.read_address.Goals as goal

pub returns-in-Err : goal.returns-in-Err
returns-in-Err c = no_address c.args.text.now c.in-Some.word.now c.in-Some.rest.now c.in-Some.ensures c.in-Err.ensures
