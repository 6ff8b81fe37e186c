use Rattle.relay_proxy.proofs.WordLemmas.{no_port_before}
use Rattle.relay_proxy.proofs.word.read_port_word.Goals as goal

pub returns-in-None-read_port : goal.returns-in-None-read_port
returns-in-None-read_port c =
    no_port_before c.args.text.now c.in-Some.word.now c.in-Some.rest.now c.in-Some.ensures c.in-None-read_port.ensures
