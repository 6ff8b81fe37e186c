use Rattle.relay_lines.proofs.CommandLemmas.{split_is_one}
use Rattle.relay_lines.proofs.command_laws.split_is_one.Goals as goal

pub returns : goal.returns
returns c = split_is_one
