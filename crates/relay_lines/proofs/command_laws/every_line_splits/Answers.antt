use Rattle.relay_lines.proofs.CommandLemmas.{every_line_splits}
use Rattle.relay_lines.proofs.command_laws.every_line_splits.Goals as goal

pub returns : goal.returns
returns c = every_line_splits
