use Rattle.relay_meeting.proofs.ScriptLemmas.{script_is_servers}
use Rattle.relay_meeting.proofs.laws.script_is_servers.Goals as goal

pub returns : goal.returns
returns c = script_is_servers
