-- What a connection to a next hop may be ready for changes no table.
use Rattle.relay_run.proofs.shell.Shell.note.Goals as goal

pub returns-then-token-lt-FIRST_TOKEN-2-clause-matches : goal.returns-then-token-lt-FIRST_TOKEN-2-clause-matches
returns-then-token-lt-FIRST_TOKEN-2-clause-matches g c = λ matches. c.note-then-token-lt-FIRST_TOKEN-2.ensures c.args.self.now.relay.node.config.routes.routes matches
