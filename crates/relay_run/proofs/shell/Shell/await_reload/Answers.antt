-- The reload that waits has these settings, and sessions are ended a second earlier.
use Rattle.std.proofs.Common.{refl, ap, ◌∙◌}
use Rattle.relay_connections.specs.Welcome.{retiring}
use Rattle.relay_run.proofs.shell.Shell.await_reload.Goals as goal

pub returns-clause-begun : goal.returns-clause-begun
returns-clause-begun g c = record {
  reload = record { settings = c.args.settings; until = c.after-until.result; caller = c.args.caller };
  begins = record {
    none_waited = c.requires.0;
    goes_on = c.requires.1;
    waits = refl;
    until = c.after-until.ensures;
    caller_is = refl;
    places = c.requires.2;
  };
  clients = c.retire.ensures ∙ ap (λ end. retiring end c.args.self.now.clients) c.after.ensures;
}
