-- The reload that waits takes effect, if what it waits for has ended.
use Rattle.std.proofs.lemmas.Bool.{false≢true}
use Rattle.relay_run.proofs.ReloadLemmas.{due_then, none_due}
use Rattle.relay_run.proofs.shell.Shell.may_reload.Goals as goal

pub returns-in-Some : goal.returns-in-Some
returns-in-Some g c = (
  λ ended. record {
    reload = c.in-Some.reload;
    waits = c.in-Some.is;
    effect = c.has_ended_for.ensures.0 ended;
  },
  λ due.
      c.has_ended_for.ensures.1
      (due_then c.args.self.now.steering c.args.self.now.clients c.args.self.now.next_hops c.args.self.now.leaving
      c.args.now.now.tick c.in-Some.reload c.in-Some.is due),
)

pub returns-in-None : goal.returns-in-None
returns-in-None g c = (
  λ no. absurd (false≢true no),
  λ due.
      absurd
      (none_due c.args.self.now.steering c.args.self.now.clients c.args.self.now.next_hops c.args.self.now.leaving
      c.args.now.now.tick c.in-None.is due),
)
