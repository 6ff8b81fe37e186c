-- Mail that was to be discarded was withdrawn so.
use Rattle.relay_run.proofs.RequestLemmas.{discarded}
use Rattle.relay_run.proofs.shell.Shell.obey.Goals as goal

pub returns-in-Discard-clause-obeys : goal.returns-in-Discard-clause-obeys
returns-in-Discard-clause-obeys g c =
    discarded g.D.Disk.honest g.D.Disk.words c.args.now.now.moment c.args.request c.in-Discard.names c.as_slice-in-Discard.result.now c.args.self.now.relay
    c.withdraw-in-Discard.new.self.relay c.in_ok-answer-in-Discard.answer c.in-Discard.is c.as_slice-in-Discard.ensures.value c.in_ok-answer-in-Discard.ensures.withdraws
