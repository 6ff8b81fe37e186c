use Rattle.std.proofs.Common.{ℕ, List, sym, subst, arith}
use Rattle.std.specs.Prelude.{vec_capacity, vec_len}
use Rattle.relay_hosts.specs.Host.{host_of}
use Rattle.relay_hosts.specs.Work.{BeginsAttempt}
use Rattle.relay_hosts.proofs.CallLemmas.{runs_on}
use Rattle.relay_hosts.proofs.WorkLemmas.{owes_more, owes_unchanged, refuses_attempt}
use Rattle.relay_hosts.proofs.work.start_at.Goals as goal

pub returns-in-Ok-start-clause-begun : goal.returns-in-Ok-start-clause-begun
returns-in-Ok-start-clause-begun g c =
    subst (λ (l : List (List ℕ)). BeginsAttempt g.D.Disk.honest g.D.Disk.words c.args.now
    (host_of c.args.node.now c.args.records.now.items) (host_of c.start.new.self l) c.args.message c.args.hop.now
    c.in-Ok-start.started) (sym {A = List (List ℕ)} c.in-Ok.ensures.items) (record {
      before = c.args.node.now;
      after = c.start.new.self;
      runs = runs_on c.args.node.now c.start.new.self c.args.records.now.items c.in-Ok-start.ensures.rest.1;
      begins = c.in-Ok-start.ensures.begins;
      records = c.in-Ok-start.ensures.rest.0;
      seats = c.in-Ok-start.ensures.rest.2;
    })

pub returns-in-Ok-start-clause-room : goal.returns-in-Ok-start-clause-room
returns-in-Ok-start-clause-room g c =
    let knows = c.requires.changes in
    let begun = c.in-Ok-start.ensures.begins knows.changes knows.keeps in
    owes_more c.args.node.now c.start.new.self c.in-Ok-start.started.attempt (vec_len c.args.records.now)
    (vec_capacity c.args.records.now) c.args.owed.now c.in-Some.more (vec_len c.reserve.new.self)
    (vec_capacity c.reserve.new.self) c.requires.room knows.keeps.live c.in-Ok-start.ensures.rest.0 begun.others
    c.in-Some.ensures.1 c.in-Ok.ensures.ok

pub returns-in-Err-clause-begun : goal.returns-in-Err-clause-begun
returns-in-Err-clause-begun g c =
    refuses_attempt g.D.Disk.honest g.D.Disk.words c.args.node.now c.start.new.self c.args.records.now.items
    c.reserve.new.self.items c.args.message c.args.now c.args.hop.now c.in-Err.fault c.in-Err.ensures.unchanged
    c.in-Ok.ensures.items c.in-Err.ensures.refused

pub returns-in-Err-clause-room : goal.returns-in-Err-clause-room
returns-in-Err-clause-room g c =
    let more = c.in-Some.ensures in
    let fits = c.in-Ok.ensures.ok in
    owes_unchanged c.args.node.now c.start.new.self (vec_len c.args.records.now) (vec_capacity c.args.records.now)
    c.args.owed.now (vec_len c.reserve.new.self) (vec_capacity c.reserve.new.self) c.requires.room
    c.in-Err.ensures.unchanged (omega (arith, more, fits))
