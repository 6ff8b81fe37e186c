use Rattle.std.proofs.Common.{◌≡◌, ◌<◌, Err, length, sym, ap, ◌∙◌, arith}
use Rattle.std.proofs.lemmas.Bool.{true≢false}
use Rattle.std.proofs.lemmas.Bool.Decides.{nat_tests}
use Rattle.relay_hosts.specs.Host.{host_in}
use Rattle.relay_hosts.proofs.WorkLemmas.{first_of, live_of, none_of, only_memory, works_are}
use Rattle.relay_hosts.proofs.host.Host.first_work.Goals as goal

pub returns-in-Err-clause-fault : goal.returns-in-Err-clause-fault
returns-in-Err-clause-fault g c =
    let is = sym c.self.view_is ∙ ap (λ h. host_in h c.self.inside.records.items) c.in-Up.is in
    let live = live_of g.D.Disk.honest g.D.Disk.words c.in-Up.node c.args.self.now c.self.inside.records.items is c.requires in
    only_memory c.in-Err.fault c.in-Err.ensures.faults
    (λ stop. true≢false (sym live ∙ c.in-Err.ensures.stopped.0 (ap Err stop)))

pub returns-then-is_empty-clause-first : goal.returns-then-is_empty-clause-first
returns-then-is_empty-clause-first g c =
    let is = sym c.self.view_is ∙ ap (λ h. host_in h c.self.inside.records.items) c.in-Up.is in
    let len = c.in-Ok.works.ok.0 in
    let none : length c.in-Ok.works.items ≡ 0 = grind (arith, nat_tests, len, c.is_empty.ensures, c.if-is_empty.true) in
    works_are c.args.now c.args.self.now c.in-Up.node c.self.inside.records.items _ is
    (rw (← c.in-Ok.ensures.works) (none_of c.in-Ok.works.items none))

pub returns-clause-first : goal.returns-clause-first
returns-clause-first g c =
    let is = sym c.self.view_is ∙ ap (λ h. host_in h c.self.inside.records.items) c.in-Up.is in
    let len = c.in-Ok.works.ok.0 in
    let some : 0 < length c.in-Ok.works.items = grind (arith, nat_tests, len, c.is_empty.ensures, c.if-is_empty.false) in
    works_are c.args.now c.args.self.now c.in-Up.node c.self.inside.records.items _ is
    (rw (← c.in-Ok.ensures.works) (first_of c.in-Ok.works.items c.swap_remove.result c.swap_remove.ensures.value some))
