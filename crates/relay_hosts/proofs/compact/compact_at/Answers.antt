use Rattle.std.proofs.Common.{◌≡◌, true, false, [], Err, refl, subst, ap, ◌∙◌, arith, rules}
use Rattle.relay_node.specs.Compaction.{LeavesUncompacted}
use Rattle.relay_node.specs.Node.{NodeState}
use Rattle.relay_hosts.specs.Call.{is_stop}
use Rattle.relay_hosts.specs.Host.{notes_of}
use Rattle.relay_hosts.proofs.CallLemmas.{stop_is}
use Rattle.relay_hosts.proofs.CompactLemmas.{halts_down, owes_no_more, rewrote, uncompacted_same, uncompacted_why}
use Rattle.relay_hosts.proofs.StopLemmas.{left_by_stop}
use Rattle.relay_hosts.proofs.WorkLemmas.{same_host}
use Rattle.relay_hosts.proofs.compact.compact_at.Goals as goal

pub returns-in-Ok-clause-rewrites : goal.returns-in-Ok-clause-rewrites
returns-in-Ok-clause-rewrites g c =
    λ records. rewrote g.D.Disk.honest g.D.Disk.words c.args.node c.compact.new.self records c.in-Ok.sizes.1
    c.in-Ok.ensures.rest c.in-Ok.ensures.compacts c.in-Ok.ensures.kept c.in-Ok.ensures.sizes.1

pub returns-in-Ok-clause-notes : goal.returns-in-Ok-clause-notes
returns-in-Ok-clause-notes g c =
    owes_no_more g.D.Disk.honest g.D.Disk.words c.args.node c.compact.new.self [] c.requires.keeps.live
    c.in-Ok.ensures.compacts.live c.in-Ok.ensures.rest.2

pub returns-then-is_stop-clause-rewrites : goal.returns-then-is_stop-clause-rewrites
returns-then-is_stop-clause-rewrites g c =
    let stop : is_stop c.in-Err.fault ≡ true = search rules in
    λ records. halts_down g.D.Disk.honest g.D.Disk.words c.args.node c.compact.new.self records _
    (c.into_parts-config.ensures.config ∙ c.in-Err.ensures.rest.0) refl
    (subst (λ f. LeavesUncompacted g.D.Disk.words c.args.node c.compact.new.self f) (stop_is c.in-Err.fault stop)
    (c.in-Err.ensures.refused.refused c.requires.keeps.live))
    (λ changes keeps. c.in-Err.ensures.cut changes keeps (ap (λ f. Err f) (stop_is c.in-Err.fault stop)))
    (left_by_stop g.D.Disk.honest g.D.Disk.words c.compact.new.self.records _ c.stopped-disk.result c.into_parts-config.ensures.disk
    c.stopped-disk.ensures.images c.stopped-disk.ensures.fuse)

pub returns-then-is_stop-clause-notes : goal.returns-then-is_stop-clause-notes
returns-then-is_stop-clause-notes g c = omega arith

pub returns-else-is_stop-clause-rewrites : goal.returns-else-is_stop-clause-rewrites
returns-else-is_stop-clause-rewrites g c =
    let ok : is_stop c.in-Err.fault ≡ false = search rules in
    let live = c.requires.keeps.live in
    let refused = c.in-Err.ensures.refused in
    let same = uncompacted_same g.D.Disk.words c.args.node c.compact.new.self c.in-Err.fault ok (refused.refused live) in
    λ records. (
      uncompacted_why g.D.Disk.words c.args.node c.compact.new.self records c.in-Err.fault ok (refused.refused live)
          (λ is. (refused.no_second live).0 (ap (λ f. Err f) is)) (λ is. ((refused.full live).0 (ap (λ f. Err f) is)).1),
      same_host c.args.node c.compact.new.self records records same refl,
    )

pub returns-else-is_stop-clause-notes : goal.returns-else-is_stop-clause-notes
returns-else-is_stop-clause-notes g c =
    let ok : is_stop c.in-Err.fault ≡ false = search rules in
    let same = uncompacted_same g.D.Disk.words c.args.node c.compact.new.self c.in-Err.fault ok
    (c.in-Err.ensures.refused.refused c.requires.keeps.live) in
    let notes = ap (λ (n : NodeState _). notes_of n) same in
    omega (arith, notes)
