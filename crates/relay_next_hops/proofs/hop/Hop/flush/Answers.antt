-- Each write leaves clients alone, and what it took counts as written.
use Rattle.std.proofs.Common.{rules, refl, inl, inr, ◌∙◌}
use Rattle.relay_connections.proofs.Theorems.{leaves_then}
use Rattle.relay_next_hops.proofs.LeaveLemmas.{leaves_same, wrote_leaves}
use Rattle.relay_next_hops.proofs.SendingLemmas.{sends_more, sends_same, sends_then}
use Rattle.relay_next_hops.proofs.hop.Hop.flush.Goals as goal

pub loop-init : goal.loop-init
loop-init g c = (
  search rules,
  search rules,
  search rules,
  search rules,
  search rules,
  leaves_same g.D.Disk.honest g.D.Disk.words c.args.relay.now,
  sends_same g.S.Stream.remaining g.S.Stream.contents c.args.attempt c.args.relay.now c.args.self.now.channel,
  (refl, inl (record { idle = refl; answer = refl }, refl)),
)

pub loop-preserved : goal.loop-preserved
loop-preserved g c = (
  search rules,
  search rules,
  search rules,
  search rules,
  search rules,
  leaves_then g.D.Disk.honest g.D.Disk.words c.args.relay.now c.loop.relay c.wrote_to_hop.new.self c.loop.invariant.5
      (wrote_leaves g.D.Disk.honest g.D.Disk.words c.args.attempt c.write-count.result c.loop.relay c.wrote_to_hop.new.self c.wrote_to_hop.ensures.hands c.wrote_to_hop.ensures.left c.wrote_to_hop.ensures.others c.wrote_to_hop.ensures.rest),
  sends_then g.S.Stream.remaining g.S.Stream.contents c.args.attempt c.args.relay.now c.loop.relay c.wrote_to_hop.new.self c.args.self.now.channel c.loop.self.channel c.wait_on.new.self.channel c.loop.invariant.6
      (sends_more g.S.Stream.remaining g.S.Stream.contents c.args.attempt c.write-count.result c.to_hop.result.now c.loop.relay c.wrote_to_hop.new.self c.loop.self.channel c.write-count.new.self c.wait_on.new.self.channel c.wait_on.ensures.channel.0 c.to_hop.ensures c.write-count.ensures.output c.wrote_to_hop.ensures.left),
  (c.wait_on.ensures.waits.phase ∙ c.loop.invariant.7.0, inr (record { idle = c.wait_on.ensures.waits.idle; answer = c.after-self.ensures })),
)
