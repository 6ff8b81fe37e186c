use Rattle.std.proofs.Common.{suc, [], ◌++◌, refl, sym, ap, ◌∙◌, append_assoc}
use Rattle.std.proofs.lemmas.List.{append-nil}
use Rattle.relay_events.specs.Relays.{world_of}
use Rattle.relay_events.proofs.RunLemmas.{both_happened, none_happened}
use Rattle.relay_events.proofs.TellLemmas.{tell_more}
use Rattle.relay_events.proofs.relays.Relays.tell.Goals as goal

pub loop-number-init : goal.loop-number-init
loop-number-init g c = (
  (0, [], (refl, refl), sym (append-nil c.args.stopped.now)),
  none_happened g.D.Disk.honest g.D.Disk.words (world_of c.args.self.now),
  c.requires.bound,
  c.requires.room,
  c.requires.list,
)

pub loop-number-preserved : goal.loop-number-preserved
loop-number-preserved g c =
    let told = c.loop-number.invariant.0 in
    let one = c.tell_one.ensures.told in (
      (
        suc told.0,
        told.1 ++ one.0,
        tell_more g.D.Disk.honest g.D.Disk.words told.0 (world_of c.args.self.now) (world_of c.loop-number.self)
            (world_of c.tell_one.new.self) told.1 _ told.2 c.in-Some.ensures c.loop-number.stopped
            c.tell_one.new.stopped one,
        one.2 ∙ ap (λ l. l ++ one.0) told.3 ∙ append_assoc c.args.stopped.now told.1 one.0,
      ),
      both_happened g.D.Disk.honest g.D.Disk.words (world_of c.args.self.now) (world_of c.loop-number.self)
          (world_of c.tell_one.new.self) c.loop-number.invariant.1 c.tell_one.ensures.happened,
      c.tell_one.ensures.bound,
      c.tell_one.ensures.room,
      c.tell_one.ensures.list,
    )

pub returns-clause-told : goal.returns-clause-told
returns-clause-told g c =
    let told = c.loop-number.invariant.0 in
    (record { turns = told.0; stopped = told.1; tell = told.2; told = c.in_default.ensures }, told.3)
