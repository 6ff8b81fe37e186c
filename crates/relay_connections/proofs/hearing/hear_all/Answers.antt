use Rattle.std.proofs.Common.{map, refl, subst, ap, ◌∙◌}
use Rattle.relay_loop.specs.Groups.{ReadsAll}
use Rattle.relay_connections.specs.Hearing.{session_of}
use Rattle.relay_connections.proofs.hearing.hear_all.Goals as goal

pub returns-in-Ok-read_all-clause-own : goal.returns-in-Ok-read_all-clause-own
returns-in-Ok-read_all-clause-own g c = record {
  pieces = c.in-Ok.pieces.items;
  own = c.in-Ok.ensures.own;
  sessions = c.in-Ok-sessions_of.ensures ∙ ap (map session_of) c.as_slice.ensures.value;
  each = c.in-Ok-sessions_of.ensures ∙ ap (map session_of) c.as_slice.ensures.value ∙ c.in-Ok.ensures.each;
  group = c.in-Ok-read_all.field-0;
  heard = refl;
  answered = refl;
  notes = refl;
  replied = c.in-Ok-read_all.ensures.lengths.1;
  reads = λ changes keeps. subst (λ pieces. ReadsAll g.D.Disk.honest g.D.Disk.words changes c.args.now.now.moment pieces c.args.replies.now c.args.relay.now c.read_all.new.self c.in-Ok-read_all.field-0) c.as_slice-2.ensures.value (c.in-Ok-read_all.ensures.reads changes keeps);
}
