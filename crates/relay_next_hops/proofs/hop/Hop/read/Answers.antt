-- What was read is heard at once, and only where all before it is used.
use Rattle.std.proofs.Common.{inl, inr, refl, sym, ◌∙◌, subst, rules}
use Rattle.relay_connections.specs.Channel.{KeepsOutput}
use Rattle.relay_connections.specs.declared.channel.Channel.{Channel}
use Rattle.relay_next_hops.proofs.TellingLemmas.{read_none, read_some, told_read, told_same}
use Rattle.relay_next_hops.proofs.hop.Hop.read.Goals as goal

pub returns-then-not-fill-clause-told : goal.returns-then-not-fill-clause-told
returns-then-not-fill-clause-told g c = λ used told.
    told_same c.args.self.now (record c.args.self.now { channel = c.fill.new.self }) used refl
    (read_none c.args.self.now.channel c.fill.new.self c.fill.result (search rules) c.fill.ensures.unread
    c.fill.ensures.came) told

pub returns-clause-told : goal.returns-clause-told
returns-clause-told g c = λ used told.
    told_read c.args.self.now c.wait_on.new.self c.hear.new.self c.piece.result.now used
    (read_some c.args.self.now.channel c.fill.result (search rules) c.fill.ensures.none) c.wait_on.ensures.talk
    c.piece.ensures c.hear.ensures.heard told

pub returns-then-not-fill-clause-waits : goal.returns-then-not-fill-clause-waits
returns-then-not-fill-clause-waits g c = record {
  phase = refl;
  answer = refl;
  idle = inl refl;
  came = λ none some.
      absurd (some
      (read_none c.args.self.now.channel c.fill.new.self c.fill.result (search rules) c.fill.ensures.unread c.fill.ensures.came ∙ none));
}

pub returns-clause-waits : goal.returns-clause-waits
returns-clause-waits g c = record {
  phase = c.wait_on.ensures.waits.phase;
  answer = c.wait_on.ensures.waits.answer;
  idle = inr c.wait_on.ensures.waits.idle;
  came = λ none some. c.wait_on.ensures.waits.idle;
}

pub returns-clause-output : goal.returns-clause-output
returns-clause-output g c =
    subst (λ (it : Channel _). KeepsOutput g.S.Stream.remaining g.S.Stream.contents c.args.self.now.channel it) (sym c.wait_on.ensures.channel.0) c.fill.ensures.output
