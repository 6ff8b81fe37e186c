use Rattle.std.proofs.Common.{◌≡◌, ◌≤◌, ◌+◌, ◌-◌, List, length, refl, subst, sym, ap, ◌∙◌, arith, rules}
use Rattle.std.specs.Prelude.{slice_index_or, slice_set, vec_len}
use Rattle.std.proofs.lemmas.Option.{same_Some, slice_get_read}
use Rattle.relay_world.specs.declared.attempt.Attempt.{Attempt}
use Rattle.relay_world.specs.declared.line.Line.{Line}
use Rattle.relay_world.specs.declared.link.Link.{Link}
use Rattle.relay_world.specs.World.{World}
use Rattle.relay_events.specs.Carried.{IsAnswered}
use Rattle.relay_hosts.specs.Replied.{replied_attempt, replied_lines}
use Rattle.relay_events.specs.Relays.{world_of}
use Rattle.relay_events.proofs.PlaceLemmas.{link_same, link_there, number_positive}
use Rattle.relay_events.proofs.TellLemmas.{get_within}
use Rattle.relay_events.proofs.relays.Relays.take_replies.Goals as goal

pub index_mut-attempt-requires : goal.index_mut-attempt-requires
index_mut-attempt-requires g c =
    let within = c.requires.place in
    let len : length c.args.self.now.attempts.items ≡ vec_len c.args.self.now.attempts = search rules in
    omega (arith, within, len)

pub end_by_replies-requires : goal.end_by_replies-requires
end_by_replies-requires g c =
    let attempts = c.args.self.now.attempts.items in
    let read = c.index_mut-attempt.result.now in
    let at : read ≡ slice_index_or attempts c.args.place read = search rules in
    c.requires.room read (slice_get_read attempts (length attempts) c.args.place read refl c.requires.place at)

pub overflow_sub-number : goal.overflow_sub-number
overflow_sub-number g c =
    number_positive c.args.self.now.links.items c.args.number c.requires.there.link c.requires.there.link_is

pub index_mut-requires : goal.index_mut-requires
index_mut-requires g c =
    let there = c.requires.there in
    let links = c.args.self.now.links.items in
    let within = get_within links (c.args.number - 1) there.link (link_there links c.args.number there.link there.link_is) in
    let len : length links ≡ vec_len c.args.self.now.links = search rules in
    omega (arith, within, len)

pub write_replies-requires : goal.write_replies-requires
write_replies-requires g c =
    let there = c.requires.there in
    let links = c.args.self.now.links.items in
    let read = c.index_mut.result.now in
    let at : read ≡ slice_index_or links (c.args.number - 1) read = search rules in
    subst (λ (l : Link). l.down_read + c.args.replied.now.used ≤ length l.down)
    (sym (link_same links c.args.number there.link read there.link_is at)) there.within

pub returns-clause-takes : goal.returns-clause-takes
returns-clause-takes g c =
    let old = world_of c.args.self.now in
    let there = c.requires.there in
    let read = c.index_mut.result.now in
    let at : read ≡ slice_index_or old.links (c.args.number - 1) read = search rules in
    let attempt = c.index_mut-attempt.result.now in
    let attempt_at : attempt ≡ slice_index_or old.attempts c.args.place attempt = search rules in
    record {
      link = there.link;
      link_is = there.link_is;
      moved = c.write_replies.new.link;
      answered = subst (λ l. IsAnswered l c.write_replies.new.link c.args.replied.now c.write_replies.result)
          (link_same old.links c.args.number there.link read there.link_is at) c.write_replies.ensures;
      attempt = attempt;
      attempt_at = slice_get_read old.attempts (length old.attempts) c.args.place attempt refl c.requires.place attempt_at;
      new_is =
          ap (λ (a : Attempt). let next : World _ = record old {
            links = slice_set old.links (c.args.number - 1) c.write_replies.new.link;
            attempts = slice_set old.attempts c.args.place a;
            ledger = c.end_by_replies.new.ledger.items;
          } in next) c.end_by_replies.ensures.attempt
          ∙ ap (λ (l : List Line). let next : World _ = record old {
            links = slice_set old.links (c.args.number - 1) c.write_replies.new.link;
            attempts = slice_set old.attempts c.args.place (replied_attempt attempt c.args.replied.now.change);
            ledger = l;
          } in next) c.end_by_replies.ensures.items;
    }

pub returns-clause-len : goal.returns-clause-len
returns-clause-len g c attempt there =
    let attempts = c.args.self.now.attempts.items in
    let read = c.index_mut-attempt.result.now in
    let at : read ≡ slice_index_or attempts c.args.place read = search rules in
    let read_at = slice_get_read attempts (length attempts) c.args.place read refl c.requires.place at in
    c.end_by_replies.ensures.len
    ∙ ap (λ (a : Attempt). vec_len c.args.self.now.ledger
    + length (replied_lines c.args.number a c.args.replied.now.change c.args.recorded.now))
    (same_Some read attempt (sym read_at ∙ there))
