use Rattle.std.proofs.Common.{◌≡◌, ◌-◌, length, sym, ap, ◌∙◌, arith, rules}
use Rattle.std.specs.Prelude.{vec_len}
use Rattle.relay_world.specs.declared.link.Link.{Link}
use Rattle.relay_hosts.specs.Links.{runs_there, tries_on}
use Rattle.relay_events.specs.Relays.{world_of}
use Rattle.relay_events.proofs.LossLemmas.{attempt_at, attempt_within, no_client, not_running, runs_on}
use Rattle.relay_events.proofs.PlaceLemmas.{link_same, link_there, number_positive}
use Rattle.relay_events.proofs.TellLemmas.{get_within}
use Rattle.relay_events.proofs.relays.Relays.client_end.Goals as goal

pub overflow_sub-number : goal.overflow_sub-number
overflow_sub-number g c =
    number_positive c.args.self.now.links.items c.args.number c.requires.tries.link c.requires.tries.link_is

pub index-link-requires : goal.index-link-requires
index-link-requires g c =
    let tries = c.requires.tries in
    let links = c.args.self.now.links.items in
    let within = get_within links (c.args.number - 1) tries.link (link_there links c.args.number tries.link tries.link_is) in
    let len : length links ≡ vec_len c.args.self.now.links = search rules in
    omega (arith, within, len)

pub unreachable-requires : goal.unreachable-requires
unreachable-requires g c =
    let tries = c.requires.tries in
    let old = world_of c.args.self.now in
    let link = c.index-link.result.now in
    let same = link_same old.links c.args.number tries.link link tries.link_is c.index-link.ensures in
    no_client old.attempts link.client c.in_default.is (ap (λ (l : Link). tries_on old.attempts l.client) same ∙ tries.tries)

pub index-attempt-requires : goal.index-attempt-requires
index-attempt-requires g c =
    let tries = c.requires.tries in
    let old = world_of c.args.self.now in
    let link = c.index-link.result.now in
    let same = link_same old.links c.args.number tries.link link tries.link_is c.index-link.ensures in
    let trying = ap (λ (l : Link). tries_on old.attempts l.client) same ∙ tries.tries in
    let within = attempt_within g.D.Disk.honest g.D.Disk.words old c.in-Some.place link.client c.in-Some.is trying in
    let len : length c.args.self.now.attempts.items ≡ vec_len c.args.self.now.attempts = search rules in
    omega (arith, within, len)

pub unreachable-requires-in_default-fate : goal.unreachable-requires-in_default-fate
unreachable-requires-in_default-fate g c =
    let tries = c.requires.tries in
    let old = world_of c.args.self.now in
    let link = c.index-link.result.now in
    let attempt = c.index-attempt.result.now in
    let same = link_same old.links c.args.number tries.link link tries.link_is c.index-link.ensures in
    let trying = ap (λ (l : Link). tries_on old.attempts l.client) same ∙ tries.tries in
    let there = attempt_at g.D.Disk.honest g.D.Disk.words old c.args.number c.in-Some.place link.client attempt c.in-Some.is
    trying c.index-attempt.ensures in
    not_running attempt.fate c.in_default-fate.not-Running (sym (ap (λ o. runs_there o) there)
    ∙ sym (ap (λ cl. tries_on old.attempts cl) c.in-Some.is) ∙ trying)

pub returns : goal.returns
returns g c =
    let tries = c.requires.tries in
    let old = world_of c.args.self.now in
    let link = c.index-link.result.now in
    let attempt = c.index-attempt.result.now in
    let same = link_same old.links c.args.number tries.link link tries.link_is c.index-link.ensures in
    let trying = ap (λ (l : Link). tries_on old.attempts l.client) same ∙ tries.tries in
    let there = attempt_at g.D.Disk.honest g.D.Disk.words old c.args.number c.in-Some.place link.client attempt c.in-Some.is
    trying c.index-attempt.ensures in
    record {
      attempt = attempt;
      on = runs_on g.D.Disk.honest g.D.Disk.words old c.requires.bound.lists c.args.number c.in-Some.place c.in-Running.slot
          tries.link attempt c.requires.bound.bound tries.link_is (ap (λ (l : Link). l.client) (sym same) ∙ c.in-Some.is) there
          c.in-Running.is;
    }
