use Rattle.std.proofs.Common.{◌≡◌, ◌-◌, length, Some, refl, subst, sym, ap, ◌∙◌, arith, rules}
use Rattle.std.specs.Prelude.{slice_index_or, slice_set, vec_len}
use Rattle.std.specs.Global.{Vec}
use Rattle.relay_world.specs.declared.link.Link.{Link}
use Rattle.relay_world.specs.Steps.{IsPutAt}
use Rattle.relay_world.specs.World.{link_at}
use Rattle.relay_events.specs.Relays.{world_of}
use Rattle.relay_events.proofs.PlaceLemmas.{link_put, link_same, link_there, number_positive}
use Rattle.relay_events.proofs.TellLemmas.{get_within}
use Rattle.relay_events.proofs.relays.Relays.begin_on.Goals as goal

pub overflow_sub-number : goal.overflow_sub-number
overflow_sub-number g c =
    number_positive c.args.self.now.links.items c.args.number c.requires.there.link c.requires.there.link_is

pub index_mut-requires : goal.index_mut-requires
index_mut-requires g c =
    let there = c.requires.there in
    let links = c.args.self.now.links.items in
    let within = get_within links (c.args.number - 1) there.link (link_there links c.args.number there.link there.link_is) in
    let len : length links ≡ vec_len c.args.self.now.links = search rules in
    let same = ap (λ (l : Vec Link). vec_len l) c.begin.ensures.rest.0 in
    omega (arith, within, len, same)

pub returns-clause-begun : goal.returns-clause-begun
returns-clause-begun g c =
    let blank = c.requires.there.link in
    let there = c.requires.there.link_is in
    let old = world_of c.args.self.now in
    let number = c.args.number in
    let links = c.begin.new.self.links.items in
    let same = ap (λ (l : Vec Link). l.items) c.begin.ensures.rest.0 in
    let begun = c.in-Ok.ensures.begun in
    let read = c.index_mut.result.now in
    let at : read ≡ slice_index_or links (number - 1) read = search rules in
    let read_same = link_same links number blank read (ap (λ ls. link_at ls number) same ∙ there) at in
    let moved = slice_set links (number - 1) (record read { client = Some c.in-Ok.place }) in
    let moved_is : record read { client = Some c.in-Ok.place } ≡ record blank { client = Some (length old.attempts) } =
    ap (λ (l : Link). let ours : Link = record l { client = Some c.in-Ok.place } in ours) read_same
    ∙ ap (λ p. let ours : Link = record blank { client = Some p } in ours) begun.place_is in
    record {
      blank = blank;
      blank_at = there;
      middle = world_of c.begin.new.self;
      begun = begun;
      moved = moved;
      put = subst (λ l. IsPutAt old.links moved number l) moved_is
          (subst
          (λ ls. IsPutAt old.links (slice_set ls (number - 1) (record read { client = Some c.in-Ok.place })) number
          (record read { client = Some c.in-Ok.place })) (sym same)
          (link_put old.links number blank (record read { client = Some c.in-Ok.place }) there));
      new_is = refl;
    }
