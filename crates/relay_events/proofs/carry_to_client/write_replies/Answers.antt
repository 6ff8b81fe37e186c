use Rattle.std.proofs.Common.{◌<◌, ◌++◌, List, ℕ, true, length, refl, subst, ap, ◌∙◌, rules}
use Rattle.relay_world.specs.declared.link.Link.{Link}
use Rattle.relay_events.proofs.carry_to_client.write_replies.Goals as goal

pub returns-in-Err : goal.returns-in-Err
returns-in-Err c = (
  c.in-Err.ensures.err ∙ ap (λ (l : Link). let off : Link = record l { broken = true } in off) c.read_down.ensures,
  refl,
  subst (λ o. 0 < length o) c.as_slice.ensures.value c.in-Err.ensures.some,
)

pub returns-in-Ok : goal.returns-in-Ok
returns-in-Ok c =
    let read = c.read_down.new.link in
    let out = c.args.replied.now.out.items in (
      c.in-Ok.ensures.ok
          ∙ ap (λ (o : List ℕ). let written : Link = record read { up = read.up ++ o } in written) c.as_slice.ensures.value
          ∙ ap (λ (l : Link). let written : Link = record l { up = l.up ++ out } in written) c.read_down.ensures,
      search rules,
    )
