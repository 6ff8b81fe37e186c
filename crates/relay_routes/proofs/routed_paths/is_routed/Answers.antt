-- A search of the octets before the domain finds what makes the path a routed one.
use Rattle.std.proofs.Common.{sym, ap, ◌∙◌}
use Rattle.std.specs.Option.{option_copied}
use Rattle.relay_envelope.specs.Path.{value_of}
use Rattle.relay_routes.proofs.RoutedLemmas.{found_is_routed}
use Rattle.relay_routes.proofs.routed_paths.is_routed.Goals as goal

pub returns : goal.returns
returns c =
    let has = sym (ap option_copied c.in-Some.is) ∙ c.domain_of.ensures in
    c.is_some.ensures
    ∙ found_is_routed (value_of c.args.path.now) c.in-Some.domain.now c.text-text.result.now c.split_at.result.0.now c.memchr3.result
    has c.text-text.ensures.value c.split_at.ensures.front c.memchr3.ensures
