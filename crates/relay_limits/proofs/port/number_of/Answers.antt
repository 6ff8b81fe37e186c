use Rattle.std.proofs.Common.{List, ℕ, subst, ◌∙◌}
use Rattle.std.specs.Str.Parse.{ParsesUnsigned}
use Rattle.relay_limits.proofs.PortLemmas.{parsed-port, port_is_utf8}
use Rattle.relay_limits.proofs.port.number_of.Goals as goal

pub returns-in-Ok : goal.returns-in-Ok
returns-in-Ok c =
    let parses =
    subst
    (λ (text : List ℕ). ParsesUnsigned 16 10 text c.parse.result) c.in-Ok.ensures.cases.0 c.parse.ensures.value.0 in
    c.ok.ensures.value ∙ parsed-port c.args.digits.now c.parse.result c.requires parses

pub returns-in-Err : goal.returns-in-Err
returns-in-Err c = absurd (c.in-Err.ensures.cases.0 (port_is_utf8 c.args.digits.now c.requires))
