-- The postmaster's path is none of MAIL.
use Rattle.std.proofs.Common.{ap}
use Rattle.std.proofs.lemmas.Bool.{false≢true}
use Rattle.relay_envelope.specs.Path.{is_reverse, value_of}
use Rattle.relay_envelope.proofs.ValidityLemmas.{none_other}
use Rattle.relay_envelope.proofs.validity.is_reverse_path.Goals as goal

pub returns-in-Some-Postmaster : goal.returns-in-Some-Postmaster
returns-in-Some-Postmaster c =
    let is = c.in-Some-Postmaster.ensures in
    let refused = ap (λ path. is_reverse (value_of path)) c.in-Some-Postmaster.field-0-is in
    (λ h. absurd (false≢true h), λ written. absurd (none_other is_reverse c.args.text.now _ is.0 is.1 refused written))
