-- field by field
use Rattle.std.proofs.Common.{◌++◌, codes, refl}
use Rattle.std.specs.Option.{option_copied}
use Rattle.relay_report.specs.StatusFields.{field, original_envelope_id, typed}
use Rattle.relay_report.proofs.JoinLemmas.{ends_by, joins_3}
use Rattle.relay_report.proofs.status_fields.push_message_fields.Goals as goal

pub returns : goal.returns
returns c =
    ends_by c.push_field.result c.push_field.new.out.items (c.push_typed_field.new.out.items ++ field (codes "Arrival-Date") c.args.arrival.now) _
    (joins_3 c.args.out.now.items (original_envelope_id (option_copied c.args.envid)) (field (codes "Reporting-MTA") (typed (codes "dns") c.args.host.now)) (field (codes "Arrival-Date") c.args.arrival.now)
    c.push_original_envelope_id.new.out.items c.push_typed_field.new.out.items (c.push_typed_field.new.out.items ++ field (codes "Arrival-Date") c.args.arrival.now) c.in_ok-push_original_envelope_id.ensures c.in_ok-push_typed_field.ensures refl)
    c.push_field.ensures
