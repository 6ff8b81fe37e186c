-- the name, the body and the line's end
use Rattle.std.proofs.Common.{◌++◌, codes, refl}
use Rattle.relay_octets.specs.Line.{crlf}
use Rattle.relay_report.specs.Multipart.{message_id}
use Rattle.relay_report.proofs.FieldLemmas.{field_joins}
use Rattle.relay_report.proofs.JoinLemmas.{ends_by_octets}
use Rattle.relay_report.proofs.header.push_message_id.Goals as goal

pub returns : goal.returns
returns c =
    ends_by_octets c.extend_from_slice.result c.push_message_id_text.new.out.items crlf c.extend_from_slice.new.self.items _
    (field_joins c.args.out.now.items (codes "Message-ID") (message_id c.args.form c.args.at c.args.number c.args.host.now) c.begin_field.new.out.items c.push_message_id_text.new.out.items (c.push_message_id_text.new.out.items ++ crlf)
    c.in_ok-begin_field.ensures c.in_ok-push_message_id_text.ensures refl)
    c.extend_from_slice.ensures.items
