-- the front, the reply and the line's end
use Rattle.std.proofs.Common.{◌++◌, codes, refl}
use Rattle.relay_octets.specs.Line.{crlf}
use Rattle.relay_report.specs.StatusFields.{reply_words}
use Rattle.relay_report.proofs.FieldLemmas.{typed_joins}
use Rattle.relay_report.proofs.JoinLemmas.{ends_by_octets}
use Rattle.relay_report.proofs.status_fields.push_diagnostic_of.Goals as goal

pub returns : goal.returns
returns c =
    ends_by_octets c.extend_from_slice.result c.push_reply_words.new.out.items crlf c.extend_from_slice.new.self.items _
    (typed_joins c.args.out.now.items (codes "Diagnostic-Code") (codes "smtp") (reply_words c.args.code c.args.text.now)
    c.begin_typed_field.new.out.items c.push_reply_words.new.out.items (c.push_reply_words.new.out.items ++ crlf) c.in_ok-begin_typed_field.ensures c.in_ok-push_reply_words.ensures refl)
    c.extend_from_slice.ensures.items
