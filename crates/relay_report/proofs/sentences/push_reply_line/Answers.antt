-- the blanks, the reply and the line's end
use Rattle.std.proofs.Common.{◌++◌, codes, refl}
use Rattle.relay_octets.specs.Line.{crlf}
use Rattle.relay_report.specs.StatusFields.{reply_words}
use Rattle.relay_report.specs.Sentences.{reply_line}
use Rattle.relay_report.proofs.JoinLemmas.{ends_by_octets, joins_3}
use Rattle.relay_report.proofs.sentences.push_reply_line.Goals as goal

pub returns : goal.returns
unfolding reply_line
returns c =
    ends_by_octets c.extend_from_slice-2.result c.push_reply_words.new.out.items crlf c.extend_from_slice-2.new.self.items _
    (joins_3 c.args.out.now.items (codes "    ") (reply_words c.args.code c.args.text.now) crlf c.extend_from_slice.new.self.items c.push_reply_words.new.out.items (c.push_reply_words.new.out.items ++ crlf)
    c.in_ok-extend_from_slice.ensures.items c.in_ok-push_reply_words.ensures refl)
    c.extend_from_slice-2.ensures.items
