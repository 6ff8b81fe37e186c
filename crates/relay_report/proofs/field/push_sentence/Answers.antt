-- word by word
use Rattle.std.proofs.Common.{◌++◌, refl}
use Rattle.relay_octets.specs.Line.{crlf}
use Rattle.relay_report.specs.Sentences.{sentence}
use Rattle.relay_report.proofs.JoinLemmas.{ends_by_octets, joins_4}
use Rattle.relay_report.proofs.field.push_sentence.Goals as goal

pub returns : goal.returns
unfolding sentence
returns c =
    ends_by_octets c.extend_from_slice-4.result c.extend_from_slice-3.new.self.items crlf c.extend_from_slice-4.new.self.items _
    (joins_4 c.args.out.now.items c.args.front.now c.args.word.now c.args.back.now crlf c.extend_from_slice.new.self.items c.extend_from_slice-2.new.self.items c.extend_from_slice-3.new.self.items (c.extend_from_slice-3.new.self.items ++ crlf)
    c.in_ok-extend_from_slice.ensures.items c.in_ok-extend_from_slice-2.ensures.items c.in_ok-extend_from_slice-3.ensures.items refl)
    c.extend_from_slice-4.ensures.items
