-- line by line
use Rattle.std.proofs.Common.{◌++◌, codes, refl}
use Rattle.std.specs.Option.{option_copied}
use Rattle.relay_octets.specs.Line.{crlf}
use Rattle.relay_report.specs.Sentences.{event_lines, next_lines, place_lines, sentence}
use Rattle.relay_report.proofs.JoinLemmas.{ends_by, joins_4}
use Rattle.relay_report.proofs.sentences.push_place.Goals as goal

pub returns : goal.returns
unfolding place_lines
returns c =
    let last = next_lines (option_copied c.args.until) c.args.due in
    ends_by c.push_next.result c.push_next.new.out.items (c.push_event.new.out.items ++ last) _
    (joins_4 c.args.out.now.items crlf (sentence (codes "For ") c.args.recipient.now.path (codes ":")) (event_lines c.args.hop.now c.args.due c.args.verdict.now) last
    c.extend_from_slice.new.self.items c.push_sentence.new.out.items c.push_event.new.out.items (c.push_event.new.out.items ++ last)
    c.in_ok-extend_from_slice.ensures.items (cc c.in_ok-push_sentence.ensures) c.in_ok-push_event.ensures refl)
    c.push_next.ensures
