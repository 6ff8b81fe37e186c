-- the sentence and the reply
use Rattle.std.proofs.Common.{◌++◌, codes, refl}
use Rattle.relay_report.specs.Sentences.{refusal_lines, reply_line, sentence}
use Rattle.relay_report.proofs.JoinLemmas.{ends_by, joins_2}
use Rattle.relay_report.proofs.sentences.push_refusal.Goals as goal

pub returns : goal.returns
unfolding refusal_lines
returns c =
    let last = reply_line c.args.code c.args.text.now in
    ends_by c.push_reply_line.result c.push_reply_line.new.out.items (c.push_sentence.new.out.items ++ last) _
    (joins_2 c.args.out.now.items (sentence (codes "  It could not be delivered. ") c.args.hop.now (codes " answered:")) last
    c.push_sentence.new.out.items (c.push_sentence.new.out.items ++ last) c.in_ok-push_sentence.ensures refl)
    c.push_reply_line.ensures
