-- line by line
use Rattle.std.proofs.Common.{◌++◌, codes, decimal, refl}
use Rattle.relay_report.specs.Sentences.{greeting, sentence}
use Rattle.relay_report.proofs.JoinLemmas.{ends_by, joins_3}
use Rattle.relay_report.proofs.sentences.push_greeting.Goals as goal

pub returns : goal.returns
unfolding greeting
returns c =
    let last = sentence (codes "at ") c.args.arrival.now (codes ":") in
    ends_by c.push_sentence-3.result c.push_sentence-3.new.out.items (c.push_sentence-2.new.out.items ++ last) _
    (joins_3 c.args.out.now.items (sentence (codes "This is the mail relay at ") c.args.host.now (codes ".")) (sentence (codes "It reports about your message, which it accepted as number ") (decimal c.args.number) (codes ",")) last
    c.push_sentence.new.out.items c.push_sentence-2.new.out.items (c.push_sentence-2.new.out.items ++ last)
    c.in_ok-push_sentence.ensures (cc c.in_ok-push_sentence-2.ensures) refl)
    c.push_sentence-3.ensures
