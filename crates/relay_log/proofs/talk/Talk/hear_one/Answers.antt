-- A reply that ends is kept, or none is.
use Rattle.std.proofs.Common.{length, refl, take}
use Rattle.relay_log.proofs.TalkLemmas.{deaf, one_more, read_on}
use Rattle.relay_log.proofs.talk.Talk.hear_one.Goals as goal

pub returns-in-Some-clause-heard : goal.returns-in-Some-clause-heard
returns-in-Some-clause-heard c = λ before heard.
    one_more c.args.self.now (record c.args.self.now { reader = c.feed.new.self }) c.note.new.self before
    c.args.octets.now c.in-Ok.cut.reply c.in-Ok.cut.used c.in-Some.reply _ c.requires.listens c.in-Some.is
    c.in-Some.reply-is
    c.in-Ok.ensures.reads refl refl c.note.ensures.rest.0 c.note.ensures.kept heard

pub returns-in-None-clause-heard : goal.returns-in-None-clause-heard
returns-in-None-clause-heard c = λ before heard.
    read_on c.args.self.now (record c.args.self.now { reader = c.feed.new.self }) before c.args.octets.now
    c.in-Ok.cut.reply c.in-Ok.cut.used _ (λ reply. Unit {0}) (record { codes = refl; texts = refl }) c.requires.listens
    c.in-None.is c.in-Ok.ensures.whole c.in-Ok.ensures.reads heard

pub returns-in-Err-clause-heard : goal.returns-in-Err-clause-heard
returns-in-Err-clause-heard c = λ before heard.
    deaf c.args.self.now _ before (take (length c.args.octets.now) c.args.octets.now)
    (record { codes = refl; texts = refl }) refl heard
