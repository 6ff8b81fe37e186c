-- A link of an attempt from its start to its end, or to its loss.
use Rattle.std.proofs.Common.{[]}
use Rattle.relay_links.proofs.PushLemmas.{begins, ends_since}
use Rattle.relay_links.proofs.push.push_link.Goals as goal

pub returns-in-Ok-Ended-clause-pushed : goal.returns-in-Ok-Ended-clause-pushed
returns-in-Ok-Ended-clause-pushed g c = λ changes told keeps tells.
    let goes = c.in-Ok-Ended.ensures.goes _ (begins g.D.Disk.honest g.D.Disk.words c.args.now c.args.attempt (g.R.Read.remaining c.args.reader.now) (g.W.Write.contents c.args.writer.now) c.args.node.now changes told keeps tells) in
    rw c.in-Ok-Ended.field-0-is at goes

pub returns-in-Ok-Unwritten-clause-pushed : goal.returns-in-Ok-Unwritten-clause-pushed
returns-in-Ok-Unwritten-clause-pushed g c = λ changes told keeps tells.
    let goes = c.in-Ok-Unwritten.ensures.goes _ (begins g.D.Disk.honest g.D.Disk.words c.args.now c.args.attempt (g.R.Read.remaining c.args.reader.now) (g.W.Write.contents c.args.writer.now) c.args.node.now changes told keeps tells) in
    rw c.in-Ok-Unwritten.field-0-is at goes

pub returns-in-Ok-On-clause-pushed : goal.returns-in-Ok-On-clause-pushed
returns-in-Ok-On-clause-pushed g c = λ changes told keeps tells.
    let goes = c.in-Ok-On.ensures.goes _ (begins g.D.Disk.honest g.D.Disk.words c.args.now c.args.attempt (g.R.Read.remaining c.args.reader.now) (g.W.Write.contents c.args.writer.now) c.args.node.now changes told keeps tells) in
    let here = rw c.in-Ok-On.field-0-is at goes in
    c.lose_link.ensures.pushed _ _ _ [] [] here

pub returns-in-Ok-AtEnd-clause-pushed : goal.returns-in-Ok-AtEnd-clause-pushed
returns-in-Ok-AtEnd-clause-pushed g c = λ changes told keeps tells.
    let goes = c.in-Ok-AtEnd.ensures.goes _ (begins g.D.Disk.honest g.D.Disk.words c.args.now c.args.attempt (g.R.Read.remaining c.args.reader.now) (g.W.Write.contents c.args.writer.now) c.args.node.now changes told keeps tells) in
    let here = rw c.in-Ok-AtEnd.field-0-is at goes in
    c.lose_link-in-Ok-AtEnd.ensures.pushed _ _ _ [] [] here.1

pub returns-in-Ok-Broken-clause-pushed : goal.returns-in-Ok-Broken-clause-pushed
returns-in-Ok-Broken-clause-pushed g c = λ changes told keeps tells.
    let goes = c.in-Ok-Broken.ensures.goes _ (begins g.D.Disk.honest g.D.Disk.words c.args.now c.args.attempt (g.R.Read.remaining c.args.reader.now) (g.W.Write.contents c.args.writer.now) c.args.node.now changes told keeps tells) in
    let here = rw c.in-Ok-Broken.field-0-is at goes in
    c.lose_link-in-Ok-Broken.ensures.pushed _ _ _ here.0 here.1 here.2

pub returns-in-Err-clause-pushed : goal.returns-in-Err-clause-pushed
returns-in-Err-clause-pushed g c = λ changes told keeps tells.
    c.in-Err.ensures.goes _ (begins g.D.Disk.honest g.D.Disk.words c.args.now c.args.attempt (g.R.Read.remaining c.args.reader.now) (g.W.Write.contents c.args.writer.now) c.args.node.now changes told keeps tells)

pub returns-in-Ok-On-clause-ends : goal.returns-in-Ok-On-clause-ends
returns-in-Ok-On-clause-ends g c =
    ends_since g.D.Disk.words c.args.node.now c.converse.new.node c.lose_link.new.node c.in-Ok-On.ensures.rest.1 (rw c.in-Ok-On.field-0-is at c.in-Ok-On.ensures.moves) _ c.lose_link.ensures.ends

pub returns-in-Ok-AtEnd-clause-ends : goal.returns-in-Ok-AtEnd-clause-ends
returns-in-Ok-AtEnd-clause-ends g c =
    ends_since g.D.Disk.words c.args.node.now c.converse.new.node c.lose_link-in-Ok-AtEnd.new.node c.in-Ok-AtEnd.ensures.rest.1 (rw c.in-Ok-AtEnd.field-0-is at c.in-Ok-AtEnd.ensures.moves) _ c.lose_link-in-Ok-AtEnd.ensures.ends

pub returns-in-Ok-Broken-clause-ends : goal.returns-in-Ok-Broken-clause-ends
returns-in-Ok-Broken-clause-ends g c =
    ends_since g.D.Disk.words c.args.node.now c.converse.new.node c.lose_link-in-Ok-Broken.new.node c.in-Ok-Broken.ensures.rest.1 (rw c.in-Ok-Broken.field-0-is at c.in-Ok-Broken.ensures.moves) _ c.lose_link-in-Ok-Broken.ensures.ends
