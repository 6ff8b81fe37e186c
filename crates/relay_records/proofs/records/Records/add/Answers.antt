-- The append decides what the records keep.
use Rattle.std.proofs.Common.{◌≡◌, false, ◌∙◌, ap, rules, sym, subst}
use Rattle.relay_book.specs.Queue.{FitsQueue, Queue, step}
use Rattle.relay_records.specs.Records.{Kept}
use Rattle.relay_records.proofs.RecordLemmas.{added, body_is_short, cut_short, queue_more, noted_here, number_is, stop_stands}
use Rattle.relay_records.proofs.records.Records.add.Goals as goal

pub append-requires-clause-short : goal.append-requires-clause-short
append-requires-clause-short g c =
    body_is_short c.args.self.now.queue c.args.change c.as_slice.result.now (c.requires.fits (search rules))
    (c.as_slice.ensures ∙ c.in_ok-noted.ensures.octets_are ∙ c.requires.octets)

pub returns-clause-ok : goal.returns-clause-ok
returns-clause-ok g c = λ changes keeps. (
  number_is g.D.Disk.honest g.D.Disk.words _ c.args.self.now c.self.view_is changes c.args.change c.args.octets keeps
      (c.requires.fits (search rules)) c.requires.octets c.in_ok-noted.noted.number c.in_ok-noted.ensures.number,
  added g.D.Disk.honest g.D.Disk.words _ c.args.self.now c.self.view_is changes c.args.change c.as_slice.result.now keeps
      (c.requires.fits (search rules)) (c.as_slice.ensures ∙ c.in_ok-noted.ensures.octets_are ∙ c.requires.octets) _ c.args.used
      (c.in-Ok.ensures.committed ∙ ap (step c.ready_of.new.book.queue) c.in_ok-ready.ensures.change
      ∙ ap (λ (q : Queue). step q c.args.change) c.ready_of.ensures.queue)
      c.in-Ok.ensures.appended
      (noted_here g.D.Disk.honest g.D.Disk.words _ c.args.self.now c.self.view_is changes c.args.change c.args.octets keeps
      (c.requires.fits (search rules)) c.requires.octets c.args.used c.in_ok-noted.noted c.in_ok-noted.ensures),
)

pub returns-clause-stop : goal.returns-clause-stop
returns-clause-stop g c = λ changes keeps h.
    stop_stands g.D.Disk.honest g.D.Disk.words _ c.args.self.now c.self.view_is changes c.args.change c.as_slice.result.now keeps
    (c.requires.fits (search rules)) (c.as_slice.ensures ∙ c.in_ok-noted.ensures.octets_are ∙ c.requires.octets)
    c.append.new.spool.disk h (c.append.ensures.stop h)

pub returns-in-Err-Device-clause-cut : goal.returns-in-Err-Device-clause-cut
returns-in-Err-Device-clause-cut g c = λ changes keeps _.
    let left : c.append.new.book.queue ≡ c.ready_of.new.book.queue = search rules in
    let stopped : c.append.new.spool.live ≡ false = search rules in
    cut_short g.D.Disk.honest g.D.Disk.words _ c.args.self.now c.self.view_is changes c.args.change c.as_slice.result.now keeps
    (c.requires.fits (search rules)) (c.as_slice.ensures ∙ c.in_ok-noted.ensures.octets_are ∙ c.requires.octets) _ c.args.used
    (left ∙ c.ready_of.ensures.queue) stopped c.append.ensures.stop
    (noted_here g.D.Disk.honest g.D.Disk.words _ c.args.self.now c.self.view_is changes c.args.change c.args.octets keeps
    (c.requires.fits (search rules)) c.requires.octets c.args.used c.in_ok-noted.noted c.in_ok-noted.ensures)

pub returns-in-Err-Device-clause-stop : goal.returns-in-Err-Device-clause-stop
returns-in-Err-Device-clause-stop g c = λ changes keeps h.
    stop_stands g.D.Disk.honest g.D.Disk.words _ c.args.self.now c.self.view_is changes c.args.change c.as_slice.result.now keeps
    (c.requires.fits (search rules)) (c.as_slice.ensures ∙ c.in_ok-noted.ensures.octets_are ∙ c.requires.octets)
    c.append.new.spool.disk h (c.append.ensures.stop h)

pub returns-in-Err-clause-stop : goal.returns-in-Err-clause-stop
returns-in-Err-clause-stop g c = λ changes keeps h.
    stop_stands g.D.Disk.honest g.D.Disk.words _ c.args.self.now c.self.view_is changes c.args.change c.as_slice.result.now keeps
    (c.requires.fits (search rules)) (c.as_slice.ensures ∙ c.in_ok-noted.ensures.octets_are ∙ c.requires.octets)
    c.append.new.spool.disk h (c.append.ensures.stop h)

pub invariant_of-self-2 : goal.invariant_of-self-2
invariant_of-self-2 g c =
    queue_more c.self.inside.book.queue c.append.new.book.queue c.args.change c.self.invariant
    (subst (λ (k : Kept _). FitsQueue k.queue c.args.change) (sym c.self.view_is) (c.requires.fits (search rules)))
    (c.in-Ok.ensures.committed ∙ ap (step c.ready_of.new.book.queue) c.in_ok-ready.ensures.change
    ∙ ap (λ (q : Queue). step q c.args.change) c.ready_of.ensures.queue)
