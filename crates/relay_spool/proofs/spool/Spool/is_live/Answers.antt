use Rattle.std.proofs.Common.{ap, subst, ◌∙◌}
use Rattle.relay_spool.specs.Spool.{IsAtRest, Stored, bodies_on}
use Rattle.relay_spool.proofs.SpoolLemmas.{every_image, rests_read}
use Rattle.relay_spool.proofs.spool.Spool.is_live.Goals as goal

pub returns-clause-rests : goal.returns-clause-rests
returns-clause-rests g c = λ honest live.
    let words = g.D.Disk.words in
    let inside = c.self.inside in
    let bodies = bodies_on words inside.disk inside.taken in
    let on = ap (λ (s : Stored g.row.D.Denot). s.live) c.self.view_is ∙ live in
    let rests = c.self.invariant.rests honest on in
    subst (λ (s : Stored g.row.D.Denot). IsAtRest words s) c.self.view_is (record {
      reads = rests_read words inside.disk inside.taken bodies rests;
      described = rests.described;
      images = every_image words inside.disk inside.taken bodies rests;
      size = c.self.invariant.place honest on;
    })
