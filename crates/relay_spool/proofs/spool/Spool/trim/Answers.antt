use Rattle.std.proofs.Common.{◌≡◌, Option, Some, refl, sym, subst, ap, ◌∙◌}
use Rattle.relay_disk.specs.Disks.{FailsNot, mine, other}
use Rattle.relay_spool.specs.declared.taken.HeadGate.{HeadGate}
use Rattle.relay_spool.specs.declared.taken.HeadGate.TheVariants.{Closed}
use Rattle.relay_spool.specs.declared.taken.Taken.{Taken}
use Rattle.relay_spool.specs.Pair.{HasBodies}
use Rattle.relay_spool.specs.Spool.{AtEachMoment, EveryImageHas, Rests, Stored, bodies_on}
use Rattle.relay_spool.specs.Trim.{TrimsIfGate, trimmed_gate, trimmed_taken}
use Rattle.relay_spool.proofs.SpoolLemmas.{every_image, rests_found, sound_of}
use Rattle.relay_spool.proofs.spool.Spool.trim.Goals as goal

pub returns-in_err-has_more-clause-stop : goal.returns-in_err-has_more-clause-stop
returns-in_err-has_more-clause-stop g c = λ honest.
    let words = g.D.Disk.words in
    let inside = c.self.inside in
    let live = ap (λ (s : Stored g.row.D.Denot). s.live) c.self.view_is ∙ c.requires in
    subst (λ (s : Stored g.row.D.Denot). AtEachMoment words s.disk c.trim_other.new.disks (HasBodies (λ bodies. bodies ≡ s.bodies))) c.self.view_is
    (c.trim_other.ensures.stop honest (bodies_on words inside.disk inside.taken) (c.self.invariant.rests honest live))

pub invariant_of-self-2 : goal.invariant_of-self-2
invariant_of-self-2 g c =
    let words = g.D.Disk.words in
    let inside = c.self.inside in
    let bodies = bodies_on words inside.disk inside.taken in
    let new = c.trim_other.new.disks in
    let live = ap (λ (s : Stored g.row.D.Denot). s.live) c.self.view_is ∙ c.requires in
    let taken : Taken = record { side = inside.taken.side; generation = inside.taken.generation; other = Some Closed } in
    sound_of words g.D.Disk.honest inside.size taken new bodies
    c.self.invariant.low c.self.invariant.high (λ honest. c.self.invariant.place honest live)
    (λ honest. subst (λ (gate : Option HeadGate). Rests words new (record { side = inside.taken.side; generation = inside.taken.generation; other = trimmed_gate gate }) bodies) c.in-Some.is
    (c.in_ok-has_more.ensures.rests honest bodies (c.self.invariant.rests honest live) c.in-Some.is))

pub returns-clause-trimmed : goal.returns-clause-trimmed
returns-clause-trimmed g c =
    let words = g.D.Disk.words in
    let inside = c.self.inside in
    let bodies = bodies_on words inside.disk inside.taken in
    let new = c.trim_other.new.disks in
    let live = ap (λ (s : Stored g.row.D.Denot). s.live) c.self.view_is ∙ c.requires in
    let taken : Taken = record { side = inside.taken.side; generation = inside.taken.generation; other = Some Closed } in
    let now : g.D.Disk.honest → Rests words new taken bodies =
    λ honest. subst (λ (gate : Option HeadGate). Rests words new (record { side = inside.taken.side; generation = inside.taken.generation; other = trimmed_gate gate }) bodies) c.in-Some.is
    (c.in_ok-has_more.ensures.rests honest bodies (c.self.invariant.rests honest live) c.in-Some.is) in
    record {
      size = ap (λ (s : Stored g.row.D.Denot). s.size) c.self.view_is;
      live = refl;
      taken = ap (λ (gate : Option HeadGate). record { side = inside.taken.side; generation = inside.taken.generation; other = trimmed_gate gate }) (sym c.in-Some.is)
          ∙ ap (λ (s : Stored g.row.D.Denot). trimmed_taken s.taken) c.self.view_is;
      failures = subst (λ (s : Stored g.row.D.Denot). FailsNot words s.disk new) c.self.view_is c.in_ok-has_more.ensures.failures.ok;
      mine_stays = λ honest. subst (λ (s : Stored g.row.D.Denot). words.seen (mine s.taken.side new) ≡ words.seen (mine s.taken.side s.disk)) c.self.view_is
          (c.in_ok-has_more.ensures.mine honest);
      other_is = λ honest. subst (λ (s : Stored g.row.D.Denot). TrimsIfGate c.args.most s.taken.other (words.seen (other s.taken.side s.disk)) (words.seen (other s.taken.side new)) c.in_ok-has_more.has_more) c.self.view_is
          (subst (λ (gate : Option HeadGate). TrimsIfGate c.args.most gate (words.seen (other inside.taken.side inside.disk)) (words.seen (other inside.taken.side new)) c.in_ok-has_more.has_more) (sym c.in-Some.is)
          (c.in_ok-has_more.ensures.trimmed honest));
      bodies_are = λ honest. rests_found words new taken bodies (now honest) ∙ ap (λ (s : Stored g.row.D.Denot). s.bodies) c.self.view_is;
      images = λ honest. subst (λ (s : Stored g.row.D.Denot). EveryImageHas words new (λ found. found ≡ s.bodies)) c.self.view_is
          (every_image words new taken bodies (now honest));
    }

pub returns-clause-stop : goal.returns-clause-stop
returns-clause-stop g c = λ honest.
    let words = g.D.Disk.words in
    let inside = c.self.inside in
    let live = ap (λ (s : Stored g.row.D.Denot). s.live) c.self.view_is ∙ c.requires in
    subst (λ (s : Stored g.row.D.Denot). AtEachMoment words s.disk c.trim_other.new.disks (HasBodies (λ bodies. bodies ≡ s.bodies))) c.self.view_is
    (c.trim_other.ensures.stop honest (bodies_on words inside.disk inside.taken) (c.self.invariant.rests honest live))
