use Rattle.std.proofs.Common.{refl, rules, sym}
use Rattle.relay_hosts.proofs.calls.take_note.Goals as goal

pub returns-clause-takes : goal.returns-clause-takes
returns-clause-takes g c = record {
  noted = c.in-Some.noted;
  note_is = sym c.in-Some.ensures.noted;
  tells = record { accepted = refl; left = search rules; report = refl };
  after_is = c.in-Some.ensures.rest;
  records = search rules;
}
