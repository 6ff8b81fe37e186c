use Rattle.std.proofs.Common.{refl}
use Rattle.relay_world.proofs.laws.answered_is_acknowledged.Goals as goal

pub returns : goal.returns
returns g c = λ world on link end is_there serves host found said dialogue was_read written answers number last_answer offers offer last_offer each. record {
  on = on;
  link = link;
  is_there = is_there;
  end = end;
  serves = serves;
  its_node = refl;
  host = host;
  found = found;
  said = said;
  dialogue = dialogue;
  was_read = was_read;
  written = written;
  answers = answers;
  last_answer = last_answer;
  offers = offers;
  offer = offer;
  last_offer = last_offer;
  each = each;
  places_are = refl;
}
