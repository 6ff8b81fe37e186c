-- A link that breaks keeps a world bound.
use Rattle.std.proofs.Common.{true, ◌≡◌, ℕ, Some, refl, sym, subst}
use Rattle.std.proofs.lemmas.Bool.{false≢true}
use Rattle.relay_disk.specs.Device.{DiskWords}
use Rattle.relay_world.specs.declared.link.Link.{Link}
use Rattle.relay_world.specs.declared.link.ServerEnd.{ServerEnd}
use Rattle.relay_world.specs.Bound.{IsBound, IsServed, IsTried}
use Rattle.relay_world.specs.Steps.{BreakingKeeps}
use Rattle.relay_world.proofs.LinkLemmas.{relinked}
use Rattle.relay_world.proofs.PieceLemmas.{passes_whole}

pub breaking_keeps : {D : Type 0} (honest : Type 0) (words : DiskWords D) → BreakingKeeps honest words
breaking_keeps {D} honest words old new lists number bound breaks =
    subst (λ w. IsBound honest words w lists) (sym breaks.new_is)
    (relinked honest words old lists number bound breaks.link broken breaks.link_is breaks.links breaks.put (record {
      served = served;
      tried = tried;
      reads = record {
        up = (bound.reads number breaks.link breaks.link_is).up;
        down = (bound.reads number breaks.link breaks.link_is).down;
      };
      server = refl;
      client = refl;
      serves = λ was end serves. record { server = serves; up = refl; up_read = refl; down = refl; broken = refl };
      tries = λ was. record { client = refl; up = refl; down = refl; down_read = refl; broken = refl };
    }))
  where
    broken : Link
    broken = record breaks.link { broken = true }

    served : (end : ServerEnd) → breaks.link.server ≡ Some end
        → IsServed (record old { links = breaks.links }) lists number broken end
    served end serves =
        let was : IsServed old lists number breaks.link end = bound.servers number breaks.link end breaks.link_is serves in
        record {
          host = was.host;
          changes = was.changes;
          stands = record { host_at = was.stands.host_at; list_at = was.stands.list_at };
          serves = record {
            said = was.serves.said;
            dialogue = was.serves.dialogue;
            numbered = was.serves.numbered;
            answered = was.serves.answered;
            input = was.serves.input;
            closing = was.serves.closing;
            closes = was.serves.closes;
            closed = was.serves.closed;
            wrote = was.serves.wrote;
            whole = λ is. absurd (false≢true (sym is));
            accepts = was.serves.accepts;
            stored = was.serves.stored;
            live = was.serves.live;
          };
        }

    tried : (place : ℕ) → breaks.link.client ≡ Some place
        → IsTried (record old { links = breaks.links }) lists number broken place
    tried place client =
        let was : IsTried old lists number breaks.link place = bound.clients number place breaks.link breaks.link_is client in
        record {
          attempt = was.attempt;
          attempt_at = was.attempt_at;
          its_link = was.its_link;
          host = was.host;
          changes = was.changes;
          stands = record { host_at = was.stands.host_at; list_at = was.stands.list_at };
          passes = passes_whole was.host was.changes breaks.link broken was.attempt refl refl
              (λ is. absurd (false≢true (sym is))) was.passes;
        }
