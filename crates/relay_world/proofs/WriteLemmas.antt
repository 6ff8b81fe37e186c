-- Octets that outside writes keep a world bound.
use Rattle.std.proofs.Common.{inl, inr, ◌≡◌, ℕ, false, List, Some, refl, sym, subst, ap, ◌∙◌}
use Rattle.std.proofs.lemmas.Bool.{false≢true}
use Rattle.std.proofs.lemmas.Option.{none-some}
use Rattle.relay_disk.specs.Device.{DiskWords}
use Rattle.relay_book.specs.declared.change.Change.{Change}
use Rattle.relay_world.specs.declared.link.Link.{Link}
use Rattle.relay_world.specs.declared.link.ServerEnd.{ServerEnd}
use Rattle.relay_world.specs.Bound.{IsBound, IsServed, IsTried, ReadsWithin}
use Rattle.relay_world.specs.Steps.{IsPutAt, WritesAs, WritingKeeps, written_down}
use Rattle.relay_world.specs.World.{World, link_at}
use Rattle.relay_world.proofs.PieceLemmas.{few_within, passes_as, read_stays}
use Rattle.relay_world.proofs.LinkLemmas.{relinked}

module _ {D : Type 0} (honest : Type 0) (words : DiskWords D) (old : World D) (lists : List (List Change)) (number : ℕ) (octets : List ℕ)
    (bound : IsBound honest words old lists) (link written : Link) (link_is : link_at old.links number ≡ Some link)
    (whole : link.broken ≡ false)
    (links : List Link) (put : IsPutAt old.links links number written) where
  -- what was written keeps the link's ends
  served_now : WritesAs link octets written → (end : ServerEnd) → written.server ≡ Some end
      → IsServed (record old { links = links }) lists number written end
  served_now (inl up) end serves =
      let its_end : link.server ≡ Some end = sym (ap (λ (l : Link). l.server) up.1) ∙ serves in
      let was : IsServed old lists number link end = bound.servers number link end link_is its_end in
      subst (λ l. IsServed (record old { links = links }) lists number l end) (sym up.1) (record {
        host = was.host;
        changes = was.changes;
        stands = record { host_at = was.stands.host_at; list_at = was.stands.list_at };
        serves = record {
          said = was.serves.said;
          dialogue = was.serves.dialogue;
          numbered = was.serves.numbered;
          answered = was.serves.answered;
          input = was.serves.input ∙ read_stays link.up_read link.up octets (bound.reads number link link_is).up;
          closing = was.serves.closing;
          closes = was.serves.closes;
          closed = was.serves.closed;
          wrote = was.serves.wrote;
          whole = was.serves.whole;
          accepts = was.serves.accepts;
          stored = was.serves.stored;
          live = was.serves.live;
        };
      })
  served_now (inr down) end serves =
      absurd (none-some end (sym down.0 ∙ sym (ap (λ (l : Link). l.server) down.1) ∙ serves))

  tried_now : WritesAs link octets written → (place : ℕ) → written.client ≡ Some place
      → IsTried (record old { links = links }) lists number written place
  tried_now (inl up) place client =
      absurd (none-some place (sym up.0 ∙ sym (ap (λ (l : Link). l.client) up.1) ∙ client))
  tried_now (inr down) place client =
      let its_client : link.client ≡ Some place = sym (ap (λ (l : Link). l.client) down.1) ∙ client in
      let was : IsTried old lists number link place = bound.clients number place link link_is its_client in
      subst (λ l. IsTried (record old { links = links }) lists number l place) (sym down.1) (record {
        attempt = was.attempt;
        attempt_at = was.attempt_at;
        its_link = was.its_link;
        host = was.host;
        changes = was.changes;
        stands = record { host_at = was.stands.host_at; list_at = was.stands.list_at };
        passes = passes_as was.host was.changes link (written_down link octets) was.attempt
            (read_stays link.down_read link.down octets (bound.reads number link link_is).down) refl refl was.passes;
      })

  reads_now : WritesAs link octets written → ReadsWithin written
  reads_now (inl up) = subst ReadsWithin (sym up.1) (record {
    up = few_within link.up_read link.up octets (bound.reads number link link_is).up;
    down = (bound.reads number link link_is).down;
  })
  reads_now (inr down) = subst ReadsWithin (sym down.1) (record {
    up = (bound.reads number link link_is).up;
    down = few_within link.down_read link.down octets (bound.reads number link link_is).down;
  })

  same_server : WritesAs link octets written → written.server ≡ link.server
  same_server (inl up) = ap (λ (l : Link). l.server) up.1
  same_server (inr down) = ap (λ (l : Link). l.server) down.1

  same_client : WritesAs link octets written → written.client ≡ link.client
  same_client (inl up) = ap (λ (l : Link). l.client) up.1
  same_client (inr down) = ap (λ (l : Link). l.client) down.1

  pub written_keeps : WritesAs link octets written → IsBound honest words (record old { links = links }) lists
  written_keeps writes =
      relinked honest words old lists number bound link written link_is links put (record {
        served = served_now writes;
        tried = tried_now writes;
        reads = reads_now writes;
        server = same_server writes;
        client = same_client writes;
        serves = λ broken end serves. absurd (false≢true (sym whole ∙ broken));
        tries = λ broken. absurd (false≢true (sym whole ∙ broken));
      })

pub writing_keeps : {D : Type 0} (honest : Type 0) (words : DiskWords D) → WritingKeeps honest words
writing_keeps honest words old new lists number octets bound has =
    subst (λ w. IsBound honest words w lists) (sym has.new_is)
    (written_keeps honest words old lists number octets bound has.link has.written has.link_is has.whole has.links has.put
    has.writes)
