-- A link that changes alone keeps a world bound, where it is bound itself.
use Rattle.std.proofs.Common.{inl, inr, ◌≡◌, ℕ, true, List, length, Some, refl, sym, subst, ap, ◌∙◌}
use Rattle.std.proofs.lemmas.Bool.{cases_eq}
use Rattle.std.proofs.lemmas.Option.{same_Some}
use Rattle.relay_disk.specs.Device.{DiskWords}
use Rattle.relay_book.specs.declared.change.Change.{Change}
use Rattle.relay_world.specs.declared.link.Link.{Link}
use Rattle.relay_world.specs.declared.link.ServerEnd.{ServerEnd}
use Rattle.relay_world.specs.Bound.{HasSession, IsBound, IsServed, IsTried, ReadsWithin}
use Rattle.relay_world.specs.Steps.{IsPutAt}
use Rattle.relay_world.specs.World.{World, link_at}
use Rattle.relay_world.proofs.MoveLemmas.{client_was, link_cases, link_kept}
use Rattle.relay_world.proofs.UndecidedLemmas.{ClientStays, Remains, ServerStays, still_may_be_in}
use Rattle.relay_world.proofs.OpenLemmas.{lines_within}

module _ {D : Type 0} (honest : Type 0) (words : DiskWords D) (old : World D) (lists : List (List Change)) (number : ℕ)
    (bound : IsBound honest words old lists) (link now : Link) (link_is : link_at old.links number ≡ Some link)
    (links : List Link) (put : IsPutAt old.links links number now) where
  -- what the link is now
  pub record Relinks : Type 0 where
    pub served : (end : ServerEnd) → now.server ≡ Some end → IsServed (record old { links = links }) lists number now end
    pub tried : (place : ℕ) → now.client ≡ Some place → IsTried (record old { links = links }) lists number now place
    pub reads : ReadsWithin now
    pub server : now.server ≡ link.server
    pub client : now.client ≡ link.client
    -- what is undecided rests on the link only where that was broken, and then both ends stay
    pub serves : link.broken ≡ true → (end : ServerEnd) → link.server ≡ Some end → ServerStays link now end
    pub tries : link.broken ≡ true → ClientStays link now

  -- an end of a link that stays, among other links
  pub served_still : (other : ℕ) (its : Link) (end : ServerEnd) → IsServed old lists other its end
      → IsServed (record old { links = links }) lists other its end
  served_still other its end served = record {
    host = served.host;
    changes = served.changes;
    stands = record { host_at = served.stands.host_at; list_at = served.stands.list_at };
    serves = served.serves;
  }

  pub tried_still : (other place : ℕ) (its : Link) → IsTried old lists other its place
      → IsTried (record old { links = links }) lists other its place
  tried_still other place its tried = record {
    attempt = tried.attempt;
    attempt_at = tried.attempt_at;
    its_link = tried.its_link;
    host = tried.host;
    changes = tried.changes;
    stands = record { host_at = tried.stands.host_at; list_at = tried.stands.list_at };
    passes = tried.passes;
  }

  -- a session of the link was its session before
  session_before : Relinks → (node session : ℕ) → HasSession now node session → HasSession link node session
  session_before relinks node session has = record {
    end = has.end;
    serves = sym relinks.server ∙ has.serves;
    its_node = has.its_node;
    its_session = has.its_session;
  }

  -- a link that has a session now had it before
  session_was : Relinks → (other : ℕ) (its : Link) (node session : ℕ) → link_at links other ≡ Some its
      → HasSession its node session → (was : Link) × (link_at old.links other ≡ Some was) × HasSession was node session
  session_was relinks other its node session is has = elim (link_cases old.links links number now put other its is) [
    | inl here ↦ (
      link,
      ap (λ n. link_at old.links n) here.0 ∙ link_is,
      session_before relinks node session (subst (λ l. HasSession l node session) (sym here.1) has),
    )
    | inr there ↦ (its, there.1, has)
  ]

  remains : Relinks → (node : ℕ) → Remains old (record old { links = links }) node
  remains relinks node = record {
    serves = λ other its end is broken serves its_node ended. elim (cases_eq other number) [
      | inl same ↦
          let its_link : link ≡ its = same_Some link its (sym link_is ∙ ap (λ n. link_at old.links n) (sym same) ∙ is) in
          record {
            now = now;
            now_is = ap (λ n. link_at links n) same ∙ put.at;
            stays = subst (λ l. ServerStays l now end) its_link
                (relinks.serves (ap (λ (l : Link). l.broken) its_link ∙ broken) end
                (ap (λ (l : Link). l.server) its_link ∙ serves));
            accepts = refl;
          }
      | inr off ↦ record {
        now = its;
        now_is = put.others other off ∙ is;
        stays = record { server = serves; up = refl; up_read = refl; down = refl; broken = broken };
        accepts = refl;
      }
    ];
    tries = λ other place its attempt is broken client at its_node dropped. elim (cases_eq other number) [
      | inl same ↦
          let its_link : link ≡ its = same_Some link its (sym link_is ∙ ap (λ n. link_at old.links n) (sym same) ∙ is) in
          record {
            now = now;
            now_is = ap (λ n. link_at links n) same ∙ put.at;
            stays = subst (λ l. ClientStays l now) its_link
                (relinks.tries (ap (λ (l : Link). l.broken) its_link ∙ broken));
            attempt_at = at;
          }
      | inr off ↦ record {
        now = its;
        now_is = put.others other off ∙ is;
        stays = record { client = refl; up = refl; down = refl; down_read = refl; broken = broken };
        attempt_at = at;
      }
    ];
  }

  pub relinked : Relinks → IsBound honest words (record old { links = links }) lists
  relinked relinks = record {
    even = bound.even;
    hosts = λ n host changes stands.
        bound.hosts n host changes (record { host_at = stands.host_at; list_at = stands.list_at });
    may_be_in = λ n host changes disk undecided stands down.
        still_may_be_in old (record old { links = links }) n host host changes refl (remains relinks n) undecided
        (bound.may_be_in n host changes disk undecided (record { host_at = stands.host_at; list_at = stands.list_at }) down);
    servers = λ other its end is serves. elim (link_cases old.links links number now put other its is) [
      | inl here ↦ subst (λ n. IsServed (record old { links = links }) lists n its end) (sym here.0)
          (subst (λ l. IsServed (record old { links = links }) lists number l end) here.1
          (relinks.served end (ap (λ (l : Link). l.server) here.1 ∙ serves)))
      | inr there ↦ served_still other its end (bound.servers other its end there.1 serves)
    ];
    clients = λ other place its is client. elim (link_cases old.links links number now put other its is) [
      | inl here ↦ subst (λ n. IsTried (record old { links = links }) lists n its place) (sym here.0)
          (subst (λ l. IsTried (record old { links = links }) lists number l place) here.1
          (relinks.tried place (ap (λ (l : Link). l.client) here.1 ∙ client)))
      | inr there ↦ tried_still other place its (bound.clients other place its there.1 client)
    ];
    reads = λ other its is. elim (link_cases old.links links number now put other its is) [
      | inl here ↦ subst ReadsWithin here.1 relinks.reads
      | inr there ↦ bound.reads other its there.1
    ];
    attempts = λ place attempt at. link_kept old.links links number now put
        (client_was old.links number link link_is now.client relinks.client) place attempt (bound.attempts place attempt at);
    ledger = bound.ledger;
    lines = lines_within (length old.links) (length links) old.ledger put.grows bound.lines;
    sessions = λ one other its others node session first second mine yours.
        let a = session_was relinks one its node session first mine in
        let b = session_was relinks other others node session second yours in
        bound.sessions one other a.0 b.0 node session a.1 b.1 a.2 b.2;
    slots = bound.slots;
  }
