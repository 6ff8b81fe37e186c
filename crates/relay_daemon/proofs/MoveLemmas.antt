-- Connections of a relay in a world where one link was put.
use Rattle.std.proofs.Common.{inl, inr, ◌≡◌, ◌≢◌, ℕ, List, Option, None, Some, sym, ap, ◌∙◌}
use Rattle.std.specs.Prelude.{slice_get}
use Rattle.std.specs.Option.{is_none}
use Rattle.std.proofs.lemmas.Bool.{true≢false}
use Rattle.std.proofs.lemmas.Bool.Decides.{eqb_tells}
use Rattle.std.proofs.lemmas.Option.{same_Some}
use Rattle.relay_world.specs.declared.link.Link.{Link}
use Rattle.relay_world.specs.declared.link.ServerEnd.{ServerEnd}
use Rattle.relay_world.specs.Steps.{IsPutAt}
use Rattle.relay_world.specs.World.{World, link_at}
use Rattle.relay_daemon.specs.Runs.{ReachesHop, ServesClient}

-- a slot is free or not
pub not_both : {A : Type 0} (slot : Option A) (value : A) → slot ≡ None → slot ≡ Some value → ⊥
not_both slot value none some = true≢false (sym (ap is_none none) ∙ ap is_none some)

module _ {D : Type 0} where
  -- another link was put
  abbrev pub client_beside : (old new : World D) (node session : ℕ) (waiting : List ℕ) (number : ℕ) (moved : Link)
      → IsPutAt old.links new.links number moved → (serves : ServesClient old node session waiting)
      → serves.number ≢ number → ServesClient new node session waiting
  client_beside old new node session waiting number moved put serves off = record {
    number = serves.number;
    link = serves.link;
    link_is = put.others serves.number off ∙ serves.link_is;
    has = serves.has;
    unwritten = serves.unwritten;
  }

  abbrev pub hop_beside : (old new : World D) (node slot : ℕ) (waiting : List ℕ) (number : ℕ) (moved : Link)
      → IsPutAt old.links new.links number moved → (reaches : ReachesHop old node slot waiting)
      → slice_get new.attempts reaches.place ≡ slice_get old.attempts reaches.place
      → reaches.attempt.link ≢ number → ReachesHop new node slot waiting
  hop_beside old new node slot waiting number moved put reaches same off = record {
    place = reaches.place;
    attempt = reaches.attempt;
    attempt_at = same ∙ reaches.attempt_at;
    has = reaches.has;
    link = reaches.link;
    link_is = put.others reaches.attempt.link off ∙ reaches.link_is;
    client = reaches.client;
    unwritten = reaches.unwritten;
  }

  -- the link was put, with the server end as it was
  pub client_moved : (old new : World D) (node session : ℕ) (waiting : List ℕ) (number : ℕ) (link moved : Link)
      → link_at old.links number ≡ Some link → IsPutAt old.links new.links number moved
      → moved.server ≡ link.server → moved.down ≡ link.down → moved.broken ≡ link.broken
      → ServesClient old node session waiting → ServesClient new node session waiting
  client_moved old new node session waiting number link moved was put server down broken serves =
      elim (eqb_tells serves.number number) [
        | inl same ↦ there same.1
        | inr off ↦ client_beside old new node session waiting number moved put serves off.1
      ]
    where
      there : serves.number ≡ number → ServesClient new node session waiting
      there same =
          let is : link ≡ serves.link = same_Some link serves.link
          (sym was ∙ ap (λ n. link_at old.links n) (sym same) ∙ serves.link_is) in
          record {
            number = number;
            link = moved;
            link_is = put.at;
            has = record {
              end = serves.has.end;
              serves = server ∙ ap (λ (l : Link). l.server) is ∙ serves.has.serves;
              its_node = serves.has.its_node;
              its_session = serves.has.its_session;
            };
            unwritten = λ whole.
                let written = serves.unwritten (sym (broken ∙ ap (λ (l : Link). l.broken) is) ∙ whole) in
                (written.0, down ∙ ap (λ (l : Link). l.down) is ∙ written.1);
          }

  -- the link was put, with the client end as it was
  pub hop_moved : (old new : World D) (node slot : ℕ) (waiting : List ℕ) (number : ℕ) (link moved : Link)
      → link_at old.links number ≡ Some link → IsPutAt old.links new.links number moved
      → moved.client ≡ link.client → moved.up ≡ link.up → moved.broken ≡ link.broken
      → (reaches : ReachesHop old node slot waiting)
      → slice_get new.attempts reaches.place ≡ slice_get old.attempts reaches.place
      → ReachesHop new node slot waiting
  hop_moved old new node slot waiting number link moved was put client up broken reaches at =
      elim (eqb_tells reaches.attempt.link number) [
        | inl same ↦ there same.1
        | inr off ↦ hop_beside old new node slot waiting number moved put reaches at off.1
      ]
    where
      there : reaches.attempt.link ≡ number → ReachesHop new node slot waiting
      there same =
          let is : link ≡ reaches.link = same_Some link reaches.link
          (sym was ∙ ap (λ n. link_at old.links n) (sym same) ∙ reaches.link_is) in
          record {
            place = reaches.place;
            attempt = reaches.attempt;
            attempt_at = at ∙ reaches.attempt_at;
            has = reaches.has;
            link = moved;
            link_is = ap (λ n. link_at new.links n) same ∙ put.at;
            client = client ∙ ap (λ (l : Link). l.client) is ∙ reaches.client;
            unwritten = λ whole.
                let written = reaches.unwritten (sym (broken ∙ ap (λ (l : Link). l.broken) is) ∙ whole) in
                (written.0, up ∙ ap (λ (l : Link). l.up) is ∙ written.1);
          }

  -- two connections of clients on one link are of one session
  pub one_session : (world : World D) (node one other : ℕ) (waiting others : List ℕ)
      → (first : ServesClient world node one waiting) → (second : ServesClient world node other others)
      → first.number ≡ second.number → one ≡ other
  one_session world node one other waiting others first second same =
      let link : first.link ≡ second.link = same_Some first.link second.link
      (sym first.link_is ∙ ap (λ n. link_at world.links n) same ∙ second.link_is) in
      let end : first.has.end ≡ second.has.end = same_Some first.has.end second.has.end
      (sym first.has.serves ∙ ap (λ (l : Link). l.server) link ∙ second.has.serves) in
      same_Some one other
      (sym first.has.its_session ∙ ap (λ (e : ServerEnd). e.session) end ∙ second.has.its_session)
