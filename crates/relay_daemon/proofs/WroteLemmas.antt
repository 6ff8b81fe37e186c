-- Octets that are unread on a link, after a call on the same link or on another one.
use Rattle.std.proofs.Common.{inl, inr, ◌≡◌, ◌≢◌, ◌++◌, ◌∷◌, ℕ, zero, suc, List, [], Some, length, take, drop}
use Rattle.std.proofs.Common.{refl, sym, ap, ◌∙◌}
use Rattle.std.specs.Prelude.{slice_get}
use Rattle.std.proofs.lemmas.Bool.Decides.{eqb_tells}
use Rattle.std.proofs.lemmas.Option.{same_Some}
use Rattle.relay_world.specs.declared.attempt.Attempt.{Attempt}
use Rattle.relay_world.specs.declared.link.Link.{Link}
use Rattle.relay_world.specs.Steps.{IsPutAt}
use Rattle.relay_world.specs.World.{World, link_at}
use Rattle.relay_daemon.specs.Given.{ClientWrote, HopWrote}
use Rattle.relay_daemon.proofs.MoveLemmas.{client_beside, hop_beside}

not_none : (octet : ℕ) (octets : List ℕ) → [] ≡ octet ∷ octets → ⊥
not_none octet octets e = cc

-- what a list begins with, a longer one does
take_on : (octets xs more : List ℕ) → take (length octets) xs ≡ octets → take (length octets) (xs ++ more) ≡ octets
take_on [] xs more is = refl
take_on (octet ∷ octets) [] more is = absurd (not_none octet octets is)
take_on (octet ∷ octets) (x ∷ xs) more is =
    let head : x ≡ octet = cc in
    let tail : take (length octets) xs ≡ octets = cc in
    ap (λ h. h ∷ take (length octets) (xs ++ more)) head
    ∙ ap (λ (l : List ℕ). octet ∷ l) (take_on octets xs more tail)

waits_none : (octets more : List ℕ) → take (length octets) [] ≡ octets → take (length octets) more ≡ octets
waits_none [] more is = refl
waits_none (octet ∷ octets) more is = absurd (not_none octet octets is)

waits_some : (read : ℕ) (octets xs more : List ℕ) → take (length octets) (drop read xs) ≡ octets
    → take (length octets) (drop read (xs ++ more)) ≡ octets
waits_some zero octets xs more is = take_on octets xs more is
waits_some (suc read) octets [] more is = waits_none octets (drop (suc read) more) is
waits_some (suc read) octets (x ∷ xs) more is = waits_some read octets xs more is

module _ {D : Type 0} where
  -- another link was put
  pub client_wrote_beside : (old new : World D) (node session : ℕ) (octets : List ℕ) (number : ℕ) (moved : Link)
      → IsPutAt old.links new.links number moved → (wrote : ClientWrote old node session octets)
      → wrote.serves.number ≢ number → ClientWrote new node session octets
  client_wrote_beside old new node session octets number moved put wrote off = record {
    serves = client_beside old new node session [] number moved put wrote.serves off;
    unread = wrote.unread;
  }

  pub hop_wrote_beside : (old new : World D) (node slot : ℕ) (octets : List ℕ) (number : ℕ) (moved : Link)
      → IsPutAt old.links new.links number moved → (wrote : HopWrote old node slot octets)
      → slice_get new.attempts wrote.reaches.place ≡ slice_get old.attempts wrote.reaches.place
      → wrote.reaches.attempt.link ≢ number → HopWrote new node slot octets
  hop_wrote_beside old new node slot octets number moved put wrote at off = record {
    reaches = hop_beside old new node slot [] number moved put wrote.reaches at off;
    unread = wrote.unread;
  }

  -- no link was put, and the attempt is the same
  pub hop_wrote_still : (old new : World D) (node slot : ℕ) (octets : List ℕ) → new.links ≡ old.links
      → (wrote : HopWrote old node slot octets)
      → slice_get new.attempts wrote.reaches.place ≡ slice_get old.attempts wrote.reaches.place
      → HopWrote new node slot octets
  hop_wrote_still old new node slot octets links wrote at = record {
    reaches = record {
      place = wrote.reaches.place;
      attempt = wrote.reaches.attempt;
      attempt_at = at ∙ wrote.reaches.attempt_at;
      has = wrote.reaches.has;
      link = wrote.reaches.link;
      link_is = ap (λ (ls : List Link). link_at ls wrote.reaches.attempt.link) links ∙ wrote.reaches.link_is;
      client = wrote.reaches.client;
      unwritten = wrote.reaches.unwritten;
    };
    unread = wrote.unread;
  }

  -- the link was put, with the client end as it was; the server may have written more
  pub hop_wrote_moved : (old new : World D) (node slot : ℕ) (octets : List ℕ) (number : ℕ) (link moved : Link)
      (more : List ℕ) → link_at old.links number ≡ Some link → IsPutAt old.links new.links number moved
      → moved.client ≡ link.client → moved.up ≡ link.up → moved.broken ≡ link.broken
      → moved.down ≡ link.down ++ more → moved.down_read ≡ link.down_read → new.attempts ≡ old.attempts
      → HopWrote old node slot octets → HopWrote new node slot octets
  hop_wrote_moved old new node slot octets number link moved more was put client up broken down read attempts wrote =
      elim (eqb_tells wrote.reaches.attempt.link number) [
        | inl same ↦ there same.1
        | inr off ↦ hop_wrote_beside old new node slot octets number moved put wrote at off.1
      ]
    where
      at : slice_get new.attempts wrote.reaches.place ≡ slice_get old.attempts wrote.reaches.place
      at = ap (λ (tries : List Attempt). slice_get tries wrote.reaches.place) attempts

      there : wrote.reaches.attempt.link ≡ number → HopWrote new node slot octets
      there same =
          let its = wrote.reaches.link in
          let is : link ≡ its = same_Some link its
          (sym was ∙ ap (λ n. link_at old.links n) (sym same) ∙ wrote.reaches.link_is) in
          record {
            reaches = record {
              place = wrote.reaches.place;
              attempt = wrote.reaches.attempt;
              attempt_at = at ∙ wrote.reaches.attempt_at;
              has = wrote.reaches.has;
              link = moved;
              link_is = ap (λ n. link_at new.links n) same ∙ put.at;
              client = client ∙ ap (λ (l : Link). l.client) is ∙ wrote.reaches.client;
              unwritten = λ whole.
                  let written = wrote.reaches.unwritten (sym (broken ∙ ap (λ (l : Link). l.broken) is) ∙ whole) in
                  (written.0, up ∙ ap (λ (l : Link). l.up) is ∙ written.1);
            };
            unread =
                ap (λ n. take (length octets) (drop n moved.down)) (read ∙ ap (λ (l : Link). l.down_read) is)
                ∙ ap (λ (d : List ℕ). take (length octets) (drop its.down_read d))
                (down ∙ ap (λ (l : Link). l.down ++ more) is)
                ∙ waits_some its.down_read octets its.down more wrote.unread;
          }
