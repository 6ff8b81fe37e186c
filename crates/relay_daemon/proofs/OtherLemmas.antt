-- What leaves a node alone: its host, its attempts, and each link as far as it is its own.
use Rattle.std.proofs.Common.{inl, inr, ◌≡◌, ◌≢◌, ℕ, nat_eq, zero, suc, Bool, true, false, List, [], ◌∷◌, length}
use Rattle.std.proofs.Common.{map, Option, None, Some, refl, sym, subst, ap, ◌∙◌, arith}
use Rattle.std.specs.Prelude.{slice_get}
use Rattle.std.specs.Option.{option_map}
use Rattle.std.proofs.lemmas.Bool.{cond-false, ne_eqb, true≢false}
use Rattle.std.proofs.lemmas.Bool.Decides.{eqb_tells}
use Rattle.std.proofs.lemmas.Option.{same_Some}
use Rattle.relay_world.specs.declared.attempt.Attempt.{Attempt}
use Rattle.relay_world.specs.declared.attempt.Fate.{Fate}
use Rattle.relay_world.specs.declared.attempt.Fate.TheVariants.{Dropped, Lost, Replied, Running}
use Rattle.relay_world.specs.declared.link.Link.{Link}
use Rattle.relay_world.specs.declared.link.ServerEnd.{ServerEnd}
use Rattle.relay_world.specs.Bound.{HasSession, HasSlot}
use Rattle.relay_world.specs.HangUp.{dropped, hung_up_attempt, hung_up_end}
use Rattle.relay_world.specs.Steps.{IsPut, IsPutAt}
use Rattle.relay_world.specs.World.{Host, World, link_at}
use Rattle.relay_daemon.specs.Elsewhere.{ClientStays, LeavesAlone, ServerStays}
use Rattle.relay_daemon.proofs.AcceptLemmas.{not_next}
use Rattle.relay_daemon.proofs.PutLemmas.{get_within}

abbrev is_dropped : Fate → Bool
is_dropped (Running slot) = false
is_dropped (Replied number) = false
is_dropped (Lost number) = false
is_dropped Dropped = true

-- a dropped attempt doesn't run
pub not_running : (fate : Fate) (slot : ℕ) → fate ≡ Dropped → fate ≡ Running slot → ⊥
not_running fate slot dropped runs = true≢false (sym (ap is_dropped dropped) ∙ ap is_dropped runs)

-- the running attempts of a node are still there
abbrev pub AttemptsStay : List Attempt → List Attempt → ℕ → Type 0
AttemptsStay old new node =
    (place slot : ℕ) (attempt : Attempt) → slice_get old place ≡ Some attempt → HasSlot attempt node slot
    → slice_get new place ≡ Some attempt

-- a link is as it was, as far as it belongs to a node with these attempts
pub record LinkStays (attempts : List Attempt) (node : ℕ) (was its : Link) : Type 0 where
  pub server : (session : ℕ) → HasSession was node session → ServerStays was its
  pub client : (place slot : ℕ) (attempt : Attempt) → slice_get attempts place ≡ Some attempt
      → HasSlot attempt node slot → was.client ≡ Some place → ClientStays was its

-- each link is
abbrev pub LinksStay : List Attempt → ℕ → List Link → List Link → Type 0
LinksStay attempts node old new =
    (number : ℕ) (link : Link) → link_at old number ≡ Some link
    → (its : Link) × (link_at new number ≡ Some its) × LinkStays attempts node link its

pub link_same : (attempts : List Attempt) (node : ℕ) (link : Link) → LinkStays attempts node link link
link_same attempts node link = record {
  server = λ session has. record { server = refl; whole = λ whole. (whole, refl) };
  client = λ place slot attempt is has client. record { client = refl; whole = λ whole. (whole, refl) };
}

-- both ends of the link have written what they had
pub link_read : (attempts : List Attempt) (node : ℕ) (was its : Link) → its.server ≡ was.server
    → its.client ≡ was.client → its.up ≡ was.up → its.down ≡ was.down → its.broken ≡ was.broken
    → LinkStays attempts node was its
link_read attempts node was its server client up down broken = record {
  server = λ session has. record { server = server; whole = λ whole. (sym broken ∙ whole, down) };
  client = λ place slot attempt is has there. record { client = client; whole = λ whole. (sym broken ∙ whole, up) };
}

-- the server end moved, at another node
pub server_moved : (attempts : List Attempt) (node : ℕ) (was its : Link) (end : ServerEnd) → was.server ≡ Some end
    → end.node ≢ node → its.client ≡ was.client → its.up ≡ was.up → (its.broken ≡ false → was.broken ≡ false)
    → LinkStays attempts node was its
server_moved attempts node was its end serves off client up whole = record {
  server = λ session has. absurd (off
      (ap (λ (e : ServerEnd). e.node) (same_Some end has.end (sym serves ∙ has.serves)) ∙ has.its_node));
  client = λ place slot attempt is has there. record { client = client; whole = λ fine. (whole fine, up) };
}

-- the client end moved, as an attempt of another node
pub client_moved : (attempts : List Attempt) (node place : ℕ) (was its : Link) (attempt : Attempt)
    → was.client ≡ Some place → slice_get attempts place ≡ Some attempt → attempt.node ≢ node
    → its.server ≡ was.server → its.down ≡ was.down → (its.broken ≡ false → was.broken ≡ false)
    → LinkStays attempts node was its
client_moved attempts node place was its attempt client at off server down whole = record {
  server = λ session has. record { server = server; whole = λ fine. (whole fine, down) };
  client = λ other slot its_attempt is has there.
      let same : place ≡ other = same_Some place other (sym client ∙ there) in
      let one : attempt ≡ its_attempt = same_Some attempt its_attempt
      (sym at ∙ ap (λ n. slice_get attempts n) same ∙ is) in
      absurd (off (ap (λ (a : Attempt). a.node) one ∙ has.its_node));
}

-- a link was put
pub put_stays : (attempts : List Attempt) (node number : ℕ) (old new : List Link) (was its : Link)
    → link_at old number ≡ Some was → IsPutAt old new number its → LinkStays attempts node was its
    → LinksStay attempts node old new
put_stays attempts node number old new was its there put stays other link is =
    elim (eqb_tells other number) [
      | inl same ↦
          let one : was ≡ link = same_Some was link (sym there ∙ ap (λ n. link_at old n) (sym same.1) ∙ is) in
          (its, ap (λ n. link_at new n) same.1 ∙ put.at, subst (λ l. LinkStays attempts node l its) one stays)
      | inr off ↦ (link, put.others other off.1 ∙ is, link_same attempts node link)
    ]

-- a link was added
pub push_stays : (attempts : List Attempt) (node : ℕ) (old new : List Link) (its : Link)
    → IsPutAt old new (suc (length old)) its → LinksStay attempts node old new
push_stays attempts node old new its put other link is =
    (link, put.others other (not_next old other link is) ∙ is, link_same attempts node link)

pub links_same : (attempts : List Attempt) (node : ℕ) (old new : List Link) → new ≡ old
    → LinksStay attempts node old new
links_same attempts node old new same number link is =
    (link, ap (λ ls. link_at ls number) same ∙ is, link_same attempts node link)

pub attempts_same : (old new : List Attempt) (node : ℕ) → new ≡ old → AttemptsStay old new node
attempts_same old new node same place slot attempt is has = ap (λ tries. slice_get tries place) same ∙ is

-- an attempt of another node was put
pub attempts_put : (old new : List Attempt) (node at : ℕ) (was its : Attempt) → IsPut old new at its
    → slice_get old at ≡ Some was → ((slot : ℕ) → HasSlot was node slot → ⊥) → AttemptsStay old new node
attempts_put old new node at was its put there none place slot attempt is has =
    elim (eqb_tells place at) [
      | inl same ↦
          let one : attempt ≡ was = same_Some attempt was (sym is ∙ ap (λ n. slice_get old n) same.1 ∙ there) in
          absurd (none slot (subst (λ a. HasSlot a node slot) one has))
      | inr off ↦ put.others place off.1 ∙ is
    ]

pub of_other : (attempt : Attempt) (node : ℕ) → attempt.node ≢ node → (slot : ℕ) → HasSlot attempt node slot → ⊥
of_other attempt node off slot has = off has.its_node

-- an attempt was added
pub attempts_pushed : (old new : List Attempt) (node : ℕ) (its : Attempt) → IsPut old new (length old) its
    → AttemptsStay old new node
attempts_pushed old new node its put place slot attempt is has =
    let within = get_within old place attempt is in
    put.others place (λ same. omega (arith, within, same)) ∙ is

pub host_beside : {D : Type 0} (old new : List (Host D)) (node other : ℕ) (host : Host D) → IsPut old new other host
    → other ≢ node → slice_get new node ≡ slice_get old node
host_beside old new node other host put off = put.others node (λ same. off (sym same))

-- what leaves a node alone
pub leaves : {D : Type 0} (old new : World D) (node : ℕ) → slice_get new.hosts node ≡ slice_get old.hosts node
    → AttemptsStay old.attempts new.attempts node → LinksStay old.attempts node old.links new.links
    → LeavesAlone old new node
leaves old new node host attempts links = record {
  host = host;
  sessions = λ number session link is has.
      let there = links number link is in
      (there.0, there.1, there.2.server session has);
  attempts = attempts;
  hops = λ place slot attempt link is has at client.
      let there = links attempt.link link at in
      (there.0, there.1, there.2.client place slot attempt is has client);
}

module _ (node other : ℕ) (off : other ≢ node) where
  -- the ends of another node hang up
  same_end : (server : Option ServerEnd) (end : ServerEnd) → server ≡ Some end → end.node ≡ node
      → option_map (hung_up_end other) server ≡ server
  same_end None end serves is = refl
  same_end (Some its) end serves is =
      let own : its.node ≡ node = ap (λ (e : ServerEnd). e.node) (same_Some its end serves) ∙ is in
      ap (λ e. Some e)
      (cond-false (nat_eq its.node other) (record its { session = None }) its
      (ne_eqb its.node other (λ same. off (sym same ∙ own))))

  pub hung_up_stays : (attempts : List Attempt) (was its : Link)
      → its.server ≡ option_map (hung_up_end other) was.server → its.client ≡ was.client → its.up ≡ was.up
      → its.down ≡ was.down → (its.broken ≡ false → was.broken ≡ false)
      → LinkStays attempts node was its
  hung_up_stays attempts was its server client up down whole = record {
    server = λ session has. record {
      server = server ∙ same_end was.server has.end has.serves has.its_node;
      whole = λ fine. (whole fine, down);
    };
    client = λ place slot attempt is has there. record { client = client; whole = λ fine. (whole fine, up) };
  }

  -- an attempt of the node is none of the other's
  same_attempt : (attempt : Attempt) → attempt.node ≡ node → hung_up_attempt other attempt ≡ attempt
  same_attempt attempt own =
      cond-false (nat_eq attempt.node other) (record attempt { fate = dropped attempt.fate }) attempt
      (ne_eqb attempt.node other (λ same. off (sym same ∙ own)))

  pub attempt_stays : (was now : Option Attempt) (attempt : Attempt) (slot : ℕ)
      → now ≡ option_map (hung_up_attempt other) was → was ≡ Some attempt → HasSlot attempt node slot
      → now ≡ Some attempt
  attempt_stays was now attempt slot hung is has =
      hung ∙ ap (λ o. option_map (hung_up_attempt other) o) is
      ∙ ap (λ a. Some a) (same_attempt attempt has.its_node)

pub get_map : {A B : Type 0} (f : A → B) (xs : List A) (place : ℕ)
    → slice_get (map f xs) place ≡ option_map f (slice_get xs place)
get_map f [] place = refl
get_map f (x ∷ xs) zero = refl
get_map f (x ∷ xs) (suc place) = get_map f xs place

pub link_map : (f : Link → Link) (links : List Link) (number : ℕ)
    → link_at (map f links) number ≡ option_map f (link_at links number)
link_map f links zero = refl
link_map f links (suc n) = get_map f links n
