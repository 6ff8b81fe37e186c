-- What an attempt of a bound world claims, before an event and after it.
use Rattle.std.proofs.Common.{◌≡◌, ◌≢◌, ◌⊎◌, inl, inr, ℕ, zero, suc, true, List, [], ◌∷◌, length, None, Some, refl, sym, subst, ap, ◌∙◌, arith}
use Rattle.std.specs.Prelude.{slice_get}
use Rattle.std.specs.List.{AllByRecursion, Contains}
use Rattle.std.proofs.lemmas.List.{append-nil}
use Rattle.std.proofs.lemmas.Option.{none-some, same_Some}
use Rattle.relay_octets.specs.Beginning.{Begins}
use Rattle.relay_disk.specs.Device.{DiskWords}
use Rattle.relay_disk.specs.declared.disks.Disks.{Disks}
use Rattle.relay_book.specs.declared.change.Change.{Change}
use Rattle.relay_book.specs.declared.change.Change.TheVariants as change
use Rattle.relay_book.specs.declared.change.Outcome.{Outcome}
use Rattle.relay_book.specs.Marks.{change_at, message_at}
use Rattle.relay_node.specs.Node.{NodeState}
use Rattle.relay_routes.specs.declared.config.Config.{Config}
use Rattle.relay_attempts.specs.Hops.{goes_to}
use Rattle.relay_world.specs.GivingUp.{Withdrawing}
use Rattle.relay_world.specs.declared.attempt.Attempt.{Attempt}
use Rattle.relay_world.specs.declared.attempt.Fate.{Fate}
use Rattle.relay_world.specs.declared.attempt.Fate.TheVariants.{Running, Replied, Lost, Dropped}
use Rattle.relay_world.specs.declared.link.Link.{Link}
use Rattle.relay_world.specs.Bound.{HasFate, HasLink, IsBound, IsTried, PassesOn, StandsAt}
use Rattle.relay_world.specs.Children.{IsAttempt}
use Rattle.relay_world.specs.Ledger.{accepts_on}
use Rattle.relay_world.specs.Once.{Claims, ClaimsAt, EndsAlone, GivesUpAlone, GoesToHop, HasNoHops, IsOutcomeOf, IsTriedOnce}
use Rattle.relay_world.specs.Steps.{IsPut, IsPutAt}
use Rattle.relay_world.specs.World.{Down, FromGivingUp, Host, Undecided, Up, World, link_at}
use Rattle.relay_world.proofs.ChildrenLemmas.{passes_of}
use Rattle.relay_world.proofs.FrameLemmas.{ChangesStay}
use Rattle.relay_world.proofs.GrowLemmas.{changes_kept, list_grown, messages_kept, one_list}
use Rattle.relay_world.proofs.MoveLemmas.{link_cases, put_cases}
use Rattle.relay_world.proofs.OpenLemmas.{list_there}
use Rattle.relay_world.proofs.UndecidedLemmas.{up_not_down}

-- a place of one list is a place of another that is as long
pub there_too : {A B : Type 0} (xs : List A) (ys : List B) (n : ℕ) (x : A) → length xs ≡ length ys → slice_get xs n ≡ Some x
    → (y : B) × (slice_get ys n ≡ Some y)
there_too [] ys n x even is = absurd (none-some x is)
there_too (z ∷ xs) [] n x even is = absurd (omega (arith, even))
there_too (z ∷ xs) (y ∷ ys) zero x even is = (y, refl)
there_too (z ∷ xs) (y ∷ ys) (suc n) x even is = there_too xs ys n x (omega (arith, even)) is

-- an attempt whose outcome was recorded claims by it what it does by a list that has grown
claims_before : (old new : List Change) (place : ℕ) (fate : Fate) → ChangesStay old new
    → ((number : ℕ) → fate ≡ Replied number → (c : Change) × (change_at old number ≡ Some c))
    → Claims new place fate → Claims old place fate
claims_before old new place (Running slot) stay found claims = tt
claims_before old new place (Replied number) stay found claims =
    let was = found number refl in (
      claims.0,
      record {
        outcome = claims.1.outcome;
        found = was.1 ∙ sym (stay number was.0 was.1) ∙ claims.1.found;
        ruling = claims.1.ruling;
      },
    )
claims_before old new place (Lost number) stay found claims = claims
claims_before old new place Dropped stay found claims = claims

-- an attempt that goes on claims each of its places
pub claims_running : (changes : List Change) (place slot : ℕ) (fate : Fate) → fate ≡ Running slot → Claims changes place fate
claims_running changes place slot fate runs = subst (λ f. Claims changes place f) (sym runs) tt

-- an outcome by which places have no hop is one by a list that has grown, with the same routes
no_hops_kept : (before after : List Change) (one other : Config) (outcome : Outcome) → Begins before after → other ≡ one
    → HasNoHops one.routes before outcome → HasNoHops other.routes after outcome
no_hops_kept before after one other outcome begins same none =
    subst (λ (c : Config). HasNoHops c.routes after outcome) (sym same) (record {
      accept = none.accept;
      accepted = messages_kept before after (changes_kept before after begins) outcome.message none.accept none.accepted;
      each = none.each;
    })

-- and so is one without an attempt
pub alone_kept : (asked : List Withdrawing) (node : ℕ) (before after : List Change) (one other : Config) (outcome : Outcome)
    → Begins before after → other ≡ one
    → EndsAlone asked node one.routes before outcome → EndsAlone asked node other.routes after outcome
alone_kept asked node before after one other outcome begins same (inl none) = inl (no_hops_kept before after one other outcome begins same none)
alone_kept asked node before after one other outcome begins same (inr withdrawn) = inr withdrawn

module _ {D : Type 0} (honest : Type 0) (words : DiskWords D) where
  -- an attempt there, with all that it has
  pub known_attempt : (world : World D) (lists : List (List Change)) → IsBound honest words world lists → (at : ℕ)
      (attempt : Attempt) → slice_get world.attempts at ≡ Some attempt
      → (host : Host D) × (changes : List Change) × (link : Link) × IsAttempt world lists host changes link attempt
  known_attempt world lists bound at attempt is =
      let has : HasLink world.links at attempt = bound.attempts at attempt is in
      let tried : IsTried world lists attempt.link has.link at = bound.clients attempt.link at has.link has.is_there has.client in
      let same : tried.attempt ≡ attempt = same_Some tried.attempt attempt (sym tried.attempt_at ∙ is) in (
        tried.host,
        tried.changes,
        has.link,
        record {
          at = at;
          is_there = is;
          stands = subst (λ (a : Attempt). StandsAt world lists a.node tried.host tried.changes) same tried.stands;
          its_link = has.is_there;
        },
      )

  pub known_at : (world : World D) (lists : List (List Change)) (bound : IsBound honest words world lists) (at : ℕ)
      (attempt : Attempt) (is : slice_get world.attempts at ≡ Some attempt)
      → (known_attempt world lists bound at attempt is).3.at ≡ at
  unfolding known_attempt
  known_at world lists bound at attempt is = refl

  outcome_there : (host : Host D) (changes : List Change) (link : Link) (attempt : Attempt) → PassesOn host changes link attempt
      → (number : ℕ) → attempt.fate ≡ Replied number → (c : Change) × (change_at changes number ≡ Some c)
  outcome_there host changes link attempt passes number is =
      let fate : HasFate host changes link attempt passes.accept passes.output passes.told passes.verdicts (Replied number) =
      subst (λ f. HasFate host changes link attempt passes.accept passes.output passes.told passes.verdicts f) is passes.fate in
      (_, fate.1.2.found)

  module _ (old new : World D) (lists later : List (List Change)) (bound : IsBound honest words old lists)
      {asked : List Withdrawing} (once : IsTriedOnce old lists asked) (now : IsBound honest words new later) where
    -- what an event did to the nodes: each goes by the same configuration, and has all its records
    pub record HostGrows (n : ℕ) (host : Host D) : Type 0 where
      pub was : Host D
      pub was_there : slice_get old.hosts n ≡ Some was
      pub config : host.config ≡ was.config
      pub records : Begins was.records host.records

    abbrev pub HostsGrow : Type 0
    HostsGrow = (n : ℕ) (host : Host D) → slice_get new.hosts n ≡ Some host → HostGrows n host

    -- what an event did to an attempt: it was there for the same
    pub record WasFor (at : ℕ) (attempt : Attempt) : Type 0 where
      pub was : Attempt
      pub was_there : slice_get old.attempts at ≡ Some was
      pub node : attempt.node ≡ was.node
      pub message : attempt.message ≡ was.message
      pub places : attempt.places.items ≡ was.places.items
      pub hop : attempt.hop ≡ was.hop

    -- and it claims nothing that it didn't claim
    pub record WasThere (at : ℕ) (attempt : Attempt) : Type 0 where
      pub its : WasFor at attempt
      pub claims : (changes : List Change) (place : ℕ) → Claims changes place attempt.fate → Claims changes place its.was.fate

    -- on a link that no node serves nothing was accepted
    abbrev pub NoneOutside : Type 0
    NoneOutside =
        (number : ℕ) (link : Link) → link_at new.links number ≡ Some link → link.server ≡ None
        → accepts_on number new.ledger ≡ []

    -- an outcome is that of an attempt, or gives up places without one
    abbrev pub OutcomesKept : Type 0
    OutcomesKept =
        (node number : ℕ) (host : Host D) (changes : List Change) (outcome : Outcome) → StandsAt new later node host changes
        → change_at changes number ≡ Some (change.Outcome outcome)
        → IsOutcomeOf new node number ⊎ EndsAlone asked node host.config.routes changes outcome

    -- and so does an undecided change that came from no attempt
    abbrev pub GivenUpKept : Type 0
    GivenUpKept =
        (node message : ℕ) (host : Host D) (changes : List Change) (disk : Disks D) (undecided : Undecided)
        → StandsAt new later node host changes → host.state ≡ Down disk (Some undecided)
        → undecided.origin ≡ FromGivingUp message → GivesUpAlone asked node host.config.routes changes undecided.note.octets

    -- a node whose records are the same has the list that it had
    pub list_still : (n : ℕ) (was host : Host D) (changes : List Change) → slice_get old.hosts n ≡ Some was
        → host.records ≡ was.records → StandsAt new later n host changes → slice_get lists n ≡ Some changes
    list_still n was host changes at same stands =
        let before = list_there old.hosts lists n was bound.even at in
        before.1
        ∙ ap (λ l. Some l) (sym (one_list was.records host.records before.0 changes
        (bound.hosts n was before.0 (record { host_at = at; list_at = before.1 })).list
        (now.hosts n host changes stands).list same))

    module _ (grow : HostsGrow) where
      -- the lists have grown
      pub list_before : (n : ℕ) (changes : List Change) → slice_get later n ≡ Some changes
          → (before : List Change) × (slice_get lists n ≡ Some before) × Begins before changes
      list_before n changes is =
          let there = there_too later new.hosts n changes now.even is in
          let grows : HostGrows n there.0 = grow n there.0 there.1 in
          let before = list_there old.hosts lists n grows.was bound.even grows.was_there in (
            before.0,
            before.1,
            list_grown grows.was.records there.0.records grows.records.0 before.0 changes
                (bound.hosts n grows.was before.0 (record { host_at = grows.was_there; list_at = before.1 })).list
                (now.hosts n there.0 changes (record { host_at = there.1; list_at = is })).list grows.records.1,
          )

      -- what an attempt claims now it claimed before
      pub claim_before : (at node message place : ℕ) (claim : ClaimsAt new later at node message place)
          → WasThere at claim.attempt → ClaimsAt old lists at node message place
      claim_before at node message place claim there =
          let known = known_attempt old lists bound at there.its.was there.its.was_there in
          let passes : PassesOn known.0 known.1 known.2 there.its.was =
          passes_of honest words old lists bound known.0 known.1 known.2 there.its.was known.3 in
          let before = list_before node claim.changes claim.list_at in
          let same : known.1 ≡ before.0 =
          same_Some known.1 before.0 (sym known.3.stands.list_at
          ∙ ap (λ n. slice_get lists n) (sym there.its.node ∙ claim.its_node) ∙ before.1) in
          record {
            attempt = there.its.was;
            is_there = there.its.was_there;
            its_node = sym there.its.node ∙ claim.its_node;
            its_message = sym there.its.message ∙ claim.its_message;
            tries = subst (λ l. Contains l place) there.its.places claim.tries;
            changes = before.0;
            list_at = before.1;
            claims = claims_before before.0 claim.changes place there.its.was.fate (changes_kept before.0 claim.changes before.2)
                (λ number is. subst (λ l. (c : Change) × (change_at l number ≡ Some c)) same
                (outcome_there known.0 known.1 known.2 there.its.was passes number is))
                (there.claims claim.changes place claim.claims);
          }

      -- and it goes where it went
      pub hop_still : (at : ℕ) (attempt : Attempt) → slice_get new.attempts at ≡ Some attempt → WasFor at attempt
          → GoesToHop new later attempt
      hop_still at attempt is there =
          let went : GoesToHop old lists there.was = once.hops at there.was there.was_there in
          let known = known_attempt new later now at attempt is in
          let grows : HostGrows attempt.node known.0 = grow attempt.node known.0 known.3.stands.host_at in
          let same_host : grows.was ≡ went.host =
          same_Some grows.was went.host
          (sym grows.was_there ∙ ap (λ n. slice_get old.hosts n) there.node ∙ went.stands.host_at) in
          let before = list_before attempt.node known.1 known.3.stands.list_at in
          let same_list : before.0 ≡ went.changes =
          same_Some before.0 went.changes (sym before.1 ∙ ap (λ n. slice_get lists n) there.node ∙ went.stands.list_at) in
          let config : known.0.config ≡ went.host.config = grows.config ∙ ap (λ (h : Host D). h.config) same_host in
          record {
            host = known.0;
            changes = known.1;
            stands = known.3.stands;
            accept = went.accept;
            accepted = messages_kept before.0 known.1 (changes_kept before.0 known.1 before.2) attempt.message went.accept
                (ap (λ l. message_at l attempt.message) same_list ∙ ap (λ m. message_at went.changes m) there.message
                ∙ went.accepted);
            each = subst (λ (c : Config). AllByRecursion
                (λ place. goes_to c.routes went.accept.envelope.recipients attempt.hop place ≡ true) attempt.places.items)
                (sym config)
                (subst (λ h. AllByRecursion
                (λ place. goes_to went.host.config.routes went.accept.envelope.recipients h place ≡ true) attempt.places.items)
                (sym there.hop)
                (subst (λ l. AllByRecursion
                (λ place. goes_to went.host.config.routes went.accept.envelope.recipients there.was.hop place ≡ true) l)
                (sym there.places) went.each));
          }

      -- where each attempt was there, and nothing came on a link that no node serves, no place is tried twice
      pub once_kept : ((at : ℕ) (attempt : Attempt) → slice_get new.attempts at ≡ Some attempt → WasThere at attempt)
          → OutcomesKept → GivenUpKept → NoneOutside → IsTriedOnce new later asked
      once_kept there outcomes given outside = record {
        once = λ one other node message place mine yours. once.once one other node message place
            (claim_before one node message place mine (there one mine.attempt mine.is_there))
            (claim_before other node message place yours (there other yours.attempt yours.is_there));
        hops = λ at attempt is. hop_still at attempt is (there at attempt is).its;
        outcomes = outcomes;
        given_up = given;
        outside = outside;
      }

    -- the nodes, where one has moved on, or none
    pub hosts_put : (node : ℕ) (host moved : Host D) → slice_get old.hosts node ≡ Some host → IsPut old.hosts new.hosts node moved
        → moved.config ≡ host.config → Begins host.records moved.records → HostsGrow
    hosts_put node host moved at put config records n there is =
        elim (put_cases old.hosts new.hosts node moved put n there is) [
          | inl here ↦ record {
            was = host;
            was_there = ap (λ k. slice_get old.hosts k) here.0 ∙ at;
            config = ap (λ (h : Host D). h.config) (sym here.1) ∙ config;
            records = subst (λ (h : Host D). Begins host.records h.records) here.1 records;
          }
          | inr other ↦
              record { was = there; was_there = other.1; config = refl; records = ([], sym (append-nil there.records)) }
        ]

    pub hosts_same : new.hosts ≡ old.hosts → HostsGrow
    hosts_same same n there is = record {
      was = there;
      was_there = ap (λ l. slice_get l n) (sym same) ∙ is;
      config = refl;
      records = ([], sym (append-nil there.records));
    }

    -- the attempts, where none has changed, or one that went on has ended
    pub was_same : (at : ℕ) (attempt : Attempt) → slice_get old.attempts at ≡ Some attempt → WasThere at attempt
    was_same at attempt is = record {
      its = record { was = attempt; was_there = is; node = refl; message = refl; places = refl; hop = refl };
      claims = λ changes place claims. claims;
    }

    pub all_same : new.attempts ≡ old.attempts → (at : ℕ) (attempt : Attempt) → slice_get new.attempts at ≡ Some attempt
        → WasThere at attempt
    all_same same at attempt is = was_same at attempt (ap (λ l. slice_get l at) (sym same) ∙ is)

    -- what an attempt was where one at its place has another fate
    pub was_for : (place : ℕ) (was : Attempt) (fate : Fate) → slice_get old.attempts place ≡ Some was
        → (at : ℕ) (attempt : Attempt) → at ≡ place → record was { fate = fate } ≡ attempt → WasFor at attempt
    was_for place was fate there at attempt here is = record {
      was = was;
      was_there = ap (λ k. slice_get old.attempts k) here ∙ there;
      node = ap (λ (a : Attempt). a.node) (sym is);
      message = ap (λ (a : Attempt). a.message) (sym is);
      places = ap (λ (a : Attempt). a.places.items) (sym is);
      hop = ap (λ (a : Attempt). a.hop) (sym is);
    }

    pub one_changed : (place : ℕ) (was : Attempt) (fate : Fate) → slice_get old.attempts place ≡ Some was
        → ((changes : List Change) (p : ℕ) → Claims changes p fate → Claims changes p was.fate)
        → IsPut old.attempts new.attempts place (record was { fate = fate })
        → (at : ℕ) (attempt : Attempt) → slice_get new.attempts at ≡ Some attempt → WasThere at attempt
    one_changed place was fate there less put at attempt is =
        elim (put_cases old.attempts new.attempts place (record was { fate = fate }) put at attempt is) [
          | inl here ↦ record {
            its = record {
              was = was;
              was_there = ap (λ k. slice_get old.attempts k) here.0 ∙ there;
              node = ap (λ (a : Attempt). a.node) (sym here.1);
              message = ap (λ (a : Attempt). a.message) (sym here.1);
              places = ap (λ (a : Attempt). a.places.items) (sym here.1);
              hop = ap (λ (a : Attempt). a.hop) (sym here.1);
            };
            claims = λ changes p claims. less changes p
                (subst (λ f. Claims changes p f) (ap (λ (a : Attempt). a.fate) (sym here.1)) claims);
          }
          | inr other ↦ was_same at attempt other.1
        ]

    pub one_ended : (place slot : ℕ) (was : Attempt) (fate : Fate) → slice_get old.attempts place ≡ Some was
        → was.fate ≡ Running slot → IsPut old.attempts new.attempts place (record was { fate = fate })
        → (at : ℕ) (attempt : Attempt) → slice_get new.attempts at ≡ Some attempt → WasThere at attempt
    one_ended place slot was fate there runs put =
        one_changed place was fate there (λ changes p claims. claims_running changes p slot was.fate runs) put

    -- the undecided changes, where one node has moved on, or none
    pub given_put : (node : ℕ) (moved : Host D) → IsPut old.hosts new.hosts node moved
        → ((message : ℕ) (changes : List Change) (disk : Disks D) (undecided : Undecided) → StandsAt new later node moved changes
        → moved.state ≡ Down disk (Some undecided) → undecided.origin ≡ FromGivingUp message
        → GivesUpAlone asked node moved.config.routes changes undecided.note.octets) → GivenUpKept
    given_put node moved put here n message host changes disk undecided stands down origin =
        elim (put_cases old.hosts new.hosts node moved put n host stands.host_at) [
          | inl same ↦
              subst (λ k. GivesUpAlone asked k host.config.routes changes undecided.note.octets) (sym same.0)
              (subst (λ (h : Host D). GivesUpAlone asked node h.config.routes changes undecided.note.octets) same.1
              (here message changes disk undecided (record {
                host_at = put.at;
                list_at = ap (λ k. slice_get later k) (sym same.0) ∙ stands.list_at;
              }) (ap (λ (h : Host D). h.state) same.1 ∙ down) origin))
          | inr other ↦ once.given_up n message host changes disk undecided (record {
            host_at = other.1;
            list_at = list_still n host host changes other.1 refl stands;
          }) down origin
        ]

    pub given_up_at : (node : ℕ) (host : Host D) (after : NodeState D) (records : List (List ℕ))
        → IsPut old.hosts new.hosts node (record host { state = Up after; records = records }) → GivenUpKept
    given_up_at node host after records put =
        given_put node (record host { state = Up after; records = records }) put
        (λ message changes disk undecided stands down origin. absurd (up_not_down after disk (Some undecided) down))

    pub given_same : new.hosts ≡ old.hosts → GivenUpKept
    given_same same n message host changes disk undecided stands down origin =
        let at = ap (λ l. slice_get l n) (sym same) ∙ stands.host_at in
        once.given_up n message host changes disk undecided (record {
          host_at = at;
          list_at = list_still n host host changes at refl stands;
        }) down origin

    -- the links, where one has changed, or none
    pub outside_put : (number : ℕ) (link : Link) → IsPutAt old.links new.links number link
        → (link.server ≡ None → accepts_on number new.ledger ≡ [])
        → ((other : ℕ) → other ≢ number → accepts_on other new.ledger ≡ accepts_on other old.ledger) → NoneOutside
    outside_put number link put here others other its is none =
        elim (link_cases old.links new.links number link put other its is) [
          | inl same ↦ ap (λ n. accepts_on n new.ledger) same.0
              ∙ here (ap (λ (l : Link). l.server) same.1 ∙ none)
          | inr off ↦ others other off.0 ∙ once.outside other its off.1 none
        ]

    pub outside_same : new.links ≡ old.links → ((other : ℕ) → accepts_on other new.ledger ≡ accepts_on other old.ledger)
        → NoneOutside
    outside_same same accepts other its is none =
        accepts other ∙ once.outside other its (ap (λ l. link_at l other) (sym same) ∙ is) none
