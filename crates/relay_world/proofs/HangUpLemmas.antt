-- A node that hangs up keeps a world bound: its sessions and attempts are gone at once.
use Rattle.std.proofs.Common.{◌≡◌, ◌⊎◌, inl, inr, ◌≤◌, ℕ, zero, suc, nat_eq, Bool, true, false, cond, List, [], ◌∷◌, length, map, take, Option, None, Some, refl, sym, subst, ap, ◌∙◌, arith}
use Rattle.std.specs.Prelude.{slice_get}
use Rattle.std.specs.Option.{option_map}
use Rattle.std.proofs.lemmas.Bool.{false≢true}
use Rattle.std.proofs.lemmas.Option.{none-some, same_Some}
use Rattle.relay_disk.specs.Device.{DiskWords}
use Rattle.relay_lines.specs.Reply.{Reply}
use Rattle.relay_octets.specs.Beginning.{Begins}
use Rattle.relay_server.specs.Dialogue.{Said}
use Rattle.relay_book.specs.declared.change.Accept.{Accept}
use Rattle.relay_book.specs.declared.change.Change.{Change}
use Rattle.relay_book.specs.declared.change.Verdict.{Verdict}
use Rattle.relay_world.specs.declared.attempt.Attempt.{Attempt}
use Rattle.relay_world.specs.declared.attempt.Fate.{Fate}
use Rattle.relay_world.specs.declared.attempt.Fate.TheVariants.{Dropped, Lost, Replied, Running}
use Rattle.relay_world.specs.declared.line.Line.{Line}
use Rattle.relay_world.specs.declared.link.Link.{Link}
use Rattle.relay_world.specs.declared.link.ServerEnd.{ServerEnd}
use Rattle.relay_meeting.specs.Joined.{output_with}
use Rattle.relay_world.specs.Bound.{HasFate, HasLink, HasSession, HasSlot, IsBound, IsServed, IsTried, MayHaveClosed, PassesOn, ReadsWithin, SaysThere, ServesLink}
use Rattle.relay_world.specs.HangUp.{HangingUpEnds, HangingUpKeeps, IsLetGo, broken_link, dropped, hung_up_attempt, hung_up_end, hung_up_link}
use Rattle.relay_world.specs.World.{Host, World, link_at}
use Rattle.relay_world.proofs.FateLemmas.{dropped_ends, lost_ends, replied_ends}
use Rattle.relay_world.proofs.ClosingLemmas.{may_be_over}
use Rattle.relay_world.proofs.OpenLemmas.{lines_within}
use Rattle.relay_world.proofs.PieceLemmas.{passes_whole, same_number}
use Rattle.relay_world.proofs.UndecidedLemmas.{Remains, still_may_be_in}

-- a server end that is the same, or that has no session any more
abbrev pub LooseServer : Option ServerEnd → Option ServerEnd → Type 0
LooseServer was now =
    (now ≡ was) ⊎ ((end : ServerEnd) × (was ≡ Some end) × (now ≡ Some (record end { session = None })))

-- a link that is the same, but perhaps without the session at its server end
pub record Loose (was now : Link) : Type 0 where
  pub client : now.client ≡ was.client
  pub server : LooseServer was.server now.server
  pub up : now.up ≡ was.up
  pub up_read : now.up_read ≡ was.up_read
  pub down : now.down ≡ was.down
  pub down_read : now.down_read ≡ was.down_read
  pub whole : now.broken ≡ false → was.broken ≡ false
  pub broken : was.broken ≡ true → now.broken ≡ true

-- an attempt that is the same, or that ran and is dropped
abbrev pub LooseAttempt : Attempt → Attempt → Type 0
LooseAttempt was now = (now ≡ was) ⊎ ((slot : ℕ) × (was.fate ≡ Running slot) × (now ≡ record was { fate = Dropped }))

same_loose : (link : Link) → Loose link link
same_loose link = record {
  client = refl;
  server = inl refl;
  up = refl;
  up_read = refl;
  down = refl;
  down_read = refl;
  whole = λ is. is;
  broken = λ is. is;
}

loose_end : (mine : Bool) (end : ServerEnd)
    → LooseServer (Some end) (Some (cond mine (record end { session = None }) end))
loose_end true end = inr (end, refl, refl)
loose_end false end = inl refl

loose_server : (node : ℕ) (server : Option ServerEnd) → LooseServer server (option_map (hung_up_end node) server)
loose_server node None = inl refl
loose_server node (Some end) = loose_end (nat_eq end.node node) end

loose_link : (node : ℕ) (link : Link) → Loose link (hung_up_link node link)
loose_link node link = record {
  client = refl;
  server = loose_server node link.server;
  up = refl;
  up_read = refl;
  down = refl;
  down_read = refl;
  whole = λ is. is;
  broken = λ is. is;
}

loose_fate : (attempt : Attempt) (fate : Fate) → attempt.fate ≡ fate
    → LooseAttempt attempt (record attempt { fate = dropped fate })
loose_fate attempt (Running slot) is = inr (slot, is, refl)
loose_fate attempt (Replied number) is = inl (ap (λ f. record attempt { fate = f }) (sym is))
loose_fate attempt (Lost number) is = inl (ap (λ f. record attempt { fate = f }) (sym is))
loose_fate attempt Dropped is = inl (ap (λ f. record attempt { fate = f }) (sym is))

loose_if : (mine : Bool) (attempt : Attempt)
    → LooseAttempt attempt (cond mine (record attempt { fate = dropped attempt.fate }) attempt)
loose_if true attempt = loose_fate attempt attempt.fate refl
loose_if false attempt = inl refl

loose_attempt : (node : ℕ) (attempt : Attempt) → LooseAttempt attempt (hung_up_attempt node attempt)
loose_attempt node attempt = loose_if (nat_eq attempt.node node) attempt

-- what a row had where another has something, which is the same or was changed
back : {A : Type 0} (f : A → A) (was now : Option A) (x : A) → (now ≡ was) ⊎ (now ≡ option_map f was) → now ≡ Some x
    → (y : A) × (was ≡ Some y) × ((x ≡ y) ⊎ (x ≡ f y))
back f was now x (inl same) is = (x, sym same ∙ is, inl refl)
back f None now x (inr changed) is = absurd (none-some x (sym changed ∙ is))
back f (Some y) now x (inr changed) is = (y, refl, inr (same_Some x (f y) (sym is ∙ changed)))

onward : {A : Type 0} (f : A → A) (was now : Option A) (y : A) → (now ≡ was) ⊎ (now ≡ option_map f was) → was ≡ Some y
    → (x : A) × (now ≡ Some x) × ((x ≡ y) ⊎ (x ≡ f y))
onward f was now y (inl same) is = (y, same ∙ is, inl refl)
onward f was now y (inr changed) is = (f y, changed ∙ ap (λ o. option_map f o) is, inr refl)

loose_broken : (link : Link) → Loose link (broken_link link)
loose_broken link = record {
  client = refl;
  server = inl refl;
  up = refl;
  up_read = refl;
  down = refl;
  down_read = refl;
  whole = λ is. absurd (false≢true (sym is));
  broken = λ is. refl;
}

loose_both : (node : ℕ) (link : Link) → Loose link (broken_link (hung_up_link node link))
loose_both node link = record {
  client = refl;
  server = loose_server node link.server;
  up = refl;
  up_read = refl;
  down = refl;
  down_read = refl;
  whole = λ is. absurd (false≢true (sym is));
  broken = λ is. refl;
}

back_by : (f : Link → Link) → ((link : Link) → Loose link (f link)) → (was now : Option Link) (x : Link)
    → now ≡ option_map f was → now ≡ Some x → (y : Link) × (was ≡ Some y) × Loose y x
back_by f loose None now x changed is = absurd (none-some x (sym changed ∙ is))
back_by f loose (Some y) now x changed is =
    (y, refl, subst (λ l. Loose y l) (same_Some (f y) x (sym changed ∙ is)) (loose y))

pub link_back : (node : ℕ) (was now : Option Link) (x : Link) → IsLetGo node was now → now ≡ Some x
    → (y : Link) × (was ≡ Some y) × Loose y x
link_back node was now x (inl same) is = (x, sym same ∙ is, same_loose x)
link_back node was now x (inr (inl hung)) is = back_by (hung_up_link node) (loose_link node) was now x hung is
link_back node was now x (inr (inr (inl broke))) is = back_by broken_link loose_broken was now x broke is
link_back node was now x (inr (inr (inr both))) is =
    back_by (λ link. broken_link (hung_up_link node link)) (loose_both node) was now x both is

pub link_onward : (node : ℕ) (was now : Option Link) (y : Link) → IsLetGo node was now → was ≡ Some y
    → (x : Link) × (now ≡ Some x) × Loose y x
link_onward node was now y (inl same) is = (y, same ∙ is, same_loose y)
link_onward node was now y (inr (inl hung)) is =
    (hung_up_link node y, hung ∙ ap (λ o. option_map (hung_up_link node) o) is, loose_link node y)
link_onward node was now y (inr (inr (inl broke))) is =
    (broken_link y, broke ∙ ap (λ o. option_map broken_link o) is, loose_broken y)
link_onward node was now y (inr (inr (inr both))) is = (
  broken_link (hung_up_link node y),
  both ∙ ap (λ o. option_map (λ link. broken_link (hung_up_link node link)) o) is,
  loose_both node y,
)

attempt_or : (node : ℕ) (was now : Attempt) → (now ≡ was) ⊎ (now ≡ hung_up_attempt node was) → LooseAttempt was now
attempt_or node was now (inl same) = inl same
attempt_or node was now (inr hung) = subst (λ a. LooseAttempt was a) (sym hung) (loose_attempt node was)

-- an attempt at a place now, and what it was; and the other way
pub attempt_back : (node : ℕ) (was now : Option Attempt) (x : Attempt)
    → (now ≡ was) ⊎ (now ≡ option_map (hung_up_attempt node) was) → now ≡ Some x
    → (y : Attempt) × (was ≡ Some y) × LooseAttempt y x
attempt_back node was now x each is =
    let found = back (hung_up_attempt node) was now x each is in (found.0, found.1, attempt_or node found.0 x found.2)

pub attempt_onward : (node : ℕ) (was now : Option Attempt) (y : Attempt)
    → (now ≡ was) ⊎ (now ≡ option_map (hung_up_attempt node) was) → was ≡ Some y
    → (x : Attempt) × (now ≡ Some x) × LooseAttempt y x
attempt_onward node was now y each is =
    let found = onward (hung_up_attempt node) was now y each is in (found.0, found.1, attempt_or node y found.0 found.2)

-- a session there now was there before
session_was : (was now : Link) (node session : ℕ) → Loose was now → HasSession now node session → HasSession was node session
session_was was now node session loose has = elim loose.server [
  | inl same ↦ record {
    end = has.end;
    serves = sym same ∙ has.serves;
    its_node = has.its_node;
    its_session = has.its_session;
  }
  | inr gone ↦
      let same : record gone.0 { session = None } ≡ has.end = same_Some (record gone.0 { session = None }) has.end (sym gone.2 ∙ has.serves) in
      absurd (none-some session (ap (λ (e : ServerEnd). e.session) same ∙ has.its_session))
]

-- an attempt that runs now ran before
slot_was : (was now : Attempt) (node slot : ℕ) → LooseAttempt was now → HasSlot now node slot → HasSlot was node slot
slot_was was now node slot (inl same) has = subst (λ a. HasSlot a node slot) same has
slot_was was now node slot (inr gone) has =
    absurd (dropped_ends slot (ap (λ (a : Attempt). a.fate) (sym gone.2) ∙ has.runs))

same_session : (end : ServerEnd) → end.session ≡ None → record end { session = None } ≡ end
same_session end ended = ap (λ s. record end { session = s }) (sym ended)

-- an end without a session stays
server_stays : (was now : Link) (end : ServerEnd) → Loose was now → was.server ≡ Some end → end.session ≡ None
    → now.server ≡ Some end
server_stays was now end loose serves ended = elim loose.server [
  | inl same ↦ same ∙ serves
  | inr gone ↦
      let same : gone.0 ≡ end = same_Some gone.0 end (sym gone.1 ∙ serves) in
      gone.2 ∙ ap (λ (e : ServerEnd). Some (record e { session = None })) same ∙ ap (λ e. Some e) (same_session end ended)
]

-- an attempt that was dropped stays
dropped_stays : (was now : Attempt) → LooseAttempt was now → was.fate ≡ Dropped → now ≡ was
dropped_stays was now (inl same) is = same
dropped_stays was now (inr gone) is = absurd (dropped_ends gone.0 (sym is ∙ gone.1))

module _ {D : Type 0} where
  -- a server end that is the same, or without its session
  serves_loose : (host : Host D) (changes : List Change) (ledger : List Line) (number : ℕ) (was now : Link) (end : ServerEnd)
      (session : Option ℕ) → Loose was now
      → ((closing : Option Reply) → MayHaveClosed end.session closing → MayHaveClosed session closing)
      → ((said : Said) → SaysThere host end.session end.peer said → SaysThere host session end.peer said)
      → ServesLink host changes ledger number was end
      → ServesLink host changes ledger number now (record end { session = session })
  serves_loose host changes ledger number was now end session loose closed live serves = record {
    said = serves.said;
    dialogue = serves.dialogue;
    numbered = serves.numbered;
    answered = serves.answered;
    input = serves.input ∙ sym (ap (λ n. take n now.up) loose.up_read ∙ ap (λ (l : List ℕ). take was.up_read l) loose.up);
    closing = serves.closing;
    closes = serves.closes;
    closed = closed serves.closing serves.closed;
    wrote = subst (λ l. Begins l (output_with serves.said.output serves.closing)) (sym loose.down) serves.wrote;
    whole = λ is. loose.down ∙ serves.whole (loose.whole is);
    accepts = serves.accepts;
    stored = serves.stored;
    live = live serves.said serves.live;
  }

  -- what became of an attempt that ran where it is dropped
  fate_dropped : (host : Host D) (changes : List Change) (link : Link) (attempt : Attempt) (accept : Accept)
      (output : List ℕ) (told : Bool) (verdicts : Option (List Verdict)) (fate : Fate) (slot : ℕ) → fate ≡ Running slot
      → HasFate host changes link attempt accept output told verdicts fate
      → HasFate host changes link attempt accept output told verdicts Dropped
  fate_dropped host changes link attempt accept output told verdicts fate slot runs is =
      let was : HasFate host changes link attempt accept output told verdicts (Running slot) =
      subst (λ f. HasFate host changes link attempt accept output told verdicts f) runs is in
      (was.0, was.1)

  -- a client end stays where its attempt is dropped
  passes_dropped : (host : Host D) (changes : List Change) (link : Link) (attempt : Attempt) (slot : ℕ)
      → attempt.fate ≡ Running slot → PassesOn host changes link attempt
      → PassesOn host changes link (record attempt { fate = Dropped })
  passes_dropped host changes link attempt slot runs passes = record {
    accept = passes.accept;
    accepted = passes.accepted;
    valid = passes.valid;
    some = passes.some;
    few = passes.few;
    within = passes.within;
    told = passes.told;
    output = passes.output;
    verdicts = passes.verdicts;
    course = passes.course;
    wrote = passes.wrote;
    whole = passes.whole;
    fate = fate_dropped host changes link attempt passes.accept passes.output passes.told passes.verdicts attempt.fate slot runs
        passes.fate;
  }

  module _ (old : World D) (node : ℕ) (links : List Link) (attempts : List Attempt)
      (each_link : (number : ℕ) → IsLetGo node (link_at old.links number) (link_at links number))
      (each_attempt : (place : ℕ) → (slice_get attempts place ≡ slice_get old.attempts place)
      ⊎ (slice_get attempts place ≡ option_map (hung_up_attempt node) (slice_get old.attempts place))) where
    now : World D
    now = record old { links = links; attempts = attempts }

    -- a link of a number, and what it was
    record WasLink (number : ℕ) (link : Link) : Type 0 where
      pub was : Link
      pub was_is : link_at old.links number ≡ Some was
      pub loose : Loose was link

    was_link : (number : ℕ) (link : Link) → link_at links number ≡ Some link → WasLink number link
    was_link number link is =
        let found = link_back node (link_at old.links number) (link_at links number) link (each_link number) is in
        record { was = found.0; was_is = found.1; loose = found.2 }

    record IsLink (number : ℕ) (was : Link) : Type 0 where
      pub link : Link
      pub link_is : link_at links number ≡ Some link
      pub loose : Loose was link

    is_link : (number : ℕ) (was : Link) → link_at old.links number ≡ Some was → IsLink number was
    is_link number was is =
        let found = link_onward node (link_at old.links number) (link_at links number) was (each_link number) is in
        record { link = found.0; link_is = found.1; loose = found.2 }

    -- an attempt at a place, and what it was
    record WasAttempt (place : ℕ) (attempt : Attempt) : Type 0 where
      pub was : Attempt
      pub was_at : slice_get old.attempts place ≡ Some was
      pub loose : LooseAttempt was attempt

    was_attempt : (place : ℕ) (attempt : Attempt) → slice_get attempts place ≡ Some attempt → WasAttempt place attempt
    was_attempt place attempt is =
        let found = back (hung_up_attempt node) (slice_get old.attempts place) (slice_get attempts place) attempt
        (each_attempt place) is in
        record { was = found.0; was_at = found.1; loose = attempt_or node found.0 attempt found.2 }

    record IsAttempt (place : ℕ) (was : Attempt) : Type 0 where
      pub attempt : Attempt
      pub attempt_at : slice_get attempts place ≡ Some attempt
      pub loose : LooseAttempt was attempt

    is_attempt : (place : ℕ) (was : Attempt) → slice_get old.attempts place ≡ Some was → IsAttempt place was
    is_attempt place was is =
        let found = onward (hung_up_attempt node) (slice_get old.attempts place) (slice_get attempts place) was
        (each_attempt place) is in
        record { attempt = found.0; attempt_at = found.1; loose = attempt_or node was found.0 found.2 }

    -- what is undecided at a node stays so
    remains : (other : ℕ) → Remains old now other
    unfolding now
    remains other = record {
      serves = λ number link end is broken serves its_node ended.
          let still : IsLink number link = is_link number link is in
          record {
            now = still.link;
            now_is = still.link_is;
            stays = record {
              server = server_stays link still.link end still.loose serves ended;
              up = still.loose.up;
              up_read = still.loose.up_read;
              down = still.loose.down;
              broken = still.loose.broken broken;
            };
            accepts = refl;
          };
      tries = λ number place link attempt is broken client at its_node its_fate.
          let still : IsLink number link = is_link number link is in
          let its : IsAttempt place attempt = is_attempt place attempt at in
          record {
            now = still.link;
            now_is = still.link_is;
            stays = record {
              client = still.loose.client;
              up = still.loose.up;
              down = still.loose.down;
              down_read = still.loose.down_read;
              broken = still.loose.broken broken;
            };
            attempt_at = its.attempt_at ∙ ap (λ a. Some a) (dropped_stays attempt its.attempt its.loose its_fate);
          };
    }

    module _ (honest : Type 0) (words : DiskWords D) (lists : List (List Change)) (bound : IsBound honest words old lists) where
      served : (number : ℕ) (link : Link) (end : ServerEnd) → link_at links number ≡ Some link → link.server ≡ Some end
          → IsServed now lists number link end
      unfolding now
      served number link end is serves =
          let its : WasLink number link = was_link number link is in
          elim its.loose.server [
            | inl same ↦
                let was : IsServed old lists number its.was end = bound.servers number its.was end its.was_is (sym same ∙ serves) in
                record {
                  host = was.host;
                  changes = was.changes;
                  stands = record { host_at = was.stands.host_at; list_at = was.stands.list_at };
                  serves = serves_loose was.host was.changes old.ledger number its.was link end end.session its.loose
                      (λ closing may. may) (λ said says. says) was.serves;
                }
            | inr gone ↦
                let was : IsServed old lists number its.was gone.0 = bound.servers number its.was gone.0 its.was_is gone.1 in
                subst (λ e. IsServed now lists number link e)
                (same_Some (record gone.0 { session = None }) end (sym gone.2 ∙ serves))
                (record {
                  host = was.host;
                  changes = was.changes;
                  stands = record { host_at = was.stands.host_at; list_at = was.stands.list_at };
                  serves = serves_loose was.host was.changes old.ledger number its.was link gone.0 None its.loose
                      (λ closing may. may_be_over closing) (λ said says. tt) was.serves;
                })
          ]

      tried : (number place : ℕ) (link : Link) → link_at links number ≡ Some link → link.client ≡ Some place
          → IsTried now lists number link place
      unfolding now
      tried number place link is client =
          let its : WasLink number link = was_link number link is in
          let was : IsTried old lists number its.was place =
          bound.clients number place its.was its.was_is (sym its.loose.client ∙ client) in
          let read = sym (ap (λ n. take n link.down) its.loose.down_read
          ∙ ap (λ (l : List ℕ). take its.was.down_read l) its.loose.down) in
          let passes : PassesOn was.host was.changes link was.attempt =
          passes_whole was.host was.changes its.was link was.attempt read (sym its.loose.up) its.loose.whole was.passes in
          let still : IsAttempt place was.attempt = is_attempt place was.attempt was.attempt_at in
          elim still.loose [
            | inl same ↦ record {
              attempt = was.attempt;
              attempt_at = still.attempt_at ∙ ap (λ a. Some a) same;
              its_link = was.its_link;
              host = was.host;
              changes = was.changes;
              stands = record { host_at = was.stands.host_at; list_at = was.stands.list_at };
              passes = passes;
            }
            | inr gone ↦ record {
              attempt = record was.attempt { fate = Dropped };
              attempt_at = still.attempt_at ∙ ap (λ a. Some a) gone.2;
              its_link = was.its_link;
              host = was.host;
              changes = was.changes;
              stands = record { host_at = was.stands.host_at; list_at = was.stands.list_at };
              passes = passes_dropped was.host was.changes link was.attempt gone.0 gone.1 passes;
            }
          ]

      its_link : (was attempt : Attempt) → LooseAttempt was attempt → attempt.link ≡ was.link
      its_link was attempt (inl same) = ap (λ (a : Attempt). a.link) same
      its_link was attempt (inr gone) = ap (λ (a : Attempt). a.link) gone.2

      has_link : (place : ℕ) (attempt : Attempt) → slice_get attempts place ≡ Some attempt → HasLink links place attempt
      has_link place attempt at =
          let its : WasAttempt place attempt = was_attempt place attempt at in
          let has : HasLink old.links place its.was = bound.attempts place its.was its.was_at in
          let still : IsLink its.was.link has.link = is_link its.was.link has.link has.is_there in
          record {
            link = still.link;
            is_there = ap (λ n. link_at links n) (its_link its.was attempt its.loose) ∙ still.link_is;
            client = still.loose.client ∙ has.client;
          }

      reads : (number : ℕ) (link : Link) → link_at links number ≡ Some link → ReadsWithin link
      reads number link is =
          let its : WasLink number link = was_link number link is in
          let was : ReadsWithin its.was = bound.reads number its.was its.was_is in
          record {
            up = subst (λ n. n ≤ length link.up) (sym its.loose.up_read)
                (subst (λ (l : List ℕ). its.was.up_read ≤ length l) (sym its.loose.up) was.up);
            down = subst (λ n. n ≤ length link.down) (sym its.loose.down_read)
                (subst (λ (l : List ℕ). its.was.down_read ≤ length l) (sym its.loose.down) was.down);
          }

      pub still_bound : length old.links ≤ length links → IsBound honest words (record old { links = links; attempts = attempts }) lists
      unfolding now
      still_bound grows = record {
        even = bound.even;
        hosts = λ n host changes stands.
            bound.hosts n host changes (record { host_at = stands.host_at; list_at = stands.list_at });
        may_be_in = λ n host changes disk undecided stands down.
            still_may_be_in old now n host host changes refl (remains n) undecided
            (bound.may_be_in n host changes disk undecided (record { host_at = stands.host_at; list_at = stands.list_at }) down);
        servers = served;
        clients = tried;
        attempts = has_link;
        reads = reads;
        ledger = bound.ledger;
        lines = lines_within (length old.links) (length links) old.ledger grows bound.lines;
        sessions = λ one other link others n session first second mine yours.
            let its : WasLink one link = was_link one link first in
            let theirs : WasLink other others = was_link other others second in
            bound.sessions one other its.was theirs.was n session its.was_is theirs.was_is
            (session_was its.was link n session its.loose mine) (session_was theirs.was others n session theirs.loose yours);
        slots = λ one other attempt others n slot first second mine yours.
            let its : WasAttempt one attempt = was_attempt one attempt first in
            let theirs : WasAttempt other others = was_attempt other others second in
            bound.slots one other its.was theirs.was n slot its.was_at theirs.was_at
            (slot_was its.was attempt n slot its.loose mine) (slot_was theirs.was others n slot theirs.loose yours);
      }

pub hanging_up_keeps : {D : Type 0} (honest : Type 0) (words : DiskWords D) → HangingUpKeeps honest words
hanging_up_keeps honest words old new lists node bound hangs =
    subst (λ w. IsBound honest words w lists) (sym hangs.new_is)
    (still_bound old node hangs.links hangs.attempts hangs.each_link hangs.each_attempt honest words lists bound hangs.grows)

-- what stands in a row of which each was changed
pub get_map : {A : Type 0} (f : A → A) (xs : List A) (n : ℕ) → slice_get (map f xs) n ≡ option_map f (slice_get xs n)
get_map f [] n = refl
get_map f (x ∷ xs) zero = refl
get_map f (x ∷ xs) (suc n) = get_map f xs n

pub link_map : (f : Link → Link) (links : List Link) (number : ℕ) → link_at (map f links) number ≡ option_map f (link_at links number)
link_map f links zero = refl
link_map f links (suc n) = get_map f links n

pub as_long : {A : Type 0} (f : A → A) (xs : List A) → length xs ≤ length (map f xs)
as_long f [] = omega arith
as_long f (x ∷ xs) = let rest = as_long f xs in omega (arith, rest)

-- an end of this node has no session once it has hung up
no_session_if : (mine : Bool) (end : ServerEnd) (session : ℕ) → mine ≡ true
    → (cond mine (record end { session = None }) end).session ≡ Some session → ⊥
no_session_if true end session mine is = none-some session is
no_session_if false end session mine is = absurd (false≢true mine)

node_same : (mine : Bool) (end : ServerEnd) → (cond mine (record end { session = None }) end).node ≡ end.node
node_same true end = refl
node_same false end = refl

no_run : (fate : Fate) (slot : ℕ) → dropped fate ≡ Running slot → ⊥
no_run (Running other) slot is = dropped_ends slot is
no_run (Replied number) slot is = replied_ends number slot is
no_run (Lost number) slot is = lost_ends number slot is
no_run Dropped slot is = dropped_ends slot is

no_run_if : (mine : Bool) (attempt : Attempt) (slot : ℕ) → mine ≡ true
    → (cond mine (record attempt { fate = dropped attempt.fate }) attempt).fate ≡ Running slot → ⊥
no_run_if true attempt slot mine is = no_run attempt.fate slot is
no_run_if false attempt slot mine is = absurd (false≢true mine)

owner_same : (mine : Bool) (attempt : Attempt)
    → (cond mine (record attempt { fate = dropped attempt.fate }) attempt).node ≡ attempt.node
owner_same true attempt = refl
owner_same false attempt = refl

server_was : (node : ℕ) (server : Option ServerEnd) (end : ServerEnd) → option_map (hung_up_end node) server ≡ Some end
    → (was : ServerEnd) × (end ≡ hung_up_end node was)
server_was node None end is = absurd (none-some end is)
server_was node (Some was) end is = (was, sym (same_Some (hung_up_end node was) end is))

-- a number is its own
is_node : (number node : ℕ) → number ≡ node → nat_eq number node ≡ true
is_node number node same = ap (λ n. nat_eq number n) (sym same) ∙ same_number number

pub link_was : (f : Link → Link) (found : Option Link) (link : Link) → option_map f found ≡ Some link → (was : Link) × (link ≡ f was)
link_was f None link is = absurd (none-some link is)
link_was f (Some was) link is = (was, sym (same_Some (f was) link is))

pub attempt_was : (f : Attempt → Attempt) (found : Option Attempt) (attempt : Attempt) → option_map f found ≡ Some attempt
    → (was : Attempt) × (attempt ≡ f was)
attempt_was f None attempt is = absurd (none-some attempt is)
attempt_was f (Some was) attempt is = (was, sym (same_Some (f was) attempt is))

pub no_session : (node : ℕ) (link : Link) (session : ℕ) → HasSession (hung_up_link node link) node session → ⊥
no_session node link session has =
    let was = server_was node link.server has.end has.serves in
    let owner : was.0.node ≡ node =
    sym (node_same (nat_eq was.0.node node) was.0) ∙ ap (λ (e : ServerEnd). e.node) (sym was.1) ∙ has.its_node in
    no_session_if (nat_eq was.0.node node) was.0 session (is_node was.0.node node owner)
    (ap (λ (e : ServerEnd). e.session) (sym was.1) ∙ has.its_session)

pub no_attempt : (node : ℕ) (attempt : Attempt) (slot : ℕ) → HasSlot (hung_up_attempt node attempt) node slot → ⊥
no_attempt node attempt slot has =
    let owner : attempt.node ≡ node = sym (owner_same (nat_eq attempt.node node) attempt) ∙ has.its_node in
    no_run_if (nat_eq attempt.node node) attempt slot (is_node attempt.node node owner) has.runs

pub hanging_up_ends : (D : Type 0) → HangingUpEnds D
hanging_up_ends D world node = (
  record {
    links = map (hung_up_link node) world.links;
    each_link = λ number. inr (inl (link_map (hung_up_link node) world.links number));
    grows = as_long (hung_up_link node) world.links;
    attempts = map (hung_up_attempt node) world.attempts;
    each_attempt = λ place. inr (get_map (hung_up_attempt node) world.attempts place);
    new_is = refl;
  },
  λ number link session is has.
      let was = link_was (hung_up_link node) (link_at world.links number) link
      (sym (link_map (hung_up_link node) world.links number) ∙ is) in
      no_session node was.0 session (subst (λ l. HasSession l node session) was.1 has),
  λ place attempt slot is has.
      let was = attempt_was (hung_up_attempt node) (slice_get world.attempts place) attempt
      (sym (get_map (hung_up_attempt node) world.attempts place) ∙ is) in
      no_attempt node was.0 slot (subst (λ a. HasSlot a node slot) was.1 has),
)
