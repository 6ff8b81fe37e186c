-- A world in which one node, its list and one link have moved on stays bound, where what moved is bound.
use Rattle.std.proofs.Common.{◌≡◌, ◌≢◌, ◌⊎◌, inl, inr, ◌≤◌, ℕ, true, List, length, Option, None, Some, refl, sym, subst, ap, ◌∙◌}
use Rattle.std.specs.Prelude.{slice_get}
use Rattle.std.specs.List.{AllByRecursion}
use Rattle.std.proofs.lemmas.Bool.{cases_eq}
use Rattle.std.proofs.lemmas.Option.{same_Some}
use Rattle.relay_disk.specs.Device.{DiskWords}
use Rattle.relay_disk.specs.declared.disks.Disks.{Disks}
use Rattle.relay_server.specs.Dialogue.{Said}
use Rattle.relay_book.specs.declared.change.Change.{Change}
use Rattle.relay_world.specs.declared.attempt.Attempt.{Attempt}
use Rattle.relay_world.specs.declared.attempt.Fate.TheVariants.{Dropped}
use Rattle.relay_world.specs.declared.link.Link.{Link}
use Rattle.relay_world.specs.declared.link.ServerEnd.{ServerEnd}
use Rattle.relay_world.specs.Bound.{HasLink, HasSession, HasSlot, HostKeeps, IsBound, IsServed, IsTried, MayBeIn, PassesOn, ReadsWithin, SaysThere, ServesLink, StandsAt, link_of}
use Rattle.relay_world.specs.Ledger.{accepts_on, steps_in, steps_of}
use Rattle.relay_world.specs.Steps.{IsPut, IsPutAt}
use Rattle.relay_world.specs.World.{Down, Host, Undecided, World, link_at}
use Rattle.relay_world.proofs.FrameLemmas.{ChangesStay, MessagesStay, TellsOn, passes_on, serves_on}
use Rattle.relay_world.proofs.UndecidedLemmas.{Remains, ServesStill, TriesStill, still_may_be_in}

-- what stands in a row with one value put: that value at its place, and elsewhere what was there
pub put_cases : {A : Type 0} (old new : List A) (place : ℕ) (value : A) → IsPut old new place value → (other : ℕ) (x : A)
    → slice_get new other ≡ Some x
    → ((other ≡ place) × (value ≡ x)) ⊎ ((other ≢ place) × (slice_get old other ≡ Some x))
put_cases old new place value put other x is = elim (cases_eq other place) [
  | inl same ↦ inl (same, same_Some value x (sym put.at ∙ ap (λ n. slice_get new n) (sym same) ∙ is))
  | inr off ↦ inr (off, sym (put.others other off) ∙ is)
]

pub link_cases : (old new : List Link) (number : ℕ) (link : Link) → IsPutAt old new number link → (other : ℕ) (x : Link)
    → link_at new other ≡ Some x
    → ((other ≡ number) × (link ≡ x)) ⊎ ((other ≢ number) × (link_at old other ≡ Some x))
link_cases old new number link put other x is = elim (cases_eq other number) [
  | inl same ↦ inl (same, same_Some link x (sym put.at ∙ ap (λ n. link_at new n) (sym same) ∙ is))
  | inr off ↦ inr (off, sym (put.others other off) ∙ is)
]

-- an attempt has its link where one is put whose client end is that of the link before, if there was one
pub link_kept : (old new : List Link) (number : ℕ) (link : Link) → IsPutAt old new number link
    → ((was : Link) → link_at old number ≡ Some was → link.client ≡ was.client)
    → (place : ℕ) (attempt : Attempt) → HasLink old place attempt → HasLink new place attempt
link_kept old new number link put same place attempt has = elim (cases_eq attempt.link number) [
  | inl here ↦ record {
    link = link;
    is_there = ap (λ n. link_at new n) here ∙ put.at;
    client = same has.link (ap (λ n. link_at old n) (sym here) ∙ has.is_there) ∙ has.client;
  }
  | inr off ↦ record {
    link = has.link;
    is_there = put.others attempt.link off ∙ has.is_there;
    client = has.client;
  }
]

-- the same of all attempts, where they are the same
pub links_kept : (old new : List Link) (number : ℕ) (link : Link) → IsPutAt old new number link
    → ((was : Link) → link_at old number ≡ Some was → link.client ≡ was.client)
    → (before after : List Attempt) → after ≡ before
    → ((place : ℕ) (attempt : Attempt) → slice_get before place ≡ Some attempt → HasLink old place attempt)
    → (place : ℕ) (attempt : Attempt) → slice_get after place ≡ Some attempt → HasLink new place attempt
links_kept old new number link put same before after attempts has place attempt at =
    link_kept old new number link put same place attempt
    (has place attempt (ap (λ l. slice_get l place) (sym attempts) ∙ at))

-- what the client end of a link was
pub client_was : (links : List Link) (number : ℕ) (link : Link) → link_at links number ≡ Some link → (client : Option ℕ)
    → client ≡ link.client → (was : Link) → link_at links number ≡ Some was → client ≡ was.client
client_was links number link is client same was at =
    same ∙ ap (λ (l : Link). l.client) (same_Some link was (sym is ∙ at))

-- where the attempts are the same, so are their numbers
pub same_slots : (old new : List Attempt) → new ≡ old
    → ((one other : ℕ) (attempt others : Attempt) (at slot : ℕ) → slice_get old one ≡ Some attempt
    → slice_get old other ≡ Some others → HasSlot attempt at slot → HasSlot others at slot → one ≡ other)
    → (one other : ℕ) (attempt others : Attempt) (at slot : ℕ) → slice_get new one ≡ Some attempt
    → slice_get new other ≡ Some others → HasSlot attempt at slot → HasSlot others at slot → one ≡ other
same_slots old new same apart one other attempt others at slot first second =
    apart one other attempt others at slot (ap (λ l. slice_get l one) (sym same) ∙ first)
    (ap (λ l. slice_get l other) (sym same) ∙ second)

pub same_attempts : (old new : List Attempt) → new ≡ old → (place : ℕ) (attempt : Attempt) → slice_get old place ≡ Some attempt
    → slice_get new place ≡ Some attempt
same_attempts old new same place attempt at = ap (λ l. slice_get l place) same ∙ at

module _ {D : Type 0} (honest : Type 0) (words : DiskWords D) (old new : World D) (lists later : List (List Change))
    (node number : ℕ) (host moved : Host D) (changes grown : List Change) (link : Link) where
  -- what moved, and what stays of it for the others
  pub record Moves : Type 0 where
    pub stands : StandsAt old lists node host changes
    pub hosts : IsPut old.hosts new.hosts node moved
    pub even : length later ≡ length new.hosts
    pub list : IsPut lists later node grown
    pub links : (other : ℕ) (its : Link) → link_at new.links other ≡ Some its
        → ((other ≡ number) × (link ≡ its)) ⊎ ((other ≢ number) × (link_at old.links other ≡ Some its))
    pub stays : (other : ℕ) → other ≢ number → link_at new.links other ≡ link_at old.links other
    pub attempts : (place : ℕ) (attempt : Attempt) → slice_get old.attempts place ≡ Some attempt → attempt.link ≢ number
        → slice_get new.attempts place ≡ Some attempt
    pub config : moved.config ≡ host.config
    pub stay : ChangesStay changes grown
    pub messages : MessagesStay changes grown
    pub accepts : (other : ℕ) → other ≢ number → accepts_on other new.ledger ≡ accepts_on other old.ledger
    pub steps : steps_in node new.ledger ≡ steps_of grown
    pub other_steps : (other : ℕ) → other ≢ node → steps_in other new.ledger ≡ steps_in other old.ledger
    pub lines : AllByRecursion (λ line. link_of line ≤ length new.links) new.ledger
    pub says : (other : ℕ) (its : Link) (session : ℕ) → other ≢ number → link_at old.links other ≡ Some its
        → HasSession its node session → (peer : List ℕ) (said : Said) → SaysThere host (Some session) peer said
        → SaysThere moved (Some session) peer said
    pub tells : (place : ℕ) (attempt : Attempt) (slot : ℕ) → slice_get old.attempts place ≡ Some attempt
        → attempt.link ≢ number → HasSlot attempt node slot → TellsOn host moved changes grown slot
    pub keeps : HostKeeps honest words moved grown

  -- the ends that other nodes have of the link, which is broken, stay
  pub record Settled (was : Link) : Type 0 where
    pub serves : (end : ServerEnd) → was.server ≡ Some end → end.node ≢ node → end.session ≡ None
        → ServesStill old new number was end
    pub tries : (place : ℕ) (attempt : Attempt) → was.client ≡ Some place → slice_get old.attempts place ≡ Some attempt
        → attempt.node ≢ node → attempt.fate ≡ Dropped → TriesStill old new number place was attempt

  -- what the link that moved is
  pub record Joins : Type 0 where
    pub served : (end : ServerEnd) → link.server ≡ Some end → IsServed new later number link end
    pub tried : (place : ℕ) → link.client ≡ Some place → IsTried new later number link place
    pub reads : ReadsWithin link
    pub slots : (one other : ℕ) (attempt others : Attempt) (at slot : ℕ) → slice_get new.attempts one ≡ Some attempt
        → slice_get new.attempts other ≡ Some others → HasSlot attempt at slot → HasSlot others at slot → one ≡ other
    pub apart : (other : ℕ) (its : Link) (at session : ℕ) → other ≢ number → link_at old.links other ≡ Some its
        → HasSession its at session → HasSession link at session → ⊥
    pub attempts : (place : ℕ) (attempt : Attempt) → slice_get new.attempts place ≡ Some attempt
        → HasLink new.links place attempt
    -- what is undecided elsewhere rests on the link only where that was broken, and then its end stays
    pub settled : (was : Link) → link_at old.links number ≡ Some was → was.broken ≡ true → Settled was
    pub may_be_in : (disk : Disks D) (undecided : Undecided) → moved.state ≡ Down disk (Some undecided)
        → MayBeIn new node moved grown undecided

  module _ (bound : IsBound honest words old lists) (moves : Moves) where
    hosts_keep : (n : ℕ) (h : Host D) (cs : List Change) → StandsAt new later n h cs → HostKeeps honest words h cs
    hosts_keep n h cs stands =
        elim (put_cases old.hosts new.hosts node moved moves.hosts n h stands.host_at) [
          | inl here ↦
              let same : grown ≡ cs =
              same_Some grown cs (sym moves.list.at ∙ ap (λ k. slice_get later k) (sym here.0) ∙ stands.list_at) in
              subst (λ l. HostKeeps honest words h l) same (subst (λ x. HostKeeps honest words x grown) here.1 moves.keeps)
          | inr there ↦ bound.hosts n h cs (record {
            host_at = there.1;
            list_at = sym (moves.list.others n there.0) ∙ stands.list_at;
          })
        ]

    -- an end of another link, at a node that stays, is where it was
    still_stands : (n : ℕ) (h : Host D) (cs : List Change) → n ≢ node → StandsAt old lists n h cs → StandsAt new later n h cs
    still_stands n h cs off stands = record {
      host_at = moves.hosts.others n off ∙ stands.host_at;
      list_at = moves.list.others n off ∙ stands.list_at;
    }

    moved_stands : (n : ℕ) → n ≡ node → StandsAt new later n moved grown
    moved_stands n same = record {
      host_at = ap (λ k. slice_get new.hosts k) same ∙ moves.hosts.at;
      list_at = ap (λ k. slice_get later k) same ∙ moves.list.at;
    }

    same_host : (n : ℕ) (h : Host D) (cs : List Change) → n ≡ node → StandsAt old lists n h cs → h ≡ host
    same_host n h cs same stands =
        same_Some h host (sym stands.host_at ∙ ap (λ k. slice_get old.hosts k) same ∙ moves.stands.host_at)

    same_list : (n : ℕ) (h : Host D) (cs : List Change) → n ≡ node → StandsAt old lists n h cs → cs ≡ changes
    same_list n h cs same stands =
        same_Some cs changes (sym stands.list_at ∙ ap (λ k. slice_get lists k) same ∙ moves.stands.list_at)

    -- the server end of another link says what it said
    others_say : (other : ℕ) (its : Link) (end : ServerEnd) → other ≢ number → link_at old.links other ≡ Some its
        → its.server ≡ Some end → end.node ≡ node → (session : Option ℕ) → end.session ≡ session → (said : Said)
        → SaysThere host session end.peer said → SaysThere moved session end.peer said
    others_say other its end off is serves same None goes said says = says
    others_say other its end off is serves same (Some session) goes said says =
        let has : HasSession its node session =
        record { end = end; serves = serves; its_node = same; its_session = goes } in
        moves.says other its session off is has end.peer said says

    -- a server end stays where it is, if its accepts and what it says do
    pub still_served : (other : ℕ) (its : Link) (end : ServerEnd) → link_at old.links other ≡ Some its → its.server ≡ Some end
        → accepts_on other new.ledger ≡ accepts_on other old.ledger
        → (end.node ≡ node → (said : Said) → SaysThere host end.session end.peer said → SaysThere moved end.session end.peer said)
        → IsServed new later other its end
    still_served other its end is serves accepts says =
        let served : IsServed old lists other its end = bound.servers other its end is serves in
        elim (cases_eq end.node node) [
          | inl same ↦
              let was : ServesLink host changes old.ledger other its end =
              subst (λ l. ServesLink host l old.ledger other its end) (same_list end.node served.host served.changes same served.stands)
              (subst (λ h. ServesLink h served.changes old.ledger other its end)
              (same_host end.node served.host served.changes same served.stands) served.serves) in
              record {
                host = moved;
                changes = grown;
                stands = moved_stands end.node same;
                serves = serves_on host moved changes grown old.ledger new.ledger other its end moves.config moves.stay
                    accepts (says same) was;
              }
          | inr apart ↦ record {
            host = served.host;
            changes = served.changes;
            stands = still_stands end.node served.host served.changes apart served.stands;
            serves = serves_on served.host served.host served.changes served.changes old.ledger new.ledger other its end refl
                (λ k c found. found) accepts (λ said says. says) served.serves;
          }
        ]

    others_served : (other : ℕ) (its : Link) (end : ServerEnd) → other ≢ number → link_at old.links other ≡ Some its
        → its.server ≡ Some end → IsServed new later other its end
    others_served other its end off is serves =
        still_served other its end is serves (moves.accepts other off)
        (λ same. others_say other its end off is serves same end.session refl)

    -- a client end stays where it is, if its attempt does
    pub still_tried : (other place : ℕ) (its : Link) → link_at old.links other ≡ Some its
        → its.client ≡ Some place
        → ((attempt : Attempt) → slice_get old.attempts place ≡ Some attempt → attempt.link ≡ other
        → slice_get new.attempts place ≡ Some attempt)
        → ((attempt : Attempt) (slot : ℕ) → slice_get old.attempts place ≡ Some attempt → attempt.link ≡ other
        → HasSlot attempt node slot → TellsOn host moved changes grown slot)
        → IsTried new later other its place
    still_tried other place its is client stays tells =
        let tried : IsTried old lists other its place = bound.clients other place its is client in
        let still : slice_get new.attempts place ≡ Some tried.attempt =
        stays tried.attempt tried.attempt_at tried.its_link in
        elim (cases_eq tried.attempt.node node) [
          | inl same ↦
              let was : PassesOn host changes its tried.attempt =
              subst (λ l. PassesOn host l its tried.attempt) (same_list tried.attempt.node tried.host tried.changes same tried.stands)
              (subst (λ h. PassesOn h tried.changes its tried.attempt)
              (same_host tried.attempt.node tried.host tried.changes same tried.stands) tried.passes) in
              record {
                attempt = tried.attempt;
                attempt_at = still;
                its_link = tried.its_link;
                host = moved;
                changes = grown;
                stands = moved_stands tried.attempt.node same;
                passes = passes_on host moved changes grown its tried.attempt moves.config moves.stay moves.messages
                    (λ slot runs. tells tried.attempt slot tried.attempt_at tried.its_link (record { its_node = same; runs = runs })) was;
              }
          | inr apart ↦ record {
            attempt = tried.attempt;
            attempt_at = still;
            its_link = tried.its_link;
            host = tried.host;
            changes = tried.changes;
            stands = still_stands tried.attempt.node tried.host tried.changes apart tried.stands;
            passes = tried.passes;
          }
        ]

    -- an end of another link, at a node that stays, is what it was
    serves_still : (other : ℕ) (its : Link) (end : ServerEnd) → other ≢ number → link_at old.links other ≡ Some its
        → its.broken ≡ true → its.server ≡ Some end → ServesStill old new other its end
    serves_still other its end off is broken serves = record {
      now = its;
      now_is = moves.stays other off ∙ is;
      stays = record { server = serves; up = refl; up_read = refl; down = refl; broken = broken };
      accepts = moves.accepts other off;
    }

    tries_still : (other place : ℕ) (its : Link) (attempt : Attempt) → other ≢ number → link_at old.links other ≡ Some its
        → its.broken ≡ true → its.client ≡ Some place → slice_get old.attempts place ≡ Some attempt
        → TriesStill old new other place its attempt
    tries_still other place its attempt off is broken client at =
        let tried : IsTried old lists other its place = bound.clients other place its is client in
        let its_link : attempt.link ≡ other =
        ap (λ (a : Attempt). a.link) (same_Some attempt tried.attempt (sym at ∙ tried.attempt_at)) ∙ tried.its_link in
        record {
          now = its;
          now_is = moves.stays other off ∙ is;
          stays = record { client = refl; up = refl; down = refl; down_read = refl; broken = broken };
          attempt_at = moves.attempts place attempt at (λ same. off (sym its_link ∙ same));
        }

    module _ (joins : Joins) where
      -- what is undecided at a node that stays rests on what it did
      remains : (n : ℕ) → n ≢ node → Remains old new n
      remains n off = record {
        serves = λ other its end is broken serves its_node ended. elim (cases_eq other number) [
          | inl same ↦
              let here : link_at old.links number ≡ Some its = ap (λ k. link_at old.links k) (sym same) ∙ is in
              subst (λ k. ServesStill old new k its end) (sym same)
              ((joins.settled its here broken).serves end serves (λ at. off (sym its_node ∙ at)) ended)
          | inr apart ↦ serves_still other its end apart is broken serves
        ];
        tries = λ other place its attempt is broken client at its_node dropped. elim (cases_eq other number) [
          | inl same ↦
              let here : link_at old.links number ≡ Some its = ap (λ k. link_at old.links k) (sym same) ∙ is in
              subst (λ k. TriesStill old new k place its attempt) (sym same)
              ((joins.settled its here broken).tries place attempt client at (λ same_node. off (sym its_node ∙ same_node)) dropped)
          | inr apart ↦ tries_still other place its attempt apart is broken client at
        ];
      }

      all_decided : (n : ℕ) (h : Host D) (cs : List Change) (disk : Disks D) (undecided : Undecided) → StandsAt new later n h cs
          → h.state ≡ Down disk (Some undecided) → MayBeIn new n h cs undecided
      all_decided n h cs disk undecided stands down =
          elim (put_cases old.hosts new.hosts node moved moves.hosts n h stands.host_at) [
            | inl here ↦
                let same : grown ≡ cs =
                same_Some grown cs (sym moves.list.at ∙ ap (λ k. slice_get later k) (sym here.0) ∙ stands.list_at) in
                subst (λ k. MayBeIn new k h cs undecided) (sym here.0)
                (subst (λ l. MayBeIn new node h l undecided) same
                (subst (λ x. MayBeIn new node x grown undecided) here.1
                (joins.may_be_in disk undecided (ap (λ (x : Host D). x.state) here.1 ∙ down))))
            | inr there ↦
                still_may_be_in old new n h h cs refl (remains n there.0) undecided
                (bound.may_be_in n h cs disk undecided
                (record { host_at = there.1; list_at = sym (moves.list.others n there.0) ∙ stands.list_at }) down)
          ]

      all_served : (other : ℕ) (its : Link) (end : ServerEnd) → link_at new.links other ≡ Some its → its.server ≡ Some end
          → IsServed new later other its end
      all_served other its end is serves = elim (moves.links other its is) [
        | inl here ↦ subst (λ n. IsServed new later n its end) (sym here.0)
            (subst (λ l. IsServed new later number l end) here.1
            (joins.served end (ap (λ (l : Link). l.server) here.1 ∙ serves)))
        | inr there ↦ others_served other its end there.0 there.1 serves
      ]

      all_tried : (other place : ℕ) (its : Link) → link_at new.links other ≡ Some its → its.client ≡ Some place
          → IsTried new later other its place
      all_tried other place its is client = elim (moves.links other its is) [
        | inl here ↦ subst (λ n. IsTried new later n its place) (sym here.0)
            (subst (λ l. IsTried new later number l place) here.1
            (joins.tried place (ap (λ (l : Link). l.client) here.1 ∙ client)))
        | inr there ↦ still_tried other place its there.1 client
            (λ attempt at its_link. moves.attempts place attempt at (λ same. there.0 (sym its_link ∙ same)))
            (λ attempt slot at its_link has. moves.tells place attempt slot at (λ same. there.0 (sym its_link ∙ same)) has)
      ]

      all_read : (other : ℕ) (its : Link) → link_at new.links other ≡ Some its → ReadsWithin its
      all_read other its is = elim (moves.links other its is) [
        | inl here ↦ subst ReadsWithin here.1 joins.reads
        | inr there ↦ bound.reads other its there.1
      ]

      all_steps : (n : ℕ) (cs : List Change) → slice_get later n ≡ Some cs → steps_in n new.ledger ≡ steps_of cs
      all_steps n cs is = elim (put_cases lists later node grown moves.list n cs is) [
        | inl here ↦ ap (λ k. steps_in k new.ledger) here.0 ∙ moves.steps ∙ ap steps_of here.1
        | inr there ↦ moves.other_steps n there.0 ∙ bound.ledger n cs there.1
      ]

      all_sessions : (one other : ℕ) (its others : Link) (at session : ℕ) → link_at new.links one ≡ Some its
          → link_at new.links other ≡ Some others → HasSession its at session → HasSession others at session → one ≡ other
      all_sessions one other its others at session first second mine yours =
          elim (moves.links one its first) [
            | inl here ↦ elim (moves.links other others second) [
              | inl same ↦ here.0 ∙ sym same.0
              | inr there ↦ absurd (joins.apart other others at session there.0 there.1 yours
                  (subst (λ l. HasSession l at session) (sym here.1) mine))
            ]
            | inr there ↦ elim (moves.links other others second) [
              | inl here ↦ absurd (joins.apart one its at session there.0 there.1 mine
                  (subst (λ l. HasSession l at session) (sym here.1) yours))
              | inr off ↦ bound.sessions one other its others at session there.1 off.1 mine yours
            ]
          ]

      pub moved_keeps : IsBound honest words new later
      moved_keeps = record {
        even = moves.even;
        hosts = hosts_keep;
        may_be_in = all_decided;
        servers = all_served;
        clients = all_tried;
        attempts = joins.attempts;
        reads = all_read;
        ledger = all_steps;
        lines = moves.lines;
        sessions = all_sessions;
        slots = joins.slots;
      }
