-- What each event leaves of seats and of attempts' numbers: none without its link, none without its attempt.
use Rattle.std.proofs.Common.{◌≡◌, ◌≢◌, inl, inr, ℕ, suc, List, length, Option, None, Some, refl, sym, subst, ap, ◌∙◌, arith}
use Rattle.std.specs.Prelude.{slice_get}
use Rattle.std.proofs.lemmas.Bool.{cases_eq}
use Rattle.std.proofs.lemmas.Option.{same_Some}
use Rattle.relay_disk.specs.declared.disks.Disks.{Disks}
use Rattle.relay_node.specs.Node.{NodeState}
use Rattle.relay_slots.specs.Slots.{OthersStay, slot_at}
use Rattle.relay_world.specs.declared.attempt.Attempt.{Attempt}
use Rattle.relay_world.specs.declared.attempt.Fate.TheVariants.{Running, Dropped}
use Rattle.relay_world.specs.declared.link.Link.{Link}
use Rattle.relay_world.specs.declared.link.ServerEnd.{ServerEnd}
use Rattle.relay_world.specs.Bound.{HasSession}
use Rattle.relay_world.specs.Leaks.{GoesOnThere, NothingLeaks, RunsThere}
use Rattle.relay_world.specs.Steps.{AttemptOf, IsPut, IsPutAt, SessionOf}
use Rattle.relay_world.specs.World.{Down, Host, Undecided, Up, World, link_at}
use Rattle.relay_world.proofs.FateLemmas.{dropped_ends}
use Rattle.relay_world.proofs.MoveLemmas.{put_cases}
use Rattle.relay_world.proofs.OpenLemmas.{number_within, same_Up}
use Rattle.relay_world.proofs.UndecidedLemmas.{up_not_down}

module _ {D : Type 0} (old new : World D) where
  -- sessions that go on, and attempts that run, still do
  abbrev pub AllGoOn : Type 0
  AllGoOn = (node session : ℕ) → GoesOnThere old node session → GoesOnThere new node session

  abbrev pub AllRun : Type 0
  AllRun = (node slot : ℕ) → RunsThere old node slot → RunsThere new node slot

  -- but for this one
  abbrev pub AllGoOnBut : ℕ → ℕ → Type 0
  AllGoOnBut n s =
      (node session : ℕ) → (node ≡ n → session ≡ s → ⊥) → GoesOnThere old node session → GoesOnThere new node session

  abbrev pub AllRunBut : ℕ → ℕ → Type 0
  AllRunBut n s = (node slot : ℕ) → (node ≡ n → slot ≡ s → ⊥) → RunsThere old node slot → RunsThere new node slot

  on_link : (node session number : ℕ) (was its : Link) → its.server ≡ was.server → link_at new.links number ≡ Some its
      → HasSession was node session → GoesOnThere new node session
  on_link node session number was its same there has = record {
    number = number;
    link = its;
    is_there = there;
    has = record { end = has.end; serves = same ∙ has.serves; its_node = has.its_node; its_session = has.its_session };
  }

  pub links_same : new.links ≡ old.links → AllGoOn
  links_same same node session was =
      on_link node session was.number was.link was.link refl (ap (λ l. link_at l was.number) same ∙ was.is_there) was.has

  -- a link has changed, with the server end that it had
  pub link_put : (number : ℕ) (was its : Link) → link_at old.links number ≡ Some was → its.server ≡ was.server
      → IsPutAt old.links new.links number its → AllGoOn
  link_put number was its there same put node session on = elim (cases_eq on.number number) [
    | inl here ↦
        on_link node session number was its same put.at
        (subst (λ l. HasSession l node session)
        (same_Some on.link was (sym on.is_there ∙ ap (λ n. link_at old.links n) here ∙ there)) on.has)
    | inr off ↦ on_link node session on.number on.link on.link refl (put.others on.number off ∙ on.is_there) on.has
  ]

  -- a link has come
  pub link_next : (its : Link) → IsPutAt old.links new.links (suc (length old.links)) its → AllGoOn
  link_next its put node session on = elim (cases_eq on.number (suc (length old.links))) [
    | inl here ↦
        let within = number_within old.links on.number on.link on.is_there in
        absurd (omega (arith, within, here))
    | inr off ↦ on_link node session on.number on.link on.link refl (put.others on.number off ∙ on.is_there) on.has
  ]

  -- the session at a link's server end has changed
  pub session_put : (number : ℕ) (of : SessionOf old number) (its : Link) → IsPutAt old.links new.links number its
      → AllGoOnBut of.end.node of.session
  session_put number of its put node session other on = elim (cases_eq on.number number) [
    | inl here ↦
        let same : on.link ≡ of.link =
        same_Some on.link of.link (sym on.is_there ∙ ap (λ n. link_at old.links n) here ∙ of.link_is) in
        let end : on.has.end ≡ of.end =
        same_Some on.has.end of.end (sym on.has.serves ∙ ap (λ (l : Link). l.server) same ∙ of.serves) in
        absurd (other (sym on.has.its_node ∙ ap (λ (e : ServerEnd). e.node) end)
        (same_Some session of.session (sym on.has.its_session ∙ ap (λ (e : ServerEnd). e.session) end ∙ of.goes_on)))
    | inr off ↦ on_link node session on.number on.link on.link refl (put.others on.number off ∙ on.is_there) on.has
  ]

  pub attempts_same : new.attempts ≡ old.attempts → AllRun
  attempts_same same node slot was = record {
    place = was.place;
    attempt = was.attempt;
    is_there = ap (λ l. slice_get l was.place) same ∙ was.is_there;
    has = was.has;
  }

  -- an attempt has begun
  pub attempt_next : (its : Attempt) → IsPut old.attempts new.attempts (length old.attempts) its
      → ((at : ℕ) (was : Attempt) → slice_get old.attempts at ≡ Some was → at ≢ length old.attempts) → AllRun
  attempt_next its put within node slot was = record {
    place = was.place;
    attempt = was.attempt;
    is_there = put.others was.place (within was.place was.attempt was.is_there) ∙ was.is_there;
    has = was.has;
  }

  -- what became of an attempt has changed
  pub attempt_put : (number : ℕ) (of : AttemptOf old number) (its : Attempt) → IsPut old.attempts new.attempts of.place its
      → AllRunBut of.attempt.node of.slot
  attempt_put number of its put node slot other was = elim (cases_eq was.place of.place) [
    | inl here ↦
        let same : was.attempt ≡ of.attempt =
        same_Some was.attempt of.attempt (sym was.is_there ∙ ap (λ k. slice_get old.attempts k) here ∙ of.attempt_at) in
        absurd (other (sym was.has.its_node ∙ ap (λ (a : Attempt). a.node) same)
        (same_running slot of.slot (sym was.has.runs ∙ ap (λ (a : Attempt). a.fate) same ∙ of.runs)))
    | inr off ↦ record {
      place = was.place;
      attempt = was.attempt;
      is_there = put.others was.place off ∙ was.is_there;
      has = was.has;
    }
  ]
    where
      same_running : (one two : ℕ) → Running one ≡ Running two → one ≡ two
      same_running one two same = cc

  -- what became of one that was dropped has changed
  pub dropped_put : (place : ℕ) (was its : Attempt) → slice_get old.attempts place ≡ Some was → was.fate ≡ Dropped
      → IsPut old.attempts new.attempts place its → AllRun
  dropped_put place was its there dropped put node slot on = elim (cases_eq on.place place) [
    | inl here ↦
        let same : on.attempt ≡ was =
        same_Some on.attempt was (sym on.is_there ∙ ap (λ k. slice_get old.attempts k) here ∙ there) in
        absurd (dropped_ends slot (sym dropped ∙ ap (λ (a : Attempt). a.fate) (sym same) ∙ on.has.runs))
    | inr off ↦ record {
      place = on.place;
      attempt = on.attempt;
      is_there = put.others on.place off ∙ on.is_there;
      has = on.has;
    }
  ]

  -- Nothing leaks where nothing leaked, and nodes are the same.
  pub hosts_same : new.hosts ≡ old.hosts → AllGoOn → AllRun → NothingLeaks old → NothingLeaks new
  hosts_same same sessions attempts was = record {
    seats = λ n host standing at up session taken.
        sessions n session (was.seats n host standing (ap (λ l. slice_get l n) (sym same) ∙ at) up session taken);
    runs = λ n host standing at up slot taken.
        attempts n slot (was.runs n host standing (ap (λ l. slice_get l n) (sym same) ∙ at) up slot taken);
  }

  -- Nor where one node is this now, and each of its seats and numbers still has its own.
  pub moved : (node : ℕ) (moved : Host D) → IsPut old.hosts new.hosts node moved
      → ((standing : NodeState D) → moved.state ≡ Up standing
      → ((session : ℕ) → slot_at standing.seats session ≢ None → GoesOnThere new node session)
      × ((slot : ℕ) → slot_at standing.attempts slot ≢ None → RunsThere new node slot))
      → ((n session : ℕ) → n ≢ node → GoesOnThere old n session → GoesOnThere new n session)
      → ((n slot : ℕ) → n ≢ node → RunsThere old n slot → RunsThere new n slot)
      → NothingLeaks old → NothingLeaks new
  moved node its put mine others runs was = record {
    seats = λ n host standing at up session taken.
        elim (put_cases old.hosts new.hosts node its put n host at) [
          | inl here ↦
              subst (λ k. GoesOnThere new k session) (sym here.0)
              ((mine standing (ap (λ (h : Host D). h.state) here.1 ∙ up)).0 session taken)
          | inr other ↦ others n session other.0 (was.seats n host standing other.1 up session taken)
        ];
    runs = λ n host standing at up slot taken.
        elim (put_cases old.hosts new.hosts node its put n host at) [
          | inl here ↦
              subst (λ k. RunsThere new k slot) (sym here.0)
              ((mine standing (ap (λ (h : Host D). h.state) here.1 ∙ up)).1 slot taken)
          | inr other ↦ runs n slot other.0 (was.runs n host standing other.1 up slot taken)
        ];
  }

  -- the same of a node that goes on
  pub still_up : (node : ℕ) (host : Host D) (before after : NodeState D) (records : List (List ℕ))
      → IsPut old.hosts new.hosts node (record host { state = Up after; records = records })
      → ((session : ℕ) → slot_at after.seats session ≢ None → GoesOnThere new node session)
      → ((slot : ℕ) → slot_at after.attempts slot ≢ None → RunsThere new node slot)
      → ((n session : ℕ) → n ≢ node → GoesOnThere old n session → GoesOnThere new n session)
      → ((n slot : ℕ) → n ≢ node → RunsThere old n slot → RunsThere new n slot)
      → NothingLeaks old → NothingLeaks new
  still_up node host before after records put seats runs others other_runs was =
      moved node (record host { state = Up after; records = records }) put
      (λ standing up. subst
      (λ (s : NodeState D). ((session : ℕ) → slot_at s.seats session ≢ None → GoesOnThere new node session)
      × ((slot : ℕ) → slot_at s.attempts slot ≢ None → RunsThere new node slot))
      (same_Up after standing up) (seats, runs))
      others other_runs was

  -- and of one that is down
  pub now_down : (node : ℕ) (host : Host D) (disk : Disks D) (undecided : Option Undecided)
      → IsPut old.hosts new.hosts node (record host { state = Down disk undecided })
      → ((n session : ℕ) → n ≢ node → GoesOnThere old n session → GoesOnThere new n session)
      → ((n slot : ℕ) → n ≢ node → RunsThere old n slot → RunsThere new n slot)
      → NothingLeaks old → NothingLeaks new
  now_down node host disk undecided put others runs was =
      moved node (record host { state = Down disk undecided }) put
      (λ standing up. absurd (up_not_down standing disk undecided (sym up))) others runs was

  -- a seat of the node that isn't the one that changed has its link, and so has a number its attempt
  pub other_seat : (node : ℕ) (host : Host D) (before after : NodeState D) (s : ℕ) → slice_get old.hosts node ≡ Some host
      → host.state ≡ Up before → OthersStay before.seats after.seats s → AllGoOnBut node s → NothingLeaks old
      → (slot_at after.seats s ≢ None → GoesOnThere new node s) → (session : ℕ) → slot_at after.seats session ≢ None
      → GoesOnThere new node session
  other_seat node host before after s at up others kept was this session taken = elim (cases_eq session s) [
    | inl same ↦
        subst (λ k. GoesOnThere new node k) (sym same)
        (this (subst (λ k. slot_at after.seats k ≢ None) same taken))
    | inr off ↦
        kept node session (λ its same. off same)
        (was.seats node host before at up session (λ free. taken (others session off ∙ free)))
  ]

  pub other_run : (node : ℕ) (host : Host D) (before after : NodeState D) (s : ℕ) → slice_get old.hosts node ≡ Some host
      → host.state ≡ Up before → OthersStay before.attempts after.attempts s → AllRunBut node s → NothingLeaks old
      → (slot_at after.attempts s ≢ None → RunsThere new node s) → (slot : ℕ) → slot_at after.attempts slot ≢ None
      → RunsThere new node slot
  other_run node host before after s at up others kept was this slot taken = elim (cases_eq slot s) [
    | inl same ↦
        subst (λ k. RunsThere new node k) (sym same) (this (subst (λ k. slot_at after.attempts k ≢ None) same taken))
    | inr off ↦
        kept node slot (λ its same. off same)
        (was.runs node host before at up slot (λ free. taken (others slot off ∙ free)))
  ]

  pub same_seats : (node : ℕ) (host : Host D) (before after : NodeState D) → slice_get old.hosts node ≡ Some host
      → host.state ≡ Up before → after.seats ≡ before.seats → AllGoOn → NothingLeaks old → (session : ℕ)
      → slot_at after.seats session ≢ None → GoesOnThere new node session
  same_seats node host before after at up same kept was session taken =
      kept node session (was.seats node host before at up session
      (λ free. taken (ap (λ s. slot_at s session) same ∙ free)))

  pub same_runs : (node : ℕ) (host : Host D) (before after : NodeState D) → slice_get old.hosts node ≡ Some host
      → host.state ≡ Up before → after.attempts ≡ before.attempts → AllRun → NothingLeaks old → (slot : ℕ)
      → slot_at after.attempts slot ≢ None → RunsThere new node slot
  same_runs node host before after at up same kept was slot taken =
      kept node slot (was.runs node host before at up slot (λ free. taken (ap (λ s. slot_at s slot) same ∙ free)))
