-- A node on which nothing goes on but on one link, and that link, which is broken after the event, have changed: what is the
-- same for each event of that kind.
use Rattle.std.proofs.Common.{◌≡◌, ◌≢◌, ◌≤◌, ℕ, true, List, length, take, Some, refl, sym, subst, ap, ◌∙◌}
use Rattle.std.specs.Prelude.{slice_get}
use Rattle.std.specs.List.{AllByRecursion}
use Rattle.std.proofs.lemmas.Bool.{false≢true}
use Rattle.std.proofs.lemmas.Option.{same_Some}
use Rattle.relay_disk.specs.Device.{DiskWords}
use Rattle.relay_disk.specs.declared.disks.Disks.{Disks}
use Rattle.relay_book.specs.declared.change.Change.{Change}
use Rattle.relay_world.specs.declared.attempt.Attempt.{Attempt}
use Rattle.relay_world.specs.declared.attempt.Fate.TheVariants.{Running}
use Rattle.relay_world.specs.declared.link.Link.{Link}
use Rattle.relay_world.specs.declared.link.ServerEnd.{ServerEnd}
use Rattle.relay_world.specs.Bound.{HasLink, HasSession, HasSlot, HostKeeps, IsBound, IsServed, IsTried, MayBeIn, PassesOn, ReadsWithin, StandsAt, link_of}
use Rattle.relay_world.specs.Ledger.{accepts_on, steps_in, steps_of}
use Rattle.relay_world.specs.Steps.{IsPut, IsPutAt}
use Rattle.relay_world.specs.Stops.{NoSessionBut}
use Rattle.relay_world.specs.World.{Down, Host, Undecided, World, link_at}
use Rattle.relay_world.proofs.FrameLemmas.{ChangesStay, MessagesStay}
use Rattle.relay_world.proofs.PieceLemmas.{passes_whole}
use Rattle.relay_world.proofs.MoveLemmas.{client_was, link_cases, link_kept, Moves, Settled, moved_keeps}

-- a client end stays, on a link that is broken now, where what it has read and written stays
pub passes_cut : {D : Type 0} (host : Host D) (changes : List Change) (link now : Link) (attempt : Attempt)
    → take link.down_read link.down ≡ take now.down_read now.down → link.up ≡ now.up → now.broken ≡ true
    → PassesOn host changes link attempt → PassesOn host changes now attempt
passes_cut host changes link now attempt read wrote broken passes =
    passes_whole host changes link now attempt read wrote (λ is. absurd (false≢true (sym is ∙ broken))) passes

-- an attempt was there, for the same node and link, and runs only where it ran
pub record WasThere (before : List Attempt) (place : ℕ) (attempt : Attempt) : Type 0 where
  pub was : Attempt
  pub at : slice_get before place ≡ Some was
  pub its_node : attempt.node ≡ was.node
  pub its_link : attempt.link ≡ was.link
  pub runs : (slot : ℕ) → attempt.fate ≡ Running slot → was.fate ≡ Running slot

pub still_there : (before after : List Attempt) (place : ℕ) (attempt : Attempt) → after ≡ before
    → slice_get after place ≡ Some attempt
    → WasThere before place attempt
still_there before after place attempt same at = record {
  was = attempt;
  at = ap (λ l. slice_get l place) (sym same) ∙ at;
  its_node = refl;
  its_link = refl;
  runs = λ slot is. is;
}

module _ {D : Type 0} (honest : Type 0) (words : DiskWords D) (old new : World D) (lists later : List (List Change))
    (node number : ℕ) (host moved : Host D) (changes grown : List Change) (link now : Link) where
  pub record LinkMoves : Type 0 where
    pub stands : StandsAt old lists node host changes
    pub hosts : IsPut old.hosts new.hosts node moved
    pub even : length later ≡ length new.hosts
    pub list : IsPut lists later node grown
    pub link_is : link_at old.links number ≡ Some link
    pub links : IsPutAt old.links new.links number now
    pub client : now.client ≡ link.client
    pub session : (at session : ℕ) → HasSession now at session → HasSession link at session
    pub attempts : (place : ℕ) (attempt : Attempt) → slice_get old.attempts place ≡ Some attempt → attempt.link ≢ number
        → slice_get new.attempts place ≡ Some attempt
    pub were : (place : ℕ) (attempt : Attempt) → slice_get new.attempts place ≡ Some attempt → WasThere old.attempts place attempt
    pub config : moved.config ≡ host.config
    pub stay : ChangesStay changes grown
    pub messages : MessagesStay changes grown
    pub accepts : (other : ℕ) → other ≢ number → accepts_on other new.ledger ≡ accepts_on other old.ledger
    pub steps : steps_in node new.ledger ≡ steps_of grown
    pub other_steps : (other : ℕ) → other ≢ node → steps_in other new.ledger ≡ steps_in other old.ledger
    pub lines : AllByRecursion (λ line. link_of line ≤ length new.links) new.ledger
    pub no_session : NoSessionBut old node number
    pub no_attempt : (place : ℕ) (attempt : Attempt) (slot : ℕ) → slice_get old.attempts place ≡ Some attempt
        → attempt.link ≢ number → HasSlot attempt node slot → ⊥
    pub keeps : HostKeeps honest words moved grown

  module _ (bound : IsBound honest words old lists) (link_moves : LinkMoves) where
    pub link_moved_so : Moves honest words old new lists later node number host moved changes grown now
    link_moved_so = record {
      stands = link_moves.stands;
      hosts = link_moves.hosts;
      even = link_moves.even;
      list = link_moves.list;
      links = link_cases old.links new.links number now link_moves.links;
      stays = link_moves.links.others;
      attempts = link_moves.attempts;
      config = link_moves.config;
      stay = link_moves.stay;
      messages = link_moves.messages;
      accepts = link_moves.accepts;
      steps = link_moves.steps;
      other_steps = link_moves.other_steps;
      lines = link_moves.lines;
      says = λ other its session off is has peer said there. absurd (link_moves.no_session other its session off is has);
      tells = λ place attempt slot at off has. absurd (link_moves.no_attempt place attempt slot at off has);
      keeps = link_moves.keeps;
    }

    slots_by : (one other : ℕ) (attempt others : Attempt) (at slot : ℕ) → slice_get new.attempts one ≡ Some attempt
        → slice_get new.attempts other ≡ Some others → HasSlot attempt at slot → HasSlot others at slot → one ≡ other
    slots_by one other attempt others at slot first second mine yours =
        let a = link_moves.were one attempt first in
        let b = link_moves.were other others second in
        bound.slots one other a.was b.was at slot a.at b.at
        (record { its_node = sym a.its_node ∙ mine.its_node; runs = a.runs slot mine.runs })
        (record { its_node = sym b.its_node ∙ yours.its_node; runs = b.runs slot yours.runs })

    attempts_by : (place : ℕ) (attempt : Attempt) → slice_get new.attempts place ≡ Some attempt → HasLink new.links place attempt
    attempts_by place attempt at =
        let a = link_moves.were place attempt at in
        let has : HasLink new.links place a.was =
        link_kept old.links new.links number now link_moves.links
        (client_was old.links number link link_moves.link_is now.client link_moves.client) place a.was
        (bound.attempts place a.was a.at) in
        record {
          link = has.link;
          is_there = ap (λ n. link_at new.links n) a.its_link ∙ has.is_there;
          client = has.client;
        }

    -- what each such event owes of its own
    pub record Ends : Type 0 where
      pub served : (end : ServerEnd) → now.server ≡ Some end → IsServed new later number now end
      pub tried : (place : ℕ) → now.client ≡ Some place → IsTried new later number now place
      pub reads : ReadsWithin now
      pub settled : link.broken ≡ true → Settled honest words old new lists later node number host moved changes grown now link
      pub may_be_in : (disk : Disks D) (undecided : Undecided) → moved.state ≡ Down disk (Some undecided)
          → MayBeIn new node moved grown undecided

    pub link_moved : Ends → IsBound honest words new later
    link_moved ends =
        moved_keeps honest words old new lists later node number host moved changes grown now bound link_moved_so (record {
          served = ends.served;
          tried = ends.tried;
          reads = ends.reads;
          slots = slots_by;
          apart = λ other its at session off is mine yours.
              off (bound.sessions other number its link at session is link_moves.link_is mine
              (link_moves.session at session yours));
          attempts = attempts_by;
          settled = λ was there broken.
              let same : link ≡ was = same_Some link was (sym link_moves.link_is ∙ there) in
              subst (λ l. Settled honest words old new lists later node number host moved changes grown now l) same
              (ends.settled (ap (λ (l : Link). l.broken) same ∙ broken));
          may_be_in = ends.may_be_in;
        })
