-- What stays of a change that is undecided at a node while others, and other links, change.
use Rattle.std.proofs.Common.{◌≡◌, ◌≤◌, ◌+◌, ℕ, Bool, true, false, List, [], ◌∷◌, ◌++◌, length, take, Option, None, Some, sym, subst, ap, ◌∙◌}
use Rattle.relay_disk.specs.declared.disks.Disks.{Disks}
use Rattle.std.specs.Prelude.{slice_get}
use Rattle.std.proofs.lemmas.Bool.{false≢true}
use Rattle.std.proofs.lemmas.Option.{same_Some}
use Rattle.relay_octets.specs.Beginning.{Begins}
use Rattle.relay_routes.specs.declared.config.Config.{Config}
use Rattle.relay_book.specs.declared.change.Change.{Change}
use Rattle.relay_records.specs.declared.noted.Noted.{Noted}
use Rattle.relay_report.specs.Report.{Reported, reporter_of}
use Rattle.relay_node.specs.Node.{NodeState}
use Rattle.relay_world.specs.declared.attempt.Attempt.{Attempt}
use Rattle.relay_meeting.specs.Joined.{output_with}
use Rattle.relay_world.specs.declared.attempt.Fate.{Fate}
use Rattle.relay_world.specs.declared.attempt.Fate.TheVariants.{Running, Replied, Lost, Dropped}
use Rattle.relay_world.specs.declared.line.Line.{Line}
use Rattle.relay_world.specs.declared.link.Link.{Link}
use Rattle.relay_world.specs.declared.link.ServerEnd.{ServerEnd}
use Rattle.relay_world.specs.Bound.{MayBeHeard, MayBeIn, MayHaveCome, MayHaveEnded, SaysThere, ServesLink}
use Rattle.relay_world.specs.Ledger.{accepts_on, lines_by}
use Rattle.relay_world.specs.World.{Down, FromClient, FromLoss, FromGivingUp, FromReplies, HostState, Host, Origin, Undecided, Up, World, link_at}
use Rattle.relay_world.proofs.FrameLemmas.{accepts_on_more, passes_on, serves_on}
use Rattle.relay_world.proofs.PieceLemmas.{passes_as}
use Rattle.relay_world.proofs.FateLemmas.{lost_ends, replied_ends}

-- a node that is up isn't down
abbrev is_up : {D : Type 0} → HostState D → Bool
is_up (Up node) = true
is_up (Down disk undecided) = false

pub up_not_down : {D : Type 0} (node : NodeState D) (disk : Disks D) (undecided : Option Undecided) → Up node ≡ Down disk undecided → ⊥
up_not_down node disk undecided same = false≢true (sym (ap is_up same))

-- a whole link isn't broken
pub not_broken : (links : List Link) (number : ℕ) (link was : Link) → link_at links number ≡ Some link → link.broken ≡ false
    → link_at links number ≡ Some was → was.broken ≡ true → ⊥
not_broken links number link was is whole there broken =
    false≢true (sym whole ∙ ap (λ (l : Link). l.broken) (same_Some link was (sym is ∙ there)) ∙ broken)

-- what the server end has read, and what stands on its side, is the same, on a link that stays broken
pub record ServerStays (link now : Link) (end : ServerEnd) : Type 0 where
  pub server : now.server ≡ Some end
  pub up : now.up ≡ link.up
  pub up_read : now.up_read ≡ link.up_read
  pub down : now.down ≡ link.down
  pub broken : now.broken ≡ true

-- the same of the client end
pub record ClientStays (link now : Link) : Type 0 where
  pub client : now.client ≡ link.client
  pub up : now.up ≡ link.up
  pub down : now.down ≡ link.down
  pub down_read : now.down_read ≡ link.down_read
  pub broken : now.broken ≡ true

-- a server end stays served, on a link that is broken now, where what it has read and written stays
pub serves_cut : {D : Type 0} (host : Host D) (changes : List Change) (ledger : List Line) (number : ℕ) (link now : Link)
    (end : ServerEnd) → take now.up_read now.up ≡ take link.up_read link.up → now.down ≡ link.down → now.broken ≡ true
    → ServesLink host changes ledger number link end → ServesLink host changes ledger number now end
serves_cut host changes ledger number link now end read wrote broken serves = record {
  said = serves.said;
  dialogue = serves.dialogue;
  numbered = serves.numbered;
  answered = serves.answered;
  input = serves.input ∙ sym read;
  closing = serves.closing;
  closes = serves.closes;
  closed = serves.closed;
  wrote = subst (λ l. Begins l (output_with serves.said.output serves.closing)) (sym wrote) serves.wrote;
  whole = λ is. absurd (false≢true (sym is ∙ broken));
  accepts = serves.accepts;
  stored = serves.stored;
  live = serves.live;
}

-- a server end that no session is at stays served where what it has read and written stays
pub serves_as : {D : Type 0} (host new : Host D) (changes : List Change) (ledger grown : List Line) (number : ℕ) (link now : Link)
    (end : ServerEnd) → new.config ≡ host.config → end.session ≡ None → accepts_on number grown ≡ accepts_on number ledger
    → take now.up_read now.up ≡ take link.up_read link.up → now.down ≡ link.down → now.broken ≡ true
    → ServesLink host changes ledger number link end → ServesLink new changes grown number now end
serves_as host new changes ledger grown number link now end config ended accepts read wrote broken serves =
    serves_cut new changes grown number link now end read wrote broken
    (serves_on host new changes changes ledger grown number link end config (λ k c found. found) accepts
    (λ said says. subst (λ s. SaysThere new s end.peer said) (sym ended) tt) serves)

module _ {D : Type 0} (old new : World D) where
  -- the end of a broken link that a node serves, where no session is, stays
  pub record ServesStill (number : ℕ) (link : Link) (end : ServerEnd) : Type 0 where
    pub now : Link
    pub now_is : link_at new.links number ≡ Some now
    pub stays : ServerStays link now end
    pub accepts : accepts_on number new.ledger ≡ accepts_on number old.ledger

  -- the end of a broken link that an attempt of a node had stays, and so does the attempt
  pub record TriesStill (number place : ℕ) (link : Link) (attempt : Attempt) : Type 0 where
    pub now : Link
    pub now_is : link_at new.links number ≡ Some now
    pub stays : ClientStays link now
    pub attempt_at : slice_get new.attempts place ≡ Some attempt

module _ {D : Type 0} (old new : World D) (node : ℕ) where
  -- what a change that is undecided at the node rests on stays
  pub record Remains : Type 0 where
    pub serves : (number : ℕ) (link : Link) (end : ServerEnd) → link_at old.links number ≡ Some link → link.broken ≡ true
        → link.server ≡ Some end → end.node ≡ node → end.session ≡ None → ServesStill old new number link end
    pub tries : (number place : ℕ) (link : Link) (attempt : Attempt) → link_at old.links number ≡ Some link → link.broken ≡ true
        → link.client ≡ Some place → slice_get old.attempts place ≡ Some attempt → attempt.node ≡ node → attempt.fate ≡ Dropped
        → TriesStill old new number place link attempt

  module _ (host moved : Host D) (changes : List Change) (config : moved.config ≡ host.config) (remains : Remains) where
    still_heard : (change : Change) (note : Noted) (number : ℕ) → MayBeHeard old node host changes change note number
        → MayBeHeard new node moved changes change note number
    still_heard change note number may =
        let still : ServesStill old new number may.link may.end =
        remains.serves number may.link may.end may.link_is may.broken may.serves may.its_node may.ended in
        record {
          link = still.now;
          link_is = still.now_is;
          broken = still.stays.broken;
          end = may.end;
          serves = still.stays.server;
          its_node = may.its_node;
          ended = may.ended;
          within = subst (λ (l : List ℕ). still.now.up_read + note.used ≤ length l) (sym still.stays.up)
              (subst (λ n. n + note.used ≤ length may.link.up) (sym still.stays.up_read) may.within);
          with_it = serves_as host moved (changes ++ change ∷ []) (old.ledger ++ lines_by node note (FromClient number))
              (new.ledger ++ lines_by node note (FromClient number)) number
              (record may.link { up_read = may.link.up_read + note.used })
              (record still.now { up_read = still.now.up_read + note.used }) may.end config may.ended
              (accepts_on_more number new.ledger (lines_by node note (FromClient number))
              ∙ ap (λ l. l ++ accepts_on number (lines_by node note (FromClient number))) still.accepts
              ∙ sym (accepts_on_more number old.ledger (lines_by node note (FromClient number))))
              (ap (λ n. take (n + note.used) still.now.up) still.stays.up_read
              ∙ ap (λ (l : List ℕ). take (may.link.up_read + note.used) l) still.stays.up)
              still.stays.down still.stays.broken may.with_it;
        }

    still_ended : (change : Change) (note : Noted) (number place : ℕ) (fate : Fate) → ((slot : ℕ) → fate ≡ Running slot → ⊥)
        → MayHaveEnded old node host changes change note number place fate
        → MayHaveEnded new node moved changes change note number place fate
    still_ended change note number place fate ends may =
        let still : TriesStill old new number place may.link may.attempt =
        remains.tries number place may.link may.attempt may.link_is may.broken may.client may.attempt_at may.its_node
        may.dropped in
        record {
          link = still.now;
          link_is = still.now_is;
          broken = still.stays.broken;
          client = still.stays.client ∙ may.client;
          attempt = may.attempt;
          attempt_at = still.attempt_at;
          its_node = may.its_node;
          dropped = may.dropped;
          within = subst (λ (l : List ℕ). still.now.down_read + note.used ≤ length l) (sym still.stays.down)
              (subst (λ n. n + note.used ≤ length may.link.down) (sym still.stays.down_read) may.within);
          with_it = passes_as moved (changes ++ change ∷ []) (record may.link { down_read = may.link.down_read + note.used })
              (record still.now { down_read = still.now.down_read + note.used }) (record may.attempt { fate = fate })
              (sym (ap (λ n. take (n + note.used) still.now.down) still.stays.down_read
              ∙ ap (λ (l : List ℕ). take (may.link.down_read + note.used) l) still.stays.down))
              (sym still.stays.up) (may.broken ∙ sym still.stays.broken)
              (passes_on host moved (changes ++ change ∷ []) (changes ++ change ∷ [])
              (record may.link { down_read = may.link.down_read + note.used }) (record may.attempt { fate = fate }) config
              (λ k c found. found) (λ k a found. found) (λ slot runs. absurd (ends slot runs)) may.with_it);
        }

    still_came : (change : Change) (note : Noted) (origin : Origin) → MayHaveCome old node host changes change note origin
        → MayHaveCome new node moved changes change note origin
    still_came change note (FromClient number) may = still_heard change note number may
    still_came change note (FromReplies number place message) may =
        still_ended change note number place (Replied note.number) (replied_ends note.number) may
    still_came change note (FromLoss number place message) may =
        still_ended change note number place (Lost note.number) (lost_ends note.number) may
    still_came change note (FromGivingUp message) may = tt

    -- a change that is undecided stays so
    pub still_may_be_in : (undecided : Undecided) → MayBeIn old node host changes undecided
        → MayBeIn new node moved changes undecided
    still_may_be_in undecided may = record {
      change = may.change;
      octets = may.octets;
      number = may.number;
      fitting = may.fitting;
      reported = subst (λ (c : Config). Reported (reporter_of c) changes may.change) (sym config) may.reported;
      steps = may.steps;
      came = still_came may.change undecided.note undecided.origin may.came;
    }
