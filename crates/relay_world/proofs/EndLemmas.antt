-- A session that is gone keeps a world bound, and so does one that is cut off.
use Rattle.std.proofs.Common.{◌≡◌, ◌≢◌, ◌≤◌, ℕ, true, false, List, ◌++◌, length, take, Option, None, Some, refl, sym, subst, ap, ◌∙◌}
use Rattle.std.proofs.lemmas.List.{append-nil}
use Rattle.std.specs.Prelude.{slice_get}
use Rattle.std.specs.List.{AllByRecursion}
use Rattle.std.proofs.lemmas.Option.{none-some, same_Some}
use Rattle.relay_octets.specs.Beginning.{Begins}
use Rattle.relay_lines.specs.Reply.{IsReply, Reply, reply_text}
use Rattle.relay_disk.specs.Device.{DiskWords}
use Rattle.relay_server.specs.Dialogue.{Said}
use Rattle.relay_book.specs.declared.change.Change.{Change}
use Rattle.relay_records.specs.Records.{Keeps}
use Rattle.relay_node.specs.Attempts.{Tells}
use Rattle.relay_node.specs.Node.{SeatHasSaid, NodeState}
use Rattle.relay_meeting.specs.Joined.{MayClose, output_with}
use Rattle.relay_world.specs.declared.link.Link.{Link}
use Rattle.relay_world.specs.declared.link.ServerEnd.{ServerEnd}
use Rattle.relay_world.specs.Bound.{HasSession, HostKeeps, IsBound, IsServed, IsTried, NodeKeeps, SaysThere, ServesLink, StandsAt, link_of}
use Rattle.relay_world.specs.Ledger.{accepts_on, steps_in}
use Rattle.relay_world.specs.Steps.{CuttingOffKeeps, EndingKeeps, EndsWith, closed_down, ended_link, unless_broken}
use Rattle.relay_world.specs.World.{Host, Up, World, link_at}
use Rattle.relay_world.proofs.FrameLemmas.{TellsOn}
use Rattle.relay_world.proofs.ClosingLemmas.{may_be_over, whole_open, wrote_open}
use Rattle.relay_world.proofs.PieceLemmas.{begins_more, few_within, passes_as, read_stays, written_broken, written_whole}
use Rattle.relay_world.proofs.MoveLemmas.{link_cases, client_was, links_kept, Joins, Moves, Settled, moved_keeps, same_attempts, same_slots, still_tried}
use Rattle.relay_world.proofs.UndecidedLemmas.{up_not_down}
use Rattle.relay_world.proofs.OpenLemmas.{lines_within, list_there, node_kept, same_Up, still_says}

-- a reply with which a server may close unasked
abbrev IsUnasked : Option Reply → Type 0
IsUnasked None = Unit {0}
IsUnasked (Some reply) = IsReply reply × (reply.code ≡ 421)

unasked_closes : (said : Said) (closing : Option Reply) → length said.answers ≡ length said.offers → IsUnasked closing
    → MayClose said closing
unasked_closes said None even unasked = tt
unasked_closes said (Some reply) even unasked = (unasked.0, unasked.1, even)

-- what stands on the link after it
closed_wrote : (link : Link) (output : List ℕ) (closing : Option Reply) → Begins link.down output
    → (link.broken ≡ false → link.down ≡ output) → Begins (closed_down link closing) (output_with output closing)
closed_wrote link output None wrote whole = wrote
closed_wrote link output (Some reply) wrote whole =
    begins_more link.broken link.down output (reply_text reply) wrote whole

closed_whole : (link : Link) (output : List ℕ) (closing : Option Reply)
    → (link.broken ≡ false → link.down ≡ output) → link.broken ≡ false
    → closed_down link closing ≡ output_with output closing
closed_whole link output None whole is = whole is
closed_whole link output (Some reply) whole is =
    ap (λ l. link.down ++ l) (written_whole link (reply_text reply) is) ∙ ap (λ l. l ++ reply_text reply) (whole is)

closed_read : (link : Link) (closing : Option Reply) → link.down_read ≤ length link.down
    → take link.down_read link.down ≡ take link.down_read (closed_down link closing)
closed_read link None within = refl
closed_read link (Some reply) within =
    read_stays link.down_read link.down (unless_broken link (reply_text reply)) within

closed_within : (link : Link) (closing : Option Reply) → link.down_read ≤ length link.down
    → link.down_read ≤ length (closed_down link closing)
closed_within link None within = within
closed_within link (Some reply) within =
    few_within link.down_read link.down (unless_broken link (reply_text reply)) within

closed_broken : (link : Link) (closing : Option Reply) → link.broken ≡ true → closed_down link closing ≡ link.down
closed_broken link None broken = refl
closed_broken link (Some reply) broken =
    ap (λ l. link.down ++ l) (written_broken link (reply_text reply) broken) ∙ append-nil link.down

ended_keeps : {D : Type 0} (honest : Type 0) (words : DiskWords D) (old new : World D) (lists : List (List Change))
    (number : ℕ) (closing : Option Reply) → IsUnasked closing → IsBound honest words old lists
    → EndsWith old new number closing → IsBound honest words new lists
ended_keeps {D} honest words old new lists number closing unasked bound ends =
    moved_keeps honest words old new lists lists node number host moved changes changes link bound moves joins
  where
    node : ℕ
    node = ends.of.end.node

    host : Host D
    host = ends.of.host

    moved : Host D
    moved = record host { state = Up ends.after }

    link : Link
    link = ended_link ends.of.link ends.of.end closing

    listed : (list : List Change) × (slice_get lists node ≡ Some list)
    listed = list_there old.hosts lists node host bound.even ends.of.host_at

    changes : List Change
    changes = listed.0

    stands : StandsAt old lists node host changes
    stands = record { host_at = ends.of.host_at; list_at = listed.1 }

    kept : HostKeeps honest words host changes
    kept = bound.hosts node host changes stands

    its_node : NodeKeeps honest words host.config ends.of.before changes
    its_node = node_kept honest words host changes ends.of.before kept ends.of.up

    served : IsServed old lists number ends.of.link ends.of.end
    served = bound.servers number ends.of.link ends.of.end ends.of.link_is ends.of.serves

    was : ServesLink host changes old.ledger number ends.of.link ends.of.end
    was = subst (λ l. ServesLink host l old.ledger number ends.of.link ends.of.end)
        (same_Some served.changes changes (sym served.stands.list_at ∙ listed.1))
        (subst (λ h. ServesLink h served.changes old.ledger number ends.of.link ends.of.end)
        (same_Some served.host host (sym served.stands.host_at ∙ ends.of.host_at)) served.serves)

    wrote : Begins ends.of.link.down was.said.output
    wrote = wrote_open host changes old.ledger number ends.of.link ends.of.end was ends.of.session ends.of.goes_on

    whole : ends.of.link.broken ≡ false → ends.of.link.down ≡ was.said.output
    whole = whole_open host changes old.ledger number ends.of.link ends.of.end was ends.of.session ends.of.goes_on

    serves : ServesLink moved changes new.ledger number link (record ends.of.end { session = None })
    serves = record {
      said = was.said;
      dialogue = was.dialogue;
      numbered = was.numbered;
      answered = was.answered;
      input = was.input;
      closing = closing;
      closes = unasked_closes was.said closing was.answered unasked;
      closed = may_be_over closing;
      wrote = closed_wrote ends.of.link was.said.output closing wrote whole;
      whole = closed_whole ends.of.link was.said.output closing whole;
      accepts = ap (λ l. accepts_on number l) ends.rest.1 ∙ was.accepts;
      stored = was.stored;
      live = tt;
    }

    other_session : (other : ℕ) (its : Link) → other ≢ number → link_at old.links other ≡ Some its
        → HasSession its node ends.of.session → ⊥
    other_session other its off is has =
        off (bound.sessions other number its ends.of.link node ends.of.session is ends.of.link_is has
        (record { end = ends.of.end; serves = ends.of.serves; its_node = refl; its_session = ends.of.goes_on }))

    says : (other : ℕ) (its : Link) (session : ℕ) → other ≢ number → link_at old.links other ≡ Some its
        → HasSession its node session → (peer : List ℕ) (said : Said) → SaysThere host (Some session) peer said
        → SaysThere moved (Some session) peer said
    says other its session off is has peer said there = (
      ends.after,
      refl,
      still_says host.config ends.of.before ends.after ends.of.session session peer said ends.others
          (λ same. other_session other its off is (subst (λ s. HasSession its node s) same has))
          (subst (λ (n : NodeState D). SeatHasSaid host.config n.seats session peer said)
          (same_Up there.0 ends.of.before (sym there.1 ∙ ends.of.up)) there.2),
    )

    tells : (slot : ℕ) → TellsOn host moved changes changes slot
    tells slot told is = (
      ends.after,
      refl,
      subst (λ l. Tells host.config.host changes l slot told) (sym ends.attempts)
          (subst (λ (n : NodeState D). Tells host.config.host changes n.attempts slot told)
          (same_Up is.0 ends.of.before (sym is.1 ∙ ends.of.up)) is.2),
    )

    moves : Moves honest words old new lists lists node number host moved changes changes link
    moves = record {
      stands = stands;
      hosts = ends.hosts;
      even = bound.even ∙ sym ends.rest.3;
      list = record { at = listed.1; others = λ other off. refl };
      links = link_cases old.links new.links number link ends.links;
      stays = ends.links.others;
      attempts = λ place attempt at off. same_attempts old.attempts new.attempts ends.rest.0 place attempt at;
      config = refl;
      stay = λ k c is. is;
      messages = λ k a is. is;
      accepts = λ other off. ap (λ l. accepts_on other l) ends.rest.1;
      steps = ap (λ l. steps_in node l) ends.rest.1 ∙ bound.ledger node changes listed.1;
      other_steps = λ other off. ap (λ l. steps_in other l) ends.rest.1;
      lines = subst (λ l. AllByRecursion (λ line. link_of line ≤ length new.links) l) (sym ends.rest.1)
          (lines_within (length old.links) (length new.links) old.ledger ends.links.grows bound.lines);
      says = says;
      tells = λ place attempt slot at off has. tells slot;
      keeps = record {
        list = kept.list;
        holds = record {
          config_is = ends.config ∙ its_node.config_is;
          keeps = subst (λ r. Keeps honest words r changes) (sym ends.records) its_node.keeps;
        };
        reports = kept.reports;
      };
    }

    tried_now : (place : ℕ) → link.client ≡ Some place → IsTried new lists number link place
    tried_now place client =
        let tried : IsTried new lists number ends.of.link place =
        still_tried honest words old new lists lists node number host moved changes changes link bound moves number place ends.of.link
        ends.of.link_is client (λ attempt at its_link. same_attempts old.attempts new.attempts ends.rest.0 place attempt at)
        (λ attempt slot at its_link has. tells slot) in
        record {
          attempt = tried.attempt;
          attempt_at = tried.attempt_at;
          its_link = tried.its_link;
          host = tried.host;
          changes = tried.changes;
          stands = tried.stands;
          passes = passes_as tried.host tried.changes ends.of.link link tried.attempt
              (closed_read ends.of.link closing (bound.reads number ends.of.link ends.of.link_is).down) refl refl
              tried.passes;
        }

    -- the session was going on, so nothing undecided rests on its end; and the client end is what it was
    settled : ends.of.link.broken ≡ true
        → Settled honest words old new lists lists node number host moved changes changes link ends.of.link
    settled broken = record {
      serves = λ end serves off ended.
          absurd (none-some ends.of.session (sym ended ∙ ap (λ (e : ServerEnd). e.session)
          (same_Some end ends.of.end (sym serves ∙ ends.of.serves)) ∙ ends.of.goes_on));
      tries = λ place attempt client at off dropped. record {
        now = link;
        now_is = ends.links.at;
        stays = record {
          client = refl;
          up = refl;
          down = closed_broken ends.of.link closing broken;
          down_read = refl;
          broken = broken;
        };
        attempt_at = same_attempts old.attempts new.attempts ends.rest.0 place attempt at;
      };
    }

    joins : Joins honest words old new lists lists node number host moved changes changes link
    joins = record {
      served = λ end is. subst (λ e. IsServed new lists number link e) (same_Some (record ends.of.end { session = None }) end is) (record {
        host = moved;
        changes = changes;
        stands = record { host_at = ends.hosts.at; list_at = listed.1 };
        serves = serves;
      });
      tried = tried_now;
      reads = record {
        up = (bound.reads number ends.of.link ends.of.link_is).up;
        down = closed_within ends.of.link closing (bound.reads number ends.of.link ends.of.link_is).down;
      };
      slots = same_slots old.attempts new.attempts ends.rest.0 bound.slots;
      attempts = links_kept old.links new.links number link ends.links
          (client_was old.links number ends.of.link ends.of.link_is ends.of.link.client refl) old.attempts new.attempts
          ends.rest.0 bound.attempts;
      apart = λ other its at session off is mine yours.
          let same = same_Some (record ends.of.end { session = None }) yours.end yours.serves in
          none-some session (ap (λ (e : ServerEnd). e.session) same ∙ yours.its_session);
      settled = λ was there broken.
          let same : ends.of.link ≡ was = same_Some ends.of.link was (sym ends.of.link_is ∙ there) in
          subst (λ l. Settled honest words old new lists lists node number host moved changes changes link l) same
          (settled (ap (λ (l : Link). l.broken) same ∙ broken));
      may_be_in = λ disk undecided down. absurd (up_not_down ends.after disk (Some undecided) down);
    }

pub ending_keeps : {D : Type 0} (honest : Type 0) (words : DiskWords D) → EndingKeeps honest words
ending_keeps honest words old new lists number bound ends =
    ended_keeps honest words old new lists number None tt bound ends

pub cutting_off_keeps : {D : Type 0} (honest : Type 0) (words : DiskWords D) → CuttingOffKeeps honest words
cutting_off_keeps honest words old new lists number reply bound cuts =
    ended_keeps honest words old new lists number (Some reply) (cuts.formed, cuts.code) bound cuts.ends
