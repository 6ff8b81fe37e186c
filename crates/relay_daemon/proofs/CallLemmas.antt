-- Calls of a relay, one after another, in a world whose other nodes do what they like.
use Rattle.std.proofs.Common.{◌≡◌, ◌≢◌, ◌++◌, ◌∷◌, ℕ, List, [], length, refl, sym, subst, arith}
use Rattle.std.proofs.Common.{ap, ◌∙◌}
use Rattle.std.proofs.lemmas.Option.{same_Some}
use Rattle.relay_disk.specs.Device.{DiskWords}
use Rattle.relay_lines.specs.Reply.{one_line}
use Rattle.relay_slots.specs.Slots.{slot_at}
use Rattle.relay_book.specs.declared.change.Change.{Change}
use Rattle.relay_records.specs.ListLaws.{NoneIsAwaited}
use Rattle.relay_loop.specs.Called.{Accepts, Call, Compacts, CutsOff, Does, Drops, Ends, Forgets, GivesUp, Hears}
use Rattle.relay_loop.specs.Called.{HearsOne, IsRefused, Loses, Reads, Starts, Trims, Withdraws, Writes, WritesToHop}
use Rattle.relay_loop.specs.Called.{told_of, untold}
use Rattle.relay_loop.specs.Calls.{GiveUpSays, HearSays, LoseSays, ReplySays, StartSays, WithdrawSays}
use Rattle.relay_loop.specs.Closing.{text_of}
use Rattle.relay_loop.specs.GroupCalls.{HearsGroup}
use Rattle.relay_loop.specs.Relay.{RelayState}
use Rattle.relay_world.specs.declared.attempt.Attempt.{Attempt}
use Rattle.relay_world.specs.Bound.{IsBound}
use Rattle.relay_world.specs.GivingUp.{NoHop, Postmaster, Withdrawing}
use Rattle.relay_world.specs.Once.{Closes, Drops as DropsBy, Ends as EndsBy, GivesUp as GivesUpBy, GoesOn}
use Rattle.relay_world.specs.Once.{HappenAsking, Happens, Hears as HearsBy, HearsAll, Loses as LosesBy, Opens, Reads as ReadsBy}
use Rattle.relay_world.specs.Once.{Starts as StartsBy, asked_at}
use Rattle.relay_world.specs.Promise.{KeepsPromise, PromiseIsKept}
use Rattle.relay_world.specs.World.{Host, World}
use Rattle.relay_daemon.specs.Elsewhere.{Elsewhere, IsOfOther}
use Rattle.relay_daemon.specs.Events.{LeadsToHop, begun_attempt}
use Rattle.relay_daemon.specs.Runs.{RunsAt}
use Rattle.relay_daemon.specs.Sequences.{CallsKeepThePromise, IsEvent, IsKept, Meets, Stands}
use Rattle.relay_daemon.proofs.AcceptLemmas.{accepting}
use Rattle.relay_daemon.proofs.AloneLemmas.{alone_runs_on}
use Rattle.relay_daemon.proofs.DropLemmas.{dropping}
use Rattle.relay_daemon.proofs.EachLemmas.{hearing_all}
use Rattle.relay_daemon.proofs.EndLemmas.{cutting_off, ending}
use Rattle.relay_daemon.proofs.ForgetLemmas.{forgetting}
use Rattle.relay_daemon.proofs.GiveLemmas.{giving_up, withdrawing}
use Rattle.relay_daemon.proofs.HearOneLemmas.{hearing_one}
use Rattle.relay_daemon.proofs.HereLemmas.{attempt_here, session_here, some_slot}
use Rattle.relay_daemon.proofs.LoseLemmas.{losing}
use Rattle.relay_daemon.proofs.OtherNodeLemmas.{alone_still, others_leave}
use Rattle.relay_daemon.proofs.PutLemmas.{put_push}
use Rattle.relay_daemon.proofs.ReplyLemmas.{replying}
use Rattle.relay_daemon.proofs.StartLemmas.{starting}
use Rattle.relay_daemon.proofs.StayLemmas.{compacting, trimming}
use Rattle.relay_daemon.proofs.WriteLemmas.{writing_out, writing_to_hops}

module _ {D : Type 0} (honest : Type 0) (words : DiskWords D) where
  -- a call was an event of a world, or none, and the relay runs in the next world
  pub record Leads (world : World D) (node : ℕ) (after : RelayState D) : Type 0 where
    pub next : World D
    pub own : List Withdrawing
    pub event : IsEvent honest words node own world next
    pub runs : RunsAt next node after

  none : (world : World D) (node : ℕ) (after : RelayState D) → RunsAt world node after → Leads world node after
  none world node after runs = record {
    next = world;
    own = [];
    event = record {
      count = 0;
      few = omega arith;
      happened = record { run = refl; asks = λ before. refl };
      others = λ other off. alone_still honest words other world;
    };
    runs = runs;
  }

  one : (world next : World D) (lists : List (List Change)) (node : ℕ) (after : RelayState D)
      → IsBound honest words world lists → (happens : Happens honest words world next)
      → ((other : ℕ) → node ≢ other → IsOfOther honest words other world next happens) → RunsAt next node after
      → Leads world node after
  one world next lists node after bound happens away runs = record {
    next = next;
    own = asked_at honest words world next happens;
    event = record {
      count = 1;
      few = omega arith;
      happened = record { run = (next, happens, refl); asks = λ before. refl };
      others = λ other off.
          others_leave honest words world next lists other bound happens (away other (λ same. off (sym same)));
    };
    runs = runs;
  }

  -- Each call that meets what it rests on is an event, or none.
  pub leads : NoneIsAwaited honest words → (call : Call) (world : World D) (lists : List (List Change)) (node : ℕ)
      (old after : RelayState D)
      → RunsAt world node old → IsBound honest words world lists → Does honest words call old after
      → Meets world node old call → Leads world node after
  leads awaits (Accepts peer session) world lists node old after runs bound does meets =
      let is = accepting world node session peer old after runs does in
      one world _ lists node after bound (Opens node peer is.0) (λ other off. off) is.1
  leads awaits (Ends session last) world lists node old after runs bound does meets =
      let serves = runs.clients session last does.was in
      let is = ending world node session last old after runs does serves in
      one world _ lists node after bound (EndsBy serves.number is.0)
      (λ other off same. off
      (sym (session_here world serves.number node session serves.link is.0.of serves.link_is serves.has) ∙ same)) is.1
  leads awaits (CutsOff session last why) world lists node old after runs bound does meets =
      let serves = runs.clients session last does.1.was in
      let is = cutting_off world node session last why old after runs does.0 does.1 serves in
      one world _ lists node after bound
      (Closes serves.number (one_line 421 (old.node.config.host ++ text_of why)) is.0)
      (λ other off same. off
      (sym (session_here world serves.number node session serves.link is.0.ends.of serves.link_is serves.has) ∙ same))
      is.1
  leads awaits (Forgets session) world lists node old after runs bound does meets =
      none world node after (forgetting honest words world lists node session old after runs bound does)
  leads awaits (Writes session count) world lists node old after runs bound does meets =
      none world node after (writing_out world node session count old after runs does)
  leads awaits (HearsOne session octets now heard) world lists node old after runs bound does meets =
      let wrote = meets.1 in
      let is = hearing_one honest words world lists node session octets heard old does.0 runs bound wrote
      (subst (λ t. HearSays honest words old does.0 t session octets heard) meets.0 does.1) in
      subst (λ r. Leads world node r) (sym does.2)
      (one world is.0 lists node (told_of heard.change does.0) bound
      (HearsBy wrote.serves.number (length octets) is.1)
      (λ other off same. off
      (sym (session_here world wrote.serves.number node session wrote.serves.link is.1.of wrote.serves.link_is
      wrote.serves.has) ∙ same)) is.2)
  leads awaits (Hears pieces replies now group) world lists node old after runs bound does meets =
      let is = hearing_all honest words awaits world lists node pieces replies group old after runs bound meets.1 meets.2
      meets.3 meets.4 (subst (λ t. HearsGroup honest words t pieces replies old after group) meets.0 does) in
      one world is.1 lists node after bound (HearsAll node is.0 is.2) (λ other off. off) is.3
  leads awaits (Starts message hop now started) world lists node old after runs bound does meets =
      let opens = meets.1 in
      let host : opens.host ≡ runs.host = same_Some opens.host runs.host (sym opens.host_at ∙ runs.host_at) in
      let is = starting honest words world node message opens.number hop started old after runs opens.blank opens.links
      (subst (λ t. StartSays honest words old after message hop t started) meets.0 does) opens.is_blank
      (subst (λ (h : Host D). LeadsToHop world h hop opens.blank) host opens.leads) opens.put in
      let its = begun_attempt world node old after runs message hop started opens.number in
      one world _ lists node after bound (StartsBy opens.number message hop is.0)
      (λ other off same. off
      (ap (λ (a : Attempt). a.node)
      (same_Some its is.0.attempt (sym (put_push world.attempts its).at ∙ is.0.attempts.at)) ∙ same)) is.1
  leads awaits (Reads slot octets now answered) world lists node old after runs bound does meets =
      let unread = meets.2 in
      let is = replying honest words world lists node slot octets answered old does.0 runs bound unread.reaches meets.1
      unread.unread (subst (λ t. ReplySays honest words old does.0 t slot octets answered) meets.0 does.1) in
      subst (λ r. Leads world node r) (sym does.2)
      (one world is.0 lists node (told_of answered.change does.0) bound
      (ReadsBy unread.reaches.attempt.link (length octets) is.1)
      (λ other off same. off (sym (attempt_here world node slot [] unread.reaches is.1.of) ∙ same)) is.2)
  leads awaits (WritesToHop slot count) world lists node old after runs bound does meets =
      none world node after (writing_to_hops world node slot count old after runs does)
  leads awaits (Loses slot now change) world lists node old after runs bound does meets =
      let was = some_slot (slot_at old.hops slot) does.1.was in
      let reaches = runs.hops slot was.0 was.1 in
      let is = losing honest words world lists node slot change was.0 old does.0 runs bound reaches
      (subst (λ t. LoseSays honest words old does.0 t slot change) meets does.1) in
      subst (λ r. Leads world node r) (sym does.2)
      (one world _ lists node (untold does.0) bound (LosesBy reaches.attempt.link change is.event)
      (λ other off same. off (sym (attempt_here world node slot was.0 reaches is.event.of) ∙ same)) is.runs_on)
  leads awaits (Drops slot) world lists node old after runs bound does meets =
      let was = some_slot (slot_at old.hops slot) does.was in
      let reaches = runs.hops slot was.0 was.1 in
      let is = dropping world node slot was.0 old after runs reaches does in
      one world _ lists node after bound (DropsBy reaches.attempt.link is.0)
      (λ other off same. off (sym (attempt_here world node slot was.0 reaches is.0.of) ∙ same)) is.1
  leads awaits (GivesUp message now change) world lists node old after runs bound does meets =
      let is = giving_up honest words world lists node message change old does.0 runs bound
      (subst (λ t. GiveUpSays honest words old does.0 t message change) meets does.1) in
      subst (λ r. Leads world node r) (sym does.2)
      (one world _ lists node (untold does.0) bound (GivesUpBy NoHop node message change is.event) (λ other off. off)
      is.runs_on)
  leads awaits (Withdraws message places withdrawal now change) world lists node old after runs bound does meets =
      let is = withdrawing honest words world lists node message change withdrawal places old does.0 runs bound
      (subst (λ t. WithdrawSays honest words old does.0 withdrawal places t message change) meets does.1) in
      subst (λ r. Leads world node r) (sym does.2)
      (one world _ lists node (untold does.0) bound
      (GivesUpBy (Postmaster withdrawal places) node message change is.event) (λ other off. off) is.runs_on)
  leads awaits Compacts world lists node old after runs bound does meets =
      let is = compacting honest words world node old after runs does in
      one world _ lists node after bound (GoesOn node is.0.stays) (λ other off. off) is.1
  leads awaits Trims world lists node old after runs bound does meets =
      let is = trimming honest words world node old after runs does in
      one world _ lists node after bound (GoesOn node is.0) (λ other off. off) is.1
  leads awaits IsRefused world lists node old after runs bound does meets =
      none world node after (subst (λ r. RunsAt world node r) (sym does) runs)

  -- Events keep the promise, with what the postmaster has asked for by them too.
  pub kept_on : honest → PromiseIsKept honest words → (count : ℕ) (old new : World D) (asked more : List Withdrawing)
      → IsKept honest words old asked → HappenAsking honest words more count old new
      → IsKept honest words new (more ++ asked)
  kept_on is keeps count old new asked more kept happened =
      let later = keeps is count old new kept.lists asked kept.bound kept.promise.once kept.promise.linked
      kept.promise.sources happened.run in
      record {
        lists = later.0;
        bound = later.1;
        promise = subst (λ l. KeepsPromise honest words new later.0 l) (happened.asks asked) later.2;
      }

  -- A relay that was left alone runs on, and the promise is kept.
  stands_on : honest → PromiseIsKept honest words → (world later : World D) (node : ℕ) (asked more : List Withdrawing)
      (relay : RelayState D) → Stands honest words world node asked relay
      → Elsewhere honest words node more world later → Stands honest words later node (more ++ asked) relay
  stands_on is keeps world later node asked more relay stands elsewhere = record {
    runs = alone_runs_on world later node relay stands.runs elsewhere.alone;
    kept = kept_on is keeps elsewhere.count world later asked more stands.kept elsewhere.happened;
  }

  pub calls_keep : NoneIsAwaited honest words → PromiseIsKept honest words → CallsKeepThePromise honest words
  calls_keep awaits keeps is [] world node asked old new stands same =
      (same, λ later more elsewhere. stands_on is keeps world later node asked more old stands elsewhere)
  calls_keep awaits keeps is (call ∷ calls) world node asked old new stands does = (
    does.0,
    does.1,
    λ later more elsewhere.
        let there = stands_on is keeps world later node asked more old stands elsewhere in (
          there,
          λ meets.
              let led = leads awaits call later there.kept.lists node old does.0 there.runs there.kept.bound does.1
              meets in
              let next : Stands honest words led.next node (led.own ++ (more ++ asked)) does.0 = record {
                runs = led.runs;
                kept = kept_on is keeps led.event.count later led.next (more ++ asked) led.own there.kept
                    led.event.happened;
              } in (
                led.next,
                led.own,
                led.event,
                next,
                calls_keep awaits keeps is calls led.next node (led.own ++ (more ++ asked)) does.0 new next does.2,
              ),
        ),
  )
