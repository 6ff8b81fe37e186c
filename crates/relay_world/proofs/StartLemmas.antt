-- An attempt that begins keeps a world bound.
use Rattle.std.proofs.Common.{◌⊎◌, inl, inr, ◌≡◌, ◌≢◌, ◌≤◌, ◌<◌, ◌+◌, ℕ, suc, Bool, true, false, List, [], ◌∷◌, ◌++◌, length, take, Option, None, Some, refl, sym, subst, ap, ◌∙◌, cond, arith}
use Rattle.std.specs.Prelude.{slice_get}
use Rattle.std.specs.List.{AllByRecursion}
use Rattle.std.proofs.lemmas.Bool.{false≢true}
use Rattle.std.proofs.lemmas.List.{append-nil}
use Rattle.std.proofs.lemmas.Option.{none-some, same_Some, slice_get_within}
use Rattle.relay_disk.specs.Device.{DiskWords}
use Rattle.relay_slots.specs.Slots.{slot_at}
use Rattle.relay_server.specs.Dialogue.{Said}
use Rattle.relay_book.specs.declared.change.Accept.{Accept}
use Rattle.relay_book.specs.declared.change.Change.{Change}
use Rattle.std.specs.Option.{is_some}
use Rattle.relay_book.specs.declared.message.Place.{Place}
use Rattle.relay_attempts.specs.Hops.{due_places_in, is_due_for, places_where}
use Rattle.relay_book.specs.Marks.{message_at}
use Rattle.relay_book.specs.Marks.{IsQueuedAs}
use Rattle.relay_book.specs.Queue.{message_of, queue_of}
use Rattle.relay_book.specs.Record.{IsAccept}
use Rattle.relay_book.proofs.Theorems.{fold_knows, queued_may_be_stored}
use Rattle.relay_records.specs.Records.{Keeps}
use Rattle.relay_routes.specs.declared.config.Config.{Config}
use Rattle.relay_client.specs.Attempt.{Follows}
use Rattle.relay_course.specs.Course.{IsCourse}
use Rattle.relay_course.specs.Laws.{AreWithin}
use Rattle.relay_client.proofs.Theorems.{followed_is_course}
use Rattle.relay_node.specs.Attempts.{Begins, Tells}
use Rattle.relay_node.specs.Node.{SeatHasSaid, NodeState}
use Rattle.relay_world.specs.declared.attempt.Attempt.{Attempt}
use Rattle.relay_world.specs.declared.attempt.Fate.{Fate}
use Rattle.relay_world.specs.declared.attempt.Fate.TheVariants.{Running}
use Rattle.relay_world.specs.declared.link.Link.{Link}
use Rattle.relay_world.specs.declared.link.ServerEnd.{ServerEnd}
use Rattle.relay_world.specs.Bound.{HasFate, HasLink, HasSession, HasSlot, HostKeeps, IsBound, IsServed, IsTried, NodeKeeps, PassesOn, ReadsWithin, SaysThere, StandsAt, link_of, told_by}
use Rattle.relay_world.specs.Ledger.{accepts_on, steps_in}
use Rattle.relay_world.specs.Steps.{StartingKeeps}
use Rattle.relay_world.specs.World.{Host, Up, World, link_at}
use Rattle.relay_world.proofs.FrameLemmas.{TellsOn}
use Rattle.relay_world.proofs.AttemptLemmas.{still_tells}
use Rattle.relay_world.proofs.MoveLemmas.{link_cases, Joins, Moves, moved_keeps, put_cases, still_served}
use Rattle.relay_world.proofs.UndecidedLemmas.{not_broken, up_not_down}
use Rattle.relay_world.proofs.OpenLemmas.{lines_within, number_within, list_there, node_kept, same_Up}

if_some_few : (is : Bool) (n count : ℕ) (rest : List ℕ) → length rest ≤ count → length (cond is (n ∷ []) [] ++ rest) ≤ suc count
if_some_few true n count rest few = omega (arith, few)
if_some_few false n count rest few = omega (arith, few)

places_few : (test : ℕ → Place → Bool) (n : ℕ) (places : List Place) → length (places_where test n places) ≤ length places
places_few test n [] = omega arith
places_few test n (place ∷ places) =
    if_some_few (test n place) n (length places) (places_where test (suc n) places) (places_few test (suc n) places)

if_some_within : (is : Bool) (n many : ℕ) (rest : List ℕ) → n < many → AllByRecursion (λ place. place < many) rest
    → AllByRecursion (λ place. place < many) (cond is (n ∷ []) [] ++ rest)
if_some_within true n many rest few within = (few, within)
if_some_within false n many rest few within = within

places_within : (test : ℕ → Place → Bool) (n many : ℕ) (places : List Place) → n + length places ≤ many
    → AllByRecursion (λ place. place < many) (places_where test n places)
places_within test n many [] few = tt
places_within test n many (place ∷ places) few =
    if_some_within (test n place) n many (places_where test (suc n) places) (omega (arith, few))
    (places_within test (suc n) many places (omega (arith, few)))

-- the number of an attempt that runs
abbrev slot_of : Fate → ℕ
slot_of (Running slot) = slot
slot_of _ = 0

some_place : (places : List ℕ) → places ≢ [] → 1 ≤ length places
some_place [] some = absurd (some refl)
some_place (place ∷ places) some = omega arith

module _ {D : Type 0} (honest : Type 0) (words : DiskWords D) where
  -- the number of an attempt that runs is taken at its node
  slot_taken : (world : World D) (lists : List (List Change)) → IsBound honest words world lists → (node : ℕ) (host : Host D)
      (before : NodeState D) → slice_get world.hosts node ≡ Some host → host.state ≡ Up before
      → (number place : ℕ) (link : Link) (attempt : Attempt) (slot : ℕ) → link_at world.links number ≡ Some link
      → link.client ≡ Some place → slice_get world.attempts place ≡ Some attempt
      → HasSlot attempt node slot → slot_at before.attempts slot ≡ None → ⊥
  slot_taken world lists bound node host before at up number place link attempt slot is client attempt_at has free =
      let tried : IsTried world lists number link place = bound.clients number place link is client in
      let same_attempt : tried.attempt ≡ attempt = same_Some tried.attempt attempt (sym tried.attempt_at ∙ attempt_at) in
      let same_host : tried.host ≡ host =
      same_Some tried.host host (sym tried.stands.host_at
      ∙ ap (λ n. slice_get world.hosts n) (ap (λ (a : Attempt). a.node) same_attempt ∙ has.its_node) ∙ at) in
      let fate : HasFate tried.host tried.changes link tried.attempt tried.passes.accept tried.passes.output tried.passes.told
      tried.passes.verdicts (Running slot) =
      subst (λ f. HasFate tried.host tried.changes link tried.attempt tried.passes.accept tried.passes.output tried.passes.told
      tried.passes.verdicts f) (ap (λ (a : Attempt). a.fate) same_attempt ∙ has.runs) tried.passes.fate in
      let same_node : fate.2.0 ≡ before = same_Up fate.2.0 before (sym fate.2.1 ∙ ap (λ (h : Host D). h.state) same_host ∙ up) in
      false≢true (ap is_some (sym (ap (λ (n : NodeState D). slot_at n.attempts slot) same_node ∙ free) ∙ fate.2.2.at))

  pub starting_keeps : StartingKeeps honest words
  starting_keeps old new lists number message hop bound starts =
      moved_keeps honest words old new lists lists node number host moved changes changes link bound moves joins
    where
      node : ℕ
      node = starts.attempt.node

      host : Host D
      host = starts.host

      moved : Host D
      moved = record host { state = Up starts.after }

      blank : Link
      blank = starts.blank

      link : Link
      link = record blank { client = Some (length old.attempts) }

      listed : (list : List Change) × (slice_get lists node ≡ Some list)
      listed = list_there old.hosts lists node host bound.even starts.host_at

      changes : List Change
      changes = listed.0

      stands : StandsAt old lists node host changes
      stands = record { host_at = starts.host_at; list_at = listed.1 }

      kept : HostKeeps honest words host changes
      kept = bound.hosts node host changes stands

      its_node : NodeKeeps honest words host.config starts.before changes
      its_node = node_kept honest words host changes starts.before kept starts.up

      begins : Begins starts.before.config changes message hop old.clock starts.before.attempts starts.after.attempts starts.started
      begins = starts.begins changes its_node.keeps

      accept : Accept
      accept = begins.message.accept

      queued : message_of (queue_of changes).messages message ≡ Some begins.message
      queued = begins.found

      valid : IsAccept accept
      valid = queued_may_be_stored changes its_node.keeps.fitting message begins.message queued

      is_queued : IsQueuedAs changes message begins.message
      is_queued = fold_knows changes its_node.keeps.fitting message begins.message queued

      says : (session : Option ℕ) (peer : List ℕ) (said : Said) → SaysThere host session peer said → SaysThere moved session peer said
      says None peer said there = there
      says (Some session) peer said there = (
        starts.after,
        refl,
        subst (λ l. SeatHasSaid host.config l session peer said) (sym starts.seats)
            (subst (λ (n : NodeState D). SeatHasSaid host.config n.seats session peer said)
            (same_Up there.0 starts.before (sym there.1 ∙ starts.up)) there.2),
      )

      -- an attempt that runs isn't of the number that was free
      other_slot : (place : ℕ) (attempt : Attempt) (slot : ℕ) → slice_get old.attempts place ≡ Some attempt → HasSlot attempt node slot
          → slot ≢ starts.started.attempt
      other_slot place attempt slot at has same =
          let its_link : HasLink old.links place attempt = bound.attempts place attempt at in
          slot_taken old lists bound node host starts.before starts.host_at starts.up attempt.link place its_link.link attempt slot
          its_link.is_there its_link.client at has (ap (λ s. slot_at starts.before.attempts s) same ∙ begins.least.free)

      tells : (place : ℕ) (attempt : Attempt) (slot : ℕ) → slice_get old.attempts place ≡ Some attempt → attempt.link ≢ number
          → HasSlot attempt node slot → TellsOn host moved changes changes slot
      tells place attempt slot at off has told is = (
        starts.after,
        refl,
        still_tells host.config.host changes starts.before.attempts starts.after.attempts slot told
            (begins.others slot (other_slot place attempt slot at has))
            (subst (λ (n : NodeState D). Tells host.config.host changes n.attempts slot told)
            (same_Up is.0 starts.before (sym is.1 ∙ starts.up)) is.2),
      )

      old_attempt : (place : ℕ) (attempt : Attempt) → slice_get old.attempts place ≡ Some attempt
          → slice_get new.attempts place ≡ Some attempt
      old_attempt place attempt at =
          let within = slice_get_within old.attempts place attempt at in
          starts.attempts.others place (λ same. omega (arith, within, same)) ∙ at

      moves : Moves honest words old new lists lists node number host moved changes changes link
      moves = record {
        stands = stands;
        hosts = starts.hosts;
        even = bound.even ∙ sym starts.rest.2;
        list = record { at = listed.1; others = λ other off. refl };
        links = link_cases old.links new.links number link starts.links;
        stays = starts.links.others;
        attempts = λ place attempt at off. old_attempt place attempt at;
        config = refl;
        stay = λ k c is. is;
        messages = λ k a is. is;
        accepts = λ other off. ap (λ l. accepts_on other l) starts.rest.0;
        steps = ap (λ l. steps_in node l) starts.rest.0 ∙ bound.ledger node changes listed.1;
        other_steps = λ other off. ap (λ l. steps_in other l) starts.rest.0;
        lines = subst (λ l. AllByRecursion (λ line. link_of line ≤ length new.links) l) (sym starts.rest.0)
            (lines_within (length old.links) (length new.links) old.ledger starts.links.grows bound.lines);
        says = λ other its session off is has peer said there. says (Some session) peer said there;
        tells = tells;
        keeps = record {
          list = kept.list;
          holds = record {
            config_is = starts.config ∙ its_node.config_is;
            keeps = subst (λ r. Keeps honest words r changes) (sym starts.records) its_node.keeps;
          };
          reports = kept.reports;
        };
      }

      -- the server end of the link, where a node serves it
      served : (link_at old.links number ≡ Some blank)
          ⊎ ((number ≡ suc (length old.links)) × (blank.server ≡ None) × (blank.up_read ≡ 0))
          → (end : ServerEnd) → blank.server ≡ Some end → IsServed new lists number link end
      served (inl there) end serves =
          let still : IsServed new lists number blank end =
          still_served honest words old new lists lists node number host moved changes changes link bound moves number blank end there
          serves (ap (λ l. accepts_on number l) starts.rest.0)
          (λ same said says_it. says end.session end.peer said says_it) in
          record {
            host = still.host;
            changes = still.changes;
            stands = still.stands;
            serves = record {
              said = still.serves.said;
              dialogue = still.serves.dialogue;
              numbered = still.serves.numbered;
              answered = still.serves.answered;
              input = still.serves.input;
              closing = still.serves.closing;
              closes = still.serves.closes;
              closed = still.serves.closed;
              wrote = still.serves.wrote;
              whole = still.serves.whole;
              accepts = still.serves.accepts;
              stored = still.serves.stored;
              live = still.serves.live;
            };
          }
      served (inr fresh) end serves = absurd (none-some end (sym fresh.1 ∙ serves))

      reads : (link_at old.links number ≡ Some blank)
          ⊎ ((number ≡ suc (length old.links)) × (blank.server ≡ None) × (blank.up_read ≡ 0))
          → ReadsWithin link
      reads (inl there) =
          let within : ReadsWithin blank = bound.reads number blank there in record { up = within.up; down = within.down }
      reads (inr fresh) =
          let up = fresh.2 in
          let down = starts.is_blank.down_read in
          record { up = omega (arith, up); down = omega (arith, down) }

      apart : (link_at old.links number ≡ Some blank)
          ⊎ ((number ≡ suc (length old.links)) × (blank.server ≡ None) × (blank.up_read ≡ 0))
          → (other : ℕ) (its : Link) (at session : ℕ) → other ≢ number → link_at old.links other ≡ Some its
          → HasSession its at session → HasSession link at session → ⊥
      apart (inl there) other its at session off is mine yours =
          off (bound.sessions other number its blank at session is there mine (record {
            end = yours.end;
            serves = yours.serves;
            its_node = yours.its_node;
            its_session = yours.its_session;
          }))
      apart (inr fresh) other its at session off is mine yours = none-some yours.end (sym fresh.1 ∙ yours.serves)

      was_whole : (link_at old.links number ≡ Some blank)
          ⊎ ((number ≡ suc (length old.links)) × (blank.server ≡ None) × (blank.up_read ≡ 0))
          → (was : Link) → link_at old.links number ≡ Some was → was.broken ≡ true → ⊥
      was_whole (inl there) was at broken = not_broken old.links number blank was there starts.is_blank.whole at broken
      was_whole (inr fresh) was at broken =
          let few_links = number_within old.links number was at in
          let number_is = fresh.0 in
          omega (arith, few_links, number_is)

      tells_now : Tells host.config.host changes starts.after.attempts starts.started.attempt
          (told_by starts.attempt accept [] [])
      tells_now = record {
        run = begins.tells.run;
        at = begins.tells.at;
        its_message = begins.tells.its_message ∙ sym starts.is_attempt.1;
        its_hop = begins.tells.its_hop ∙ sym starts.is_attempt.2;
        its_places = begins.tells.its_places ∙ sym starts.is_attempt.3;
        accept = begins.tells.accept;
        accepted = ap (λ m. message_at changes m) starts.is_attempt.1 ∙ begins.tells.accepted;
        envelope_is = begins.tells.envelope_is;
        text_is = begins.tells.text_is;
        follows = subst (λ (c : Config). Follows begins.tells.run.client c.host accept.envelope accept.stored_text
            starts.attempt.places.items [] []) its_node.config_is
            (subst (λ l. Follows begins.tells.run.client starts.before.config.host accept.envelope accept.stored_text l [] [])
            (sym starts.is_attempt.3) begins.tells.follows);
      }

      nothing_read : take blank.down_read blank.down ≡ []
      nothing_read = ap (λ n. take n blank.down) starts.is_blank.down_read

      places_are : starts.attempt.places.items ≡ due_places_in starts.before.config.routes hop old.clock begins.message
      places_are = starts.is_attempt.3 ∙ begins.places

      few : length starts.attempt.places.items ≤ 100
      few =
          let same = ap (λ (l : List ℕ). length l) places_are in
          let below = places_few
          (is_due_for starts.before.config.routes begins.message.accept.envelope.recipients hop old.clock) 0
          begins.message.places in
          let each = is_queued.places in
          let most = valid.envelope.within in
          omega (arith, same, below, each, most)

      within : AreWithin starts.attempt.places.items accept.envelope.recipients
      within =
          let each = is_queued.places in
          subst (λ l. AreWithin l accept.envelope.recipients) (sym places_are)
          (places_within (is_due_for starts.before.config.routes begins.message.accept.envelope.recipients hop old.clock) 0
          (length accept.envelope.recipients) begins.message.places (omega (arith, each)))

      -- an attempt of before isn't on this link
      other_link : (link_at old.links number ≡ Some blank)
          ⊎ ((number ≡ suc (length old.links)) × (blank.server ≡ None) × (blank.up_read ≡ 0))
          → (place : ℕ) (attempt : Attempt) → HasLink old.links place attempt → attempt.link ≢ number
      other_link (inl there) place attempt has same =
          let same_link : has.link ≡ blank =
          same_Some has.link blank (sym has.is_there ∙ ap (λ n. link_at old.links n) same ∙ there) in
          none-some place (sym starts.is_blank.client ∙ sym (ap (λ (l : Link). l.client) same_link) ∙ has.client)
      other_link (inr fresh) place attempt has same =
          let few_links = number_within old.links attempt.link has.link has.is_there in
          let number_is = fresh.0 in
          omega (arith, few_links, number_is, same)

      passes : PassesOn moved changes link starts.attempt
      passes = record {
        accept = accept;
        accepted = ap (λ m. message_at changes m) starts.is_attempt.1 ∙ is_queued.accept_is;
        valid = valid;
        some = subst (λ (l : List ℕ). 1 ≤ length l) (sym starts.is_attempt.3)
            (some_place starts.started.places.items begins.some);
        few = few;
        within = within;
        told = false;
        output = [];
        verdicts = None;
        course = subst (λ l. IsCourse host.config.host accept.envelope accept.stored_text starts.attempt.places.items l false [] None)
            (sym nothing_read)
            (followed_is_course tells_now.run.client host.config.host accept.stored_text starts.attempt.places.items [] []
            accept.envelope tells_now.follows);
        wrote = ([], sym starts.is_blank.up ∙ sym (append-nil blank.up));
        whole = λ _. starts.is_blank.up;
        fate = subst (λ f. HasFate moved changes link starts.attempt accept [] false None f) (sym starts.is_attempt.5) (
          refl,
          refl,
          (
            starts.after,
            refl,
            subst (λ l. Tells host.config.host changes starts.after.attempts starts.started.attempt
                (told_by starts.attempt accept l [])) (sym nothing_read) tells_now,
          ),
        );
      }

      slots_now : (one other : ℕ) (attempt others : Attempt) (at slot : ℕ) → slice_get new.attempts one ≡ Some attempt
          → slice_get new.attempts other ≡ Some others → HasSlot attempt at slot → HasSlot others at slot → one ≡ other
      slots_now one other attempt others at slot first second mine yours =
          elim (put_cases old.attempts new.attempts (length old.attempts) starts.attempt starts.attempts one attempt first) [
            | inl here ↦
                elim (put_cases old.attempts new.attempts (length old.attempts) starts.attempt starts.attempts other others second) [
                  | inl also ↦ here.0 ∙ sym also.0
                  | inr there ↦ absurd (taken_twice attempt others at slot other here.1 there.1 mine yours)
                ]
            | inr there ↦
                elim (put_cases old.attempts new.attempts (length old.attempts) starts.attempt starts.attempts other others second) [
                  | inl here ↦ absurd (taken_twice others attempt at slot one here.1 there.1 yours mine)
                  | inr also ↦ bound.slots one other attempt others at slot there.1 also.1 mine yours
                ]
          ]
        where
          taken_twice : (mine its : Attempt) (at slot place : ℕ) → starts.attempt ≡ mine → slice_get old.attempts place ≡ Some its
              → HasSlot mine at slot → HasSlot its at slot → ⊥
          taken_twice mine its at slot place same there has also =
              let same_node : node ≡ at = ap (λ (a : Attempt). a.node) same ∙ has.its_node in
              let same_slot : starts.started.attempt ≡ slot =
              ap slot_of (sym starts.is_attempt.5 ∙ ap (λ (a : Attempt). a.fate) same ∙ has.runs) in
              other_slot place its slot there (record { its_node = also.its_node ∙ sym same_node; runs = also.runs })
              (sym same_slot)

      joins : Joins honest words old new lists lists node number host moved changes changes link
      joins = record {
        served = λ end serves. served starts.is_blank.there end serves;
        tried = λ place client. subst (λ p. IsTried new lists number link p)
            (same_Some (length old.attempts) place client) (record {
              attempt = starts.attempt;
              attempt_at = starts.attempts.at;
              its_link = starts.is_attempt.4;
              host = moved;
              changes = changes;
              stands = record { host_at = starts.hosts.at; list_at = listed.1 };
              passes = passes;
            });
        reads = reads starts.is_blank.there;
        slots = slots_now;
        settled = λ was there broken. absurd (was_whole starts.is_blank.there was there broken);
        may_be_in = λ disk undecided down. absurd (up_not_down starts.after disk (Some undecided) down);
        apart = apart starts.is_blank.there;
        attempts = λ place attempt at.
            elim (put_cases old.attempts new.attempts (length old.attempts) starts.attempt starts.attempts place attempt at) [
              | inl here ↦ record {
                link = link;
                is_there = ap (λ (a : Attempt). link_at new.links a.link) (sym here.1)
                    ∙ ap (λ n. link_at new.links n) starts.is_attempt.4 ∙ starts.links.at;
                client = ap (λ p. Some p) (sym here.0);
              }
              | inr there ↦
                  let has : HasLink old.links place attempt = bound.attempts place attempt there.1 in
                  record {
                    link = has.link;
                    is_there = starts.links.others attempt.link (other_link starts.is_blank.there place attempt has) ∙ has.is_there;
                    client = has.client;
                  }
            ];
      }
