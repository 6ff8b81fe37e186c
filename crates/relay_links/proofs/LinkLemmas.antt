-- What a link has done, call by call.
use Rattle.std.proofs.Common.{◌≡◌, ◌<◌, ◌^◌, inl, inr, ℕ, suc, ◌+◌, List, [], ◌∷◌, ◌++◌, length, Bool, true, false, Option, None, Some, refl, sym, ap, ◌∙◌, subst, append_assoc, append-nil, take, drop, take-append-drop, arith}
use Rattle.std.proofs.lemmas.List.{length-append}
use Rattle.std.specs.List.{AllByRecursion}
use Rattle.std.specs.Io.KnownBytes.{Appends, Consumes, IsAtEnd, Keeps as Known}
use Rattle.std.proofs.KnownBytes.{Appends-trans, Consumes-nil, Consumes-trans, Consumes-kept}
use Rattle.relay_disk.specs.Device.{DiskWords}
use Rattle.relay_server.specs.declared.offer.Answer.{Answer}
use Rattle.relay_server.specs.declared.offer.Answer.TheVariants.{Queued}
use Rattle.relay_server.specs.Dialogue.{IsDialogue, Offered, Said, unread_after}
use Rattle.relay_server.specs.Setup.{setup_for}
use Rattle.relay_server.proofs.Theorems.{what_stands_is_a_dialogue}
use Rattle.relay_routes.specs.declared.config.Config.{Config}
use Rattle.relay_book.specs.declared.change.Accept.{Accept}
use Rattle.relay_book.specs.declared.change.Change.{Change}
use Rattle.relay_book.specs.declared.change.Change.TheVariants as change
use Rattle.relay_records.specs.declared.fault.NodeFault.{NodeFault}
use Rattle.relay_records.specs.declared.fault.NodeFault.TheVariants as node_fault
use Rattle.relay_records.specs.Records.{Keeps, Kept}
use Rattle.relay_node.specs.declared.receive.Received.{Received}
use Rattle.relay_node.specs.Acceptance.{Acceptance, acceptance_by}
use Rattle.relay_node.specs.Node.{CutsTalk, Makes, Receives, RefusesToReceive, SeatHasSaid, NodeState, greeted_by, SessionGoesOn}
use Rattle.relay_node.specs.Room.{AnswersMore, HasRoom, Overfills, refusals, size_with}
use Rattle.relay_slots.specs.Slots.{OthersStay}
use Rattle.relay_links.specs.declared.fault.LinkFault.{LinkFault}
use Rattle.relay_links.specs.declared.fault.LinkFault.TheVariants.{Input, Output, NoMemory, Full, Device}
use Rattle.relay_links.specs.Accepted.{Accepts}
use Rattle.relay_links.specs.Link.{LinkGoesOn, HasBegun, HasSaid, HasServed, HasTaken, HaveCome, Leaves, Start, link_fault_of, rule, start_at}
use Rattle.relay_links.proofs.AcceptedLemmas.{come_on, none_come, one_comes}

-- a read that gave nothing
pub read_nothing : (left new_left : Option (List ℕ)) → Known left new_left → Consumes left new_left []
read_nothing left new_left kept = Consumes-kept left left new_left [] (Consumes-nil left) kept

pub read_none : (left new_left : Option (List ℕ)) (buffer : List ℕ) (count : ℕ) → Consumes left new_left (take count buffer) → count ≡ 0 → Consumes left new_left []
read_none left new_left buffer count read none = subst (λ n. Consumes left new_left (take n buffer)) none read

-- after a list and one list more
next_number : (before added : List Change) → length (before ++ added) + 1 ≡ suc (length before + length added)
next_number before added = ap (λ n. n + 1) (length-append before added) ∙ plus_one (length before + length added)
  where
    plus_one : (n : ℕ) → n + 1 ≡ suc n
    plus_one n = omega arith

-- octets that wait are those that are used, and those after them
used_first : (said waiting : List ℕ) (used : ℕ) → said ++ waiting ≡ (said ++ take used waiting) ++ drop used waiting
used_first said waiting used = ap (λ l. said ++ l) (sym (take-append-drop used waiting)) ∙ sym (append_assoc said (take used waiting) (drop used waiting))

-- the other sessions, the configuration and the attempts stay from call to call
abbrev pub RestStays : {D : Type 0} → NodeState D → NodeState D → ℕ → Type 0
RestStays old new number = OthersStay old.seats new.seats number × (new.config ≡ old.config) × (new.attempts ≡ old.attempts)

pub others_stay : {D : Type 0} (old mid new : NodeState D) (number : ℕ) → RestStays old mid number → RestStays mid new number → RestStays old new number
others_stay old mid new number before now = (λ other differs. now.0 other differs ∙ before.0 other differs, now.1 ∙ before.1, now.2 ∙ before.2)

module _ {D : Type 0} (honest : Type 0) (words : DiskWords D) (start : Start) (at number : ℕ) where
  -- what a session has said is a dialogue
  dialogue_at : (node : NodeState D) (said : Said) → SeatHasSaid start.config node.seats number start.peer said → IsDialogue (setup_for start.config start.peer) said
  dialogue_at node said s = what_stands_is_a_dialogue (setup_for start.config start.peer) s.seat.session.value said s.says.stands

  -- of a fault that isn't the device's the node keeps what it has taken; it is full where changes have no numbers any more
  as_taken : (fault : LinkFault) (said : Said) (added : List Change) (records : Kept D) → (fault ≡ Device → ⊥) → (fault ≡ Full → 2 ^ 62 < records.queue.next) → HasTaken honest words start at said added records → Leaves honest words start at fault said added records
  as_taken Input said added records other full taken = taken
  as_taken Output said added records other full taken = taken
  as_taken NoMemory said added records other full taken = taken
  as_taken Full said added records other full taken = record { taken = taken; number = full refl }
  as_taken Device said added records other full taken = absurd (other refl)

  -- a fault after what was said, of a node whose records are the same
  pub breaks : (left held : Option (List ℕ)) (waiting : List ℕ) (node : NodeState D) (records : Kept D) (fault : LinkFault) → HasSaid honest words start at number left held waiting node → records ≡ node.records → (fault ≡ Device → ⊥) → (fault ≡ Full → 2 ^ 62 < records.queue.next) → HasBegun honest words start at left held records fault
  breaks left held waiting node records fault h same other full = record {
    said = h.said;
    dialogue = dialogue_at node h.said h.says;
    unread = waiting;
    read = h.read;
    front = h.said.output;
    unwritten = [];
    output = sym (append-nil h.said.output);
    whole = λ _. refl;
    written = h.written;
    added = h.added;
    leaves = as_taken fault h.said h.added records other full (subst (HasTaken honest words start at h.said h.added) (sym same) h.taken);
  }

  -- octets were read, which wait
  pub reads : (left new_left held : Option (List ℕ)) (octets : List ℕ) (node : NodeState D) → HasSaid honest words start at number left held [] node → Consumes left new_left octets → HasSaid honest words start at number new_left held octets node
  reads left new_left held octets node h read = record {
    said = h.said;
    config = h.config;
    says = h.says;
    read =
        subst (Consumes start.left new_left) (ap (λ l. l ++ octets) (append-nil h.said.input))
        (Consumes-trans start.left left new_left (h.said.input ++ []) octets h.read read);
    written = h.written;
    added = h.added;
    taken = h.taken;
  }

  -- the input has come to its end
  pub ends : (left new_left held : Option (List ℕ)) (node : NodeState D) → HasSaid honest words start at number left held [] node → Consumes left new_left [] → IsAtEnd new_left → HasServed honest words start at new_left held node.records
  ends left new_left held node h read end = record {
    said = h.said;
    dialogue = dialogue_at node h.said h.says;
    read =
        subst (Consumes start.left new_left) (append-nil (h.said.input ++ []) ∙ append-nil h.said.input)
        (Consumes-trans start.left left new_left (h.said.input ++ []) [] h.read read);
    written = h.written;
    ended = inr end;
    added = h.added;
    taken = h.taken;
  }

  -- what came of offers, and then of these
  come : (said later : Said) (refused last : List Offered) (given : List Answer) (added gained : List Change) (size new_size : ℕ) → AnswersMore said later refused last given → HaveCome honest words start at said added size → Accepts (rule honest words start at) (length start.changes + length added) size (refusals refused ++ given) (refused ++ last) gained new_size → HaveCome honest words start at later (added ++ gained) new_size
  come said later refused last given added gained size new_size more before now =
      let by = rule honest words start at in
      let count = length start.changes in
      let joined = come_on by count start.size size new_size said.answers (refusals refused ++ given) said.offers (refused ++ last) added gained before now in
      let answered = subst (λ (l : List Offered). Accepts by count start.size (said.answers ++ (refusals refused ++ given)) l (added ++ gained) new_size) (sym more.offers) joined in
      subst (λ (l : List Answer). Accepts by count start.size l later.offers (added ++ gained) new_size) (sym more.answers) answered

  -- how the next change is accepted
  next_is : (added : List Change) → acceptance_by start.config start.peer (length (start.changes ++ added) + 1) at ≡ acceptance_by start.config start.peer (suc (length start.changes + length added)) at
  next_is added = ap (λ n. acceptance_by start.config start.peer n at) (next_number start.changes added)

  none_fitted : (added : List Change) (size : ℕ) (refused : List Offered) → AllByRecursion (Overfills (acceptance_by start.config start.peer (length (start.changes ++ added) + 1) at) start.config.spool_limit size) refused → AllByRecursion (Overfills (acceptance_by start.config start.peer (suc (length start.changes + length added)) at) start.config.spool_limit size) refused
  none_fitted added size refused none = subst (λ (acceptance : Acceptance). AllByRecursion (Overfills acceptance start.config.spool_limit size) refused) (next_is added) none

  -- one more change has come, of an offer that was queued
  one_has_come : (said later : Said) (refused : List Offered) (offer : Offered) (given : ℕ) (added : List Change) (accept : Accept) (size : ℕ) → given ≡ length (start.changes ++ added) + 1 → AnswersMore said later refused (offer ∷ []) (Queued given ∷ []) → AllByRecursion (Overfills (acceptance_by start.config start.peer (length (start.changes ++ added) + 1) at) start.config.spool_limit size) refused → HasRoom (acceptance_by start.config start.peer (length (start.changes ++ added) + 1) at) start.config.spool_limit size offer accept → HaveCome honest words start at said added size → HaveCome honest words start at later (added ++ (change.Accept accept ∷ [])) (size_with size accept)
  one_has_come said later refused offer given added accept size is more none fits before =
      come said later refused (offer ∷ []) (Queued given ∷ []) added (change.Accept accept ∷ []) size (size_with size accept) more before
      (one_comes (rule honest words start at) (length start.changes + length added) size (size_with size accept) refused given offer (change.Accept accept) (none_fitted added size refused none) (is ∙ next_number start.changes added) (record {
        accept = accept;
        change_is = refl;
        fits = subst (λ n. HasRoom (acceptance_by start.config start.peer n at) start.config.spool_limit size offer accept) (sym is) fits;
        size_is = refl;
      }))

  -- what a call made stands after what was taken before
  takes : (said later : Said) (refused : List Offered) (used : ℕ) (old new : Kept D) (made : Option ℕ) (added : List Change) → AllByRecursion (Overfills (acceptance_by start.config start.peer (length (start.changes ++ added) + 1) at) start.config.spool_limit old.spool.size) refused → Makes honest words start.config (start.changes ++ added) start.peer at said later refused used old new made → HasTaken honest words start at said added old → (gained : List Change) × HasTaken honest words start at later gained new
  takes said later refused used old new None added none (more, same) before = (
    added,
    subst (HasTaken honest words start at later added) (sym same) (record {
      come =
          subst (λ (l : List Change). HaveCome honest words start at later l old.spool.size) (append-nil added)
          (come said later refused [] [] added [] old.spool.size old.spool.size more before.come (none_come (rule honest words start at) (length start.changes + length added) old.spool.size refused (none_fitted added old.spool.size refused none)));
      keeps = before.keeps;
      note = before.note;
    }),
  )
  takes said later refused used old new (Some given) added none queues before = (
    added ++ (change.Accept queues.accept ∷ []),
    record {
      come =
          subst (HaveCome honest words start at later (added ++ (change.Accept queues.accept ∷ []))) (sym queues.size)
          (one_has_come said later refused queues.offer given added queues.accept old.spool.size queues.number_is queues.answers none queues.fits before.come);
      keeps = subst (Keeps honest words new) (append_assoc start.changes added (change.Accept queues.accept ∷ [])) queues.adds.keeps;
      note = inr (record { earlier = added; last = change.Accept queues.accept; added_are = refl; used = used; is = queues.adds.noted });
    },
  )

  -- what a call did with octets that waited, and what was written
  module _ (left held new_held : Option (List ℕ)) (waiting : List ℕ) (old new : NodeState D) (received : Received) (h : HasSaid honest words start at number left held waiting old) (r : Receives honest words start.config (start.changes ++ h.added) start.peer at number h.said waiting old new received) where
    gained : (gained : List Change) × HasTaken honest words start at r.later gained new.records
    gained = takes h.said r.later r.talks.refused received.used old.records new.records received.change h.added r.talks.no_room r.talks.makes h.taken

    read_later : Consumes start.left left (r.later.input ++ drop received.used waiting)
    read_later = subst (Consumes start.left left) (used_first h.said.input waiting received.used ∙ ap (λ l. l ++ drop received.used waiting) (sym r.talks.input)) h.read

    written_later : Appends held new_held received.out.items → Appends start.held new_held r.later.output
    written_later wrote = subst (Appends start.held new_held) (sym r.talks.output) (Appends-trans start.held held new_held h.said.output received.out.items h.written wrote)

    -- the session goes on
    pub goes_on : new.config ≡ start.config → received.close ≡ false → Appends held new_held received.out.items → HasSaid honest words start at number left new_held (drop received.used waiting) new
    goes_on config going wrote = record {
      said = r.later;
      config = config;
      says = rw going at r.goes_on;
      read = read_later;
      written = written_later wrote;
      added = gained.0;
      taken = gained.1;
    }

    -- the session has closed; octets after the close belong to the rest of the dialogue
    pub closes : received.close ≡ true → Appends held new_held received.out.items → HasServed honest words start at left new_held new.records
    closes closed wrote =
        let gone = rw closed at r.goes_on in
        let unread = gone.1.unread (drop received.used waiting) in
        record {
          said = unread_after r.later (drop received.used waiting);
          dialogue = unread.0;
          read = read_later;
          written = written_later wrote;
          ended = inl unread.1;
          added = gained.0;
          taken = record { come = gained.1.come; keeps = gained.1.keeps; note = gained.1.note };
        }

    closed_or_open : (is_closed : Bool) → SessionGoesOn start.config new.seats number start.peer r.later is_closed → IsDialogue (setup_for start.config start.peer) r.later
    closed_or_open true gone = gone.1.dialogue
    closed_or_open false says = dialogue_at new r.later says

    -- the replies were written in part
    pub cut_off : (front rest : List ℕ) → received.out.items ≡ front ++ rest → Appends held new_held front → HasBegun honest words start at left new_held new.records Output
    cut_off front rest parts wrote = record {
      said = r.later;
      dialogue = closed_or_open received.close r.goes_on;
      unread = drop received.used waiting;
      read = read_later;
      front = h.said.output ++ front;
      unwritten = rest;
      output = r.talks.output ∙ ap (λ l. h.said.output ++ l) parts ∙ sym (append_assoc h.said.output front rest);
      whole = λ e. cc;
      written = Appends-trans start.held held new_held h.said.output front h.written wrote;
      added = gained.0;
      leaves = gained.1;
    }

  -- the device failed while a change was added
  pub halts : (left held : Option (List ℕ)) (waiting : List ℕ) (old : NodeState D) (new : Kept D) → (h : HasSaid honest words start at number left held waiting old) → CutsTalk honest words start.config (start.changes ++ h.added) start.peer at h.said waiting old.records new → HasBegun honest words start at left held new Device
  halts left held waiting old new h c = record {
    said = c.later;
    dialogue = c.dialogue;
    unread = drop c.used waiting;
    read = subst (Consumes start.left left) (used_first h.said.input waiting c.used ∙ ap (λ l. l ++ drop c.used waiting) (sym c.input)) h.read;
    front = h.said.output;
    unwritten = c.unwritten;
    output = c.output;
    whole = λ e. cc;
    written = h.written;
    added = h.added ++ (change.Accept c.accept ∷ []);
    leaves = record {
      size = size_with old.records.spool.size c.accept;
      come = one_has_come h.said c.later c.refused c.offer (length (start.changes ++ h.added) + 1) h.added c.accept old.records.spool.size refl c.answers c.no_room c.fits h.taken.come;
      note = record { earlier = h.added; last = change.Accept c.accept; added_are = refl; used = c.used; is = c.cuts.noted };
      halted = c.cuts.halted;
    };
  }

  -- what the session has said, by the node's own configuration
  pub says_here : (left held : Option (List ℕ)) (waiting : List ℕ) (node : NodeState D) (h : HasSaid honest words start at number left held waiting node) → SeatHasSaid node.config node.seats number start.peer h.said
  says_here left held waiting node h = subst (λ (config : Config). SeatHasSaid config node.seats number start.peer h.said) (sym h.config) h.says

  -- the node has refused
  pub refuses : (left held : Option (List ℕ)) (waiting : List ℕ) (old new : NodeState D) (fault : NodeFault) → (h : HasSaid honest words start at number left held waiting old) → RefusesToReceive words number old new fault
      → (fault ≡ node_fault.Stopped → CutsTalk honest words old.config (start.changes ++ h.added) start.peer at h.said waiting old.records new.records) → HasBegun honest words start at left held new.records (link_fault_of fault)
  refuses left held waiting old new node_fault.NoMemory h gone cut = breaks left held waiting old new.records NoMemory h gone.records (λ e. absurd cc) (λ e. absurd cc)
  refuses left held waiting old new node_fault.Stopped h stopped cut =
      halts left held waiting old new.records h (subst (λ (config : Config). CutsTalk honest words config (start.changes ++ h.added) start.peer at h.said waiting old.records new.records) h.config (cut refl))
  refuses left held waiting old new node_fault.Unknown h same cut = breaks left held waiting old new.records Input h (ap (λ (node : NodeState D). node.records) same) (λ e. absurd cc) (λ e. absurd cc)
  refuses left held waiting old new node_fault.TooMany h never cut = absurd never
  refuses left held waiting old new node_fault.NotDue h never cut = absurd never
  refuses left held waiting old new node_fault.Busy h never cut = absurd never
  refuses left held waiting old new node_fault.NoSecond h never cut = absurd never
  refuses left held waiting old new (node_fault.Open cause) h never cut = absurd never
  refuses left held waiting old new node_fault.Full h gone cut =
      breaks left held waiting old new.records Full h gone.0.records (λ e. absurd cc) (λ _. subst (λ (records : Kept D). 2 ^ 62 < records.queue.next) (sym gone.0.records) gone.1)

  -- the replies to what was received are written
  pub received_on : (left held new_held : Option (List ℕ)) (waiting : List ℕ) (old new : NodeState D) (received : Received) (h : HasSaid honest words start at number left held waiting old) → Receives honest words old.config (start.changes ++ h.added) start.peer at number h.said waiting old new received
      → new.config ≡ old.config → Appends held new_held received.out.items → LinkGoesOn honest words start at number left new_held (drop received.used waiting) new received.close
  received_on left held new_held waiting old new received h r same wrote = by_close received.close refl
    where
      here : Receives honest words start.config (start.changes ++ h.added) start.peer at number h.said waiting old new received
      here = subst (λ (config : Config). Receives honest words config (start.changes ++ h.added) start.peer at number h.said waiting old new received) h.config r

      by_close : (is_closed : Bool) → received.close ≡ is_closed → LinkGoesOn honest words start at number left new_held (drop received.used waiting) new is_closed
      by_close true e = closes left held new_held waiting old new received h here e wrote
      by_close false e = goes_on left held new_held waiting old new received h here (same ∙ h.config) e wrote

  -- the replies to what was received are written in part
  pub received_part : (left held new_held : Option (List ℕ)) (waiting : List ℕ) (old new : NodeState D) (received : Received) (h : HasSaid honest words start at number left held waiting old) → Receives honest words old.config (start.changes ++ h.added) start.peer at number h.said waiting old new received
      → (front rest : List ℕ) → received.out.items ≡ front ++ rest → Appends held new_held front → HasBegun honest words start at left new_held new.records Output
  received_part left held new_held waiting old new received h r front rest parts wrote =
      cut_off left held new_held waiting old new received h (subst (λ (config : Config). Receives honest words config (start.changes ++ h.added) start.peer at number h.said waiting old new received) h.config r) front rest parts wrote

module _ {D : Type 0} (honest : Type 0) (words : DiskWords D) (at number : ℕ) (left held new_held : Option (List ℕ)) (peer : List ℕ) (node : NodeState D) (changes : List Change) (out : List ℕ) where
  -- before the first read nothing was taken
  taken_nothing : Keeps honest words node.records changes → HasTaken honest words (start_at left held peer node changes) at (greeted_by out) [] node.records
  taken_nothing keeps = record {
    come = refl;
    keeps = subst (Keeps honest words node.records) (sym (append-nil changes)) keeps;
    note = inl (refl, refl);
  }

  -- the greeting was written
  pub started : Keeps honest words node.records changes → SeatHasSaid node.config node.seats number peer (greeted_by out) → Appends held new_held out → HasSaid honest words (start_at left held peer node changes) at number left new_held [] node
  started keeps says wrote = record {
    said = greeted_by out;
    config = refl;
    says = says;
    read = Consumes-nil left;
    written = wrote;
    added = [];
    taken = taken_nothing keeps;
  }

  -- the greeting was written in part
  pub begun : Keeps honest words node.records changes → SeatHasSaid node.config node.seats number peer (greeted_by out) → (front rest : List ℕ) → out ≡ front ++ rest → Appends held new_held front → HasBegun honest words (start_at left held peer node changes) at left new_held node.records Output
  begun keeps says front rest parts wrote = record {
    said = greeted_by out;
    dialogue = what_stands_is_a_dialogue (setup_for node.config peer) says.seat.session.value (greeted_by out) says.says.stands;
    unread = [];
    read = Consumes-nil left;
    front = front;
    unwritten = rest;
    output = parts;
    whole = λ e. cc;
    written = wrote;
    added = [];
    leaves = taken_nothing keeps;
  }
