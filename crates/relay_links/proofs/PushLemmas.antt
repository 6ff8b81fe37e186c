-- What a link of an attempt has done, call by call.
use Rattle.std.proofs.Common.{◌≡◌, ℕ, List, [], ◌++◌, Bool, true, false, true≢false, Option, None, Some, Result, Ok, Err, inl, inr, refl, sym, ap, ap₂, ◌∙◌, subst, append_assoc, append-nil, take, drop, take-append-drop, arith}
use Rattle.std.proofs.lemmas.List.{take_all}
use Rattle.std.specs.Io.KnownBytes.{Appends, Consumes}
use Rattle.std.proofs.KnownBytes.{Appends-nil, Appends-trans, Consumes-nil, Consumes-trans}
use Rattle.relay_disk.specs.Device.{DiskWords}
use Rattle.relay_slots.specs.Slots.{OthersStay, slot_at}
use Rattle.relay_book.specs.declared.change.Change.{Change}
use Rattle.relay_records.specs.declared.fault.NodeFault.{NodeFault}
use Rattle.relay_records.specs.declared.fault.NodeFault.TheVariants as node_fault
use Rattle.relay_records.specs.Records.{IsStopped, Keeps, Kept}
use Rattle.relay_attempts.specs.AddedOutcome.{GrowsBy, HasNoRoom}
use Rattle.relay_course.specs.Course.{IsCourse}
use Rattle.relay_course.specs.VerdictTable.{all_later}
use Rattle.relay_client.proofs.Theorems.{followed_is_course}
use Rattle.relay_attempts.specs.declared.reply.Replied.{Replied}
use Rattle.relay_attempts.specs.Reply.{CutsLoss, CutsReply, HasNoRoomAtEnd, HasNoRoomAtLoss, IsLost, Makes, ReadsToEnd, Told, outcome_at, told_more, AttemptHasEnded as EndsOf}
use Rattle.relay_node.specs.Attempts.{ReadsOn, RefusesToReply, Replies, RepliesBy, Tells}
use Rattle.relay_node.specs.Node.{NodeState}
use Rattle.relay_links.specs.declared.fault.LinkFault.{LinkFault}
use Rattle.relay_links.specs.declared.fault.LinkFault.TheVariants.{Input, Output, NoMemory, Full, Device}
use Rattle.relay_links.specs.declared.push.Pushed.{Pushed}
use Rattle.relay_links.specs.declared.push.Way.{Way}
use Rattle.relay_links.specs.declared.push.Way.TheVariants as way
use Rattle.relay_links.specs.Link.{link_fault_of}
use Rattle.relay_links.specs.Push.{Ends, Goes, HasDropped, PushHasEnded, HasFailed, HasFilled, HasGrown, HasLost, HasStopped, IsAt, LeavesRecords, Moves, PushStart, push_start_at}
use Rattle.relay_routes.specs.declared.config.Config.{Config}
use Rattle.relay_report.specs.Report.{Reporter, reporter_of}

-- octets that wait are those that are used, and those after them
used_first : (read waiting : List ℕ) (used : ℕ) → read ++ waiting ≡ (read ++ take used waiting) ++ drop used waiting
used_first read waiting used = ap (λ l. read ++ l) (sym (take-append-drop used waiting)) ∙ sym (append_assoc read (take used waiting) (drop used waiting))

-- what was written after what was held, in two parts
in_parts : (held written out front rest : List ℕ) → out ≡ front ++ rest → (held ++ (written ++ [])) ++ out ≡ held ++ ((written ++ front) ++ rest)
in_parts held written out front rest parts =
    append_assoc held (written ++ []) out
    ∙ ap (λ l. held ++ l) (ap₂ (λ (a b : List ℕ). a ++ b) (append-nil written) parts ∙ sym (append_assoc written front rest))

-- the other attempts, the configuration and the sessions stay from call to call
abbrev pub RestStays : {D : Type 0} → NodeState D → NodeState D → ℕ → Type 0
RestStays old new number = OthersStay old.attempts new.attempts number × (new.config ≡ old.config) × (new.seats ≡ old.seats)

pub rest_stays : {D : Type 0} (old mid new : NodeState D) (number : ℕ) → RestStays old mid number → RestStays mid new number → RestStays old new number
rest_stays old mid new number before now = (λ other differs. now.0 other differs ∙ before.0 other differs, now.1 ∙ before.1, now.2 ∙ before.2)

-- an attempt is gone after a fault of a node that lives on
pub gone_by_fault : {D : Type 0} (words : DiskWords D) (number : ℕ) (old new : NodeState D) (fault : NodeFault) → (old.records.spool.live ≡ true → RefusesToReply words number old new fault) → (old.records.spool.live ≡ false → new ≡ old)
    → (fault ≡ node_fault.Unknown → slot_at old.attempts number ≡ None) → new.records.spool.live ≡ true → slot_at new.attempts number ≡ None
gone_by_fault {D} words number old new fault refused stopped unknown live = by_live old.records.spool.live refl
  where
    by_fault : (fault : NodeFault) → RefusesToReply words number old new fault → (fault ≡ node_fault.Unknown → slot_at old.attempts number ≡ None) → slot_at new.attempts number ≡ None
    by_fault node_fault.NoMemory gone unknown = gone.attempt
    by_fault node_fault.Stopped halted unknown = absurd (true≢false (sym live ∙ halted.live))
    by_fault node_fault.Unknown same unknown = ap (λ (node : NodeState D). slot_at node.attempts number) same ∙ unknown refl
    by_fault node_fault.TooMany never unknown = absurd never
    by_fault node_fault.NotDue never unknown = absurd never
    by_fault node_fault.Busy never unknown = absurd never
    by_fault node_fault.NoSecond never unknown = absurd never
    by_fault (node_fault.Open cause) never unknown = absurd never
    by_fault node_fault.Full gone unknown = gone.attempt

    by_live : (is_live : Bool) → old.records.spool.live ≡ is_live → slot_at new.attempts number ≡ None
    by_live true e = by_fault fault (refused e) unknown
    by_live false e = absurd (true≢false (sym live ∙ (ap (λ (node : NodeState D). node.records.spool.live) (stopped e) ∙ e)))

pub same_fault : {T : Type 0} (fault other : NodeFault) → ◌≡◌ {A = Result T NodeFault} (Err fault) (Err other) → fault ≡ other
same_fault fault other e = cc

-- the records after a fault of the node
pub left_by_fault : {D : Type 0} (words : DiskWords D) (number : ℕ) (old new : NodeState D) (fault : NodeFault) → (old.records.spool.live ≡ true → RefusesToReply words number old new fault) → (old.records.spool.live ≡ false → (fault ≡ node_fault.Stopped) × (new ≡ old))
    → LeavesRecords words old new (link_fault_of fault)
left_by_fault {D} words number old new fault refused stopped = by_live old.records.spool.live refl
  where
    by_fault : (fault : NodeFault) → RefusesToReply words number old new fault → LeavesRecords words old new (link_fault_of fault)
    by_fault node_fault.NoMemory gone = gone.records
    by_fault node_fault.Stopped halted = inl halted
    by_fault node_fault.Unknown same = ap (λ (node : NodeState D). node.records) same
    by_fault node_fault.TooMany never = absurd never
    by_fault node_fault.NotDue never = absurd never
    by_fault node_fault.Busy never = absurd never
    by_fault node_fault.NoSecond never = absurd never
    by_fault (node_fault.Open cause) never = absurd never
    by_fault node_fault.Full gone = gone.records

    by_live : (is_live : Bool) → old.records.spool.live ≡ is_live → LeavesRecords words old new (link_fault_of fault)
    by_live true e = by_fault fault (refused e)
    by_live false e =
        subst (λ (f : NodeFault). LeavesRecords words old new (link_fault_of f)) (sym (stopped e).0)
        (inr (e, ap (λ (node : NodeState D). node.records) (stopped e).1))

-- a reply that made a change has grown the records, and any other has left them
pub grown_by : {D : Type 0} (words : DiskWords D) (now number : ℕ) (old new : NodeState D) (made : Option ℕ) (change : ℕ) → made ≡ Some change → Makes words (reporter_of old.config) now number old.attempts new.attempts old.records new.records made → HasGrown words old new
grown_by {D} words now number old new made change is makes =
    let ends = subst (Makes words (reporter_of old.config) now number old.attempts new.attempts old.records new.records) is makes in
    (_, change, ends.grows)

pub same_by : {D : Type 0} (words : DiskWords D) (now number : ℕ) (old new : NodeState D) (made : Option ℕ) → made ≡ None → Makes words (reporter_of old.config) now number old.attempts new.attempts old.records new.records made → new.records ≡ old.records
same_by {D} words now number old new made is makes =
    (subst (Makes words (reporter_of old.config) now number old.attempts new.attempts old.records new.records) is makes).2

-- what was done to equal records of a node of the same name
module _ {D : Type 0} (words : DiskWords D) (old mid new : NodeState D) (config : mid.config ≡ old.config) (same : mid.records ≡ old.records) where
  grown_since : HasGrown words mid new → HasGrown words old new
  grown_since grown = (
    grown.0,
    grown.1,
    subst (λ (records : Kept D). GrowsBy words (reporter_of old.config) grown.0 records new.records grown.1) same
        (subst (λ reporter. GrowsBy words reporter grown.0 mid.records new.records grown.1) (ap (λ (c : Config). reporter_of c) config) grown.2),
  )

  left_since : (fault : LinkFault) → LeavesRecords words mid new fault → LeavesRecords words old new fault
  left_since Input left = left ∙ same
  left_since Output left = left ∙ same
  left_since NoMemory left = left ∙ same
  left_since Full left = left ∙ same
  left_since Device (inl stopped) = inl (subst (λ (records : Kept D). IsStopped words 4 records new.records) same stopped)
  left_since Device (inr before) = inr (subst (λ (records : Kept D). records.spool.live ≡ false) same before.0, before.1 ∙ same)

  pub moves_since : (result : Result Way LinkFault) → Moves words mid new result → Moves words old new result
  moves_since (Ok way.On) moved = moved ∙ same
  moves_since (Ok way.Ended) moved = grown_since moved
  moves_since (Ok way.Unwritten) moved = grown_since moved
  moves_since (Ok way.AtEnd) moved = moved ∙ same
  moves_since (Ok way.Broken) moved = moved ∙ same
  moves_since (Err fault) moved = left_since fault moved

  pub ends_since : (result : Result Pushed LinkFault) → Ends words mid new result → Ends words old new result
  ends_since (Ok pushed) ended = grown_since ended
  ends_since (Err fault) ended = left_since fault ended

-- a number is some number
pub some_number : (change : Option ℕ) (number : ℕ) → change ≡ Some number → change ≡ None → ⊥
some_number change number is none = not_both (sym is ∙ none)
  where
    not_both : Some number ≡ None → ⊥
    not_both e = cc

module _ {D : Type 0} (honest : Type 0) (words : DiskWords D) (start : PushStart) (at number : ℕ) where
  -- octets were read, which wait
  pub read_on : (left new_left held : Option (List ℕ)) (octets : List ℕ) (node : NodeState D) → IsAt honest words start at number left held [] [] node → Consumes left new_left octets → IsAt honest words start at number new_left held octets [] node
  read_on left new_left held octets node h read = record {
    input = h.input;
    written = h.written;
    reporter = h.reporter;
    reads =
        subst (Consumes start.left new_left) (ap (λ l. l ++ octets) (append-nil h.input))
        (Consumes-trans start.left left new_left (h.input ++ []) octets h.reads read);
    writes = h.writes;
    keeps = h.keeps;
    tells = h.tells;
  }

  -- what is told of the attempt
  told_at : (left held : Option (List ℕ)) (waiting unwritten : List ℕ) (node : NodeState D) → IsAt honest words start at number left held waiting unwritten node → Told
  told_at left held waiting unwritten node h = told_more start.told h.input (h.written ++ unwritten)

  -- the node's own name for its host
  pub tells_here : (left held : Option (List ℕ)) (waiting unwritten : List ℕ) (node : NodeState D) (h : IsAt honest words start at number left held waiting unwritten node) → Tells node.config.host start.changes node.attempts number (told_more start.told h.input (h.written ++ unwritten))
  tells_here left held waiting unwritten node h =
      subst (λ (r : Reporter). Tells r.host start.changes node.attempts number (told_more start.told h.input (h.written ++ unwritten))) (sym h.reporter) h.tells

  -- What the attempt made of octets that waited. A beginning of what it wrote then was written.
  module _ (left held new_held : Option (List ℕ)) (waiting : List ℕ) (old new : NodeState D) (replied : Replied)
      (h : IsAt honest words start at number left held waiting [] old) (front rest : List ℕ)
      (parts : replied.out.items ≡ front ++ rest) (wrote : Appends held new_held front) where
    outputs : (start.told.output ++ (h.written ++ [])) ++ replied.out.items ≡ start.told.output ++ ((h.written ++ front) ++ rest)
    outputs = in_parts start.told.output h.written replied.out.items front rest parts

    inputs : (start.told.input ++ h.input) ++ take replied.used waiting ≡ start.told.input ++ (h.input ++ take replied.used waiting)
    inputs = append_assoc start.told.input h.input (take replied.used waiting)

    written_on : Appends start.held new_held (h.written ++ front)
    written_on = Appends-trans start.held held new_held h.written front h.writes wrote

    -- it goes on
    pub goes_on : new.config ≡ old.config → ReadsOn honest words start.reporter at start.changes number (told_more start.told h.input (h.written ++ [])) waiting old new replied → IsAt honest words start at number left new_held [] rest new
    goes_on same r =
        let whole : take replied.used waiting ≡ waiting = take_all replied.used waiting (omega (arith, r.used)) in
        let told = start.told in
        record {
          input = h.input ++ take replied.used waiting;
          written = h.written ++ front;
          reporter = ap (λ (c : Config). reporter_of c) same ∙ h.reporter;
          reads =
              subst (Consumes start.left left) (ap (λ l. h.input ++ l) (sym whole) ∙ sym (append-nil (h.input ++ take replied.used waiting))) h.reads;
          writes = written_on;
          keeps = subst (λ (records : Kept D). Keeps honest words records start.changes) (sym r.same) h.keeps;
          tells =
              subst (λ input. Tells start.reporter.host start.changes new.attempts number (record told { input = input; output = told.output ++ ((h.written ++ front) ++ rest) })) inputs
              (subst (λ output. Tells start.reporter.host start.changes new.attempts number (record told { input = (told.input ++ h.input) ++ take replied.used waiting; output = output })) outputs r.tells);
        }

    -- it has ended
    pub has_ended : (change : ℕ) → EndsOf honest words start.reporter at start.changes number (told_more start.told h.input (h.written ++ [])) waiting old.records new.records new.attempts replied change → PushHasEnded honest words start at left new_held rest new.records
    has_ended change e =
        let told = start.told in
        record {
          verdicts = e.verdicts;
          goes = record {
            input = h.input ++ take replied.used waiting;
            unused = drop replied.used waiting;
            written = h.written ++ front;
            reads = subst (Consumes start.left left) (used_first h.input waiting replied.used) h.reads;
            writes = written_on;
            course =
                subst (λ input. IsCourse start.reporter.host told.envelope told.text told.places input false (told.output ++ ((h.written ++ front) ++ rest)) (Some e.verdicts)) inputs
                (subst (λ output. IsCourse start.reporter.host told.envelope told.text told.places ((told.input ++ h.input) ++ take replied.used waiting) false output (Some e.verdicts)) outputs e.course);
          };
          concludes = record { used = replied.used; number = change; adds = e.adds };
        }

  -- the attempt is gone without an outcome
  drops : (left held : Option (List ℕ)) (waiting unwritten : List ℕ) (node : NodeState D) (records : Kept D) → IsAt honest words start at number left held waiting unwritten node → records ≡ node.records → HasDropped honest words start at left held records
  drops left held waiting unwritten node records h same = record {
    unwritten = unwritten;
    goes = record {
      input = h.input;
      unused = waiting;
      written = h.written;
      reads = h.reads;
      writes = h.writes;
      course =
          followed_is_course h.tells.run.client start.reporter.host start.told.text start.told.places (start.told.input ++ h.input)
          (start.told.output ++ (h.written ++ unwritten)) start.told.envelope h.tells.follows;
    };
    keeps = subst (λ (kept : Kept D). Keeps honest words kept start.changes) (sym same) h.keeps;
  }

  -- the course came to its end after octets that waited
  comes_to_end : (left held : Option (List ℕ)) (waiting : List ℕ) (old : NodeState D) (h : IsAt honest words start at number left held waiting [] old) (ends : ReadsToEnd start.reporter.host (told_more start.told h.input (h.written ++ [])) waiting) → Goes honest words start at left held ends.out false (Some ends.verdicts)
  comes_to_end left held waiting old h ends =
      let told = start.told in
      record {
        input = h.input ++ take ends.used waiting;
        unused = drop ends.used waiting;
        written = h.written;
        reads = subst (Consumes start.left left) (used_first h.input waiting ends.used) h.reads;
        writes = h.writes;
        course =
            subst (λ input. IsCourse start.reporter.host told.envelope told.text told.places input false (told.output ++ (h.written ++ ends.out)) (Some ends.verdicts)) (append_assoc told.input h.input (take ends.used waiting))
            (subst (λ output. IsCourse start.reporter.host told.envelope told.text told.places ((told.input ++ h.input) ++ take ends.used waiting) false output (Some ends.verdicts)) outputs ends.course);
      }
    where
      outputs : (start.told.output ++ (h.written ++ [])) ++ ends.out ≡ start.told.output ++ (h.written ++ ends.out)
      outputs = append_assoc start.told.output (h.written ++ []) ends.out ∙ ap (λ l. start.told.output ++ (l ++ ends.out)) (append-nil h.written)

  -- the device failed while the outcome was added
  halts : (left held : Option (List ℕ)) (waiting : List ℕ) (old : NodeState D) (new : Kept D) (h : IsAt honest words start at number left held waiting [] old) → CutsReply honest words start.reporter at start.changes number (told_more start.told h.input (h.written ++ [])) waiting new → HasStopped honest words start at left held new
  halts left held waiting old new h c = record {
    unwritten = c.ends.out;
    lost = false;
    verdicts = c.ends.verdicts;
    goes = comes_to_end left held waiting old h c.ends;
    cut = record { used = c.ends.used; cuts = c.cuts };
  }

  -- there was no room for the outcome
  fills : (left held : Option (List ℕ)) (waiting : List ℕ) (old : NodeState D) (new : Kept D) (h : IsAt honest words start at number left held waiting [] old) → HasNoRoomAtEnd start.reporter at (told_more start.told h.input (h.written ++ [])) waiting old.records → new ≡ old.records → HasFilled honest words start at left held new
  fills left held waiting old new h none same = record {
    unwritten = none.ends.out;
    lost = false;
    verdicts = none.ends.verdicts;
    goes = comes_to_end left held waiting old h none.ends;
    room = subst (λ (kept : Kept D). HasNoRoom start.reporter (outcome_at at start.told none.ends.verdicts) kept) (sym same) none.room;
    keeps = subst (λ (kept : Kept D). Keeps honest words kept start.changes) (sym same) h.keeps;
  }

  -- an attempt of which something is told is there
  is_there : (left held : Option (List ℕ)) (waiting unwritten : List ℕ) (node : NodeState D) → IsAt honest words start at number left held waiting unwritten node → slot_at node.attempts number ≡ None → ⊥
  is_there left held waiting unwritten node h none = not_both (sym h.tells.at ∙ none)
    where
      not_both : Some h.tells.run ≡ None → ⊥
      not_both e = cc

  -- the node has refused octets, or a loss
  refuses : (left held : Option (List ℕ)) (waiting unwritten : List ℕ) (old new : NodeState D) (fault : NodeFault) → IsAt honest words start at number left held waiting unwritten old → RefusesToReply words number old new fault
      → (fault ≡ node_fault.Stopped → HasStopped honest words start at left held new.records) → (fault ≡ node_fault.Full → new.records ≡ old.records → HasFilled honest words start at left held new.records)
      → (fault ≡ node_fault.Unknown → slot_at old.attempts number ≡ None) → HasFailed honest words start at left held new.records (link_fault_of fault)
  refuses left held waiting unwritten old new node_fault.NoMemory h gone cut full unknown = drops left held waiting unwritten old new.records h gone.records
  refuses left held waiting unwritten old new node_fault.Stopped h stopped cut full unknown = cut refl
  refuses left held waiting unwritten old new node_fault.Unknown h same cut full unknown = is_there left held waiting unwritten old h (unknown refl)
  refuses left held waiting unwritten old new node_fault.TooMany h never cut full unknown = absurd never
  refuses left held waiting unwritten old new node_fault.NotDue h never cut full unknown = absurd never
  refuses left held waiting unwritten old new node_fault.Busy h never cut full unknown = absurd never
  refuses left held waiting unwritten old new node_fault.NoSecond h never cut full unknown = absurd never
  refuses left held waiting unwritten old new (node_fault.Open cause) h never cut full unknown = absurd never
  refuses left held waiting unwritten old new node_fault.Full h gone cut full unknown = full refl gone.records

  -- the node has refused octets
  pub refuses_octets : (left held : Option (List ℕ)) (waiting : List ℕ) (old new : NodeState D) (fault : NodeFault) (h : IsAt honest words start at number left held waiting [] old) → RefusesToReply words number old new fault
      → (fault ≡ node_fault.Stopped → CutsReply honest words (reporter_of old.config) at start.changes number (told_more start.told h.input (h.written ++ [])) waiting new.records)
      → (fault ≡ node_fault.Full → HasNoRoomAtEnd (reporter_of old.config) at (told_more start.told h.input (h.written ++ [])) waiting old.records)
      → (fault ≡ node_fault.Unknown → slot_at old.attempts number ≡ None) → HasFailed honest words start at left held new.records (link_fault_of fault)
  refuses_octets left held waiting old new fault h refused cut full unknown =
      refuses left held waiting [] old new fault h refused
      (λ stopped. halts left held waiting old new.records h (subst (λ reporter. CutsReply honest words reporter at start.changes number (told_more start.told h.input (h.written ++ [])) waiting new.records) h.reporter (cut stopped)))
      (λ is same. fills left held waiting old new.records h (subst (λ reporter. HasNoRoomAtEnd reporter at (told_more start.told h.input (h.written ++ [])) waiting old.records) h.reporter (full is)) same)
      unknown

  -- the connection is lost
  pub loses : (left held : Option (List ℕ)) (waiting unwritten : List ℕ) (old new : NodeState D) (change : ℕ) (h : IsAt honest words start at number left held waiting unwritten old)
      → IsLost honest words (reporter_of old.config) at start.changes number (told_more start.told h.input (h.written ++ unwritten)) old.records new.records new.attempts change → HasLost honest words start at left held new.records
  loses left held waiting unwritten old new change h lost =
      let here = subst (λ reporter. IsLost honest words reporter at start.changes number (told_more start.told h.input (h.written ++ unwritten)) old.records new.records new.attempts change) h.reporter lost in
      record {
        unwritten = unwritten;
        goes = record {
          input = h.input;
          unused = waiting;
          written = h.written;
          reads = h.reads;
          writes = h.writes;
          course = here.course;
        };
        concludes = record { used = 0; number = change; adds = here.adds };
      }

  -- the node has refused a loss
  pub refuses_loss : (left held : Option (List ℕ)) (waiting unwritten : List ℕ) (old new : NodeState D) (fault : NodeFault) (h : IsAt honest words start at number left held waiting unwritten old) → RefusesToReply words number old new fault
      → (fault ≡ node_fault.Stopped → CutsLoss honest words (reporter_of old.config) at start.changes number (told_more start.told h.input (h.written ++ unwritten)) new.records)
      → (fault ≡ node_fault.Full → HasNoRoomAtLoss (reporter_of old.config) at (told_more start.told h.input (h.written ++ unwritten)) old.records)
      → (fault ≡ node_fault.Unknown → slot_at old.attempts number ≡ None) → HasFailed honest words start at left held new.records (link_fault_of fault)
  refuses_loss left held waiting unwritten old new fault h refused cut full unknown =
      refuses left held waiting unwritten old new fault h refused
      (λ stopped.
      let here = subst (λ reporter. CutsLoss honest words reporter at start.changes number (told_more start.told h.input (h.written ++ unwritten)) new.records) h.reporter (cut stopped) in
      record {
        unwritten = unwritten;
        lost = true;
        verdicts = all_later start.told.places;
        goes = record {
          input = h.input;
          unused = waiting;
          written = h.written;
          reads = h.reads;
          writes = h.writes;
          course = here.course;
        };
        cut = record { used = 0; cuts = here.cuts };
      })
      (λ is same.
      let here = subst (λ reporter. HasNoRoomAtLoss reporter at (told_more start.told h.input (h.written ++ unwritten)) old.records) h.reporter (full is) in
      record {
        unwritten = unwritten;
        lost = true;
        verdicts = all_later start.told.places;
        goes = record {
          input = h.input;
          unused = waiting;
          written = h.written;
          reads = h.reads;
          writes = h.writes;
          course = here.course;
        };
        room = subst (λ (kept : Kept D). HasNoRoom start.reporter (outcome_at at start.told (all_later start.told.places)) kept) (sym same) here.room;
        keeps = subst (λ (kept : Kept D). Keeps honest words kept start.changes) (sym same) h.keeps;
      })
      unknown

  -- What the node made of octets that waited. A beginning of what it wrote then was written.
  module _ (left held new_held : Option (List ℕ)) (waiting : List ℕ) (old new : NodeState D) (replied : Replied)
      (h : IsAt honest words start at number left held waiting [] old)
      (r : Replies honest words (reporter_of old.config) at start.changes number (told_more start.told h.input (h.written ++ [])) waiting old new replied)
      (front rest : List ℕ) (parts : replied.out.items ≡ front ++ rest) (wrote : Appends held new_held front) where
    here : Replies honest words start.reporter at start.changes number (told_more start.told h.input (h.written ++ [])) waiting old new replied
    here = subst (λ reporter. Replies honest words reporter at start.changes number (told_more start.told h.input (h.written ++ [])) waiting old new replied) h.reporter r

    by_change : (change : Option ℕ) → replied.change ≡ change → RepliesBy honest words start.reporter at start.changes number (told_more start.told h.input (h.written ++ [])) waiting old new replied change
    by_change change is = subst (RepliesBy honest words start.reporter at start.changes number (told_more start.told h.input (h.written ++ [])) waiting old new replied) is here

    -- it has ended
    pub answered_end : (change : ℕ) → replied.change ≡ Some change → PushHasEnded honest words start at left new_held rest new.records
    answered_end change is = has_ended left held new_held waiting old new replied h front rest parts wrote change (by_change (Some change) is)

    -- it goes on
    pub answered_on : replied.change ≡ None → new.config ≡ old.config → IsAt honest words start at number left new_held [] rest new
    answered_on none same = goes_on left held new_held waiting old new replied h front rest parts wrote same (by_change None none)

-- before the first read nothing was read or written
pub begins : {D : Type 0} (honest : Type 0) (words : DiskWords D) (at number : ℕ) (left held : Option (List ℕ)) (node : NodeState D) (changes : List Change) (told : Told) → Keeps honest words node.records changes → Tells node.config.host changes node.attempts number told
    → IsAt honest words (push_start_at left held node changes told) at number left held [] [] node
begins honest words at number left held node changes told keeps tells = record {
  input = [];
  written = [];
  reporter = refl;
  reads = Consumes-nil left;
  writes = Appends-nil held;
  keeps = keeps;
  tells =
      subst (λ input. Tells node.config.host changes node.attempts number (record told { input = input; output = told.output ++ ([] ++ []) })) (sym (append-nil told.input))
      (subst (λ output. Tells node.config.host changes node.attempts number (record told { output = output })) (sym (append-nil told.output)) tells);
}
