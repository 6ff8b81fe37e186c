-- What the first work of a node tells of its queue: the message is queued, and the work is due.
use Rattle.std.proofs.Common.{◌≡◌, ◌≢◌, ◌⊎◌, inl, inr, ℕ, suc, ◌+◌, ◌≤◌, ◌==◌, Bool, true, false, cond, not, ◌&&◌, List, [], ◌∷◌, ◌++◌, map, Option, None, Some, refl, sym, subst, ap, ◌∙◌, arith, bytes_eq, if◌then◌else◌, fold}
use Rattle.std.specs.Prelude.{slice_get}
use Rattle.std.specs.List.{cons_option, filter, filter_map, flat_map, list_any}
use Rattle.std.specs.Option.{option_map_or}
use Rattle.std.proofs.lemmas.Bool.{cond-false, cond-true, eq-eqb, false≢true, ne_eqb, true≢false}
use Rattle.std.proofs.lemmas.List.{append-nil}
use Rattle.std.proofs.lemmas.Option.{none-some, same_Some}
use Rattle.std.proofs.lemmas.Slice.Eq.{bytes_eq-Decides}
use Rattle.relay_disk.specs.Device.{DiskWords}
use Rattle.relay_slots.specs.Slots.{IsFull, IsLeastFree}
use Rattle.relay_envelope.specs.declared.envelope.Recipient.{Recipient}
use Rattle.relay_routes.specs.declared.config.Config.{Config}
use Rattle.relay_routes.specs.Routes.{RouteTable}
use Rattle.relay_book.specs.declared.change.Change.{Change}
use Rattle.relay_book.specs.declared.change.Change.TheVariants.{Accept, Outcome}
use Rattle.relay_book.specs.declared.change.Outcome.{Outcome as OutcomeFields}
use Rattle.relay_book.specs.declared.message.Message.{Message}
use Rattle.relay_book.specs.declared.message.Place.{Place}
use Rattle.relay_book.specs.Book.{Rise}
use Rattle.relay_book.specs.Queue.{Queue, accepted, empty_queue, is_due_at, is_held, message_after, message_of, queue_of, report_of, reported, ruled, step}
use Rattle.relay_records.specs.declared.fault.NodeFault.{NodeFault}
use Rattle.relay_records.specs.Records.{Kept}
use Rattle.relay_records.specs.declared.fault.NodeFault.TheVariants.{NoMemory, Stopped, Unknown, TooMany, NotDue, Busy, Open, Full, NoSecond}
use Rattle.relay_attempts.specs.declared.runs.Run.{Run}
use Rattle.relay_attempts.specs.declared.work.Work.{Work}
use Rattle.relay_attempts.specs.declared.work.Work.TheVariants.{NoRoute, Try}
use Rattle.relay_attempts.specs.Attempts.{RefusesToStart}
use Rattle.relay_attempts.specs.Hops.{due_hops, due_places_in, each_once, goes_to, hop_of_place, is_any, is_due_for, places_where, stranded_places}
use Rattle.relay_attempts.specs.Outcomes.{HasNoRoomFor, RefusesToGiveUp}
use Rattle.relay_attempts.specs.Runs.{is_running}
use Rattle.relay_attempts.specs.Work.{message_works, tries, works_of}
use Rattle.relay_node.specs.declared.node.Connected.{Connected}
use Rattle.relay_node.specs.Node.{NodeState}
use Rattle.relay_world.specs.GivingUp.{NoHop}
use Rattle.relay_world.specs.World.{HostState, Host, Up}
use Rattle.relay_hosts.specs.declared.work.Begun.{Begun}
use Rattle.relay_hosts.specs.declared.work.Begun.TheVariants as begun
use Rattle.relay_hosts.specs.declared.work.GivenUp.{GivenUp}
use Rattle.relay_hosts.specs.declared.work.GivenUp.TheVariants as given
use Rattle.relay_hosts.specs.Work.{BeginsOrNot, BeginsUnlessFull, GivesUpOrNot, GivesUpUnlessFull, HasChanges, HoldsChanges, KnowsChanges, LacksRoom, OpensSession, attempts_in, works_in}
use Rattle.relay_report.specs.Report.{reporter_of}

-- The numbers of the messages in a queue rise.
rise_joined : (least next : ℕ) (entries : List (ℕ × Message)) (message : Message) → Rise least next entries
    → Rise least (next + 1) (entries ++ (next, message) ∷ [])
rise_joined least next [] message rise = (rise, omega arith)
rise_joined least next (entry ∷ entries) message rise = (rise.0, rise_joined (suc entry.0) next entries message rise.1)

rise_more : (least next : ℕ) (entries : List (ℕ × Message)) → Rise least next entries → Rise least (next + 1) entries
rise_more least next [] rise = omega (arith, rise)
rise_more least next (entry ∷ entries) rise = (rise.0, rise_more (suc entry.0) next entries rise.1)

rise_less : (less least next : ℕ) (entries : List (ℕ × Message)) → less ≤ least → Rise least next entries → Rise less next entries
rise_less less least next [] below rise = omega (arith, below, rise)
rise_less less least next (entry ∷ entries) below rise = (omega (arith, below, rise.0), rise.1)

rise_ruled : (outcome : OutcomeFields) (least next : ℕ) (entries : List (ℕ × Message)) → Rise least next entries
    → Rise least next (ruled outcome entries)
rise_ruled outcome least next [] rise = rise
rise_ruled outcome least next (entry ∷ entries) rise =
    by (rise_ruled outcome (suc entry.0) next entries rise.1) (entry.0 == outcome.message)
    (list_any is_held (message_after outcome entry.1).places)
  where
    by : Rise (suc entry.0) next (ruled outcome entries) → (same held : Bool)
        → Rise least next (if same then (if held then (entry.0, message_after outcome entry.1) ∷ [] else []) ++ entries
        else entry ∷ ruled outcome entries)
    by rest true true = (rise.0, rise.1)
    by rest true false = rise_less least (suc entry.0) next entries (omega (arith, rise.0)) rise.1
    by rest false held = (rise.0, rest)

rise_reported : (outcome : OutcomeFields) (least next : ℕ) (entries : List (ℕ × Message)) (report : List ℕ)
    (message : Option Message) → Rise least next entries
    → Rise least (next + 1) (entries ++ reported next outcome report message)
rise_reported outcome least next entries [] message rise =
    subst (Rise least (next + 1)) (sym (append-nil entries)) (rise_more least next entries rise)
rise_reported outcome least next entries (octet ∷ report) None rise =
    subst (Rise least (next + 1)) (sym (append-nil entries)) (rise_more least next entries rise)
rise_reported outcome least next entries (octet ∷ report) (Some message) rise =
    rise_joined least next entries (accepted next (report_of message.accept outcome)) rise

rise_step : (queue : Queue) (change : Change) → Rise 0 queue.next queue.messages
    → Rise 0 (step queue change).next (step queue change).messages
rise_step queue (Accept accept) rise = rise_joined 0 queue.next queue.messages (accepted queue.next accept) rise
rise_step queue (Outcome outcome) rise =
    rise_reported outcome 0 queue.next (ruled outcome queue.messages) outcome.report (message_of queue.messages outcome.message)
    (rise_ruled outcome 0 queue.next queue.messages rise)

rise_after : (changes : List Change) (queue : Queue) → Rise 0 queue.next queue.messages
    → Rise 0 (fold step queue changes).next (fold step queue changes).messages
rise_after [] queue rise = rise
rise_after (change ∷ changes) queue rise = rise_after changes (step queue change) (rise_step queue change rise)

queue_rises : (changes : List Change) → Rise 0 (queue_of changes).next (queue_of changes).messages
queue_rises changes = rise_after changes empty_queue (omega arith)

-- The first of what all messages have is the first of what one of them has.
record FirstOf {A : Type 0} (f : ℕ × Message → List A) (least : ℕ) (entries : List (ℕ × Message)) (x : A) : Type 0 where
  pub entry : ℕ × Message
  pub above : least ≤ entry.0
  pub found : message_of entries entry.0 ≡ Some entry.1
  pub its : slice_get (f entry) 0 ≡ Some x

first_entry : {A : Type 0} (f : ℕ × Message → List A) (least next : ℕ) (entries : List (ℕ × Message)) (x : A)
    → Rise least next entries → slice_get (flat_map f entries) 0 ≡ Some x → FirstOf f least entries x
first_entry f least next [] x rise is = absurd (none-some x is)
first_entry {A} f least next (entry ∷ entries) x rise is = by (first_entry f (suc entry.0) next entries x rise.1) (f entry) refl
  where
    by : (slice_get (flat_map f entries) 0 ≡ Some x → FirstOf f (suc entry.0) entries x) → (own : List A) → f entry ≡ own
        → FirstOf f least (entry ∷ entries) x
    by rest [] own =
        let later = rest (ap (λ (l : List A). slice_get (l ++ flat_map f entries) 0) (sym own) ∙ is) in
        let off = ne_eqb entry.0 later.entry.0 (λ same. omega (arith, same, later.above)) in
        record {
          entry = later.entry;
          above = let above = later.above in let low = rise.0 in omega (arith, above, low);
          found = cond-false (entry.0 == later.entry.0) (Some entry.1) (message_of entries later.entry.0) off ∙ later.found;
          its = later.its;
        }
    by rest (y ∷ ys) own = record {
      entry = entry;
      above = rise.0;
      found = cond-true (entry.0 == entry.0) (Some entry.1) (message_of entries entry.0) (eq-eqb entry.0 entry.0 refl);
      its = ap (λ (l : List A). slice_get l 0) own ∙ ap (λ (l : List A). slice_get (l ++ flat_map f entries) 0) (sym own) ∙ is;
    }

-- Where x is among xs.
abbrev Among : {A : Type 0} → List A → A → Type 0
Among [] x = ⊥
Among (y ∷ ys) x = (y ≡ x) ⊎ Among ys x

filter_among : {A : Type 0} (test : A → Bool) (xs : List A) (x : A) → Among (filter test xs) x → Among xs x
filter_among test [] x among = among
filter_among {A} test (y ∷ ys) x among = by (filter_among test ys x) (test y) among
  where
    by : (Among (filter test ys) x → Among ys x) → (b : Bool) → Among (cond b (y ∷ filter test ys) (filter test ys)) x
        → (y ≡ x) ⊎ Among ys x
    by rest true (inl same) = inl same
    by rest true (inr there) = inr (rest there)
    by rest false there = inr (rest there)

once_among : (names : List (List ℕ)) (name : List ℕ) → Among (each_once names) name → Among names name
once_among [] name among = among
once_among (one ∷ names) name (inl same) = inl same
once_among (one ∷ names) name (inr there) =
    inr (once_among names name (filter_among (λ other. not (bytes_eq one other)) (each_once names) name there))

-- the first that passes a test passes it, and is among all
first_passes : {A : Type 0} (test : A → Bool) (xs : List A) (x : A) → slice_get (filter test xs) 0 ≡ Some x
    → (test x ≡ true) × Among xs x
first_passes test [] x is = absurd (none-some x is)
first_passes {A} test (y ∷ ys) x is = by (first_passes test ys x) (test y) refl is
  where
    by : (slice_get (filter test ys) 0 ≡ Some x → (test x ≡ true) × Among ys x) → (b : Bool) → test y ≡ b
        → slice_get (cond b (y ∷ filter test ys) (filter test ys)) 0 ≡ Some x → (test x ≡ true) × ((y ≡ x) ⊎ Among ys x)
    by rest true passes at =
        let same : y ≡ x = same_Some y x at in (ap test (sym same) ∙ passes, inl same)
    by rest false passes at = let later = rest at in (later.0, inr later.1)

-- what is among the hops of places is the hop of one of them
hop_among : {A B : Type 0} (f : A → Option B) (xs : List A) (b : B) → Among (filter_map f xs) b
    → (x : A) × Among xs x × (f x ≡ Some b)
hop_among f [] b among = absurd among
hop_among {A} {B} f (x ∷ xs) b among = by (hop_among f xs b) (f x) refl among
  where
    by : (Among (filter_map f xs) b → (y : A) × Among xs y × (f y ≡ Some b)) → (found : Option B) → f x ≡ found
        → Among (cons_option found (filter_map f xs)) b → (y : A) × ((x ≡ y) ⊎ Among xs y) × (f y ≡ Some b)
    by rest None is there = let later = rest there in (later.0, inr later.1, later.2)
    by rest (Some other) is (inl same) = (x, inl refl, is ∙ ap Some same)
    by rest (Some other) is (inr there) = let later = rest there in (later.0, inr later.1, later.2)

module _ (table : RouteTable) (runs : List (Option Run)) (now : ℕ) where
  -- a place that is due and goes to a hop is among those of an attempt for it
  due_some : (recipients : List Recipient) (hop : List ℕ) (n k : ℕ) (places : List Place)
      → Among (places_where (λ m place. is_due_at now place) n places) k → goes_to table recipients hop k ≡ true
      → places_where (is_due_for table recipients hop now) n places ≢ []
  due_some recipients hop n k [] among goes = absurd among
  due_some recipients hop n k (place ∷ places) among goes =
      by (λ there. due_some recipients hop (suc n) k places there goes) (is_due_at now place) among
    where
      rest_is : (b : Bool) (rest : List ℕ) → rest ≢ [] → (if b then n ∷ [] else []) ++ rest ≢ []
      rest_is true rest some none = let none : Some n ≡ None = ap (λ (l : List ℕ). slice_get l 0) none in none-some n (sym none)
      rest_is false rest some none = some none

      here : (b : Bool) (rest : List ℕ) → b ≡ true → (if b then n ∷ [] else []) ++ rest ≢ []
      here true rest is none = let none : Some n ≡ None = ap (λ (l : List ℕ). slice_get l 0) none in none-some n (sym none)
      here false rest is none = false≢true is

      by : (Among (places_where (λ m place. is_due_at now place) (suc n) places) k
          → places_where (is_due_for table recipients hop now) (suc n) places ≢ [])
          → (b : Bool)
          → Among ((if b then n ∷ [] else []) ++ places_where (λ m place. is_due_at now place) (suc n) places) k
          → (if b && goes_to table recipients hop n then n ∷ [] else [])
          ++ places_where (is_due_for table recipients hop now) (suc n) places ≢ []
      by rest true (inl same) =
          here (goes_to table recipients hop n) (places_where (is_due_for table recipients hop now) (suc n) places)
          (ap (λ (m : ℕ). goes_to table recipients hop m) same ∙ goes)
      by rest true (inr there) =
          rest_is (goes_to table recipients hop n) (places_where (is_due_for table recipients hop now) (suc n) places) (rest there)
      by rest false there = rest there

  -- the message has this work
  abbrev pub HasWork : ℕ → Message → Work → Type 0
  HasWork number message (NoRoute other) = (number ≡ other) × (is_any (stranded_places table message) ≡ true)
  HasWork number message (Try other hop) =
      (number ≡ other) × (is_running runs number hop ≡ false) × (due_places_in table hop now message ≢ [])

  -- the first try of a message
  first_try : (number : ℕ) (names : List (List ℕ)) (work : Work) → slice_get (map (Try number) names) 0 ≡ Some work
      → (hop : List ℕ) × (slice_get names 0 ≡ Some hop) × (Try number hop ≡ work)
  first_try number [] work is = absurd (none-some work is)
  first_try number (name ∷ names) work is = (name, refl, same_Some (Try number name) work is)

  not_true : (b : Bool) → not b ≡ true → b ≡ false
  not_true true is = absurd (false≢true is)
  not_true false is = refl

  has_try : (number : ℕ) (message : Message) (work : Work)
      → slice_get (tries runs number (due_hops table now message.accept.envelope.recipients message.places)) 0 ≡ Some work
      → HasWork number message work
  has_try number message work is =
      let recipients = message.accept.envelope.recipients in
      let due = due_hops table now recipients message.places in
      let first = first_try number (filter (λ hop. not (is_running runs number hop)) (each_once due)) work is in
      let passes = first_passes (λ hop. not (is_running runs number hop)) (each_once due) first.0 first.1 in
      let place = hop_among (hop_of_place table recipients) (places_where (λ m place. is_due_at now place) 0 message.places) first.0
      (once_among due first.0 passes.1) in
      let goes : goes_to table recipients first.0 place.0 ≡ true =
      ap (λ (o : Option (List ℕ)). option_map_or (λ name. bytes_eq name first.0) o false) place.2
      ∙ (bytes_eq-Decides first.0 first.0).1 refl in
      subst (λ (w : Work). HasWork number message w) first.2 (
        refl,
        not_true (is_running runs number first.0) passes.0,
        due_some recipients first.0 0 place.0 message.places place.1 goes,
      )

  has_first : (number : ℕ) (message : Message) (work : Work) → slice_get (message_works table runs now number message) 0 ≡ Some work
      → HasWork number message work
  has_first number message work is = by (is_any (stranded_places table message)) refl is
    where
      by : (b : Bool) → is_any (stranded_places table message) ≡ b
          → slice_get ((if b then NoRoute number ∷ [] else [])
          ++ tries runs number (due_hops table now message.accept.envelope.recipients message.places)) 0 ≡ Some work
          → HasWork number message work
      by true any at = subst (λ (w : Work). HasWork number message w) (same_Some (NoRoute number) work at) (refl, any)
      by false any at = has_try number message work at

  -- the first work of a queue is that of a message in it
  pub record IsWorkOf (queue : Queue) (work : Work) : Type 0 where
    pub number : ℕ
    pub message : Message
    pub found : message_of queue.messages number ≡ Some message
    pub has : HasWork number message work

  pub first_is_due : (changes : List Change) (queue : Queue) (work : Work) → queue ≡ queue_of changes
      → slice_get (works_of table runs now queue) 0 ≡ Some work → IsWorkOf queue work
  first_is_due changes queue work is first =
      let rise : Rise 0 queue.next queue.messages =
      subst (λ (q : Queue). Rise 0 q.next q.messages) (sym is) (queue_rises changes) in
      let one = first_entry (λ (entry : ℕ × Message). message_works table runs now entry.0 entry.1) 0 queue.next queue.messages work
      rise first in
      record {
        number = one.entry.0;
        message = one.entry.1;
        found = one.found;
        has = has_first one.entry.0 one.entry.1 work one.its;
      }

-- where a number is free, not all are taken
not_full : (runs : List (Option Run)) (number : ℕ) → IsLeastFree runs number → IsFull runs → ⊥
not_full runs number least full = full.1 number least.within least.free

module _ {D : Type 0} (node : NodeState D) (now message : ℕ) (live : node.records.spool.live ≡ true) where
  -- a node refuses the attempt of its first work for want of memory, or of a free number, and of nothing else
  refused_try : (hop : List ℕ) (fault : NodeFault)
      → IsWorkOf node.config.routes node.attempts now node.records.queue (Try message hop)
      → RefusesToStart node.config.host node.config.routes message hop now node.records node.attempts fault
      → ((fault ≡ NoMemory) × (IsFull node.attempts → ⊥)) ⊎ ((fault ≡ TooMany) × IsFull node.attempts)
  refused_try hop NoMemory work refuses = inl (refl, not_full node.attempts refuses.1.least refuses.1.free)
  refused_try hop Stopped work refuses = absurd (true≢false (sym live ∙ refuses))
  refused_try hop Unknown work refuses =
      absurd (none-some work.message
      (sym refuses.1 ∙ ap (λ (n : ℕ). message_of node.records.queue.messages n) (sym work.has.0) ∙ work.found))
  refused_try hop TooMany work refuses = inr (refl, refuses.2)
  refused_try hop NotDue work refuses =
      let same : work.message ≡ refuses.1.message = same_Some work.message refuses.1.message
      (sym work.found ∙ ap (λ (n : ℕ). message_of node.records.queue.messages n) work.has.0 ∙ refuses.1.found) in
      absurd (work.has.2 (ap (λ (m : Message). due_places_in node.config.routes hop now m) same ∙ refuses.3))
  refused_try hop Busy work refuses =
      absurd (true≢false (sym refuses.2 ∙ ap (λ (n : ℕ). is_running node.attempts n hop) (sym work.has.0) ∙ work.has.1))
  refused_try hop (Open cause) work refuses = absurd refuses
  refused_try hop Full work refuses = absurd refuses
  refused_try hop NoSecond work refuses = absurd refuses

  -- and it refuses to give up the places of its first work for want of memory, or of room
  refused_no_route : (words : DiskWords D) (fault : NodeFault)
      → IsWorkOf node.config.routes node.attempts now node.records.queue (NoRoute message)
      → RefusesToGiveUp words (reporter_of node.config) node.config.routes message now node.records node.records fault
      → (fault ≡ NoMemory)
      ⊎ ((fault ≡ Full) × HasNoRoomFor words (reporter_of node.config) node.config.routes message now node.records)
  refused_no_route words NoMemory work refuses = inl refl
  refused_no_route words Stopped work (inl before) = absurd (true≢false (sym live ∙ before.0))
  refused_no_route words Stopped work (inr stopped) = absurd (true≢false (sym live ∙ stopped.live))
  refused_no_route words Unknown work refuses =
      absurd (none-some work.message
      (sym refuses.1 ∙ ap (λ (n : ℕ). message_of node.records.queue.messages n) (sym work.has.0) ∙ work.found))
  refused_no_route words TooMany work refuses = absurd refuses
  refused_no_route words NotDue work refuses =
      let same : work.message ≡ refuses.1.message = same_Some work.message refuses.1.message
      (sym work.found ∙ ap (λ (n : ℕ). message_of node.records.queue.messages n) work.has.0 ∙ refuses.1.found) in
      absurd (true≢false (sym work.has.1
      ∙ ap (λ (m : Message). is_any (stranded_places node.config.routes m)) same ∙ ap is_any refuses.1.none))
  refused_no_route words Busy work refuses = absurd refuses
  refused_no_route words (Open cause) work refuses = absurd refuses
  refused_no_route words Full work refuses = inr (refl, refuses.2)
  refused_no_route words NoSecond work refuses = absurd refuses

module _ {D : Type 0} (honest : Type 0) (words : DiskWords D) (now message : ℕ) (old new : Host D) where
  -- the work of a host that is up with a node
  work_of : (node : NodeState D) (work : Work) → old.state ≡ Up node → KnowsChanges honest words node
      → slice_get (works_in now old.state) 0 ≡ Some work → IsWorkOf node.config.routes node.attempts now node.records.queue work
  work_of node work up knows first =
      first_is_due node.config.routes node.attempts now knows.changes node.records.queue work knows.keeps.queue
      (ap (λ (h : HostState D). slice_get (works_in now h) 0) (sym up) ∙ first)

  pub begins_unless_full : (hop : List ℕ) (result : Begun) → HasChanges honest words old
      → BeginsOrNot honest words now old new message hop result
      → slice_get (works_in now old.state) 0 ≡ Some (Try message hop) → BeginsUnlessFull old result
  begins_unless_full hop (begun.Done started) has begins first =
      let knows : KnowsChanges honest words begins.before =
      subst (λ (h : HostState D). HoldsChanges honest words h) begins.runs.up has in
      let began = begins.begins knows.changes knows.keeps in
      subst (λ (h : HostState D). IsFull (attempts_in h) → ⊥) (sym begins.runs.up)
      (not_full begins.before.attempts started.attempt began.least)
  begins_unless_full hop (begun.Refused fault) has refuses first =
      let knows : KnowsChanges honest words refuses.before =
      subst (λ (h : HostState D). HoldsChanges honest words h) refuses.up has in
      subst (λ (h : HostState D). ((fault ≡ NoMemory) × (IsFull (attempts_in h) → ⊥))
      ⊎ ((fault ≡ TooMany) × IsFull (attempts_in h))) (sym refuses.up)
      (refused_try refuses.before now message knows.keeps.live hop fault
      (work_of refuses.before (Try message hop) refuses.up knows first) refuses.refused)
  begins_unless_full hop begun.NoRoom has same first = tt

  pub gives_up_unless_full : (result : GivenUp) → HasChanges honest words old
      → GivesUpOrNot honest words NoHop now old new message result
      → slice_get (works_in now old.state) 0 ≡ Some (NoRoute message)
      → GivesUpUnlessFull honest words now old message result
  gives_up_unless_full (given.Done change recorded) has gives first = tt
  gives_up_unless_full (given.Refused fault) has refuses first =
      let knows : KnowsChanges honest words refuses.before =
      subst (λ (h : HostState D). HoldsChanges honest words h) refuses.up has in
      subst (λ (h : HostState D). (fault ≡ NoMemory) ⊎ ((fault ≡ Full) × LacksRoom honest words now h message)) (sym refuses.up)
      (refused_no_route refuses.before now message knows.keeps.live words fault
      (work_of refuses.before (NoRoute message) refuses.up knows first) refuses.refused)
  gives_up_unless_full given.Stopped has stops first = tt
  gives_up_unless_full given.NoRoom has same first = tt

-- a client that is let in changes nothing of the work, nor of the attempts
pub same_work : {D : Type 0} (now : ℕ) (old new : Host D) (peer : List ℕ) (connected : Connected)
    → OpensSession old new peer connected → works_in now new.state ≡ works_in now old.state
same_work now old new peer connected opens =
    ap (λ (h : Host _). works_in now h.state) opens.runs.new_is
    ∙ ap (λ (c : Config). works_of c.routes opens.after.attempts now opens.after.records.queue) opens.runs.config
    ∙ ap (λ (a : List (Option Run)). works_of opens.before.config.routes a now opens.after.records.queue) opens.attempts
    ∙ ap (λ (k : Kept _). works_of opens.before.config.routes opens.before.attempts now k.queue) opens.records
    ∙ ap (λ (h : HostState _). works_in now h) (sym opens.runs.up)

pub same_attempts : {D : Type 0} (old new : Host D) (peer : List ℕ) (connected : Connected)
    → OpensSession old new peer connected → attempts_in new.state ≡ attempts_in old.state
same_attempts old new peer connected opens =
    ap (λ (h : Host _). attempts_in h.state) opens.runs.new_is ∙ opens.attempts
    ∙ ap (λ (h : HostState _). attempts_in h) (sym opens.runs.up)
