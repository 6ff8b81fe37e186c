-- Messages whose places are withdrawn one after another, and one message more.
use Rattle.std.proofs.Common.{◌≡◌, ◌≢◌, ◌⊎◌, ◌≤◌, ◌<◌, ◌^◌, inl, inr, ℕ, zero, suc, ◌+◌, Bool, true, false, List, [], ◌∷◌, ◌++◌, length, map, take, get_or, Result, refl, sym, ap, ◌∙◌, subst, append_assoc, append-nil, length-append, arith}
use Rattle.std.specs.Prelude.{Ok, Err, IfErr, IfOk, Option, Some, slice_get}
use Rattle.std.proofs.lemmas.List.{length-map, length-take-le, map-append, take_all, take_more}
use Rattle.std.proofs.lemmas.Bool.{false≢true}
use Rattle.relay_disk.specs.Device.{DiskWords}
use Rattle.relay_spool.specs.Image.{room_of}
use Rattle.relay_spool.specs.Pair.{HasBodies}
use Rattle.relay_spool.specs.Spool.{AtEachMoment}
use Rattle.relay_book.specs.declared.change.Change.{Change}
use Rattle.relay_book.specs.declared.change.Withdrawal.{Withdrawal}
use Rattle.relay_routes.specs.declared.config.Config.{Config}
use Rattle.relay_attempts.specs.declared.runs.Run.{Run}
use Rattle.relay_node.specs.declared.seat.Seat.{Seat}
use Rattle.relay_records.specs.Records.{Keeps, Kept}
use Rattle.relay_records.specs.Staged.{Awaits, CutsAll, RefusesToSettle, Row, StandsForOrWithAll, no_row}
use Rattle.relay_records.specs.declared.fault.NodeFault.{NodeFault}
use Rattle.relay_loop.specs.declared.withdrawing.Chosen.{Chosen}
use Rattle.relay_loop.specs.GroupPieces.{IsLaden, IsUndone}
use Rattle.relay_loop.specs.Relay.{RelayState}
use Rattle.relay_loop.specs.Withdrawing.{EndsOrRefuses, HasNoMemory, KeepsAllButMail, MessagePlaces, RefusesToWithdrawAll, WithdrawsEach, WithdrawsOne, WithdrawsSome, choice_of}
use Rattle.relay_records.specs.declared.fault.NodeFault.TheVariants.{NoMemory, Stopped, Unknown, TooMany, NotDue, Busy, Open, Full, NoSecond}
use Rattle.relay_report.specs.Report.{reporter_of}
use Rattle.relay_attempts.specs.AddedOutcome.{reported_as}
use Rattle.relay_attempts.specs.Withdrawals.{withdrawal_of}
use Rattle.relay_attempts.specs.StagedWithdrawals.{RefusesToStageWithdrawal, StagesWithdrawal}
use Rattle.relay_loop.proofs.AwaitedLemmas.{one_more_awaited}
use Rattle.relay_loop.proofs.EachLemmas.{room_after}

-- what a list of chosen places has after its end
abbrev pub no_chosen : Chosen
no_chosen = record { message = 0; places = record { ref_ptr = (0, 0); now = [] } }

-- the first of the messages, and one more
pub chosen_more : (chosen : List Chosen) (i : ℕ) → i < length chosen
    → map choice_of (take (i + 1) chosen) ≡ map choice_of (take i chosen) ++ choice_of (get_or chosen i no_chosen) ∷ []
chosen_more chosen i within =
    ap (map choice_of) (take_more chosen i no_chosen within) ∙ map-append choice_of (take i chosen) (get_or chosen i no_chosen ∷ [])

-- all of them
pub chosen_all : (chosen : List Chosen) (i : ℕ) → length chosen ≤ i → map choice_of (take i chosen) ≡ map choice_of chosen
chosen_all chosen i long = ap (map choice_of) (take_all i chosen long)

-- the message at a place
pub chosen_at : (chosen : List Chosen) (i : ℕ) → i < length chosen
    → slice_get (map choice_of chosen) i ≡ Some (choice_of (get_or chosen i no_chosen))
chosen_at [] i within = absurd (omega (arith, within))
chosen_at (one ∷ chosen) zero within = refl
chosen_at (one ∷ chosen) (suc i) within = chosen_at chosen i (omega (arith, within))

-- the first and the rest
pub front_and_rest : (chosen : List Chosen) (i : ℕ) → (rest : List MessagePlaces) × (map choice_of chosen ≡ map choice_of (take i chosen) ++ rest)
front_and_rest chosen zero = (map choice_of chosen, refl)
front_and_rest [] (suc i) = ([], refl)
front_and_rest (one ∷ chosen) (suc i) =
    let more = front_and_rest chosen i in (more.0, ap (λ (l : List MessagePlaces). choice_of one ∷ l) more.1)

pub stays_all : {D : Type 0} (one two three : RelayState D) → KeepsAllButMail one two → KeepsAllButMail two three → KeepsAllButMail one three
stays_all one two three first second = record {
  config = second.config ∙ first.config;
  seats = second.seats ∙ first.seats;
  attempts = second.attempts ∙ first.attempts;
  clients = second.clients ∙ first.clients;
  hops = second.hops ∙ first.hops;
}

pub stays_itself : {D : Type 0} (one : RelayState D) → KeepsAllButMail one one
stays_itself one = record { config = refl; seats = refl; attempts = refl; clients = refl; hops = refl }

-- a relay with the same records, of which nothing else changed, is the same
same_state : {D : Type 0} (old new : RelayState D) → KeepsAllButMail old new → new.node.records ≡ old.node.records → new ≡ old
same_state {D = D} old new rest records =
    ap (λ (config : Config). state_of config new.node.seats new.node.attempts new.node.records new.clients new.hops) rest.config
    ∙ ap (λ (seats : List (Option Seat)). state_of old.node.config seats new.node.attempts new.node.records new.clients new.hops) rest.seats
    ∙ ap (λ (attempts : List (Option Run)). state_of old.node.config old.node.seats attempts new.node.records new.clients new.hops) rest.attempts
    ∙ ap (λ (kept : Kept D). state_of old.node.config old.node.seats old.node.attempts kept new.clients new.hops) records
    ∙ ap (λ (clients : List (Option (List ℕ))). state_of old.node.config old.node.seats old.node.attempts old.node.records clients new.hops) rest.clients
    ∙ ap (λ (hops : List (Option (List ℕ))). state_of old.node.config old.node.seats old.node.attempts old.node.records old.clients hops) rest.hops
  where
    state_of : Config → List (Option Seat) → List (Option Run) → Kept D → List (Option (List ℕ)) → List (Option (List ℕ)) → RelayState D
    state_of config seats attempts kept clients hops = record {
      node = record { config = config; seats = seats; attempts = attempts; records = kept };
      clients = clients;
      hops = hops;
    }

module _ {D : Type 0} (words : DiskWords D) (at : ℕ) (withdrawal : Withdrawal) where
  -- a message whose places end
  ended_one : (choice : MessagePlaces) (old : RelayState D) (row : Row) (new : RelayState D) (left : Row) (number : ℕ)
      → (IsLaden row → ⊥) → KeepsAllButMail old new
      → StagesWithdrawal words (reporter_of old.node.config) old.node.attempts choice.message at withdrawal choice.places
      old.node.records new.node.records row left number
      → (more : List Change) × WithdrawsOne words at withdrawal choice old row new left more (Ok number)
  ended_one choice old row new left number light rest stages = (
    reported_as (withdrawal_of choice.message at withdrawal choice.places stages.message) stages.grows.report ∷ [],
    record { has_room = light; by = record { stages = stages; more_is = refl }; rest = rest },
  )

  -- records and row are the same where nothing was staged
  unstaged : (choice : MessagePlaces) (old : RelayState D) (row : Row) (new : RelayState D) (left : Row) (fault : NodeFault)
      → KeepsAllButMail old new
      → RefusesToStageWithdrawal words (reporter_of old.node.config) old.node.attempts choice.message at withdrawal choice.places
      old.node.records new.node.records row left fault → (new ≡ old) × (left ≡ row)
  unstaged choice old row new left NoMemory rest why = (same_state old new rest why.2, why.3)
  unstaged choice old row new left Unknown rest why = (same_state old new rest why.1, why.2)
  unstaged choice old row new left Busy rest why = (same_state old new rest why.2, why.3)
  unstaged choice old row new left Full rest why = (same_state old new rest why.1, why.2)
  unstaged choice old row new left Stopped rest why = absurd why
  unstaged choice old row new left TooMany rest why = absurd why
  unstaged choice old row new left NotDue rest why = absurd why
  unstaged choice old row new left (Open cause) rest why = absurd why
  unstaged choice old row new left NoSecond rest why = absurd why

  -- a message whose places are refused
  refused_one : (choice : MessagePlaces) (old : RelayState D) (row : Row) (new : RelayState D) (left : Row) (fault : NodeFault)
      → (IsLaden row → ⊥) → KeepsAllButMail old new → fault ≢ NoMemory
      → RefusesToStageWithdrawal words (reporter_of old.node.config) old.node.attempts choice.message at withdrawal choice.places
      old.node.records new.node.records row left fault
      → (more : List Change) × WithdrawsOne words at withdrawal choice old row new left more (Err fault)
  refused_one choice old row new left fault light rest other why =
      let same = unstaged choice old row new left fault rest why in (
        [],
        record {
          has_room = light;
          by = record { why = why; other = other; none = refl; same = same.0; row_is = same.1 };
          rest = rest;
        },
      )

  -- the places of a message end, or they are refused
  pub one_by : (choice : MessagePlaces) (old : RelayState D) (row : Row) (new : RelayState D) (left : Row) (answer : Result ℕ NodeFault)
      → (IsLaden row → ⊥) → KeepsAllButMail old new → (answer ≡ Err NoMemory → ⊥)
      → IfOk answer (StagesWithdrawal words (reporter_of old.node.config) old.node.attempts choice.message at withdrawal choice.places
      old.node.records new.node.records row left)
      → IfErr answer (RefusesToStageWithdrawal words (reporter_of old.node.config) old.node.attempts choice.message at withdrawal choice.places
      old.node.records new.node.records row left)
      → (more : List Change) × WithdrawsOne words at withdrawal choice old row new left more answer
  one_by choice old row new left (Ok number) light rest other stages why = ended_one choice old row new left number light rest stages
  one_by choice old row new left (Err fault) light rest other stages why =
      refused_one choice old row new left fault light rest (λ is. other (ap Err is)) why

  -- memory ran out for them
  pub short_by : (choice : MessagePlaces) (old : RelayState D) (row : Row) (new : RelayState D) (left : Row) (answer : Result ℕ NodeFault)
      → KeepsAllButMail old new → answer ≡ Err NoMemory
      → IfErr answer (RefusesToStageWithdrawal words (reporter_of old.node.config) old.node.attempts choice.message at withdrawal choice.places
      old.node.records new.node.records row left)
      → (new ≡ old) × (left ≡ row) × RefusesToStageWithdrawal words (reporter_of old.node.config) old.node.attempts choice.message at withdrawal
      choice.places old.node.records new.node.records row left NoMemory
  short_by choice old row new left answer rest is refused =
      let why : RefusesToStageWithdrawal words (reporter_of old.node.config) old.node.attempts choice.message at withdrawal choice.places
      old.node.records new.node.records row left NoMemory =
      subst
      (λ (it : Result ℕ NodeFault). IfErr it (RefusesToStageWithdrawal words (reporter_of old.node.config) old.node.attempts choice.message at withdrawal choice.places
      old.node.records new.node.records row left))
      is refused in
      let same = unstaged choice old row new left NoMemory rest why in (same.0, same.1, why)

  -- no device was called for one message
  undone_by : (choice : MessagePlaces) (old : RelayState D) (row : Row) (new : RelayState D) (left : Row) (more : List Change)
      (result : Result ℕ NodeFault) → EndsOrRefuses words at withdrawal choice old row new left more result → IsUndone old new
  undone_by choice old row new left more (Ok number) ends =
      record { spool = ends.stages.grows.stages.spool; noted = ends.stages.grows.stages.noted }
  undone_by choice old row new left more (Err fault) refuses =
      record { spool = ap (λ (s : RelayState D). s.node.records.spool) refuses.same; noted = ap (λ (s : RelayState D). s.node.records.noted) refuses.same }

  -- the largest spool has room for what it staged
  room_by : (choice : MessagePlaces) (old : RelayState D) (row : Row) (new : RelayState D) (left : Row) (more : List Change)
      (result : Result ℕ NodeFault) → EndsOrRefuses words at withdrawal choice old row new left more result
      → (left ≡ row) ⊎ (new.node.records.spool.size + room_of left.bodies ≤ 2 ^ 40)
  room_by choice old row new left more (Ok number) ends = inr ends.stages.grows.stages.room
  room_by choice old row new left more (Err fault) refuses = inl refuses.row_is

  -- what it staged is awaited too
  awaited_by : (honest : Type 0) (choice : MessagePlaces) (old : RelayState D) (row : Row) (new : RelayState D) (left : Row) (more : List Change)
      (result : Result ℕ NodeFault) → EndsOrRefuses words at withdrawal choice old row new left more result → (changes pending : List Change)
      → Awaits honest words old.node.records changes pending row → Awaits honest words new.node.records changes (pending ++ more) left
  awaited_by honest choice old row new left more (Ok number) ends changes pending awaits =
      subst (λ (l : List Change). Awaits honest words new.node.records changes (pending ++ l) left) (sym ends.more_is)
      (one_more_awaited honest words changes pending old.node.records new.node.records row left _ 0 number awaits ends.stages.grows.fits ends.stages.grows.stages)
  awaited_by honest choice old row new left more (Err fault) refuses changes pending awaits =
      subst (λ (l : List Change). Awaits honest words new.node.records changes l left) (sym (append-nil pending) ∙ ap (λ (l : List Change). pending ++ l) (sym refuses.none))
      (subst (λ (r : Row). Awaits honest words new.node.records changes pending r) (sym refuses.row_is)
      (subst (λ (s : RelayState D). Awaits honest words s.node.records changes pending row) (sym refuses.same) awaits))

  -- one message more has a result
  each_more : (choices : List MessagePlaces) (results : List (Result ℕ NodeFault)) (choice : MessagePlaces) (result : Result ℕ NodeFault)
      (old : RelayState D) (row : Row) (mid : RelayState D) (between : Row) (new : RelayState D) (left : Row) (all more : List Change)
      → length results ≡ length choices → WithdrawsEach words at withdrawal choices results old row mid between all
      → WithdrawsOne words at withdrawal choice mid between new left more result
      → WithdrawsEach words at withdrawal (choices ++ choice ∷ []) (results ++ result ∷ []) old row new left (all ++ more)
  each_more [] [] choice result old row mid between new left all more lengths (same, row_is, none) one = (
    new,
    left,
    more,
    [],
    ap (λ (l : List Change). l ++ more) none ∙ sym (append-nil more),
    subst (λ (s : RelayState D). WithdrawsOne words at withdrawal choice s row new left more result) same
        (subst (λ (r : Row). WithdrawsOne words at withdrawal choice mid r new left more result) row_is one),
    (refl, refl, refl),
  )
  each_more [] (first ∷ results) choice result old row mid between new left all more lengths each one = absurd each
  each_more (first ∷ choices) [] choice result old row mid between new left all more lengths each one = absurd (omega (arith, lengths))
  each_more (first ∷ choices) (done ∷ results) choice result old row mid between new left all more lengths (later, beside, its, others, is, by, each) one = (
    later,
    beside,
    its,
    others ++ more,
    ap (λ (l : List Change). l ++ more) is ∙ append_assoc its others more,
    by,
    each_more choices results choice result later beside mid between new left others more (omega (arith, lengths)) each one,
  )

  -- others that have no result come after them
  each_among : (choices others : List MessagePlaces) (results : List (Result ℕ NodeFault)) (old : RelayState D) (row : Row) (new : RelayState D)
      (left : Row) (all : List Change) → WithdrawsEach words at withdrawal choices results old row new left all
      → WithdrawsEach words at withdrawal (choices ++ others) results old row new left all
  each_among choices others [] old row new left all each = each
  each_among [] others (result ∷ results) old row new left all each = absurd each
  each_among (choice ∷ choices) others (result ∷ results) old row new left all (later, beside, its, rest, is, by, each) =
      (later, beside, its, rest, is, by, each_among choices others results later beside new left rest each)

-- the first messages have their results, from this relay and row to those
module _ {D : Type 0} (honest : Type 0) (words : DiskWords D) (at : ℕ) (withdrawal : Withdrawal) (first : RelayState D) (row : Row) where
  -- the first messages have these results, and the changes that they staged are awaited too
  abbrev pub HasSome : List Chosen → List (Result ℕ NodeFault) → Bool → RelayState D → Row → Type 0
  HasSome chosen results is_short mid between =
      (all : List Change) × WithdrawsSome words at withdrawal (map choice_of chosen) results is_short first row mid between all
      × ((changes pending : List Change) → Awaits honest words first.node.records changes pending row
      → Awaits honest words mid.node.records changes (pending ++ all) between)

  pub record Goes (choices : List MessagePlaces) (results : List (Result ℕ NodeFault)) (mid : RelayState D) (between : Row) : Type 0 where
    pub live : mid.node.records.spool.live ≡ true
    pub undone : IsUndone first mid
    pub room : (between ≡ row) ⊎ (mid.node.records.spool.size + room_of between.bodies ≤ 2 ^ 40)
    pub rest : KeepsAllButMail first mid
    pub lengths : length results ≡ length choices
    pub all : List Change
    pub each : WithdrawsEach words at withdrawal choices results first row mid between all
    pub awaits : (changes pending : List Change) → Awaits honest words first.node.records changes pending row
        → Awaits honest words mid.node.records changes (pending ++ all) between

  pub goes_nowhere : first.node.records.spool.live ≡ true → (results : List (Result ℕ NodeFault)) → results ≡ [] → Goes [] results first row
  goes_nowhere live results none = record {
    live = live;
    undone = record { spool = refl; noted = refl };
    room = inl refl;
    rest = stays_itself first;
    lengths = ap length none;
    all = [];
    each = subst (λ (l : List (Result ℕ NodeFault)). WithdrawsEach words at withdrawal [] l first row first row []) (sym none) (refl, refl, refl);
    awaits = λ changes pending awaits. subst (λ (l : List Change). Awaits honest words first.node.records changes l row) (sym (append-nil pending)) awaits;
  }

  pub goes_on : (choices : List MessagePlaces) (results : List (Result ℕ NodeFault)) (mid new : RelayState D) (between left : Row) (choice : MessagePlaces)
      (result : Result ℕ NodeFault) → Goes choices results mid between
      → (more : List Change) × WithdrawsOne words at withdrawal choice mid between new left more result
      → Goes (choices ++ choice ∷ []) (results ++ result ∷ []) new left
  goes_on choices results mid new between left choice result so (more, one) =
      let undone = undone_by words at withdrawal choice mid between new left more result one.by in
      record {
        live = ap (λ s. s.live) undone.spool ∙ so.live;
        undone = record { spool = undone.spool ∙ so.undone.spool; noted = undone.noted ∙ so.undone.noted };
        room = room_after mid new row between left undone so.room (room_by words at withdrawal choice mid between new left more result one.by);
        rest = stays_all first mid new so.rest one.rest;
        lengths = length-append results (result ∷ []) ∙ ap (λ n. n + 1) so.lengths ∙ sym (length-append choices (choice ∷ []));
        all = so.all ++ more;
        each = each_more words at withdrawal choices results choice result first row mid between new left so.all more so.lengths so.each one;
        awaits = λ changes pending awaits.
            subst (λ (l : List Change). Awaits honest words new.node.records changes l left) (append_assoc pending so.all more)
            (awaited_by words at withdrawal honest choice mid between new left more result one.by changes (pending ++ so.all) (so.awaits changes pending awaits));
      }

  -- what stands where no more messages are tried
  pub record Stood (chosen : List Chosen) (results : List (Result ℕ NodeFault)) (is_short : Bool) (mid : RelayState D) (between : Row) : Type 0 where
    pub some : HasSome chosen results is_short mid between
    pub rest : KeepsAllButMail first mid
    pub room : (between ≡ row) ⊎ (mid.node.records.spool.size + room_of between.bodies ≤ 2 ^ 40)
    pub within : length results ≤ length chosen

  -- the results so far are of all messages, of which some have none
  of_all : (chosen : List Chosen) (i : ℕ) (results : List (Result ℕ NodeFault)) (mid : RelayState D) (between : Row)
      (so : Goes (map choice_of (take i chosen)) results mid between)
      → WithdrawsEach words at withdrawal (map choice_of chosen) results first row mid between so.all
  of_all chosen i results mid between so =
      let rest = front_and_rest chosen i in
      subst (λ (l : List MessagePlaces). WithdrawsEach words at withdrawal l results first row mid between so.all) (sym rest.1)
      (each_among words at withdrawal (map choice_of (take i chosen)) rest.0 results first row mid between so.all so.each)

  as_many : (chosen : List Chosen) (i : ℕ) (results : List (Result ℕ NodeFault)) → i < length chosen → length results ≡ length (map choice_of (take i chosen)) → length results ≡ i
  as_many chosen i results within lengths =
      let mapped = length-map (take i chosen) choice_of in
      let taken = length-take-le i chosen (omega (arith, within)) in
      omega (arith, lengths, mapped, taken, within)

  -- the row is full
  pub stood_full : (chosen : List Chosen) (i : ℕ) (results : List (Result ℕ NodeFault)) (mid : RelayState D) (between : Row) → i < length chosen
      → Goes (map choice_of (take i chosen)) results mid between → IsLaden between → Stood chosen results false mid between
  stood_full chosen i results mid between within so laden =
      let count = as_many chosen i results within so.lengths in
      record {
        some = (
          so.all,
          record {
            each = of_all chosen i results mid between so;
            undone = so.undone;
            short = λ is. absurd (false≢true is);
            whole = λ is. inr laden;
          },
          so.awaits,
        );
        rest = so.rest;
        room = so.room;
        within = omega (arith, count, within);
      }

  -- memory ran out for the next message
  pub stood_short : (chosen : List Chosen) (i : ℕ) (results : List (Result ℕ NodeFault)) (mid new : RelayState D) (between left : Row) → i < length chosen
      → Goes (map choice_of (take i chosen)) results mid between → (IsLaden between → ⊥) → new ≡ mid → left ≡ between
      → RefusesToStageWithdrawal words (reporter_of mid.node.config) mid.node.attempts (get_or chosen i no_chosen).message at withdrawal
      (get_or chosen i no_chosen).places.now mid.node.records new.node.records between left NoMemory
      → Stood chosen results true new left
  stood_short chosen i results mid new between left within so light same row_is why =
      subst (λ (s : RelayState D). Stood chosen results true s left) (sym same) (subst (λ (r : Row). Stood chosen results true mid r) (sym row_is) there)
    where
      count : length results ≡ i
      count = as_many chosen i results within so.lengths

      there : Stood chosen results true mid between
      there = record {
        some = (
          so.all,
          record {
            each = of_all chosen i results mid between so;
            undone = so.undone;
            short = λ is. record {
              choice = choice_of (get_or chosen i no_chosen);
              next = ap (slice_get (map choice_of chosen)) count ∙ chosen_at chosen i within;
              has_room = light;
              why =
                  subst
                  (λ (s : RelayState D). RefusesToStageWithdrawal words (reporter_of mid.node.config) mid.node.attempts (get_or chosen i no_chosen).message at withdrawal
                  (get_or chosen i no_chosen).places.now mid.node.records s.node.records between between NoMemory)
                  same
                  (subst
                  (λ (r : Row). RefusesToStageWithdrawal words (reporter_of mid.node.config) mid.node.attempts (get_or chosen i no_chosen).message at withdrawal
                  (get_or chosen i no_chosen).places.now mid.node.records new.node.records between r NoMemory)
                  row_is why);
            };
            whole = λ is. absurd (false≢true (sym is));
          },
          so.awaits,
        );
        rest = so.rest;
        room = so.room;
        within = omega (arith, count, within);
      }

  -- all have a result
  pub stood_whole : (chosen : List Chosen) (i : ℕ) (results : List (Result ℕ NodeFault)) (mid : RelayState D) (between : Row) → length chosen ≤ i
      → Goes (map choice_of (take i chosen)) results mid between → Stood chosen results false mid between
  stood_whole chosen i results mid between long so =
      let mapped = ap (λ (l : List MessagePlaces). length l) (chosen_all chosen i long) in
      let all = length-map chosen choice_of in
      let lengths = so.lengths in
      record {
        some = (
          so.all,
          record {
            each =
                subst (λ (l : List MessagePlaces). WithdrawsEach words at withdrawal l results first row mid between so.all) (chosen_all chosen i long) so.each;
            undone = so.undone;
            short = λ is. absurd (false≢true is);
            whole = λ is. inl (lengths ∙ mapped);
          },
          so.awaits,
        );
        rest = so.rest;
        room = so.room;
        within = omega (arith, lengths, mapped, all);
      }

-- a row that the largest spool has room for isn't too large
pub not_too_large : (row start : Row) (size : ℕ) → start ≡ no_row → (row ≡ start) ⊎ (size + room_of row.bodies ≤ 2 ^ 40)
    → (2 ^ 40 < size + room_of row.bodies) × (row.bodies ≢ []) → ⊥
not_too_large row start size none (inl same) large = large.1 (ap (λ (r : Row). r.bodies) (same ∙ none))
not_too_large row start size none (inr within) large = let more = large.0 in omega (arith, within, more)

-- the device failed while the row came into the spool
pub fails_all : {D : Type 0} (honest : Type 0) (words : DiskWords D) (at : ℕ) (withdrawal : Withdrawal) (choices : List MessagePlaces)
    (results : List (Result ℕ NodeFault)) (is_short : Bool) (old before new : RelayState D) (row : Row) (all : List Change)
    → WithdrawsSome words at withdrawal choices results is_short old no_row before row all → KeepsAllButMail old new → (fault : NodeFault)
    → RefusesToSettle words before.node.records new.node.records fault → fault ≢ Full
    → (fault ≡ Stopped → (changes : List Change) → Keeps honest words old.node.records changes → CutsAll honest words new.node.records changes all row.notes)
    → ((changes : List Change) → Keeps honest words old.node.records changes → honest
    → AtEachMoment words old.node.records.spool.disk new.node.records.spool.disk (HasBodies (StandsForOrWithAll changes all)))
    → RefusesToWithdrawAll honest words at withdrawal choices old new fault
fails_all honest words at withdrawal choices results is_short old before new row all some rest Stopped refused other cuts stop =
    inr (record {
      results = results;
      is_short = is_short;
      before = before;
      row = row;
      all = all;
      some = some;
      stopped = refused;
      rest = rest;
      cuts = cuts refl;
      stop = stop;
    })
fails_all honest words at withdrawal choices results is_short old before new row all some rest Full refused other cuts stop = absurd (other refl)
fails_all honest words at withdrawal choices results is_short old before new row all some rest NoMemory refused other cuts stop = absurd refused
fails_all honest words at withdrawal choices results is_short old before new row all some rest Unknown refused other cuts stop = absurd refused
fails_all honest words at withdrawal choices results is_short old before new row all some rest TooMany refused other cuts stop = absurd refused
fails_all honest words at withdrawal choices results is_short old before new row all some rest NotDue refused other cuts stop = absurd refused
fails_all honest words at withdrawal choices results is_short old before new row all some rest Busy refused other cuts stop = absurd refused
fails_all honest words at withdrawal choices results is_short old before new row all some rest (Open cause) refused other cuts stop = absurd refused
fails_all honest words at withdrawal choices results is_short old before new row all some rest NoSecond refused other cuts stop = absurd refused
