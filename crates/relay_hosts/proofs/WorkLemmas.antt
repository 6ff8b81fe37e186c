-- A host that begins something of itself.
use Rattle.std.proofs.Common.{inl, inr, ◌≡◌, ◌≤◌, ◌<◌, ◌+◌, ℕ, true, false, List, [], ◌∷◌, length, Option, None, Some, Ok, Err, refl, sym, subst, ap, ◌∙◌, arith}
use Rattle.std.specs.Prelude.{◌⊎◌, ◌↔◌, IfErr, IfOk, Result, slice_get, slice_index_or}
use Rattle.std.proofs.lemmas.Bool.{true≢false}
use Rattle.relay_disk.specs.Device.{DiskWords}
use Rattle.relay_slots.specs.Slots.{IsFull, OthersStay}
use Rattle.relay_routes.specs.declared.config.Config.{Config}
use Rattle.relay_routes.specs.Routes.{RouteTable}
use Rattle.relay_book.specs.declared.change.Change.{Change}
use Rattle.relay_records.specs.declared.fault.NodeFault.{NodeFault}
use Rattle.relay_records.specs.declared.fault.NodeFault.TheVariants.{NoMemory, Stopped, Unknown, TooMany, NotDue, Busy, Open, Full, NoSecond}
use Rattle.relay_records.specs.Records.{Keeps, Kept}
use Rattle.relay_attempts.specs.declared.runs.Run.{Run}
use Rattle.relay_attempts.specs.declared.work.Work.{Work}
use Rattle.relay_attempts.specs.Attempts.{RefusesToStart}
use Rattle.relay_attempts.specs.Outcomes.{AddsUnroutable, CutsUnroutable, RefusesToGiveUp}
use Rattle.relay_attempts.specs.Withdrawals.{AddsWithdrawal, CutsWithdrawal, RefusesToWithdraw}
use Rattle.relay_book.specs.declared.change.Withdrawal.{Withdrawal}
use Rattle.relay_attempts.specs.Work.{works_of}
use Rattle.relay_node.specs.declared.seat.Seat.{Seat}
use Rattle.relay_node.specs.declared.node.Connected.{Connected}
use Rattle.relay_node.specs.Node.{Connects, RefusesToConnect, NodeState}
use Rattle.relay_world.specs.GivingUp.{AddsGivenUp, CutsGivenUp, NoHop, Postmaster}
use Rattle.relay_world.specs.World.{Host}
use Rattle.relay_hosts.specs.Call.{is_stop}
use Rattle.relay_hosts.specs.Host.{OwesWithin, host_of, notes_of}
use Rattle.relay_hosts.specs.Work.{HasChanges, KnowsChanges, OpensOrRefuses, OpensSession, RefusesAttempt, RefusesGivingUp, RefusesSession, StopsGivingUp, works_in}
use Rattle.relay_hosts.proofs.CallLemmas.{owed_live, runs_on}
use Rattle.relay_hosts.proofs.SlotLemmas.{count_more}
use Rattle.relay_report.specs.Report.{Reporter, reporter_of}

-- a host whose node and records are as they were
pub same_host : {D : Type 0} (before after : NodeState D) (old new : List (List ℕ)) → after ≡ before → new ≡ old
    → host_of after new ≡ host_of before old
same_host before after old new node records =
    ap (λ (n : NodeState _). host_of n new) node ∙ ap (λ (l : List (List ℕ)). host_of before l) records

-- a node whose parts are as they were
pub same_node : {D : Type 0} (before after : NodeState D) → after.config ≡ before.config → after.seats ≡ before.seats
    → after.attempts ≡ before.attempts → after.records ≡ before.records → after ≡ before
same_node {D} before after config seats attempts records =
    ap (λ (c : Config). let node : NodeState D = record { config = c; seats = after.seats; attempts = after.attempts; records = after.records } in node) config
    ∙ ap (λ (s : List (Option Seat)). let node : NodeState D = record { config = before.config; seats = s; attempts = after.attempts; records = after.records } in node) seats
    ∙ ap (λ (a : List (Option Run)). let node : NodeState D = record { config = before.config; seats = before.seats; attempts = a; records = after.records } in node) attempts
    ∙ ap (λ (k : Kept D). let node : NodeState D = record { config = before.config; seats = before.seats; attempts = before.attempts; records = k } in node) records

-- what is owed by a node that is as it was
pub owes_unchanged : {D : Type 0} (before after : NodeState D) (len capacity owed len_now capacity_now : ℕ)
    → OwesWithin (notes_of before) len capacity owed → after ≡ before → len_now + owed ≤ capacity_now
    → OwesWithin (notes_of after) len_now capacity_now owed
owes_unchanged before after len capacity owed len_now capacity_now room same fits =
    (subst (λ (n : NodeState _). notes_of n ≤ owed) (sym same) room.0, fits)

-- what is owed where an attempt has begun: a record more
pub owes_more : {D : Type 0} (before after : NodeState D) (slot len capacity owed more len_now capacity_now : ℕ)
    → OwesWithin (notes_of before) len capacity owed → before.records.spool.live ≡ true → after.records ≡ before.records
    → OthersStay before.attempts after.attempts slot → more ≡ owed + 1 → len_now + more ≤ capacity_now
    → OwesWithin (notes_of after) len_now capacity_now more
owes_more {D} before after slot len capacity owed more len_now capacity_now room was same others one fits =
    let few = room.0 in
    let live = owed_live before was in
    let now = owed_live after (ap (λ (r : Kept D). r.spool.live) same ∙ was) in
    let count = count_more before.attempts after.attempts slot others in
    (omega (arith, few, live, now, count, one), fits)

-- a refusal to give up leaves the records, unless it is a stop
pub given_up_same : {D : Type 0} (words : DiskWords D) (reporter : Reporter) (table : RouteTable) (message now : ℕ) (old new : Kept D)
    (fault : NodeFault) → is_stop fault ≡ false → RefusesToGiveUp words reporter table message now old new fault → new ≡ old
given_up_same words reporter table message now old new NoMemory ok refuses = refuses.2
given_up_same words reporter table message now old new Stopped ok refuses = absurd (true≢false ok)
given_up_same words reporter table message now old new Unknown ok refuses = refuses.2
given_up_same words reporter table message now old new TooMany ok refuses = absurd refuses
given_up_same words reporter table message now old new NotDue ok refuses = refuses.2
given_up_same words reporter table message now old new Busy ok refuses = absurd refuses
given_up_same words reporter table message now old new (Open cause) ok refuses = absurd refuses
given_up_same words reporter table message now old new Full ok refuses = refuses.1
given_up_same words reporter table message now old new NoSecond ok refuses = absurd refuses

-- so does one to withdraw
pub withdrawn_same : {D : Type 0} (words : DiskWords D) (reporter : Reporter) (runs : List (Option Run)) (message now : ℕ)
    (withdrawal : Withdrawal) (names : List ℕ) (old new : Kept D) (fault : NodeFault) → is_stop fault ≡ false
    → RefusesToWithdraw words reporter runs message now withdrawal names old new fault → new ≡ old
withdrawn_same words reporter runs message now withdrawal names old new NoMemory ok refuses = refuses.3
withdrawn_same words reporter runs message now withdrawal names old new Stopped ok refuses = absurd (true≢false ok)
withdrawn_same words reporter runs message now withdrawal names old new Unknown ok refuses = refuses.2
withdrawn_same words reporter runs message now withdrawal names old new TooMany ok refuses = absurd refuses
withdrawn_same words reporter runs message now withdrawal names old new NotDue ok refuses = absurd refuses
withdrawn_same words reporter runs message now withdrawal names old new Busy ok refuses = refuses.3
withdrawn_same words reporter runs message now withdrawal names old new (Open cause) ok refuses = absurd refuses
withdrawn_same words reporter runs message now withdrawal names old new Full ok refuses = refuses.2
withdrawn_same words reporter runs message now withdrawal names old new NoSecond ok refuses = absurd refuses

-- places without a hop, and places that are withdrawn, are given up
module _ {D : Type 0} (honest : Type 0) (words : DiskWords D) (reporter : Reporter) (table : RouteTable) (number at : ℕ)
    (changes : List Change) (old new : Kept D) where
  pub unroutable_given : (added : ℕ) → AddsUnroutable honest words reporter table number at changes old new added
      → AddsGivenUp honest words reporter table NoHop number at changes old new added
  unroutable_given added adds =
      record { message = adds.message; found = adds.found; named = tt; adds = adds.adds; calls = adds.calls }

  pub unroutable_cut : CutsUnroutable honest words reporter table number at changes old new
      → CutsGivenUp honest words reporter table NoHop number at changes old new
  unroutable_cut cuts = record { message = cuts.message; found = cuts.found; named = tt; cuts = cuts.cuts }

  pub withdrawal_given : (withdrawal : Withdrawal) (names : List ℕ) (added : ℕ)
      → AddsWithdrawal honest words reporter number at withdrawal names changes old new added
      → AddsGivenUp honest words reporter table (Postmaster withdrawal names) number at changes old new added
  withdrawal_given withdrawal names added adds =
      record { message = adds.message; found = adds.found; named = adds.named; adds = adds.adds; calls = adds.calls }

  pub withdrawal_cut : (withdrawal : Withdrawal) (names : List ℕ)
      → CutsWithdrawal honest words reporter number at withdrawal names changes old new
      → CutsGivenUp honest words reporter table (Postmaster withdrawal names) number at changes old new
  withdrawal_cut withdrawal names cuts =
      record { message = cuts.message; found = cuts.found; named = cuts.named; cuts = cuts.cuts }

module _ {D : Type 0} (honest : Type 0) (words : DiskWords D) (before after : NodeState D) (old new : List (List ℕ))
    (message now : ℕ) where
  -- a node that refused to begin an attempt
  pub refuses_attempt : (hop : List ℕ) (fault : NodeFault) → after ≡ before → new ≡ old
      → RefusesToStart before.config.host before.config.routes message hop now before.records before.attempts fault
      → RefusesAttempt honest words now (host_of before old) (host_of after new) message hop fault
  refuses_attempt hop fault node records refused = record {
    before = before;
    up = refl;
    refused = refused;
    new_is = same_host before after old new node records;
  }

  -- a node that refused to give up the places of a message
  pub refuses_giving_up : (fault : NodeFault) → after ≡ before → new ≡ old
      → RefusesToGiveUp words (reporter_of before.config) before.config.routes message now before.records after.records fault
      → RefusesGivingUp honest words NoHop now (host_of before old) (host_of after new) message fault
  refuses_giving_up fault node records refused = record {
    before = before;
    up = refl;
    refused = subst
        (λ (n : NodeState D). RefusesToGiveUp words (reporter_of before.config) before.config.routes message now before.records n.records fault)
        node refused;
    new_is = same_host before after old new node records;
  }

  -- a node that stopped while it gave them up, for its device failed
  pub stops_giving_up : KnowsChanges honest words before → new ≡ old → after.config ≡ before.config
      → RefusesToGiveUp words (reporter_of before.config) before.config.routes message now before.records after.records Stopped
      → ((changes : List Change) → Keeps honest words before.records changes
      → CutsUnroutable honest words (reporter_of before.config) before.config.routes message now changes before.records after.records)
      → StopsGivingUp honest words NoHop now (host_of before old) (host_of after new) message
  stops_giving_up knows same config refused cuts =
      let cut = cuts knows.changes knows.keeps in
      subst (λ (l : List (List ℕ)). StopsGivingUp honest words NoHop now (host_of before old) (host_of after l) message) (sym same)
      (record {
        before = before;
        after = after;
        runs = runs_on before after old config;
        cuts = λ changes keeps.
            unroutable_cut honest words (reporter_of before.config) before.config.routes message now changes before.records after.records
            (cuts changes keeps);
        failed = elim refused [
          | inl was ↦ absurd (true≢false (sym knows.keeps.live ∙ was.0))
          | inr failed ↦ failed
        ];
        noted = cut.cuts.cuts.noted.note;
        note_is = cut.cuts.cuts.noted.is;
      })

  -- the same of places that are withdrawn
  module _ (withdrawal : Withdrawal) (names : List ℕ) where
    pub refuses_withdrawing : (fault : NodeFault) → after ≡ before → new ≡ old
        → RefusesToWithdraw words (reporter_of before.config) before.attempts message now withdrawal names before.records after.records
        fault
        → RefusesGivingUp honest words (Postmaster withdrawal names) now (host_of before old) (host_of after new) message fault
    refuses_withdrawing fault node records refused = record {
      before = before;
      up = refl;
      refused = subst
          (λ (n : NodeState D). RefusesToWithdraw words (reporter_of before.config) before.attempts message now withdrawal names
          before.records n.records fault)
          node refused;
      new_is = same_host before after old new node records;
    }

    pub stops_withdrawing : KnowsChanges honest words before → new ≡ old → after.config ≡ before.config
        → RefusesToWithdraw words (reporter_of before.config) before.attempts message now withdrawal names before.records after.records
        Stopped
        → ((changes : List Change) → Keeps honest words before.records changes
        → CutsWithdrawal honest words (reporter_of before.config) message now withdrawal names changes before.records after.records)
        → StopsGivingUp honest words (Postmaster withdrawal names) now (host_of before old) (host_of after new) message
    stops_withdrawing knows same config refused cuts =
        let cut = cuts knows.changes knows.keeps in
        subst
        (λ (l : List (List ℕ)). StopsGivingUp honest words (Postmaster withdrawal names) now (host_of before old)
        (host_of after l) message) (sym same)
        (record {
          before = before;
          after = after;
          runs = runs_on before after old config;
          cuts = λ changes keeps.
              withdrawal_cut honest words (reporter_of before.config) before.config.routes message now changes before.records
              after.records withdrawal names (cuts changes keeps);
          failed = elim refused [
            | inl was ↦ absurd (true≢false (sym knows.keeps.live ∙ was.0))
            | inr failed ↦ failed
          ];
          noted = cut.cuts.cuts.noted.note;
          note_is = cut.cuts.cuts.noted.is;
        })

-- a node that opened a session for a client, or refused it
module _ {D : Type 0} (before after : NodeState D) (records : List (List ℕ)) (peer : List ℕ) where
  unchanged_by : (fault : NodeFault) → RefusesToConnect before after fault → after ≡ before
  unchanged_by NoMemory refuses = refuses
  unchanged_by Stopped refuses = refuses
  unchanged_by Unknown refuses = absurd refuses
  unchanged_by TooMany refuses = refuses
  unchanged_by NotDue refuses = absurd refuses
  unchanged_by Busy refuses = absurd refuses
  unchanged_by (Open cause) refuses = absurd refuses
  unchanged_by Full refuses = absurd refuses
  unchanged_by NoSecond refuses = absurd refuses

  only_these : (fault : NodeFault) → (fault ≡ Stopped → ⊥) → RefusesToConnect before after fault
      → (fault ≡ NoMemory) ⊎ (fault ≡ TooMany)
  only_these NoMemory goes_on refuses = inl refl
  only_these Stopped goes_on refuses = absurd (goes_on refl)
  only_these Unknown goes_on refuses = absurd refuses
  only_these TooMany goes_on refuses = inr refl
  only_these NotDue goes_on refuses = absurd refuses
  only_these Busy goes_on refuses = absurd refuses
  only_these (Open cause) goes_on refuses = absurd refuses
  only_these Full goes_on refuses = absurd refuses
  only_these NoSecond goes_on refuses = absurd refuses

  same_fault : (one other : NodeFault) → ◌≡◌ {A = Result Connected NodeFault} (Err one) (Err other) → one ≡ other
  same_fault one other same = cc

  pub opens_or_refuses : (old : Host D) (result : Result Connected NodeFault) → old ≡ host_of before records
      → before.records.spool.live ≡ true → after.config ≡ before.config → after.records ≡ before.records
      → after.attempts ≡ before.attempts → IfOk result (Connects peer before after)
      → IfErr result (RefusesToConnect before after)
      → ((result ≡ Err Stopped) ↔ (before.records.spool.live ≡ false))
      → ((result ≡ Err TooMany) ↔ ((before.records.spool.live ≡ true) × IsFull before.seats))
      → OpensOrRefuses old (host_of after records) peer result
  opens_or_refuses old (Ok connected) is live config same attempts connects refuses stopped full =
      subst (λ (h : Host D). OpensSession h (host_of after records) peer connected) (sym is) (record {
        before = before;
        after = after;
        runs = runs_on before after records config;
        connects = connects;
        records = same;
        attempts = attempts;
      })
  opens_or_refuses old (Err fault) is live config same attempts connects refuses stopped full =
      subst (λ (h : Host D). RefusesSession h (host_of after records) fault) (sym is) (record {
        before = before;
        up = refl;
        only = only_these fault (λ (stop : fault ≡ Stopped). true≢false (sym live ∙ stopped.0 (ap Err stop))) refuses;
        full = (
          (λ (many : fault ≡ TooMany). (full.0 (ap Err many)).1),
          (λ (all : IsFull before.seats). same_fault fault TooMany (full.1 (live, all))),
        );
        new_is = same_host before after records records (unchanged_by fault refuses) refl;
      })

-- the first of a list of works, and none of no works
pub first_of : (works : List Work) (first : Work) → first ≡ slice_index_or works 0 first → 0 < length works
    → ◌≡◌ {A = Option Work} (Some first) (slice_get works 0)
first_of [] first is some = let never : ⊥ = omega (arith, some) in absurd never
first_of (work ∷ works) first is some = ap Some is

pub none_of : (works : List Work) → length works ≡ 0 → ◌≡◌ {A = Option Work} None (slice_get works 0)
none_of [] is = refl
none_of (work ∷ works) is = let never : ⊥ = omega (arith, is) in absurd never

-- the work of a node, where a host is up with it
pub works_are : {D : Type 0} (now : ℕ) (old : Host D) (node : NodeState D) (records : List (List ℕ)) (found : Option Work)
    → old ≡ host_of node records
    → found ≡ slice_get (works_of node.config.routes node.attempts now node.records.queue) 0
    → found ≡ slice_get (works_in now old.state) 0
works_are now old node records found is first =
    subst (λ (h : Host _). found ≡ slice_get (works_in now h.state) 0) (sym is) first

-- want of memory is the fault of a look for work, where the node goes on
pub only_memory : (fault : NodeFault) → (fault ≡ Stopped) ⊎ (fault ≡ NoMemory) → (fault ≡ Stopped → ⊥) → fault ≡ NoMemory
only_memory fault (inl stopped) goes_on = absurd (goes_on stopped)
only_memory fault (inr memory) goes_on = memory

-- the node of a host that keeps a list of changes goes on
pub live_of : {D : Type 0} (honest : Type 0) (words : DiskWords D) (node : NodeState D) (old : Host D) (records : List (List ℕ))
    → old ≡ host_of node records → HasChanges honest words old → node.records.spool.live ≡ true
live_of honest words node old records is has =
    let knows : KnowsChanges honest words node = subst (λ (h : Host _). HasChanges honest words h) is has in knows.keeps.live
