-- A node that stopped while a group of accepts and outcomes was brought into its spool, and is opened again, keeps a
-- world bound.
use Rattle.std.proofs.Common.{inl, inr, ◌≡◌, ◌⊎◌, ◌+◌, ℕ, List, [], ◌∷◌, ◌++◌, length, Some, refl, sym, subst, ap, ◌∙◌, arith}
use Rattle.std.specs.Prelude.{slice_get}
use Rattle.std.proofs.lemmas.List.{append-nil, length-append}
use Rattle.relay_disk.specs.Device.{DiskWords}
use Rattle.relay_book.specs.declared.change.Change.{Change}
use Rattle.relay_book.specs.Queue.{Queue}
use Rattle.relay_node.specs.Node.{NodeState}
use Rattle.relay_records.specs.Records.{Keeps, Kept}
use Rattle.relay_records.specs.Staged.{CutsAll}
use Rattle.relay_records.proofs.Theorems.{halted_all_is_opened, next_is_one_more}
use Rattle.relay_world.specs.Bound.{IsBound}
use Rattle.relay_world.specs.Crashes.{let_go}
use Rattle.relay_world.specs.Groups.{HasReopenedAfterGroup, IsOpenedAgain, IsUp, Piece, ReopeningAfterGroupKeeps}
use Rattle.relay_world.specs.World.{Up, World}
use Rattle.relay_world.proofs.CrashRestLemmas.{hangs, none_heard, none_runs}
use Rattle.relay_world.proofs.GroupLemmas.{first, first_kept, last, last_awaits}
use Rattle.relay_world.proofs.HangUpLemmas.{hanging_up_keeps}
use Rattle.relay_world.proofs.StopLemmas.{state_moved}
use Rattle.relay_world.proofs.UndecidedLemmas.{up_not_down}
use Rattle.relay_world.proofs.UnsettledLemmas.{Unsettled, keeps_unsaid, settled_keeps}

pub none_of : (pending : List Change) → length pending ≡ 0 → pending ≡ []
none_of [] same = refl
none_of (one ∷ pending) same = absurd (omega (arith, same))

module _ {D : Type 0} (honest : Type 0) (words : DiskWords D) where
  -- the next number of records that keep changes
  next_of : (records : Kept D) (changes : List Change) → Keeps honest words records changes
      → records.queue.next ≡ length changes + 1
  next_of records changes keeps = ap (λ (q : Queue). q.next) keeps.queue ∙ next_is_one_more changes

  -- a node that is opened with the changes that are its list keeps a world bound
  opened_again : (world new : World D) (lists : List (List Change)) (node : ℕ) (is : IsUp world node)
      (changes : List Change)
      (after : NodeState D) → IsBound honest words world lists → slice_get lists node ≡ Some changes
      → Keeps honest words after.records changes → (again : IsOpenedAgain world new node is.host after)
      → IsBound honest words (record (let_go node world) { hosts = again.hosts }) lists
  opened_again world new lists node is changes after bound list_at keeps again =
      state_moved honest words (let_go node world) (record (let_go node world) { hosts = again.hosts }) lists node
      (hanging_up_keeps honest words world (let_go node world) lists node bound (hangs node world)) is.host changes
      (record { host_at = is.host_at; list_at = list_at }) (Up after) again.put (refl, refl, refl, refl, again.as_many)
      (none_heard node world) (none_runs node world) (record { config_is = again.idle.config_is; keeps = keeps })
      (λ disk undecided down. absurd (up_not_down after disk (Some undecided) down))

module _ {D : Type 0} (honest : Type 0) (words : DiskWords D)
    (sees_now : (disk : D) → words.may_leave disk (words.seen disk)) (h : honest) (old new : World D)
    (lists : List (List Change)) (node : ℕ) (pieces : List Piece) (bound : IsBound honest words old lists)
    (opens : HasReopenedAfterGroup honest words old new node pieces) where
  abbrev changes : List Change
  changes = (first honest words old lists node bound opens.before opens.at pieces opens.heard opens.row opens.each
      opens.staged).0

  abbrev unsettled : Unsettled honest words old lists node changes opens.heard opens.row
  unsettled = last honest words old lists node bound opens.before opens.at pieces opens.heard opens.row opens.each
      opens.staged

  abbrev pending : List Change
  pending = unsettled.pending

  cuts : CutsAll honest words opens.stopped changes pending opens.row.notes
  cuts = opens.cuts changes pending
      (last_awaits honest words old lists node bound opens.before opens.at pieces opens.heard opens.row opens.each
      opens.staged)

  either : Keeps honest words opens.after.records changes ⊎ Keeps honest words opens.after.records (changes ++ pending)
  either = halted_all_is_opened honest words sees_now h opens.stopped opens.after.records changes pending opens.disk
      cuts.halted
      (opens.left.images h) opens.opens

  before_next : opens.before.now.records.queue.next ≡ length changes + 1
  before_next = next_of honest words opens.before.now.records changes
      (first_kept honest words old lists node bound opens.before opens.at pieces opens.heard opens.row opens.each
      opens.staged).keeps

  -- it has the changes from before
  opens_before : opens.after.records.queue.next ≡ opens.before.now.records.queue.next
      → Keeps honest words opens.after.records changes
  opens_before same = elim either [
    | inl keeps ↦ keeps
    | inr keeps ↦
        let next = next_of honest words opens.after.records (changes ++ pending) keeps in
        let all = length-append changes pending in
        let none : pending ≡ [] = none_of pending (omega (arith, next, all, same, before_next)) in
        subst (λ l. Keeps honest words opens.after.records l)
        (ap (λ l. changes ++ l) none ∙ append-nil changes) keeps
  ]

  -- it has these with all that were pending
  opens_with_all : opens.after.records.queue.next ≡ opens.stopped.queue.next
      → Keeps honest words opens.after.records (changes ++ pending)
  opens_with_all same = elim either [
    | inl keeps ↦
        let next = next_of honest words opens.after.records changes keeps in
        let afterwards = cuts.halted.next in
        let none : pending ≡ [] = none_of pending (omega (arith, next, afterwards, same)) in
        subst (λ l. Keeps honest words opens.after.records l)
        (sym (ap (λ l. changes ++ l) none ∙ append-nil changes)) keeps
    | inr keeps ↦ keeps
  ]

  reopened : (later : List (List Change)) × IsBound honest words new later
  reopened = elim opens.decides [
    | inl none ↦
        let there = (first honest words old lists node bound opens.before opens.at pieces opens.heard opens.row
        opens.each
        opens.staged).1 in (
          lists,
          subst (λ w. IsBound honest words w lists) (sym none.1.new_is)
              (opened_again honest words old new lists node opens.before changes opens.after bound there
              (opens_before none.0) none.1),
        )
    | inr all ↦ (
      unsettled.later,
      subst (λ w. IsBound honest words w unsettled.later) (sym all.1.new_is)
          (settled_keeps honest words old lists node changes opens.heard
          (record (let_go node opens.heard) { hosts = all.1.hosts }) opens.row unsettled bound
          (opened_again ⊥ words opens.heard new unsettled.later node opens.staged (changes ++ pending) opens.after
          unsettled.bound unsettled.list_at (keeps_unsaid honest words opens.after.records (changes ++ pending)
          (opens_with_all all.0)) all.1) opens.staged.host opens.after all.1.put (opens_with_all all.0)),
    )
  ]

pub reopening_after_group_keeps : {D : Type 0} (honest : Type 0) (words : DiskWords D)
    → ((disk : D) → words.may_leave disk (words.seen disk)) → honest → ReopeningAfterGroupKeeps honest words
reopening_after_group_keeps honest words sees_now h old new lists node pieces bound opens =
    reopened honest words sees_now h old new lists node pieces bound opens
