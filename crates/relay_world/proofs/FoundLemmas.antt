-- What the opening of a node that was down finds on its disks, and what the ledger's lines of a change that was found tell.
use Rattle.std.proofs.Common.{inl, inr, ◌≡◌, ◌≢◌, ◌⊎◌, ◌≤◌, ◌<◌, ◌+◌, ℕ, false, List, [], ◌∷◌, ◌++◌, fold, length, map, Option, None, Some, refl, sym, subst, ap, ◌∙◌, cond, arith}
use Rattle.std.specs.List.{AllByRecursion}
use Rattle.std.proofs.lemmas.List.{length-append, map-append}
use Rattle.std.proofs.lemmas.Option.{none-some, same_Some}
use Rattle.relay_disk.specs.Device.{DiskWords}
use Rattle.relay_disk.specs.Disks.{ImagesWithin, seen_of}
use Rattle.relay_disk.specs.declared.disks.Disks.{Disks}
use Rattle.relay_spool.specs.Spool.{created_taken}
use Rattle.relay_book.specs.declared.change.Change.{Change}
use Rattle.relay_book.specs.Queue.{FitsFrom, FitsQueue, Fitting, Queue, empty_queue, queue_of, step}
use Rattle.relay_book.specs.Record.{encode}
use Rattle.relay_book.specs.StandsFor.{StandsFor}
use Rattle.relay_records.specs.declared.noted.Noted.{Noted}
use Rattle.relay_records.specs.declared.fault.Cause.{Cause}
use Rattle.relay_records.specs.ListLaws.{IsNoFaultOfImage}
use Rattle.relay_records.specs.Open.{Opens, RefusesImage}
use Rattle.relay_records.specs.Records.{Halted, Keeps, Kept}
use Rattle.relay_records.proofs.Theorems.{halted_is_not_refused, halted_is_opened, next_is_one_more}
use Rattle.relay_world.specs.Bound.{StateKeeps, HostKeeps, MayBeIn, link_of}
use Rattle.relay_world.specs.Ledger.{Accepts, accepts_on, lines_by, report_told, steps_in}
use Rattle.relay_world.specs.Stops.{DownIsNotRefused}
use Rattle.relay_world.specs.World.{Down, FromClient, FromLoss, FromGivingUp, FromReplies, Host, Origin, Undecided, World}
use Rattle.relay_world.proofs.GrowLemmas.{one_list}
use Rattle.relay_world.proofs.OpenLemmas.{off_by}
use Rattle.relay_world.proofs.RecordLemmas.{left_elsewhere, left_within, none_left_accepted}

-- the link that a change came from; 0 where there is none
abbrev pub origin_link : Origin → ℕ
origin_link (FromClient link) = link
origin_link (FromReplies link place message) = link
origin_link (FromLoss link place message) = link
origin_link (FromGivingUp message) = 0

-- its lines tell nothing of other nodes, nor of an accept on other links
pub lines_elsewhere : (node other : ℕ) (note : Noted) (origin : Origin) → other ≢ node
    → steps_in other (lines_by node note origin) ≡ []
lines_elsewhere node other note (FromClient link) off =
    ap (λ b. cond b (Accepts note.number note.accepted ∷ []) [] ++ []) (off_by node other (λ same. off (sym same)))
lines_elsewhere node other note (FromReplies link place message) off =
    left_elsewhere node other message link (report_told note.number note.report) note.left.items off
lines_elsewhere node other note (FromLoss link place message) off =
    left_elsewhere node other message link (report_told note.number note.report) note.left.items off
lines_elsewhere node other note (FromGivingUp message) off =
    left_elsewhere node other message 0 (report_told note.number note.report) note.left.items off

pub lines_accepted : (node other : ℕ) (note : Noted) (origin : Origin) → other ≢ origin_link origin
    → accepts_on other (lines_by node note origin) ≡ []
lines_accepted node other note (FromClient link) off =
    ap (λ b. cond b ((note.number, note.accepted) ∷ []) [] ++ []) (off_by link other (λ same. off (sym same)))
lines_accepted node other note (FromReplies link place message) off =
    none_left_accepted node other message link (report_told note.number note.report) note.left.items
lines_accepted node other note (FromLoss link place message) off =
    none_left_accepted node other message link (report_told note.number note.report) note.left.items
lines_accepted node other note (FromGivingUp message) off =
    none_left_accepted node other message 0 (report_told note.number note.report) note.left.items

pub lines_few : (node count : ℕ) (note : Noted) (origin : Origin) → origin_link origin ≤ count
    → AllByRecursion (λ line. link_of line ≤ count) (lines_by node note origin)
lines_few node count note (FromClient link) few = (few, tt)
lines_few node count note (FromReplies link place message) few =
    left_within node message link (report_told note.number note.report) count note.left.items few
lines_few node count note (FromLoss link place message) few =
    left_within node message link (report_told note.number note.report) count note.left.items few
lines_few node count note (FromGivingUp message) few =
    left_within node message 0 (report_told note.number note.report) count note.left.items few

-- bodies stand for a change of this record where they stand for another
stands_as : (bodies : List (List ℕ)) (changes : List Change) (one other : Change) → encode one ≡ encode other
    → Fitting (changes ++ other ∷ []) → StandsFor bodies (changes ++ one ∷ []) → StandsFor bodies (changes ++ other ∷ [])
stands_as bodies changes one other same fitting stands =
    let records : map encode (changes ++ one ∷ []) ≡ map encode (changes ++ other ∷ []) =
    map-append encode changes (one ∷ []) ∙ ap (λ (o : List ℕ). map encode changes ++ o ∷ []) same
    ∙ sym (map-append encode changes (other ∷ [])) in
    let list : changes ++ one ∷ [] ≡ changes ++ other ∷ [] =
    one_list (map encode (changes ++ other ∷ [])) (map encode (changes ++ one ∷ [])) (changes ++ other ∷ [])
    (changes ++ one ∷ []) (record { fitting = fitting; records_are = refl })
    (record { fitting = stands.fitting; records_are = refl }) records in
    subst (StandsFor bodies) list stands

-- the last of changes fits those before it
fits_last : (queue : Queue) (changes : List Change) (change : Change) → FitsFrom queue (changes ++ change ∷ [])
    → FitsQueue (fold step queue changes) change
fits_last queue [] change fits = fits.0
fits_last queue (first ∷ changes) change fits = fits_last (step queue first) changes change fits.1

module _ {D : Type 0} (honest : Type 0) (words : DiskWords D)
    (sees_now : (disk : D) → words.may_leave disk (words.seen disk)) (h : honest) where
  -- stopped records that keep a list on these disks
  halted_on : Disks D → List Change → Kept D
  halted_on disk changes = record {
    spool = record { bodies = []; size = 0; live = false; taken = created_taken; disk = disk };
    queue = queue_of changes;
    noted = None;
  }

  -- what a node that is down leaves is what such records leave: with nothing undecided, and with a change that may be in
  halted_none : (host : Host D) (disk : Disks D) (changes : List Change) → Fitting changes
      → StateKeeps honest words host.config (Down disk None) changes → Halted honest words (halted_on disk changes) changes None
  unfolding halted_on
  halted_none host disk changes fitting holds = record {
    stopped = refl;
    fitting = fitting;
    next = next_is_one_more changes;
    images = λ is image may.
        let found = holds is image may in
        (found.0, found.1, elim found.2 [ inl stands ↦ inl stands | inr more ↦ absurd more.1 ]);
  }

  halted_some : (world : World D) (node : ℕ) (host : Host D) (disk : Disks D) (changes : List Change) (undecided : Undecided)
      → Fitting changes → StateKeeps honest words host.config (Down disk (Some undecided)) changes
      → (may : MayBeIn world node host changes undecided)
      → Halted honest words (halted_on disk changes) changes (Some may.change)
  unfolding halted_on
  halted_some world node host disk changes undecided fitting holds there = record {
    stopped = refl;
    fitting = fitting;
    next = next_is_one_more changes;
    images = λ is image may.
        let found = holds is image may in (
          found.0,
          found.1,
          elim found.2 [
            | inl stands ↦ inl stands
            | inr more ↦ inr (
              there.change,
              refl,
              fits_last empty_queue changes there.change there.fitting,
              stands_as found.0 changes more.0 there.change (sym more.1 ∙ there.octets) there.fitting more.2,
            )
          ],
        );
  }

  -- they are on these disks
  images_there : (disk : Disks D) (changes : List Change) → ImagesWithin words (halted_on disk changes).spool.disk disk
  unfolding halted_on
  images_there disk changes images may = may

  -- a node with nothing undecided is opened to its list
  pub opens_to_list : (host : Host D) (disk : Disks D) (opened : Kept D) (changes : List Change) → Fitting changes
      → StateKeeps honest words host.config (Down disk None) changes → Opens honest words disk opened
      → Keeps honest words opened changes
  opens_to_list host disk opened changes fitting holds opens =
      elim (halted_is_opened honest words sees_now h (halted_on disk changes) opened changes None disk
      (halted_none host disk changes fitting holds) (images_there disk changes) opens) [
        | inl keeps ↦ keeps
        | inr more ↦ absurd (none-some more.0 more.1)
      ]

  module _ (world : World D) (node : ℕ) (host : Host D) (disk : Disks D) (opened : Kept D) (changes : List Change)
      (undecided : Undecided) (fitting : Fitting changes)
      (holds : StateKeeps honest words host.config (Down disk (Some undecided)) changes) (opens : Opens honest words disk opened)
      (may : MayBeIn world node host changes undecided) where
    -- another is opened to its list, or to it with the undecided change
    opens_to_either : Keeps honest words opened changes ⊎ Keeps honest words opened (changes ++ may.change ∷ [])
    opens_to_either =
        elim (halted_is_opened honest words sees_now h (halted_on disk changes) opened changes (Some may.change) disk
        (halted_some world node host disk changes undecided fitting holds may) (images_there disk changes) opens) [
          | inl keeps ↦ inl keeps
          | inr more ↦ inr (subst (λ (c : Change). Keeps honest words opened (changes ++ c ∷ []))
              (sym (same_Some may.change more.0 more.1)) more.3)
        ]

    next_of : (list : List Change) → Keeps honest words opened list → opened.queue.next ≡ length list + 1
    next_of list keeps = ap (λ (q : Queue). q.next) keeps.queue ∙ next_is_one_more list

    -- the next number tells which
    pub opens_before : opened.queue.next ≤ undecided.note.number → Keeps honest words opened changes
    opens_before few = elim opens_to_either [
      | inl keeps ↦ keeps
      | inr keeps ↦
          let next = next_of (changes ++ may.change ∷ []) keeps in
          let more = length-append changes (may.change ∷ []) in
          let number = may.number in
          absurd (omega (arith, few, next, more, number))
    ]

    pub opens_with : undecided.note.number < opened.queue.next → Keeps honest words opened (changes ++ may.change ∷ [])
    opens_with many = elim opens_to_either [
      | inl keeps ↦
          let next = next_of changes keeps in
          let number = may.number in
          absurd (omega (arith, many, next, number))
      | inr keeps ↦ keeps
    ]

  not_refused : (world : World D) (node : ℕ) (host : Host D) (changes : List Change) (disk : Disks D) (undecided : Option Undecided)
      (cause : Cause)
      → Fitting changes → StateKeeps honest words host.config (Down disk undecided) changes
      → ((is : Undecided) → undecided ≡ Some is → MayBeIn world node host changes is)
      → RefusesImage honest (seen_of words disk) cause → IsNoFaultOfImage cause
  not_refused world node host changes disk None cause fitting holds may_be refused =
      halted_is_not_refused honest words sees_now h (halted_on disk changes) changes None disk cause
      (halted_none host disk changes fitting holds) (images_there disk changes) refused
  not_refused world node host changes disk (Some undecided) cause fitting holds may_be refused =
      let there : MayBeIn world node host changes undecided = may_be undecided refl in
      halted_is_not_refused honest words sees_now h (halted_on disk changes) changes (Some there.change) disk cause
      (halted_some world node host disk changes undecided fitting holds there) (images_there disk changes) refused

  pub down_is_not_refused : DownIsNotRefused honest words
  down_is_not_refused world lists node host changes disk undecided cause bound stands down refused =
      let kept : HostKeeps honest words host changes = bound.hosts node host changes stands in
      not_refused world node host changes disk undecided cause kept.list.fitting
      (subst (λ state. StateKeeps honest words host.config state changes) down kept.holds)
      (λ is same. bound.may_be_in node host changes disk is stands (down ∙ ap (λ u. Down disk u) same)) refused
