-- What a disk is opened to, by what records kept.
use Rattle.std.proofs.Common.{◌≡◌, inl, inr, ℕ, List, [], ◌∷◌, ◌++◌, append_assoc, refl, sym, ◌∙◌, subst}
use Rattle.relay_disk.specs.declared.disks.Disks.{Disks}
use Rattle.relay_disk.specs.Device.{DiskWords}
use Rattle.relay_disk.specs.Disks.{Images, may_leave_of, seen_of}
use Rattle.relay_spool.specs.declared.fault.SpoolFault.TheVariants.{Device, NotASpool, Damaged, NoMemory, NotEmpty, Full, NoSecond}
use Rattle.relay_spool.specs.Image.{Bodies, NoSpool, DamagedAt, Reading}
use Rattle.relay_spool.specs.Pair.{IsImageOf}
use Rattle.relay_spool.proofs.Theorems.{one_list_of_bodies, one_reading}
use Rattle.relay_book.specs.declared.change.Change.{Change}
use Rattle.relay_book.specs.Queue.{Queue, Fitting, queue_of}
use Rattle.relay_book.specs.StandsFor.{ReadsAll, StandsFor}
use Rattle.relay_book.proofs.Theorems.{bodies_leave_one, reads_front}
use Rattle.relay_records.specs.declared.fault.Cause.{Cause}
use Rattle.relay_records.specs.declared.fault.Cause.TheVariants.{Spool, BadRecord}
use Rattle.relay_records.specs.ListLaws.{HaltedAllIsNotRefused, HaltedAllIsOpened, HaltedIsNotRefused, HaltedIsOpened, IsNoFaultOfImage, KeptIsNotRefused, KeptIsOpened, OneListIsKept}
use Rattle.relay_records.specs.Open.{IsBadRecord, Opens, RefusesImage}
use Rattle.relay_records.specs.Records.{Keeps, Kept}

-- bodies that stand for changes have no bad record
none_bad : (bodies : List (List ℕ)) (changes : List Change) (number : ℕ) → StandsFor bodies changes → IsBadRecord number bodies → ⊥
none_bad bodies changes number stands bad =
    let whole = subst (λ (bs : List (List ℕ)). ReadsAll bs (queue_of changes)) (bad.bodies_are ∙ sym (append_assoc bad.front (bad.body ∷ []) bad.rest)) stands.reads in
    let front = reads_front (bad.front ++ bad.body ∷ []) bad.rest (queue_of changes) whole in
    bad.none front.0 front.1

is_bodies : Reading → Type 0
is_bodies (Bodies bodies) = Unit {0}
is_bodies NoSpool = ⊥
is_bodies (DamagedAt place) = ⊥

-- an image of bodies that stand for changes isn't refused for its octets
not_refused : {honest : Type 0} (image : Images) (bodies : List (List ℕ)) (changes : List Change) (cause : Cause) → honest → IsImageOf image bodies
    → StandsFor bodies changes → RefusesImage honest image cause → IsNoFaultOfImage cause
unfolding is_bodies
not_refused image bodies changes (Spool Device) h reads stands refused = inl refl
not_refused image bodies changes (Spool NoMemory) h reads stands refused = inr (inl refl)
not_refused image bodies changes (Spool Full) h reads stands refused = inr (inr refl)
not_refused image bodies changes (Spool NotEmpty) h reads stands refused = absurd refused
not_refused image bodies changes (Spool NoSecond) h reads stands refused = absurd refused
not_refused image bodies changes (Spool NotASpool) h reads stands refused =
    absurd (subst is_bodies (one_reading image (Bodies bodies) NoSpool reads (refused h)) tt)
not_refused image bodies changes (Spool (Damaged place)) h reads stands refused =
    absurd (subst is_bodies (one_reading image (Bodies bodies) (DamagedAt place) reads (refused h)) tt)
not_refused image bodies changes (BadRecord number) h reads stands refused =
    let bad = refused h in
    absurd (none_bad bodies changes number stands (subst (IsBadRecord number) (one_list_of_bodies image bad.0 bodies bad.1 reads) bad.2))

module _ {D : Type 0} (honest : Type 0) (words : DiskWords D) where
  -- the lists that records keep leave one queue
  pub one_list_is_kept : honest → OneListIsKept honest words
  one_list_is_kept h records changes others keeps also = sym keeps.queue ∙ also.queue

  -- bodies that leave a queue stand for each list that does
  stand_for : (queue : Queue) (changes : List Change) (bodies : List (List ℕ)) → Fitting changes → queue ≡ queue_of changes → ReadsAll bodies queue → StandsFor bodies changes
  stand_for queue changes bodies fitting is reads = record { fitting = fitting; reads = subst (ReadsAll bodies) is reads }

  -- an image that stands for changes is opened to these
  opens_to : honest → (disk : Disks D) (opened : Kept D) (bodies : List (List ℕ)) (changes : List Change) → IsImageOf (seen_of words disk) bodies
      → StandsFor bodies changes → Opens honest words disk opened → Keeps honest words opened changes
  opens_to h disk opened bodies changes reads stands opens =
      let found = opens.reads h in
      let same = one_list_of_bodies (seen_of words disk) found.0 bodies found.1 reads in
      let queue = bodies_leave_one bodies opened.queue (queue_of changes) (subst (λ (b : List (List ℕ)). ReadsAll b opened.queue) same found.2) stands.reads in
      record {
        live = opens.live;
        fitting = stands.fitting;
        queue = queue;
        bodies = λ h. stand_for opened.queue changes opened.spool.bodies stands.fitting queue (opens.bodies h);
        images = λ h image left.
            let there = opens.images h image left in
            (there.0, there.1, stand_for opened.queue changes there.0 stands.fitting queue there.2);
      }

  module _ (sees_now : (disk : D) → words.may_leave disk (words.seen disk)) where
    sees_both : (disk : Disks D) → may_leave_of words disk (seen_of words disk)
    sees_both disk = (sees_now disk.first, sees_now disk.second)

    pub kept_is_opened : honest → KeptIsOpened honest words
    kept_is_opened h records opened changes disk keeps within opens =
        let found = keeps.images h (seen_of words disk) (within (seen_of words disk) (sees_both disk)) in
        opens_to h disk opened found.0 changes found.1 found.2 opens

    pub halted_is_opened : honest → HaltedIsOpened honest words
    halted_is_opened h records opened changes pending disk halted within opens =
        let found = halted.images h (seen_of words disk) (within (seen_of words disk) (sees_both disk)) in
        elim found.2 [
          | inl stands ↦ inl (opens_to h disk opened found.0 changes found.1 stands opens)
          | inr more ↦ inr (more.0, more.1, more.2, opens_to h disk opened found.0 (changes ++ more.0 ∷ []) found.1 more.3 opens)
        ]

    pub kept_is_not_refused : honest → KeptIsNotRefused honest words
    kept_is_not_refused h records changes disk cause keeps within refused =
        let found = keeps.images h (seen_of words disk) (within (seen_of words disk) (sees_both disk)) in
        not_refused (seen_of words disk) found.0 changes cause h found.1 found.2 refused

    pub halted_is_not_refused : honest → HaltedIsNotRefused honest words
    halted_is_not_refused h records changes pending disk cause halted within refused =
        let found = halted.images h (seen_of words disk) (within (seen_of words disk) (sees_both disk)) in
        elim found.2 [
          | inl stands ↦ not_refused (seen_of words disk) found.0 changes cause h found.1 stands refused
          | inr more ↦ not_refused (seen_of words disk) found.0 (changes ++ more.0 ∷ []) cause h found.1 more.3 refused
        ]

    pub halted_all_is_opened : honest → HaltedAllIsOpened honest words
    halted_all_is_opened h records opened changes pending disk halted within opens =
        let found = halted.images h (seen_of words disk) (within (seen_of words disk) (sees_both disk)) in
        elim found.2 [
          | inl stands ↦ inl (opens_to h disk opened found.0 changes found.1 stands opens)
          | inr all ↦ inr (opens_to h disk opened found.0 (changes ++ pending) found.1 all opens)
        ]

    pub halted_all_is_not_refused : honest → HaltedAllIsNotRefused honest words
    halted_all_is_not_refused h records changes pending disk cause halted within refused =
        let found = halted.images h (seen_of words disk) (within (seen_of words disk) (sees_both disk)) in
        elim found.2 [
          | inl stands ↦ not_refused (seen_of words disk) found.0 changes cause h found.1 stands refused
          | inr all ↦ not_refused (seen_of words disk) found.0 (changes ++ pending) cause h found.1 all refused
        ]
