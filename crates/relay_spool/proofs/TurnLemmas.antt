-- Calls of one of two disks, which is brought to the front for them.
use Rattle.std.proofs.Common.{◌≡◌, ℕ, ◌≤◌, List, Result, Ok, Err, OnOk, refl, sym, subst, ◌∙◌, inl, inr, ⊎_elim}
use Rattle.relay_disk.specs.declared.disks.Disks.{Disks}
use Rattle.relay_disk.specs.declared.disks.Side.{Side}
use Rattle.relay_disk.specs.declared.disks.Side.TheVariants.{First, Second}
use Rattle.relay_disk.specs.Device.{DiskWords, IsSettled, OnlyFuseChanges}
use Rattle.relay_disk.specs.Disks.{EachImage, Images, IsSettled as AreSettled, mine, other, seen_of}
use Rattle.relay_spool.specs.Image.{IsImageOf}
use Rattle.relay_spool.specs.Run.{AtEachMoment as AtEachDiskMoment, Rests}
use Rattle.relay_spool.specs.Spool.{AtEachMoment}
use Rattle.relay_spool.proofs.RunLemmas.{OnlyNow}

-- what holds where a result is `Ok`
pub on_ok : {T E : Type 0} (result : Result T E) {P Q : Type 0} → (P → Q) → OnOk result P → OnOk result Q
on_ok (Ok value) gives has = gives has
on_ok (Err fault) gives has = tt

pub on_ok_both : {T E : Type 0} (result : Result T E) {P Q R : Type 0} → (P → Q → R) → OnOk result P → OnOk result Q → OnOk result R
on_ok_both (Ok value) gives one two = gives one two
on_ok_both (Err fault) gives one two = tt

-- a disk that no call has reached
pub record Unmoved {D : Type 0} (words : DiskWords D) (old new : D) : Type 0 where
  pub seen : words.seen new ≡ words.seen old
  pub only : IsSettled words new
  pub each : (image : List ℕ) → words.left_since new (words.moment old) image → image ≡ words.seen old
  pub now : (image : List ℕ) → words.may_leave new image → image ≡ words.seen old

module _ {D : Type 0} (honest : Type 0) (words : DiskWords D) where
  -- two fuses, one after the other
  pub fuses_on : (old mid new : D) → OnlyFuseChanges honest words old mid → OnlyFuseChanges honest words mid new → OnlyFuseChanges honest words old new
  fuses_on old mid new one two = record {
    failures = two.failures ∙ one.failures;
    seen = λ h. two.seen h ∙ one.seen h;
    moment = λ h. two.moment h ∙ one.moment h;
    images = λ h image. (
      (λ left. (one.images h image).0 ((two.images h image).0 left)),
      (λ left. (two.images h image).1 ((one.images h image).1 left)),
    );
    since = λ h moment image. (
      (λ left. (one.since h moment image).0 ((two.since h moment image).0 left)),
      (λ left. (two.since h moment image).1 ((one.since h moment image).1 left)),
    );
  }

  pub settled_on : honest → (old new : D) → OnlyFuseChanges honest words old new → IsSettled words old → IsSettled words new
  settled_on h old new fuse only image left = only image ((fuse.images h image).0 left) ∙ sym (fuse.seen h)

  -- a run between two turns is a run from before the first to after the second
  pub run_on : honest → (old mid left new : D) (P : List ℕ → Type 0) → OnlyFuseChanges honest words old mid → AtEachDiskMoment words mid left P → OnlyFuseChanges honest words left new
      → AtEachDiskMoment words old new P
  run_on h old mid left new P one run two =
      let first = run.since in
      record {
        since = record {
          later = subst (λ (n : ℕ). words.moment old ≤ n) (sym (two.moment h)) (subst (λ (n : ℕ). n ≤ words.moment left) (one.moment h) first.later);
          each = λ image was. first.each image (subst (λ (n : ℕ). words.left_since left n image) (sym (one.moment h)) ((two.since h (words.moment old) image).0 was));
          earlier = λ since image early was.
              ⊎_elim (λ past. inl ((one.since h since image).0 past)) (λ has. inr has)
              (first.earlier since image (subst (λ (n : ℕ). since ≤ n) (sym (one.moment h)) early) ((two.since h since image).0 was));
        };
        now = λ image was. run.now image ((two.images h image).0 was);
      }

  pub unmoved_on : honest → (old new : D) → OnlyNow words old → IsSettled words old → OnlyFuseChanges honest words old new → Unmoved words old new
  unmoved_on h old new now only fuse = record {
    seen = fuse.seen h;
    only = settled_on h old new fuse only;
    each = λ image was. only image (now image ((fuse.since h (words.moment old) image).0 was));
    now = λ image was. only image ((fuse.images h image).0 was);
  }

  -- a disk at rest, before a turn and after it
  pub rests_there : honest → (old new : D) (bodies : List (List ℕ)) → OnlyFuseChanges honest words old new → IsImageOf (words.seen old) bodies → IsSettled words old → Rests words new bodies
  rests_there h old new bodies fuse is only = record {
    image = subst (λ (xs : List ℕ). IsImageOf xs bodies) (sym (fuse.seen h)) is;
    only = settled_on h old new fuse only;
  }

  pub rests_on : honest → (old new : D) (bodies : List (List ℕ)) → OnlyFuseChanges honest words old new → Rests words old bodies → Rests words new bodies
  rests_on h old new bodies fuse rests = rests_there h old new bodies fuse rests.image rests.only

module _ {D : Type 0} (words : DiskWords D) where
  -- a run on one of two disks, of which no call has reached the other
  pub pair_run : (side : Side) (old new : Disks D) (P : List ℕ → Type 0) (Q : Images → Type 0) → AtEachDiskMoment words (mine side old) (mine side new) P
      → Unmoved words (other side old) (other side new) → ((images : Images) → P (mine side images) → other side images ≡ words.seen (other side old) → Q images)
      → AtEachMoment words old new Q
  pair_run First old new P Q run still gives = record {
    since = λ images first second. gives images (run.since.each images.first first) (still.each images.second second);
    now = λ images left. gives images (run.now images.first left.0) (still.now images.second left.1);
  }
  pair_run Second old new P Q run still gives = record {
    since = λ images first second. gives images (run.since.each images.second second) (still.each images.first first);
    now = λ images left. gives images (run.now images.second left.1) (still.now images.first left.0);
  }

  pub settled_mine : (side : Side) (disks : Disks D) → AreSettled words disks → IsSettled words (mine side disks)
  settled_mine First disks both = both.0
  settled_mine Second disks both = both.1

  pub settled_other : (side : Side) (disks : Disks D) → AreSettled words disks → IsSettled words (other side disks)
  settled_other First disks both = both.1
  settled_other Second disks both = both.0

  -- what reads give of the disks, by sides
  pub seen_mine : (side : Side) (disks : Disks D) → mine side (seen_of words disks) ≡ words.seen (mine side disks)
  seen_mine First disks = refl
  seen_mine Second disks = refl

  -- no call
  pub pair_still : (disks : Disks D) (P : Images → Type 0) → OnlyNow words disks.first → OnlyNow words disks.second → EachImage words disks P → AtEachMoment words disks disks P
  pair_still disks P first second every = record {
    since = λ images one two. every images (first images.first one, second images.second two);
    now = every;
  }
