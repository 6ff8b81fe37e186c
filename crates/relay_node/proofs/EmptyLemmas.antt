-- Disks of which a stop leaves nothing, in a call that doesn't use them.
use Rattle.std.proofs.Common.{◌≡◌, ℕ, List, [], length, ap, sym, arith, subst}
use Rattle.relay_disk.specs.declared.disks.Disks.{Disks}
use Rattle.relay_disk.specs.declared.disks.Side.TheVariants.{First, Second}
use Rattle.relay_disk.specs.Device.{DiskWords}
use Rattle.relay_disk.specs.Disks.{Images, LeavesNothing}
use Rattle.relay_spool.specs.Head.{HasOpenHead}
use Rattle.relay_spool.specs.Pair.{HasNoBody}
use Rattle.relay_spool.specs.Spool.{AtEachMoment}

no_head : (image : List ℕ) → image ≡ [] → HasOpenHead image → ⊥
no_head image none head =
    let long = head.long in
    let short : length image ≡ 0 = ap length none in
    omega (arith, long, short)

no_bodies : (images : Images) → images.first ≡ [] → images.second ≡ [] → HasNoBody images
no_bodies images first second bodies (First, taken, is) = absurd (no_head images.first first taken.head)
no_bodies images first second bodies (Second, taken, is) = absurd (no_head images.second second taken.head)

-- they stay without a body at each moment
pub unused : {D : Type 0} (words : DiskWords D) → ((disk : D) (image : List ℕ) → words.left_since disk (words.moment disk) image → words.may_leave disk image) → (old new : Disks D) → new ≡ old → LeavesNothing words old
    → AtEachMoment words old new HasNoBody
unused {D = D} words only_now old new same none = subst (λ (disks : Disks D). AtEachMoment words old disks HasNoBody) (sym same) (record {
  since = λ images first second.
      no_bodies images (none.0 images.first (only_now old.first images.first first)) (none.1 images.second (only_now old.second images.second second));
  now = λ images left. no_bodies images (none.0 images.first left.0) (none.1 images.second left.1);
})
