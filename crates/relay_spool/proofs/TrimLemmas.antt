-- The disk that isn't taken, made shorter: what a turn leaves of it, and of both disks.
use Rattle.std.proofs.Common.{◌≡◌, ℕ, ◌-◌, ◌≤◌, min, max, List, take, length, Some, refl, sym, subst, ap, ◌∙◌, inl, inr, arith, length-take, take-take, get_or-take}
use Rattle.std.proofs.lemmas.List.{take_min}
use Rattle.relay_disk.specs.declared.disks.Disks.{Disks}
use Rattle.relay_disk.specs.declared.disks.Side.{Side}
use Rattle.relay_disk.specs.declared.disks.Side.TheVariants.{First, Second}
use Rattle.relay_disk.specs.Device.{DiskWords, AddsNoImage, Cuts, IsSettled, Steps}
use Rattle.relay_disk.specs.Disks.{Images, mine, other, seen_of, turned}
use Rattle.relay_spool.specs.declared.taken.HeadGate.TheVariants.{Closed}
use Rattle.relay_spool.specs.Head.{HasOpenHead, IsClosedOr, IsGateOf, generation_of}
use Rattle.relay_spool.specs.Image.{IsImageOf as IsDiskImageOf}
use Rattle.relay_spool.specs.Pair.{HasBodies, IsTaken}
use Rattle.relay_spool.specs.Run.{AtEachMoment as AtEachDiskMoment}
use Rattle.relay_spool.specs.Spool.{AtEachMoment, Rests}
use Rattle.relay_spool.proofs.PairLemmas.{closed_taken, still_taken}
use Rattle.relay_spool.proofs.RenewalLemmas.{HasClosedGate, cutting, not_open, stepped, still}
use Rattle.relay_spool.proofs.RunLemmas.{OnlyNow, started, weakened}
use Rattle.relay_spool.proofs.TurnLemmas.{Unmoved, pair_run}

-- the cut that the code makes is the one that is asked for
pub cut_to : (size most : ℕ) (image : List ℕ) → size ≡ length image → take (min (max (size - most) 9) size) image ≡ take (max 9 (length image - most)) image
cut_to size most image is =
    ap (λ (n : ℕ). take (min (max (n - most) 9) n) image) is
    ∙ take_min (max (length image - most) 9) image
    ∙ ap (λ (n : ℕ). take n image) (omega arith)

-- a cut after the head gate keeps it
pub gate_stays : (n : ℕ) (image : List ℕ) → 9 ≤ n → IsGateOf image (Some Closed) → IsGateOf (take n image) (Some Closed)
gate_stays n image enough is =
    let long = is.0.long in
    let all = length-take n image in (
      record {
        long = omega (arith, enough, long, all);
        signed = take-take 8 n image (omega (arith, enough)) ∙ is.0.signed;
      },
      λ e. is.1 (sym (get_or-take n image 8 0 (omega (arith, enough))) ∙ e),
    )

module _ {D : Type 0} (words : DiskWords D) where
  -- a closed head gate, while the size is asked for
  pub sized_run : (old mid : D) → OnlyNow words old → IsSettled words old → HasClosedGate (words.seen old) → AddsNoImage words old mid
      → AtEachDiskMoment words old mid HasClosedGate
  sized_run old mid now only has stays =
      still words old old mid HasClosedGate
      (started words old HasClosedGate now (λ image left. subst HasClosedGate (sym (only image left)) has)) stays

  -- while it is cut
  pub cut_run : (size : ℕ) → 9 ≤ size → (old mid new : D) → AtEachDiskMoment words old mid HasClosedGate → Steps words (Cuts size) mid new
      → AtEachDiskMoment words old new HasClosedGate
  cut_run size enough old mid new run steps = stepped words old mid new HasClosedGate (Cuts size) (cutting size enough) run steps

  -- while it is synced
  pub synced_run : (old mid new : D) → AtEachDiskMoment words old mid HasClosedGate → AddsNoImage words mid new
      → AtEachDiskMoment words old new HasClosedGate
  synced_run old mid new run stays = still words old mid new HasClosedGate run stays

  -- so it is never open
  pub closed_run : (old new : D) → AtEachDiskMoment words old new HasClosedGate → AtEachDiskMoment words old new (IsClosedOr (words.seen old))
  closed_run old new run = weakened words old new HasClosedGate (IsClosedOr (words.seen old)) (λ image has. inl (not_open image has)) run

-- the disk taken shows its bodies while the other isn't open, or is as it was
trim_shows : (side : Side) (seen images : Images) (bodies : List (List ℕ)) → IsTaken side seen → IsDiskImageOf (mine side seen) bodies → mine side images ≡ mine side seen
    → IsClosedOr (other side seen) (other side images) → HasBodies (λ found. found ≡ bodies) images
trim_shows side seen images bodies taken is same (inl closed) =
    (bodies, (side, closed_taken side images (subst HasOpenHead (sym same) taken.head) closed, subst (λ (xs : List ℕ). IsDiskImageOf xs bodies) (sym same) is), refl)
trim_shows side seen images bodies taken is same (inr stays) =
    (bodies, (side, still_taken side seen images taken (subst HasOpenHead (sym same) taken.head) (ap (λ (xs : List ℕ). take 17 xs) same) stays, subst (λ (xs : List ℕ). IsDiskImageOf xs bodies) (sym same) is), refl)

module _ {D : Type 0} (words : DiskWords D) where
  -- at each moment, of both
  pub trim_run : (side : Side) (old new : Disks D) (bodies : List (List ℕ)) → IsTaken side (seen_of words old) → IsDiskImageOf (words.seen (mine side old)) bodies
      → AtEachDiskMoment words (mine (turned side) old) (mine (turned side) new) (IsClosedOr (words.seen (mine (turned side) old)))
      → Unmoved words (other (turned side) old) (other (turned side) new) → AtEachMoment words old new (HasBodies (λ found. found ≡ bodies))
  trim_run First old new bodies taken is run stays =
      pair_run words Second old new (IsClosedOr (words.seen old.second)) (HasBodies (λ found. found ≡ bodies)) run stays
      (λ images has same. trim_shows First (seen_of words old) images bodies taken is same has)
  trim_run Second old new bodies taken is run stays =
      pair_run words First old new (IsClosedOr (words.seen old.first)) (HasBodies (λ found. found ≡ bodies)) run stays
      (λ images has same. trim_shows Second (seen_of words old) images bodies taken is same has)

  -- what it leaves
  pub trim_rests : (side : Side) (generation : ℕ) (old new : Disks D) (bodies : List (List ℕ)) → IsTaken side (seen_of words old) → IsDiskImageOf (words.seen (mine side old)) bodies
      → generation_of (mine side (seen_of words old)) ≡ generation
      → IsGateOf (words.seen (mine (turned side) new)) (Some Closed) → IsSettled words (mine (turned side) new) → Unmoved words (other (turned side) old) (other (turned side) new)
      → Rests words new (record { side = side; generation = generation; other = Some Closed }) bodies
  trim_rests First generation old new bodies taken is generation_is gate only stays = record {
    image = subst (λ (xs : List ℕ). IsDiskImageOf xs bodies) (sym stays.seen) is;
    described = record {
      is_taken = closed_taken First (seen_of words new) (subst HasOpenHead (sym stays.seen) taken.head) (λ open_head. gate.1 open_head.gate);
      generation_is = ap generation_of stays.seen ∙ generation_is;
      other_gate = gate;
    };
    only = (stays.only, only);
  }
  trim_rests Second generation old new bodies taken is generation_is gate only stays = record {
    image = subst (λ (xs : List ℕ). IsDiskImageOf xs bodies) (sym stays.seen) is;
    described = record {
      is_taken = closed_taken Second (seen_of words new) (subst HasOpenHead (sym stays.seen) taken.head) (λ open_head. gate.1 open_head.gate);
      generation_is = ap generation_of stays.seen ∙ generation_is;
      other_gate = gate;
    };
    only = (only, stays.only);
  }

  -- what belongs to the other side, by the turned one
  pub seen_other : (side : Side) (disks : Disks D) → words.seen (mine (turned side) disks) ≡ words.seen (other side disks)
  seen_other First disks = refl
  seen_other Second disks = refl

  pub seen_still : (side : Side) (disks : Disks D) → words.seen (other (turned side) disks) ≡ words.seen (mine side disks)
  seen_still First disks = refl
  seen_still Second disks = refl
