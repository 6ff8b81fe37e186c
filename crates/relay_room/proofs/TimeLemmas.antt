-- Time on a disk: what might have been left stays so, call after call.
use Rattle.std.proofs.Common.{ℕ, ◌≤◌, List, length, arith}
use Rattle.relay_disk.specs.Device.{DiskWords, Elapses}
use Rattle.relay_room.specs.Room.{HasHeld, Lasts}

module _ {D : Type 0} (words : DiskWords D) where
  -- no call yet
  pub begun : (disk : D) → Lasts words disk disk
  begun disk = record {
    later = omega arith;
    keeps = λ moment image by left. left;
  }

  -- a call more
  pub lasts_on : (old mid new : D) → Lasts words old mid → Elapses words mid new → Lasts words old new
  lasts_on old mid new run time = record {
    later = omega (arith, run.later, time.later);
    keeps = λ moment image by left. time.keeps moment image (omega (arith, by, run.later)) (run.keeps moment image by left);
  }

  -- one run after another
  pub lasts_twice : (old mid new : D) → Lasts words old mid → Lasts words mid new → Lasts words old new
  lasts_twice old mid new run time = record {
    later = omega (arith, run.later, time.later);
    keeps = λ moment image by left. time.keeps moment image (omega (arith, by, run.later)) (run.keeps moment image by left);
  }

  -- What a disk holds at a moment between two others might have been left since the first.
  pub held_since : (old mid new : D) (room : ℕ) → Lasts words old mid → Lasts words mid new → room ≤ length (words.seen mid)
      → ((disk : D) → words.may_leave disk (words.seen disk))
      → ((disk : D) (since : ℕ) (image : List ℕ) → since ≤ words.moment disk → words.may_leave disk image → words.left_since disk since image)
      → HasHeld words old new room
  held_since old mid new room run time long sees counts = record {
    image = words.seen mid;
    left = time.keeps (words.moment old) (words.seen mid) run.later
        (counts mid (words.moment old) (words.seen mid) run.later (sees mid));
    long = long;
  }
